pub mod Columns
pub mod Laws
pub mod Kind
pub mod Readings
pub mod Weights
