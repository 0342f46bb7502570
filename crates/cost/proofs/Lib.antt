pub mod Append
pub mod Exact
pub mod Order
pub mod Weights
pub mod Readings
