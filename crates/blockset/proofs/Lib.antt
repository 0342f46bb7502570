pub mod Bits
pub mod Members
pub mod Holding
pub mod Removing
