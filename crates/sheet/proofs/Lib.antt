pub mod Needs
pub mod Pairs
pub mod Refused
pub mod Quoting
pub mod Totals
