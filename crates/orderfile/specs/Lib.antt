pub mod Format
pub mod Faults
pub mod Records
pub mod Readers
pub mod Loading
pub mod Saving
