pub mod Size
pub mod Numbers
pub mod Refusals
pub mod Needs
pub mod Pairs
pub mod Opening
pub mod Settling
pub mod Walking
