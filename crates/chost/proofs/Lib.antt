pub mod Buffers
pub mod Stated
