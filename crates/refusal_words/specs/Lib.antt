-- What causes mean, refusals in lines, and the lines that several programs print.
pub mod Words
pub mod Refusing
pub mod Lines
