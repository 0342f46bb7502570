-- What the words of a command ask for, and what a program leaves when it ends.
pub mod Asking
pub mod Ending
