-- The words of a line and the forms that it can have, what the names of calls and tables mean, how
-- a call is handed its tables, what a line does to a sheet, which sizes a word can tell, answers
-- and complaints in words, and what the program leaves.
pub mod Words
pub mod Forms
pub mod Lines
pub mod Complaining
pub mod Naming
pub mod Handing
pub mod Moving
pub mod Conversing
pub mod Sizing
pub mod Answering
pub mod Program
