pub mod Fit
pub mod Exchange
pub mod Search
pub mod Improving
pub mod Answers
pub mod Numbers
