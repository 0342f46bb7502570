mod NewTables
mod WordSteps
mod Places
mod Talking
