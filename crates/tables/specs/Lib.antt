pub mod PairTables
pub mod Said
pub mod Flaws
pub mod Lent
pub mod PairRows
pub mod Together
pub mod Sound
