pub mod Region
pub mod Judge
