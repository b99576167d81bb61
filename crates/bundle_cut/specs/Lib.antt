pub mod Cut
pub mod Rule
