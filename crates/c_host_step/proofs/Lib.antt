pub mod Laws
pub mod Sessions
