pub mod Record
pub mod Parse
pub mod Walk
