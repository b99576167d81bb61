pub mod Check
pub mod Numbers
pub mod Host
