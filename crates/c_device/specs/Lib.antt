pub mod Numbers
pub mod Device
