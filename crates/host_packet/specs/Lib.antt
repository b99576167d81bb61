pub mod Packet
pub mod Answer
pub mod Made
