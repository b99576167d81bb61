pub mod Offer
pub mod Eligible
pub mod Signal
pub mod Packet
