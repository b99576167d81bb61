pub mod Offer
pub mod Signal
pub mod Kind
pub mod Reply
pub mod RoundTrip
