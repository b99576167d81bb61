pub mod Reply
pub mod RoundTrip
