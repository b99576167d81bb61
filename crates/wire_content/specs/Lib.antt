pub mod Content
pub mod Head
pub mod Reply
pub mod RoundTrip
