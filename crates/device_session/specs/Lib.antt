pub mod Stage
pub mod Owed
pub mod Effect
pub mod Sound
