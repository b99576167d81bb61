pub mod Decide
