pub mod Words
pub mod Runs
pub mod Actions
pub mod Scheme
pub mod Sample
pub mod Theorems
