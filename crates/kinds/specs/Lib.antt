pub mod Kinds
pub mod Effects
pub mod Room
