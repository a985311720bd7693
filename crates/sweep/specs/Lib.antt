pub mod Slots
pub mod Rounds
pub mod Solving
pub mod Valuing
pub mod Kept
pub mod Swept
