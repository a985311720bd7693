pub mod Digits
pub mod Marks
pub mod Places
pub mod Signs
pub mod Sizes
pub mod Undo
