pub mod Nodes
pub mod Soundness
pub mod Performed
pub mod Opened
pub mod Marking
pub mod Turning
pub mod Forks
pub mod Ranges
