pub mod Masks
pub mod Fixed
pub mod Four
pub mod Numbers
pub mod Dead
pub mod Available
pub mod MaskLaws
pub mod FixedLaws
