pub mod MaskLaws
pub mod Walk
