pub mod TableLaws
pub mod StepLaws
