pub mod FormLaws
pub mod StepLaws
