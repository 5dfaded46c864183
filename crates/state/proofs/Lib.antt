pub mod StepLaws
pub mod StepFollows
pub mod StepValid
pub mod CallsLaws
pub mod ValidSettled
