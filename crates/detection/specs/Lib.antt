pub mod Detection
pub mod DetectionLaws
pub mod DetectionFollows
pub mod DetectionValid
