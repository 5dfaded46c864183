pub mod ThreeStepLaws
pub mod ThreeStepFollows
pub mod ThreeFedLaws
