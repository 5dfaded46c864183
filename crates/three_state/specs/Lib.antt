pub mod ThreeState
pub mod ThreeStep
pub mod ThreeStepValid
pub mod ThreeFed
