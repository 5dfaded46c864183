pub mod Joint
pub mod JointLaws
pub mod JointFollows
pub mod JointValid
