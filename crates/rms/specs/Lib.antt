pub mod Roots
pub mod Gather
pub mod CutLaws
pub mod GatherLaws
pub mod GatherFollows
