pub mod GreedyLaws
pub mod GreatestLaws
pub mod GreedyFollows
pub mod CutterLaws
pub mod ProgressLaws
pub mod ToldLaws
pub mod AllFedLaws
pub mod ChunksLaws
