pub mod ThreeFedAll
pub mod ThreeFedAllLaws
