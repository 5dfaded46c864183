pub mod FeedLaws
pub mod ThreeSettled
