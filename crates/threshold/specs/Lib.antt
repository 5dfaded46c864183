pub mod Standing
pub mod StandingFollows
pub mod StandingValid
