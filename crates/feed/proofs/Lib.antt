pub mod HalfEnds
pub mod Walking
