pub mod HalfEnds
