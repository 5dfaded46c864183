pub mod EachPart
pub mod Walking
