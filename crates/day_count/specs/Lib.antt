pub mod Days
pub mod DayBench
pub mod DayBenchProof
pub mod Count
pub mod CountLaws
