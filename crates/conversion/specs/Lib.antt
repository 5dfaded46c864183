pub mod Conversion
pub mod WidthsLaws
pub mod ImageAsLaws
pub mod Promises
pub mod ConversionBench
