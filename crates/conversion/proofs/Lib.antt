pub mod RowsLaws
pub mod PlacesLaws
pub mod RecordsLaws
pub mod ImageConvertedLaws
pub mod PromisesProof
pub mod ConversionBenchProof
