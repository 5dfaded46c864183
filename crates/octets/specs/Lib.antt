pub mod Bytes
pub mod BytesLaws
pub mod RowLaws
pub mod PartsLaws
