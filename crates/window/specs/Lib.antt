pub mod Window
pub mod WindowLaws
pub mod WindowFollows
pub mod WindowValid
pub mod Range
pub mod RangeLaws
pub mod Places
