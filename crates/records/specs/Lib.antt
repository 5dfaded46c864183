pub mod Due
pub mod DueLaws
pub mod ListLaws
