pub mod Image
pub mod SectionsLaws
pub mod PassedLaws
pub mod ImageLaws
pub mod ImageFollows
