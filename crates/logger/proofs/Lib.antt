pub mod CallsLaws
