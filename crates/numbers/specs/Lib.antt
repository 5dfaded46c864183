pub mod Notation
pub mod NotationLaws
pub mod Answers
pub mod AnswersLaws
pub mod Rules
pub mod Refusals
