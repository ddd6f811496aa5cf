pub mod AnswerLaws
pub mod AnswerLines
