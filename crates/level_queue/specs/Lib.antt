-- Answers, MinAnswers: what the calls' answers stand for. Updatable: what the inner update may rely on. Assumes nothing.
pub mod Answers
pub mod MinAnswers
pub mod Updatable
