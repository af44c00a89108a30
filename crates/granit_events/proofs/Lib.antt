pub mod AnswerLemmas
pub mod CountLemmas
pub mod Known
pub mod RunLemmas
pub mod UnderstoodLemmas
