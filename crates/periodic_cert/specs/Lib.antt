pub mod PowerAnswers
