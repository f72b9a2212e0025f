-- What a command answers whose files are told (Answers).
pub mod Answers
