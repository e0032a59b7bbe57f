pub mod Keyword
pub mod Grammar
pub mod ScriptWord
pub mod LineFaults
pub mod Script
pub mod Answers
pub mod Limits
