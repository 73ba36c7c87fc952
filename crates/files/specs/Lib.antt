pub mod Expressions
pub mod Statements
pub mod KindLists
pub mod Bodies
pub mod Behaviours
pub mod Files
pub mod Summaries
pub mod Answers
