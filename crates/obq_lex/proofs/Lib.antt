pub mod Digits
pub mod Lexed
pub mod Nested
pub mod Rows
pub mod Spelled
pub mod Texted
