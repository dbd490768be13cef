pub mod InForm
pub mod Numbers
pub mod Ranges
mod Rows
