pub mod Names
pub mod Tables
pub mod Readers
pub mod Grammars
pub mod Law
pub mod Exact
pub mod Admissions
pub mod Spelled
