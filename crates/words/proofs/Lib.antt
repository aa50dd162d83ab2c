pub mod Lexemes
pub mod Streams
pub mod Fetched
