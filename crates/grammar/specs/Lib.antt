pub mod Rows
pub mod Spelling
pub mod Faults
pub mod Families
pub mod Sizes
pub mod Table
pub mod Feeds
pub mod Laws
