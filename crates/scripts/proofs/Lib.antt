pub mod Accepted
pub mod Checked
pub mod Jumped
pub mod Opened
pub mod Resolved
pub mod Named
pub mod Seen
