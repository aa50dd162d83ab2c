pub mod Signs
pub mod Runs
pub mod Stream
pub mod Reading
pub mod Faults
