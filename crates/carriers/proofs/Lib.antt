pub mod Effects
pub mod Drawing
