pub mod Numbers
pub mod Opcodes
pub mod Trees
pub mod Grammar
pub mod Laws
pub mod Picks
pub mod Machine
