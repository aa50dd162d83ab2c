pub mod Trees
pub mod Grammar
pub mod Laws
pub mod Picks
pub mod Machine
pub mod Parsing
pub mod Roles
