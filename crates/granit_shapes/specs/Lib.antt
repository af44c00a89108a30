pub mod EvenNodes
pub mod Placeless
pub mod Turns
