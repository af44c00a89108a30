pub mod TreeMachine
