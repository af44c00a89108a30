pub mod ChainRows
pub mod Chains
