pub mod PairsAnswered
pub mod PairsEven
pub mod PairsInTrees
pub mod Placing
