pub mod Characters
pub mod FirstMention
pub mod FlowText
pub mod Tree
pub mod TreeCode
pub mod TreeFalls
pub mod TreeView
pub mod WorkedTrees
