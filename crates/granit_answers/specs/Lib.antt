pub mod CommentStands
pub mod FlowLimit
pub mod Prefix
pub mod CutShort
