pub mod CutSaid
pub mod LayoutSaid
pub mod QuotedGapSaid
pub mod TabRows
pub mod TouchingSaid
