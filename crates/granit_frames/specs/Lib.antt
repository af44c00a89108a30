pub mod Outside
pub mod Refusing
pub mod StateViews
pub mod TopViews
pub mod Wanting
