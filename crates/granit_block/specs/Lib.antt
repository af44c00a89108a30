pub mod BlockCode
