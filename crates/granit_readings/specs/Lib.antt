pub mod ReadAsTrees
