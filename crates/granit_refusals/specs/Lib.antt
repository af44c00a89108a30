pub mod BeforeTurn
