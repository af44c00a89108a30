pub mod StreamReads
