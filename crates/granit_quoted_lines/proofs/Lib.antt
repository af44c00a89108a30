pub mod QuotedLines
