pub mod Rows
pub mod TextComments
