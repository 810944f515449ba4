-- Which year the program goes by.
pub mod YearNamed
