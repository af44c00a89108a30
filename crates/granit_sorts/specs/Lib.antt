pub mod SortViews
