pub mod PropertyViews
