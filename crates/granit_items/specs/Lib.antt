pub mod ItemViews
