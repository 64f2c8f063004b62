pub mod Layouts
pub mod Fitting
pub mod Views
pub mod GroupViews
pub mod Display
