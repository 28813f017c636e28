pub mod Lists
pub mod Ready
pub mod Fitting
pub mod Placed
pub mod Standing
