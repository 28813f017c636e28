pub mod Sorting
pub mod Orders
pub mod NumberLemmas
pub mod Tables
pub mod Natural
