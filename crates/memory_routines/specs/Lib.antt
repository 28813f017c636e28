pub mod Heaps
pub mod Allocation
pub mod Copying
pub mod Texts
pub mod Order
pub mod Numerals
pub mod Laws
pub mod Built
