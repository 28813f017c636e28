mod Defined
mod Bound
