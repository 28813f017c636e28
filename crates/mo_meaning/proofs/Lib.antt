pub mod Settled
pub mod Growth
pub mod Bounds
pub mod Paid
pub mod Payment
pub mod Runs
