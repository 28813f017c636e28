pub mod ClosedWants
