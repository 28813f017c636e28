pub mod Left
pub mod Shown
pub mod Views
pub use Rattle.canister_execution.specs.Executed
