pub mod ByForm
pub mod FirstMet
