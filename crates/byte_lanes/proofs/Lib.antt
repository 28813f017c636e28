pub mod LineLemmas
pub mod MaskLemmas
pub mod PlaceLemmas
pub mod StoreLemmas
