mod Cases
mod Interning
mod SmallLawful
