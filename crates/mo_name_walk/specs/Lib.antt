pub mod PartNames
