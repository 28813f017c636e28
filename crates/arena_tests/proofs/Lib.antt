pub mod NoTypes
