pub mod Made
pub mod Laws
pub mod Objects
pub mod Classes
