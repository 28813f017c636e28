pub mod FunctionParts
pub mod CalleeParts
pub mod CallParts
