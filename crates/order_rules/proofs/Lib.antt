pub mod Declarations
pub mod Entering
pub mod Declared
pub mod Lets
pub mod VariableParts
pub mod ObjectParts
pub mod Expressions
pub mod InOrder
