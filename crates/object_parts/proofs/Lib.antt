pub mod FieldParts
pub mod WrittenFields
