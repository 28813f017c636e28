pub mod Sequences
pub mod Findings
mod SpanRolls
mod NameRolls
mod FoundRolls
mod TokenRolls
mod Trees
mod PatternSpanRolls
mod PatternNameRolls
mod PatternTokenRolls
mod PatternTrees
pub mod Patterns
pub mod Facts
pub mod Ordering
mod Forms
mod Items
pub mod DeclarationLists
pub mod Expressions
pub mod Layers
