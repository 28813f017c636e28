pub mod TypesAt
