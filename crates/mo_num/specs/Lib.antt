pub mod Leb
pub mod LebRead
pub mod Kinds
pub mod Arith
pub mod Crc
pub mod PrincipalText
