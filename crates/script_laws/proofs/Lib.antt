pub mod Good
pub mod OneFault
