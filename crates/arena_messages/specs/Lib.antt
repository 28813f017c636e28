pub mod Inside
pub mod Goes
pub mod Waiting
pub mod Asking
