pub mod First
mod Enclosed
mod Finished
mod Systems
mod Promised
