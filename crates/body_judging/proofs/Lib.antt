pub mod Bodily
