pub mod Layouts
pub mod Laid
pub mod Same
pub mod Tables
pub mod Parted
