mod Adding
mod Parted
