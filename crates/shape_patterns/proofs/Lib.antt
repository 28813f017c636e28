mod Counting
mod Listing
mod Sound
mod Views
