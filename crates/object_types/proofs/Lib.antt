mod Adding
mod Viewed
