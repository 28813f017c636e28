mod Found
mod Enclosed
mod Ended
