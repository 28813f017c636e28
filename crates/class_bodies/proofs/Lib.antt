mod Fielded
mod Enclosed
mod Finished
