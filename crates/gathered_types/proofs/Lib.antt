mod Finding
mod Defining
mod Walking
mod Ending
