mod Growing
mod Collected
mod Made
