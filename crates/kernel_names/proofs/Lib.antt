mod Collecting
mod Forms
