pub mod Column
pub mod Replies
pub mod Lists
pub mod Arguments
pub mod ArgumentLists
pub mod Laws
pub mod Rows
