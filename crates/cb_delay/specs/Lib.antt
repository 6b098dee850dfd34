pub mod Rule
pub mod Message
pub mod Queue
pub mod Lists
pub mod Index
pub mod Laws
