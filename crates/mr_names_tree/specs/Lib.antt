-- The directories and files of a namespace by their paths. Read Node, Content and Held first, then Listing and Walk.
pub mod Content
pub mod Held
pub mod Listing
pub mod Node
pub mod Walk
pub mod inner
