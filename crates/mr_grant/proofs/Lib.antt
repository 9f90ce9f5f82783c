pub mod GrantLaws
pub mod Lists
pub mod Same
