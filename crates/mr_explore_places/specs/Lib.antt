-- What a search over the places of runs does. Places is where runs lead, Covering which places stand for others, Keeping what is kept, Levels what is left, Fronts which runs go on side by side, Going what
-- is answered where runs go on, Searching what a search has done, State how its callers see it, and Laws what is known where it has found all.
pub mod Places
pub mod Covering
pub mod Keeping
pub mod Levels
pub mod Fronts
pub mod Going
pub mod Searching
pub mod State
pub mod Laws
