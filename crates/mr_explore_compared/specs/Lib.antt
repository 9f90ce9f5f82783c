-- What is compared of two runs. All that is public is said by mr_explore_likeness; inner has words for private contracts.
pub mod inner
