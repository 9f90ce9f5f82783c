-- What a master that starts does with the work of those before it: public clauses cite Plan alone.
pub mod Plan
pub mod inner
