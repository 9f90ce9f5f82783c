-- The lines of a pipe as objects: Form.
pub mod Form
pub mod inner
