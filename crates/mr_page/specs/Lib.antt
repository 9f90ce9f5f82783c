-- A page of a run: Page. What follows of its lines: Laws.
pub mod Page
pub mod Laws
