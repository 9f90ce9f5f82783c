-- Ends that runs came to, each with the least of its runs. Table is what is known of all runs, Laws what holds of it, and Rows how a row is told.
-- Text and JsonLines are what is printed, and inner has words for private contracts.
pub mod JsonLines
pub mod Laws
pub mod Rows
pub mod Table
pub mod Text
pub mod inner
