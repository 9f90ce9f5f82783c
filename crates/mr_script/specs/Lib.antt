-- Scripts of a run, and how they are read. Read Lines, Verb, Names, Words, Expected and Script in this order, then ScriptFault and Laws.
pub mod Expected
pub mod Laws
pub mod Lines
pub mod Names
pub mod Script
pub mod ScriptFault
pub mod Verb
pub mod Words
