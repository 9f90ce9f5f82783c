-- A cluster whose namespace lacks a fence, or bars: what differs (Lacking), and what still holds (Weaker).
pub mod Lacking
pub mod Weaker
