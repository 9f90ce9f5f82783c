-- Two runs whose worlds are alike: what that is (Masters, Alike), which packets they have before them (Packets), and what follows (Laws).
pub mod Masters
pub mod Alike
pub mod Packets
pub mod Laws
