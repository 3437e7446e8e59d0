pub mod TextLists
pub mod Decoded
pub mod Recoded
pub mod Boxes
pub mod Hashing
pub mod Starts
