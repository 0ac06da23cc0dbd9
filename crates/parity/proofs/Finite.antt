-- The vocabulary: laws of Booleans, sums, counts, searches and lists. Assumes nothing.
pub mod Bools
pub mod Sums
pub mod Firsts
pub mod Positions
pub mod Outermost
pub mod Lists
