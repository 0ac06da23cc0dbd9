-- Document 01, 'The record': laws of reading and writing, and that each undoes the other. Assumes nothing.
pub mod Reading
pub mod Writing
pub mod Records
pub mod ReadPart
pub mod ReadWritten
pub mod ChecksBack
pub mod ReadBack
pub mod Performed
pub mod SecondForm
pub mod RoundTrip
pub mod Before
pub mod Relay
