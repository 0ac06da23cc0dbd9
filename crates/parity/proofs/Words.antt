-- Document 01, 'Words, peeling': laws of lists of bytes, verifying, extending, stopping sets, the residue and peeling;
-- of document 02's determining and small stopping sets; and, ours, of packets. Assumes nothing.
pub mod Sets
pub mod Extend
pub mod Residue
pub mod Peel
pub mod Steps
pub mod Agreeing
pub mod Bytes
pub mod Verifying
pub mod Peeling
pub mod Determine
pub mod Promised
pub mod Determining
pub mod Solving
pub mod StoppingSets
pub mod SetsListed
pub mod Lanes
pub mod Packets
pub mod PacketsMended
