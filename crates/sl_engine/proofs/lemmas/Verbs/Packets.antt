-- the bits of a packet's header
pub mod Bits
-- what a sink that prints packets has written
pub mod Printer
-- the lines of a frame's packets
pub mod Printed
