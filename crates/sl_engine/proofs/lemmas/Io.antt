-- digits of numbers, and tables of them
pub mod Digits
-- octets in hexadecimal
pub mod Hexadecimal
-- the buffer of lines, where texts are added in place
pub mod Lines
-- faults, reads, writes, and texts added to an output
pub mod Streams
-- an offset in front of a line
pub mod Words
