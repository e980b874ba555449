-- Lines of a listing, the buffer that they wait in, and what is read and written.
pub mod Digits
pub mod Lines
pub mod Output
pub use Rattle.sl_io.specs.Streams
pub mod Words
