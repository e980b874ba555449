pub mod Counted
pub mod Fault
pub mod Streams
pub use Rattle.sl_packet.specs.Sink
