-- what becomes of a frame, and the frames that a list of fates takes
pub mod Fates
-- how many frames have which fate
pub mod Counts
-- what a merge is
pub mod Merge
-- what private functions hold
pub mod Tally
pub mod Told
pub mod Twice
pub use Rattle.sl_packet.specs.Sublist
pub use Rattle.sl_tmframe.specs.TmDelimited
pub use Rattle.sl_tmframe.specs.TmFrame
pub use Rattle.sl_tmflow.specs.Loss
