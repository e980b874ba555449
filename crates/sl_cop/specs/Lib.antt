pub mod Accepted
pub mod Farm
pub mod FarmClcw
pub mod FarmModel
pub mod Reordered
pub mod Starts
pub mod StartsModel
pub use Rattle.sl_fields.specs.Clcw
