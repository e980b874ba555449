-- The values of a link.
pub use Rattle.sl_io.specs.Counted
pub use Rattle.sl_io.specs.Fault
pub mod Managed
pub mod ManagedModel
pub mod Totals
pub mod TotalsModel
