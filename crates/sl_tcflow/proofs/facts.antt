-- Worked examples, computed from the definitions.
pub mod Anomaly
pub mod Order
pub mod Plain
pub mod Reception
pub mod Reordered
