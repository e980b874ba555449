-- Worked examples, computed from the definitions.
pub mod Anomaly
pub mod Incomplete
pub mod Loss
pub mod LossEdge
pub mod Merge
pub mod Order
