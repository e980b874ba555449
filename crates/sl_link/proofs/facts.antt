-- Worked examples, computed from the definitions.
pub mod Anomalies
pub mod CommandLine
