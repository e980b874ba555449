-- What the laws say.
pub mod Anomaly
pub mod Listed
pub mod Lost
pub mod Separation
