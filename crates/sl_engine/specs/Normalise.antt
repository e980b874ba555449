-- What `normalise` writes.
pub mod Form
pub mod Tc
pub mod Tm
