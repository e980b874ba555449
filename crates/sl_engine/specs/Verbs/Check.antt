-- What `check` lists.
pub mod Checking
pub mod Lines
pub mod Tc
pub mod Tm
