-- What `show` lists.
pub mod Shown
pub mod Tc
pub mod Tm
