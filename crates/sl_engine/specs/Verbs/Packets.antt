-- What `packets` lists.
pub mod Line
pub mod Printed
pub mod Tc
pub mod Tm
