-- Two recordings that are compared.
pub mod Ends
pub mod Signs
pub mod Summary
pub mod Text
pub mod Turns
pub mod Words
