pub mod Forms
pub mod Frames
