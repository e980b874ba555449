pub mod Answer
pub mod Farm
pub mod Headers
pub mod Link
pub mod Recording
