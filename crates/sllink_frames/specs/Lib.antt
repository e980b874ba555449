pub mod Run
pub mod CommandLine
