-- The program: its command line, and what a run does.
pub mod Answer
pub mod CommandLine
pub mod Run
