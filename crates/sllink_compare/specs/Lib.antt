-- the line of a question
pub mod Asking
-- what the words of the command line stand for
pub mod CommandLine
-- which question is asked
pub mod Questions
-- a run over two recordings
pub mod Run
-- the lines of totals, and texts in a row
pub mod Totals
-- the words of `check`
pub mod Words
