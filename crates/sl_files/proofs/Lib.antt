-- the line of a reason, as it is appended line by line
pub mod LineLemmas
-- what `write!` makes of a number with zeros before it
pub mod ShownLemmas
-- worked examples
mod Facts
