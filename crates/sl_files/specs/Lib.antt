-- how a name stands in a line
pub mod Shown
-- why words are refused, in one line
pub mod Line
