-- chunks read one after another, and their frames
pub mod Reading
-- what a framer of TC frames has taken
pub mod Tc
-- what a framer of TM frames has taken
pub mod Tm
