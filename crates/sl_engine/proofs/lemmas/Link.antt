-- what follows from what a call answers
pub mod Answers
-- why handing over stopped, as the engine's fault
pub mod Fault
-- parameters that aren't refused
pub mod Managed
