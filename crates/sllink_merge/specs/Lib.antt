-- a recording that is read whole
pub mod Reading
-- what is written of recordings, and the status
pub mod Run
