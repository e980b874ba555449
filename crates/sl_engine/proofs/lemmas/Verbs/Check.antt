-- anomalies of TC frames have few lines
pub mod FewTc
-- anomalies of TM frames have few lines
pub mod FewTm
-- the lines of a frame, and those at the end
pub mod Lines
