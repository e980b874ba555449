-- The two kinds of frames.

-- lists by channel, joined and counted
pub mod Channels
-- frames of either kind, counted and processed in turn
pub mod Delivery
-- what TC frames deliver
pub mod Tc
-- what TM frames deliver
pub mod Tm
