-- The normal form.
-- its frames carry each packet in a series of its own
pub mod Carried
-- it delivers the packets that it was made from
pub mod Delivery
-- its frames are read back and accepted
pub mod Frames
-- its octets that are still to come
pub mod Left
-- the order of its frames
pub mod Order
-- channels without segment headers
pub mod Plain
-- the frames of one packet, added one after another
pub mod Pushed
