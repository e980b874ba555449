-- The normal form.
-- packets that are divided into data fields
pub mod Cut
-- their frames deliver them again
pub mod CutDelivery
-- it is read as a recording
pub mod Delivery
-- the packets that fill the next data field
pub mod Field
-- the pointer to the first packet start of a field
pub mod FieldStart
-- the filling up to a whole data field
pub mod Fill
-- frames of whole data fields, as the code makes them
pub mod Frames
-- its octets that are still to come
pub mod Left
-- the order of its frames, and their counts
pub mod Order
-- the frames that a packet completes
pub mod Pieces
