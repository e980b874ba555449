-- ---- the frame error control field, in the order of reading

-- the register of the long division
pub mod Division
-- sums of registers and of messages, without carries
pub mod FecfSums
-- the long division finds the only remainder
pub mod RemainderLemmas
-- the table of words, and the register after an octet, which is all for a short message
pub mod FecfWordLemmas
-- what octets in a message add to its remainder
pub mod FecfParts
-- why runs of octets may move
pub mod FecfRecurrence
-- what slices of sixteen octets add to a remainder
pub mod FecfSlices
-- a message whose slices are added to later ones
pub mod FecfFolds
-- four slices to two, and two to one
pub mod FecfHalves
-- octets as the bits of a number
pub mod FecfNumbers
-- the last slice, halved as numbers until two octets are left
pub mod FecfLastTwo
-- octets that end with their error control field
pub mod FecfLemmas
-- their own field, which is 0
pub mod FecfSyndrome
-- known error control fields
pub mod FecfFacts
-- ---- headers, and what several of these files share

-- the layout of a CLCW
pub mod ClcwLemmas
-- numbers of one octet, read from decimal text
pub mod DecimalLemmas
-- flags as fields of one bit
pub mod Flags
-- known headers
pub mod HeaderFacts
-- headers as fields of given widths
pub mod HeaderLayout
-- octets and their number in base 256
pub mod Octets
-- the layout of a packet's header
pub mod PacketHeaderLemmas
-- fields packed into a number, and taken out again
pub mod Packing
-- the layout of a segment header
pub mod SegmentHeaderLemmas
-- the layout of a TC header
pub mod TcHeaderLemmas
-- the layout of a TM header
pub mod TmHeaderLemmas
-- numbers added without carries, in any order
pub mod Xor
-- ---- for the crates above

-- texts that a separator joins, and how they are split (`DecimalLemmas` has `HasNo` of it)
pub mod JoinedLemmas
-- a property of each element, filters, one more element
pub mod ListLemmas
-- numbers that never fall, and some that do
pub mod NeverFallFacts
-- numbers that never fall
pub mod NeverFallLemmas
-- tests, and the properties that they decide
pub mod Tells
