-- The buffer that lines wait in until they are written, and the room in it.
use Rattle.std.specs.Prelude.{ℕ, ◌+◌, ◌≤◌, List, length}

-- the size of the buffer
abbrev pub lines_size : ℕ
lines_size = 0x10000

-- the octets that are kept free before lines are added
abbrev pub frame_room : ℕ
frame_room = 1024

-- after these lines there is room for some octets more
abbrev pub HasRoomFor : ℕ → List ℕ → Type 0
HasRoomFor octets lines = length lines + octets ≤ lines_size

-- after these lines there is room for the lines of one frame more
abbrev pub HasRoom : List ℕ → Type 0
HasRoom lines = HasRoomFor frame_room lines

-- ---- How long the parts of a line are at most, in octets: a part has no more. Room for the octets of a
-- packet is made as they are added.

-- a line that isn't a packet's; frame_room is enough for five of a frame, 1000 octets
abbrev pub line_width : ℕ
line_width = 200

-- what a line says of a frame after the offset, or of a packet between its channel and its octets; a line
-- is a number, such a text and the line's end
abbrev pub text_width : ℕ
text_width = 179

-- the operational control field or the content of a frame; the header of a packet
abbrev pub part_width : ℕ
part_width = 100

-- fields: of a CLCW, of a unit, the last ones of a header; a packet's channel; a verdict and the CLCW after it
abbrev pub fields_width : ℕ
fields_width = 60

-- some words: the frame counts or the class of a frame, a verdict and the word after it, the size of a packet
abbrev pub words_width : ℕ
words_width = 30

-- a number, and words that are no longer: a verdict, a reason to skip, sequence flags
abbrev pub number_width : ℕ
number_width = 20

-- the name of an event that `check` lists, and the space before it
abbrev pub event_width : ℕ
event_width = 8
