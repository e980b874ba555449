-- Worked recordings and their normal forms, computed from the definitions, so that a wrong definition
-- doesn't check. Frames have 32 octets, the spacecraft is 1.
use Rattle.std.proofs.Common.{ℕ, true, List, [], ◌∷◌, ◌++◌, replicate, refl}
use Prim.Native.String.{String}
use Rattle.sl_fields.specs.Fecf.{fecf_of, register_of}
use Rattle.sl_packet.specs.IdlePacket.{idle_packet}
use Rattle.sl_engine.specs.Link.Managed.{Parameters}
use Rattle.sl_engine.specs.Kind.Tm.{tm_counts}
use Rattle.sl_engine.specs.Normalise.Tm.{tm_form_of, tm_normal_form}
use Rattle.sl_engine.proofs.facts.Rows.{Have, hex, tm, none}

-- a packet of ten octets, and it with an idle packet that fills a data field
abbrev pub ten : List ℕ
ten = hex "0001 c000 0003 aabbccdd"

abbrev ten_filled : List ℕ
ten_filled = ten ++ hex "07ff c000 0009" ++ replicate 10 0

-- a packet of twenty-three octets
abbrev pub twenty_three : List ℕ
twenty_three = hex "0002 c005 0010" ++ replicate 17 0x11

-- a frame of virtual channel 0 with these counts and this data field status, and an idle one
abbrev pub framed : ℕ → ℕ → String → List ℕ → List ℕ
framed mc vcc status octets = hex "0010" ++ mc ∷ vcc ∷ hex status ++ octets

abbrev pub idle : ℕ → List ℕ
idle vcc = framed vcc vcc "1ffe" (replicate 26 0x55)

-- a frame of twenty-three octets and the first three octets of a packet, and a data field with the other
-- seven, a packet and an idle packet
abbrev pub begun_at : ℕ → List ℕ
begun_at vcc = framed vcc vcc "1800" (twenty_three ++ hex "0003c0")

abbrev pub begun : List ℕ
begun = begun_at 0

abbrev pub ended : List ℕ
ended = hex "00 0003 01020304" ++ ten ++ hex "07ff c000 0002 000000"

abbrev pub one_packet : List ℕ
one_packet = framed 0 0 "1800" ten_filled

-- normal form of the packets of twenty-three and ten octets
abbrev two_packets : List ℕ
two_packets = framed 0 0 "1800" (twenty_three ++ hex "0001c0") ++ framed 1 1 "1807" (hex "00 0003 aabbccdd 07ff c000 000c" ++ replicate 13 0)

-- the packet of twenty-three octets alone, with an idle packet of twenty-nine, since three octets are none
abbrev wide_first : List ℕ
wide_first = framed 0 0 "1800" (twenty_three ++ hex "07ffc0")

abbrev pub wide_filling : List ℕ
wide_filling = wide_first ++ framed 1 1 "1fff" (hex "00 0016" ++ replicate 23 0)

abbrev pub in_three_frames : List ℕ
in_three_frames = begun ++ idle 1 ++ framed 2 2 "1807" ended

abbrev twice : List ℕ
twice =
    framed 0 0 "1800" (twenty_three ++ hex "0002c0") ++ framed 1 1 "1814" (hex "05 0010" ++ replicate 17 0x11 ++ hex "07ff c000 0019")
    ++ framed 2 2 "1fff" (replicate 26 0)

-- a packet that fills a data field
abbrev pub full_field : List ℕ
full_field = framed 0 0 "1800" (hex "0002 c006 0013" ++ replicate 20 0x22)

-- a packet on virtual channel 1 and then on 0, and the other way round
abbrev pub two_channels : List ℕ
two_channels = hex "0012 0000 1800" ++ ten_filled ++ framed 1 0 "1800" ten_filled

abbrev two_channels_normal : List ℕ
two_channels_normal = one_packet ++ hex "0012 0100 1800" ++ ten_filled

abbrev pub three_copies : List ℕ
three_copies = one_packet ++ one_packet ++ one_packet ++ hex "0010 0000"

abbrev three_copies_normal : List ℕ
three_copies_normal = framed 0 0 "1800" (ten ++ ten ++ hex "0001 c000 0003") ++ framed 1 1 "1804" (hex "aabbccdd 07ff c000 000f" ++ replicate 16 0)

-- a data field with the other octets of a packet of twenty-nine
abbrev pub covered : List ℕ
covered = hex "00 0016" ++ replicate 23 0x22

-- it goes to the end of the second frame, in which no packet starts
abbrev covering : List ℕ
covering = begun ++ framed 1 1 "1fff" covered

-- with an operational control field, and with error control
abbrev pub controlled : String → List ℕ
controlled word = hex "0011 0000 1800" ++ ten ++ hex "07ff c000 0005" ++ replicate 6 0 ++ hex word

abbrev pub tm_with_fecf : Parameters
tm_with_fecf = record tm { tm_length = 34; tm_fecf = true }

abbrev pub guarded : List ℕ
guarded = one_packet ++ hex "5e0c"

-- an octet of its packet is damaged
abbrev pub damaged : List ℕ
damaged = framed 0 0 "1800" (hex "0001 c000 0003 abbbccdd 07ff c000 0009" ++ replicate 10 0 ++ hex "5e0c")

pub normal_forms :
    Have tm_normal_form (
    (tm, [], [])
    ∷ (tm, one_packet, one_packet)
    -- counts and idle packets don't matter, nor do the sequence flags of an idle packet
    ∷ (tm, framed 0x4D 0xC8 "1800" (ten ++ hex "07ff 0007 0009" ++ replicate 10 0x55), one_packet)
    ∷ (tm, wide_filling, wide_filling)
    ∷ (tm, wide_first, wide_filling)
    ∷ (tm, full_field, full_field)
    -- a gap breaks the packet that runs through it
    ∷ (tm, begun ++ framed 2 2 "1807" ended, two_packets)
    -- an idle frame doesn't
    ∷ (tm, in_three_frames, begun ++ framed 1 1 "1807" ended)
    -- a wrong pointer
    ∷ (tm, begun ++ framed 1 1 "1811" ended, wide_filling)
    ∷ (tm, covering, covering)
    -- but where the pointer says that a packet starts at 0, it isn't delivered,
    ∷ (tm, begun ++ framed 1 1 "1800" covered, wide_filling)
    -- nor where it would end within a data field in which no packet starts
    ∷ (tm, begun ++ framed 1 1 "1fff" ended, wide_filling)
    -- count 0 is the next one after 255, and 255 isn't
    ∷ (tm, begun_at 255 ++ framed 0 0 "1807" ended, begun ++ framed 1 1 "1807" ended)
    ∷ (tm, begun_at 255 ++ framed 255 255 "1807" ended, two_packets)
    -- a frame that comes twice, and a remainder
    ∷ (tm, begun ++ begun, twice)
    ∷ (tm, three_copies, three_copies_normal)
    -- an opaque frame, and one whose data field goes on with no packet
    ∷ (tm, begun ++ framed 1 1 "9800" (replicate 26 0) ++ framed 2 2 "1807" ended, two_packets)
    ∷ (tm, framed 0 0 "1800" (ten ++ replicate 16 0x20), one_packet)
    ∷ (tm, two_channels, two_channels_normal)
    -- a CLCW and another report are left out, as is error control, and a frame with a wrong field is skipped
    ∷ (tm, controlled "01002805", one_packet)
    ∷ (tm, controlled "80000000", one_packet)
    ∷ (tm_with_fecf, damaged ++ guarded, guarded)
    ∷ []
    )
unfolding idle_packet fecf_of register_of tm_form_of
normal_forms = refl

-- a packet that ends in a later frame counts as one that doesn't
pub counts :
    Have tm_counts (
    (tm, in_three_frames, record none { octets = 96; frames = 3; packets = 3; idle = 1 })
    ∷ (tm, begun ++ framed 2 2 "1807" ended, record none { octets = 64; frames = 2; packets = 2; idle = 1 })
    ∷ (tm, begun ++ framed 1 1 "1811" ended, record none { octets = 64; frames = 2; packets = 1; idle = 1 })
    ∷ (tm, three_copies, record none { octets = 100; frames = 3; rest = 4; packets = 3; idle = 3 })
    ∷ []
    )
counts = refl
