-- Worked recordings and their listings, computed from the definitions, so that a wrong definition doesn't
-- check. TM frames have 32 octets and TC frames 16 at most, the spacecraft is 1.
use Rattle.std.proofs.Common.{ℕ, ◌+◌, ◌*◌, true, List, [], ◌∷◌, ◌++◌, length, replicate, codes, refl}
use Prim.Native.String.{String}
use Rattle.std.specs.Fmt.{digits}
use Rattle.std.specs.List.{slice_set}
use Rattle.hex.specs.Hex.{encode_with}
use Rattle.sl_fields.specs.Fecf.{fecf_of, register_of}
use Rattle.sl_engine.specs.Link.Managed.{Parameters}
use Rattle.sl_engine.specs.Verbs.Show.Tc.{show_tc_text, show_tc_counts}
use Rattle.sl_engine.specs.Verbs.Show.Tm.{show_tm_text, show_tm_counts}
use Rattle.sl_engine.proofs.facts.NormalForms.{one_packet, controlled, tm_with_fecf, damaged, guarded}
use Rattle.sl_engine.proofs.facts.Rows.{Have, hex, tm, tc, none}

-- ---- TM frames

abbrev with_rest : List ℕ
with_rest = one_packet ++ hex "0010 0000 1800 0001"

-- a frame with this header, and one like it of another spacecraft, and of another version
abbrev headed : String → List ℕ
headed header = hex header ++ replicate 26 0x55

abbrev not_read : List ℕ
not_read = headed "0020 0000 1800" ++ headed "4020 0000 1800"

-- no packet starts, idle, four that are opaque, and a packet starts at the last octet
abbrev classes : List ℕ
classes =
    headed "0010 4dc8 1fff" ++ headed "001e 0101 1ffe" ++ headed "0010 0101 9800" ++ headed "0010 0101 5800" ++ headed "0010 0202 181a"
    ++ headed "0010 0202 1819"

pub tm_listed :
    Have show_tm_text (
    (tm, [], [])
    ∷ (tm, one_packet, codes "0 frame vc 0 mc 0 vcc 0 first 0\n")
    ∷ (tm, with_rest, codes "0 frame vc 0 mc 0 vcc 0 first 0\n32 rest 8\n")
    -- an operational control field: a CLCW, and another report
    ∷ (tm, controlled "01002805", codes "0 frame vc 0 mc 0 vcc 0 first 0 clcw 01002805 vc 0 lockout 1 wait 0 retransmit 1 farmb 0 vr 5\n")
    ∷ (tm, controlled "80000000", codes "0 frame vc 0 mc 0 vcc 0 first 0 ocf 80000000\n")
    ∷ (tm, classes, codes "0 frame vc 0 mc 77 vcc 200 none\n32 frame vc 7 mc 1 vcc 1 idle\n64 frame vc 0 mc 1 vcc 1 opaque\n96 frame vc 0 mc 1 vcc 1 opaque\n128 frame vc 0 mc 2 vcc 2 opaque\n160 frame vc 0 mc 2 vcc 2 first 25\n")
    -- opaque comes before idle
    ∷ (tm, headed "0010 0101 9ffe", codes "0 frame vc 0 mc 1 vcc 1 opaque\n")
    ∷ (tm, not_read, codes "0 skip spacecraft\n32 skip version\n")
    -- with error control: an octet of the first frame is damaged
    ∷ (tm_with_fecf, damaged ++ guarded, codes "0 skip fecf\n34 frame vc 0 mc 0 vcc 0 first 0\n")
    ∷ []
    )
unfolding digits encode_with fecf_of register_of
tm_listed = refl

pub tm_totals :
    Have show_tm_counts (
    (tm, one_packet, record none { octets = 32; frames = 1 })
    ∷ (tm, with_rest, record none { octets = 40; frames = 1; rest = 8 })
    ∷ (tm, not_read, record none { octets = 64; frames = 2; skipped = 2 })
    ∷ []
    )
unfolding fecf_of register_of
tm_totals = refl

-- ---- TC frames

-- a frame with this first octet, of this virtual channel, with this N(S) and data field; those of type AD, of type BD, and
-- of control commands
abbrev pub sent : ℕ → ℕ → ℕ → List ℕ → List ℕ
sent first vc ns field = first ∷ 0x01 ∷ (vc * 4) ∷ (4 + length field) ∷ ns ∷ field

abbrev pub ad : ℕ → ℕ → List ℕ → List ℕ
ad vc ns field = sent 0x00 vc ns field

abbrev pub bd : ℕ → List ℕ → List ℕ
bd vc field = sent 0x20 vc 0 field

abbrev control : String → List ℕ
control field = sent 0x30 0 0 (hex field)

-- a space packet of ten octets, and frames whose unit is a segment that carries it whole
abbrev pub telecommand : List ℕ
telecommand = hex "1001 c000 0003 aabbccdd"

abbrev pub carrying : ℕ → List ℕ
carrying ns = ad 0 ns (0xC0 ∷ telecommand)

-- of type AD, a whole segment of one octet, and of type BD, a middle segment of none
abbrev short : ℕ → List ℕ
short ns = ad 0 ns (hex "c0 00")

abbrev empty : List ℕ
empty = bd 0 (hex "00")

-- the positive part of the window, its negative part, the lockout area, and lockout
abbrev pub discarded : List ℕ
discarded = short 4 ++ short 251 ++ short 5 ++ short 0

-- Set V(R), type BD and Unlock in lockout
abbrev pub locked_out : List ℕ
locked_out = short 250 ++ control "82 00 05" ++ bd 0 (0xC0 ∷ telecommand) ++ control "00"

-- a stated length of 3 octets, from which on no frame is found
abbrev pub bad_length : List ℕ
bad_length = carrying 0 ++ hex "0001 0002 00 0000"

-- frames that are skipped, each for another reason
abbrev of_another : List ℕ
of_another = hex "0002 0006 00 c000"

abbrev pub skipped : List ℕ
skipped = of_another ++ sent 0x40 0 0 (hex "c000") ++ ad 0 0 (0xC0 ∷ replicate 11 0) ++ sent 0x10 0 0 (hex "c000") ++ ad 0 0 [] ++ control "01"

-- a packet in three segments on virtual channel 5, after a frame of virtual channel 0: N(S) 0 is expected on each
abbrev two_channels : List ℕ
two_channels = carrying 0 ++ ad 5 0 (hex "40 1002 c005 0010 11111111") ++ ad 5 1 (0x00 ∷ replicate 10 0x11) ++ ad 5 2 (hex "80 111111")

-- virtual channel 5 without segment headers, and with V(R) 255 at the start
abbrev pub plain_on_5 : Parameters
plain_on_5 = record tc { plain = 5 ∷ [] }

abbrev pub from_255_on_5 : Parameters
from_255_on_5 = record tc { starts = slice_set (replicate 64 0) 5 255 }

abbrev tc_with_fecf : Parameters
tc_with_fecf = record tc { tc_fecf = true }

pub tc_listed :
    Have show_tc_text (
    (tc, [], [])
    ∷ (tc, carrying 0, codes "0 frame vc 0 ad 0 segment whole map 0 octets 10 accept clcw 01000001\n")
    ∷ (tc, discarded, codes "0 frame vc 0 ad 4 segment whole map 0 octets 1 early clcw 01000800\n7 frame vc 0 ad 251 segment whole map 0 octets 1 late clcw 01000800\n14 frame vc 0 ad 5 segment whole map 0 octets 1 outside clcw 01002800\n21 frame vc 0 ad 0 segment whole map 0 octets 1 refused clcw 01002800\n")
    ∷ (tc, locked_out, codes "0 frame vc 0 ad 250 segment whole map 0 octets 1 outside clcw 01002000\n7 frame vc 0 setvr 5 command clcw 01002200\n15 frame vc 0 bd segment whole map 0 octets 10 accept clcw 01002400\n31 frame vc 0 unlock command clcw 01000600\n")
    ∷ (tc, bad_length, codes "0 frame vc 0 ad 0 segment whole map 0 octets 10 accept clcw 01000001\n16 rest 7\n")
    ∷ (tc, carrying 0 ++ hex "0001 0002 00" ++ carrying 0, codes "0 frame vc 0 ad 0 segment whole map 0 octets 10 accept clcw 01000001\n16 rest 21\n")
    ∷ (tc, skipped, codes "0 skip spacecraft\n7 skip version\n14 skip long\n31 skip kind\n38 skip empty\n43 skip command\n")
    -- a frame of another spacecraft with the expected N(S), which is still expected after it
    ∷ (tc, of_another ++ carrying 0, codes "0 skip spacecraft\n7 frame vc 0 ad 0 segment whole map 0 octets 10 accept clcw 01000001\n")
    -- error control, and that it is wrong
    ∷ (tc_with_fecf, control "00 0e5d", codes "0 frame vc 0 unlock command clcw 01000200\n")
    ∷ (tc_with_fecf, control "00 0e5e", codes "0 skip fecf\n")
    ∷ (tc, two_channels, codes "0 frame vc 0 ad 0 segment whole map 0 octets 10 accept clcw 01000001\n16 frame vc 5 ad 0 segment first map 0 octets 10 accept clcw 01140001\n32 frame vc 5 ad 1 segment middle map 0 octets 10 accept clcw 01140002\n48 frame vc 5 ad 2 segment last map 0 octets 3 accept clcw 01140003\n")
    -- V(R) 255 at the start, and on virtual channel 5 alone
    ∷ (record tc { starts = replicate 64 255 }, ad 5 255 (hex "c3 00") ++ ad 5 0 (hex "c3 00"), codes "0 frame vc 5 ad 255 segment whole map 3 octets 1 accept clcw 01140000\n7 frame vc 5 ad 0 segment whole map 3 octets 1 accept clcw 01140001\n")
    ∷ (from_255_on_5, carrying 0 ++ ad 5 255 (hex "c3 00"), codes "0 frame vc 0 ad 0 segment whole map 0 octets 10 accept clcw 01000001\n16 frame vc 5 ad 255 segment whole map 3 octets 1 accept clcw 01140000\n")
    -- virtual channel 5 without segment headers: of types AD and BD, and one that is discarded; with segment headers, as
    -- other channels have none
    ∷ (plain_on_5, ad 5 0 telecommand ++ bd 5 telecommand ++ ad 5 4 telecommand, codes "0 frame vc 5 ad 0 unit octets 10 accept clcw 01140001\n15 frame vc 5 bd unit octets 10 accept clcw 01140201\n30 frame vc 5 ad 4 unit octets 10 early clcw 01140a01\n")
    ∷ (record tc { plain = 4 ∷ 6 ∷ [] }, ad 5 0 telecommand, codes "0 frame vc 5 ad 0 segment middle map 16 octets 9 accept clcw 01140001\n")
    -- the FARM-B counter modulo 4
    ∷ (tc, empty ++ empty ++ empty ++ empty, codes "0 frame vc 0 bd segment middle map 0 octets 0 accept clcw 01000200\n6 frame vc 0 bd segment middle map 0 octets 0 accept clcw 01000400\n12 frame vc 0 bd segment middle map 0 octets 0 accept clcw 01000600\n18 frame vc 0 bd segment middle map 0 octets 0 accept clcw 01000000\n")
    ∷ []
    )
unfolding digits encode_with fecf_of register_of
tc_listed = refl

pub tc_totals :
    Have show_tc_counts (
    (tc, bad_length, record none { octets = 23; frames = 1; rest = 7 })
    ∷ (tc, skipped, record none { octets = 49; frames = 6; skipped = 6 })
    ∷ []
    )
unfolding fecf_of register_of
tc_totals = refl
