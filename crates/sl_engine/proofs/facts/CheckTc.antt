-- Worked recordings of TC frames and the listings of `check`, computed from the definitions, so that a wrong definition
-- doesn't check. Frames have 16 octets at most, the spacecraft is 1. The line of a series that is too long isn't among
-- them: it wants more than 65,542 octets.
use Rattle.std.proofs.Common.{◌≡◌, ℕ, List, [], ◌∷◌, ◌++◌, codes, refl}
use Prim.Native.String.{String}
use Rattle.std.specs.Fmt.{digits}
use Rattle.sl_tcflow.specs.Recording.{map_channels}
use Rattle.sl_engine.specs.Verbs.Check.Tc.{check_tc_text, check_tc_counts}
use Rattle.sl_engine.proofs.facts.Listings.{ad, bd, telecommand, carrying, discarded, locked_out, bad_length, skipped, plain_on_5, from_255_on_5}
use Rattle.sl_engine.proofs.facts.Rows.{Have, hex, tc, none}

-- of virtual channel 0, a frame of type AD with this N(S) and this segment header and octets
abbrev segment : ℕ → String → List ℕ
segment ns octets = ad 0 ns (hex octets)

-- Segments of two MAPs in turn, each in a frame of type AD: on MAP 1 one out of sequence, and a packet in two segments; on
-- MAP 2 the beginning of a packet, and one in two segments.
abbrev pub two_maps : List ℕ
two_maps =
    segment 0 "01 ff" ++ segment 1 "41 1001 c000 00" ++ segment 2 "42 1002 c000" ++ segment 3 "81 03 aabbccdd" ++ segment 4 "42 1002 c001 00"
    ++ segment 5 "82 00 ee"

pub checked :
    Have check_tc_text (
    (tc, [], codes "frames 0 skipped 0 packets 0 idle 0 anomalies 0\n")
    ∷ (tc, carrying 0, codes "frames 1 skipped 0 packets 1 idle 0 anomalies 0\n")
    ∷ (tc, discarded, codes "0 early vc 0 ad 4\n7 late vc 0 ad 251\n14 outside vc 0 ad 5\n21 refused vc 0 ad 0\nframes 4 skipped 0 packets 0 idle 0 anomalies 4\n")
    -- Set V(R), type BD and Unlock in lockout are no anomalies
    ∷ (tc, locked_out, codes "0 outside vc 0 ad 250\nframes 4 skipped 0 packets 1 idle 0 anomalies 1\n")
    -- early, twice in a row, and early again
    ∷ (tc, carrying 1 ++ carrying 0 ++ carrying 0 ++ carrying 2 ++ carrying 1, codes "0 early vc 0 ad 1\n32 late vc 0 ad 0\n48 early vc 0 ad 2\nframes 5 skipped 0 packets 2 idle 0 anomalies 3\n")
    ∷ (tc, skipped, codes "0 skip spacecraft\n7 skip version\n14 skip long\n31 skip kind\n38 skip empty\n43 skip command\nframes 6 skipped 6 packets 0 idle 0 anomalies 6\n")
    ∷ (tc, bad_length, codes "16 rest 7\nframes 1 skipped 0 packets 1 idle 0 anomalies 1\n")
    -- each MAP has its own series
    ∷ (tc, two_maps, codes "0 stray vc 0 map 1\n39 dropped vc 0 map 2 octets 4\nframes 6 skipped 0 packets 2 idle 0 anomalies 2\n")
    -- a series without octets is one, and is dropped as one, but a whole segment without octets is none
    ∷ (tc, segment 0 "40", codes "6 open vc 0 map 0 octets 0\nframes 1 skipped 0 packets 0 idle 0 anomalies 1\n")
    ∷ (tc, segment 0 "40" ++ segment 1 "40", codes "6 dropped vc 0 map 0 octets 0\n12 open vc 0 map 0 octets 0\nframes 2 skipped 0 packets 0 idle 0 anomalies 2\n")
    ∷ (tc, segment 0 "c0", codes "frames 1 skipped 0 packets 0 idle 0 anomalies 0\n")
    -- octets after the packets of a service data unit, and one without a packet, which ends a series as well
    ∷ (tc, segment 0 "c0 1002 c001 0000 ee 77", codes "0 tail vc 0 map 0 octets 1\nframes 1 skipped 0 packets 1 idle 0 anomalies 1\n")
    ∷ (tc, segment 0 "40" ++ segment 1 "c0 20", codes "6 dropped vc 0 map 0 octets 0\n6 tail vc 0 map 0 octets 1\nframes 2 skipped 0 packets 0 idle 0 anomalies 2\n")
    -- a frame that isn't accepted changes no series
    ∷ (tc, segment 0 "40" ++ segment 2 "c0" ++ segment 1 "80", codes "6 early vc 0 ad 2\nframes 3 skipped 0 packets 0 idle 0 anomalies 1\n")
    -- the remainder comes before what is incomplete, and that by rising virtual channel and then MAP
    ∷ (tc, bd 5 (hex "42 10") ++ bd 5 (hex "41") ++ bd 0 (hex "43") ++ hex "200100", codes "19 rest 3\n22 open vc 0 map 3 octets 0\n22 open vc 5 map 1 octets 0\n22 open vc 5 map 2 octets 1\nframes 3 skipped 0 packets 0 idle 0 anomalies 4\n")
    -- longer frames: a packet and an idle one in one segment
    ∷ (record tc { tc_max = 24 }, segment 0 "c0 1002 c001 0000 ee 07ff c000 0000 00", codes "frames 1 skipped 0 packets 1 idle 1 anomalies 0\n")
    -- no segment headers on virtual channel 5: what is left of a unit, a frame that isn't accepted, and one that is; read as
    -- if it had a segment header, it is out of sequence
    ∷ (plain_on_5, ad 5 0 (telecommand ++ hex "77") ++ ad 5 2 telecommand ++ ad 5 1 telecommand, codes "0 tail vc 5 map 0 octets 1\n16 early vc 5 ad 2\nframes 3 skipped 0 packets 2 idle 0 anomalies 2\n")
    ∷ (tc, ad 5 0 telecommand, codes "0 stray vc 5 map 16\nframes 1 skipped 0 packets 0 idle 0 anomalies 1\n")
    -- an initial V(R) of its own on virtual channel 5
    ∷ (from_255_on_5, carrying 0 ++ ad 5 255 (hex "c0 00") ++ ad 5 0 (hex "c0 00") ++ ad 5 255 (hex "c0 00"), codes "16 tail vc 5 map 0 octets 1\n23 tail vc 5 map 0 octets 1\n30 late vc 5 ad 255\nframes 4 skipped 0 packets 1 idle 0 anomalies 3\n")
    ∷ []
    )
unfolding digits map_channels
checked = refl

pub counts_are : check_tc_counts tc two_maps ≡ record none { octets = 58; frames = 6; packets = 2; anomalies = 2 }
unfolding map_channels
counts_are = refl
