-- Worked recordings of TM frames and the listings of `check`, computed from the definitions, so that a wrong definition
-- doesn't check. Frames have 32 octets, the spacecraft is 1.
use Rattle.std.proofs.Common.{◌≡◌, ℕ, List, [], ◌∷◌, ◌++◌, codes, replicate, refl}
use Rattle.std.specs.Fmt.{digits}
use Rattle.sl_fields.specs.Fecf.{fecf_of, register_of}
use Rattle.sl_engine.specs.Verbs.Check.Tm.{check_tm_text, check_tm_counts}
use Rattle.sl_engine.proofs.facts.NormalForms.{tm_with_fecf, ten, twenty_three, begun, begun_at, ended, framed, idle, one_packet, full_field, wide_filling, in_three_frames, three_copies, covered, damaged, guarded}
use Rattle.sl_engine.proofs.facts.Rows.{Have, hex, tm, none}

-- of virtual channel 1, a frame of the first three octets of a packet
abbrev begun_on_1 : ℕ → List ℕ
begun_on_1 vcc = hex "0012" ++ vcc ∷ vcc ∷ hex "1800" ++ twenty_three ++ hex "0003c0"

-- two frames between which one is lost
abbrev gap : List ℕ
gap = begun ++ framed 2 2 "1807" ended

pub checked :
    Have check_tm_text (
    (tm, [], codes "frames 0 skipped 0 packets 0 idle 0 anomalies 0\n")
    ∷ (tm, one_packet, codes "frames 1 skipped 0 packets 1 idle 1 anomalies 0\n")
    ∷ (tm, full_field, codes "frames 1 skipped 0 packets 1 idle 0 anomalies 0\n")
    ∷ (tm, wide_filling, codes "frames 2 skipped 0 packets 1 idle 1 anomalies 0\n")
    -- three octets of a packet that is incomplete at the end
    ∷ (tm, begun, codes "32 open vc 0 octets 3\nframes 1 skipped 0 packets 1 idle 0 anomalies 1\n")
    -- a gap breaks the packet that runs through it; the first frame may have any count
    ∷ (tm, gap, codes "32 gap vc 0 expected 1 found 2\n32 dropped vc 0 octets 3\nframes 2 skipped 0 packets 2 idle 1 anomalies 2\n")
    ∷ (tm, framed 9 200 "1800" (ten ++ hex "07ff c000 0009" ++ replicate 10 0), codes "frames 1 skipped 0 packets 1 idle 1 anomalies 0\n")
    -- an idle frame doesn't break it, and takes part in the count
    ∷ (tm, in_three_frames, codes "frames 3 skipped 0 packets 3 idle 1 anomalies 0\n")
    ∷ (tm, begun ++ idle 0 ++ framed 1 1 "1807" ended, codes "32 gap vc 0 expected 1 found 0\n32 dropped vc 0 octets 3\nframes 3 skipped 0 packets 2 idle 1 anomalies 2\n")
    -- count 0 is the next one after 255, so 256 frames that are lost can't be seen
    ∷ (tm, begun_at 255 ++ framed 0 0 "1807" ended, codes "frames 2 skipped 0 packets 3 idle 1 anomalies 0\n")
    -- the pointer isn't where the packet ends
    ∷ (tm, begun ++ framed 1 1 "1811" ended, codes "32 dropped vc 0 octets 3\nframes 2 skipped 0 packets 1 idle 1 anomalies 1\n")
    -- the packet ends where no packet starts
    ∷ (tm, begun ++ framed 1 1 "1fff" ended, codes "32 dropped vc 0 octets 3\nframes 2 skipped 0 packets 1 idle 0 anomalies 1\n")
    -- it covers a data field whose pointer says that another packet starts at 0
    ∷ (tm, begun ++ framed 1 1 "1800" covered, codes "32 dropped vc 0 octets 3\n64 open vc 0 octets 26\nframes 2 skipped 0 packets 1 idle 0 anomalies 2\n")
    -- a frame that comes twice
    ∷ (tm, begun ++ begun, codes "32 gap vc 0 expected 1 found 0\n32 dropped vc 0 octets 3\n64 open vc 0 octets 3\nframes 2 skipped 0 packets 2 idle 0 anomalies 3\n")
    -- lines of one frame have an order
    ∷ (tm, begun ++ framed 1 1 "9800" (replicate 26 0) ++ framed 2 2 "1807" ended, codes "32 dropped vc 0 octets 3\n32 opaque vc 0\nframes 3 skipped 0 packets 2 idle 1 anomalies 2\n")
    ∷ (tm, begun ++ framed 2 2 "5800" (replicate 26 0), codes "32 gap vc 0 expected 1 found 2\n32 dropped vc 0 octets 3\n32 opaque vc 0\nframes 2 skipped 0 packets 1 idle 0 anomalies 3\n")
    ∷ (tm, framed 0 0 "1800" (ten ++ replicate 16 0x20), codes "0 foreign vc 0\nframes 1 skipped 0 packets 1 idle 0 anomalies 1\n")
    ∷ (tm, begun ++ framed 2 2 "1819" (replicate 26 0x20), codes "32 gap vc 0 expected 1 found 2\n32 dropped vc 0 octets 3\n32 foreign vc 0\nframes 2 skipped 0 packets 1 idle 0 anomalies 3\n")
    -- a pointer at the end of the data field, to its last octet, and to packets of seven octets
    ∷ (tm, framed 0 0 "181a" (replicate 26 0), codes "0 opaque vc 0\nframes 1 skipped 0 packets 0 idle 0 anomalies 1\n")
    ∷ (tm, framed 0 0 "1819" (replicate 26 0), codes "32 open vc 0 octets 1\nframes 1 skipped 0 packets 0 idle 0 anomalies 1\n")
    ∷ (tm, framed 0 0 "1800" (replicate 26 0), codes "32 open vc 0 octets 5\nframes 1 skipped 0 packets 3 idle 0 anomalies 1\n")
    -- a skipped frame, here of another spacecraft, is none of its virtual channel
    ∷ (tm, begun ++ hex "0020 0101 1800" ++ replicate 26 0x55 ++ framed 1 1 "1807" ended, codes "32 skip spacecraft\nframes 3 skipped 1 packets 3 idle 1 anomalies 1\n")
    -- the remainder comes before what is incomplete, and that by rising virtual channel
    ∷ (tm, three_copies, codes "32 gap vc 0 expected 1 found 0\n64 gap vc 0 expected 1 found 0\n96 rest 4\nframes 3 skipped 0 packets 3 idle 3 anomalies 3\n")
    ∷ (tm, begun_on_1 0 ++ begun ++ hex "0010", codes "64 rest 2\n66 open vc 0 octets 3\n66 open vc 1 octets 3\nframes 2 skipped 0 packets 2 idle 0 anomalies 3\n")
    -- and each virtual channel has its own counts
    ∷ (tm, begun_on_1 7 ++ begun ++ begun_on_1 8, codes "64 dropped vc 1 octets 3\n96 open vc 0 octets 3\n96 open vc 1 octets 3\nframes 3 skipped 0 packets 3 idle 0 anomalies 3\n")
    -- with error control: an octet of the first frame is damaged
    ∷ (tm_with_fecf, damaged ++ guarded, codes "0 skip fecf\nframes 2 skipped 1 packets 1 idle 1 anomalies 1\n")
    ∷ []
    )
unfolding digits fecf_of register_of
checked = refl

pub counts_are : check_tm_counts tm gap ≡ record none { octets = 64; frames = 2; packets = 2; idle = 1; anomalies = 2 }
counts_are = refl
