-- Worked recordings and the listings of their packets, computed from the definitions, so that a wrong definition doesn't
-- check. TM frames have 32 octets and TC frames 16 at most, the spacecraft is 1.
use Rattle.std.proofs.Common.{ℕ, List, [], ◌∷◌, ◌++◌, codes, replicate, refl}
use Rattle.std.specs.Fmt.{digits}
use Rattle.hex.specs.Hex.{encode_with}
use Rattle.sl_engine.specs.Verbs.Packets.Tm.{packets_tm_text}
use Rattle.sl_engine.specs.Verbs.Packets.Tc.{packets_tc_text}
use Rattle.sl_engine.proofs.facts.CheckTc.{two_maps}
use Rattle.sl_engine.proofs.facts.Listings.{ad, bd, carrying, plain_on_5}
use Rattle.sl_engine.proofs.facts.NormalForms.{begun, ended, framed, one_packet, two_channels, in_three_frames}
use Rattle.sl_engine.proofs.facts.Rows.{Have, hex, tm, tc}

-- a packet of seven octets whose header has other values than most, and an idle packet that fills the data field
abbrev other_fields : List ℕ
other_fields = framed 0 0 "1800" (hex "1bfe 7fff 0000 99 07ff c000 000c" ++ replicate 13 0)

-- a packet that begins on virtual channel 1, a frame of virtual channel 0, and the end of that packet
abbrev packets_in_turn : List ℕ
packets_in_turn = hex "0012 0000 1817" ++ replicate 23 0x44 ++ hex "0003c0" ++ one_packet ++ hex "0012 0101 1807" ++ ended

pub tm_packets_listed :
    Have packets_tm_text (
    (tm, [], [])
    ∷ (tm, one_packet, codes "vc 0 apid 1 type 0 secondary 0 flags 3 count 0 octets 10 0001c0000003aabbccdd\n")
    ∷ (tm, other_fields, codes "vc 0 apid 1022 type 1 secondary 1 flags 1 count 16383 octets 7 1bfe7fff000099\n")
    -- by the frames in which they end, and then by their starts
    ∷ (tm, in_three_frames, codes "vc 0 apid 2 type 0 secondary 0 flags 3 count 5 octets 23 0002c00500101111111111111111111111111111111111\nvc 0 apid 3 type 0 secondary 0 flags 3 count 0 octets 10 0003c000000301020304\nvc 0 apid 1 type 0 secondary 0 flags 3 count 0 octets 10 0001c0000003aabbccdd\n")
    ∷ (tm, packets_in_turn, codes "vc 0 apid 1 type 0 secondary 0 flags 3 count 0 octets 10 0001c0000003aabbccdd\nvc 1 apid 3 type 0 secondary 0 flags 3 count 0 octets 10 0003c000000301020304\nvc 1 apid 1 type 0 secondary 0 flags 3 count 0 octets 10 0001c0000003aabbccdd\n")
    ∷ (tm, two_channels, codes "vc 1 apid 1 type 0 secondary 0 flags 3 count 0 octets 10 0001c0000003aabbccdd\nvc 0 apid 1 type 0 secondary 0 flags 3 count 0 octets 10 0001c0000003aabbccdd\n")
    -- an incomplete packet has no line, and one that is broken off none either
    ∷ (tm, begun ++ framed 2 2 "1807" ended ++ hex "0010", codes "vc 0 apid 2 type 0 secondary 0 flags 3 count 5 octets 23 0002c00500101111111111111111111111111111111111\nvc 0 apid 1 type 0 secondary 0 flags 3 count 0 octets 10 0001c0000003aabbccdd\n")
    ∷ []
    )
unfolding digits encode_with
tm_packets_listed = refl

-- of virtual channel 5 and MAP 9 in type BD, a packet and what follows it, which is none
abbrev bd_on_5 : List ℕ
bd_on_5 = bd 5 (hex "c9 1002 c001 0000 ee 77")

-- a packet, an idle one, and a packet in one segment, in a longer frame
abbrev three_in_one : List ℕ
three_in_one = ad 0 0 (hex "c0 1002 c001 0000 ee 07ff c000 0000 00 1002 c002 0000 ef")

pub tc_packets_listed :
    Have packets_tc_text (
    (tc, [], [])
    ∷ (tc, carrying 0, codes "vc 0 map 0 apid 1 type 1 secondary 0 flags 3 count 0 octets 10 1001c0000003aabbccdd\n")
    -- those of frames that aren't accepted have no line, one that comes twice has one
    ∷ (tc, carrying 1 ++ carrying 0 ++ carrying 0 ++ carrying 2, codes "vc 0 map 0 apid 1 type 1 secondary 0 flags 3 count 0 octets 10 1001c0000003aabbccdd\n")
    ∷ (tc, carrying 1 ++ bd_on_5, codes "vc 5 map 9 apid 2 type 1 secondary 0 flags 3 count 1 octets 7 1002c0010000ee\n")
    -- by the units that end their series
    ∷ (tc, two_maps, codes "vc 0 map 1 apid 1 type 1 secondary 0 flags 3 count 0 octets 10 1001c0000003aabbccdd\nvc 0 map 2 apid 2 type 1 secondary 0 flags 3 count 1 octets 7 1002c0010000ee\n")
    -- idle packets are left out
    ∷ (record tc { tc_max = 27 }, three_in_one, codes "vc 0 map 0 apid 2 type 1 secondary 0 flags 3 count 1 octets 7 1002c0010000ee\nvc 0 map 0 apid 2 type 1 secondary 0 flags 3 count 2 octets 7 1002c0020000ef\n")
    -- without segment headers on virtual channel 5 its packets are on MAP 0
    ∷ (plain_on_5, ad 5 0 (hex "1002 c001 0000 ee") ++ bd_on_5, codes "vc 5 map 0 apid 2 type 1 secondary 0 flags 3 count 1 octets 7 1002c0010000ee\n")
    ∷ []
    )
unfolding digits encode_with
tc_packets_listed = refl
