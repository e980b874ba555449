-- Recordings of known octets: their accepted units, series and packets, and the normal form of these packets,
-- computed from the definitions.
use Rattle.std.proofs.Common.{◌≡◌, ℕ, false, List, [], ◌∷◌, ◌++◌, replicate, None, Some, refl}
use Rattle.sl_packet.specs.Packets.{without_idle}
use Rattle.sl_tcframe.specs.TcDelimited.{tc_frames_of}
use Rattle.sl_tcframe.specs.TcFrame.{TcFormat, TcView, Ad, Bd, Unlock, SetVr}
use Rattle.sl_tcflow.specs.AcceptedUnit.{views_of, views_on, accepted_units}
use Rattle.sl_tcflow.specs.Incomplete.{incomplete_of}
use Rattle.sl_tcflow.specs.Reception.{packets_of_segments, packets_ended, segments_of}
use Rattle.sl_tcflow.specs.ReceptionParameters.{ReceptionParameters}
use Rattle.sl_tcflow.specs.Recording.{packets_of_channel, recorded_views}
use Rattle.sl_tcflow.specs.Series.{series_of}
use Rattle.sl_tcflow.specs.TcNormalForm.{tc_normal_form_of}

abbrev format : ℕ → TcFormat
format max = record { max = max; fecf = false }

-- the frames of a recording of spacecraft 1, as they are read
abbrev read : ℕ → List ℕ → List TcView
read max recording = views_of (format max) 1 (tc_frames_of (format max) recording)

-- the units that are accepted on a virtual channel, with a window of width 10
abbrev accepted : ℕ → ℕ → List ℕ → List (List ℕ)
accepted vr vc recording = accepted_units 10 vr (views_on vc (read 16 recording))

-- the parameters of reception with this width and this initial V(R)
abbrev from_vr : ℕ → ReceptionParameters
from_vr vr = record { window = 10; starts = replicate 64 vr; plain = [] }

-- the packets of a MAP
abbrev packets : ℕ → ℕ → ℕ → List ℕ → List (List ℕ)
packets vr vc map_id recording = packets_of_segments (segments_of (from_vr vr) vc map_id (read 16 recording))

-- the normal form of packets on the first channels
abbrev form : ℕ → List (List (List ℕ)) → List ℕ
form vr lists = tc_normal_form_of (format 16) 1 (replicate 64 vr) [] lists

-- ---- one unit with no segmentation

abbrev packet : List ℕ
packet = 0x10 ∷ 0x01 ∷ 0xC0 ∷ 0x00 ∷ 0x00 ∷ 0x03 ∷ 0xAA ∷ 0xBB ∷ 0xCC ∷ 0xDD ∷ []

abbrev whole : List ℕ
whole = 0x00 ∷ 0x01 ∷ 0x00 ∷ 0x0F ∷ 0x00 ∷ 0xC0 ∷ packet

pub record IsWhole : Type 0 where
  pub views : read 16 whole ≡ record { vc = 0; content = Ad 0 (0xC0 ∷ packet) } ∷ []
  pub accepts : accepted 0 0 whole ≡ (0xC0 ∷ packet) ∷ []
  pub series : series_of (segments_of (from_vr 0) 0 0 (read 16 whole)) ≡ record { before = 0; segments = (0xC0 ∷ packet) ∷ [] } ∷ []
  pub delivers : packets 0 0 0 whole ≡ packet ∷ []
  pub other_map : packets 0 0 1 whole ≡ []
  pub other_channel : packets 0 1 0 whole ≡ []
  pub normal : form 0 ((packet ∷ []) ∷ []) ≡ whole

pub is_whole : IsWhole
is_whole = assumption

-- ---- frames that are not accepted

-- a frame of type AD with this N(S) that carries one octet
abbrev short : ℕ → List ℕ
short ns = 0x00 ∷ 0x01 ∷ 0x00 ∷ 0x06 ∷ ns ∷ 0xC0 ∷ 0x00 ∷ []

-- frames that are early, late, outside the window, and refused in the lockout state
abbrev not_accepted : List ℕ
not_accepted = short 0x04 ++ short 0xFB ++ short 0x05 ++ short 0x00

-- lockout, Set V(R) that isn't obeyed, a frame of type BD, and Unlock
abbrev bypassing : List ℕ
bypassing =
    short 0xFA ++ 0x30 ∷ 0x01 ∷ 0x00 ∷ 0x07 ∷ 0x00 ∷ 0x82 ∷ 0x00 ∷ 0x05 ∷ 0x20 ∷ 0x01 ∷ 0x00 ∷ 0x0F ∷ 0x00 ∷ 0xC0 ∷ packet
    ++ 0x30 ∷ 0x01 ∷ 0x00 ∷ 0x05 ∷ 0x00 ∷ 0x00 ∷ []

pub record AreNotAccepted : Type 0 where
  pub none : accepted 0 0 not_accepted ≡ []
  pub no_packets : packets 0 0 0 not_accepted ≡ []
  pub nothing : form 0 [] ≡ []
  pub bypasses : read 16 bypassing
      ≡ record { vc = 0; content = Ad 250 (0xC0 ∷ 0x00 ∷ []) } ∷ record { vc = 0; content = SetVr 5 }
      ∷ record { vc = 0; content = Bd (0xC0 ∷ packet) } ∷ record { vc = 0; content = Unlock } ∷ []
  pub accepts : accepted 0 0 bypassing ≡ (0xC0 ∷ packet) ∷ []
  pub delivers : packets 0 0 0 bypassing ≡ packet ∷ []

pub are_not_accepted : AreNotAccepted
are_not_accepted = assumption

-- ---- series on two MAPs

abbrev first_of_1 : List ℕ
first_of_1 = 0x41 ∷ 0x10 ∷ 0x01 ∷ 0xC0 ∷ 0x00 ∷ 0x00 ∷ []

abbrev dropped_of_2 : List ℕ
dropped_of_2 = 0x42 ∷ 0x10 ∷ 0x02 ∷ 0xC0 ∷ 0x00 ∷ []

abbrev last_of_1 : List ℕ
last_of_1 = 0x81 ∷ 0x03 ∷ 0xAA ∷ 0xBB ∷ 0xCC ∷ 0xDD ∷ []

abbrev first_of_2 : List ℕ
first_of_2 = 0x42 ∷ 0x10 ∷ 0x02 ∷ 0xC0 ∷ 0x01 ∷ 0x00 ∷ []

abbrev last_of_2 : List ℕ
last_of_2 = 0x82 ∷ 0x00 ∷ 0xEE ∷ []

-- a continuing segment without a first one, and then the two series
abbrev on_two_maps : List ℕ
on_two_maps =
    0x00 ∷ 0x01 ∷ 0x00 ∷ 0x06 ∷ 0x00 ∷ 0x01 ∷ 0xFF ∷ []
    ++ 0x00 ∷ 0x01 ∷ 0x00 ∷ 0x0A ∷ 0x01 ∷ first_of_1
    ++ 0x00 ∷ 0x01 ∷ 0x00 ∷ 0x09 ∷ 0x02 ∷ dropped_of_2
    ++ 0x00 ∷ 0x01 ∷ 0x00 ∷ 0x0A ∷ 0x03 ∷ last_of_1
    ++ 0x00 ∷ 0x01 ∷ 0x00 ∷ 0x0A ∷ 0x04 ∷ first_of_2
    ++ 0x00 ∷ 0x01 ∷ 0x00 ∷ 0x07 ∷ 0x05 ∷ last_of_2

abbrev small : List ℕ
small = 0x10 ∷ 0x02 ∷ 0xC0 ∷ 0x01 ∷ 0x00 ∷ 0x00 ∷ 0xEE ∷ []

abbrev before_last : List (List ℕ)
before_last = dropped_of_2 ∷ first_of_2 ∷ []

pub record AreOnTwoMaps : Type 0 where
  pub segments_1 : segments_of (from_vr 0) 0 1 (read 16 on_two_maps) ≡ (0x01 ∷ 0xFF ∷ []) ∷ first_of_1 ∷ last_of_1 ∷ []
  pub segments_2 : segments_of (from_vr 0) 0 2 (read 16 on_two_maps) ≡ before_last ++ last_of_2 ∷ []
  pub series_1 : series_of ((0x01 ∷ 0xFF ∷ []) ∷ first_of_1 ∷ last_of_1 ∷ []) ≡ record { before = 1; segments = first_of_1 ∷ last_of_1 ∷ [] } ∷ []
  pub series_2 : series_of (before_last ++ last_of_2 ∷ []) ≡ record { before = 1; segments = first_of_2 ∷ last_of_2 ∷ [] } ∷ []
  pub no_map : packets 0 0 0 on_two_maps ≡ []
  pub delivers_1 : packets 0 0 1 on_two_maps ≡ packet ∷ []
  pub delivers_2 : packets 0 0 2 on_two_maps ≡ small ∷ []
  pub ended : packets_ended before_last last_of_2 ≡ small ∷ []
  pub stray : incomplete_of ((0x01 ∷ 0xFF ∷ []) ∷ []) ≡ None
  pub dropped : incomplete_of (dropped_of_2 ∷ []) ≡ Some (0x10 ∷ 0x02 ∷ 0xC0 ∷ 0x00 ∷ [])
  pub begun_again : incomplete_of before_last ≡ Some (0x10 ∷ 0x02 ∷ 0xC0 ∷ 0x01 ∷ 0x00 ∷ [])
  pub at_end : incomplete_of (before_last ++ last_of_2 ∷ []) ≡ None
  pub normal : form 0 ([] ∷ (packet ∷ []) ∷ (small ∷ []) ∷ [])
      ≡ 0x00 ∷ 0x01 ∷ 0x00 ∷ 0x0F ∷ 0x00 ∷ 0xC1 ∷ packet ++ 0x00 ∷ 0x01 ∷ 0x00 ∷ 0x0C ∷ 0x01 ∷ 0xC2 ∷ small

pub are_on_two_maps : AreOnTwoMaps
are_on_two_maps = assumption

-- ---- a series of three segments on virtual channel 5

-- frames with these N(S)
abbrev divided : ℕ → ℕ → ℕ → List ℕ
divided first second third =
    0x00 ∷ 0x01 ∷ 0x14 ∷ 0x0F ∷ first ∷ 0x40 ∷ 0x10 ∷ 0x02 ∷ 0xC0 ∷ 0x05 ∷ 0x00 ∷ 0x10 ∷ replicate 4 0x11
    ++ 0x00 ∷ 0x01 ∷ 0x14 ∷ 0x0F ∷ second ∷ 0x00 ∷ replicate 10 0x11
    ++ 0x00 ∷ 0x01 ∷ 0x14 ∷ 0x08 ∷ third ∷ 0x80 ∷ replicate 3 0x11

abbrev longer : List ℕ
longer = 0x10 ∷ 0x02 ∷ 0xC0 ∷ 0x05 ∷ 0x00 ∷ 0x10 ∷ replicate 17 0x11

-- the packet on virtual channel 5, MAP 0
abbrev on_5 : List (List (List ℕ))
on_5 = replicate 320 [] ++ (longer ∷ []) ∷ []

pub record AreDivided : Type 0 where
  pub delivers : packets 0 5 0 (divided 0x00 0x01 0x02) ≡ longer ∷ []
  pub normal : form 0 on_5 ≡ divided 0x00 0x01 0x02
  -- with the initial V(R) 255, each of the frames is early
  pub early : accepted 255 5 (divided 0x00 0x01 0x02) ≡ []
  -- with the initial V(R) 255, the frames begin with N(S) 255
  pub delivers_at_255 : packets 255 5 0 (divided 0xFF 0x00 0x01) ≡ longer ∷ []
  pub normal_at_255 : form 255 on_5 ≡ divided 0xFF 0x00 0x01

pub are_divided : AreDivided
are_divided = assumption

-- ---- two packets in one unit, the second one idle

abbrev idle : List ℕ
idle = 0x07 ∷ 0xFF ∷ 0xC0 ∷ 0x00 ∷ 0x00 ∷ 0x00 ∷ 0x00 ∷ []

abbrev both : List ℕ
both = 0x00 ∷ 0x01 ∷ 0x00 ∷ 0x13 ∷ 0x00 ∷ 0xC0 ∷ small ++ idle

pub record AreBoth : Type 0 where
  pub delivers : packets_of_segments (segments_of (from_vr 0) 0 0 (read 24 both)) ≡ small ∷ idle ∷ []
  pub not_idle : without_idle (small ∷ idle ∷ []) ≡ small ∷ []
  pub normal : tc_normal_form_of (format 24) 1 (replicate 64 0) [] ((small ∷ []) ∷ []) ≡ 0x00 ∷ 0x01 ∷ 0x00 ∷ 0x0C ∷ 0x00 ∷ 0xC0 ∷ small

pub are_both : AreBoth
are_both = record { delivers = refl; not_idle = refl; normal = refl }

-- ---- series at their limits

-- a first segment of type AD, and the last one of type BD
abbrev of_both_types : List ℕ
of_both_types =
    0x00 ∷ 0x01 ∷ 0x00 ∷ 0x0A ∷ 0x00 ∷ 0x40 ∷ 0x10 ∷ 0x01 ∷ 0xC0 ∷ 0x00 ∷ 0x00 ∷ []
    ++ 0x20 ∷ 0x01 ∷ 0x00 ∷ 0x0A ∷ 0x00 ∷ 0x80 ∷ 0x03 ∷ 0xAA ∷ 0xBB ∷ 0xCC ∷ 0xDD ∷ []

-- virtual channel 63, MAP 63, N(S) 255
abbrev at_last : List ℕ
at_last = 0x00 ∷ 0x01 ∷ 0xFC ∷ 0x0F ∷ 0xFF ∷ 0xFF ∷ packet

-- two units with no segmentation: the second one would complete the octets that are left after the packet of the first one
abbrev with_rest : List ℕ
with_rest = 0xC0 ∷ packet ++ 0x10 ∷ 0x02 ∷ 0xC0 ∷ []

abbrev completing : List ℕ
completing = 0xC0 ∷ 0x01 ∷ 0x00 ∷ 0x00 ∷ 0xEE ∷ []

pub record AreAtLimits : Type 0 where
  -- segments without octets
  pub empty_last : packets_of_segments ((0x40 ∷ packet) ∷ (0x80 ∷ []) ∷ []) ≡ packet ∷ []
  pub empty_whole : packets_of_segments ((0xC0 ∷ []) ∷ []) ≡ []
  pub empty_first : incomplete_of ((0x40 ∷ []) ∷ []) ≡ Some []
  -- a unit with no segmentation drops the incomplete series
  pub whole_between : packets_of_segments (first_of_2 ∷ (0xC2 ∷ packet) ∷ last_of_2 ∷ []) ≡ packet ∷ []
  pub left_over : packets_of_segments (with_rest ∷ completing ∷ []) ≡ packet ∷ []
  pub both_types : packets 0 0 0 of_both_types ≡ packet ∷ []
  pub last_channel : packets_of_channel (from_vr 255) (recorded_views (format 16) 1 at_last) 4095 ≡ packet ∷ []
  pub channel_before : packets_of_channel (from_vr 255) (recorded_views (format 16) 1 at_last) 4094 ≡ []
  pub recorded : packets_of_channel (from_vr 0) (recorded_views (format 16) 1 (divided 0x00 0x01 0x02)) 320 ≡ longer ∷ []

pub are_at_limits : AreAtLimits
are_at_limits = assumption
