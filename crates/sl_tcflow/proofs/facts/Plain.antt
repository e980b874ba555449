-- Worked recordings of spacecraft 1, with virtual channels without segment headers, and with an initial V(R) of their
-- own, computed from the definitions. A wrong definition would fail these facts.
use Rattle.std.proofs.Common.{◌≡◌, ℕ, true, false, List, [], ◌∷◌, ◌++◌, replicate, None, refl}
use Rattle.std.specs.List.{slice_set}
use Rattle.sl_tcframe.specs.AdFrame.{plain_room_of}
use Rattle.sl_tcframe.specs.TcDelimited.{tc_frames_of}
use Rattle.sl_tcframe.specs.TcFrame.{TcFormat, TcView}
use Rattle.sl_tcflow.specs.AcceptedUnit.{accepted_units, views_on, views_of}
use Rattle.sl_tcflow.specs.Anomaly.{stray_of, tail_of}
use Rattle.sl_tcflow.specs.Incomplete.{incomplete_of}
use Rattle.sl_tcflow.specs.Reception.{packets_of_segments, segments_of}
use Rattle.sl_tcflow.specs.ReceptionParameters.{ReceptionParameters, initial_vr}
use Rattle.sl_tcflow.specs.Series.{header_at, segment_data, whole_segment}
use Rattle.sl_tcflow.specs.TcNormalForm.{tc_normal_form_of}

abbrev format : ℕ → TcFormat
format max = record { max = max; fecf = false }

abbrev read : List ℕ → List TcView
read recording = views_of (format 24) 1 (tc_frames_of (format 24) recording)

-- a window of width 10, V(R) 0 everywhere, and these virtual channels without segment headers
abbrev without : List ℕ → ReceptionParameters
without plain = record { window = 10; starts = replicate 64 0; plain = plain }

-- the packets of a MAP
abbrev packets : ReceptionParameters → ℕ → ℕ → List ℕ → List (List ℕ)
packets r vc map_id recording = packets_of_segments (segments_of r vc map_id (read recording))

-- ---- without segment headers

abbrev packet : List ℕ
packet = 0x10 ∷ 0x01 ∷ 0xC0 ∷ 0x00 ∷ 0x00 ∷ 0x03 ∷ 0xAA ∷ 0xBB ∷ 0xCC ∷ 0xDD ∷ []

-- a unit on virtual channel 5, of type AD with N(S) 0, and of type BD
abbrev plain : List ℕ
plain = 0x00 ∷ 0x01 ∷ 0x14 ∷ 0x0E ∷ 0x00 ∷ packet

abbrev bypassing : List ℕ
bypassing = 0x20 ∷ 0x01 ∷ 0x14 ∷ 0x0E ∷ 0x00 ∷ packet

abbrev first : List ℕ
first = 0x10 ∷ 0x02 ∷ 0xC0 ∷ 0x01 ∷ 0x00 ∷ 0x00 ∷ 0xEE ∷ []

abbrev second : List ℕ
second = 0x10 ∷ 0x02 ∷ 0xC0 ∷ 0x02 ∷ 0x00 ∷ 0x00 ∷ 0xEF ∷ []

-- two packets in one frame, and each in its own
abbrev both : List ℕ
both = 0x00 ∷ 0x01 ∷ 0x14 ∷ 0x12 ∷ 0x00 ∷ (first ++ second)

abbrev apart : List ℕ
apart = 0x00 ∷ 0x01 ∷ 0x14 ∷ 0x0B ∷ 0x00 ∷ (first ++ 0x00 ∷ 0x01 ∷ 0x14 ∷ 0x0B ∷ 0x01 ∷ second)

-- lists of packets of virtual channel 5: of its first MAPs, and none on channels before
abbrev on_5 : List (List (List ℕ)) → List (List (List ℕ))
on_5 lists = replicate 320 [] ++ lists

pub record ArePlain : Type 0 where
  pub segment : segments_of (without (5 ∷ [])) 5 0 (read plain) ≡ whole_segment packet ∷ []
  pub header : header_at (whole_segment packet) ≡ record { flags = 3; map = 0 }
  pub octets : segment_data (whole_segment packet) ≡ packet
  pub delivers : packets (without (5 ∷ [])) 5 0 plain ≡ packet ∷ []
  pub delivers_bypassing : packets (without (5 ∷ [])) 5 0 (plain ++ bypassing) ≡ packet ∷ packet ∷ []
  pub on_no_other_map : packets (without (5 ∷ [])) 5 16 plain ≡ []
  pub none_with_headers : packets (without (4 ∷ 6 ∷ [])) 5 0 plain ≡ []
  pub stray_with_headers : segments_of (without []) 5 16 (read plain) ≡ packet ∷ []
  pub is_stray : stray_of [] packet ≡ true
  pub no_stray : stray_of [] (whole_segment packet) ≡ false
  pub none_incomplete : incomplete_of (whole_segment packet ∷ []) ≡ None
  pub delivers_both : packets (without (5 ∷ [])) 5 0 both ≡ first ∷ second ∷ []
  pub left : tail_of [] (whole_segment (first ++ 0x00 ∷ 0x00 ∷ [])) ≡ 2

pub are_plain : ArePlain
are_plain = assumption

pub record HavePlainForms : Type 0 where
  pub of_one : tc_normal_form_of (format 24) 1 (replicate 64 0) (5 ∷ []) (on_5 ((packet ∷ []) ∷ [])) ≡ plain
  pub of_two : tc_normal_form_of (format 24) 1 (replicate 64 0) (5 ∷ []) (on_5 ((first ∷ second ∷ []) ∷ [])) ≡ apart
  pub room : plain_room_of (format 16) ≡ 11

pub have_plain_forms : HavePlainForms
have_plain_forms = record { of_one = refl; of_two = refl; room = refl }

-- ---- starts

-- the first packet on virtual channel 5 with N(S) 255
abbrev from_255 : List ℕ
from_255 = 0x00 ∷ 0x01 ∷ 0x14 ∷ 0x0C ∷ 0xFF ∷ 0xC0 ∷ first

abbrev starts : List ℕ
starts = slice_set (replicate 64 0) 5 255

abbrev from_starts : ReceptionParameters
from_starts = record { window = 10; starts = starts; plain = [] }

pub record HaveStarts : Type 0 where
  pub of_5 : initial_vr from_starts 5 ≡ 255
  pub of_others : initial_vr from_starts 4 ≡ 0
  pub accepts : accepted_units 10 (initial_vr from_starts 5) (views_on 5 (read from_255)) ≡ (0xC0 ∷ first) ∷ []
  pub delivers : packets from_starts 5 0 from_255 ≡ first ∷ []
  pub not_from_0 : packets (without []) 5 0 from_255 ≡ []
  pub normal : tc_normal_form_of (format 24) 1 starts [] (on_5 ((first ∷ []) ∷ [])) ≡ from_255

pub have_starts : HaveStarts
have_starts = record { of_5 = refl; of_others = refl; accepts = refl; delivers = refl; not_from_0 = refl; normal = refl }
