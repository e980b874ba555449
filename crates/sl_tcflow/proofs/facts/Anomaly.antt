-- Segments and frames of known octets, and their anomalies, computed from the definitions.
use Rattle.std.proofs.Common.{◌≡◌, ℕ, true, false, List, [], ◌∷◌, ◌++◌, replicate, None, Some}
use Rattle.std.specs.Prelude.{is_some}
use Rattle.sl_tcframe.specs.TcDelimited.{tc_frames_of}
use Rattle.sl_tcframe.specs.TcFrame.{TcFormat, TcView, Ad, Bd}
use Rattle.sl_tcflow.specs.AcceptedUnit.{views_of}
use Rattle.sl_tcflow.specs.Anomaly.{dropped_by, dropped_of, held_of, long_by, long_of, stray_by, stray_of, tail_by, tail_of}
use Rattle.sl_tcflow.specs.Incomplete.{incomplete_of, exceeds_limit}
use Rattle.sl_tcflow.specs.Reception.{segments_of}
use Rattle.sl_tcflow.specs.ReceptionParameters.{ReceptionParameters}

-- ---- segments of MAP 0

-- a first, a continuing and a last one without octets, and one with no segmentation
abbrev first : List ℕ
first = 0x40 ∷ []

abbrev continuing : List ℕ
continuing = 0x00 ∷ []

abbrev last : List ℕ
last = 0x80 ∷ []

abbrev whole : List ℕ
whole = 0xC0 ∷ []

-- a packet of seven octets
abbrev packet : List ℕ
packet = 0x10 ∷ 0x02 ∷ 0xC0 ∷ 0x01 ∷ 0x00 ∷ 0x00 ∷ 0xEE ∷ []

pub record AreOutOfSequence : Type 0 where
  pub a_continuing_one : stray_of [] continuing ≡ true
  pub a_last_one : stray_of [] last ≡ true
  pub after_the_last : stray_of (first ∷ last ∷ []) continuing ≡ true
  pub after_a_whole_one : stray_of (first ∷ whole ∷ []) last ≡ true
  pub not_a_first_one : stray_of [] first ≡ false
  pub not_a_whole_one : stray_of [] whole ≡ false
  pub not_within_a_series : stray_of (first ∷ continuing ∷ []) last ≡ false

pub are_out_of_sequence : AreOutOfSequence
are_out_of_sequence = assumption

pub record AreDropped : Type 0 where
  -- a series without octets is dropped too
  pub by_a_first_one : dropped_of (first ∷ []) first ≡ Some 0
  pub by_a_whole_one : dropped_of (first ∷ continuing ∷ []) whole ≡ Some 0
  -- the octets of the dropped series count, and those of the next segment don't
  pub of_two_octets : dropped_of ((0x40 ∷ 0x10 ∷ []) ∷ (0x00 ∷ 0x02 ∷ []) ∷ []) (0xC0 ∷ packet) ≡ Some 2
  pub not_by_a_last_one : dropped_of (first ∷ []) last ≡ None
  pub not_after_the_last : dropped_of (first ∷ last ∷ []) whole ≡ None

pub are_dropped : AreDropped
are_dropped = assumption

pub record AreTooLong : Type 0 where
  pub beyond : exceeds_limit (Some 65542) 1 ≡ true
  pub not_by_none : exceeds_limit (Some 65542) 0 ≡ false
  pub not_up_to_it : exceeds_limit (Some 65541) 1 ≡ false
  pub not_without_a_series : long_of [] continuing ≡ false
  pub not_a_short_one : long_of (first ∷ []) last ≡ false

pub are_too_long : AreTooLong
are_too_long = assumption

pub record AreLeft : Type 0 where
  pub of_a_whole_one : tail_of [] (0xC0 ∷ packet ++ 0x77 ∷ []) ≡ 1
  pub of_a_series : tail_of ((0x40 ∷ packet) ∷ []) (0x80 ∷ 0x10 ∷ 0x02 ∷ []) ≡ 2
  pub nothing : tail_of [] (0xC0 ∷ packet ++ packet) ≡ 0
  pub not_before_the_end : tail_of ((0x40 ∷ packet) ∷ []) (0x00 ∷ 0x10 ∷ []) ≡ 0
  pub not_out_of_sequence : tail_of [] (0x80 ∷ 0x10 ∷ []) ≡ 0

pub are_left : AreLeft
are_left = assumption

-- a unit without octets has no anomaly
pub record IsEmpty : Type 0 where
  pub in_sequence : stray_of [] whole ≡ false
  pub none_dropped : dropped_of [] whole ≡ None
  pub not_too_long : long_of [] whole ≡ false
  pub nothing_left : tail_of [] whole ≡ 0

pub is_empty : IsEmpty
is_empty = assumption

-- ---- frames on virtual channel 0

-- a window of width 10, and the initial V(R) 0
abbrev from_0 : ReceptionParameters
from_0 = record { window = 10; starts = replicate 64 0; plain = [] }

abbrev early : List ℕ → TcView
early unit = record { vc = 0; content = Ad 4 unit }

abbrev bypassing : List ℕ → TcView
bypassing unit = record { vc = 0; content = Bd unit }

pub record AreOfFrames : Type 0 where
  pub out_of_sequence : stray_by from_0 [] (bypassing last) ≡ true
  pub a_series_dropped : dropped_by from_0 (bypassing first ∷ []) (bypassing whole) ≡ Some 0
  pub left : tail_by from_0 [] (bypassing (0xC0 ∷ packet ++ 0x77 ∷ [])) ≡ 1
  -- a unit that isn't accepted has no anomaly
  pub not_accepted : stray_by from_0 [] (early last) ≡ false
  pub none_dropped : dropped_by from_0 (bypassing first ∷ []) (early whole) ≡ None
  pub none_too_long : long_by from_0 (bypassing first ∷ []) (early last) ≡ false
  pub none_left : tail_by from_0 [] (early (0xC0 ∷ packet ++ 0x77 ∷ [])) ≡ 0

pub are_of_frames : AreOfFrames
are_of_frames = assumption

-- ---- recordings of spacecraft 1

abbrev read : List ℕ → List TcView
read recording = let format : TcFormat = record { max = 16; fecf = false } in views_of format 1 (tc_frames_of format recording)

-- a first segment without octets
abbrev begun : List ℕ
begun = 0x00 ∷ 0x01 ∷ 0x00 ∷ 0x05 ∷ 0x00 ∷ first

-- a packet and one more octet
abbrev with_tail : List ℕ
with_tail = 0x00 ∷ 0x01 ∷ 0x00 ∷ 0x0D ∷ 0x00 ∷ 0xC0 ∷ packet ++ 0x77 ∷ []

pub record AreRecorded : Type 0 where
  pub held : held_of (segments_of from_0 0 0 (read begun)) ≡ 0
  pub is_open : is_some (incomplete_of (segments_of from_0 0 0 (read begun))) ≡ true
  pub not_on_another_map : is_some (incomplete_of (segments_of from_0 0 1 (read begun))) ≡ false
  pub views : read with_tail ≡ record { vc = 0; content = Ad 0 (0xC0 ∷ packet ++ 0x77 ∷ []) } ∷ []
  pub tail : tail_by from_0 [] (record { vc = 0; content = Ad 0 (0xC0 ∷ packet ++ 0x77 ∷ []) }) ≡ 1

pub are_recorded : AreRecorded
are_recorded = assumption
