-- Known frames that arrive out of order, lost and repeated. They show that the laws aren't empty, what FARM-1 does
-- with copies that are too far away, and what a frame of type BD between the segments of a packet does.
use Rattle.std.proofs.Common.{◌≡◌, ◌≢◌, ℕ, ◌/◌, ◌%◌, true, false, List, [], ◌∷◌, ◌++◌, get_or, map, replicate, refl, ap, arith, rules}
use Rattle.std.specs.List.{range_with_len}
use mathlib.Core.List.{IsPrefix}
use Rattle.sl_cop.specs.declared.verdict.Verdict.TheVariants.{Accept, Early, Late, Outside, Refused, Command}
use Rattle.sl_cop.specs.Farm.{farm_start, verdicts_of}
use Rattle.sl_cop.specs.FarmClcw.{clcw_of}
use Rattle.sl_cop.specs.Reordered.{Arrival, Copy, OfTypeBd, UnlockCommand, AreInWindow, IsInWindow, accepted_count, ns_of}
use Rattle.sl_cop.proofs.ReorderedFacts.{far, far_are_near, of_each}
use Rattle.sl_tcframe.specs.TcDelimited.{tc_frames_of}
use Rattle.sl_tcframe.specs.TcFrame.{TcFormat, TcView, Ad, Bd, Unlock}
use Rattle.sl_tcflow.specs.AcceptedUnit.{accepted_ad_units, accepted_units, views_on, events_of, farm_after, views_of}
use Rattle.sl_tcflow.specs.Reception.{packets_of_segments, segments_of}
use Rattle.sl_tcflow.specs.ReceptionParameters.{ReceptionParameters}
use Rattle.sl_tcflow.specs.ReorderedUnits.{AreReordered, AreReorderedInWindow, HaveNoBd, recorded_packets}
use Rattle.sl_tcflow.specs.Series.{segments_on}
use Rattle.sl_tcflow.proofs.lemmas.Reception.Reordered.{recorded_on}

-- ---- a recording: of three units the first two arrive, out of order and twice, and the last one too early

abbrev format : TcFormat
format = record { max = 16; fecf = false }

-- a window of width 10, and the initial V(R) 0
abbrev from_0 : ReceptionParameters
from_0 = record { window = 10; starts = replicate 64 0; plain = [] }

-- the packet of these octets, and its unit
abbrev packet : ℕ → List ℕ
packet octet = 0x10 ∷ 0x01 ∷ 0xC0 ∷ 0x00 ∷ 0x00 ∷ 0x03 ∷ octet ∷ octet ∷ octet ∷ octet ∷ []

abbrev unit : ℕ → List ℕ
unit octet = 0xC0 ∷ packet octet

-- a frame of type AD of spacecraft 1, on virtual channel 0, with this N(S)
abbrev frame : ℕ → ℕ → List ℕ
frame ns octet = 0x00 ∷ 0x01 ∷ 0x00 ∷ 0x0F ∷ ns ∷ unit octet

abbrev recording : List ℕ
recording = frame 1 0xBB ++ frame 0 0xAA ++ frame 0 0xAA ++ frame 2 0xCC ++ frame 1 0xBB

abbrev views : List TcView
views = views_of format 1 (tc_frames_of format recording)

abbrev sent : List (List ℕ)
sent = unit 0xAA ∷ unit 0xBB ∷ unit 0xCC ∷ []

abbrev arrivals : List Arrival
arrivals = Copy 1 ∷ Copy 0 ∷ Copy 0 ∷ Copy 2 ∷ Copy 1 ∷ []

pub recording_in_window : AreReorderedInWindow 10 0 sent (views_on 0 views) arrivals
recording_in_window =
    record {
      initial = omega arith;
      most = omega arith;
      arrive = ((omega arith, refl), ((omega arith, refl), ((omega arith, refl), ((omega arith, refl), ((omega arith, refl), tt)))));
      within = of_each (λ before k. IsInWindow 10 (accepted_count 10 0 before) k) arrivals (search rules);
    }

ad_isnt_bd : (ns : ℕ) (unit other : List ℕ) → Ad ns unit ≢ Bd other
ad_isnt_bd ns unit other e = cc

pub recording_has_no_bd : HaveNoBd (views_on 0 views)
recording_has_no_bd =
    (ad_isnt_bd 1 (unit 0xBB), (ad_isnt_bd 0 (unit 0xAA), (ad_isnt_bd 0 (unit 0xAA), (ad_isnt_bd 2 (unit 0xCC), (ad_isnt_bd 1 (unit 0xBB), tt)))))

pub record IsReordered : Type 0 where
  pub verdicts : verdicts_of 10 (farm_start 0) (events_of (views_on 0 views)) ≡ Early ∷ Accept ∷ Late ∷ Early ∷ Accept ∷ []
  pub units : accepted_ad_units 10 0 (views_on 0 views) ≡ unit 0xAA ∷ unit 0xBB ∷ []
  pub all_units : accepted_units 10 0 (views_on 0 views) ≡ unit 0xAA ∷ unit 0xBB ∷ []
  pub vr : (farm_after 10 0 (views_on 0 views)).vr ≡ 2
  pub report : (clcw_of 0 (farm_after 10 0 (views_on 0 views))).report ≡ 2
  pub packets : packets_of_segments (segments_of from_0 0 0 views) ≡ packet 0xAA ∷ packet 0xBB ∷ []
  pub packets_sent : packets_of_segments (segments_on 0 sent) ≡ packet 0xAA ∷ packet 0xBB ∷ packet 0xCC ∷ []
  pub recorded : recorded_packets format 1 from_0 0 0 recording ≡ packet 0xAA ∷ packet 0xBB ∷ []

pub is_reordered : IsReordered
is_reordered = record {
  verdicts = refl;
  units = refl;
  all_units = refl;
  vr = refl;
  report = refl;
  packets = refl;
  packets_sent = refl;
  recorded = recorded_on format 1 from_0 0 0 recording (omega arith) (omega arith);
}

-- ---- frames of all types, while V(R) exceeds_limit 255

-- the sent unit of number `k`, and a copy of its frame
abbrev numbered : ℕ → List ℕ
numbered k = 0xC0 ∷ k / 256 ∷ k % 256 ∷ []

abbrev copy : ℕ → TcView
copy k = record { vc = 5; content = Ad (ns_of 254 k) (numbered k) }

abbrev mixed : List TcView
mixed =
    copy 1 ∷ copy 0 ∷ record { vc = 5; content = Bd (0xC0 ∷ []) } ∷ copy 0 ∷ copy 3 ∷ copy 1 ∷ record { vc = 5; content = Unlock } ∷ copy 2 ∷ []

abbrev mixed_arrivals : List Arrival
mixed_arrivals = Copy 1 ∷ Copy 0 ∷ OfTypeBd ∷ Copy 0 ∷ Copy 3 ∷ Copy 1 ∷ UnlockCommand ∷ Copy 2 ∷ []

abbrev four : List (List ℕ)
four = numbered 0 ∷ numbered 1 ∷ numbered 2 ∷ numbered 3 ∷ []

pub mixed_in_window : AreReorderedInWindow 10 254 four mixed mixed_arrivals
mixed_in_window =
    record {
      initial = omega arith;
      most = omega arith;
      arrive = (
        (omega arith, refl),
        (
          (omega arith, refl),
          ((0xC0 ∷ [], refl), ((omega arith, refl), ((omega arith, refl), ((omega arith, refl), (refl, ((omega arith, refl), tt)))))),
        ),
      );
      within = of_each (λ before k. IsInWindow 10 (accepted_count 10 254 before) k) mixed_arrivals (search rules);
    }

pub record IsMixed : Type 0 where
  pub verdicts : verdicts_of 10 (farm_start 254) (events_of mixed)
      ≡ Early ∷ Accept ∷ Accept ∷ Late ∷ Early ∷ Accept ∷ Command ∷ Accept ∷ []
  pub units : accepted_ad_units 10 254 mixed ≡ numbered 0 ∷ numbered 1 ∷ numbered 2 ∷ []
  pub all_units : accepted_units 10 254 mixed ≡ numbered 0 ∷ (0xC0 ∷ []) ∷ numbered 1 ∷ numbered 2 ∷ []
  pub vr : (farm_after 10 254 mixed).vr ≡ 1
  pub lockout : (farm_after 10 254 mixed).lockout ≡ false

pub is_mixed : IsMixed
is_mixed = assumption

-- ---- copies that aren't in the window, and so a lockout

abbrev far_frames : List TcView
far_frames = copy 0 ∷ copy 100 ∷ copy 1 ∷ record { vc = 5; content = Unlock } ∷ copy 256 ∷ copy 1 ∷ copy 1 ∷ []

abbrev many : List (List ℕ)
many = map numbered (range_with_len 0 257)

pub far_are_reordered : AreReordered 10 254 many far_frames far
far_are_reordered =
    record {
      initial = omega arith;
      arrive = ((omega arith, refl), ((omega arith, refl), ((omega arith, refl), (refl, ((omega arith, refl), ((omega arith, refl), ((omega arith, refl), tt)))))));
      near = far_are_near;
    }

not_in_window : AreInWindow 10 254 far → ⊥
not_in_window within = let second = within (Copy 0 ∷ []) (Copy 1 ∷ UnlockCommand ∷ Copy 256 ∷ Copy 1 ∷ Copy 1 ∷ []) 100 refl in let ahead = second.1 in omega arith

pub record AreFar : Type 0 where
  pub outside : AreInWindow 10 254 far → ⊥
  pub verdicts : verdicts_of 10 (farm_start 254) (events_of far_frames) ≡ Accept ∷ Outside ∷ Refused ∷ Command ∷ Late ∷ Accept ∷ Late ∷ []
  pub lockout : (farm_after 10 254 (copy 0 ∷ copy 100 ∷ [])).lockout ≡ true
  pub units : accepted_ad_units 10 254 far_frames ≡ numbered 0 ∷ numbered 1 ∷ []
  pub vr : (farm_after 10 254 far_frames).vr ≡ 0

pub are_far : AreFar
are_far = record { outside = not_in_window; verdicts = refl; lockout = refl; units = refl; vr = refl }

-- ---- copies that are 256 away from the expected frame

pub record AreTooFar : Type 0 where
  pub ahead : accepted_ad_units 10 254 (copy 256 ∷ []) ≡ numbered 256 ∷ []
  pub behind : accepted_ad_units 10 254 (map copy (range_with_len 0 256) ++ copy 0 ∷ []) ≡ map numbered (range_with_len 0 256) ++ numbered 0 ∷ []

pub are_too_far : AreTooFar
are_too_far = record { ahead = refl; behind = refl }

-- ---- a frame of type BD between the segments of a packet

-- a packet in two segments: its primary header, and its other octets
abbrev header_unit : List ℕ
header_unit = 0x40 ∷ 0x10 ∷ 0x01 ∷ 0xC0 ∷ 0x00 ∷ 0x00 ∷ 0x03 ∷ []

abbrev last_unit : ℕ → List ℕ
last_unit octet = 0x80 ∷ octet ∷ octet ∷ octet ∷ octet ∷ []

abbrev divided : List (List ℕ)
divided = header_unit ∷ last_unit 0xAA ∷ []

-- a frame of type BD with a last segment comes between the two
abbrev between : List TcView
between =
    record { vc = 0; content = Ad 0 header_unit } ∷ record { vc = 0; content = Bd (last_unit 0xBB) } ∷ record { vc = 0; content = Ad 1 (last_unit 0xAA) } ∷ []

pub between_in_window : AreReorderedInWindow 10 0 divided (views_on 0 between) (Copy 0 ∷ OfTypeBd ∷ Copy 1 ∷ [])
between_in_window =
    record {
      initial = omega arith;
      most = omega arith;
      arrive = ((omega arith, refl), ((last_unit 0xBB, refl), ((omega arith, refl), tt)));
      within = of_each (λ before k. IsInWindow 10 (accepted_count 10 0 before) k) (Copy 0 ∷ OfTypeBd ∷ Copy 1 ∷ []) (search rules);
    }

not_as_sent : IsPrefix (packet 0xBB ∷ []) (packet 0xAA ∷ []) → ⊥
not_as_sent (more, same) = let octet : 0xBB ≡ 0xAA = ap (λ l. get_or (get_or l 0 []) 6 0) same in omega (arith, octet)

-- The units of type AD are accepted as they were sent. A packet is delivered that none of them make, and the packet
-- that they make isn't.
pub record BdMatters : Type 0 where
  pub units : accepted_ad_units 10 0 (views_on 0 between) ≡ divided
  pub packets : packets_of_segments (segments_of from_0 0 0 between) ≡ packet 0xBB ∷ []
  pub packets_sent : packets_of_segments (segments_on 0 divided) ≡ packet 0xAA ∷ []
  pub no_prefix : IsPrefix (packets_of_segments (segments_of from_0 0 0 between)) (packets_of_segments (segments_on 0 divided)) → ⊥

pub bd_matters : BdMatters
bd_matters = record { units = refl; packets = refl; packets_sent = refl; no_prefix = not_as_sent }
