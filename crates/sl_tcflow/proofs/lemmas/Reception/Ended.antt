-- The packets of the service data unit that ends with the next segment of a MAP, and the octets after them, from the
-- series that is incomplete before this segment.
use Rattle.std.proofs.Common.{arith, ◌≡◌, ◌≢◌, ℕ, ◌+◌, ◌==◌, ◌&&◌, nat_le, Bool, true, false, if◌then◌else◌, List, [], ◌∷◌, ◌++◌, length, Option, None, Some, refl, ◌∙◌, ap, append-nil, ne_eqb}
use Rattle.std.proofs.lemmas.Grind.{common_steps}
use Rattle.std.specs.List.{filter, flat_map}
use Rattle.std.proofs.lemmas.Bool.Decides.{eqb_tells}
use Rattle.sl_packet.specs.Packets.{packets_of, rest_of}
use Rattle.sl_tcflow.specs.Anomaly.{tail_of}
use Rattle.sl_tcflow.specs.Incomplete.{if_fits, incomplete_of}
use Rattle.sl_tcflow.specs.IncompleteSteps.{extended, service_unit_after, packets_of_service_unit, packets_after, rest_of_service_unit, tail_after}
use Rattle.sl_tcflow.specs.Reception.{packets_ended}
use Rattle.sl_tcflow.specs.Series.{flags_of, segment_data, SeriesAt, past, series_of, reassembled}
use Rattle.sl_tcflow.proofs.lemmas.Series.Fit.{reassembled-push, extended_fits}
use Rattle.sl_tcflow.proofs.lemmas.Series.OneMore.{series_ending, ending_is}
use Rattle.sl_tcflow.proofs.lemmas.Series.Listed.{series_at}

-- ---- by the sequence flags of the next segment

ended_last : (held : Option (List ℕ)) (next : List ℕ) → flags_of next ≡ 2 → service_unit_after held next ≡ extended held (segment_data next)
ended_last held next is = grind arith

-- the incomplete series matters to a last segment alone
ended_other : (held other : Option (List ℕ)) (next : List ℕ) → flags_of next ≢ 2 → service_unit_after held next ≡ service_unit_after other next
ended_other held other next not_2 = grind (arith, ne_eqb)

-- ---- lists that belong to a service data unit

module _ {X : Type 0} (of : List ℕ → List X) where
  -- the list of a service data unit, if there is one
  abbrev in_unit : Option (List ℕ) → List X
  in_unit None = []
  in_unit (Some octets) = of octets

  -- the list of a series' service data unit, where it isn't too long
  abbrev in_segments : List (List ℕ) → List X
  in_segments segments = if nat_le (length (reassembled segments)) 65542 then of (reassembled segments) else []

  in_if : (b : Bool) (octets : List ℕ) → (if b then of octets else []) ≡ in_unit (if b then Some octets else None)
  in_if b octets = grind arith

  in_reassembled : (segments : List (List ℕ)) → in_segments segments ≡ in_unit (if_fits (reassembled segments))
  in_reassembled segments = in_if (nat_le (length (reassembled segments)) 65542) (reassembled segments)

  in_first : (before : ℕ) (next : List ℕ) → flat_map (λ (s : SeriesAt). in_segments s.segments) (series_ending before [] next) ≡ in_unit (service_unit_after None next)
  in_first before next = grind (arith, append-nil, in_reassembled)

  in_after : (begun : Bool) (segment : List ℕ) (later : List (List ℕ)) (next : List ℕ) (ending : List SeriesAt) (before : ℕ) (held : Option (List ℕ))
      → flat_map (λ (s : SeriesAt). in_segments s.segments) ending ≡ in_unit (service_unit_after held next)
      → flat_map (λ (s : SeriesAt). in_segments s.segments)
      (if begun && flags_of next == 2 then series_at before (segment ∷ (later ++ next ∷ [])) ∷ [] else ending)
      ≡ in_unit (service_unit_after (if begun then if_fits (reassembled (segment ∷ later)) else held) next)
  in_after true segment later next ending before held rest = grind (arith, common_steps, eqb_tells, append-nil, in_reassembled, reassembled-push, extended_fits, ended_last, ended_other)
  in_after false segment later next ending before held rest = rest

  in_from : (before : ℕ) (list : List (List ℕ)) (next : List ℕ)
      → flat_map (λ (s : SeriesAt). in_segments s.segments) (series_ending before list next) ≡ in_unit (service_unit_after (incomplete_of list) next)
  in_from before [] next = in_first before next
  in_from before (segment ∷ later) next = grind (arith, in_after, in_from (before + 1) later next)

  in_ended : (list : List (List ℕ)) (next : List ℕ)
      → flat_map (λ (s : SeriesAt). in_segments s.segments) (filter (λ (s : SeriesAt). past s == length list + 1) (series_of (list ++ next ∷ [])))
      ≡ in_unit (service_unit_after (incomplete_of list) next)
  in_ended list next = ap (flat_map (λ (s : SeriesAt). in_segments s.segments)) (ending_is list next) ∙ in_from 0 list next

-- ---- the packets of the service data unit, and the octets after them

pub ended_next : (list : List (List ℕ)) (next : List ℕ) → packets_ended list next ≡ packets_after (incomplete_of list) next
ended_next list next = in_ended packets_of list next ∙ same (service_unit_after (incomplete_of list) next)
  where
    same : (unit : Option (List ℕ)) → in_unit packets_of unit ≡ packets_of_service_unit unit
    same None = refl
    same (Some octets) = refl

pub tail_next : (list : List (List ℕ)) (next : List ℕ) → tail_of list next ≡ tail_after (incomplete_of list) next
tail_next list next = ap length (in_ended rest_of list next ∙ same (service_unit_after (incomplete_of list) next))
  where
    same : (unit : Option (List ℕ)) → in_unit rest_of unit ≡ rest_of_service_unit unit
    same None = refl
    same (Some octets) = refl
