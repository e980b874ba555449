-- The anomalies of a segment of a MAP are reported exactly where they are, and from the series that is incomplete
-- before the segment.
use Rattle.std.proofs.Common.{arith, ◌≡◌, ◌⊎◌, ℕ, ◌+◌, ◌<◌, ◌==◌, ◌&&◌, ◌||◌, Bool, true, false, if◌then◌else◌, List, [], ◌∷◌, length, Option, None, Some, refl, sym, ◌∙◌, ap, eqb-true, lt-ltb}
use Rattle.std.proofs.lemmas.Bool.{ltb-true}
use Rattle.std.proofs.lemmas.Bool.Decides.{eqb_tells}
use Rattle.std.specs.Prelude.{is_none, option_map}
use Rattle.sl_tcframe.specs.TcFrame.{TcView}
use Rattle.sl_tcflow.specs.Anomaly.{begins, continues, number_held, told_of_segment, of_accepted, StrayIsTold, WhatIsToldIsStray, DroppedIsTold, WhatIsToldIsDropped, LongIsTold, WhatIsToldIsLong}
use Rattle.sl_tcflow.specs.Incomplete.{IsIncomplete, incomplete_of, exceeds_limit}
use Rattle.sl_tcflow.specs.Receiver.{AreIncomplete, unit_map, segment_by}
use Rattle.sl_tcflow.specs.Reception.{segments_of}
use Rattle.sl_tcflow.specs.ReceptionParameters.{ReceptionParameters}
use Rattle.sl_tcflow.specs.Recording.{channel_at}
use Rattle.sl_tcflow.specs.Series.{flags_of, header_at, segment_data}
use Rattle.sl_tcflow.specs.SeriesStore.{at}
use Rattle.sl_tcflow.proofs.lemmas.Series.Incomplete.{incomplete_is_told, what_is_told_is_incomplete}
use Rattle.sl_tcflow.proofs.lemmas.Reception.Unit.{map_fits}
use Rattle.std.proofs.lemmas.Bool.{and_parts}

-- ---- the accepted unit of the next frame

-- without an accepted unit nothing is reported
pub told_none : {X : Type 0} (none : X) (told : List (List ℕ) → List ℕ → X) (r : ReceptionParameters) (views : List TcView) (next : TcView)
    → segment_by r views next ≡ [] → of_accepted none told r views next ≡ none
told_none none told r views next no_segment = ap (told_of_segment none (told (segments_of r next.vc (unit_map r next) views))) no_segment

-- with an accepted unit, the report depends on the series that is incomplete at the unit's index
module _ (r : ReceptionParameters) (old : List (Option (List ℕ))) (views : List TcView) (next : TcView) (unit : List ℕ) where
  told_more : {X : Type 0} (none : X) (told : List (List ℕ) → List ℕ → X) (from : Option (List ℕ) → List ℕ → X)
      → ((list : List (List ℕ)) (segment : List ℕ) → told list segment ≡ from (incomplete_of list) segment)
      → AreIncomplete r old views → next.vc < 64 → segment_by r views next ≡ unit ∷ []
      → unit_map r next ≡ (header_at unit).map
      → of_accepted none told r views next ≡ from (at old (channel_at next.vc (header_at unit).map)) unit
  told_more none told from same are inside unit_is map_id_is = grind (arith, map_fits)

  pub told_at : {X : Type 0} (none : X) (told : List (List ℕ) → List ℕ → X) (from : Option (List ℕ) → List ℕ → X)
      → ((list : List (List ℕ)) (segment : List ℕ) → told list segment ≡ from (incomplete_of list) segment)
      → (vc : ℕ) (answer : X) → AreIncomplete r old views → next.vc < 64 → segment_by r views next ≡ unit ∷ []
      → unit_map r next ≡ (header_at unit).map → vc ≡ next.vc → answer ≡ from (at old (channel_at vc (header_at unit).map)) unit
      → answer ≡ of_accepted none told r views next
  told_at none told from same vc answer are inside unit_is map_id_is same_vc is = grind (arith, told_more)

-- ---- by the sequence flags

continues_is : (next : List ℕ) → (flags_of next ≡ 0) ⊎ (flags_of next ≡ 2) → continues next ≡ true
continues_is next is = grind arith

begins_is : (next : List ℕ) → (flags_of next ≡ 1) ⊎ (flags_of next ≡ 3) → begins next ≡ true
begins_is next is = grind arith

-- one of two numbers
one_of : (n a b : ℕ) → (n == a || n == b) ≡ true → (n ≡ a) ⊎ (n ≡ b)
one_of n a b either = grind (arith, eqb_tells, eqb-true)

-- ---- out of sequence

none_told : (list : List (List ℕ)) (held : Option (List ℕ)) → incomplete_of list ≡ held → ((octets : List ℕ) → IsIncomplete list octets → ⊥) → is_none held ≡ true
none_told list None held_is none = refl
none_told list (Some octets) held_is none = absurd (none octets (what_is_told_is_incomplete list octets held_is))

pub stray_is_told : StrayIsTold
stray_is_told list next stray = ap (λ b. b && is_none (incomplete_of list)) (continues_is next stray.goes_on) ∙ none_told list (incomplete_of list) refl stray.none

pub what_is_told_is_stray : WhatIsToldIsStray
what_is_told_is_stray list next told =
    let (test, none) = and_parts (continues next) (is_none (incomplete_of list)) told in
    record {
      goes_on = one_of (flags_of next) 0 2 test;
      none = λ octets incomplete. let both : false ≡ true = sym (ap is_none (incomplete_is_told list octets incomplete)) ∙ none in absurd (cc);
    }

-- ---- dropped

pub dropped_is_told : DroppedIsTold
dropped_is_told list next count dropped =
    ap (λ b. if b then number_held list else None) (begins_is next dropped.anew)
    ∙ ap (option_map length) (incomplete_is_told list dropped.octets dropped.incomplete) ∙ ap Some (sym dropped.count_is)

some_if : (b : Bool) (held : Option ℕ) (count : ℕ) → (if b then held else None) ≡ Some count → (b ≡ true) × (held ≡ Some count)
some_if b held count held_if = grind arith

-- the series whose octets are counted
some_held : (list : List (List ℕ)) (held : Option (List ℕ)) (count : ℕ) → incomplete_of list ≡ held → option_map length held ≡ Some count
    → (octets : List ℕ) × IsIncomplete list octets × (count ≡ length octets)
some_held list held count held_is counted = grind (arith, what_is_told_is_incomplete)

pub what_is_told_is_dropped : WhatIsToldIsDropped
what_is_told_is_dropped list next count told = grind (arith, some_if, some_held, one_of)

-- ---- too long

pub long_is_told : LongIsTold
long_is_told list next long =
    ap (λ b. b && exceeds_limit (number_held list) (length (segment_data next))) (continues_is next long.goes_on)
    ∙ ap (λ held. exceeds_limit (option_map length held) (length (segment_data next))) (incomplete_is_told list long.octets long.incomplete)
    ∙ lt-ltb 65542 (length long.octets + length (segment_data next)) long.too_many

some_passes : (list : List (List ℕ)) (held : Option (List ℕ)) (more : ℕ) → incomplete_of list ≡ held → exceeds_limit (option_map length held) more ≡ true
    → (octets : List ℕ) × IsIncomplete list octets × (65542 < length octets + more)
some_passes list held more held_is over = grind (arith, what_is_told_is_incomplete, ltb-true)

pub what_is_told_is_long : WhatIsToldIsLong
what_is_told_is_long list next told = grind (arith, and_parts, some_passes, one_of)
