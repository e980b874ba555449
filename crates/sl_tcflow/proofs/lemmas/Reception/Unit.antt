-- The accepted unit of the next frame among the segments of its virtual channel and MAP.
use Rattle.std.proofs.Common.{None, Some, ◌⊎◌, ◌≡◌, ◌≢◌, ℕ, ◌<◌, Bool, List, [], ◌∷◌, ◌++◌, Option, map, inl, inr, refl, sym, ◌∙◌, ap, ap₂, subst, arith, append-nil, cond, eq-eqb, ne_eqb}
use Rattle.std.specs.List.{flat_map}
use Rattle.std.proofs.lemmas.Bool.Decides.{eqb_tells}
use Rattle.std.proofs.lemmas.List.{map-append}
use Rattle.std.proofs.lemmas.List.Elements.{filter-append}
use Rattle.sl_cop.specs.declared.verdict.Verdict.{Verdict}
use Rattle.sl_cop.specs.declared.verdict.Verdict.TheVariants.{Accept, Early, Late, Outside, Refused, Command}
use Rattle.sl_cop.specs.Farm.{farm_start, farm_step}
use Rattle.sl_cop.proofs.ReorderedLemmas.{accepted_more}
use Rattle.sl_tcframe.specs.TcFrame.{TcView, Content, Ad, Bd, Unlock, SetVr}
use Rattle.sl_tcflow.specs.AcceptedUnit.{event_of, farm_after, unit_of, unit_by, accepted_units}
use Rattle.sl_tcflow.specs.Farms.{verdict_on}
use Rattle.sl_tcflow.specs.Incomplete.{incomplete_of}
use Rattle.sl_tcflow.specs.IncompleteSteps.{incomplete_after, incomplete_with, packets_after, packets_with}
use Rattle.sl_tcflow.specs.Receiver.{AreIncomplete, IsIncompleteAround, unit_map, map_of, segment_by, unit_channel, ended_by}
use Rattle.sl_tcflow.specs.UnitCounter.{IsIncompleteAfter}
use Rattle.sl_tcflow.specs.Reception.{packets_ended, segments_of}
use Rattle.sl_tcflow.specs.ReceptionParameters.{ReceptionParameters, is_plain}
use Rattle.sl_tcflow.specs.Recording.{channel_at}
use Rattle.sl_tcflow.specs.Segment.{SegmentView, accepted_segment, carried_segment, map_read, segment_view}
use Rattle.sl_tcflow.specs.Series.{header_at, segment_in, segments_on}
use Rattle.sl_tcflow.specs.SeriesStore.{at, IsPlaced}
use Rattle.sl_tcflow.proofs.lemmas.Reception.Ended.{ended_next}
use Rattle.sl_tcflow.proofs.lemmas.Series.OneMore.{incomplete_next}

-- ---- accepted units

units_from : (w vr : ℕ) (channel : List TcView) (next : TcView)
    → accepted_units w vr (channel ++ next ∷ [])
    ≡ accepted_units w vr channel ++ unit_by (farm_step w (farm_after w vr channel) (event_of next.content)).0 next.content
units_from w vr channel next = accepted_more (λ (view : TcView). event_of view.content) (λ (view : TcView). unit_of view.content) w (farm_start vr) channel next

-- ---- the segment that is read of a frame's unit

-- its MAP
pub map_carried : (vc : ℕ) (plain : Bool) (content : Content) → map_read (carried_segment vc plain content) ≡ map_of plain content
map_carried vc plain (Ad ns unit) = refl
map_carried vc plain (Bd unit) = refl
map_carried vc plain Unlock = refl
map_carried vc plain (SetVr vr) = refl

-- no segment is accepted
none_carried : (vc : ℕ) (plain : Bool) (verdict : Verdict) (content : Content) → accepted_segment verdict (carried_segment vc plain content) ≡ None
    → map (segment_in plain) (unit_by verdict content) ≡ []
none_carried vc plain verdict content none = grind arith

-- this is read of the accepted segment
abbrev IsAcceptedOf : ℕ → Bool → Verdict → Content → SegmentView → Type 0
IsAcceptedOf vc plain verdict content read =
    (segment : List ℕ) × (map (segment_in plain) (unit_by verdict content) ≡ segment ∷ []) × (map_of plain content ≡ (header_at segment).map)
    × (verdict ≡ Accept) × (read ≡ segment_view vc segment)

some_carried : (vc : ℕ) (plain : Bool) (verdict : Verdict) (content : Content) (read : SegmentView)
    → accepted_segment verdict (carried_segment vc plain content) ≡ Some read → IsAcceptedOf vc plain verdict content read
some_carried vc plain Accept (Ad ns unit) read is = (segment_in plain unit, refl, refl, refl, cc)
some_carried vc plain Accept (Bd unit) read is = (segment_in plain unit, refl, refl, refl, cc)
some_carried vc plain Accept Unlock read is = absurd (cc)
some_carried vc plain Accept (SetVr vr) read is = absurd (cc)
some_carried vc plain Early content read is = absurd (cc)
some_carried vc plain Late content read is = absurd (cc)
some_carried vc plain Outside content read is = absurd (cc)
some_carried vc plain Refused content read is = absurd (cc)
some_carried vc plain Command content read is = absurd (cc)

-- this is read of the next frame's accepted segment
pub record IsReadNext (r : ReceptionParameters) (views : List TcView) (next : TcView) (read : SegmentView) : Type 0 where
  pub segment : List ℕ
  pub accepted : segment_by r views next ≡ segment ∷ []
  pub map_id : unit_map r next ≡ (header_at segment).map
  pub verdict : verdict_on r views next ≡ Accept
  pub view : read ≡ segment_view next.vc segment

module _ (r : ReceptionParameters) (views : List TcView) (next : TcView) (plain : Bool) (verdict : Verdict) (segment : Option SegmentView) where
  pub none_read : plain ≡ is_plain r next.vc → verdict ≡ verdict_on r views next → segment ≡ carried_segment next.vc plain next.content
      → accepted_segment verdict segment ≡ None → segment_by r views next ≡ []
  none_read headers is carried none = grind (arith, none_carried)

  pub some_read : (read : SegmentView) → plain ≡ is_plain r next.vc → verdict ≡ verdict_on r views next → segment ≡ carried_segment next.vc plain next.content
      → accepted_segment verdict segment ≡ Some read → IsReadNext r views next read
  some_read read headers is carried some =
      let (own, accepted, map_id, ok, view) = some_carried next.vc plain verdict next.content read (ap (accepted_segment verdict) (sym carried) ∙ some) in
      record {
        segment = own;
        accepted = ap₂ (λ b v. map (segment_in b) (unit_by v next.content)) (sym headers) (sym is) ∙ accepted;
        map_id = ap (λ b. map_of b next.content) (sym headers) ∙ map_id;
        verdict = sym is ∙ ok;
        view = view;
      }

  -- the MAP of the unit, accepted or not
  pub map_read_is : plain ≡ is_plain r next.vc → segment ≡ carried_segment next.vc plain next.content → map_read segment ≡ unit_map r next
  map_read_is headers carried =
      ap map_read carried ∙ map_carried next.vc plain next.content ∙ ap (λ b. map_of b next.content) headers

-- ---- the segments of a MAP

pub segments_next : (r : ReceptionParameters) (map_id : ℕ) (views : List TcView) (next : TcView)
    → segments_of r next.vc map_id (views ++ next ∷ []) ≡ segments_of r next.vc map_id views ++ segments_on map_id (segment_by r views next)
segments_next r map_id views next = grind (arith, eqb_tells, units_from, map-append, filter-append)

segments_other : (r : ReceptionParameters) (vc map_id : ℕ) (views : List TcView) (next : TcView) → (next.vc ≡ vc → ⊥)
    → segments_of r vc map_id (views ++ next ∷ []) ≡ segments_of r vc map_id views
segments_other r vc map_id views next other = grind (arith, eqb_tells, filter-append, append-nil)

-- the unit is among the segments of its own MAP alone
on_map : (map_id : ℕ) (unit : List ℕ) → (header_at unit).map ≡ map_id → segments_on map_id (unit ∷ []) ≡ unit ∷ []
on_map map_id unit same = ap (λ b. cond b (unit ∷ []) []) (eq-eqb (header_at unit).map map_id same)

on_other_map : (map_id : ℕ) (unit : List ℕ) → (header_at unit).map ≢ map_id → segments_on map_id (unit ∷ []) ≡ []
on_other_map map_id unit other = ap (λ b. cond b (unit ∷ []) []) (ne_eqb (header_at unit).map map_id other)

pub map_fits : (unit : List ℕ) → (header_at unit).map < 64
map_fits unit = omega arith

-- ---- the incomplete series

-- without an accepted unit all series stay
pub incomplete_same : (r : ReceptionParameters) (incomplete : List (Option (List ℕ))) (views : List TcView) (next : TcView) → AreIncomplete r incomplete views
    → segment_by r views next ≡ [] → AreIncomplete r incomplete (views ++ next ∷ [])
incomplete_same r incomplete views next are none vc map_id vc_fits map_id_fits = grind (arith, eqb_tells, segments_next, append-nil, segments_other)

other_index : (index vc map_id vc' map_id' : ℕ) → index ≡ channel_at vc map_id → map_id < 64 → map_id' < 64 → map_id ≢ map_id' → channel_at vc' map_id' ≢ index
other_index index vc map_id vc' map_id' is fits fits' other same = other (omega (arith, is, fits, fits', same))

other_vc_index : (index vc map_id vc' map_id' : ℕ) → index ≡ channel_at vc map_id → map_id < 64 → map_id' < 64 → vc ≢ vc' → channel_at vc' map_id' ≢ index
other_vc_index index vc map_id vc' map_id' is fits fits' other same = other (omega (arith, is, fits, fits', same))

-- with an accepted unit, only the series at its index changes
module _ (r : ReceptionParameters) (old : List (Option (List ℕ))) (views : List TcView) (next : TcView) (unit : List ℕ) (index : ℕ) where
  pub incomplete_more : (new : List (Option (List ℕ))) → AreIncomplete r old views → next.vc < 64 → segment_by r views next ≡ unit ∷ []
      → index ≡ channel_at next.vc (header_at unit).map → IsPlaced old index (incomplete_after (at old index) unit) new
      → AreIncomplete r new (views ++ next ∷ [])
  incomplete_more new are inside unit_is here placed vc map_id vc_fits map_id_fits =
      elim (eqb_tells next.vc vc) [
        | inl (test, same) ↦
            elim (eqb_tells (header_at unit).map map_id) [
              | inl (test', same') ↦
                  let there : index ≡ channel_at vc map_id = here ∙ ap (λ n. channel_at n (header_at unit).map) same ∙ ap (channel_at vc) same' in
                  let segments : segments_of r vc map_id (views ++ next ∷ []) ≡ segments_of r vc map_id views ++ unit ∷ [] =
                  subst (λ n. segments_of r n map_id (views ++ next ∷ []) ≡ segments_of r n map_id views ++ unit ∷ []) same
                  (segments_next r map_id views next ∙ ap (λ l. segments_of r next.vc map_id views ++ segments_on map_id l) unit_is
                  ∙ ap (λ l. segments_of r next.vc map_id views ++ l) (on_map map_id unit same')) in
                  ap (at new) (sym there) ∙ placed.here
                  ∙ ap (λ n. incomplete_after (at old n) unit) there
                  ∙ ap (λ held. incomplete_after held unit) (are vc map_id vc_fits map_id_fits)
                  ∙ sym (incomplete_next (segments_of r vc map_id views) unit) ∙ ap incomplete_of (sym segments)
              | inr (test', other) ↦
                  let segments : segments_of r vc map_id (views ++ next ∷ []) ≡ segments_of r vc map_id views =
                  subst (λ n. segments_of r n map_id (views ++ next ∷ []) ≡ segments_of r n map_id views) same
                  (segments_next r map_id views next ∙ ap (λ l. segments_of r next.vc map_id views ++ segments_on map_id l) unit_is
                  ∙ ap (λ l. segments_of r next.vc map_id views ++ l) (on_other_map map_id unit other) ∙ append-nil (segments_of r next.vc map_id views)) in
                  placed.others (channel_at vc map_id) (other_index index next.vc (header_at unit).map vc map_id here (map_fits unit) map_id_fits other)
                  ∙ are vc map_id vc_fits map_id_fits ∙ ap incomplete_of (sym segments)
            ]
        | inr (test, other) ↦
            placed.others (channel_at vc map_id) (other_vc_index index next.vc (header_at unit).map vc map_id here (map_fits unit) map_id_fits other)
            ∙ are vc map_id vc_fits map_id_fits ∙ ap incomplete_of (sym (segments_other r vc map_id views next other))
      ]

  -- ---- the packets that end

  pub ended_more : AreIncomplete r old views → next.vc < 64 → segment_by r views next ≡ unit ∷ []
      → unit_map r next ≡ (header_at unit).map → index ≡ channel_at next.vc (header_at unit).map
      → ended_by r views next ≡ packets_after (at old index) unit
  ended_more are inside unit_is map_id_is here = grind (arith, append-nil, ended_next, map_fits)

  -- ---- where memory is asked for

  pub around_more : AreIncomplete r old views → next.vc < 64 → segment_by r views next ≡ unit ∷ []
      → unit_map r next ≡ (header_at unit).map → index ≡ channel_at next.vc (header_at unit).map
      → (at old index ≢ None) ⊎ (incomplete_after (at old index) unit ≢ None) → IsIncompleteAround r views next
  around_more are inside unit_is map_id_is here around = grind (arith, map_fits, segments_next, on_map, incomplete_next)

  pub after_more : AreIncomplete r old views → next.vc < 64 → segment_by r views next ≡ unit ∷ []
      → unit_map r next ≡ (header_at unit).map → index ≡ channel_at next.vc (header_at unit).map
      → incomplete_after (at old index) unit ≢ None → IsIncompleteAfter r views next
  after_more are inside unit_is map_id_is here after = grind (arith, map_fits, segments_next, on_map, incomplete_next)

-- the same, from what is read of the unit
module _ (r : ReceptionParameters) (old : List (Option (List ℕ))) (views : List TcView) (next : TcView) (read : SegmentView) (is : IsReadNext r views next read) where
  pub incomplete_read : (new : List (Option (List ℕ))) → AreIncomplete r old views → next.vc < 64
      → IsPlaced old read.channel (incomplete_with (at old read.channel) read.flags read.octets) new → AreIncomplete r new (views ++ next ∷ [])
  incomplete_read new are inside placed =
      incomplete_more r old views next is.segment (channel_at next.vc (header_at is.segment).map) new are inside is.accepted refl (rw (is.view) at placed)

  pub ended_read : AreIncomplete r old views → next.vc < 64 → ended_by r views next ≡ packets_with (at old read.channel) read.flags read.octets
  ended_read are inside =
      ended_more r old views next is.segment (channel_at next.vc (header_at is.segment).map) are inside is.accepted is.map_id refl
      ∙ ap (λ (s : SegmentView). packets_with (at old s.channel) s.flags s.octets) (sym is.view)

  pub around_read : AreIncomplete r old views → next.vc < 64
      → (at old read.channel ≢ None) ⊎ (incomplete_with (at old read.channel) read.flags read.octets ≢ None) → IsIncompleteAround r views next
  around_read are inside around =
      around_more r old views next is.segment (channel_at next.vc (header_at is.segment).map) are inside is.accepted is.map_id refl (rw (is.view) at around)

  pub after_read : AreIncomplete r old views → next.vc < 64 → incomplete_with (at old read.channel) read.flags read.octets ≢ None → IsIncompleteAfter r views next
  after_read are inside after =
      after_more r old views next is.segment (channel_at next.vc (header_at is.segment).map) are inside is.accepted is.map_id refl (rw (is.view) at after)

  -- the channel of the unit
  pub channel_read : read.channel ≡ unit_channel r next
  channel_read = ap (λ (s : SegmentView). s.channel) is.view ∙ ap (channel_at next.vc) (sym is.map_id)

pub ended_none : (r : ReceptionParameters) (views : List TcView) (next : TcView) → segment_by r views next ≡ [] → ended_by r views next ≡ []
ended_none r views next none = ap (flat_map (packets_ended (segments_of r next.vc (unit_map r next) views))) none
