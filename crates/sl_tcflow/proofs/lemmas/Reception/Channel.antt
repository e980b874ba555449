-- What one more frame does to the packets of each channel, and to the octets of the incomplete series.
use Rattle.std.proofs.Common.{◌≡◌, ◌≢◌, ◌⊎◌, ℕ, ◌+◌, ◌/◌, ◌%◌, ◌<◌, ◌≤◌, Bool, if◌then◌else◌, cond, List, [], ◌∷◌, ◌++◌, length, map, Option, None, Some, inl, inr, sym, ◌∙◌, ap, arith, append-nil, length-append, length-drop, ne_eqb, eq-eqb}
use Rattle.std.specs.List.{flat_map}
use Rattle.std.proofs.lemmas.Bool.Decides.{eqb_tells}
use Rattle.std.proofs.lemmas.List.Elements.{filter-append}
use Rattle.sl_cop.specs.declared.verdict.Verdict.{Verdict}
use Rattle.sl_packet.specs.Packets.{packets_of}
use Rattle.sl_packet.proofs.CountLemmas.{split_count, packets_within}
use Rattle.sl_tcframe.specs.TcFrame.{TcView, Content, Ad, Bd, Unlock, SetVr}
use Rattle.sl_tcflow.specs.AcceptedUnit.{unit_by}
use Rattle.sl_tcflow.specs.Farms.{verdict_on}
use Rattle.sl_tcflow.specs.Incomplete.{if_fits, incomplete_of}
use Rattle.sl_tcflow.specs.IncompleteSteps.{extended, incomplete_after, packets_after, packets_of_service_unit, service_unit_after}
use Rattle.sl_tcflow.specs.Receiver.{ended_by, unit_map, map_of, segment_by, unit_channel, incomplete_octets_on, octets_of_series}
use Rattle.sl_tcflow.specs.Reception.{packets_ended, packets_of_segments, segments_of}
use Rattle.sl_tcflow.specs.ReceptionParameters.{ReceptionParameters, is_plain}
use Rattle.sl_tcflow.specs.Recording.{channel_at, packets_of_channel}
use Rattle.sl_tcflow.specs.Series.{flags_of, header_at, segment_data, segment_in, segments_on}
use Rattle.sl_tcflow.proofs.lemmas.Reception.Ended.{ended_next}
use Rattle.sl_tcflow.proofs.lemmas.Series.OneMore.{incomplete_next, packets_next}
use Rattle.sl_tcflow.proofs.lemmas.Series.Segment.{octets_of_unit}
use Rattle.sl_tcflow.proofs.lemmas.Reception.Unit.{ended_none, segments_next}

-- ---- the octets of a service data unit

fitting : (octets : List ℕ) (b : Bool) → length (octets_of_series (if b then Some octets else None)) ≤ length octets
fitting octets b = grind arith

extending : (held : Option (List ℕ)) (octets : List ℕ) → length (octets_of_series (extended held octets)) ≤ length (octets_of_series held) + length octets
extending held octets = grind (arith, fitting, length-append)

ending : (ended : Option (List ℕ)) → length (packets_of_service_unit ended) ≤ length (octets_of_series ended)
ending None = omega arith
ending (Some octets) = omega (arith, packets_within octets, split_count (packets_of octets))

module _ (held : Option (List ℕ)) (next : List ℕ) where
  abbrev octets : List ℕ
  octets = segment_data next

  -- the series that is incomplete after the next segment, or the unit that ends with it, has no octets but those before
  -- and the segment's
  chosen_most : (first continuing : Bool)
      → length (octets_of_series (if first then if_fits octets else if continuing then extended held octets else None)) ≤ length (octets_of_series held) + length octets
  chosen_most first continuing = grind (arith, fitting, extending)

  goes_on : (flags : ℕ) → flags ≢ 3 → flags ≢ 2 → flags_of next ≡ flags → service_unit_after held next ≡ None
  goes_on flags not_3 not_2 is = grind (arith, ne_eqb)

  ends : flags_of next ≢ 1 → flags_of next ≢ 0 → incomplete_after held next ≡ None
  ends not_1 not_0 = grind (arith, ne_eqb)

  begun : (flags : ℕ) → flags ≢ 3 → flags ≢ 2 → flags_of next ≡ flags
      → length (packets_after held next) + length (octets_of_series (incomplete_after held next)) ≤ length (octets_of_series held) + length octets
  begun flags not_3 not_2 is = grind (arith, goes_on, chosen_most)

  -- the packets that end with a segment and the octets held after it, counted together, are no more than the octets
  -- held before it and the segment's
  pub ended_within : length (packets_after held next) + length (octets_of_series (incomplete_after held next)) ≤ length (octets_of_series held) + length octets
  ended_within = grind (arith, eqb_tells, ends, ending, chosen_most)

-- ---- the unit of a frame

-- the number of octets of a frame's unit
abbrev pub unit_len : Content → ℕ
unit_len (Ad ns unit) = length unit
unit_len (Bd unit) = length unit
unit_len Unlock = 0
unit_len (SetVr vr) = 0

-- the segment of a unit has no more octets after its header than the unit
octets_within : (plain : Bool) (unit : List ℕ) → length (segment_data (segment_in plain unit)) ≤ length unit
octets_within plain unit = grind (arith, octets_of_unit, length-drop)

abbrev IsAccepted : Bool → Verdict → Content → Type 0
IsAccepted plain verdict content =
    (segment : List ℕ) × (map (segment_in plain) (unit_by verdict content) ≡ segment ∷ []) × (map_of plain content ≡ (header_at segment).map)
    × (length (segment_data segment) ≤ unit_len content)

none_or_accepted : (plain : Bool) (verdict : Verdict) (content : Content) → (map (segment_in plain) (unit_by verdict content) ≡ []) ⊎ IsAccepted plain verdict content
none_or_accepted plain verdict content = grind (arith, octets_within)

pub small_map : (plain : Bool) (content : Content) → map_of plain content < 64
small_map plain content = grind arith

-- ---- one more frame

module _ (r : ReceptionParameters) (views : List TcView) (next : TcView) where
  abbrev after : List TcView
  after = views ++ next ∷ []

  abbrev units : List (List ℕ)
  units = segment_by r views next

  -- the segments of the frame's own MAP before the frame
  abbrev own : List (List ℕ)
  own = segments_of r next.vc (unit_map r next) views

  on_none : (map_id : ℕ) → map_id ≢ unit_map r next → segments_on map_id units ≡ []
  on_none map_id other =
      elim (none_or_accepted (is_plain r next.vc) (verdict_on r views next) next.content) [
        | inl none ↦ ap (segments_on map_id) none
        | inr (unit, is, map_is, len) ↦
            ap (segments_on map_id) is ∙ ap (λ b. cond b (unit ∷ []) []) (ne_eqb (header_at unit).map map_id (λ e. other (sym e ∙ sym map_is)))
      ]

  -- a frame adds nothing to the segments of other channels than its own
  segments_other : (vc map_id : ℕ) → channel_at vc map_id ≢ unit_channel r next → segments_of r vc map_id after ≡ segments_of r vc map_id views
  segments_other vc map_id other = grind (arith, eqb_tells, segments_next, on_none, append-nil, filter-append)

  -- a frame without an accepted unit adds nothing to the segments of its own channel
  own_none : units ≡ [] → segments_of r next.vc (unit_map r next) after ≡ own
  own_none none = grind (arith, segments_next, append-nil)

  own_next : (unit : List ℕ) → units ≡ unit ∷ [] → unit_map r next ≡ (header_at unit).map → segments_of r next.vc (unit_map r next) after ≡ own ++ unit ∷ []
  own_next unit is map_is = grind (arith, segments_next, eq-eqb)

  ended_of : (unit : List ℕ) → units ≡ unit ∷ [] → ended_by r views next ≡ packets_ended own unit
  ended_of unit is = ap (flat_map (packets_ended own)) is ∙ append-nil (packets_ended own unit)

  own_packets : packets_of_segments (segments_of r next.vc (unit_map r next) after) ≡ packets_of_segments own ++ ended_by r views next
  own_packets = grind (arith, none_or_accepted, own_none, ended_none, append-nil, own_next, packets_next, ended_of)

  own_held : length (ended_by r views next) + length (octets_of_series (incomplete_of (segments_of r next.vc (unit_map r next) after)))
      ≤ length (octets_of_series (incomplete_of own)) + unit_len next.content
  own_held = grind (arith, none_or_accepted, own_none, ended_none, own_next, incomplete_next, ended_of, ended_next, ended_within)

  -- ---- the same by channel

  of_channel : (channel : ℕ) → channel ≡ unit_channel r next → (channel / 64 ≡ next.vc) × (channel % 64 ≡ unit_map r next)
  of_channel channel is = let small = small_map (is_plain r next.vc) next.content in (omega (arith, is, small), omega (arith, is, small))

  channel_is : (channel : ℕ) → channel_at (channel / 64) (channel % 64) ≡ channel
  channel_is channel = omega arith

  pub packets_own : (channel : ℕ) → channel ≡ unit_channel r next
      → packets_of_channel r after channel ≡ packets_of_channel r views channel ++ ended_by r views next
  packets_own channel is = grind (arith, of_channel, own_packets)

  pub packets_other : (channel : ℕ) → channel ≢ unit_channel r next → packets_of_channel r after channel ≡ packets_of_channel r views channel
  packets_other channel other = ap packets_of_segments (segments_other (channel / 64) (channel % 64) (λ e. other (sym (channel_is channel) ∙ e)))

  pub held_own : (channel : ℕ) → channel ≡ unit_channel r next
      → length (ended_by r views next) + length (incomplete_octets_on r after channel) ≤ length (incomplete_octets_on r views channel) + unit_len next.content
  held_own channel is = grind (arith, of_channel, own_held)

  pub incomplete_other : (channel : ℕ) → channel ≢ unit_channel r next
      → incomplete_of (segments_of r (channel / 64) (channel % 64) after) ≡ incomplete_of (segments_of r (channel / 64) (channel % 64) views)
  incomplete_other channel other = grind (arith, segments_other, channel_is)

  pub held_other : (channel : ℕ) → channel ≢ unit_channel r next → incomplete_octets_on r after channel ≡ incomplete_octets_on r views channel
  held_other channel other = ap octets_of_series (incomplete_other channel other)
