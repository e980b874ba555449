-- At most one packet start of a channel is incomplete after its last frame.
use Rattle.std.proofs.Common.{◌≡◌, ℕ, ◌<◌, List, [], ◌∷◌, ◌++◌, length, drop, map, None, Some, inl, inr, sym, ◌∙◌, ap, subst, arith, append_assoc}
use Rattle.std.specs.List.{AllByRecursion, concat}
use Rattle.std.proofs.lemmas.Bool.{cases_lt}
use Rattle.std.proofs.lemmas.List.{length_push}
use Rattle.sl_packet.specs.Front.{front_of}
use Rattle.sl_tmframe.specs.TmFrame.{TmView}
use Rattle.sl_tmflow.specs.VirtualChannel.{packet_data}
use Rattle.sl_tmflow.specs.Incomplete.{HasNoStart, IsIncomplete, OneStartIsIncomplete}
use Rattle.sl_tmflow.specs.PacketStart.{IsStart}
use Rattle.sl_tmflow.proofs.lemmas.Incomplete.List.{incomplete_start_outcome}
use Rattle.sl_fields.proofs.ListLemmas.{each-among}
use Rattle.sl_tmflow.proofs.lemmas.Places.{same_place}
use Rattle.sl_tmflow.proofs.lemmas.Delivery.End.{longer_begins, not_last_is_whole, same_field}
use Rattle.sl_tmflow.proofs.lemmas.Incomplete.After.{outcome_incomplete}
use Rattle.sl_tmflow.proofs.lemmas.Delivery.Step.{incomplete_before}

-- no packet starts in a later frame than the one where an incomplete packet starts
none_in_later_frame : (channel : List TmView) (octets others : List ℕ) (one : IsIncomplete channel octets) (other : IsIncomplete channel others)
    → length one.before < length other.before → ⊥
none_in_later_frame channel octets others one other less =
    let (between, is, rest) = longer_begins (one.before ++ one.view ∷ []) one.run other.before (other.view ∷ other.run)
    (sym other.in_order ∙ one.in_order ∙ sym (append_assoc one.before (one.view ∷ []) one.run)) (omega (arith, length_push one.before one.view)) in
    let none : other.first ≡ None = each-among HasNoStart between other.view other.run (subst (AllByRecursion HasNoStart) rest one.no_start) other.first other.field other.carries in
    let both : Some other.start.pointer ≡ None = sym other.start.pointed ∙ none in
    cc

same_frame : (channel : List TmView) (octets others : List ℕ) (one : IsIncomplete channel octets) (other : IsIncomplete channel others)
    → length one.before ≡ length other.before
same_frame channel octets others one other =
    elim (cases_lt (length one.before) (length other.before)) [
      | inl earlier ↦ absurd (none_in_later_frame channel octets others one other earlier)
      | inr by_then ↦ elim (cases_lt (length other.before) (length one.before)) [
        | inl later ↦ absurd (none_in_later_frame channel others octets other one later)
        | inr same ↦ omega arith
      ]
    ]

-- no packet starts after an incomplete packet in the same frame
none_later_in_frame : (channel : List TmView) (octets : List ℕ) (one : IsIncomplete channel octets) (later : ℕ)
    → IsStart one.field one.first later → one.offset < later → ⊥
none_later_in_frame channel octets one later is_start less =
    let w = outcome_incomplete one.view (drop one.offset (packet_data one.view)) one.run octets (incomplete_start_outcome channel octets one) in
    let begun = incomplete_before (drop one.offset one.field) (concat (map packet_data one.run)) (ap front_of (sym one.came) ∙ w.incomplete) in
    not_last_is_whole one.field one.first one.offset later one.start is_start less begun

-- where two incomplete packets start in one frame, neither start is before the other
not_before : (channel : List TmView) (octets others : List ℕ) (one : IsIncomplete channel octets) (other : IsIncomplete channel others)
    → one.view ≡ other.view → one.offset < other.offset → ⊥
not_before channel octets others one other view less =
    let (first, field) = same_field one.view.field one.first one.field other.first other.field one.carries (ap (λ v. v.field) view ∙ other.carries) in
    none_later_in_frame channel octets one other.offset
    (subst (λ f. IsStart f one.first other.offset) field (subst (λ p. IsStart other.field p other.offset) first other.start)) less

same_start : (channel : List TmView) (octets others : List ℕ) (one : IsIncomplete channel octets) (other : IsIncomplete channel others)
    → one.view ≡ other.view → one.offset ≡ other.offset
same_start channel octets others one other view =
    elim (cases_lt one.offset other.offset) [
      | inl earlier ↦ absurd (not_before channel octets others one other view earlier)
      | inr by_then ↦ elim (cases_lt other.offset one.offset) [
        | inl later ↦ absurd (not_before channel others octets other one (sym view) later)
        | inr same ↦ omega arith
      ]
    ]

same_octets : (channel : List TmView) (octets others : List ℕ) (one : IsIncomplete channel octets) (other : IsIncomplete channel others)
    → one.view ≡ other.view → one.run ≡ other.run → one.offset ≡ other.offset → octets ≡ others
same_octets channel octets others one other view run offset = grind (arith, same_field)

pub one_start_is_incomplete : OneStartIsIncomplete
one_start_is_incomplete channel frame start octets other_frame other_start others one_at other_at =
    let one = one_at.incomplete in
    let other = other_at.incomplete in
    let frames = same_frame channel octets others one other in
    let there = same_place one.before other.before one.view other.view one.run other.run (sym one.in_order ∙ other.in_order) frames in
    let starts = same_start channel octets others one other there.0 in
    (one_at.in_frame ∙ frames ∙ sym other_at.in_frame, one_at.at ∙ starts ∙ sym other_at.at, same_octets channel octets others one other there.0 there.1 starts)
