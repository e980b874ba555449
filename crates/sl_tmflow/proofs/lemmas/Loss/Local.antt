-- Loss is local: the deliveries of a channel that the kept frames still have.
use Rattle.std.proofs.Common.{◌≡◌, ℕ, ◌+◌, ◌-◌, ◌<◌, ◌≤◌, List, [], ◌∷◌, ◌++◌, length, drop, refl, sym, ◌∙◌, ap, subst, arith, length-append, append_assoc}
use Rattle.std.proofs.lemmas.Grind.{common_steps}
use Rattle.std.proofs.lemmas.Bool.{cases_lt}
use Rattle.std.proofs.lemmas.List.{length_push}
use Rattle.sl_tmframe.specs.TmFrame.{TmView}
use Rattle.sl_tmflow.specs.Delivery.{Delivery, IsDelivery, IsDeliveredBy}
use Rattle.sl_tmflow.specs.Loss.{AreKept, FewAreLost, EachIsLeft, HasNoGap, HasNumber, HaveNumbers, IsSameDelivery, NoneIsNew, RiseFrom}
use Rattle.sl_tmflow.specs.PacketStart.{IsStart}
use Rattle.sl_tmflow.proofs.lemmas.Delivery.Listed.{delivery_with, from_frame}
use Rattle.sl_tmflow.proofs.lemmas.Places.{same_place}
use Rattle.sl_tmflow.proofs.lemmas.Delivery.End.{longer_begins}
use Rattle.sl_tmflow.proofs.lemmas.Loss.KeptFrames.{at_least, frame_of_number, kept_at, near_from, no_gap_at, run_is_kept, run_of_whole}

-- a number in the tail of a list has a place in the whole list
number_later : (numbers earlier : List ℕ) (number : ℕ) (more : List ℕ) (place last : ℕ) → numbers ≡ earlier ++ number ∷ more
    → HasNumber (number ∷ more) place last → HasNumber numbers (length earlier + place) last
number_later numbers earlier number more place last same at =
    record {
      before = earlier ++ at.before;
      after = at.after;
      in_order = same ∙ ap (λ l. earlier ++ l) at.in_order ∙ sym (append_assoc earlier at.before (last ∷ at.after));
      counted = omega (arith, at.counted, length-append earlier at.before);
    }

-- ---- each delivery from the kept frames

pub none_is_new : NoneIsNew
none_is_new channel numbers kept d left is_d =
    let place = kept_at channel numbers is_d.before is_d.view (is_d.run ++ is_d.after)
    (subst (HaveNumbers channel numbers) (from_frame kept d is_d) left.frames) in
    let there = place.here in
    let w = run_of_whole channel there.before is_d.view there.after place.this place.more is_d.run is_d.after there.in_order there.counted
    (no_gap_at there.before is_d.view there.after (subst HasNoGap there.in_order left.no_gap)) (near_from place.earlier place.this place.more (subst FewAreLost place.in_order left.few_lost))
    place.rest is_d.delivered.consecutive in
    let last = number_later numbers place.earlier place.this place.more (length is_d.run) w.last place.in_order w.ending in (
      delivery_with place.this d.start w.last d.packet,
      record {
        before = there.before;
        view = is_d.view;
        run = is_d.run;
        after = w.more;
        in_order = there.in_order ∙ ap (λ l. there.before ++ is_d.view ∷ l) w.in_order ∙ sym (append_assoc there.before (is_d.view ∷ is_d.run) w.more);
        frame = there.counted;
        ending = w.is_last;
        first = is_d.first;
        octets = is_d.octets;
        field = is_d.field;
        start = is_d.start;
        delivered = is_d.delivered;
      },
      record {
        frame = record { before = place.earlier; after = place.more; in_order = place.in_order; counted = is_d.frame ∙ sym place.as_many };
        ending = record {
          before = last.before;
          after = last.after;
          in_order = last.in_order;
          counted = omega (arith, is_d.frame, is_d.ending, place.as_many, last.counted);
        };
        none_lost = omega (arith, w.is_last, is_d.ending);
        start = refl;
        packet = refl;
      },
    )

-- ---- each delivery from the whole channel that lost no frame

-- a later number comes later
not_before : (numbers : List ℕ) (a b x y : ℕ) → FewAreLost numbers → HasNumber numbers a x → HasNumber numbers b y → b < a → x ≤ y → ⊥
not_before numbers a b x y near at other less above =
    let (between, is, rest) = longer_begins (other.before ++ y ∷ []) other.after at.before (x ∷ at.after)
    (sym at.in_order ∙ other.in_order ∙ sym (append_assoc other.before (y ∷ []) other.after))
    (omega (arith, length_push other.before y, at.counted, other.counted)) in
    let rise : RiseFrom y other.after = near_from other.before y other.after (subst FewAreLost other.in_order near) in
    let low = at_least y other.after (y ∷ between) x at.after rise (ap (λ l. y ∷ l) rest) in
    absurd (omega arith)

-- a later number is among those from the earlier one on
pub number_from : (numbers : List ℕ) (a b x y : ℕ) (at : HasNumber numbers a x) → HasNumber numbers b y → a ≤ b
    → HasNumber (x ∷ at.after) (b - a) y
number_from numbers a b x y at other fewer = grind (arith, common_steps, longer_begins, length-append)

delivered_from_kept : (channel : List TmView) (numbers : List ℕ) (kept : List TmView) (d whole : Delivery) → AreKept channel numbers kept
    → IsDelivery channel whole → IsSameDelivery numbers d whole → d.frame ≤ d.ending → IsDelivery kept d
delivered_from_kept channel numbers kept d whole left is_whole same fewer =
    let at = same.frame in
    let rise : RiseFrom whole.frame at.after = near_from at.before whole.frame at.after (subst FewAreLost at.in_order left.few_lost) in
    let place = frame_of_number channel kept at.before whole.frame at.after (subst (λ l. HaveNumbers channel l kept) at.in_order left.frames) in
    let all = from_frame channel whole is_whole in
    let there = same_place place.here.before is_whole.before place.this is_whole.view place.here.after (is_whole.run ++ is_whole.after) (sym place.here.in_order ∙ all)
    (omega (arith, place.here.counted, is_whole.frame)) in
    let passed : d.ending - d.frame ≡ length is_whole.run = omega (arith, same.none_lost, is_whole.ending) in
    let ending : HasNumber (whole.frame ∷ at.after) (length is_whole.run) whole.ending =
    subst (λ n. HasNumber (whole.frame ∷ at.after) n whole.ending) passed (number_from numbers d.frame d.ending whole.frame whole.ending at same.ending fewer) in
    let (after, rest) = run_is_kept channel is_whole.before is_whole.view is_whole.run is_whole.after whole.frame whole.ending at.after place.more ending.before ending.after all is_whole.frame is_whole.ending
    rise place.rest ending.in_order (sym ending.counted) in
    record {
      before = place.earlier;
      view = is_whole.view;
      run = is_whole.run;
      after = after;
      in_order = place.in_order ∙ ap (λ v. place.earlier ++ v ∷ place.more) there.0 ∙ ap (λ l. place.earlier ++ is_whole.view ∷ l) rest
          ∙ sym (append_assoc place.earlier (is_whole.view ∷ is_whole.run) after);
      frame = at.counted ∙ sym place.as_many;
      ending = omega arith;
      first = is_whole.first;
      octets = is_whole.octets;
      field = is_whole.field;
      start = subst (IsStart is_whole.octets is_whole.first) (sym same.start) is_whole.start;
      delivered = subst (λ s. IsDeliveredBy is_whole.view (drop s is_whole.octets) is_whole.run d.packet) (sym same.start)
          (subst (IsDeliveredBy is_whole.view (drop whole.start is_whole.octets) is_whole.run) (sym same.packet) is_whole.delivered);
    }

pub each_is_left : EachIsLeft
each_is_left channel numbers kept d whole left is_whole same = search (arith, cases_lt, not_before, delivered_from_kept)
