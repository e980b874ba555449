-- Lost frames of a channel: the deliveries from the kept frames, and those from the whole channel whose frames were
-- all kept.
use Rattle.std.proofs.Common.{◌≡◌, ℕ, ◌+◌, ◌%◌, ◌<◌, ◌≤◌, true, List, [], ◌∷◌, ◌++◌, length, refl, sym, ◌∙◌, ap, subst, arith, length-append, append_assoc}
use Rattle.std.proofs.lemmas.Bool.{eqb-true}
use Rattle.std.proofs.lemmas.List.{length_push}
use Rattle.sl_tmframe.specs.TmFrame.{TmView}
use Rattle.sl_tmflow.specs.VirtualChannel.{AreConsecutive, is_consecutive}
use Rattle.sl_tmflow.specs.Loss.{FewAreLost, HasNoGap, HasNumber, HaveNumbers, RiseFrom}
use Rattle.sl_tmflow.proofs.lemmas.Places.{same_place, some_element}
use Rattle.sl_tmflow.proofs.lemmas.Delivery.End.{longer_begins}

-- ---- counts

consecutive_at : (view : TmView) (between : List TmView) (next : TmView) (later : List TmView) → AreConsecutive view (between ++ next ∷ later)
    → AreConsecutive next later
consecutive_at view [] next later each = each.1
consecutive_at view (second ∷ between) next later each = consecutive_at second between next later each.1

pub no_gap_at : (before : List TmView) (view : TmView) (later : List TmView) → HasNoGap (before ++ view ∷ later) → AreConsecutive view later
no_gap_at [] view later none = none
no_gap_at (first ∷ before) view later none = consecutive_at first before view later none

count_after : (view next : TmView) → is_consecutive view next ≡ true → next.vc_count ≡ (view.vc_count + 1) % 256
count_after view next test = eqb-true next.vc_count ((view.vc_count + 1) % 256) test

-- the counts of frames without a gap count up
pub count_later : (view : TmView) (between : List TmView) (next : TmView) (later : List TmView) → AreConsecutive view (between ++ next ∷ later)
    → next.vc_count ≡ (view.vc_count + (length between + 1)) % 256
count_later view [] next later each = count_after view next each.0
count_later view (second ∷ between) next later each = grind (arith, count_after, count_later second between next later each.1)

-- among frames less than 257 apart, only neighbours are consecutive
pub none_between : (view : TmView) (between : List TmView) (next : TmView) (later : List TmView) → AreConsecutive view (between ++ next ∷ later)
    → is_consecutive view next ≡ true → length between < 256 → length between ≡ 0
none_between view between next later each test few = grind (arith, count_after, count_later)

-- ---- numbers

rise_from : (low : ℕ) (earlier : List ℕ) (number : ℕ) (more : List ℕ) → RiseFrom low (earlier ++ number ∷ more) → RiseFrom number more
rise_from low [] number more rise = rise.2
rise_from low (next ∷ earlier) number more rise = rise_from next earlier number more rise.2

pub near_from : (earlier : List ℕ) (number : ℕ) (more : List ℕ) → FewAreLost (earlier ++ number ∷ more) → RiseFrom number more
near_from [] number more near = near
near_from (first ∷ earlier) number more near = rise_from first earlier number more near

-- each number is at least as far above the first one as its place
pub at_least : (low : ℕ) (numbers before : List ℕ) (number : ℕ) (after : List ℕ) → RiseFrom low numbers → low ∷ numbers ≡ before ++ number ∷ after
    → low + length before ≤ number
at_least low numbers [] number after rise same = let first : low ≡ number = cc in omega arith
at_least low [] (other ∷ before) number after rise same = absurd (some_element before number after (cc))
at_least low (next ∷ numbers) (other ∷ before) number after rise same = grind (arith, at_least next numbers before number after rise.2 (cc))

-- ---- frames with numbers

-- two lists whose elements pair up: an element of the second one, and its partner in the first one
pub record GoesWith {X Y : Type 0} (together : List X → List Y → Type 0) (with_it : X → Y → Type 0) (xs : List X) (before : List Y) (y : Y) (later : List Y) : Type 0 where
  pub earlier : List X
  pub this : X
  pub more : List X
  pub in_order : xs ≡ earlier ++ this ∷ more
  pub as_many : length earlier ≡ length before
  pub here : with_it this y
  pub rest : together more later

module _ {X Y : Type 0} (together : List X → List Y → Type 0) (with_it : X → Y → Type 0) (no_more : (y : Y) (ys : List Y) → together [] (y ∷ ys) → ⊥)
    (first : (x : X) (xs : List X) (y : Y) (ys : List Y) → together (x ∷ xs) (y ∷ ys) → with_it x y × together xs ys) where
  goes_with : (xs : List X) (before : List Y) (y : Y) (later : List Y) → together xs (before ++ y ∷ later) → GoesWith together with_it xs before y later
  goes_with [] [] y later both = absurd (no_more y later both)
  goes_with [] (z ∷ before) y later both = absurd (no_more z (before ++ y ∷ later) both)
  goes_with (x ∷ xs) [] y later both =
      let parts = first x xs y later both in
      record { earlier = []; this = x; more = xs; in_order = refl; as_many = refl; here = parts.0; rest = parts.1 }
  goes_with (x ∷ xs) (z ∷ before) y later both =
      let s = goes_with xs before y later (first x xs z (before ++ y ∷ later) both).1 in
      record { earlier = x ∷ s.earlier; this = s.this; more = s.more; in_order = ap (λ l. x ∷ l) s.in_order; as_many = omega (arith, s.as_many); here = s.here; rest = s.rest }

-- a kept frame, with its number
pub kept_at : (channel : List TmView) (numbers : List ℕ) (before : List TmView) (view : TmView) (later : List TmView)
    → HaveNumbers channel numbers (before ++ view ∷ later) → GoesWith (HaveNumbers channel) (HasNumber channel) numbers before view later
kept_at channel = goes_with (HaveNumbers channel) (HasNumber channel) (λ view kept none. none) (λ number numbers view kept both. both)

-- a number, with the frame of this number
pub frame_of_number : (channel : List TmView) (kept : List TmView) (earlier : List ℕ) (number : ℕ) (more : List ℕ) → HaveNumbers channel (earlier ++ number ∷ more) kept
    → GoesWith (λ kept numbers. HaveNumbers channel numbers kept) (λ view number. HasNumber channel number view) kept earlier number more
frame_of_number channel = goes_with (λ kept numbers. HaveNumbers channel numbers kept) (λ view number. HasNumber channel number view) (λ number numbers none. none) (λ view kept number numbers both. both)

-- ---- runs

-- a run of frames that follow in the whole channel, and whose last one has this number
pub record IsRunOfWhole (number : ℕ) (numbers : List ℕ) (run later : List TmView) : Type 0 where
  pub more : List TmView
  pub in_order : later ≡ run ++ more
  pub last : ℕ
  pub is_last : last ≡ number + length run
  pub ending : HasNumber (number ∷ numbers) (length run) last

-- a kept frame that is consecutive to the kept frame before it follows this frame in the whole channel
next_of_whole : (channel before : List TmView) (view : TmView) (later : List TmView) (number other : ℕ) (next : TmView)
    → channel ≡ before ++ view ∷ later → number ≡ length before → AreConsecutive view later → number < other → other ≤ number + 256
    → HasNumber channel other next → is_consecutive view next ≡ true
    → (other ≡ number + 1) × ((after : List TmView) × (later ≡ next ∷ after))
next_of_whole channel before view later number other next all here each above near at test =
    let (between, is, rest) = longer_begins (before ++ view ∷ []) later at.before (next ∷ at.after)
    (sym at.in_order ∙ all ∙ sym (append_assoc before (view ∷ []) later)) (omega (arith, length_push before view, at.counted)) in
    let far : other ≡ number + 1 + length between =
    omega (arith, ap length is, length-append (before ++ view ∷ []) between, length_push before view, at.counted) in
    let none : length between ≡ 0 = none_between view between next at.after (subst (AreConsecutive view) rest each) test (omega arith) in
    (omega arith, (at.after, cases between none rest))
  where
    cases : (between : List TmView) → length between ≡ 0 → later ≡ between ++ next ∷ at.after → later ≡ next ∷ at.after
    cases [] none rest = rest
    cases (other ∷ between) none rest = absurd (omega arith)

pub run_of_whole : (channel before : List TmView) (view : TmView) (later : List TmView) (number : ℕ) (numbers : List ℕ) (run after : List TmView)
    → channel ≡ before ++ view ∷ later → number ≡ length before → AreConsecutive view later → RiseFrom number numbers
    → HaveNumbers channel numbers (run ++ after) → AreConsecutive view run → IsRunOfWhole number numbers run later
run_of_whole channel before view later number numbers [] after all here each rise have consecutive =
    record {
      more = later;
      in_order = refl;
      last = number;
      is_last = omega arith;
      ending = record { before = []; after = numbers; in_order = refl; counted = refl };
    }
run_of_whole channel before view later number [] (next ∷ run) after all here each rise have consecutive = absurd have
run_of_whole channel before view later number (other ∷ numbers) (next ∷ run) after all here each rise have consecutive =
    let (is, at) = next_of_whole channel before view later number other next all here each rise.0 rise.1 have.0 consecutive.0 in
    let (later', rest) = at in
    let all' : channel ≡ (before ++ view ∷ []) ++ next ∷ later' =
    all ∙ ap (λ l. before ++ view ∷ l) rest ∙ sym (append_assoc before (view ∷ []) (next ∷ later')) in
    let each' : AreConsecutive view (next ∷ later') = subst (AreConsecutive view) rest each in
    let w = run_of_whole channel (before ++ view ∷ []) next later' other numbers run after all' (omega (arith, length_push before view))
    each'.1 rise.2 have.1 consecutive.1 in
    record {
      more = w.more;
      in_order = rest ∙ ap (λ l. next ∷ l) w.in_order;
      last = w.last;
      is_last = omega (arith, w.is_last);
      ending = record {
        before = number ∷ w.ending.before;
        after = w.ending.after;
        in_order = ap (λ l. number ∷ l) w.ending.in_order;
        counted = omega (arith, w.ending.counted);
      };
    }

-- all frames of a run were kept, where the last one was kept with as many before it
pub run_is_kept : (channel before : List TmView) (view : TmView) (run more : List TmView) (number last : ℕ) (numbers : List ℕ) (kept : List TmView)
    (earlier beyond : List ℕ) → channel ≡ before ++ view ∷ (run ++ more) → number ≡ length before → last ≡ number + length run
    → RiseFrom number numbers → HaveNumbers channel numbers kept → number ∷ numbers ≡ earlier ++ last ∷ beyond → length earlier ≡ length run
    → (after : List TmView) × (kept ≡ run ++ after)
run_is_kept channel before view [] more number last numbers kept earlier beyond all here is_last rise have same many = (kept, refl)
run_is_kept channel before view (next ∷ run) more number last numbers kept [] beyond all here is_last rise have same many = absurd (omega arith)
run_is_kept channel before view (next ∷ run) more number last [] kept (first ∷ earlier) beyond all here is_last rise have same many =
    absurd (some_element earlier last beyond (cc))
run_is_kept channel before view (next ∷ run) more number last (other ∷ numbers) [] (first ∷ earlier) beyond all here is_last rise have same many =
    absurd have
run_is_kept channel before view (next ∷ run) more number last (other ∷ numbers) (second ∷ kept) (first ∷ earlier) beyond all here is_last rise have same many =
    let all' : channel ≡ (before ++ view ∷ []) ++ next ∷ (run ++ more) = all ∙ sym (append_assoc before (view ∷ []) (next ∷ (run ++ more))) in
    let tail : other ∷ numbers ≡ earlier ++ last ∷ beyond = cc in
    let low = at_least other numbers earlier last beyond rise.2 tail in
    let neighbour : other ≡ number + 1 = omega (arith, rise.0) in
    let there = same_place have.0.before (before ++ view ∷ []) second next have.0.after (run ++ more)
    (sym have.0.in_order ∙ all') (omega (arith, have.0.counted, length_push before view)) in
    let (after, rest) = run_is_kept channel (before ++ view ∷ []) next run more other last numbers kept earlier beyond all'
    (omega (arith, length_push before view)) (omega arith) rise.2 have.1 tail (omega arith) in
    (after, ap (λ v. v ∷ kept) there.0 ∙ ap (λ l. next ∷ l) rest)
