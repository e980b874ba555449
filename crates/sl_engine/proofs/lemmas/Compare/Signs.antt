-- Signs in frames that come one after another.
use Rattle.std.proofs.Common.{◌≡◌, ℕ, zero, suc, ◌+◌, ◌^◌, ◌<◌, ◌≤◌, Bool, true, false, ◌&&◌, if◌then◌else◌, List, [], ◌∷◌, ◌++◌, length, take, map, Option, None, Some, Result, Ok, Err, refl, sym, ◌∙◌, arith, nat_lt, append-nil, length-append}
use Rattle.std.specs.Int.{from_bool as bool_byte}
use Rattle.std.specs.List.{filter, range_with_len, slice_set}
use Rattle.std.proofs.lemmas.Bool.Decides.{eqb_tells}
use Rattle.std.proofs.lemmas.List.{ext_get_or, get_or-set_other, get_or-set_same, length-set}
use Rattle.std.proofs.lemmas.List.FromFn.{get_or-map-range_with_len, length-map-range_with_len}
use Rattle.std.proofs.Math.Seq.{take-nil}
use Rattle.std.proofs.lemmas.List.{length-take}
use Rattle.std.proofs.lemmas.List.Elements.{filter-append}
use Rattle.sl_fields.specs.Fecf.{fecf_is_good}
use Rattle.sl_tmframe.specs.declared.tm_frame.TmSkip.{TmSkip}
use Rattle.sl_tmframe.specs.TmFrame.{TmView}
use Rattle.sl_tmflow.specs.Recording.{virtual_channels}
use Rattle.sl_tmflow.specs.VirtualChannel.{views_of, views_on}
use Rattle.sl_engine.specs.Compare.Summarised.{tm_begun}
use Rattle.sl_engine.specs.Kind.Delivery.{with_frame}
use Rattle.sl_engine.specs.Kind.Tm.{TmFinding, as_read, tm_found}
use Rattle.sl_engine.specs.Link.Managed.{Parameters, tm_format}
use Rattle.sl_engine.proofs.lemmas.Kind.Delivery.{views_next}
use Rattle.sl_engine.specs.Compare.Signs.{AreOwn, looked_at, signs_by, with_channel}
use Rattle.sl_engine.specs.declared.compare.signs.Signs.{Signs}

filter_few : (test : List ℕ → Bool) (xs : List (List ℕ)) → length (filter test xs) ≤ length xs
filter_few test [] = omega arith
filter_few test (x ∷ xs) = grind (arith, filter_few test xs)

-- one more
next : (test : List ℕ → Bool) (xs : List (List ℕ)) (x : List ℕ) → length (filter test (xs ++ x ∷ [])) ≡ length (filter test xs) + (if test x then 1 else 0)
next test xs x = grind (arith, filter-append, length-append)

-- the same of the first `n`
first_next : (test : List ℕ → Bool) (n : ℕ) (xs : List (List ℕ)) (x : List ℕ)
    → length (filter test (take n (xs ++ x ∷ []))) ≡ length (filter test (take n xs)) + (if nat_lt (length xs) n && test x then 1 else 0)
first_next test zero xs x = grind arith
first_next test (suc n) [] x = rw (take-nil n) (grind arith)
first_next test (suc n) (y ∷ xs) x = grind (arith, first_next test n xs x)

module _ {is_own is_long : List ℕ → Bool} {before : List (List ℕ)} {signs : Signs} (a : AreOwn is_own is_long before signs) where
  pub own_fits : length before + 1 < 2 ^ 64 → signs.own + 1 < 2 ^ 64
  own_fits fits = omega (arith, a.own, filter_few is_own before, fits)

  pub right_fits : length before + 1 < 2 ^ 64 → signs.right + 1 < 2 ^ 64
  right_fits fits = omega (arith, a.right, filter_few fecf_is_good (take looked_at (filter is_own before)), length-take looked_at (filter is_own before), filter_few is_own before, fits)

  pub long_fits : length before + 1 < 2 ^ 64 → signs.long + 1 < 2 ^ 64
  long_fits fits = omega (arith, a.long, filter_few is_long (filter is_own before), filter_few is_own before, fits)

  -- a frame of another spacecraft
  pub other_frame : (frame : List ℕ) → is_own frame ≡ false → AreOwn is_own is_long (before ++ frame ∷ []) signs
  other_frame frame other =
      let same : filter is_own (before ++ frame ∷ []) ≡ filter is_own before = filter-append is_own before (frame ∷ []) ∙ rw other (append-nil (filter is_own before)) in
      record { own = rw same a.own; right = rw same a.right; long = rw same a.long }

  -- one of the spacecraft
  pub own_frame : (frame : List ℕ) (new : Signs) → is_own frame ≡ true → new.own ≡ signs.own + 1 → new.right ≡ signs.right + (if nat_lt signs.own looked_at && fecf_is_good frame then 1 else 0)
      → new.long ≡ signs.long + (if is_long frame then 1 else 0) → AreOwn is_own is_long (before ++ frame ∷ []) new
  own_frame frame new mine own right long =
      let more : filter is_own (before ++ frame ∷ []) ≡ filter is_own before ++ frame ∷ [] = filter-append is_own before (frame ∷ []) ∙ rw mine refl in
      record {
        own = rw more (omega (arith, own, a.own, length-append (filter is_own before) (frame ∷ [])));
        right = rw more (right ∙ rw (a.own, a.right) (sym (first_next fecf_is_good looked_at (filter is_own before) frame)));
        long = rw more (long ∙ rw a.long (sym (next is_long (filter is_own before) frame)));
      }

-- the signs are these with those of the channels
pub all_signs : (is_own is_long : List ℕ → Bool) (begun : List (List ℕ) → List Bool) (frames : List (List ℕ)) (signs : Signs) → AreOwn is_own is_long frames signs → signs.begun ≡ begun frames
    → signs ≡ signs_by is_own is_long begun frames
all_signs is_own is_long begun frames signs a are = grind (arith, a.own, a.right, a.long)

pub signs_own : (is_own is_long : List ℕ → Bool) (begun : List (List ℕ) → List Bool) (frames : List (List ℕ)) (signs : Signs) → signs ≡ signs_by is_own is_long begun frames → AreOwn is_own is_long frames signs
signs_own is_own is_long begun frames signs is = rw is (record { own = refl; right = refl; long = refl })

-- a test, as one octet
pub few_byte : (b : Bool) → bool_byte b ≤ 1
few_byte true = omega arith
few_byte false = omega arith

pub byte_is : {b test : Bool} → b ≡ test → bool_byte b ≡ (if test then 1 else 0)
byte_is {b = true} is = rw (← is) refl
byte_is {b = false} is = rw (← is) refl

-- ---- the virtual channels on which TM frames were read

-- one more frame on one of them, among `n` from 0 on
begun_view : (views : List TmView) (view : TmView) (n : ℕ) → map (λ vc. nat_lt 0 (length (views_on vc (views ++ view ∷ [])))) (range_with_len 0 n)
    ≡ slice_set (map (λ vc. nat_lt 0 (length (views_on vc views))) (range_with_len 0 n)) view.vc true
begun_view views view n = ext_get_or false _ _ (simp (length-set, length-map-range_with_len) refl) (λ vc inside.
    let below : vc < n = omega (arith, inside, length-map-range_with_len (λ vc. nat_lt 0 (length (views_on vc (views ++ view ∷ [])))) 0 n) in
    get_or-map-range_with_len (λ vc. nat_lt 0 (length (views_on vc (views ++ view ∷ [])))) 0 n vc vc false below (omega arith)
    ∙ grind (arith, eqb_tells, filter-append, length-append, get_or-set_same, get_or-set_other, get_or-map-range_with_len, length-map-range_with_len))

-- the virtual channel of a frame that was read
abbrev channel_of : Result TmView TmSkip → Option ℕ
channel_of (Ok view) = Some view.vc
channel_of (Err reason) = None

begun_read : (views : List TmView) (read : Result TmView TmSkip) → map (λ vc. nat_lt 0 (length (views_on vc (with_frame views read)))) virtual_channels
    ≡ with_channel (map (λ vc. nat_lt 0 (length (views_on vc views))) virtual_channels) (channel_of read)
begun_read views (Ok view) = begun_view views view 8
begun_read views (Err reason) = refl

pub begun_next : (p : Parameters) (before : List (List ℕ)) (frame : List ℕ) → tm_begun p (before ++ frame ∷ []) ≡ with_channel (tm_begun p before) (channel_of (as_read p frame))
begun_next p before frame = rw (views_next (as_read p) before frame) (begun_read (views_of (tm_format p) p.spacecraft before) (as_read p frame))

-- by what is found of it
pub found_channel : (p : Parameters) (before : List (List ℕ)) (frame : List ℕ) (found : TmFinding) → Ok found ≡ tm_found p before frame → channel_of (as_read p frame) ≡ Some found.vc
found_channel p before frame found is = grind arith

pub skipped_channel : (p : Parameters) (before : List (List ℕ)) (frame : List ℕ) (reason : TmSkip) → Err reason ≡ tm_found p before frame → channel_of (as_read p frame) ≡ None
skipped_channel p before frame reason is = grind arith
