-- Frames end to end, by the lengths that they state.
use Rattle.std.proofs.Common.{◌≡◌, ℕ, zero, suc, ◌+◌, ◌-◌, ◌<◌, ◌≤◌, Bool, true, false, ◌&&◌, List, [], ◌∷◌, ◌++◌, length}
use Rattle.std.proofs.Common.{take, drop, refl, sym, ◌∙◌, ap, arith, length-append, length-drop, length-take-le}
use Rattle.std.proofs.Common.{append_assoc, take-append-drop}
use Rattle.std.proofs.Math.Seq.{take-append_seam, take-append-add}
use Rattle.std.proofs.lemmas.Bool.{leb-true}
use Rattle.std.specs.List.{concat}
use Rattle.sl_sync.specs.Cltu.{has_frame, stated, frames_from, frames_in}

-- the octets that belong to the last frame are passed over
frames-skip : (k : ℕ) (octets : List ℕ) → frames_from k octets ≡ frames_in (drop k octets)
unfolding frames_from
frames-skip zero octets = refl
frames-skip (suc k) [] = refl
frames-skip (suc k) (o ∷ octets) = frames-skip k octets

-- the frames from an octet on, by whether one is there
frames_by : ℕ → List ℕ → Bool → List (List ℕ)
frames_by o octets true = take (stated (o ∷ octets)) (o ∷ octets) ∷ frames_from (stated (o ∷ octets) - 1) octets
frames_by o octets false = []

frames-by : (o : ℕ) (octets : List ℕ) → frames_in (o ∷ octets) ≡ frames_by o octets (has_frame (o ∷ octets))
unfolding frames_by frames_from
frames-by o octets = refl

both_true : (a b : Bool) → (a && b) ≡ true → (a ≡ true) × (b ≡ true)
both_true true b h = (refl, h)
both_true false b h = cc

-- a frame has its header, and is whole
pub has_frame-tells : (octets : List ℕ) → has_frame octets ≡ true → (5 ≤ stated octets) × (stated octets ≤ length octets)
unfolding has_frame
has_frame-tells octets h =
    let both = both_true _ _ h in
    let long = both_true _ _ both.1 in
    (leb-true 5 (stated octets) both.0, leb-true (stated octets) (length octets) long.0)

-- a frame comes first
pub frames-one : (octets : List ℕ) → has_frame octets ≡ true
    → frames_in octets ≡ take (stated octets) octets ∷ frames_in (drop (stated octets) octets)
unfolding frames_by
frames-one [] h = absurd (omega (arith, (has_frame-tells [] h).0, (has_frame-tells [] h).1))
frames-one (o ∷ octets) h =
    let n = stated (o ∷ octets) in
    let e : n ≡ suc (n - 1) = omega (arith, (has_frame-tells (o ∷ octets) h).0) in
    let rest : frames_from (n - 1) octets ≡ frames_in (drop n (o ∷ octets)) =
    frames-skip (n - 1) octets ∙ ap (λ (k : ℕ). frames_in (drop k (o ∷ octets))) (sym e) in
    frames-by o octets ∙ ap (λ (b : Bool). frames_by o octets b) h ∙ ap (λ (f : List (List ℕ)). take n (o ∷ octets) ∷ f) rest

-- no frame comes
pub frames-none : (octets : List ℕ) → has_frame octets ≡ false → frames_in octets ≡ []
unfolding frames_by frames_from
frames-none [] h = refl
frames-none (o ∷ octets) h = frames-by o octets ∙ ap (λ (b : Bool). frames_by o octets b) h

-- what was passed over is whole frames, and what is left is the end of the octets
pub record IsPassing (octets rest : List ℕ) (count : ℕ) : Type 0 where
  pub inside : count + length rest ≤ length octets
  pub frames : length (frames_in octets) ≡ count + length (frames_in rest)
  pub whole : length rest + length (concat (frames_in octets)) ≡ length octets + length (concat (frames_in rest))

pub passing-none : (octets : List ℕ) → IsPassing octets octets 0
passing-none octets = record { inside = omega arith; frames = omega arith; whole = omega arith }

-- a frame is passed over
pub passing-more : (octets rest rest' : List ℕ) (count n : ℕ) → IsPassing octets rest count → has_frame rest ≡ true → n ≡ stated rest
    → rest' ≡ drop n rest → IsPassing octets rest' (count + 1) × (length rest' < length rest)
passing-more octets rest rest' count n s h e r =
    let tells = has_frame-tells rest h in
    let left : rest' ≡ drop (stated rest) rest = r ∙ ap (λ (m : ℕ). drop m rest) e in
    let first : frames_in rest ≡ take (stated rest) rest ∷ frames_in rest' =
    frames-one rest h ∙ ap (λ (x : List ℕ). take (stated rest) rest ∷ frames_in x) (sym left) in
    let short : length rest' ≡ length rest - stated rest = ap (λ (x : List ℕ). length x) left ∙ length-drop (stated rest) rest in
    let more : length (frames_in rest) ≡ 1 + length (frames_in rest') =
    ap (λ (f : List (List ℕ)). length f) first ∙ omega arith in
    let long : length (concat (frames_in rest)) ≡ stated rest + length (concat (frames_in rest')) =
    ap (λ (f : List (List ℕ)). length (concat f)) first ∙ length-append (take (stated rest) rest) (concat (frames_in rest'))
    ∙ ap (λ (k : ℕ). k + length (concat (frames_in rest'))) (length-take-le (stated rest) rest tells.1) in (
      record {
        inside = omega (arith, short, s.inside);
        frames = omega (arith, s.frames, more);
        whole = omega (arith, s.whole, long, short, tells.1);
      },
      omega (arith, short, tells.0, tells.1),
    )

-- all frames were passed over
pub passing-done : (octets rest : List ℕ) (count : ℕ) → IsPassing octets rest count → has_frame rest ≡ false
    → (count ≡ length (frames_in octets)) × (length octets - length rest ≡ length (concat (frames_in octets)))
passing-done octets rest count s h =
    let none = frames-none rest h in
    let few : length (frames_in rest) ≡ 0 = ap (λ (f : List (List ℕ)). length f) none in
    let short : length (concat (frames_in rest)) ≡ 0 = ap (λ (f : List (List ℕ)). length (concat f)) none in
    (omega (arith, s.frames, few), omega (arith, s.whole, short, s.inside))

-- ---- the frames are the front of the octets

front_more : (octets front behind : List ℕ) (n : ℕ) → n ≤ length octets → drop n octets ≡ front ++ behind
    → octets ≡ (take n octets ++ front) ++ behind
front_more octets front behind n h e =
    sym (take-append-drop n octets) ∙ ap (λ (x : List ℕ). take n octets ++ x) e ∙ sym (append_assoc (take n octets) front behind)

front_by : (n : ℕ) (octets : List ℕ) → length octets ≤ n → (b : Bool) → has_frame octets ≡ b
    → (rest : List ℕ) × (octets ≡ concat (frames_in octets) ++ rest)
front_by n octets long false h = (octets, ap (λ (f : List (List ℕ)). concat f ++ octets) (sym (frames-none octets h)))
front_by zero octets long true h = absurd (omega (arith, (has_frame-tells octets h).0, (has_frame-tells octets h).1))
front_by (suc n) octets long true h =
    let tells = has_frame-tells octets h in
    let k = stated octets in
    let shorter : length (drop k octets) ≤ n = omega (arith, length-drop k octets, tells.0, tells.1) in
    let later = front_by n (drop k octets) shorter (has_frame (drop k octets)) refl in (
      later.0,
      front_more octets (concat (frames_in (drop k octets))) later.0 k tells.1 later.1
          ∙ ap (λ (f : List (List ℕ)). concat f ++ later.0) (sym (frames-one octets h)),
    )

-- octets are their whole frames, and others behind them
pub frames-front : (octets : List ℕ) → take (length (concat (frames_in octets))) octets ≡ concat (frames_in octets)
frames-front octets =
    let parts = front_by (length octets) octets (omega arith) (has_frame octets) refl in
    let frames = concat (frames_in octets) in
    ap (λ (x : List ℕ). take (length frames) x) parts.1 ∙ take-append_seam frames parts.0

-- octets, of which those behind a place are cut to their whole frames
pub frames-kept : (octets : List ℕ) (begin len : ℕ) → begin ≤ length octets → len ≡ length (concat (frames_in (drop begin octets)))
    → take (begin + len) octets ≡ take begin octets ++ concat (frames_in (drop begin octets))
frames-kept octets begin len h e =
    ap (λ (x : List ℕ). take (begin + len) x) (sym (take-append-drop begin octets))
    ∙ ap (λ (n : ℕ). take (n + len) (take begin octets ++ drop begin octets)) (sym (length-take-le begin octets h))
    ∙ take-append-add (take begin octets) (drop begin octets) len
    ∙ ap (λ (x : List ℕ). take begin octets ++ x) (ap (λ (n : ℕ). take n (drop begin octets)) e ∙ frames-front (drop begin octets))
