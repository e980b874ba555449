-- Counts of parts.
use Rattle.std.proofs.Common.{◌≡◌, ℕ, zero, suc, ◌+◌, ◌-◌, ◌*◌, Bool, List, [], ◌∷◌, ◌++◌, refl, ◌∙◌, ap, arith}
use Rattle.std.proofs.Math.Nat.{suc-mul}
use Rattle.std.specs.Prelude.{replicate}
use Rattle.sl_sync.specs.Held.{Holds}
use Rattle.sl_sync.specs.Totals.{weight, capped, one_if, frame_count, wrong_count, skipped_count, astray_count}
use Rattle.sl_sync.specs.Totals.{refused_count, cut_count, totals_of, CountsUnit, CountsStray}
use Rattle.sl_sync.specs.Units.{Content, Part, unit, stray}
use Rattle.sl_sync.specs.declared.totals.Totals.{Totals}
use Rattle.sl_sync.specs.declared.units.Held.{Held}
use Rattle.sl_sync.specs.declared.units.Place.{Place}

-- one part more
weight-more : (w : Part → ℕ) (parts : List Part) (part : Part) → weight w (parts ++ part ∷ []) ≡ weight w parts + w part
weight-more w [] part = omega arith
weight-more w (x ∷ parts) part = let h = weight-more w parts part in omega arith

-- a count that grows stops at the greatest number however it is added
capped-more : (w : Part → ℕ) (parts : List Part) (part : Part) (n old new : ℕ) → old ≡ capped (weight w parts) → n ≡ w part
    → new ≡ capped (old + n) → new ≡ capped (weight w (parts ++ part ∷ []))
capped-more w parts part n old new p q r = omega (arith, p, q, r, weight-more w parts part)

-- a number of the same part more
weight-replicate : (w : Part → ℕ) (count : ℕ) (part : Part) → weight w (replicate count part) ≡ count * w part
weight-replicate w zero part = omega arith
weight-replicate w (suc count) part =
    let h = weight-replicate w count part in omega (arith, h, suc-mul count (w part))

weight-append : (w : Part → ℕ) (xs ys : List Part) → weight w (xs ++ ys) ≡ weight w xs + weight w ys
weight-append w [] ys = omega arith
weight-append w (x ∷ xs) ys = let h = weight-append w xs ys in omega arith

capped-some : (w : Part → ℕ) (parts : List Part) (count : ℕ) (part : Part) (n old new : ℕ) → old ≡ capped (weight w parts)
    → n ≡ count * w part → new ≡ capped (old + n) → new ≡ capped (weight w (parts ++ replicate count part))
capped-some w parts count part n old new p q r =
    omega (arith, p, q, r, weight-append w parts (replicate count part), weight-replicate w count part)

capped-none : (w : Part → ℕ) (parts : List Part) (count : ℕ) (part : Part) (old new : ℕ) → old ≡ capped (weight w parts)
    → w part ≡ 0 → new ≡ old → new ≡ capped (weight w (parts ++ replicate count part))
capped-none w parts count part old new p q r =
    let none : count * w part ≡ 0 = omega (arith, ap (λ (n : ℕ). count * n) q) in
    omega (arith, p, none, r, weight-append w parts (replicate count part), weight-replicate w count part)

-- a count that stays, as the part counts for none
capped-same : (w : Part → ℕ) (parts : List Part) (part : Part) (old new : ℕ) → old ≡ capped (weight w parts) → w part ≡ 0
    → new ≡ old → new ≡ capped (weight w (parts ++ part ∷ []))
capped-same w parts part old new p q r = omega (arith, p, q, r, weight-more w parts part)

-- equal counts are equal totals
same_totals : (a b : Totals) → a.frames ≡ b.frames → a.wrong_markers ≡ b.wrong_markers → a.skipped ≡ b.skipped
    → a.astray ≡ b.astray → a.refused_blocks ≡ b.refused_blocks → a.cut ≡ b.cut → a ≡ b
same_totals a b f w s y r c =
    let t : ℕ → ℕ → ℕ → ℕ → ℕ → ℕ → Totals =
    λ x1 x2 x3 x4 x5 x6. record { frames = x1; wrong_markers = x2; skipped = x3; astray = x4; refused_blocks = x5; cut = x6 } in
    let e1 : t a.frames a.wrong_markers a.skipped a.astray a.refused_blocks a.cut
    ≡ t b.frames b.wrong_markers b.skipped a.astray a.refused_blocks a.cut = rw (f, w, s) refl in
    let e2 : t b.frames b.wrong_markers b.skipped a.astray a.refused_blocks a.cut
    ≡ t b.frames b.wrong_markers b.skipped b.astray b.refused_blocks b.cut = rw (y, r, c) refl in
    e1 ∙ e2

-- the counts of parts with a unit more
pub totals-unit : {old new : Totals} {held : Held} (parts : List Part) (content : Content) (size : ℕ)
    → old ≡ totals_of parts → Holds content size held → CountsUnit old held new
    → new ≡ totals_of (parts ++ unit content ∷ [])
unfolding totals_of
totals-unit {old} {new} {held} parts content size e h n =
    let part = unit content in
    same_totals new (totals_of (parts ++ part ∷ []))
    (capped-more frame_count parts part held.frames old.frames new.frames (ap (λ (t : Totals). t.frames) e) h.frames n.frames)
    (capped-more wrong_count parts part (1 - one_if held.marked) old.wrong_markers new.wrong_markers
    (ap (λ (t : Totals). t.wrong_markers) e) (ap (λ (b : Bool). 1 - one_if b) h.marked) n.wrong_markers)
    (capped-same skipped_count parts part old.skipped new.skipped (ap (λ (t : Totals). t.skipped) e) refl n.skipped)
    (capped-same astray_count parts part old.astray new.astray (ap (λ (t : Totals). t.astray) e) refl n.astray)
    (capped-more refused_count parts part (one_if held.refused) old.refused_blocks new.refused_blocks
    (ap (λ (t : Totals). t.refused_blocks) e) (ap one_if h.refused) n.refused_blocks)
    (capped-more cut_count parts part held.cut old.cut new.cut (ap (λ (t : Totals). t.cut) e) h.cut n.cut)

-- the counts of parts with a number of stray octets more
pub totals-stray : {old new : Totals} (parts : List Part) (place : Place) (count : ℕ) → old ≡ totals_of parts
    → CountsStray old place count new → new ≡ totals_of (parts ++ replicate count (stray place))
unfolding totals_of
totals-stray {old} {new} parts place count e n =
    let part = stray place in
    same_totals new (totals_of (parts ++ replicate count part))
    (capped-none frame_count parts count part old.frames new.frames (ap (λ (t : Totals). t.frames) e) refl n.frames)
    (capped-none wrong_count parts count part old.wrong_markers new.wrong_markers (ap (λ (t : Totals). t.wrong_markers) e) refl n.wrong_markers)
    (capped-some skipped_count parts count part count old.skipped new.skipped (ap (λ (t : Totals). t.skipped) e) (omega arith) n.skipped)
    (capped-some astray_count parts count part (count * astray_count part) old.astray new.astray (ap (λ (t : Totals). t.astray) e) refl n.astray)
    (capped-none refused_count parts count part old.refused_blocks new.refused_blocks (ap (λ (t : Totals). t.refused_blocks) e) refl n.refused_blocks)
    (capped-none cut_count parts count part old.cut new.cut (ap (λ (t : Totals). t.cut) e) refl n.cut)
