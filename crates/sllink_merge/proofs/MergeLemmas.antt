-- Recordings that are merged one after another.
use Rattle.std.proofs.Common.{◌≡◌, ◌<◌, ◌+◌, ◌&&◌, ◌∷◌, [], Bool, List, ℕ, get_or, length, take, true, false, refl, subst}
use Rattle.std.proofs.lemmas.List.{map_more}
use Rattle.sl_merge.specs.declared.counts.FateCounts.{FateCounts}
use Rattle.sl_merge.specs.declared.fate.Fate.{Fate}
use Rattle.sllink_merge.specs.Run.{IsMergedBy, IsRefusedFor, MergeAllTo, MergesOn, MergesTo, none, octets_of, one_more}
use Rattle.sllink_merge.specs.declared.command_line.Link.{Link}
use Rattle.sllink_merge.specs.declared.merge.Recording.{Recording}
use Rattle.sllink_merge.specs.declared.merge.Unmerged.{Unmerged}

-- the same fates
pub merged_by_same : {link : Link} {one other merged : List ℕ} {counts : FateCounts} {fates fates' : List Fate} → fates ≡ fates'
    → IsMergedBy link one other fates merged counts → IsMergedBy link one other fates' merged counts
merged_by_same {link} {one} {other} {merged} {counts} same is = subst (λ (f : List Fate). IsMergedBy link one other f merged counts) same is

pub refused_for_same : (link : Link) (one other : List ℕ) (why : Unmerged) {fates fates' : List Fate} → fates ≡ fates'
    → IsRefusedFor link one other fates why → IsRefusedFor link one other fates' why
refused_for_same link one other why same is = subst (λ (f : List Fate). IsRefusedFor link one other f why) same is

-- whether all is sure, by whether it was before
pub sure_where : {before sure sure' : Bool} → before ≡ true → sure' ≡ sure → sure' ≡ (before && sure)
sure_where was e = rw (was, e) refl

pub unsure_where : {before sure' : Bool} (sure : Bool) → before ≡ false → sure' ≡ before → sure' ≡ (before && sure)
unsure_where sure was e = rw (e, was) refl

-- the octets before, as a slice
pub merges_on_same : {link : Link} {one one' other merged : List ℕ} {sure before sure' : Bool} → one ≡ one'
    → MergesOn link one other true merged sure → sure' ≡ (before && sure) → MergesOn link one' other before merged sure'
merges_on_same {link} {one} {one'} {other} {merged} {sure} {before} {sure'} same step e = record {
  turn = step.turn;
  merges = subst (λ (l : List ℕ). MergesTo link l other merged step.turn) same step.merges;
  sure_is = rw (e, step.sure_is) refl;
}

-- two recordings
pub merged_two : {link : Link} {first second merged : List ℕ} {sure : Bool} → MergesOn link first second true merged sure
    → MergeAllTo link first (second ∷ []) sure merged
merged_two step = rw step.sure_is (one_more [] true _ _ _ _ none step.merges)

-- and one more
pub merged_more : {link : Link} {first second so_far merged : List ℕ} {sure sure' : Bool} (others : List Recording) (i : ℕ) (d : Recording)
    → i < length others → MergeAllTo link first (second ∷ octets_of (take i others)) sure so_far
    → MergesOn link so_far (get_or others i d).octets.now sure merged sure'
    → MergeAllTo link first (second ∷ octets_of (take (i + 1) others)) sure' merged
merged_more {second = second} others i d inside before next =
    rw (map_more (λ (recording : Recording). recording.octets.now) others i d inside, next.sure_is)
    (one_more (second ∷ octets_of (take i others)) _ _ _ _ next.turn before next.merges)
