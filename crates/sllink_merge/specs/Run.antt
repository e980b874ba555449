-- Recordings that are merged one after another, what a run writes of them, and the status with which it ends.
use Rattle.std.specs.Prelude.{◌≡◌, ◌⊎◌, ℕ, ◌==◌, ◌<◌, ◌&&◌, Bool, true, false, List, [], ◌∷◌, ◌++◌, map, Option, if◌then◌else◌}
use Rattle.sl_io.specs.declared.counted.Counted.{Counted}
use Rattle.sl_io.specs.declared.fault.LinkFault.{LinkFault}
use Rattle.sl_io.specs.Streams.{StopsWriting, WritesText}
use Rattle.sl_merge.specs.Counts.{fate_counts}
use Rattle.sl_merge.specs.Fates.{merged_octets, taken_of}
use Rattle.sl_merge.specs.Merge.{is_merge}
use Rattle.sl_merge.specs.declared.counts.FateCounts.{FateCounts}
use Rattle.sl_merge.specs.declared.fate.Fate.{Fate}
use Rattle.sllink_merge.specs.declared.order.Unordered.TheVariants.{Apart}
use Rattle.sllink_merge.specs.declared.command_line.Link.{Link}
use Rattle.sllink_merge.specs.declared.merge.Recording.{Recording}
use Rattle.sllink_merge.specs.declared.merge.Turn.{Turn}
use Rattle.sllink_merge.specs.declared.merge.Unmerged.{Unmerged}
use Rattle.sllink_merge.specs.declared.merge.Unmerged.TheVariants.{Memory, Unordered, Unchecked}

-- ---- two recordings

-- how many frames of two recordings have which fate
abbrev pub counts_of : Link → List ℕ → List ℕ → List Fate → FateCounts
counts_of link one other fates = fate_counts link.shape link.spacecraft (taken_of link.shape.len one other fates)

-- These fates tell a merge of two recordings that have a frame in common: this is the merged recording, and so many frames
-- have which fate.
pub record IsMergedBy (link : Link) (one other : List ℕ) (fates : List Fate) (merged : List ℕ) (counts : FateCounts) : Type 0 where
  pub passes : is_merge link.shape link.spacecraft one other fates ≡ true
  pub octets_are : merged ≡ merged_octets link.shape.len one other fates
  pub counts_are : counts ≡ counts_of link one other fates
  pub common : 0 < counts.both

-- these fates tell no merge, or one of two recordings without a frame in common
abbrev pub IsRefusedFor : Link → List ℕ → List ℕ → List Fate → Unmerged → Type 0
IsRefusedFor link one other fates why =
    ((why ≡ Unchecked) × (is_merge link.shape link.spacecraft one other fates ≡ false))
    ⊎ ((why ≡ Unordered Apart) × ((counts_of link one other fates).both ≡ 0))

-- some fates do
pub record MergesTo (link : Link) (one other merged : List ℕ) (turn : Turn) : Type 0 where
  pub fates : List Fate
  pub is : IsMergedBy link one other fates merged turn.counts

-- each frame that is left out is skipped or a repeat, and no order is a guess
abbrev pub is_sure : Turn → Bool
is_sure turn =
    (turn.counts.first_left_out.stretches == 0) && ((turn.counts.second_left_out.stretches == 0)
    && ((turn.outages == 0) && ((turn.guessed == 0) && (turn.undecided == 0))))

-- recordings are merged to this, and all is sure if it was before and the turn is
pub record MergesOn (link : Link) (one other : List ℕ) (sure_before : Bool) (merged : List ℕ) (sure : Bool) : Type 0 where
  pub turn : Turn
  pub merges : MergesTo link one other merged turn
  pub sure_is : sure ≡ (sure_before && is_sure turn)

-- ---- recordings one after another

-- The first recording is merged with the first of the others, what comes of it with the next of them, and so on. This is
-- what comes of the last, and whether all turns are sure.
pub data MergeAllTo (link : Link) (first : List ℕ) : List (List ℕ) → Bool → List ℕ → Type 0 where
  none : MergeAllTo link first [] true first
  one_more : (others : List (List ℕ)) (is_sure_before : Bool) (so_far other merged : List ℕ) (turn : Turn)
      → MergeAllTo link first others is_sure_before so_far → MergesTo link so_far other merged turn
      → MergeAllTo link first (others ++ (other ∷ [])) (is_sure_before && is_sure turn) merged

abbrev pub octets_of : List Recording → List (List ℕ)
octets_of recordings = map (λ (recording : Recording). recording.octets.now) recordings

-- recordings, of which there are two or more, are merged to this
abbrev pub AreMergedTo : Link → List Recording → Bool → List ℕ → Type 0
AreMergedTo link [] sure merged = ⊥
AreMergedTo link (first ∷ []) sure merged = ⊥
AreMergedTo link (first ∷ second ∷ others) sure merged =
    MergeAllTo link first.octets.now (octets_of (second ∷ others)) sure merged

-- the status where all was merged and written
abbrev pub status_of : Bool → ℕ
status_of sure = if sure then 0 else 1

-- the status where two recordings aren't merged
abbrev pub refused_status : Unmerged → ℕ
refused_status Memory = 3
refused_status (Unordered why) = 2
refused_status Unchecked = 2

-- ---- a run

module _ {W : Type 0} (contents : W → Option (List ℕ)) (writer writer' : Counted W) (link : Link)
    (recordings : List Recording) where
  -- the merge was written and nothing else
  pub record HasEnded (status : ℕ) : Type 0 where
    pub sure : Bool
    pub merged : List ℕ
    pub are_merged : AreMergedTo link recordings sure merged
    pub written : WritesText contents writer writer' merged
    pub status_is : status ≡ status_of sure

  -- a fault came while the merge was written, of which the beginning was
  pub record StopsInMerge : Type 0 where
    pub sure : Bool
    pub merged : List ℕ
    pub fault : LinkFault
    pub are_merged : AreMergedTo link recordings sure merged
    pub stopped : StopsWriting contents writer writer' merged ⊥ fault

  -- or memory was refused before, and nothing was written
  abbrev pub HasStopped : Type 0
  HasStopped = (writer' ≡ writer) ⊎ StopsInMerge
