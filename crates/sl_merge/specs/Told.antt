-- What a private function makes of fates: frames, each with its fate and with what is read of it. Contracts of private
-- functions alone cite this.
use Rattle.std.specs.Prelude.{◌≡◌, ◌≤◌, ℕ, Bool, true, false, cond, ◌&&◌, List, [], ◌∷◌, length, map, Some, nat_eq}
use Rattle.std.specs.List.{filter}
use Rattle.std.specs.Option.{option_eq}
use Rattle.sl_tmframe.specs.TmFrame.{TmFormat}
use Rattle.sl_merge.specs.declared.fate.Fate.{Fate}
use Rattle.sl_merge.specs.declared.item.Item.TheInside as inside
use Rattle.sl_merge.specs.declared.item.Seen.{Seen}
use Rattle.sl_merge.specs.Fates.{Fated, fated, fits, taken, turned_item}
use Rattle.sl_merge.specs.Merge.{vc_of}

-- the frame and its fate that an `Item` stands for, and its least length
abbrev pub fated_of : inside.Inside → Fated
fated_of i = record { fate = i.fate; frame = i.frame.now }

abbrev pub IsItem : inside.Inside → Type 0
IsItem i = 12 ≤ length i.frame.now

-- a frame with its virtual channel
abbrev pub seen_of : TmFormat → ℕ → Fated → Seen
seen_of format spacecraft item = record { item = item; vc = vc_of format spacecraft item.frame }

-- those on a virtual channel
abbrev pub seen_on : ℕ → List Seen → List Fated
seen_on vc seen = map (λ (s : Seen). s.item) (filter (λ s. option_eq nat_eq s.vc (Some vc)) seen)

-- frames as they are, or with the recordings exchanged
abbrev pub turn_if : Bool → Fated → Fated
turn_if is_turned item = cond is_turned (turned_item item) item

abbrev pub from_side : Bool → List Fated → List Fated
from_side is_turned items = map (turn_if is_turned) items

-- no frames are there
abbrev pub has_none : List (List ℕ) → Bool
has_none [] = true
has_none (frame ∷ frames) = false

-- the next fate finds no frame
pub record FindsNone (fate : Fate) (firsts seconds : List (List ℕ)) : Type 0 where
  pub taken : (fates : List Fate) → taken (fate ∷ fates) firsts seconds ≡ []
  pub fits : (fates : List Fate) → fits (fate ∷ fates) firsts seconds ≡ false

-- the next fate takes this frame, and leaves the later ones; `same` says whether it is the same in both where it is of both
pub record Finds (fate : Fate) (frame : List ℕ) (same : Bool) (firsts seconds later later_seconds : List (List ℕ)) : Type 0 where
  pub taken : (fates : List Fate) → taken (fate ∷ fates) firsts seconds ≡ fated fate frame ∷ taken fates later later_seconds
  pub fits : (fates : List Fate) → fits (fate ∷ fates) firsts seconds ≡ (same && fits fates later later_seconds)
