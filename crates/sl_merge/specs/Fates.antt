-- What becomes of the frames of two recordings that are merged: a list of fates, each of which takes the next frame of
-- the recording that it names, or of both.
use Rattle.std.specs.Prelude.{ℕ, Bool, true, false, ◌&&◌, List, [], ◌∷◌, map, bytes_eq}
use Rattle.std.specs.List.{concat, filter}
use Rattle.sl_tmframe.specs.TmDelimited.{tm_frames_of}
use Rattle.sl_merge.specs.declared.fate.Fate.{Fate}
use Rattle.sl_merge.specs.declared.fate.Fate.TheVariants.{Both, First, FirstLeftOut, Second, SecondLeftOut}

-- ---- fates

-- the frame stands in the merge
abbrev pub stands : Fate → Bool
stands Both = true
stands First = true
stands Second = true
stands FirstLeftOut = false
stands SecondLeftOut = false

-- the first recording has the frame
abbrev pub of_first : Fate → Bool
of_first Both = true
of_first First = true
of_first Second = false
of_first FirstLeftOut = true
of_first SecondLeftOut = false

-- the fate with the recordings exchanged
abbrev pub turned : Fate → Fate
turned Both = Both
turned First = Second
turned Second = First
turned FirstLeftOut = SecondLeftOut
turned SecondLeftOut = FirstLeftOut

-- ---- the frames that a list of fates takes

-- a frame and its fate
pub record Fated : Type 0 where
  pub fate : Fate
  pub frame : List ℕ

abbrev pub fated : Fate → List ℕ → Fated
fated fate frame = record { fate = fate; frame = frame }

-- The frames that fates take from two recordings, in order. A fate for both takes a frame of each, and has that of the
-- first. Nothing is taken from the first fate on that finds no frame.
abbrev pub taken : List Fate → List (List ℕ) → List (List ℕ) → List Fated
taken (Both ∷ fates) (frame ∷ firsts) (other ∷ seconds) = fated Both frame ∷ taken fates firsts seconds
taken (First ∷ fates) (frame ∷ firsts) seconds = fated First frame ∷ taken fates firsts seconds
taken (FirstLeftOut ∷ fates) (frame ∷ firsts) seconds = fated FirstLeftOut frame ∷ taken fates firsts seconds
taken (Second ∷ fates) firsts (frame ∷ seconds) = fated Second frame ∷ taken fates firsts seconds
taken (SecondLeftOut ∷ fates) firsts (frame ∷ seconds) = fated SecondLeftOut frame ∷ taken fates firsts seconds
taken fates firsts seconds = []

-- The fates take all frames of two recordings and no others: each finds its frame, one for both finds the same octets in
-- each, and no frame is left over.
abbrev pub fits : List Fate → List (List ℕ) → List (List ℕ) → Bool
fits (Both ∷ fates) (frame ∷ firsts) (other ∷ seconds) = bytes_eq frame other && fits fates firsts seconds
fits (First ∷ fates) (frame ∷ firsts) seconds = fits fates firsts seconds
fits (FirstLeftOut ∷ fates) (frame ∷ firsts) seconds = fits fates firsts seconds
fits (Second ∷ fates) firsts (frame ∷ seconds) = fits fates firsts seconds
fits (SecondLeftOut ∷ fates) firsts (frame ∷ seconds) = fits fates firsts seconds
fits [] [] [] = true
fits fates firsts seconds = false

-- the same of recordings, which are octets: their frames have one length, and what follows the last frame is left out
abbrev pub taken_of : ℕ → List ℕ → List ℕ → List Fate → List Fated
taken_of len one other fates = taken fates (tm_frames_of len one) (tm_frames_of len other)

abbrev pub fits_both : ℕ → List ℕ → List ℕ → List Fate → Bool
fits_both len one other fates = fits fates (tm_frames_of len one) (tm_frames_of len other)

-- ---- what stands

-- frames end to end
abbrev pub octets_of : List Fated → List ℕ
octets_of items = concat (map (λ (item : Fated). item.frame) items)

-- those that stand in the merge
abbrev pub standing : List Fated → List Fated
standing items = filter (λ item. stands item.fate) items

-- those of the first recording that stand in the merge
abbrev pub kept_first : List Fated → List Fated
kept_first items = filter (λ item. stands item.fate && of_first item.fate) items

-- the recordings exchanged
abbrev pub turned_item : Fated → Fated
turned_item item = fated (turned item.fate) item.frame

abbrev pub exchanged : List Fated → List Fated
exchanged items = map turned_item items

-- the merged recording
abbrev pub merged_octets : ℕ → List ℕ → List ℕ → List Fate → List ℕ
merged_octets len one other fates = octets_of (standing (taken_of len one other fates))

-- The first recording, and the second one, without what is left out.
abbrev pub first_kept : ℕ → List ℕ → List ℕ → List Fate → List ℕ
first_kept len one other fates = octets_of (kept_first (taken_of len one other fates))

abbrev pub second_kept : ℕ → List ℕ → List ℕ → List Fate → List ℕ
second_kept len one other fates = octets_of (kept_first (exchanged (taken_of len one other fates)))
