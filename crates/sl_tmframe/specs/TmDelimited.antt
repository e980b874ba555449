-- A recording of TM frames: frames of the managed length end to end, and a remainder shorter than a
-- frame. That a recording is delimited in this way is this project's choice.
use Rattle.std.specs.Prelude.{◌≡◌, ℕ, zero, suc, ◌*◌, ◌/◌, ◌<◌, List, [], ◌∷◌, ◌++◌, length, take, drop}
use Rattle.std.specs.List.{AllByRecursion, concat}

-- The frames of a recording lie end to end from the first octet on, each of the managed length. The
-- octets after them, fewer than a frame has, are the remainder.
pub record IsTmDelimited (len : ℕ) (recording : List ℕ) (frames : List (List ℕ)) (remainder : List ℕ) : Type 0 where
  pub end_to_end : recording ≡ concat frames ++ remainder
  pub whole : AllByRecursion (λ frame. length frame ≡ len) frames
  pub short : length remainder < len

-- ---- the frames and the remainder, as functions of the recording

-- The law `tm_recordings_are_delimited` says that `tm_frames_of` and `tm_remainder_of` are the
-- frames and the remainder, and that there are no others.

-- `count` frames from the front on
abbrev pub tm_frames_from : ℕ → ℕ → List ℕ → List (List ℕ)
tm_frames_from len zero recording = []
tm_frames_from len (suc count) recording = take len recording ∷ tm_frames_from len count (drop len recording)

-- the frames of a recording, as many as fit into it
abbrev pub tm_frames_of : ℕ → List ℕ → List (List ℕ)
tm_frames_of len recording = tm_frames_from len (length recording / len) recording

-- the octets that are left after the frames of a recording
abbrev pub tm_remainder_of : ℕ → List ℕ → List ℕ
tm_remainder_of len recording = drop (length recording / len * len) recording

-- ---- laws

-- Every recording is delimited into the frames and the remainder that these functions compute.
abbrev pub EachIsTmDelimited : Type 0
EachIsTmDelimited =
    (len : ℕ) (recording : List ℕ) → 0 < len
    → IsTmDelimited len recording (tm_frames_of len recording) (tm_remainder_of len recording)

-- No recording is delimited into other frames, or into another remainder.
abbrev pub IsTmDelimitedOnce : Type 0
IsTmDelimitedOnce =
    (len : ℕ) (recording : List ℕ) (frames : List (List ℕ)) (remainder : List ℕ) → 0 < len
    → IsTmDelimited len recording frames remainder
    → (tm_frames_of len recording ≡ frames) × (tm_remainder_of len recording ≡ remainder)
