-- A recording of TC frames: frames end to end, each as long as its frame length field states, and a
-- remainder. This way to divide a recording, and what ends its frames, are this project's
-- choice.
use Rattle.std.specs.Prelude.{◌≡◌, ℕ, zero, suc, ◌-◌, nat_lt, Bool, true, ◌||◌, if◌then◌else◌, List, [], ◌∷◌, ◌++◌, length, take, drop, Option, None, Some}
use Rattle.std.specs.List.{AllByRecursion, concat}
use Rattle.sl_tcframe.specs.TcFrame.{TcFormat, stated_frame_len, least_of, is_cut}

-- No frame begins with these octets, so the recording's frames end here. One of three things is so:
-- there are fewer octets than a primary header has, the stated length is below the least length of
-- a frame, or there are fewer octets than the stated length. `frame_front` of TcFraming asks for four
-- octets, not five. Both find the same frames, since four octets are never a whole frame.
abbrev pub begin_no_frame : TcFormat → List ℕ → Bool
begin_no_frame format octets =
    nat_lt (length octets) 5
    || (nat_lt (stated_frame_len octets) (least_of format) || nat_lt (length octets) (stated_frame_len octets))

-- The frames of a recording lie end to end from the first octet on, each as long as its frame
-- length field states and no shorter than the least length. They end at the first offset at which
-- no frame begins. The octets from there on are the remainder.
pub record IsTcDelimited (format : TcFormat) (recording : List ℕ) (frames : List (List ℕ)) (remainder : List ℕ)
    : Type 0 where
  pub end_to_end : recording ≡ concat frames ++ remainder
  pub each : AllByRecursion (λ frame. is_cut format frame ≡ true) frames
  pub no_more : begin_no_frame format remainder ≡ true

-- ---- the frames and the remainder, as functions of the recording

-- The law `tc_recordings_are_delimited` says that `tc_frames_of` and `tc_remainder_of` are the
-- frames and the remainder, and that there are no others.

-- the length of the frame at the front of octets, if a frame begins there
abbrev pub front_len : TcFormat → List ℕ → Option ℕ
front_len format octets = if begin_no_frame format octets then None else Some (stated_frame_len octets)

-- the frame at the front of octets, as a list of one or none; `len` is `front_len` of the octets
abbrev pub frame_at : Option ℕ → List ℕ → List (List ℕ)
frame_at None octets = []
frame_at (Some len) octets = take len octets ∷ []

-- how many octets after the first one are passed over before a frame is looked for again: the
-- others of the frame that begins here, or all where none begins (the first one is already passed,
-- so this is one too many, which does no harm); `len` as in `frame_at`
abbrev pub frame_passed : Option ℕ → List ℕ → ℕ
frame_passed None octets = length octets
frame_passed (Some len) octets = len - 1

-- the frames of octets, where the first `skip` octets belong to an earlier frame
abbrev pub tc_frames_from : TcFormat → ℕ → List ℕ → List (List ℕ)
tc_frames_from format skip [] = []
tc_frames_from format (suc skip) (octet ∷ octets) = tc_frames_from format skip octets
tc_frames_from format zero (octet ∷ octets) =
    frame_at (front_len format (octet ∷ octets)) (octet ∷ octets)
    ++ tc_frames_from format (frame_passed (front_len format (octet ∷ octets)) (octet ∷ octets)) octets

-- the frames of a recording
abbrev pub tc_frames_of : TcFormat → List ℕ → List (List ℕ)
tc_frames_of format recording = tc_frames_from format 0 recording

-- the octets that are left after the frames of a recording
abbrev pub tc_remainder_of : TcFormat → List ℕ → List ℕ
tc_remainder_of format recording = drop (length (concat (tc_frames_of format recording))) recording

-- ---- laws

-- Every recording is delimited into its frames and its remainder.
abbrev pub EachIsTcDelimited : Type 0
EachIsTcDelimited =
    (format : TcFormat) (recording : List ℕ)
    → IsTcDelimited format recording (tc_frames_of format recording) (tc_remainder_of format recording)

-- No recording is delimited into other frames and another remainder.
abbrev pub IsTcDelimitedOnce : Type 0
IsTcDelimitedOnce =
    (format : TcFormat) (recording : List ℕ) (frames : List (List ℕ)) (remainder : List ℕ)
    → IsTcDelimited format recording frames remainder
    → (tc_frames_of format recording ≡ frames) × (tc_remainder_of format recording ≡ remainder)
