-- How a recording that comes in chunks is delimited into TM frames. What a `TmFramer` stands for is
-- here too, and not in a file of its own.
use Rattle.std.specs.Prelude.{◌≡◌, ℕ, ◌<◌, ◌≤◌, List, [], ◌∷◌, ◌++◌, length, take, Option, None, Some}
use Rattle.std.specs.Borrow.{Bor}
use Rattle.std.specs.List.{concat}
use Rattle.sl_fields.specs.Field.{IsOctets}
use Rattle.sl_tmframe.specs.TmDelimited.{IsTmDelimited, tm_frames_of}
use Rattle.sl_tmframe.specs.declared.tm_framer.TmFramer.TheInside.{Inside}

-- The state of a framer: the length of each frame, and the octets that are held, which were taken
-- after the last frame. These are called `rest`; at the end of a recording they are its remainder.
pub record TmFraming : Type 0 where
  pub len : ℕ
  pub rest : List ℕ

-- the state of a framer that has taken no octet yet
abbrev pub at_start : ℕ → TmFraming
at_start len = record { len = len; rest = [] }

-- the state that a framer stands for: the octets that it holds lie at the front of its array
abbrev pub framing_of : Inside → TmFraming
framing_of f = record { len = f.len; rest = take f.held f.buffer.items }

-- The length of a frame is 32 to 2048 octets, fewer octets than that are held, and the array has
-- 2048 octets.
pub record IsTmFramer (f : Inside) : Type 0 where
  pub least : 32 ≤ f.len
  pub most : f.len ≤ 2048
  pub short : f.held < f.len
  pub room : length f.buffer.items ≡ 2048

-- ---- one call, with a chunk or what is left of one, which is named `chunk` too

-- The frame has the octets that were taken after the last frame, and then octets from the front of
-- the chunk. The other octets of the chunk are left.
pub record YieldsFrame (old : TmFraming) (chunk frame left : List ℕ) : Type 0 where
  pub parts : old.rest ++ chunk ≡ frame ++ left
  pub whole : length frame ≡ old.len

-- The octets that were taken after the last frame, and then the whole chunk, are too few for a
-- frame. No octet of the chunk is left.
pub record UsesUpChunk (old : TmFraming) (chunk left : List ℕ) : Type 0 where
  pub short : length (old.rest ++ chunk) < old.len
  pub none_left : left ≡ []

-- the state after a call that returned this frame, or none: after a frame no octet is held, and
-- without a frame the chunk was added to the octets that were held
abbrev pub after_call : TmFraming → List ℕ → Option (List ℕ) → TmFraming
after_call old chunk (Some frame) = record { len = old.len; rest = [] }
after_call old chunk None = record { len = old.len; rest = old.rest ++ chunk }

-- the octets of the frame that a call lends to its caller, if it lends one
abbrev pub lent_octets : Option (Bor (List ℕ)) → Option (List ℕ)
lent_octets None = None
lent_octets (Some octets) = Some octets.now

-- this is the state after a call with this chunk and this answer
abbrev pub HasTakenTm : TmFraming → List ℕ → Option (Bor (List ℕ)) → TmFraming → Type 0
HasTakenTm old chunk answer new = new ≡ after_call old chunk (lent_octets answer)

-- ---- calls with chunks, one after another

-- From this state on, each chunk is given until it is used up, and then the next one. These frames
-- are yielded, and this is the state at the end.
pub data YieldsFrames : TmFraming → List (List ℕ) → List (List ℕ) → TmFraming → Type 0 where
  ended : (f : TmFraming) → YieldsFrames f [] [] f
  yielded : (f new : TmFraming) (chunk frame left : List ℕ) (chunks frames : List (List ℕ))
      → YieldsFrame f chunk frame left
      → YieldsFrames (after_call f chunk (Some frame)) (left ∷ chunks) frames new
      → YieldsFrames f (chunk ∷ chunks) (frame ∷ frames) new
  used_up : (f new : TmFraming) (chunk left : List ℕ) (chunks frames : List (List ℕ)) → UsesUpChunk f chunk left
      → YieldsFrames (after_call f chunk None) chunks frames new → YieldsFrames f (chunk ∷ chunks) frames new

-- ---- laws

-- The frames that are yielded are those of the recording, which is the chunks end to end. The
-- octets that are held at the end are its remainder.
abbrev pub ChunksAreDelimited : Type 0
ChunksAreDelimited =
    (len : ℕ) (chunks frames : List (List ℕ)) (new : TmFraming) → 0 < len
    → YieldsFrames (at_start len) chunks frames new
    → IsTmDelimited len (concat chunks) frames new.rest

-- To octets that are too few for a frame, some octets can be added at the end so that all of them
-- together are exactly one frame. So only the end of the recording shows that they are a remainder.
abbrev pub ShortBecomesFrame : Type 0
ShortBecomesFrame =
    (len : ℕ) (octets : List ℕ) → length octets < len
    → (more : List ℕ) × IsOctets more × (tm_frames_of len (octets ++ more) ≡ (octets ++ more) ∷ [])

-- Every list of chunks can be given to a framer: it yields frames, and ends in a state.
abbrev pub AnyChunksAreTaken : Type 0
AnyChunksAreTaken =
    (len : ℕ) (chunks : List (List ℕ)) → 0 < len
    → (frames : List (List ℕ)) × (new : TmFraming) × YieldsFrames (at_start len) chunks frames new
