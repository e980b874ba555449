-- How a framer delimits the TC frames of a recording that comes in chunks. Only contracts of
-- private functions cite `IsSplit` and `TakesUpToFrame`.
use Rattle.std.specs.Prelude.{◌≡◌, ◌⊎◌, ⊤, ◌↔◌, ℕ, nat_lt, Bool, true, false, if◌then◌else◌, List, [], ◌∷◌, ◌++◌, length, take, drop, Option, None, Some, IsNone}
use Rattle.std.specs.Borrow.{Bor}
use Rattle.std.specs.List.{concat}
use Rattle.sl_fields.specs.Field.{IsOctets}
use Rattle.sl_tcframe.specs.TcDelimited.{IsTcDelimited}
use Rattle.sl_tcframe.specs.TcFrame.{TcFormat, is_cut, least_of, stated_frame_len}
use Rattle.sl_tcframe.specs.declared.tc_framer.TcFramer.TheInside.{Inside}

-- ---- the front of octets

-- how far the frame at the front of octets has come
pub data FrameFront : Type 0 where
  -- more octets are needed, for the frame length field or for the frame
  Incomplete : FrameFront
  -- the stated length is below the least length of a frame
  BelowLeast : FrameFront
  -- a whole frame of this number of octets
  WholeFrame : ℕ → FrameFront

-- The length that the first four octets state. The frame length field ends with the fourth octet. A
-- primary header has a fifth one, N(S), which the field doesn't reach, so 0 stands for it. This
-- agrees with `stated_frame_len` where each number is below 256, since a greater fifth one would
-- carry into the field. So the laws ask for `IsOctets`.
abbrev pub len_by_four : List ℕ → ℕ
len_by_four octets = stated_frame_len (take 4 octets ++ 0 ∷ [])

-- how far the frame at the front of these octets has come (`front_len` of TcDelimited has only the
-- length of a whole frame)
abbrev pub frame_front : TcFormat → List ℕ → FrameFront
frame_front format octets =
    if nat_lt (length octets) 4 then Incomplete
    else if nat_lt (len_by_four octets) (least_of format) then BelowLeast
    else if nat_lt (length octets) (len_by_four octets) then Incomplete
    else WholeFrame (len_by_four octets)

-- ---- what was taken

-- the state of a framer: the format, and the octets that were taken after the last frame
pub record TcFraming : Type 0 where
  pub format : TcFormat
  pub rest : List ℕ

-- no octet was taken yet
abbrev pub at_start : TcFormat → TcFraming
at_start format = record { format = format; rest = [] }

-- the octets that were taken after the last frame, from the flag `is_lent` and the octets of the
-- buffer: none where these are a frame that was returned
abbrev pub waiting_octets : Bool → List ℕ → List ℕ
waiting_octets true buffer = []
waiting_octets false buffer = buffer

-- what a `TcFramer` of the code stands for
abbrev pub framing_of : Inside → TcFraming
framing_of f = record { format = f.shape; rest = waiting_octets f.is_lent f.buffer.items }

-- The octets that a framer took after the last frame: no frame is whole at their front. Where the
-- first four state a length below the least, there are only these four.
abbrev pub IsRest : TcFormat → List ℕ → Type 0
IsRest format octets =
    (frame_front format octets ≡ Incomplete) ⊎ ((frame_front format octets ≡ BelowLeast) × (length octets ≡ 4))

-- what holds of the octets of a framer's buffer, under the flag `is_lent`: nothing where they are a
-- frame that was returned, and `IsRest` where they came after the last frame
abbrev pub IsTaken : Bool → TcFormat → List ℕ → Type 0
IsTaken true format buffer = ⊤
IsTaken false format buffer = IsRest format buffer

-- the invariant of a `TcFramer`
pub record IsTcFramer (f : Inside) : Type 0 where
  pub taken : IsTaken f.is_lent f.shape f.buffer.items

-- ---- one call, with a chunk

-- The call returns a frame: the octets that were taken after the last frame, and then octets from
-- the front of the chunk. The other octets of the chunk are left.
pub record YieldsFrame (old : TcFraming) (chunk frame left : List ℕ) : Type 0 where
  pub parts : old.rest ++ chunk ≡ frame ++ left
  pub whole : frame_front old.format (old.rest ++ chunk) ≡ WholeFrame (length frame)

-- the octets that are held after a call without a frame, by how far a frame had come: all, or the
-- four that state a length below the least (never `WholeFrame` here)
abbrev pub taken_at : FrameFront → List ℕ → List ℕ
taken_at Incomplete octets = octets
taken_at BelowLeast octets = take 4 octets
taken_at (WholeFrame len) octets = []

-- the octets that are left of the chunk after a call without a frame: none, or those after the four
-- (never `WholeFrame` here)
abbrev pub left_at : FrameFront → List ℕ → List ℕ
left_at Incomplete octets = []
left_at BelowLeast octets = drop 4 octets
left_at (WholeFrame len) octets = octets

-- The call returns no frame: none is whole, and these octets of the chunk are left.
pub record YieldsNone (old : TcFraming) (chunk left : List ℕ) : Type 0 where
  pub front : (frame_front old.format (old.rest ++ chunk) ≡ Incomplete)
      ⊎ (frame_front old.format (old.rest ++ chunk) ≡ BelowLeast)
  pub left_is : left ≡ left_at (frame_front old.format (old.rest ++ chunk)) (old.rest ++ chunk)

-- the state after a call with this chunk, which returned this frame or none; after a frame no octet
-- is held
abbrev pub after_call : TcFraming → List ℕ → Option (List ℕ) → TcFraming
after_call old chunk (Some frame) = record { format = old.format; rest = [] }
after_call old chunk None =
    record { format = old.format; rest = taken_at (frame_front old.format (old.rest ++ chunk)) (old.rest ++ chunk) }

-- the octets of the returned frame, if there is one
abbrev pub lent_octets : Option (Bor (List ℕ)) → Option (List ℕ)
lent_octets None = None
lent_octets (Some octets) = Some octets.now

-- the framer is stuck: the octets that it took after the last frame state a length below the least
-- length of a frame
abbrev pub IsStuck : TcFraming → Type 0
IsStuck f = frame_front f.format f.rest ≡ BelowLeast

-- The state after a call with this chunk and this answer. A framer that is stuck stays as it was,
-- which follows from `after` and the clauses of `next` and `rest`, and spares callers a proof.
pub record HasTakenTc (old : TcFraming) (chunk : List ℕ) (answer : Option (Bor (List ℕ))) (new : TcFraming) : Type 0
  where
    pub after : new ≡ after_call old chunk (lent_octets answer)
    pub stuck : IsStuck old → new ≡ old

-- A framer that is stuck takes no octet and returns no frame.
abbrev pub StaysStuck : TcFraming → List ℕ → Option (Bor (List ℕ)) → List ℕ → Type 0
StaysStuck old chunk answer left = IsStuck old → (left ≡ chunk) × IsNone answer

-- The octets are split into the whole frame at their front and the octets after it.
pub record IsSplit (format : TcFormat) (octets frame later : List ℕ) : Type 0 where
  pub parts : octets ≡ frame ++ later
  pub front : frame_front format octets ≡ WholeFrame (length frame)
  pub cut : is_cut format frame ≡ true

-- Octets of the chunk are taken after the `old` ones. With `true` they are taken up to the end of a
-- frame, and `new` is this frame. With `false` no frame is whole, and `new` are the octets that a
-- framer then holds. `left` is what is left of the chunk.
abbrev pub TakesUpToFrame : TcFormat → List ℕ → List ℕ → Bool → List ℕ → List ℕ → Type 0
TakesUpToFrame format old chunk true new left =
    (old ++ chunk ≡ new ++ left) × (frame_front format (old ++ chunk) ≡ WholeFrame (length new))
    × (is_cut format new ≡ true)
TakesUpToFrame format old chunk false new left =
    ((frame_front format (old ++ chunk) ≡ Incomplete) ⊎ (frame_front format (old ++ chunk) ≡ BelowLeast))
    × (new ≡ taken_at (frame_front format (old ++ chunk)) (old ++ chunk))
    × (left ≡ left_at (frame_front format (old ++ chunk)) (old ++ chunk))
    × IsRest format new

-- ---- calls with chunks, one after another

-- Each chunk is given until the framer yields no frame, and then the next chunk. The framer yields
-- these frames and is left in the state `new`. The octets `behind` are those of the chunks that the
-- framer didn't take, end to end.
pub data YieldsFrames : TcFraming → List (List ℕ) → List (List ℕ) → TcFraming → List ℕ → Type 0 where
  -- no chunk is left
  ended : (f : TcFraming) → YieldsFrames f [] [] f []
  -- a call yields a frame, and what is left of the chunk is given next
  yielded : (f new : TcFraming) (chunk frame left behind : List ℕ) (chunks frames : List (List ℕ))
      → YieldsFrame f chunk frame left
      → YieldsFrames (after_call f chunk (Some frame)) (left ∷ chunks) frames new behind
      → YieldsFrames f (chunk ∷ chunks) (frame ∷ frames) new behind
  -- a call yields no frame, what is left of the chunk isn't taken, and the next chunk is given
  paused : (f new : TcFraming) (chunk left behind : List ℕ) (chunks frames : List (List ℕ)) → YieldsNone f chunk left
      → YieldsFrames (after_call f chunk None) chunks frames new behind
      → YieldsFrames f (chunk ∷ chunks) frames new (left ++ behind)

-- ---- laws

-- Octets begin with a frame of `len` octets, by its frame length field.
abbrev pub BeginsWith : TcFormat → List ℕ → ℕ → Type 0
BeginsWith format octets len =
    (frame : List ℕ) × (later : List ℕ) × (octets ≡ frame ++ later) × (is_cut format frame ≡ true)
    × (length frame ≡ len)

-- The front of octets is a whole frame of `len` octets exactly where the octets begin with a frame
-- of this length.
abbrev pub FrontsAreFrames : Type 0
FrontsAreFrames =
    (format : TcFormat) (octets : List ℕ) (len : ℕ) → IsOctets octets
    → (frame_front format octets ≡ WholeFrame len) ↔ BeginsWith format octets len

-- Octets that state a length below the least don't begin with a frame, however they go on.
abbrev pub BelowLeastIsNoFrame : Type 0
BelowLeastIsNoFrame =
    (format : TcFormat) (octets more : List ℕ) (len : ℕ) → IsOctets (octets ++ more)
    → frame_front format octets ≡ BelowLeast
    → BeginsWith format (octets ++ more) len → ⊥

-- The recording is the chunks end to end. The frames that the framer yields are the recording's
-- frames. The remainder is the octets that the framer holds at the end, and then those that it
-- didn't take.
abbrev pub ChunksAreDelimited : Type 0
ChunksAreDelimited =
    (format : TcFormat) (chunks frames : List (List ℕ)) (new : TcFraming) (behind : List ℕ) → IsOctets (concat chunks)
    → YieldsFrames (at_start format) chunks frames new behind
    → IsTcDelimited format (concat chunks) frames (new.rest ++ behind)

-- Octets with an incomplete front become a whole frame with some octets after them.
abbrev pub IncompleteBecomesFrame : Type 0
IncompleteBecomesFrame =
    (format : TcFormat) (octets : List ℕ) → IsOctets octets → frame_front format octets ≡ Incomplete
    → (more : List ℕ) × IsOctets more × (frame_front format (octets ++ more) ≡ WholeFrame (length (octets ++ more)))

-- Whatever the chunks are, the framer yields some frames and is left in some state.
abbrev pub AnyChunksAreTaken : Type 0
AnyChunksAreTaken =
    (format : TcFormat) (chunks : List (List ℕ))
    → (frames : List (List ℕ)) × (new : TcFraming) × (behind : List ℕ)
    × YieldsFrames (at_start format) chunks frames new behind
