-- Frames of a recording that comes in chunks.
use Rattle.std.proofs.Common.{◌≡◌, ℕ, zero, suc, ◌-◌, replicate, ◌<◌, ◌≤◌, List, [], ◌∷◌, ◌++◌, length, take, drop, Some, None, inl, inr, refl, sym, ◌∙◌, ap, subst, arith, append_assoc, append-nil, length-append, length-drop, length-take-le}
use Rattle.std.specs.List.{concat}
use Rattle.std.proofs.lemmas.Bool.Decides.{leb_tells}
use Rattle.std.proofs.lemmas.List.{take-append-drop, length-replicate}
use Rattle.std.proofs.lemmas.List.Elements.{All-replicate}
use Rattle.sl_tmframe.specs.TmDelimited.{IsTmDelimited, tm_frames_of, tm_remainder_of}
use Rattle.sl_tmframe.specs.TmFraming.{TmFraming, YieldsFrame, YieldsFrames, ended, yielded, used_up, after_call, at_start, AnyChunksAreTaken, ChunksAreDelimited, ShortBecomesFrame}
use Rattle.sl_tmframe.proofs.DelimitedLemmas.{is_delimited, frames_of-first, frames_of-short, remainder_of-first, remainder_of-short}

-- the frames and the remainder of all octets, those held and those of the chunks, are the ones that the framer yields
-- and holds at the end
abbrev AreTheirs : TmFraming → List (List ℕ) → List (List ℕ) → TmFraming → Type 0
AreTheirs f chunks frames new =
    (tm_frames_of f.len (f.rest ++ concat chunks) ≡ frames) × (tm_remainder_of f.len (f.rest ++ concat chunks) ≡ new.rest)

-- where no octet is held, `positive` (0 < len) also shows that fewer are held than a frame has
are_theirs : (f new : TmFraming) (chunks frames : List (List ℕ)) → 0 < f.len → length f.rest < f.len → YieldsFrames f chunks frames new → AreTheirs f chunks frames new
are_theirs f new chunks frames positive short (ended f') =
    let all = append-nil f.rest in
    (ap (tm_frames_of f.len) all ∙ frames_of-short f.len f.rest short, ap (tm_remainder_of f.len) all ∙ remainder_of-short f.len f.rest short)
are_theirs f new chunks' frames' positive short (yielded f' new' chunk frame left chunks frames c later) =
    let next = are_theirs (after_call f chunk (Some frame)) new (left ∷ chunks) frames positive positive later in
    let parts : f.rest ++ (chunk ++ concat chunks) ≡ frame ++ (left ++ concat chunks) =
    sym (append_assoc f.rest chunk (concat chunks)) ∙ ap (λ l. l ++ concat chunks) c.parts ∙ append_assoc frame left (concat chunks) in (
      ap (tm_frames_of f.len) parts ∙ frames_of-first f.len frame (left ++ concat chunks) positive c.whole ∙ ap (λ l. frame ∷ l) next.0,
      ap (tm_remainder_of f.len) parts ∙ remainder_of-first f.len frame (left ++ concat chunks) positive c.whole ∙ next.1,
    )
are_theirs f new chunks' frames' positive short (used_up f' new' chunk left chunks frames u later) =
    let next = are_theirs (after_call f chunk None) new chunks frames positive u.short later in
    let parts = append_assoc f.rest chunk (concat chunks) in
    (ap (tm_frames_of f.len) (sym parts) ∙ next.0, ap (tm_remainder_of f.len) (sym parts) ∙ next.1)

pub chunks_are_delimited : ChunksAreDelimited
chunks_are_delimited len chunks frames new positive yields =
    let theirs = are_theirs (at_start len) new chunks frames positive positive yields in
    subst (λ l. IsTmDelimited len (concat chunks) frames l) theirs.1
    (subst (λ l. IsTmDelimited len (concat chunks) l (tm_remainder_of len (concat chunks))) theirs.0 (is_delimited len (concat chunks) positive))

-- zeros after the octets make them a frame
pub short_becomes_frame : ShortBecomesFrame
short_becomes_frame len octets short =
    let more : List ℕ = replicate (len - length octets) 0 in
    let frame : List ℕ = octets ++ more in
    let positive : 0 < len = omega (arith, short) in
    let size : length frame ≡ len = omega (arith, short, length-append octets more, length-replicate {A = ℕ} (len - length octets) 0) in (
      more,
      All-replicate (λ octet. octet < 256) (len - length octets) 0 (omega arith),
      ap (tm_frames_of len) (sym (append-nil frame)) ∙ frames_of-first len frame [] positive size ∙ ap (λ l. frame ∷ l) (frames_of-short len [] positive),
    )

-- ---- any chunks

abbrev Taken : TmFraming → List (List ℕ) → Type 0
Taken f chunks = (frames : List (List ℕ)) × (new : TmFraming) × YieldsFrames f chunks frames new

-- the chunks after a chunk that is used up yield frames, whatever was taken before them
abbrev Others : TmFraming → List (List ℕ) → Type 0
Others f chunks = (g : TmFraming) → g.len ≡ f.len → length g.rest < g.len → Taken g chunks

use_up : (f : TmFraming) (chunk : List ℕ) (chunks : List (List ℕ)) → length (f.rest ++ chunk) < f.len → Others f chunks → Taken f (chunk ∷ chunks)
use_up f chunk chunks short others =
    let (frames, new, later) = others (after_call f chunk None) refl short in
    (frames, new, used_up f new chunk [] chunks frames (record { short = short; none_left = refl }) later)

take_chunk : (n : ℕ) (f : TmFraming) (chunk : List ℕ) (chunks : List (List ℕ)) → 0 < f.len → length f.rest < f.len → length chunk ≤ n → Others f chunks
    → Taken f (chunk ∷ chunks)
take_chunk zero f chunk chunks positive short few others = use_up f chunk chunks (omega (arith, short, few, length-append f.rest chunk)) others
take_chunk (suc n) f chunk chunks positive short few others =
    elim (leb_tells f.len (length (f.rest ++ chunk))) [
      | inl (is, whole) ↦
          let frame = take f.len (f.rest ++ chunk) in
          let left = drop f.len (f.rest ++ chunk) in
          let c : YieldsFrame f chunk frame left = record { parts = sym (take-append-drop f.len (f.rest ++ chunk)); whole = length-take-le f.len (f.rest ++ chunk) whole } in
          let less : length left ≤ n = omega (arith, few, short, length-append f.rest chunk, length-drop f.len (f.rest ++ chunk)) in
          let (frames, new, later) = take_chunk n (after_call f chunk (Some frame)) left chunks positive positive less others in
          (frame ∷ frames, new, yielded f new chunk frame left chunks frames c later)
      | inr (is, over) ↦ use_up f chunk chunks (omega (arith, over)) others
    ]

take_all : (f : TmFraming) (chunks : List (List ℕ)) → 0 < f.len → length f.rest < f.len → Taken f chunks
take_all f [] positive short = ([], f, ended f)
take_all f (chunk ∷ chunks) positive short =
    take_chunk (length chunk) f chunk chunks positive short (omega arith) (λ g same fits. take_all g chunks (omega (arith, same, positive)) fits)

pub any_chunks_are_taken : AnyChunksAreTaken
any_chunks_are_taken len chunks positive = take_all (at_start len) chunks positive positive
