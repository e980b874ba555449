-- The frames of chunks that come one after another.
use Rattle.std.proofs.Common.{◌≡◌, ℕ, zero, suc, ◌<◌, ◌≤◌, true, List, [], ◌∷◌, ◌++◌, length, take, drop, Some, None, inl, inr, refl, sym, ◌∙◌, ap, subst, arith, append_assoc, append-nil, length-append, length-drop, length-take-le}
use Rattle.std.specs.List.{concat}
use Rattle.std.proofs.lemmas.Bool.Decides.{leb_tells}
use Rattle.std.proofs.lemmas.List.{drop_at, take_at, take-append-drop}
use Rattle.std.proofs.lemmas.List.Elements.{All-drop, All-get_or, All-take}
use Rattle.std.proofs.lemmas.Option.{none-some}
use Rattle.sl_fields.specs.Field.{IsOctets}
use Rattle.sl_tcframe.specs.TcDelimited.{IsTcDelimited, front_len, tc_frames_of, tc_remainder_of}
use Rattle.sl_tcframe.specs.TcFrame.{TcFormat, is_cut, stated_frame_len}
use Rattle.sl_tcframe.specs.TcFraming.{BeginsWith, FrameFront, Incomplete, BelowLeast, WholeFrame, IsRest, len_by_four, frame_front, TcFraming, YieldsFrame, YieldsNone, YieldsFrames, ended, yielded, paused, after_call, at_start, AnyChunksAreTaken, BelowLeastIsNoFrame, ChunksAreDelimited, FrontsAreFrames}
use Rattle.sl_tcframe.proofs.DelimitedLemmas.{HasFrame, front_len-cases, is_cut-front, each_is_delimited, front_len-is, front_len-is_cut, front_len-some, frames_of-frame, frames_of-none, remainder_of-frame, remainder_of-none}
use Rattle.sl_tcframe.proofs.FramingLemmas.{FrontIs, below_is_not_whole, below_stays, fits_rest, four_state_it, front_below_least, front_tells, front_whole, len_by_four-append, rest_fits}
use Rattle.sl_tcframe.proofs.PartLemmas.{facts_cut}

-- ---- the front

-- the fifth octet doesn't change the stated length
stated_by_four : (octets : List ℕ) → IsOctets octets → 5 ≤ length octets → len_by_four octets ≡ stated_frame_len octets
stated_by_four octets each five = four_state_it octets five (All-get_or (λ octet. octet < 256) octets 4 0 (omega arith) each)

whole_is_frame : (format : TcFormat) (octets : List ℕ) (len : ℕ) → IsOctets octets → frame_front format octets ≡ WholeFrame len → front_len format octets ≡ Some len
whole_is_frame format octets len each whole =
    let w = front_tells format octets (WholeFrame len) whole in
    let five : 5 ≤ length octets = omega (arith, w.1, w.2) in
    front_len-is format octets len (record {
      header = five;
      least = omega (arith, w.1, w.3);
      inside = omega (arith, w.2, w.3);
      stated = w.3 ∙ stated_by_four octets each five;
    })

frame_is_whole : (format : TcFormat) (octets : List ℕ) (len : ℕ) → IsOctets octets → front_len format octets ≡ Some len → frame_front format octets ≡ WholeFrame len
frame_is_whole format octets len each some =
    let f = front_len-some format octets len some in
    let header = f.header in
    let least = f.least in
    let inside = f.inside in
    let same : len_by_four octets ≡ len = stated_by_four octets each header ∙ sym f.stated in
    front_whole format octets (omega (arith, header)) (omega (arith, least, same)) (omega (arith, inside, same)) ∙ ap WholeFrame same

-- the frame at the front of octets
begins_with : (format : TcFormat) (octets : List ℕ) (len : ℕ) → front_len format octets ≡ Some len → BeginsWith format octets len
begins_with format octets len some =
    let f = front_len-some format octets len some in
    let inside = f.inside in
    (take len octets, drop len octets, sym (take-append-drop len octets), front_len-is_cut format octets len some, length-take-le len octets inside)

front_begins : (format : TcFormat) (octets : List ℕ) (len : ℕ) → BeginsWith format octets len → front_len format octets ≡ Some len
front_begins format octets len b =
    let (frame, later, parts, cut, size) = b in
    front_len-is format octets len
    (subst (λ n. HasFrame format octets n) size (subst (λ l. HasFrame format l (length frame)) (sym parts) (is_cut-front format frame later cut)))

pub fronts_are_frames : FrontsAreFrames
fronts_are_frames format octets len each = (
  λ whole. begins_with format octets len (whole_is_frame format octets len each whole),
  λ begins. frame_is_whole format octets len each (front_begins format octets len begins),
)

-- no frame is at the front of octets where their stated length rules it out
begins_no_frame : (format : TcFormat) (octets : List ℕ) → IsOctets octets
    → (HasFrame format octets (stated_frame_len octets) → len_by_four octets ≡ stated_frame_len octets → ⊥) → front_len format octets ≡ None
begins_no_frame format octets each not_so =
    elim (front_len-cases format octets) [
      | inl (f, some) ↦ absurd (not_so f (stated_by_four octets each f.header))
      | inr (none, is) ↦ is
    ]

pub rest_is_no_frame : (format : TcFormat) (octets : List ℕ) → IsOctets octets → IsRest format octets → front_len format octets ≡ None
rest_is_no_frame format octets each is_rest =
    begins_no_frame format octets each (λ f same. elim (rest_fits format octets is_rest) [
      | inl few ↦ let five = f.header in absurd (omega (arith, few, five))
      | inr (enough, more) ↦ let inside = f.inside in absurd (omega (arith, same, more, inside))
    ])

pub no_frame_below_least : (format : TcFormat) (octets more : List ℕ) → IsOctets (octets ++ more) → frame_front format octets ≡ BelowLeast → front_len format (octets ++ more) ≡ None
no_frame_below_least format octets more each below =
    let facts = front_tells format octets BelowLeast below in
    begins_no_frame format (octets ++ more) each
    (λ f same. let least = f.least in absurd (omega (arith, same, least, facts.1, len_by_four-append octets more facts.0)))

pub below_least_is_no_frame : BelowLeastIsNoFrame
below_least_is_no_frame format octets more len each below begins =
    none-some len (sym (no_frame_below_least format octets more each below) ∙ front_begins format (octets ++ more) len begins)

-- a whole front is a frame
whole_is_cut : (format : TcFormat) (octets frame left : List ℕ) → octets ≡ frame ++ left → IsOctets frame → FrontIs format octets (WholeFrame (length frame))
    → is_cut format frame ≡ true
whole_is_cut format octets frame left parts each w =
    let four : 4 ≤ length frame = omega (arith, w.1, w.3) in
    let same : len_by_four octets ≡ len_by_four frame = ap len_by_four parts ∙ len_by_four-append frame left four in
    let five : 5 ≤ length frame = omega (arith, w.1, w.3) in
    facts_cut format frame (omega (arith, w.1, w.3)) (w.3 ∙ same ∙ stated_by_four frame each five)

-- ---- a call that yields no frame

-- four octets that state a length below the least are taken, and the octets after them are left
below_taken : (format : TcFormat) (octets : List ℕ) → frame_front format octets ≡ BelowLeast → length (take 4 octets) ≡ 4
below_taken format octets below = length-take-le 4 octets (front_tells format octets BelowLeast below).0

pub below_again : (format : TcFormat) (octets : List ℕ) → frame_front format octets ≡ BelowLeast → frame_front format (take 4 octets) ≡ BelowLeast
below_again format octets below =
    let facts = front_tells format octets BelowLeast below in
    let four = below_taken format octets below in
    let same : len_by_four octets ≡ len_by_four (take 4 octets) =
    ap len_by_four (sym (take-append-drop 4 octets)) ∙ len_by_four-append (take 4 octets) (drop 4 octets) (omega (arith, four)) in
    front_below_least format (take 4 octets) (omega (arith, four)) (omega (arith, facts.1, same))

pub pause_rest : (f : TcFraming) (chunk left : List ℕ) → YieldsNone f chunk left → IsRest f.format (after_call f chunk None).rest
pause_rest f chunk left p =
    let octets = f.rest ++ chunk in
    elim p.front [
      | inl more ↦ rw more (inl more)
      | inr below ↦ rw below (inr (below_again f.format octets below, below_taken f.format octets below))
    ]

-- the octets that are taken and those that are left make up all octets
pub pause_parts : (f : TcFraming) (chunk left : List ℕ) → YieldsNone f chunk left → f.rest ++ chunk ≡ (after_call f chunk None).rest ++ left
pause_parts f chunk left p =
    let octets = f.rest ++ chunk in
    elim p.front [
      | inl more ↦ rw (p.left_is, more) (sym (append-nil octets))
      | inr below ↦ rw (p.left_is, below) (sym (take-append-drop 4 octets))
    ]

-- ---- calls one after another

all_of-paused : (f : TcFraming) (chunk left : List ℕ) (chunks : List (List ℕ)) → YieldsNone f chunk left
    → f.rest ++ (chunk ++ concat chunks) ≡ (after_call f chunk None).rest ++ (left ++ concat chunks)
all_of-paused f chunk left chunks p =
    sym (append_assoc f.rest chunk (concat chunks)) ∙ ap (λ l. l ++ concat chunks) (pause_parts f chunk left p)
    ∙ append_assoc (after_call f chunk None).rest left (concat chunks)

-- a framer that is stuck yields no frame, and takes no octet
pub record YieldsNoMore (f : TcFraming) (chunks frames : List (List ℕ)) (new : TcFraming) (behind : List ℕ) : Type 0 where
  pub none : frames ≡ []
  pub rest : new.rest ≡ f.rest
  pub behind_is : behind ≡ concat chunks

yields_no_more : (f new : TcFraming) (chunks frames : List (List ℕ)) (behind : List ℕ) → frame_front f.format f.rest ≡ BelowLeast → length f.rest ≡ 4
    → YieldsFrames f chunks frames new behind → YieldsNoMore f chunks frames new behind
yields_no_more f new chunks frames behind below four (ended f') = record { none = refl; rest = refl; behind_is = refl }
yields_no_more f new chunks' frames' behind' below four (yielded f' new' chunk frame left behind chunks frames y later) =
    absurd (below_is_not_whole (length frame) (sym (below_stays f.format f.rest chunk below) ∙ y.whole))
yields_no_more f new chunks' frames' behind' below four (paused f' new' chunk left behind chunks frames p later) =
    let now = below_stays f.format f.rest chunk below in
    let same : (after_call f chunk None).rest ≡ f.rest = rw now (take_at f.rest chunk 4 four) in
    let left_same : left ≡ chunk = p.left_is ∙ rw now (drop_at f.rest chunk 4 four) in
    let next = yields_no_more (after_call f chunk None) new chunks frames behind (subst (λ l. frame_front f.format l ≡ BelowLeast) (sym same) below) (ap length same ∙ four) later in
    record {
      none = next.none;
      rest = next.rest ∙ same;
      behind_is = ap (λ l. l ++ behind) left_same ∙ ap (λ l. chunk ++ l) next.behind_is;
    }

-- both lists are octets
both_octets : (xs ys : List ℕ) → IsOctets (xs ++ ys) → (IsOctets xs) × (IsOctets ys)
both_octets xs ys each = (
  subst IsOctets (take_at xs ys (length xs) refl) (All-take (λ octet. octet < 256) (length xs) (xs ++ ys) each),
  subst IsOctets (drop_at xs ys (length xs) refl) (All-drop (λ octet. octet < 256) (length xs) (xs ++ ys) each),
)

-- the frames and the remainder of all octets, those held and those of the chunks, are the ones that the framer yields
-- and leaves
abbrev AreTheirs : TcFraming → List (List ℕ) → List (List ℕ) → TcFraming → List ℕ → Type 0
AreTheirs f chunks frames new behind =
    (tc_frames_of f.format (f.rest ++ concat chunks) ≡ frames) × (tc_remainder_of f.format (f.rest ++ concat chunks) ≡ new.rest ++ behind)

-- where the octets so far state a length below the least
stuck_theirs : (f new : TcFraming) (chunk left behind : List ℕ) (chunks frames : List (List ℕ)) → IsOctets (f.rest ++ (chunk ++ concat chunks))
    → YieldsNone f chunk left → frame_front f.format (f.rest ++ chunk) ≡ BelowLeast → YieldsFrames (after_call f chunk None) chunks frames new behind
    → AreTheirs f (chunk ∷ chunks) frames new (left ++ behind)
stuck_theirs f new chunk left behind chunks frames each p below later =
    let octets = f.rest ++ chunk in
    let parts = append_assoc f.rest chunk (concat chunks) in
    let four : (after_call f chunk None).rest ≡ take 4 octets = rw below refl in
    let again = subst (λ l. frame_front f.format l ≡ BelowLeast) (sym four) (below_again f.format octets below) in
    let stays = yields_no_more (after_call f chunk None) new chunks frames behind again (ap length four ∙ below_taken f.format octets below) later in
    let none = no_frame_below_least f.format octets (concat chunks) (subst IsOctets (sym parts) each) below in (
      ap (tc_frames_of f.format) (sym parts) ∙ frames_of-none f.format (octets ++ concat chunks) none ∙ sym stays.none,
      ap (tc_remainder_of f.format) (sym parts) ∙ remainder_of-none f.format (octets ++ concat chunks) none ∙ parts
          ∙ all_of-paused f chunk left chunks p ∙ ap (λ l. l ++ (left ++ concat chunks)) (sym stays.rest)
          ∙ ap (λ l. new.rest ++ (left ++ l)) (sym stays.behind_is),
    )

are_theirs : (f new : TcFraming) (chunks frames : List (List ℕ)) (behind : List ℕ) → IsOctets (f.rest ++ concat chunks) → IsRest f.format f.rest
    → YieldsFrames f chunks frames new behind → AreTheirs f chunks frames new behind
are_theirs f new chunks frames behind each is_rest (ended f') =
    let all = append-nil f.rest in
    let none = rest_is_no_frame f.format f.rest (subst IsOctets all each) is_rest in (
      ap (tc_frames_of f.format) all ∙ frames_of-none f.format f.rest none,
      ap (tc_remainder_of f.format) all ∙ remainder_of-none f.format f.rest none ∙ sym all,
    )
are_theirs f new chunks' frames' behind' each is_rest (yielded f' new' chunk frame left behind chunks frames y later) =
    let parts : f.rest ++ (chunk ++ concat chunks) ≡ frame ++ (left ++ concat chunks) =
    sym (append_assoc f.rest chunk (concat chunks)) ∙ ap (λ l. l ++ concat chunks) y.parts ∙ append_assoc frame left (concat chunks) in
    let both = both_octets frame (left ++ concat chunks) (subst IsOctets parts each) in
    let next = are_theirs (after_call f chunk (Some frame)) new (left ∷ chunks) frames behind both.1 (fits_rest f.format [] (inl (omega arith))) later in
    let cut = whole_is_cut f.format (f.rest ++ chunk) frame left y.parts both.0 (front_tells f.format (f.rest ++ chunk) (WholeFrame (length frame)) y.whole) in (
      ap (tc_frames_of f.format) parts ∙ frames_of-frame f.format frame (left ++ concat chunks) cut ∙ ap (λ l. frame ∷ l) next.0,
      ap (tc_remainder_of f.format) parts ∙ remainder_of-frame f.format frame (left ++ concat chunks) cut ∙ next.1,
    )
are_theirs f new chunks' frames' behind' each is_rest (paused f' new' chunk left behind chunks frames p later) =
    elim p.front [
      | inr below ↦ stuck_theirs f new chunk left behind chunks frames each p below later
      | inl more ↦
          let none : left ≡ [] = p.left_is ∙ rw more refl in
          let all : f.rest ++ (chunk ++ concat chunks) ≡ (after_call f chunk None).rest ++ concat chunks =
          all_of-paused f chunk left chunks p ∙ ap (λ l. (after_call f chunk None).rest ++ (l ++ concat chunks)) none in
          let next = are_theirs (after_call f chunk None) new chunks frames behind (subst IsOctets all each) (pause_rest f chunk left p) later in (
            ap (tc_frames_of f.format) all ∙ next.0,
            ap (tc_remainder_of f.format) all ∙ next.1 ∙ ap (λ l. new.rest ++ (l ++ behind)) (sym none),
          )
    ]

pub chunks_are_delimited : ChunksAreDelimited
chunks_are_delimited format chunks frames new behind each yields =
    let theirs = are_theirs (at_start format) new chunks frames behind each (fits_rest format [] (inl (omega arith))) yields in
    subst (λ l. IsTcDelimited format (concat chunks) frames l) theirs.1
    (subst (λ l. IsTcDelimited format (concat chunks) l (tc_remainder_of format (concat chunks))) theirs.0 (each_is_delimited format (concat chunks)))

-- ---- any chunks

abbrev Taken : TcFraming → List (List ℕ) → Type 0
Taken f chunks = (frames : List (List ℕ)) × (new : TcFraming) × (behind : List ℕ) × YieldsFrames f chunks frames new behind

-- the chunks after a chunk yield frames, whatever was taken before them
abbrev Others : TcFraming → List (List ℕ) → Type 0
Others f chunks = (g : TcFraming) → g.format ≡ f.format → IsRest g.format g.rest → Taken g chunks

-- a whole frame has more octets than were taken before the chunk
pub less_than_whole : (format : TcFormat) (rest chunk : List ℕ) (len : ℕ) → IsRest format rest → FrontIs format (rest ++ chunk) (WholeFrame len) → length rest < len
less_than_whole format rest chunk len is_rest w =
    elim (leb_tells (length rest) 4) [
      | inl (is, few) ↦ omega (arith, few, w.1, w.3)
      | inr (is, many) ↦
          elim (rest_fits format rest is_rest) [
            | inl few ↦ absurd (omega (arith, few, many))
            | inr (enough, more) ↦ omega (arith, more, w.3, len_by_four-append rest chunk (omega (arith, many)))
          ]
    ]

pause : (f : TcFraming) (chunk left : List ℕ) (chunks : List (List ℕ)) → Others f chunks → YieldsNone f chunk left → Taken f (chunk ∷ chunks)
pause f chunk left chunks others p =
    let (frames, new, behind, later) = others (after_call f chunk None) refl (pause_rest f chunk left p) in
    (frames, new, left ++ behind, paused f new chunk left behind chunks frames p later)

step : (f : TcFraming) (chunk : List ℕ) (chunks : List (List ℕ)) → IsRest f.format f.rest → Others f chunks
    → ((frame left : List ℕ) → length left < length chunk → Taken (after_call f chunk (Some frame)) (left ∷ chunks))
    → (front : FrameFront) → frame_front f.format (f.rest ++ chunk) ≡ front → Taken f (chunk ∷ chunks)
step f chunk chunks is_rest others next Incomplete is =
    pause f chunk [] chunks others (record { front = inl is; left_is = rw is refl })
step f chunk chunks is_rest others next BelowLeast is =
    pause f chunk (drop 4 (f.rest ++ chunk)) chunks others (record { front = inr is; left_is = rw is refl })
step f chunk chunks is_rest others next (WholeFrame len) is =
    let octets = f.rest ++ chunk in
    let w = front_tells f.format octets (WholeFrame len) is in
    let inside : len ≤ length octets = omega (arith, w.2, w.3) in
    let size : length (take len octets) ≡ len = length-take-le len octets inside in
    let y : YieldsFrame f chunk (take len octets) (drop len octets) = record { parts = sym (take-append-drop len octets); whole = is ∙ ap WholeFrame (sym size) } in
    let less : length (drop len octets) < length chunk =
    omega (arith, inside, less_than_whole f.format f.rest chunk len is_rest w, length-drop len octets, length-append f.rest chunk) in
    let (frames, new, behind, later) = next (take len octets) (drop len octets) less in
    (take len octets ∷ frames, new, behind, yielded f new chunk (take len octets) (drop len octets) behind chunks frames y later)

take_chunk : (n : ℕ) (f : TcFraming) (chunk : List ℕ) (chunks : List (List ℕ)) → IsRest f.format f.rest → length chunk ≤ n → Others f chunks
    → Taken f (chunk ∷ chunks)
take_chunk zero f chunk chunks is_rest few others =
    step f chunk chunks is_rest others (λ frame left less. absurd (omega (arith, few, less))) (frame_front f.format (f.rest ++ chunk)) refl
take_chunk (suc n) f chunk chunks is_rest few others =
    step f chunk chunks is_rest others
    (λ frame left less. take_chunk n (after_call f chunk (Some frame)) left chunks (fits_rest f.format [] (inl (omega arith))) (omega (arith, few, less)) others)
    (frame_front f.format (f.rest ++ chunk)) refl

take_all : (f : TcFraming) (chunks : List (List ℕ)) → IsRest f.format f.rest → Taken f chunks
take_all f [] is_rest = ([], f, [], ended f)
take_all f (chunk ∷ chunks) is_rest = take_chunk (length chunk) f chunk chunks is_rest (omega arith) (λ g same fits. take_all g chunks fits)

pub any_chunks_are_taken : AnyChunksAreTaken
any_chunks_are_taken format chunks = take_all (at_start format) chunks (fits_rest format [] (inl (omega arith)))
