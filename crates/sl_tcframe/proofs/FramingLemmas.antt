-- Frames of a recording that comes in chunks.
use Rattle.std.proofs.Common.{◌≡◌, ◌⊎◌, ℕ, ◌+◌, ◌-◌, ◌/◌, ◌%◌, ◌^◌, ◌<◌, ◌≤◌, nat_lt, Bool, true, false, List, [], ◌∷◌, ◌++◌, length, take, drop, Option, Some, None, if◌then◌else◌, inl, inr, refl, sym, ◌∙◌, ap, subst, arith, append_assoc, append-nil, length-append, length-take-le}
use Rattle.std.specs.List.{slice_index_or}
use Rattle.std.proofs.lemmas.Bool.{le-ltb, lt-ltb, ltb-false}
use Rattle.std.proofs.lemmas.Bool.Decides.{leb_tells}
use Rattle.std.proofs.lemmas.List.{length-take, take-append-drop, take-append-le, take_at, drop_at, drop_all}
use Rattle.sl_fields.specs.Field.{number_of}
use Rattle.sl_tcframe.specs.TcFrame.{TcFormat, least_of, stated_frame_len}
use Rattle.sl_fields.specs.TcHeader.{tc_header}
use Rattle.sl_tcframe.specs.TcFraming.{FrameFront, Incomplete, BelowLeast, WholeFrame, IsRest, IsSplit, TakesUpToFrame, len_by_four, frame_front}
use Rattle.sl_tcframe.proofs.PartLemmas.{facts_cut}

-- ---- the front

pub front_few : (format : TcFormat) (octets : List ℕ) → length octets < 4 → frame_front format octets ≡ Incomplete
front_few format octets few = rw (lt-ltb (length octets) 4 few) refl

pub front_below_least : (format : TcFormat) (octets : List ℕ) → 4 ≤ length octets → len_by_four octets < least_of format → frame_front format octets ≡ BelowLeast
front_below_least format octets four low = rw (le-ltb (length octets) 4 four, lt-ltb (len_by_four octets) (least_of format) low) refl

pub front_incomplete : (format : TcFormat) (octets : List ℕ) → 4 ≤ length octets → least_of format ≤ len_by_four octets → length octets < len_by_four octets
    → frame_front format octets ≡ Incomplete
front_incomplete format octets four enough more =
    rw (le-ltb (length octets) 4 four, le-ltb (len_by_four octets) (least_of format) enough, lt-ltb (length octets) (len_by_four octets) more) refl

pub front_whole : (format : TcFormat) (octets : List ℕ) → 4 ≤ length octets → least_of format ≤ len_by_four octets → len_by_four octets ≤ length octets
    → frame_front format octets ≡ WholeFrame (len_by_four octets)
front_whole format octets four enough whole =
    rw (le-ltb (length octets) 4 four, le-ltb (len_by_four octets) (least_of format) enough, le-ltb (length octets) (len_by_four octets) whole) refl

-- octets after the fourth don't change the stated length
pub len_by_four-append : (octets more : List ℕ) → 4 ≤ length octets → len_by_four (octets ++ more) ≡ len_by_four octets
len_by_four-append octets more four = ap (λ front. stated_frame_len (front ++ 0 ∷ [])) (take-append-le 4 octets more four)

-- the facts about octets, by their front
abbrev pub FrontIs : TcFormat → List ℕ → FrameFront → Type 0
FrontIs format octets Incomplete = (length octets < 4) ⊎ ((least_of format ≤ len_by_four octets) × (length octets < len_by_four octets))
FrontIs format octets BelowLeast = (4 ≤ length octets) × (len_by_four octets < least_of format)
FrontIs format octets (WholeFrame len) = (4 ≤ length octets) × (least_of format ≤ len_by_four octets) × (len_by_four octets ≤ length octets) × (len ≡ len_by_four octets)

pub front_facts : (format : TcFormat) (octets : List ℕ) → FrontIs format octets (frame_front format octets)
front_facts format octets =
    elim (leb_tells 4 (length octets)) [
      | inr (is, few) ↦ let short : length octets < 4 = omega (arith, few) in rw (front_few format octets short) (inl short)
      | inl (is, four) ↦
          elim (leb_tells (least_of format) (len_by_four octets)) [
            | inr (is', low) ↦
                let too_short : len_by_four octets < least_of format = omega (arith, low) in
                rw (front_below_least format octets four too_short) (four, too_short)
            | inl (is', enough) ↦
                elim (leb_tells (len_by_four octets) (length octets)) [
                  | inr (is2, more) ↦
                      let part : length octets < len_by_four octets = omega (arith, more) in
                      rw (front_incomplete format octets four enough part) (inr (enough, part))
                  | inl (is2, whole) ↦ rw (front_whole format octets four enough whole) (four, enough, whole, refl)
                ]
          ]
    ]

pub front_tells : (format : TcFormat) (octets : List ℕ) (front : FrameFront) → frame_front format octets ≡ front → FrontIs format octets front
front_tells format octets front is = subst (FrontIs format octets) is (front_facts format octets)

-- ---- the octets that are left where no frame is whole

-- there are four octets at most, or the first four state more than there are
abbrev pub FitsRest : TcFormat → List ℕ → Type 0
FitsRest format octets = (length octets ≤ 4) ⊎ ((least_of format ≤ len_by_four octets) × (length octets < len_by_four octets))

pub rest_fits : (format : TcFormat) (octets : List ℕ) → IsRest format octets → FitsRest format octets
rest_fits format octets (inr below) = inl (omega (arith, below.1))
rest_fits format octets (inl more) =
    elim (front_tells format octets Incomplete more) [
      | inl few ↦ inl (omega (arith, few))
      | inr some ↦ inr some
    ]

four_rest : (format : TcFormat) (octets : List ℕ) → length octets ≡ 4 → IsRest format octets
four_rest format octets four =
    elim (leb_tells (least_of format) (len_by_four octets)) [
      | inl (is, enough) ↦ inl (front_incomplete format octets (omega (arith, four)) enough (omega (arith, four, enough)))
      | inr (is, low) ↦ inr (front_below_least format octets (omega (arith, four)) (omega (arith, low)), four)
    ]

pub fits_rest : (format : TcFormat) (octets : List ℕ) → FitsRest format octets → IsRest format octets
fits_rest format octets fits =
    elim (leb_tells 4 (length octets)) [
      | inr (is, few) ↦ inl (front_few format octets (omega (arith, few)))
      | inl (is, four) ↦
          elim fits [
            | inl most ↦ four_rest format octets (omega (arith, four, most))
            | inr more ↦ inl (front_incomplete format octets four more.0 more.1)
          ]
    ]

-- a stated length below the least stays so with more octets
pub below_stays : (format : TcFormat) (octets more : List ℕ) → frame_front format octets ≡ BelowLeast → frame_front format (octets ++ more) ≡ BelowLeast
below_stays format octets more below =
    let facts = front_tells format octets BelowLeast below in
    front_below_least format (octets ++ more) (omega (arith, facts.0, length-append octets more)) (omega (arith, facts.1, len_by_four-append octets more facts.0))

pub below_is_not_whole : (len : ℕ) → BelowLeast ≡ WholeFrame len → ⊥
below_is_not_whole len e = cc

-- ---- octets from the front of a chunk, until there are enough

module _ (count : ℕ) (taken chunk : List ℕ) where
  abbrev pub filled : List ℕ
  filled = taken ++ take (count - length taken) chunk

  abbrev pub unfilled : List ℕ
  unfilled = drop (count - length taken) chunk

  pub fill_parts : taken ++ chunk ≡ filled ++ unfilled
  fill_parts =
      ap (λ l. taken ++ l) (sym (take-append-drop (count - length taken) chunk))
      ∙ sym (append_assoc taken (take (count - length taken) chunk) (drop (count - length taken) chunk))

  pub few_left : length filled < count → unfilled ≡ []
  few_left short =
      elim (leb_tells (length chunk) (count - length taken)) [
        | inl (is, all) ↦ drop_all (count - length taken) chunk all
        | inr (is, over) ↦
            absurd (omega (arith, short, over, length-append taken (take (count - length taken) chunk), length-take-le (count - length taken) chunk (omega (arith, over))))
      ]

  pub many_taken : length taken ≤ count → length filled ≤ count
  many_taken few = omega (arith, few, length-append taken (take (count - length taken) chunk), length-take (count - length taken) chunk)

-- ---- one call

module _ (format : TcFormat) (old chunk : List ℕ) (fits : FitsRest format old) where
  abbrev first : List ℕ
  first = filled 4 old chunk

  abbrev later : List ℕ
  later = unfilled 4 old chunk

  -- all octets state the length that the first four state
  same_len : 4 ≤ length first → len_by_four (old ++ chunk) ≡ len_by_four first
  same_len four = ap len_by_four (fill_parts 4 old chunk) ∙ len_by_four-append first later four

  all_four : 4 ≤ length first → 4 ≤ length (old ++ chunk)
  all_four four = omega (arith, four, ap length (fill_parts 4 old chunk), length-append first later)

  -- more than four octets were taken before only where the front is incomplete
  begun : 4 < length old → (least_of format ≤ len_by_four first) × (length first < len_by_four first)
  begun many =
      let zero_more : 4 - length old ≡ 0 = omega (arith, many) in
      let none : take (4 - length old) chunk ≡ [] = ap (λ n. take n chunk) zero_more in
      let same : first ≡ old = ap (λ l. old ++ l) none ∙ append-nil old in
      elim fits [
        | inl few ↦ absurd (omega (arith, few, many))
        | inr (enough, more) ↦ (rw same enough, rw same more)
      ]

  four_or_begun : ((length old ≤ 4) × (length first ≤ 4)) ⊎ ((least_of format ≤ len_by_four first) × (length first < len_by_four first))
  four_or_begun =
      elim (leb_tells (length old) 4) [
        | inl (is, few) ↦ inl (few, many_taken 4 old chunk few)
        | inr (is, many) ↦ inr (begun (omega (arith, many)))
      ]

  -- a length below the least stops the framer after four octets
  pub takes_low : 4 ≤ length first → len_by_four first < least_of format → TakesUpToFrame format old chunk false first later
  takes_low four low =
      let front : frame_front format (old ++ chunk) ≡ BelowLeast = front_below_least format (old ++ chunk) (all_four four) (omega (arith, low, same_len four)) in
      let exact : length first ≡ 4 = elim four_or_begun [
        | inl few ↦ omega (arith, four, few.1)
        | inr b ↦ absurd (omega (arith, low, b.0))
      ] in
      let parts = fill_parts 4 old chunk in (
        inr front,
        rw front (sym (ap (take 4) parts ∙ take_at first later 4 exact)),
        rw front (sym (ap (drop 4) parts ∙ drop_at first later 4 exact)),
        fits_rest format first (inl (omega (arith, exact))),
      )

  -- otherwise octets are taken until there are as many as are stated
  module _ (four : 4 ≤ length first) (enough : least_of format ≤ len_by_four first) where
    abbrev whole : List ℕ
    whole = filled (len_by_four first) first later

    abbrev behind : List ℕ
    behind = unfilled (len_by_four first) first later

    all_parts : old ++ chunk ≡ whole ++ behind
    all_parts = fill_parts 4 old chunk ∙ fill_parts (len_by_four first) first later

    at_most : length first ≤ len_by_four first
    at_most = elim four_or_begun [
      | inl few ↦ omega (arith, few.1, enough)
      | inr b ↦ omega (arith, b.1)
    ]

    pub takes_whole : len_by_four first ≤ length whole → len_by_four first ≡ stated_frame_len whole → TakesUpToFrame format old chunk true whole behind
    takes_whole many stated =
        let exact : length whole ≡ len_by_four first = omega (arith, many, many_taken (len_by_four first) first later at_most) in
        let same = same_len four in
        let inside : len_by_four (old ++ chunk) ≤ length (old ++ chunk) = omega (arith, same, many, ap length all_parts, length-append whole behind) in (
          all_parts,
          front_whole format (old ++ chunk) (all_four four) (omega (arith, same, enough)) inside ∙ ap WholeFrame (same ∙ sym exact),
          facts_cut format whole (omega (arith, enough, exact)) (exact ∙ stated),
        )

    pub takes_part : length whole < len_by_four first → TakesUpToFrame format old chunk false whole behind
    takes_part short =
        let same = same_len four in
        let none : behind ≡ [] = few_left (len_by_four first) first later short in
        let all : whole ≡ old ++ chunk = sym (all_parts ∙ ap (λ l. whole ++ l) none ∙ append-nil whole) in
        let front : frame_front format (old ++ chunk) ≡ Incomplete =
        front_incomplete format (old ++ chunk) (all_four four) (omega (arith, same, enough)) (omega (arith, same, short, ap length all)) in
        (inl front, rw front all, rw front none, fits_rest format whole (inr (omega (arith, enough, same, ap len_by_four all), omega (arith, short, same, ap len_by_four all))))

    pub takes_either : (b : Bool) → (b ≡ true → (len_by_four first ≤ length whole) × (len_by_four first ≡ stated_frame_len whole))
        → (b ≡ false → length whole < len_by_four first) → TakesUpToFrame format old chunk b whole behind
    takes_either true is_whole is_part = let w = is_whole refl in takes_whole w.0 w.1
    takes_either false is_whole is_part = takes_part (is_part refl)

-- ---- the stated length

abbrev or_zero : Option ℕ → ℕ
or_zero None = 0
or_zero (Some n) = n

pub len_told : (octets : List ℕ) (len : ℕ) → (if nat_lt (length octets) 4 then None else Some (len_by_four octets)) ≡ Some len
    → (4 ≤ length octets) × (len ≡ len_by_four octets)
len_told octets len told = by (nat_lt (length octets) 4) refl told
  where
    by : (b : Bool) → nat_lt (length octets) 4 ≡ b → (if b then None else Some (len_by_four octets)) ≡ Some len → (4 ≤ length octets) × (len ≡ len_by_four octets)
    by true is told = absurd (cc)
    by false is told = (ltb-false (length octets) 4 is, sym (ap or_zero told))

-- the fifth octet of a header doesn't change the stated length
pub four_state_it : (octets : List ℕ) → 5 ≤ length octets → slice_index_or octets 4 0 < 256 → len_by_four octets ≡ stated_frame_len octets
four_state_it [] five small = absurd (omega arith)
four_state_it (a ∷ []) five small = absurd (omega arith)
four_state_it (a ∷ b ∷ []) five small = absurd (omega arith)
four_state_it (a ∷ b ∷ c ∷ []) five small = absurd (omega arith)
four_state_it (a ∷ b ∷ c ∷ d ∷ []) five small = absurd (omega arith)
four_state_it (a ∷ b ∷ c ∷ d ∷ e ∷ more) five small =
    let same : number_of (a ∷ b ∷ c ∷ d ∷ 0 ∷ []) / 2 ^ 8 ≡ number_of (a ∷ b ∷ c ∷ d ∷ e ∷ []) / 2 ^ 8 = omega (arith, small) in
    ap (λ n. n % 2 ^ 10 + 1) same

-- ---- octets that begin with a whole frame

-- octets after the fifth don't change the stated length
stated_frame_len-append : (octets more : List ℕ) → 5 ≤ length octets → stated_frame_len (octets ++ more) ≡ stated_frame_len octets
stated_frame_len-append octets more five = ap (λ front. (tc_header front).length + 1) (take-append-le 5 octets more five)

pub is_split : (format : TcFormat) (octets frame later : List ℕ) (len : ℕ) → slice_index_or octets 4 0 < 256
    → (if nat_lt (length octets) 4 then None else Some (len_by_four octets)) ≡ Some len → least_of format ≤ len
    → octets ≡ frame ++ later → length frame ≡ len → IsSplit format octets frame later
is_split format octets frame later len small stated least parts size =
    let told = len_told octets len stated in
    let inside : len ≤ length octets = omega (arith, ap length parts, length-append frame later, size) in
    let same : len ≡ stated_frame_len frame =
    told.1 ∙ four_state_it octets (omega (arith, least, inside)) small ∙ ap stated_frame_len parts
    ∙ stated_frame_len-append frame later (omega (arith, least, size)) in
    record {
      parts = parts;
      front = front_whole format octets told.0 (omega (arith, least, told.1)) (omega (arith, inside, told.1)) ∙ ap WholeFrame (sym told.1 ∙ sym size);
      cut = facts_cut format frame (omega (arith, least, size)) (size ∙ same);
    }
