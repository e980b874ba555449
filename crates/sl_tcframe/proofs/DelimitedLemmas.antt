-- The frames of a recording.
use Rattle.std.proofs.Common.{◌≡◌, ◌⊎◌, ℕ, zero, suc, ◌+◌, ◌-◌, ◌<◌, ◌≤◌, nat_lt, Bool, true, false, ◌||◌, List, [], ◌∷◌, ◌++◌, length, take, drop, None, Some, inl, inr, refl, sym, ◌∙◌, ap, subst, arith, length-append, length-drop, length-take-le, append-nil, append_assoc}
use Rattle.std.specs.List.{AllByRecursion, concat}
use Rattle.std.proofs.lemmas.Bool.{le-ltb, ltb-false}
use Rattle.std.proofs.lemmas.List.{drop-drop, drop_all, drop_at, take_at, take-append-drop, take-take, take-append-le}
use Rattle.sl_fields.specs.TcHeader.{tc_header}
use Rattle.sl_tcframe.specs.TcFrame.{TcFormat, is_cut, least_of, stated_frame_len}
use Rattle.sl_tcframe.specs.TcDelimited.{IsTcDelimited, EachIsTcDelimited, IsTcDelimitedOnce, begin_no_frame, front_len, frame_at, frame_passed, tc_frames_from, tc_frames_of, tc_remainder_of}
use Rattle.sl_tcframe.proofs.PartLemmas.{cut_facts, facts_cut}
use Rattle.std.proofs.lemmas.Bool.{or_parts}
use Rattle.std.proofs.lemmas.Option.{none-some, same_Some}

-- ---- the front

-- a frame of this length is at the front, by its header
pub record HasFrame (format : TcFormat) (octets : List ℕ) (len : ℕ) : Type 0 where
  pub header : 5 ≤ length octets
  pub least : least_of format ≤ len
  pub inside : len ≤ length octets
  pub stated : len ≡ stated_frame_len octets

has_frame : (format : TcFormat) (octets : List ℕ) → begin_no_frame format octets ≡ false → HasFrame format octets (stated_frame_len octets)
has_frame format octets h =
    let header = or_parts (nat_lt (length octets) 5) (nat_lt (stated_frame_len octets) (least_of format) || nat_lt (length octets) (stated_frame_len octets)) h in
    let stated = or_parts (nat_lt (stated_frame_len octets) (least_of format)) (nat_lt (length octets) (stated_frame_len octets)) header.1 in
    record {
      header = ltb-false (length octets) 5 header.0;
      least = ltb-false (stated_frame_len octets) (least_of format) stated.0;
      inside = ltb-false (length octets) (stated_frame_len octets) stated.1;
      stated = refl;
    }

frame_begins : (format : TcFormat) (octets : List ℕ) (len : ℕ) → HasFrame format octets len → begin_no_frame format octets ≡ false
frame_begins format octets len f =
    let least : least_of format ≤ stated_frame_len octets = rw (← f.stated) f.least in
    let inside : stated_frame_len octets ≤ length octets = rw (← f.stated) f.inside in
    rw (le-ltb (length octets) 5 f.header, le-ltb (stated_frame_len octets) (least_of format) least, le-ltb (length octets) (stated_frame_len octets) inside) refl

-- the two cases of a front
pub front_len-cases : (format : TcFormat) (octets : List ℕ) → (HasFrame format octets (stated_frame_len octets) × (front_len format octets ≡ Some (stated_frame_len octets)))
    ⊎ ((begin_no_frame format octets ≡ true) × (front_len format octets ≡ None))
front_len-cases format octets = go (begin_no_frame format octets) refl
  where
    go : (b : Bool) → begin_no_frame format octets ≡ b → (HasFrame format octets (stated_frame_len octets) × (front_len format octets ≡ Some (stated_frame_len octets)))
        ⊎ ((begin_no_frame format octets ≡ true) × (front_len format octets ≡ None))
    go true e = inr (e, rw e refl)
    go false e = inl (has_frame format octets e, rw e refl)

-- the header of octets that begin with a frame is the frame's
header_seam : (frame more : List ℕ) → 5 ≤ length frame → take 5 (frame ++ more) ≡ take 5 frame
header_seam frame more long = take-append-le 5 frame more long

-- the front of a frame and the octets after it is the frame
pub is_cut-front : (format : TcFormat) (frame more : List ℕ) → is_cut format frame ≡ true → HasFrame format (frame ++ more) (length frame)
is_cut-front format frame more cut =
    let facts = cut_facts format frame cut in
    let least = facts.0 in
    let five : 5 ≤ length frame = omega arith in
    record {
      header = omega (arith, length-append frame more);
      least = facts.0;
      inside = omega (arith, length-append frame more);
      stated = facts.1 ∙ ap (λ h. (tc_header h).length + 1) (sym (header_seam frame more five));
    }

-- the octets at the front, of the stated length, are a frame
pub front-is_cut : (format : TcFormat) (octets : List ℕ) (len : ℕ) → HasFrame format octets len → is_cut format (take len octets) ≡ true
front-is_cut format octets len f =
    let least = f.least in
    let five : 5 ≤ len = omega arith in
    let long : length (take len octets) ≡ len = length-take-le len octets f.inside in
    let header : take 5 (take len octets) ≡ take 5 octets = take-take 5 len octets five in
    facts_cut format (take len octets) (omega arith) (long ∙ f.stated ∙ ap (λ h. (tc_header h).length + 1) (sym header))

-- ---- one frame after another

frames_from-drop : (format : TcFormat) (skip : ℕ) (octets : List ℕ) → tc_frames_from format skip octets ≡ tc_frames_of format (drop skip octets)
frames_from-drop format zero octets = refl
frames_from-drop format (suc skip) [] = refl
frames_from-drop format (suc skip) (octet ∷ octets) = frames_from-drop format skip octets

-- where a frame is at the front, it is the first one
pub frames_of-front : (format : TcFormat) (octets : List ℕ) (len : ℕ) → front_len format octets ≡ Some len → 0 < len → 0 < length octets
    → tc_frames_of format octets ≡ take len octets ∷ tc_frames_of format (drop len octets)
frames_of-front format [] len h some long = absurd (omega arith)
frames_of-front format (octet ∷ octets) zero h some long = absurd (omega arith)
frames_of-front format (octet ∷ octets) (suc len) h some long =
    let one_less : suc len - 1 ≡ len = omega arith in
    ap (λ f. frame_at f (octet ∷ octets) ++ tc_frames_from format (frame_passed f (octet ∷ octets)) octets) h
    ∙ ap (λ k. take (suc len) (octet ∷ octets) ∷ tc_frames_from format k octets) one_less
    ∙ ap (λ frames. take (suc len) (octet ∷ octets) ∷ frames) (frames_from-drop format len octets)

pub remainder_of-front : (format : TcFormat) (octets : List ℕ) (len : ℕ) → front_len format octets ≡ Some len → 0 < len → len ≤ length octets
    → tc_remainder_of format octets ≡ tc_remainder_of format (drop len octets)
remainder_of-front format octets len h some inside =
    let later = tc_frames_of format (drop len octets) in
    let long : length (take len octets ++ concat later) ≡ len + length (concat later) = omega (arith, length-append (take len octets) (concat later), length-take-le len octets inside) in
    ap (λ frames. drop (length (concat frames)) octets) (frames_of-front format octets len h some (omega arith))
    ∙ ap (λ n. drop n octets) long ∙ sym (drop-drop (length (concat later)) len octets)

-- where no frame is at the front, there are no frames
pub frames_of-none : (format : TcFormat) (octets : List ℕ) → front_len format octets ≡ None → tc_frames_of format octets ≡ []
frames_of-none format [] h = refl
frames_of-none format (octet ∷ octets) h =
    ap (λ f. frame_at f (octet ∷ octets) ++ tc_frames_from format (frame_passed f (octet ∷ octets)) octets) h
    ∙ frames_from-drop format (length (octet ∷ octets)) octets
    ∙ ap (tc_frames_of format) (drop_all (length (octet ∷ octets)) octets (omega arith))

pub remainder_of-none : (format : TcFormat) (octets : List ℕ) → front_len format octets ≡ None → tc_remainder_of format octets ≡ octets
remainder_of-none format octets h = ap (λ frames. drop (length (concat frames)) octets) (frames_of-none format octets h)

pub front_len-is : (format : TcFormat) (octets : List ℕ) (len : ℕ) → HasFrame format octets len → front_len format octets ≡ Some len
front_len-is format octets len f = rw (frame_begins format octets len f) (ap Some (sym f.stated))

-- the frames of a frame and the octets after it
pub frames_of-frame : (format : TcFormat) (frame more : List ℕ) → is_cut format frame ≡ true → tc_frames_of format (frame ++ more) ≡ frame ∷ tc_frames_of format more
frames_of-frame format frame more cut =
    let f = is_cut-front format frame more cut in
    let least = f.least in
    frames_of-front format (frame ++ more) (length frame) (front_len-is format (frame ++ more) (length frame) f) (omega arith) (omega (arith, length-append frame more))
    ∙ ap (λ xs. xs ∷ tc_frames_of format (drop (length frame) (frame ++ more))) (take_at frame more (length frame) refl)
    ∙ ap (λ xs. frame ∷ tc_frames_of format xs) (drop_at frame more (length frame) refl)

pub remainder_of-frame : (format : TcFormat) (frame more : List ℕ) → is_cut format frame ≡ true → tc_remainder_of format (frame ++ more) ≡ tc_remainder_of format more
remainder_of-frame format frame more cut =
    let f = is_cut-front format frame more cut in
    let least = f.least in
    remainder_of-front format (frame ++ more) (length frame) (front_len-is format (frame ++ more) (length frame) f) (omega arith) f.inside
    ∙ ap (tc_remainder_of format) (drop_at frame more (length frame) refl)

abbrev pub AreCuts : TcFormat → List (List ℕ) → Type 0
AreCuts format frames = AllByRecursion (λ frame. is_cut format frame ≡ true) frames

-- the frames of frames end to end and the octets after them
pub frames_of-concat : (format : TcFormat) (frames : List (List ℕ)) (more : List ℕ) → AreCuts format frames → tc_frames_of format (concat frames ++ more) ≡ frames ++ tc_frames_of format more
frames_of-concat format [] more each = refl
frames_of-concat format (frame ∷ frames) more each =
    ap (tc_frames_of format) (append_assoc frame (concat frames) more) ∙ frames_of-frame format frame (concat frames ++ more) each.0
    ∙ ap (λ later. frame ∷ later) (frames_of-concat format frames more each.1)

pub remainder_of-concat : (format : TcFormat) (frames : List (List ℕ)) (more : List ℕ) → AreCuts format frames → tc_remainder_of format (concat frames ++ more) ≡ tc_remainder_of format more
remainder_of-concat format [] more each = refl
remainder_of-concat format (frame ∷ frames) more each =
    ap (tc_remainder_of format) (append_assoc frame (concat frames) more) ∙ remainder_of-frame format frame (concat frames ++ more) each.0
    ∙ remainder_of-concat format frames more each.1

-- ---- the laws

are_same : (format : TcFormat) (octets : List ℕ) (fs gs : List (List ℕ)) (r s : List ℕ) → gs ≡ fs → s ≡ r → IsTcDelimited format octets fs r → IsTcDelimited format octets gs s
are_same format octets fs gs r s e h a = rw (e, h) a

one_before : (format : TcFormat) (octets : List ℕ) (len : ℕ) (frames : List (List ℕ)) (rest : List ℕ) → HasFrame format octets len → IsTcDelimited format (drop len octets) frames rest
    → IsTcDelimited format octets (take len octets ∷ frames) rest
one_before format octets len frames rest f a = record {
  end_to_end =
      sym (take-append-drop len octets) ∙ ap (λ xs. take len octets ++ xs) a.end_to_end
      ∙ sym (append_assoc (take len octets) (concat frames) rest);
  each = (front-is_cut format octets len f, a.each);
  no_more = a.no_more;
}

none_before : (format : TcFormat) (octets : List ℕ) → begin_no_frame format octets ≡ true → IsTcDelimited format octets [] octets
none_before format octets h = record { end_to_end = refl; each = tt; no_more = h }

delimited_if : (format : TcFormat) (octets : List ℕ) → (HasFrame format octets (stated_frame_len octets) → IsTcDelimited format (drop (stated_frame_len octets) octets) (tc_frames_of format (drop (stated_frame_len octets) octets)) (tc_remainder_of format (drop (stated_frame_len octets) octets)))
    → IsTcDelimited format octets (tc_frames_of format octets) (tc_remainder_of format octets)
delimited_if format octets later =
    elim (front_len-cases format octets) [
      | inl (f, front) ↦
          let least = f.least in
          let len : ℕ = stated_frame_len octets in
          are_same format octets (take len octets ∷ tc_frames_of format (drop len octets)) (tc_frames_of format octets) (tc_remainder_of format (drop len octets)) (tc_remainder_of format octets)
          (frames_of-front format octets len front (omega arith) (let header = f.header in omega arith)) (remainder_of-front format octets len front (omega arith) f.inside)
          (one_before format octets len (tc_frames_of format (drop len octets)) (tc_remainder_of format (drop len octets)) f (later f))
      | inr (h, front) ↦
          are_same format octets [] (tc_frames_of format octets) octets (tc_remainder_of format octets) (frames_of-none format octets front) (remainder_of-none format octets front) (none_before format octets h)
    ]

delimited : (bound : ℕ) (format : TcFormat) (octets : List ℕ) → length octets ≤ bound → IsTcDelimited format octets (tc_frames_of format octets) (tc_remainder_of format octets)
delimited zero format octets h = delimited_if format octets (λ f. absurd (let header = f.header in omega arith))
delimited (suc bound) format octets h =
    delimited_if format octets (λ f. let least = f.least in let header = f.header in delimited bound format (drop (stated_frame_len octets) octets) (omega (arith, length-drop (stated_frame_len octets) octets)))

pub each_is_delimited : EachIsTcDelimited
each_is_delimited format recording = delimited (length recording) format recording (omega arith)

pub delimited_once : IsTcDelimitedOnce
delimited_once format recording frames remainder a =
    let front : front_len format remainder ≡ None = rw a.no_more refl in (
      ap (tc_frames_of format) a.end_to_end ∙ frames_of-concat format frames remainder a.each ∙ ap (λ later. frames ++ later) (frames_of-none format remainder front) ∙ append-nil frames,
      ap (tc_remainder_of format) a.end_to_end ∙ remainder_of-concat format frames remainder a.each ∙ remainder_of-none format remainder front,
    )

-- ---- one frame at the front, by its length

pub front_len-some : (format : TcFormat) (octets : List ℕ) (len : ℕ) → front_len format octets ≡ Some len → HasFrame format octets len
front_len-some format octets len h =
    elim (front_len-cases format octets) [
      | inl (f, e) ↦ subst (HasFrame format octets) (same_Some (stated_frame_len octets) len (sym e ∙ h)) f
      | inr (e, none) ↦ absurd (none-some len (sym none ∙ h))
    ]

pub front_len-is_cut : (format : TcFormat) (octets : List ℕ) (len : ℕ) → front_len format octets ≡ Some len → is_cut format (take len octets) ≡ true
front_len-is_cut format octets len h = front-is_cut format octets len (front_len-some format octets len h)
