-- Frames end to end, and the octets after them.
use Rattle.std.proofs.Common.{◌≡◌, ℕ, zero, suc, ◌+◌, ◌*◌, ◌/◌, ◌<◌, ◌≤◌, List, [], ◌∷◌, ◌++◌, length, take, drop, refl, sym, ◌∙◌, ap, arith, append_assoc, append-nil, length-append, add-one, length-drop, length-take-le}
use Rattle.std.proofs.Math.Seq.{take-append_seam, drop-append_seam, drop-append-add}
use Rattle.std.proofs.Math.Nat.{add-div_left, div-eq_of_lt, add-mul, one-mul, zero-mul, suc-mul}
use Rattle.std.proofs.lemmas.Nat.{div-add-mod', mod_below}
use Rattle.std.proofs.lemmas.List.{take-append-drop, drop-drop}
use Rattle.std.specs.List.{concat, AllByRecursion}
use Rattle.sl_tmframe.specs.TmDelimited.{IsTmDelimited, tm_frames_from, tm_frames_of, tm_remainder_of}

-- each frame has this length
abbrev pub AreWhole : ℕ → List (List ℕ) → Type 0
AreWhole len frames = AllByRecursion (λ frame. length frame ≡ len) frames

-- a whole frame at the front is the first frame
pub frames_of-first : (len : ℕ) (frame rest : List ℕ) → 0 < len → length frame ≡ len → tm_frames_of len (frame ++ rest) ≡ frame ∷ tm_frames_of len rest
frames_of-first len frame rest positive e =
    let count : length (frame ++ rest) / len ≡ suc (length rest / len) =
    ap (λ n. n / len) (length-append frame rest ∙ ap (λ n. n + length rest) e) ∙ add-div_left (length rest) positive ∙ add-one (length rest / len) in
    let first : take len (frame ++ rest) ≡ frame = ap (λ n. take n (frame ++ rest)) (sym e) ∙ take-append_seam frame rest in
    let behind : drop len (frame ++ rest) ≡ rest = ap (λ n. drop n (frame ++ rest)) (sym e) ∙ drop-append_seam frame rest in
    ap (λ n. tm_frames_from len n (frame ++ rest)) count ∙ rw (first, behind) refl

pub remainder_of-first : (len : ℕ) (frame rest : List ℕ) → 0 < len → length frame ≡ len → tm_remainder_of len (frame ++ rest) ≡ tm_remainder_of len rest
remainder_of-first len frame rest positive e =
    let count : length (frame ++ rest) / len ≡ length rest / len + 1 =
    ap (λ n. n / len) (length-append frame rest ∙ ap (λ n. n + length rest) e) ∙ add-div_left (length rest) positive in
    let skipped : (length rest / len + 1) * len ≡ length frame + length rest / len * len =
    add-mul (length rest / len) 1 len ∙ omega (arith, one-mul len) in
    ap (λ n. drop (n * len) (frame ++ rest)) count ∙ ap (λ n. drop n (frame ++ rest)) skipped ∙ drop-append-add frame rest (length rest / len * len)

-- whole frames at the front are the first frames
pub frames_of-concat : (len : ℕ) (frames : List (List ℕ)) (rest : List ℕ) → 0 < len → AreWhole len frames → tm_frames_of len (concat frames ++ rest) ≡ frames ++ tm_frames_of len rest
frames_of-concat len [] rest positive h = refl
frames_of-concat len (f ∷ frames) rest positive h =
    ap (tm_frames_of len) (append_assoc f (concat frames) rest) ∙ frames_of-first len f (concat frames ++ rest) positive h.0
    ∙ ap (λ l. f ∷ l) (frames_of-concat len frames rest positive h.1)

pub remainder_of-concat : (len : ℕ) (frames : List (List ℕ)) (rest : List ℕ) → 0 < len → AreWhole len frames → tm_remainder_of len (concat frames ++ rest) ≡ tm_remainder_of len rest
remainder_of-concat len [] rest positive h = refl
remainder_of-concat len (f ∷ frames) rest positive h =
    ap (tm_remainder_of len) (append_assoc f (concat frames) rest) ∙ remainder_of-first len f (concat frames ++ rest) positive h.0
    ∙ remainder_of-concat len frames rest positive h.1

-- octets that are too few for a frame are a remainder
pub frames_of-short : (len : ℕ) (rest : List ℕ) → length rest < len → tm_frames_of len rest ≡ []
frames_of-short len rest short = ap (λ n. tm_frames_from len n rest) (div-eq_of_lt short)

pub remainder_of-short : (len : ℕ) (rest : List ℕ) → length rest < len → tm_remainder_of len rest ≡ rest
remainder_of-short len rest short = ap (λ n. drop (n * len) rest) (div-eq_of_lt short) ∙ ap (λ n. drop n rest) (zero-mul len)

-- A recording is delimited into no other frames and remainder.
pub only_frames : (len : ℕ) (recording : List ℕ) (frames : List (List ℕ)) (remainder : List ℕ) → 0 < len → IsTmDelimited len recording frames remainder → tm_frames_of len recording ≡ frames
only_frames len recording frames remainder positive d =
    ap (tm_frames_of len) d.end_to_end ∙ frames_of-concat len frames remainder positive d.whole
    ∙ ap (λ l. frames ++ l) (frames_of-short len remainder d.short) ∙ append-nil frames

pub only_remainder : (len : ℕ) (recording : List ℕ) (frames : List (List ℕ)) (remainder : List ℕ) → 0 < len → IsTmDelimited len recording frames remainder → tm_remainder_of len recording ≡ remainder
only_remainder len recording frames remainder positive d =
    ap (tm_remainder_of len) d.end_to_end ∙ remainder_of-concat len frames remainder positive d.whole ∙ remainder_of-short len remainder d.short

-- as many frames as fit are whole, and make up the recording together with the octets after them
tm_frames_from-whole : (len count : ℕ) (recording : List ℕ) → count * len ≤ length recording → AreWhole len (tm_frames_from len count recording)
tm_frames_from-whole len zero recording h = tt
tm_frames_from-whole len (suc count) recording h =
    let room : len + count * len ≤ length recording = omega (arith, suc-mul count len) in
    let first : length (take len recording) ≡ len = length-take-le len recording (omega arith) in
    (first, tm_frames_from-whole len count (drop len recording) (omega (arith, length-drop len recording)))

concat-frames_from : (len count : ℕ) (recording : List ℕ) → concat (tm_frames_from len count recording) ++ drop (count * len) recording ≡ recording
concat-frames_from len zero recording = ap (λ n. drop n recording) (zero-mul len)
concat-frames_from len (suc count) recording =
    let behind : drop (suc count * len) recording ≡ drop (count * len) (drop len recording) =
    ap (λ n. drop n recording) (let e : suc count * len ≡ len + count * len = omega (arith, suc-mul count len) in e) ∙ sym (drop-drop (count * len) len recording) in
    rw behind (append_assoc (take len recording) (concat (tm_frames_from len count (drop len recording))) (drop (count * len) (drop len recording)))
    ∙ ap (λ l. take len recording ++ l) (concat-frames_from len count (drop len recording)) ∙ take-append-drop len recording

-- every recording is delimited
pub is_delimited : (len : ℕ) (recording : List ℕ) → 0 < len → IsTmDelimited len recording (tm_frames_of len recording) (tm_remainder_of len recording)
is_delimited len recording positive =
    let count = length recording / len in
    let parts = div-add-mod' (length recording) len in
    record {
      end_to_end = sym (concat-frames_from len count recording);
      whole = tm_frames_from-whole len count recording (omega (arith, parts));
      short = omega (arith, parts, length-drop (count * len) recording, mod_below (length recording) len positive);
    }
