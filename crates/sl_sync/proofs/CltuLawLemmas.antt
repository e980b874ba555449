-- What is read of the CLTU of frames.
use Rattle.std.proofs.Common.{◌≡◌, ℕ, zero, suc, ◌+◌, ◌-◌, ◌*◌, ◌/◌, ◌%◌, ◌≤◌, ◌<◌, Bool, true, false, ◌&&◌, List, [], ◌∷◌, ◌++◌}
use Rattle.std.proofs.Common.{length, get_or, take, drop, map, refl, sym, ◌∙◌, ap, arith, length-append, length-drop, append_assoc, lit≤}
use Rattle.std.proofs.Common.{length-take-le, take-append-drop}
use Rattle.std.proofs.Math.ListN.{get_or-append}
use Rattle.std.proofs.Math.Seq.{take-append_seam, drop-append_seam, get_or-append_seam}
use Rattle.std.proofs.lemmas.Bool.{le-leb, lt-leb, lt-ltb, eq-eqb}
use Rattle.std.proofs.lemmas.List.{length-replicate}
use Rattle.std.specs.Int.Bits.{xor_assoc, xor_self, xor_zero_r}
use Rattle.std.specs.Int.Count.{ones}
use Rattle.std.specs.List.{AllByRecursion, concat}
use Rattle.std.specs.Prelude.{bit_xor, nat_le, nat_lt, nat_eq, not, replicate, flat_map, if◌then◌else◌}
use Rattle.sl_sync.specs.Cltu.{start_sequence, tail_sequence, has_sequence, cltu_begins, block_count, cltu_size, cltu_data, stated}
use Rattle.sl_sync.specs.Cltu.{has_frame, frames_in, cut_octets, is_refused, cltu_content, cltu_rule, filled, cltu_of}
use Rattle.sl_sync.specs.CodeBlock.{is_block, blocks, data_of, coded, parity}
use Rattle.sl_sync.specs.Laws.{read_of, IsTransferFrame, FitCltu, read_cltu, CltusAreRead}
use Rattle.sl_sync.specs.Marker.{wrong_bits}
use Rattle.sl_sync.specs.Randomiser.{later, added, randomised_if}
use Rattle.sl_sync.specs.Units.{Content, Part, unit, stray, parts_of}
use Rattle.sl_sync.specs.declared.cltu.CltuShape.{CltuShape}
use Rattle.sl_sync.specs.declared.randomiser.Randomiser.{Randomiser}
use Rattle.sl_sync.specs.declared.randomiser.Randomiser.TheVariants.{Tc}
use Rattle.sl_sync.specs.declared.units.Place.{Place}
use Rattle.sl_sync.specs.declared.units.Place.TheVariants.{Start, Next}
use Rattle.sl_sync.proofs.CltuLemmas.{content_by, content-by}
use Rattle.sl_sync.proofs.CodeBlockLemmas.{blocks-one, blocks_none, is_block-more}
use Rattle.sl_sync.proofs.RandomiserLemmas.{length-added}
use Rattle.sl_sync.proofs.TcFramesLemmas.{frames-one, frames-none, has_frame-tells}
use Rattle.sl_sync.proofs.UnitsLemmas.{parts-unit, parts-stray}

-- ---- the randomiser twice

added-twice : (r : Randomiser) (register : ℕ) (xs : List ℕ) → added r register (added r register xs) ≡ xs
unfolding added
added-twice r register [] = refl
added-twice r register (x ∷ xs) =
    ap (λ (t : List ℕ). bit_xor (bit_xor x register) register ∷ t) (added-twice r (later r 8 register) xs)
    ∙ ap (λ (o : ℕ). o ∷ xs) (xor_assoc x register register ∙ ap (λ (z : ℕ). bit_xor x z) (xor_self register) ∙ xor_zero_r x)

randomised_if-twice : (on : Bool) (r : Randomiser) (xs : List ℕ) → randomised_if on r (randomised_if on r xs) ≡ xs
randomised_if-twice false r xs = refl
randomised_if-twice true r xs = added-twice r 255 xs

length-randomised_if : (on : Bool) (r : Randomiser) (xs : List ℕ) → length (randomised_if on r xs) ≡ length xs
length-randomised_if false r xs = refl
length-randomised_if true r xs = length-added r 255 xs

-- ---- code blocks that were made of octets

-- a code block, and others behind it
block_of : List ℕ → List ℕ → List ℕ
block_of seven rest = (seven ++ 2 * parity seven ∷ []) ++ rest

halved : (n : ℕ) → 2 * n / 2 ≡ n
halved n = omega arith

block-test : (n o p : ℕ) → 8 ≤ n → o / 2 ≡ p → (nat_le 8 n && nat_eq (o / 2) p) ≡ true
block-test n o p h e = rw (le-leb 8 n h) (eq-eqb (o / 2) p e)

module _ (seven rest : List ℕ) (seven_long : length seven ≡ 7) where
  block-front : take 7 (block_of seven rest) ≡ seven
  unfolding block_of
  block-front =
      ap (λ (x : List ℕ). take 7 x) (append_assoc seven (2 * parity seven ∷ []) rest)
      ∙ ap (λ (n : ℕ). take n (seven ++ ((2 * parity seven ∷ []) ++ rest))) (sym seven_long)
      ∙ take-append_seam seven ((2 * parity seven ∷ []) ++ rest)

  block-last : get_or (block_of seven rest) 7 0 ≡ 2 * parity seven
  unfolding block_of
  block-last =
      ap (λ (x : List ℕ). get_or x 7 0) (append_assoc seven (2 * parity seven ∷ []) rest)
      ∙ ap (λ (n : ℕ). get_or (seven ++ ((2 * parity seven ∷ []) ++ rest)) n 0) (sym seven_long)
      ∙ get_or-append_seam seven (2 * parity seven) rest 0

  block-behind : drop 8 (block_of seven rest) ≡ rest
  unfolding block_of
  block-behind =
      let long : length (seven ++ 2 * parity seven ∷ []) ≡ 8 = omega (arith, length-append seven (2 * parity seven ∷ [])) in
      ap (λ (n : ℕ). drop n ((seven ++ 2 * parity seven ∷ []) ++ rest)) (sym long)
      ∙ drop-append_seam (seven ++ 2 * parity seven ∷ []) rest

  block-long : 8 ≤ length (block_of seven rest)
  unfolding block_of
  block-long =
      omega (arith, length-append (seven ++ 2 * parity seven ∷ []) rest, length-append seven (2 * parity seven ∷ []))

  block-is : is_block (block_of seven rest) ≡ true
  block-is =
      let x = block_of seven rest in
      let half : get_or x 7 0 / 2 ≡ parity (take 7 x) =
      ap (λ (o : ℕ). o / 2) block-last ∙ halved (parity seven) ∙ ap parity (sym block-front) in
      block-test (length x) (get_or x 7 0) (parity (take 7 x)) block-long half

coded-one : (n : ℕ) (octets rest : List ℕ) → coded (suc n) octets ++ rest ≡ block_of (take 7 octets) (coded n (drop 7 octets) ++ rest)
unfolding block_of
coded-one n octets rest = append_assoc (take 7 octets ++ 2 * parity (take 7 octets) ∷ []) (coded n (drop 7 octets)) rest

-- where no block follows, the blocks are counted
blocks-coded : (n most : ℕ) (octets rest : List ℕ) → n ≤ most → length octets ≡ 7 * n → is_block rest ≡ false
    → blocks most (coded n octets ++ rest) ≡ n
blocks-coded zero most octets rest few long none = blocks_none most rest none
blocks-coded (suc n) most octets rest few long none =
    let seven : length (take 7 octets) ≡ 7 = length-take-le 7 octets (omega arith) in
    let more = coded n (drop 7 octets) ++ rest in
    let less : length (drop 7 octets) ≡ 7 * n = omega (arith, length-drop 7 octets) in
    let one = blocks-one most (block_of (take 7 octets) more) (omega arith) (block-is (take 7 octets) more seven) in
    ap (λ (x : List ℕ). blocks most x) (coded-one n octets rest) ∙ one
    ∙ ap (λ (x : List ℕ). blocks (most - 1) x + 1) (block-behind (take 7 octets) more seven)
    ∙ ap (λ (k : ℕ). k + 1) (blocks-coded n (most - 1) (drop 7 octets) rest (omega arith) less none) ∙ omega arith

-- their data are the octets
data-coded : (n : ℕ) (octets rest : List ℕ) → length octets ≡ 7 * n → data_of n (coded n octets ++ rest) ≡ octets
data-coded zero [] rest long = refl
data-coded zero (o ∷ octets) rest long = absurd (omega arith)
data-coded (suc n) octets rest long =
    let seven : length (take 7 octets) ≡ 7 = length-take-le 7 octets (omega arith) in
    let more = coded n (drop 7 octets) ++ rest in
    let x = block_of (take 7 octets) more in
    let less : length (drop 7 octets) ≡ 7 * n = omega (arith, length-drop 7 octets) in
    ap (λ (y : List ℕ). data_of (suc n) y) (coded-one n octets rest)
    ∙ ap (λ (y : List ℕ). y ++ data_of n (drop 8 x)) (block-front (take 7 octets) more seven)
    ∙ ap (λ (y : List ℕ). take 7 octets ++ data_of n y) (block-behind (take 7 octets) more seven)
    ∙ ap (λ (y : List ℕ). take 7 octets ++ y) (data-coded n (drop 7 octets) rest less)
    ∙ take-append-drop 7 octets

length-coded : (n : ℕ) (octets : List ℕ) → length octets ≡ 7 * n → length (coded n octets) ≡ 8 * n
length-coded zero octets long = refl
length-coded (suc n) octets long =
    let seven : length (take 7 octets) ≡ 7 = length-take-le 7 octets (omega arith) in
    let less = length-coded n (drop 7 octets) (omega (arith, length-drop 7 octets)) in
    length-append (take 7 octets ++ 2 * parity (take 7 octets) ∷ []) (coded n (drop 7 octets))
    ∙ omega (arith, length-append (take 7 octets) (2 * parity (take 7 octets) ∷ []), seven, less)

-- ---- frames end to end, and fill

abbrev fill : ℕ → List ℕ
fill n = replicate n 0x55

and_false : (a b : Bool) → (a && (b && false)) ≡ false
and_false true true = refl
and_false true false = refl
and_false false b = refl

-- no frame begins with fill
fill-none : (n : ℕ) → has_frame (fill n) ≡ false
unfolding has_frame
fill-none zero = refl
fill-none (suc n) = and_false (nat_le 5 (stated (fill (suc n)))) (nat_le (stated (fill (suc n))) (length (fill (suc n))))

all_three : (a b c : Bool) {a' b' c' : Bool} → a' ≡ a → b' ≡ true → c' ≡ c → (a && (b && c)) ≡ true → (a' && (b' && c')) ≡ true
all_three true true c p q r h = rw (p, q) (r ∙ h)
all_three true false c p q r h = cc
all_three false b c p q r h = cc

stated-more : (f rest : List ℕ) → 5 ≤ length f → stated (f ++ rest) ≡ stated f
stated-more f rest h =
    ap (λ (o : ℕ). o % 4 * 256 + get_or (f ++ rest) 3 0 + 1) (get_or-append f rest 0 2 (omega arith))
    ∙ ap (λ (o : ℕ). get_or f 2 0 % 4 * 256 + o + 1) (get_or-append f rest 0 3 (omega arith))

frame-front : (f rest : List ℕ) → IsTransferFrame f → has_frame (f ++ rest) ≡ true
unfolding has_frame
frame-front f rest h =
    let long : 5 ≤ length f = omega (arith, (has_frame-tells f h.whole).0, (has_frame-tells f h.whole).1) in
    let states = stated-more f rest long in
    let fits : nat_le (stated (f ++ rest)) (length (f ++ rest)) ≡ true =
    le-leb (stated (f ++ rest)) (length (f ++ rest)) (omega (arith, states, h.states, length-append f rest)) in
    all_three _ _ _ (ap (λ (n : ℕ). nat_le 5 n) states) fits
    (ap (λ (o : ℕ). nat_lt o 64) (get_or-append f rest 0 0 (omega arith))) h.whole

frames-filled : (frames : List (List ℕ)) (n : ℕ) → AllByRecursion IsTransferFrame frames → frames_in (concat frames ++ fill n) ≡ frames
frames-filled [] n all = frames-none (fill n) (fill-none n)
frames-filled (f ∷ frames) n all =
    let h = all.0 in
    let rest = concat frames ++ fill n in
    let long : 5 ≤ length f = omega (arith, (has_frame-tells f h.whole).0, (has_frame-tells f h.whole).1) in
    let len : stated (f ++ rest) ≡ length f = stated-more f rest long ∙ h.states in
    ap frames_in (append_assoc f (concat frames) (fill n)) ∙ frames-one (f ++ rest) (frame-front f rest h)
    ∙ ap (λ (k : ℕ). take k (f ++ rest) ∷ frames_in (drop k (f ++ rest))) len
    ∙ ap (λ (x : List ℕ). x ∷ frames_in (drop (length f) (f ++ rest))) (take-append_seam f rest)
    ∙ ap (λ (x : List ℕ). f ∷ frames_in x) (drop-append_seam f rest)
    ∙ ap (λ (x : List (List ℕ)). f ∷ x) (frames-filled frames n all.1)

-- ---- the tail sequence

and-false : (a : Bool) → (a && false) ≡ false
and-false true = refl
and-false false = refl

tail-none : (rest : List ℕ) → is_block (tail_sequence ++ rest) ≡ false
tail-none rest = is_block-more tail_sequence rest (lit≤ tt) ∙ refl

tail-is : (s : CltuShape) (rest : List ℕ) → has_sequence s tail_sequence (tail_sequence ++ rest) ≡ true
unfolding ones
tail-is s rest = le-leb 0 s.errors (omega arith)

tail-taken : (s : CltuShape) (rest : List ℕ) → is_refused s (tail_sequence ++ rest) ≡ false
tail-taken s rest = ap (λ (b : Bool). nat_le 8 (length (tail_sequence ++ rest)) && not b) (tail-is s rest) ∙ and-false (nat_le 8 (length (tail_sequence ++ rest)))

-- where five bits or more of the start sequence are wrong no CLTU begins
no-start : (s : CltuShape) (place : Place) (octets : List ℕ) (n : ℕ) → wrong_bits start_sequence octets ≡ n → 5 ≤ n
    → cltu_begins s place octets ≡ false
unfolding cltu_begins
no-start s place octets n e h =
    let wrong : nat_le (wrong_bits start_sequence octets) s.errors ≡ false = ap (λ (k : ℕ). nat_le k s.errors) e ∙ lt-leb n s.errors (omega (arith, s.few)) in
    ap (λ (b : Bool). b && is_block (drop 2 octets)) wrong

tail_inside : (rest : List ℕ) → wrong_bits start_sequence (0xC5 ∷ 0xC5 ∷ rest) ≡ 8
unfolding ones
tail_inside rest = refl

tail_last : (rest : List ℕ) → wrong_bits start_sequence (0xC5 ∷ 0x79 ∷ rest) ≡ 9
unfolding ones
tail_last rest = refl

tail_start : (rest : List ℕ) → wrong_bits start_sequence (0x79 ∷ 0xEB ∷ rest) ≡ 9
unfolding ones
tail_start rest = refl

-- the file ends here, or another CLTU may begin
data MayFollow : List ℕ → Type 0 where
  none : MayFollow []
  start : (rest : List ℕ) → MayFollow (0xEB ∷ rest)

last-none : (s : CltuShape) (place : Place) (rest : List ℕ) → MayFollow rest → cltu_begins s place (0x79 ∷ rest) ≡ false
unfolding cltu_begins
last-none s place rest none = and-false (has_sequence s start_sequence (0x79 ∷ []))
last-none s place rest (start more) = no-start s place (0x79 ∷ 0xEB ∷ more) 9 (tail_start more) (lit≤ tt)

stray-one : (s : CltuShape) (o : ℕ) (octets : List ℕ) → cltu_begins s Start (o ∷ octets) ≡ false
    → parts_of (cltu_rule s) Start (o ∷ octets) ≡ stray Start ∷ parts_of (cltu_rule s) Start octets
stray-one s o octets b = parts-stray (cltu_rule s) Start (o ∷ octets) (omega arith) b

stray-first : (s : CltuShape) (place : Place) (o : ℕ) (octets : List ℕ) → cltu_begins s place (o ∷ octets) ≡ false
    → parts_of (cltu_rule s) place (o ∷ octets) ≡ stray Start ∷ parts_of (cltu_rule s) Start octets
stray-first s place o octets b = parts-stray (cltu_rule s) place (o ∷ octets) (omega arith) b

-- the octets of the tail sequence are stray
tail-stray : (s : CltuShape) (place : Place) (rest : List ℕ) → MayFollow rest
    → parts_of (cltu_rule s) place (tail_sequence ++ rest) ≡ replicate 8 (stray Start) ++ parts_of (cltu_rule s) Start rest
tail-stray s place rest follows =
    let c5 : ℕ = 0xC5 in
    let t1 = 0x79 ∷ rest in
    let t2 = c5 ∷ t1 in
    let t3 = c5 ∷ t2 in
    let t4 = c5 ∷ t3 in
    let t5 = c5 ∷ t4 in
    let t6 = c5 ∷ t5 in
    let t7 = c5 ∷ t6 in
    let more : List Part → List Part = λ p. stray Start ∷ p in
    let in5 : (place : Place) (x : List ℕ) → cltu_begins s place (c5 ∷ c5 ∷ x) ≡ false = λ place x. no-start s place (c5 ∷ c5 ∷ x) 8 (tail_inside x) (lit≤ tt) in
    let e1 = stray-one s 0x79 rest (last-none s Start rest follows) in
    let e2 = stray-one s c5 t1 (no-start s Start t2 9 (tail_last rest) (lit≤ tt)) ∙ ap more e1 in
    let e3 = stray-one s c5 t2 (in5 Start t1) ∙ ap more e2 in
    let e4 = stray-one s c5 t3 (in5 Start t2) ∙ ap more e3 in
    let e5 = stray-one s c5 t4 (in5 Start t3) ∙ ap more e4 in
    let e6 = stray-one s c5 t5 (in5 Start t4) ∙ ap more e5 in
    let e7 = stray-one s c5 t6 (in5 Start t5) ∙ ap more e6 in
    stray-first s place c5 t7 (in5 place t6) ∙ ap more e7

-- ---- the CLTU of frames

-- octets with their fill are whole code blocks
filled_long : (n k : ℕ) → k ≡ n + (7 - n % 7) % 7 → k ≡ 7 * (k / 7)
filled_long n k e = omega (arith, e)

filled_few : (n : ℕ) → (7 - n % 7) % 7 < 7
filled_few n = omega arith

cut-none : (a b n : ℕ) → a ≡ b + n → n < 7 → cut_octets (a - b) ≡ 0
cut-none a b n e h =
    let few : nat_lt (a - b) 7 ≡ true = lt-ltb (a - b) 7 (omega arith) in
    ap (λ (t : Bool). if t then 0 else (a - b)) few

few_blocks : (n : ℕ) → n ≤ 7168 → n / 7 ≤ 1024
few_blocks n h = omega arith

some_blocks : (k n f : ℕ) → 5 ≤ n → k ≡ n + f → f ≡ (7 - n % 7) % 7 → 1 ≤ k / 7
some_blocks k n f h e g = omega (arith, e, g)

-- frames have octets
first-long : (frames : List (List ℕ)) → AllByRecursion IsTransferFrame frames → 1 ≤ length frames → 5 ≤ length (concat frames)
first-long [] all some = absurd (omega arith)
first-long (f ∷ frames) all some =
    let tells = has_frame-tells f all.0.whole in
    omega (arith, length-append f (concat frames), tells.0, tells.1)

-- a code block comes first
block-first : (n : ℕ) (octets rest : List ℕ) → 1 ≤ n → length octets ≡ 7 * n → is_block (coded n octets ++ rest) ≡ true
block-first zero octets rest some long = absurd (omega arith)
block-first (suc n) octets rest some long =
    ap is_block (coded-one n octets rest)
    ∙ block-is (take 7 octets) (coded n (drop 7 octets) ++ rest) (length-take-le 7 octets (omega arith))

start-is : (s : CltuShape) (rest : List ℕ) → has_sequence s start_sequence (0xEB ∷ 0x90 ∷ rest) ≡ true
unfolding ones
start-is s rest = le-leb 0 s.errors (omega arith)

-- frames and their fill are read as these frames, and nothing of a frame is cut
content-of : (frames : List (List ℕ)) (n : ℕ) → AllByRecursion IsTransferFrame frames → n < 7
    → unit (content_by (concat frames ++ fill n) false) ≡ read_of frames
unfolding content_by
content-of frames n all few =
    let octets = concat frames ++ fill n in
    let found = frames-filled frames n all in
    let make : List (List ℕ) → ℕ → Part = λ f c. let content : Content = record { frames = f; marked = true; cut = c; refused = false } in unit content in
    let left : length octets ≡ length (concat frames) + n = length-append (concat frames) (fill n) ∙ ap (λ (k : ℕ). length (concat frames) + k) (length-replicate n 0x55) in
    ap (λ (f : List (List ℕ)). make f (cut_octets (length octets - length (concat f)))) found
    ∙ ap (λ (c : ℕ). make frames c) (cut-none (length octets) (length (concat frames)) n left few)

module _ (s : CltuShape) (frames : List (List ℕ)) (h : FitCltu frames) where
  abbrev joined : List ℕ
  joined = concat frames

  abbrev filling : ℕ
  filling = (7 - length joined % 7) % 7

  abbrev number : ℕ
  number = length (filled joined) / 7

  abbrev mixed : List ℕ
  mixed = randomised_if s.randomised Tc (filled joined)

  length-filled : length (filled joined) ≡ length joined + filling
  length-filled = length-append joined (fill filling) ∙ ap (λ (n : ℕ). length joined + n) (length-replicate filling 0x55)

  length-mixed : length mixed ≡ 7 * number
  length-mixed = length-randomised_if s.randomised Tc (filled joined) ∙ filled_long (length joined) (length (filled joined)) length-filled

  number-few : number ≤ 1024
  number-few = few_blocks (length (filled joined)) h.few

  number-some : 1 ≤ number
  number-some = some_blocks (length (filled joined)) (length joined) filling (first-long frames h.each h.some) length-filled refl

  -- octets that begin with the CLTU
  abbrev with_rest : List ℕ → List ℕ
  with_rest rest = 0xEB ∷ 0x90 ∷ (coded number mixed ++ (tail_sequence ++ rest))

  cltu-parts : (rest : List ℕ) → cltu_of s.randomised frames ++ rest ≡ with_rest rest
  cltu-parts rest = ap (λ (x : List ℕ). 0xEB ∷ 0x90 ∷ x) (append_assoc (coded number mixed) tail_sequence rest)

  count-is : (rest : List ℕ) → block_count (with_rest rest) ≡ number
  count-is rest = blocks-coded number 1024 mixed (tail_sequence ++ rest) number-few length-mixed (tail-none rest)

  data-is : (rest : List ℕ) → cltu_data s (with_rest rest) ≡ filled joined
  data-is rest =
      ap (λ (n : ℕ). randomised_if s.randomised Tc (data_of n (coded number mixed ++ (tail_sequence ++ rest)))) (count-is rest)
      ∙ ap (λ (x : List ℕ). randomised_if s.randomised Tc x) (data-coded number mixed (tail_sequence ++ rest) length-mixed)
      ∙ randomised_if-twice s.randomised Tc (filled joined)

  behind-is : (rest : List ℕ) → drop (cltu_size (with_rest rest)) (with_rest rest) ≡ tail_sequence ++ rest
  behind-is rest =
      let e : 8 * number + 2 ≡ suc (suc (8 * number)) = omega arith in
      ap (λ (n : ℕ). drop (8 * n + 2) (with_rest rest)) (count-is rest) ∙ ap (λ (n : ℕ). drop n (with_rest rest)) e
      ∙ ap (λ (n : ℕ). drop n (coded number mixed ++ (tail_sequence ++ rest))) (sym (length-coded number mixed length-mixed))
      ∙ drop-append_seam (coded number mixed) (tail_sequence ++ rest)

  content-is : (rest : List ℕ) → unit (cltu_content s (with_rest rest)) ≡ read_of frames
  content-is rest =
      let x = with_rest rest in
      let refused : is_refused s (drop (cltu_size x) x) ≡ false = ap (λ (y : List ℕ). is_refused s y) (behind-is rest) ∙ tail-taken s rest in
      ap (λ (c : Content). unit c) (content-by s x ∙ ap (λ (y : List ℕ). content_by y (is_refused s (drop (cltu_size x) x))) (data-is rest)
      ∙ ap (λ (b : Bool). content_by (filled joined) b) refused)
      ∙ content-of frames filling h.each (filled_few (length joined))

  cltu-begins : (place : Place) (rest : List ℕ) → cltu_begins s place (with_rest rest) ≡ true
  unfolding cltu_begins
  cltu-begins place rest =
      let first : is_block (coded number mixed ++ (tail_sequence ++ rest)) ≡ true = block-first number mixed (tail_sequence ++ rest) number-some length-mixed in
      ap (λ (b : Bool). b && is_block (coded number mixed ++ (tail_sequence ++ rest))) (start-is s (coded number mixed ++ (tail_sequence ++ rest))) ∙ first

  -- the CLTU is read, where nothing follows or another CLTU
  cltu-read : (place : Place) (rest : List ℕ) → MayFollow rest
      → parts_of (cltu_rule s) place (cltu_of s.randomised frames ++ rest) ≡ read_cltu frames ++ parts_of (cltu_rule s) Start rest
  cltu-read place rest follows =
      let x = with_rest rest in
      ap (λ (y : List ℕ). parts_of (cltu_rule s) place y) (cltu-parts rest)
      ∙ parts-unit (cltu_rule s) place x (omega arith) (omega arith) (cltu-begins place rest)
      ∙ ap (λ (p : Part). p ∷ parts_of (cltu_rule s) Next (drop (cltu_size x) x)) (content-is rest)
      ∙ ap (λ (y : List ℕ). read_of frames ∷ parts_of (cltu_rule s) Next y) (behind-is rest)
      ∙ ap (λ (p : List Part). read_of frames ∷ p) (tail-stray s Next rest follows)

follows : (s : CltuShape) (cltus : List (List (List ℕ))) → MayFollow (concat (map (cltu_of s.randomised) cltus))
follows s [] = none
follows s (frames ∷ cltus) = start _

-- CLTUs after one, each of some frames
later_cltus : (s : CltuShape) (place : Place) (cltus : List (List (List ℕ))) → AllByRecursion FitCltu cltus
    → parts_of (cltu_rule s) place (concat (map (cltu_of s.randomised) cltus)) ≡ flat_map read_cltu cltus
later_cltus s place [] all = refl
later_cltus s place (frames ∷ cltus) all =
    cltu-read s frames all.0 place (concat (map (cltu_of s.randomised) cltus)) (follows s cltus)
    ∙ ap (λ (p : List Part). read_cltu frames ++ p) (later_cltus s Start cltus all.1)

pub cltus : CltusAreRead
cltus s place units all = later_cltus s place units all
