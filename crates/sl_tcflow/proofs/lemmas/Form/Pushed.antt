-- The frames of units, one after another.
use Rattle.std.proofs.Common.{◌≡◌, ℕ, suc, ◌+◌, ◌-◌, ◌*◌, ◌%◌, ◌<◌, ◌≤◌, min, ◌==◌, Bool, false, if◌then◌else◌, List, [], ◌∷◌, ◌++◌, length, take, drop, map, refl, sym, subst, ◌∙◌, ap, arith, length-append, append_assoc, append-nil, add-one}
use Rattle.std.proofs.lemmas.Grind.{common_steps}
use Rattle.std.specs.List.{concat, range_with_len}
use Rattle.std.proofs.lemmas.Bool.Decides.{leb_tells, nat_tests}
use Rattle.std.proofs.lemmas.List.{drop-drop, length-drop}
use Rattle.std.proofs.lemmas.List.Folds.{concat-append}
use Rattle.std.proofs.lemmas.List.FromFn.{map-range_with_len_more}
use Rattle.std.proofs.Math.Nat.{suc-mul, zero-mul, div-lt_iff_lt-mul, le-div_iff_mul-le}
use Rattle.sl_fields.specs.SegmentHeader.{sequence_flags}
use Rattle.sl_tcframe.specs.AdFrame.{ad_frame, segment_unit}
use Rattle.sl_tcframe.specs.TcFrame.{TcFormat}
use Rattle.sl_tcflow.specs.TcNormalForm.{segment_count, flags_at, segment_at, units_of_packet, frames_of_units}

module _ (format : TcFormat) (spacecraft vc : ℕ) where
  abbrev frames_from : ℕ → List (List ℕ) → List (List ℕ)
  frames_from = frames_of_units format spacecraft vc

  -- N(S) matters modulo 256 alone
  pub frames_from_same : (ns ns' : ℕ) (units : List (List ℕ)) → ns % 256 ≡ ns' % 256 → frames_from ns units ≡ frames_from ns' units
  frames_from_same ns ns' [] same = refl
  frames_from_same ns ns' (unit ∷ units) same = grind (arith, frames_from_same (ns + 1) (ns' + 1) units (omega (arith, same)))

  pub frames_from-append : (ns : ℕ) (units more : List (List ℕ)) → frames_from ns (units ++ more) ≡ frames_from ns units ++ frames_from (ns + length units) more
  frames_from-append ns [] more = let same : ns ≡ ns + 0 = omega arith in ap (λ n. frames_from n more) same
  frames_from-append ns (unit ∷ units) more = grind (arith, frames_from-append (ns + 1) units more)

  module _ (base : List ℕ) (ns : ℕ) where
    -- the frames of these units were added to a form: the first one has N(S) `ns`, and the next one has N(S) `next`
    pub record IsPushed (units : List (List ℕ)) (next : ℕ) (form : List ℕ) : Type 0 where
      pub form_is : form ≡ base ++ concat (frames_from ns units)
      pub next_is : next ≡ (ns + length units) % 256

    pub none_pushed : ns < 256 → IsPushed [] ns base
    none_pushed small = record { form_is = sym (append-nil base); next_is = omega arith }

    pub pushed_more : (units more : List (List ℕ)) (next next' : ℕ) (form form' : List ℕ) → IsPushed units next form
        → form' ≡ form ++ concat (frames_from next more) → next' ≡ (next + length more) % 256
        → IsPushed (units ++ more) next' form'
    pushed_more units more next next' form form' s added up = grind (arith, frames_from_same, append_assoc, concat-append, frames_from-append, length-append)

-- ---- the segments of a packet

-- another segment begins within the packet
pub another_begins : (room : ℕ) (packet : List ℕ) (number : ℕ) → 0 < room → number * room < length packet → number < segment_count room packet
another_begins room packet number some inside = grind (arith, suc-mul, le-div_iff_mul-le)

-- no segment begins after the packet's end
pub counts_all : (room : ℕ) (packet : List ℕ) (number : ℕ) → 0 < room → length packet ≤ number * room → segment_count room packet ≤ number
counts_all room packet number some outside = grind (arith, suc-mul, div-lt_iff_lt-mul)

flags_are : (count number : ℕ) → number < count
    → flags_at count number ≡ (if number == 0 then (if number + 1 == count then 3 else 1) else (if number + 1 == count then 2 else 0))
flags_are count number inside = grind (arith, nat_tests)

-- the segment at the packet's front is the first one
is_first_one : (room len number : ℕ) → 0 < room → number * room < len → (len - number * room == len) ≡ (number == 0)
is_first_one room len number some inside = grind (arith, zero-mul, nat_tests, suc-mul)

-- the segment that leaves no octets is the last one
is_last_one : (room : ℕ) (packet : List ℕ) (number : ℕ) → 0 < room → number < segment_count room packet
    → (length packet - number * room - room == 0) ≡ (number + 1 == segment_count room packet)
is_last_one room packet number some there = grind (arith, suc-mul, leb_tells, counts_all, nat_tests, another_begins)

module _ (format : TcFormat) (spacecraft vc map_id : ℕ) (base : List ℕ) (ns room : ℕ) (packet : List ℕ) where
  abbrev numbered_unit : ℕ → List ℕ
  numbered_unit = segment_at room map_id packet

  -- the units of the first segments of the packet
  abbrev units_to : ℕ → List (List ℕ)
  units_to number = map numbered_unit (range_with_len 0 number)

  -- the first segments of the packet were added, and these octets are left
  pub record IsDivided (left : List ℕ) (next : ℕ) (form : List ℕ) : Type 0 where
    pub number : ℕ
    pub left_is : left ≡ drop (number * room) packet
    pub so_far : number ≤ segment_count room packet
    pub pushed : IsPushed format spacecraft vc base ns (units_to number) next form

  pub none_divided : ns < 256 → IsDivided packet ns base
  none_divided small = grind (arith, common_steps, zero-mul, none_pushed)

  -- the next segment
  pub divided_next : (left octets later : List ℕ) (first last : Bool) (next next' : ℕ) (form form' : List ℕ) → 0 < room → 0 < length left → next < 256
      → octets ≡ take room left → later ≡ drop room left → first ≡ (length left == length packet) → last ≡ (length later == 0)
      → (s : IsDivided left next form)
      → form' ≡ form ++ ad_frame format spacecraft vc next (segment_unit (record { flags = sequence_flags first last; map = map_id }) octets)
      → next' ≡ (next + 1) % 256
      → IsDivided later next' form'
  divided_next left octets later first last next next' form form' some there small taken dropped is_first is_last s added up =
      let count = segment_count room packet in
      let size : length left ≡ length packet - s.number * room = ap length s.left_is ∙ length-drop (s.number * room) packet in
      let rest : length later ≡ length left - room = ap length dropped ∙ length-drop room left in
      let inside : s.number * room < length packet = omega (arith, size) in
      let more : s.number < count = another_begins room packet s.number some inside in
      let first_is : first ≡ (s.number == 0) = is_first ∙ ap (λ n. n == length packet) size ∙ is_first_one room (length packet) s.number some inside in
      let last_is : last ≡ (s.number + 1 == count) = is_last ∙ ap (λ n. n == 0) (rest ∙ ap (λ n. n - room) size) ∙ is_last_one room packet s.number some more in
      let flags : sequence_flags first last ≡ flags_at count s.number = rw (first_is, last_is) (sym (flags_are count s.number more)) in
      let next_frame = ad_frame format spacecraft vc next (segment_unit (record { flags = sequence_flags first last; map = map_id }) octets) in
      let same : next_frame ≡ ad_frame format spacecraft vc (next % 256) (numbered_unit s.number) = same_frame next (next % 256) _ _ octets _ (omega arith) flags (taken ∙ ap (take room) s.left_is) in
      let one = suc-mul s.number room in
      record {
        number = suc s.number;
        left_is = dropped ∙ ap (drop room) s.left_is ∙ drop-drop room (s.number * room) packet ∙ ap (λ n. drop n packet) (omega (arith, one));
        so_far = more;
        pushed = subst (λ units. IsPushed format spacecraft vc base ns units next' form')
            (sym (map-range_with_len_more numbered_unit 0 s.number s.number (omega arith)) ∙ ap (λ n. map numbered_unit (range_with_len 0 n)) (add-one s.number))
            (pushed_more format spacecraft vc base ns (units_to s.number) (numbered_unit s.number ∷ []) next next' form form' s.pushed
            (added ∙ ap (λ l. form ++ l) (same ∙ sym (append-nil (ad_frame format spacecraft vc (next % 256) (numbered_unit s.number))))) up);
      }
    where
      same_frame : (ns ns' flags flags' : ℕ) (octets octets' : List ℕ) → ns ≡ ns' → flags ≡ flags' → octets ≡ octets'
          → ad_frame format spacecraft vc ns (segment_unit (record { flags = flags; map = map_id }) octets) ≡ ad_frame format spacecraft vc ns' (segment_unit (record { flags = flags'; map = map_id }) octets')
      same_frame ns ns' flags flags' octets octets' a b c = rw (a, b, c) refl

  -- all segments were added
  pub all_divided : (left : List ℕ) (next : ℕ) (form : List ℕ) → 0 < room → length left ≡ 0 → IsDivided left next form
      → IsPushed format spacecraft vc base ns (units_of_packet false room map_id packet) next form
  all_divided left next form some none s = grind (arith, length-drop, counts_all)

-- ---- how many octets the frames have

-- The frames of a packet of this size were added to `base` octets, and `left` octets of the packet are left. They are
-- at most twice the octets that were taken, and 7 more at the packet's end.
pub record AreFew (base size len left : ℕ) : Type 0 where
  pub before_end : 0 < left → len + 2 * left ≤ base + 2 * size
  pub most : len ≤ base + 2 * size + 7

pub none_few : (base size : ℕ) → AreFew base size base size
none_few base size = record { before_end = λ some. omega arith; most = omega arith }

-- the bound holds with one more frame
pub few_next : (base size len len' left left' octets around room : ℕ) → 8 ≤ room → around ≤ 8 → 0 < left → octets ≡ min room left → left' ≡ left - room
    → len' ≡ len + (octets + around) → AreFew base size len left → AreFew base size len' left'
few_next base size len len' left left' octets around room wide thin some taken rest added few = grind arith

-- there is room for one more frame
pub few_fit : (base size len left octets around room : ℕ) → around ≤ 8 → 0 < left → octets ≡ min room left → AreFew base size len left
    → len + (octets + around) ≤ base + 2 * size + 7
few_fit base size len left octets around room thin some taken few = let before = few.before_end some in omega (arith, before)
