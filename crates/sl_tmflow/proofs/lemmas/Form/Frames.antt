-- The code's steps: frames of the data fields that octets fill.
use Rattle.std.proofs.Common.{◌≡◌, ℕ, zero, suc, ◌+◌, ◌*◌, ◌<◌, ◌≤◌, List, [], ◌++◌, length, drop, Option, None, sym, ◌∙◌, ap, arith, length-append, append_assoc, append-nil}
use Rattle.std.proofs.lemmas.Grind.{common_steps}
use Rattle.std.proofs.lemmas.List.{drop_all, drop-drop}
use Rattle.std.specs.List.{concat}
use Rattle.std.proofs.lemmas.Nat.{div-add-mod', div-mul-add}
use Rattle.std.proofs.Math.Nat.{add-mul-div_right, suc-mul, zero-mul, one-mul}
use Rattle.std.proofs.Math.Seq.{drop-append_seam, take-append_seam}
use Rattle.sl_fields.proofs.FecfLemmas.{fecf_len_le}
use Rattle.sl_fields.proofs.Octets.{length-octets_of}
use Rattle.sl_tmframe.proofs.PacketFrameLemmas.{with_fecf_whole}
use Rattle.sl_tmframe.specs.PacketFrame.{field_room_of}
use Rattle.sl_tmframe.specs.TmFrame.{TmFormat}
use Rattle.sl_tmflow.specs.Form.{field_frames, frames_len, filled_frames, fields_in, beyond_fields, filled_up, headed_frame, heading_after}
use Rattle.sl_tmflow.specs.declared.form.Heading.{Heading}
use Rattle.sl_tmflow.specs.NormalForm.{filling}
use Rattle.sl_tmflow.proofs.lemmas.Form.Fill.{fill_inside, fill_is_least, filling_is}

-- ---- how many data fields

pub none_filled : (format : TmFormat) (octets : List ℕ) → length octets < field_room_of format → fields_in format octets ≡ 0
none_filled format octets few = grind (arith, zero-mul, div-mul-add)

pub few_beyond : (format : TmFormat) (octets : List ℕ) → length octets < field_room_of format → beyond_fields format octets ≡ octets
few_beyond format octets few = ap (λ n. drop (n * field_room_of format) octets) (none_filled format octets few) ∙ ap (λ n. drop n octets) (zero-mul (field_room_of format))

pub none_beyond_filling : (format : TmFormat) (octets : List ℕ) → 7 ≤ field_room_of format → field_room_of format ≤ 65536 → beyond_fields format (filled_up format octets) ≡ []
none_beyond_filling format octets wide short = grind (arith, length-append, filling_is, fill_is_least, div-add-mod', drop_all)

pub one_more_field : (format : TmFormat) (left field later : List ℕ) → 0 < field_room_of format → left ≡ field ++ later → length field ≡ field_room_of format
    → fields_in format left ≡ suc (fields_in format later)
one_more_field format left field later roomy divided whole = grind (arith, one-mul, length-append, add-mul-div_right)

pub one_more_beyond : (format : TmFormat) (left field later : List ℕ) → 0 < field_room_of format → left ≡ field ++ later → length field ≡ field_room_of format
    → beyond_fields format left ≡ beyond_fields format later
one_more_beyond format left field later roomy divided whole =
    let from = fields_in format later * field_room_of format in
    let fields = ap (λ n. n * field_room_of format) (one_more_field format left field later roomy divided whole) in
    let rooms = suc-mul (fields_in format later) (field_room_of format) in
    let at : fields_in format left * field_room_of format ≡ length field + from = omega (arith, fields, rooms, whole) in
    ap (λ n. drop n left) at ∙ ap (drop (length field + from)) divided ∙ sym (drop-drop from (length field) (field ++ later)) ∙ ap (drop from) (drop-append_seam field later)

pub next_field : (format : TmFormat) (heading : Heading) (first : Option ℕ) (left field later : List ℕ) → 0 < field_room_of format → left ≡ field ++ later → length field ≡ field_room_of format
    → field_frames format (fields_in format left) heading first left
    ≡ headed_frame format heading first field ++ field_frames format (fields_in format later) (heading_after heading 1) None later
next_field format heading first left field later roomy divided whole = grind (arith, take-append_seam, drop-append_seam, one_more_field)

-- ---- frames that were pushed so far

-- these frames are as many as the data fields at the front of `octets` whose end `left` is, and as
-- many fields and octets beyond them are left
pub record IsCounted (format : TmFormat) (octets left : List ℕ) (frames : ℕ) : Type 0 where
  pub count : frames + fields_in format left ≡ fields_in format octets
  pub beyond : beyond_fields format left ≡ beyond_fields format octets
  pub most : frames + length left ≤ length octets

pub counts_next : (format : TmFormat) (octets left field later : List ℕ) (frames : ℕ) → 0 < field_room_of format → left ≡ field ++ later → length field ≡ field_room_of format
    → IsCounted format octets left frames → IsCounted format octets later (frames + 1)
counts_next format octets left field later frames roomy divided whole counted = record {
  count = omega (arith, one_more_field format left field later roomy divided whole, counted.count);
  beyond = sym (one_more_beyond format left field later roomy divided whole) ∙ counted.beyond;
  most = omega (arith, counted.most, ap length divided, length-append field later, whole, roomy);
}

-- all are counted where no data field is left
pub all_counted : (format : TmFormat) (octets left : List ℕ) (frames : ℕ) → length left < field_room_of format
    → IsCounted format octets left frames → (frames ≡ fields_in format octets) × (left ≡ beyond_fields format octets)
all_counted format octets left frames few counted = (omega (arith, none_filled format left few, counted.count), sym (few_beyond format left few) ∙ counted.beyond)

pub record IsPushing (format : TmFormat) (heading : Heading) (end : List ℕ) (size : ℕ) (first : Option ℕ) (left form : List ℕ) (len : ℕ) : Type 0 where
  pub frames : form ++ field_frames format (fields_in format left) heading first left ≡ end
  pub sizes : len + fields_in format left * format.len ≡ size

pub pushes_next : (format : TmFormat) (heading : Heading) (end : List ℕ) (size : ℕ) (first : Option ℕ) (left field later form form' : List ℕ) (len len' : ℕ)
    → 0 < field_room_of format → 8 ≤ format.len → left ≡ field ++ later → length field ≡ field_room_of format
    → form' ≡ form ++ headed_frame format heading first field → len ≡ length form → len' ≡ length form'
    → IsPushing format heading end size first left form len
    → IsPushing format (heading_after heading 1) end size None later form' len'
pushes_next format heading end size first left field later form form' len len' roomy long divided whole added is is' pushing = grind (arith, one_more_field, suc-mul, append_assoc, next_field, length-append, common_steps, with_fecf_whole, length-octets_of)

-- all frames are pushed where no data field is left
pub all_pushed : (format : TmFormat) (heading : Heading) (end : List ℕ) (size : ℕ) (first : Option ℕ) (left form : List ℕ) (len : ℕ) → length left < field_room_of format
    → IsPushing format heading end size first left form len → (form ≡ end) × (len ≡ size)
all_pushed format heading end size first left form len few pushing = grind (arith, none_filled, zero-mul, append-nil)

-- ---- octets and a packet after them

-- the head of a packet fills the octets before it up to a data field
pub record FillsUp (format : TmFormat) (octets packet head rest : List ℕ) : Type 0 where
  pub roomy : 0 < field_room_of format
  pub divided : packet ≡ head ++ rest
  pub whole : length (octets ++ head) ≡ field_room_of format

module _ {format : TmFormat} {octets packet head rest : List ℕ} (s : FillsUp format octets packet head rest) where
  both : octets ++ packet ≡ (octets ++ head) ++ rest
  both = ap (λ l. octets ++ l) s.divided ∙ sym (append_assoc octets head rest)

  pub fields_of_both : fields_in format (octets ++ packet) ≡ suc (fields_in format rest)
  fields_of_both = one_more_field format (octets ++ packet) (octets ++ head) rest s.roomy both s.whole

  pub frames_len_of_both : frames_len format (octets ++ packet) ≡ format.len + frames_len format rest
  frames_len_of_both = let first = ap (λ n. n * format.len) fields_of_both in let lengths = suc-mul (fields_in format rest) format.len in omega arith

  pub beyond_both : beyond_fields format (octets ++ packet) ≡ beyond_fields format rest
  beyond_both = one_more_beyond format (octets ++ packet) (octets ++ head) rest s.roomy both s.whole

  pub frames_of_both : (heading : Heading) (first : Option ℕ) (form form₁ form₂ : List ℕ)
      → form₁ ≡ form ++ headed_frame format heading first (octets ++ head) → form₂ ≡ form₁ ++ filled_frames format (heading_after heading 1) None rest
      → form₂ ≡ form ++ filled_frames format heading first (octets ++ packet)
  frames_of_both heading first form form₁ form₂ one two =
      let frame = headed_frame format heading first (octets ++ head) in
      let others = filled_frames format (heading_after heading 1) None rest in
      two ∙ ap (λ f. f ++ others) one ∙ append_assoc form frame others
      ∙ ap (λ l. form ++ l) (sym (next_field format heading first (octets ++ packet) (octets ++ head) rest s.roomy both s.whole))

-- ---- the room for a piece

thrice : (many room len : ℕ) → 24 ≤ room → len ≤ room + 8 → 3 * (many * len) ≤ 4 * (many * room)
thrice zero room len wide short = let a = zero-mul room in let b = zero-mul len in omega arith
thrice (suc many) room len wide short = grind (arith, suc-mul, thrice many room len wide short)

pub piece_fits : (many room len octets : ℕ) → 24 ≤ room → len ≤ room + 8 → many * room ≤ octets → octets ≤ 67584 → many * len ≤ 90112
piece_fits many room len octets wide short fields most = let t = thrice many room len wide short in omega arith

pub small_piece : (format : TmFormat) (octets packet : List ℕ) → 24 ≤ field_room_of format → field_room_of format ≤ 2042 → length octets < field_room_of format → length packet ≤ 65542
    → fields_in format (octets ++ packet) * format.len ≤ 90112
small_piece format octets packet wide short few most =
    let all = octets ++ packet in
    let last = fecf_len_le format.fecf in
    let parts = div-add-mod' (length all) (field_room_of format) in
    let size = length-append octets packet in
    piece_fits (fields_in format all) (field_room_of format) format.len 67584 wide (omega (arith, wide, last)) (omega (arith, parts, size, few, short, most)) (omega arith)

-- the same of the octets that an idle packet fills up
pub small_filling : (format : TmFormat) (octets : List ℕ) → 24 ≤ field_room_of format → field_room_of format ≤ 2042 → length octets < field_room_of format → frames_len format (filled_up format octets) ≤ 90112
small_filling format octets wide short few =
    let idle : length (concat (filling (field_room_of format) (length octets))) ≤ 65542 = grind (arith, filling_is, fill_inside) in
    small_piece format octets (concat (filling (field_room_of format) (length octets))) wide short few idle
