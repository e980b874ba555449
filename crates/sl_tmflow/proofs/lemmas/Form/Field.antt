-- The packets that fill the next data field.
use Rattle.std.proofs.Common.{◌≡◌, ℕ, ◌+◌, ◌<◌, ◌≤◌, List, [], ◌∷◌, ◌++◌, length, take, map, Option, sym, ◌∙◌, ap, ap₂, arith, length-append, append_assoc}
use Rattle.std.specs.List.{AllByRecursion, concat}
use Rattle.std.proofs.lemmas.List.{length-take}
use Rattle.std.proofs.Math.Seq.{take-append_seam}
use Rattle.sl_fields.specs.Field.{octets_of}
use Rattle.sl_fields.proofs.Octets.{length-octets_of}
use Rattle.sl_packet.specs.Delivered.{IsDeliverable}
use Rattle.sl_tmframe.proofs.PacketFrameLemmas.{with_fecf_whole}
use Rattle.sl_tmframe.specs.PacketFrame.{field_room_of, frame_fields}
use Rattle.sl_tmframe.specs.TmFrame.{TmFormat}
use Rattle.sl_tmflow.specs.Form.{headed_frame}
use Rattle.sl_tmflow.specs.declared.form.Heading.{Heading}

-- one packet more lies in the field
pub one_more_inside : {X : Type 0} (packets left later : List X) (packet : X) (inside : ℕ) → packets ≡ take inside packets ++ left
    → inside + length left ≡ length packets → left ≡ packet ∷ later
    → (packets ≡ take (inside + 1) packets ++ later) × (take (inside + 1) packets ≡ take inside packets ++ (packet ∷ []))
one_more_inside packets left later packet inside divided counted is =
    let before = take inside packets in
    let these = before ++ (packet ∷ []) in
    let whole : packets ≡ these ++ later = divided ∙ ap (λ l. before ++ l) is ∙ sym (append_assoc before (packet ∷ []) later) in
    let many : inside + 1 ≡ length these = omega (arith, length-append before (packet ∷ []), length-take inside packets, counted, ap length is) in
    let cut : take (inside + 1) packets ≡ these = ap₂ take many whole ∙ take-append_seam these later in
    (whole ∙ ap (λ l. l ++ later) (sym cut), cut)

pub octets_more : {X : Type 0} (f : X → List ℕ) (before : List X) (packet : X) → length (concat (map f (before ++ (packet ∷ [])))) ≡ length (concat (map f before)) + length (f packet)
octets_more f [] packet = omega (arith, length-append (f packet) [])
octets_more f (first ∷ before) packet =
    omega (arith, octets_more f before packet, length-append (f first) (concat (map f (before ++ (packet ∷ [])))), length-append (f first) (concat (map f before)))

-- what holds of all packets holds of one in the middle, and of those after it
pub in_the_middle : (before : List (List ℕ)) (packet : List ℕ) (later : List (List ℕ)) → AllByRecursion IsDeliverable (before ++ (packet ∷ later))
    → IsDeliverable packet × AllByRecursion IsDeliverable later
in_the_middle [] packet later each = (each.0, each.1)
in_the_middle (first ∷ before) packet later each = in_the_middle before packet later each.1

pub is_short : (packet : List ℕ) → IsDeliverable packet → length packet ≤ 65542
is_short packet is = let long = is.0.len in omega (arith, long)

-- where a tail or packets are left, so are octets
pub some_octets : (tail : List ℕ) (packets : List (List ℕ)) → AllByRecursion IsDeliverable packets → 0 < length tail + length packets → 0 < length (tail ++ concat packets)
some_octets tail [] each some = omega (arith, some, length-append tail [])
some_octets tail (packet ∷ packets) each some =
    let long = each.0.0.len in
    omega (arith, long, length-append tail (packet ++ concat packets), length-append packet (concat packets))

-- a frame of packets has the length of its format
pub headed_len : (format : TmFormat) (h : Heading) (first : Option ℕ) (field : List ℕ) → 8 ≤ format.len → length field ≡ field_room_of format → length (headed_frame format h first field) ≡ format.len
headed_len format h first field long whole = with_fecf_whole format (octets_of 6 (frame_fields h.spacecraft h.vc h.mc_count h.vc_count first)) field long (length-octets_of 6 (frame_fields h.spacecraft h.vc h.mc_count h.vc_count first)) whole
