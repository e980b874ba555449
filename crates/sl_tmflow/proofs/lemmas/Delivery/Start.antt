-- The list of the packet starts of a data field: each listed offset is a packet start, and each packet start is
-- listed. What is found at packet starts.
use Rattle.std.proofs.Common.{◌≡◌, ℕ, ◌+◌, ◌-◌, ◌<◌, List, [], ◌∷◌, ◌++◌, length, take, drop, Option, None, Some, inl, refl, sym, ◌∙◌, ap, ap₂, subst, arith, length-append, length-drop, append-nil, append_assoc}
use Rattle.std.specs.Prelude.{⊤}
use Rattle.std.specs.List.{AllByRecursion, concat, flat_map}
use Rattle.std.proofs.lemmas.List.{drop-drop, drop_at, length_push, take-append-drop}
use Rattle.sl_packet.specs.Packet.{IsPacket}
use Rattle.sl_packet.specs.Front.{WholePacket, front_of}
use Rattle.sl_packet.specs.Packets.{packets_of, rest_of}
use Rattle.sl_packet.proofs.FrontLemmas.{whole_is_a_packet}
use Rattle.sl_packet.proofs.PacketLemmas.{packet_least}
use Rattle.sl_packet.proofs.PacketsLemmas.{packets_of-concat, rest_of-concat, each_has_packets}
use Rattle.sl_tmframe.specs.TmFrame.{TmView, DataField, Packets, Idle, Opaque}
use Rattle.sl_tmflow.specs.Among.{IsAmong}
use Rattle.sl_tmflow.specs.Incomplete.{HasNoStart}
use Rattle.sl_tmflow.specs.PacketStart.{IsStart, packet_offsets, starts_from, starts_of}
use Rattle.sl_fields.proofs.ListLemmas.{concat-push, each-append, each-flat_map, each-weaker}
use Rattle.sl_tmflow.proofs.lemmas.Places.{among-left, among-right, among-flat_map}

-- ---- each listed offset is a packet start

-- the octets after packets that lie end to end from the pointer on
pub drop_end : (field : List ℕ) (pointer start : ℕ) (before : List (List ℕ)) (after : List ℕ) → drop pointer field ≡ concat before ++ after
    → start ≡ pointer + length (concat before) → drop start field ≡ after
drop_end field pointer start before after parts here =
    ap (λ n. drop n field) here ∙ sym (drop-drop (length (concat before)) pointer field)
    ∙ ap (drop (length (concat before))) parts ∙ drop_at (concat before) after (length (concat before)) refl

is_start_here : (field : List ℕ) (pointer start : ℕ) (before : List (List ℕ)) (after : List ℕ) → AllByRecursion IsPacket before
    → drop pointer field ≡ concat before ++ after → start ≡ pointer + length (concat before) → 0 < length after → IsStart field (Some pointer) start
is_start_here field pointer start before after packets parts here some =
    let long : length field - pointer ≡ length (concat before) + length after =
    sym (length-drop pointer field) ∙ ap length parts ∙ length-append (concat before) after in
    record {
      pointer = pointer;
      pointed = refl;
      before = before;
      packets = packets;
      end_to_end = parts ∙ ap (λ octets. concat before ++ octets) (sym (drop_end field pointer start before after parts here));
      here = here;
      inside = omega arith;
    }

offsets_are_starts : (field : List ℕ) (pointer offset : ℕ) (before packets : List (List ℕ)) (rest : List ℕ) → AllByRecursion IsPacket before
    → AllByRecursion IsPacket packets → drop pointer field ≡ concat before ++ (concat packets ++ rest) → offset ≡ pointer + length (concat before)
    → AllByRecursion (IsStart field (Some pointer)) (packet_offsets offset packets rest)
offsets_are_starts field pointer offset before [] [] done each parts here = tt
offsets_are_starts field pointer offset before [] (octet ∷ rest) done each parts here =
    (is_start_here field pointer offset before (octet ∷ rest) done parts here (omega arith), tt)
offsets_are_starts field pointer offset before (packet ∷ packets) rest done each parts here =
    let least = packet_least packet each.0 in
    let nested : (packet ++ concat packets) ++ rest ≡ packet ++ (concat packets ++ rest) = append_assoc packet (concat packets) rest in
    let some : 0 < length ((packet ++ concat packets) ++ rest) =
    omega (arith, length-append (packet ++ concat packets) rest, length-append packet (concat packets)) in
    let one_more : concat (before ++ packet ∷ []) ≡ concat before ++ packet = concat-push before packet in
    let parts' : drop pointer field ≡ concat (before ++ packet ∷ []) ++ (concat packets ++ rest) =
    parts ∙ ap (λ octets. concat before ++ octets) nested ∙ sym (append_assoc (concat before) packet (concat packets ++ rest))
    ∙ ap (λ octets. octets ++ (concat packets ++ rest)) (sym one_more) in
    let here' : offset + length packet ≡ pointer + length (concat (before ++ packet ∷ [])) =
    omega (arith, ap length one_more, length-append (concat before) packet) in (
      is_start_here field pointer offset before ((packet ++ concat packets) ++ rest) done parts here some,
      offsets_are_starts field pointer (offset + length packet) (before ++ packet ∷ []) packets rest
          (each-append IsPacket before (packet ∷ []) done (each.0, tt)) each.1 parts' here',
    )

pub each_is_start : (first : Option ℕ) (field : List ℕ) → AllByRecursion (IsStart field first) (starts_from first field)
each_is_start None field = tt
each_is_start (Some pointer) field =
    let has = each_has_packets (drop pointer field) in
    offsets_are_starts field pointer pointer [] (packets_of (drop pointer field)) (rest_of (drop pointer field)) tt has.each has.end_to_end
    (omega arith)

-- ---- each packet start is listed

among_offsets : (offset start : ℕ) (before packets : List (List ℕ)) (rest : List ℕ) → start ≡ offset + length (concat before)
    → 0 < length (concat packets ++ rest) → IsAmong start (packet_offsets offset (before ++ packets) rest)
among_offsets offset start [] [] [] here some = absurd (omega arith)
among_offsets offset start [] [] (octet ∷ rest) here some = inl (omega arith)
among_offsets offset start [] (packet ∷ packets) rest here some = inl (omega arith)
among_offsets offset start (packet ∷ before) packets rest here some = grind (arith, length-append, among_offsets (offset + length packet) start before packets rest (omega (arith, length-append packet (concat before))) some)

pub is_among : (field : List ℕ) (first : Option ℕ) (start : ℕ) → IsStart field first start → IsAmong start (starts_from first field)
is_among field first start is_start = grind (arith, packets_of-concat, rest_of-concat, each_has_packets, length-drop, among_offsets)

-- ---- packet starts rise

abbrev pub AreRising : List ℕ → Type 0
AreRising [] = ⊤
AreRising (offset ∷ offsets) = AllByRecursion (λ later. offset < later) offsets × AreRising offsets

offsets_above : (low offset : ℕ) (packets : List (List ℕ)) (rest : List ℕ) → low < offset → AllByRecursion (λ later. low < later) (packet_offsets offset packets rest)
offsets_above low offset [] [] above = tt
offsets_above low offset [] (octet ∷ rest) above = (above, tt)
offsets_above low offset (packet ∷ packets) rest above = (above, offsets_above low (offset + length packet) packets rest (omega arith))

offsets_rise : (offset : ℕ) (packets : List (List ℕ)) (rest : List ℕ) → AllByRecursion IsPacket packets → AreRising (packet_offsets offset packets rest)
offsets_rise offset [] [] each = tt
offsets_rise offset [] (octet ∷ rest) each = (tt, tt)
offsets_rise offset (packet ∷ packets) rest each =
    let least = packet_least packet each.0 in
    (offsets_above offset (offset + length packet) packets rest (omega arith), offsets_rise (offset + length packet) packets rest each.1)

pub starts_rise : (first : Option ℕ) (field : List ℕ) → AreRising (starts_from first field)
starts_rise None field = tt
starts_rise (Some pointer) field =
    offsets_rise pointer (packets_of (drop pointer field)) (rest_of (drop pointer field)) (each_has_packets (drop pointer field)).each

pub field_starts_rise : (field : DataField) → AreRising (starts_of field)
field_starts_rise field = grind (arith, starts_rise)

-- ---- lists of lists

-- a function that keeps lists end to end also keeps them element by element
pub flat_map-pieces : {X A B : Type 0} (h : List A → List B) → h [] ≡ [] → ((xs ys : List A) → h (xs ++ ys) ≡ h xs ++ h ys)
    → (f : X → List A) (g : X → List B) → ((x : X) → h (f x) ≡ g x) → (xs : List X) → h (flat_map f xs) ≡ flat_map g xs
flat_map-pieces h none end_to_end f g each [] = none
flat_map-pieces h none end_to_end f g each (x ∷ xs) = grind (arith, flat_map-pieces h none end_to_end f g each xs)

-- ---- the starts of a data field

-- what is found at the octets after packets
abbrev pub at_rest : (List ℕ → List (List ℕ)) → List ℕ → List (List ℕ)
at_rest f [] = []
at_rest f (octet ∷ rest) = f (octet ∷ rest)

at_offsets : (f g : List ℕ → List (List ℕ)) → ((packet more : List ℕ) → IsPacket packet → f (packet ++ more) ≡ g packet)
    → (octets : List ℕ) (offset : ℕ) (packets : List (List ℕ)) (rest : List ℕ) → AllByRecursion IsPacket packets → drop offset octets ≡ concat packets ++ rest
    → flat_map (λ start. f (drop start octets)) (packet_offsets offset packets rest) ≡ flat_map g packets ++ at_rest f rest
at_offsets f g at_packet octets offset [] [] each parts = refl
at_offsets f g at_packet octets offset [] (octet ∷ rest) each parts = append-nil (f (drop offset octets)) ∙ ap f parts
at_offsets f g at_packet octets offset (packet ∷ packets) rest each parts =
    let later : drop offset octets ≡ packet ++ (concat packets ++ rest) = parts ∙ append_assoc packet (concat packets) rest in
    let behind : drop (offset + length packet) octets ≡ concat packets ++ rest =
    sym (drop-drop (length packet) offset octets) ∙ ap (drop (length packet)) later ∙ drop_at packet (concat packets ++ rest) (length packet) refl in
    ap₂ (λ xs ys. xs ++ ys) (ap f later ∙ at_packet packet (concat packets ++ rest) each.0)
    (at_offsets f g at_packet octets (offset + length packet) packets rest each.1 behind)
    ∙ sym (append_assoc (g packet) (flat_map g packets) (at_rest f rest))

pub at_starts : (f g : List ℕ → List (List ℕ)) → ((packet more : List ℕ) → IsPacket packet → f (packet ++ more) ≡ g packet) → (pointer : ℕ) (octets : List ℕ)
    → flat_map (λ start. f (drop start octets)) (starts_from (Some pointer) octets)
    ≡ flat_map g (packets_of (drop pointer octets)) ++ at_rest f (rest_of (drop pointer octets))
at_starts f g at_packet pointer octets = grind (arith, each_has_packets, at_offsets)

-- no packet is whole in the octets after packets
pub none_in_rest : (octets : List ℕ) (len : ℕ) → front_of (rest_of octets) ≡ WholePacket len → ⊥
none_in_rest octets len whole =
    (each_has_packets octets).no_more (take len (rest_of octets)) (drop len (rest_of octets)) (whole_is_a_packet (rest_of octets) len whole).0
    (sym (take-append-drop len (rest_of octets)))

-- ---- what is found at the packet starts of all frames

-- `at` is what is found at a packet start of the frame with this number, given the later frames, and `all` is what is
-- found in the frames from this number on
module _ {X : Type 0} (at : ℕ → TmView → List TmView → ℕ → List X) (all : ℕ → List TmView → List X) (none : (number : ℕ) → all number [] ≡ [])
    (more : (number : ℕ) (view : TmView) (later : List TmView) → all number (view ∷ later) ≡ flat_map (at number view later) (starts_of view.field) ++ all (number + 1) later) where
  found_in_frame : (P : X → Type 0) (number : ℕ) (view : TmView) (later : List TmView)
      → ((first : Option ℕ) (octets : List ℕ) (start : ℕ) → view.field ≡ Packets first octets → IsStart octets first start → AllByRecursion P (at number view later start))
      → (field : DataField) → view.field ≡ field → AllByRecursion P (flat_map (at number view later) (starts_of field))
  found_in_frame P number view later found (Packets first octets) is =
      each-flat_map P (at number view later) (starts_from first octets)
      (each-weaker (IsStart octets first) (λ start. AllByRecursion P (at number view later start)) (λ start s. found first octets start is s) (starts_from first octets) (each_is_start first octets))
  found_in_frame P number view later found Idle is = tt
  found_in_frame P number view later found Opaque is = tt

  -- a property of what is found at each packet start is one of all that is found
  pub each_found : (P : X → Type 0) (channel before later : List TmView) (number : ℕ)
      → ((before : List TmView) (view : TmView) (later : List TmView) (number : ℕ) (first : Option ℕ) (octets : List ℕ) (start : ℕ) → channel ≡ before ++ view ∷ later
      → number ≡ length before → view.field ≡ Packets first octets → IsStart octets first start → AllByRecursion P (at number view later start))
      → channel ≡ before ++ later → number ≡ length before → AllByRecursion P (all number later)
  each_found P channel before [] number found here counted = rw (none number) tt
  each_found P channel before (view ∷ later) number found here counted =
      subst (AllByRecursion P) (sym (more number view later))
      (each-append P (flat_map (at number view later) (starts_of view.field)) (all (number + 1) later)
      (found_in_frame P number view later (λ first octets start is s. found before view later number first octets start here counted is s) view.field refl)
      (each_found P channel (before ++ view ∷ []) later (number + 1) found (here ∙ sym (append_assoc before (view ∷ []) later)) (omega (arith, counted, length_push before view))))

  -- what is found at a packet start is found in the frames
  pub found_among : (x : X) (before : List TmView) (view : TmView) (later : List TmView) (number frame start : ℕ) (first : Option ℕ) (octets : List ℕ)
      → frame ≡ number + length before → view.field ≡ Packets first octets → IsStart octets first start → IsAmong x (at frame view later start)
      → IsAmong x (all number (before ++ view ∷ later))
  found_among x [] view later number frame start first octets counted is is_start there =
      let same : frame ≡ number = omega arith in
      subst (IsAmong x) (sym (more number view later))
      (among-left x (flat_map (at number view later) (starts_of view.field)) (all (number + 1) later)
      (among-flat_map x (at number view later) start (starts_of view.field) (rw is (is_among octets first start is_start)) (subst (λ n. IsAmong x (at n view later start)) same there)))
  found_among x (other ∷ before) view later number frame start first octets counted is is_start there =
      subst (IsAmong x) (sym (more number other (before ++ view ∷ later)))
      (among-right x (flat_map (at number other (before ++ view ∷ later)) (starts_of other.field)) (all (number + 1) (before ++ view ∷ later))
      (found_among x before view later (number + 1) frame start first octets (omega arith) is is_start there))

-- ---- frames in which no packet starts

pub no_starts : (view : TmView) (field : DataField) → HasNoStart view → view.field ≡ field → starts_of field ≡ []
no_starts view field none is = grind arith
