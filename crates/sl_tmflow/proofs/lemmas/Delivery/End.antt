-- Packets in the order of their starts are in the order of their ends, and no two share an octet.
use Rattle.std.proofs.Common.{◌≡◌, ℕ, ◌+◌, ◌-◌, ◌<◌, ◌≤◌, nat_lt, Bool, if◌then◌else◌, List, [], ◌∷◌, ◌++◌, length, take, drop, map, Option, None, Some, inl, inr, refl, sym, ◌∙◌, ap, subst, arith, length-append, length-drop, append-nil, append_assoc}
use Rattle.std.proofs.lemmas.Grind.{common_steps}
use Rattle.std.proofs.lemmas.Bool.{cases_lt}
use Rattle.std.proofs.lemmas.List.{append_cancel_left, length_push, take-append-drop, take-append-le, take_at, nil_from_length}
use Rattle.std.specs.List.{AllByRecursion, concat}
use Rattle.sl_packet.specs.Packet.{IsPacket}
use Rattle.sl_packet.specs.Front.{Incomplete, WholePacket, front_of}
use Rattle.sl_packet.specs.Packets.{packets_of, rest_of}
use Rattle.sl_packet.proofs.PacketLemmas.{one_packet}
use Rattle.sl_packet.proofs.PacketsLemmas.{rest_of-concat, rest_of-none}
use Rattle.sl_tmframe.specs.TmFrame.{TmView, DataField, Packets}
use Rattle.sl_tmflow.specs.VirtualChannel.{data_of, packet_data, reassembly}
use Rattle.sl_tmflow.specs.PacketStart.{IsStart}
use Rattle.sl_tmflow.specs.Delivery.{IsDeliveredBy, Delivery, IsDelivery, EndsAreInOrder, EachEndsByTheNextStart, start_offset, NoneOverlap}
use Rattle.sl_tmflow.specs.Incomplete.{HasNoStart}
use Rattle.sl_tmflow.proofs.lemmas.Places.{same_place}
use Rattle.sl_tmflow.proofs.lemmas.Delivery.Listed.{from_frame}
use Rattle.sl_tmflow.proofs.lemmas.Incomplete.After.{reassembly-append, reassembly-push}
use Rattle.sl_tmflow.proofs.lemmas.Delivery.Outcome.{delivered_tail, incomplete_before_more, delivered_goes_on}
use Rattle.std.proofs.lemmas.Option.{same_Some}

-- ---- lists that begin alike

-- of two prefixes of a list, the longer one begins with the other
pub longer_begins : {X : Type 0} (xs zs ys ws : List X) → ys ++ ws ≡ xs ++ zs → length xs ≤ length ys → (more : List X) × (ys ≡ xs ++ more) × (zs ≡ more ++ ws)
longer_begins xs zs ys ws same fewer =
    let n = length xs in
    let first : take n ys ≡ xs = sym (take-append-le n ys ws fewer) ∙ ap (take n) same ∙ take_at xs zs n refl in
    let split : ys ≡ xs ++ drop n ys = sym (take-append-drop n ys) ∙ ap (λ l. l ++ drop n ys) first in (
      drop n ys,
      split,
      append_cancel_left xs zs (drop n ys ++ ws) (sym same ∙ ap (λ l. l ++ ws) split ∙ append_assoc xs (drop n ys) ws),
    )

-- ---- in one frame

-- the octets that packets leave are the same from a packet start on as from the pointer on
rest_from_start : (octets : List ℕ) (first : Option ℕ) (start : ℕ) (is_start : IsStart octets first start)
    → rest_of (drop is_start.pointer octets) ≡ rest_of (drop start octets)
rest_from_start octets first start is_start = ap rest_of is_start.end_to_end ∙ rest_of-concat is_start.before (drop start octets) is_start.packets

rest_within : (octets : List ℕ) → length (rest_of octets) ≤ length octets
rest_within octets = omega (arith, length-drop (length (concat (packets_of octets))) octets)

-- a packet is whole where another packet starts later in the field
pub not_last_is_whole : (octets : List ℕ) (first : Option ℕ) (start later : ℕ)
    → IsStart octets first start → IsStart octets first later → start < later → front_of (drop start octets) ≡ Incomplete → ⊥
not_last_is_whole octets first start later is_start is_later less incomplete =
    let none = λ (len : ℕ) (whole : front_of (drop start octets) ≡ WholePacket len). let both : Incomplete ≡ WholePacket len = sym incomplete ∙ whole in absurd (cc) in
    let pointers : is_start.pointer ≡ is_later.pointer = same_Some is_start.pointer is_later.pointer (sym is_start.pointed ∙ is_later.pointed) in
    let all : drop start octets ≡ rest_of (drop later octets) =
    sym (rest_of-none (drop start octets) none) ∙ sym (rest_from_start octets first start is_start)
    ∙ ap (λ p. rest_of (drop p octets)) pointers ∙ rest_from_start octets first later is_later in
    let inside = is_later.inside in
    omega (arith, ap length all, rest_within (drop later octets), length-drop start octets, length-drop later octets)

-- a packet with another start later in its data field is delivered in its own frame
ends_in_its_frame : (view : TmView) (octets : List ℕ) (first : Option ℕ) (start later : ℕ) (run : List TmView) (packet : List ℕ) → IsStart octets first start
    → IsStart octets first later → start < later → IsDeliveredBy view (drop start octets) run packet → length run ≡ 0
ends_in_its_frame view octets first start later [] packet is_start is_later less delivered = refl
ends_in_its_frame view octets first start later (next ∷ run) packet is_start is_later less delivered =
    absurd (not_last_is_whole octets first start later is_start is_later less (incomplete_before_more view (drop start octets) next run packet delivered))

-- ---- in later frames

-- no packet starts in a frame before the last one of a run
no_start_before_last : (view : TmView) (octets : List ℕ) (earlier : List TmView) (next second : TmView) (run : List TmView) (packet : List ℕ)
    → IsDeliveredBy view octets (earlier ++ next ∷ second ∷ run) packet → HasNoStart next
no_start_before_last view octets [] next second run packet delivered = (delivered_goes_on view octets next second run packet delivered).no_start
no_start_before_last view octets (v ∷ earlier) next second run packet delivered = grind (arith, delivered_tail, no_start_before_last v (octets ++ packet_data v) earlier next second run packet (delivered_tail view octets v (earlier ++ next ∷ second ∷ run) packet delivered))

-- ---- of two deliveries

pub same_field : (data_field : DataField) (first : Option ℕ) (octets : List ℕ) (first' : Option ℕ) (octets' : List ℕ)
    → data_field ≡ Packets first octets → data_field ≡ Packets first' octets' → (first' ≡ first) × (octets' ≡ octets)
same_field data_field first octets first' octets' is is' = let same : Packets first octets ≡ Packets first' octets' = sym is ∙ is' in (cc, cc)

-- the start of another packet in the same frame is one of the same data field
start_in_frame : (channel : List TmView) (d e : Delivery) (is_d : IsDelivery channel d) → IsDelivery channel e → d.frame ≡ e.frame
    → IsStart is_d.octets is_d.first e.start
start_in_frame channel d e is_d is_e same = grind (arith, common_steps, same_place, from_frame, same_field)

in_one_frame : (channel : List TmView) (d e : Delivery)
    → IsDelivery channel d → IsDelivery channel e → d.frame ≡ e.frame → d.start < e.start → d.ending ≤ e.frame
in_one_frame channel d e is_d is_e same less =
    let start = start_in_frame channel d e is_d is_e same in
    let here = ends_in_its_frame is_d.view is_d.octets is_d.first d.start e.start is_d.run d.packet is_d.start start less is_d.delivered in
    omega (arith, is_d.ending)

-- a frame within the run of a delivery and before its last one
within_run : (view : TmView) (octets : List ℕ) (run after : List TmView) (packet : List ℕ) (earlier : List TmView) (next : TmView) (later : List TmView)
    → IsDeliveredBy view octets run packet → run ++ after ≡ earlier ++ next ∷ later → length earlier + 1 < length run → HasNoStart next
within_run view octets run after packet earlier next later delivered same before =
    let (more, is, rest) = longer_begins (earlier ++ next ∷ []) later run after
    (same ∙ sym (append_assoc earlier (next ∷ []) later)) (omega (arith, length_push earlier next)) in
    let run_is : run ≡ earlier ++ next ∷ more = is ∙ append_assoc earlier (next ∷ []) more in
    cases more (omega (arith, ap length is, length_push earlier next, length-append (earlier ++ next ∷ []) more))
    (subst (λ r. IsDeliveredBy view octets r packet) run_is delivered)
  where
    cases : (more : List TmView) → 0 < length more → IsDeliveredBy view octets (earlier ++ next ∷ more) packet → HasNoStart next
    cases [] some delivered = absurd (omega arith)
    cases (second ∷ more) some delivered = no_start_before_last view octets earlier next second more packet delivered

-- the frames between the starts of two packets
frames_between : (channel : List TmView) (d e : Delivery) (is_d : IsDelivery channel d) (is_e : IsDelivery channel e) → d.frame < e.frame
    → (earlier : List TmView) × (is_e.before ≡ (is_d.before ++ is_d.view ∷ []) ++ earlier) × (is_d.run ++ is_d.after ≡ earlier ++ is_e.view ∷ (is_e.run ++ is_e.after))
frames_between channel d e is_d is_e less =
    longer_begins (is_d.before ++ is_d.view ∷ []) (is_d.run ++ is_d.after) is_e.before (is_e.view ∷ (is_e.run ++ is_e.after))
    (sym (from_frame channel e is_e) ∙ from_frame channel d is_d ∙ sym (append_assoc is_d.before (is_d.view ∷ []) (is_d.run ++ is_d.after)))
    (omega (arith, is_d.frame, is_e.frame, length_push is_d.before is_d.view))

-- a packet never ends after a later frame in which another one starts
ended_by_then : (channel : List TmView) (d e : Delivery) → IsDelivery channel d → IsDelivery channel e → d.frame < e.frame → e.frame < d.ending → ⊥
ended_by_then channel d e is_d is_e less over =
    let (earlier, is, rest) = frames_between channel d e is_d is_e less in
    let none : is_e.first ≡ None = within_run is_d.view (drop d.start is_d.octets) is_d.run is_d.after d.packet earlier is_e.view (is_e.run ++ is_e.after) is_d.delivered rest
    (omega (arith, is_d.frame, is_e.frame, is_d.ending, ap length is, length_push is_d.before is_d.view, length-append (is_d.before ++ is_d.view ∷ []) earlier))
    is_e.first is_e.octets is_e.field in
    let both : Some is_e.start.pointer ≡ None = sym is_e.start.pointed ∙ none in
    cc

in_later_frame : (channel : List TmView) (d e : Delivery) → IsDelivery channel d → IsDelivery channel e → d.frame < e.frame → d.ending ≤ e.frame
in_later_frame channel d e is_d is_e less =
    elim (cases_lt e.frame d.ending) [
      | inl over ↦ absurd (ended_by_then channel d e is_d is_e less over)
      | inr by_then ↦ by_then
    ]

pub each_ends_by_the_next_start : EachEndsByTheNextStart
each_ends_by_the_next_start channel d e is_d is_e (inl less) = in_later_frame channel d e is_d is_e less
each_ends_by_the_next_start channel d e is_d is_e (inr same) = in_one_frame channel d e is_d is_e same.0 same.1

pub ends_are_in_order : EndsAreInOrder
ends_are_in_order channel d e is_d is_e before = omega (arith, each_ends_by_the_next_start channel d e is_d is_e before, is_e.ending)

-- ---- places

-- among packets that lie end to end, a packet that starts before another start ends before it, or at it
ends_by_offset : (before others : List (List ℕ)) (packet more rest : List ℕ) → AllByRecursion IsPacket before → AllByRecursion IsPacket others → IsPacket packet
    → concat before ++ (packet ++ more) ≡ concat others ++ rest → length (concat before) < length (concat others)
    → length (concat before) + length packet ≤ length (concat others)
ends_by_offset before [] packet more rest done each is_packet same less = absurd (omega arith)
ends_by_offset [] (other ∷ others) packet more rest done each is_packet same less =
    let is : packet ≡ other = one_packet packet other more (concat others ++ rest) is_packet each.0 (same ∙ append_assoc other (concat others) rest) in
    omega (arith, ap length is, length-append other (concat others))
ends_by_offset (first ∷ before) (other ∷ others) packet more rest done each is_packet same less =
    let left = concat before ++ (packet ++ more) in
    let right = concat others ++ rest in
    let split : first ++ left ≡ other ++ right = sym (append_assoc first (concat before) (packet ++ more)) ∙ same ∙ append_assoc other (concat others) rest in
    let is : first ≡ other = one_packet first other left right done.0 each.0 split in
    let next : left ≡ right = append_cancel_left first left right (split ∙ ap (λ l. l ++ right) (sym is)) in
    let long : length first ≡ length other = ap length is in
    let first_long = length-append first (concat before) in
    let other_long = length-append other (concat others) in
    let later = ends_by_offset before others packet more rest done.1 each.1 is_packet next (omega arith) in
    omega arith

ends_by_start : (octets : List ℕ) (first : Option ℕ) (start later : ℕ) (packet more : List ℕ) → IsStart octets first start → IsStart octets first later → start < later
    → IsPacket packet → packet ++ more ≡ drop start octets → start + length packet ≤ later
ends_by_start octets first start later packet more is_start is_later less is_packet begins = grind (arith, same_Some, ends_by_offset)

-- the octets of a packet that is delivered in its own frame
begins_in_frame : (view : TmView) (octets : List ℕ) (run : List TmView) (packet : List ℕ) (delivered : IsDeliveredBy view octets run packet) → length run ≡ 0
    → packet ++ delivered.ends.0 ≡ octets
begins_in_frame view octets run packet delivered none = grind (arith, nil_from_length, append-nil)

apart_in_one_frame : (channel : List TmView) (d e : Delivery) → IsDelivery channel d → IsDelivery channel e → d.frame ≡ e.frame → d.start < e.start
    → start_offset channel d + length d.packet ≤ start_offset channel e
apart_in_one_frame channel d e is_d is_e same less =
    let start = start_in_frame channel d e is_d is_e same in
    let here = ends_in_its_frame is_d.view is_d.octets is_d.first d.start e.start is_d.run d.packet is_d.start start less is_d.delivered in
    let past = ends_by_start is_d.octets is_d.first d.start e.start d.packet is_d.delivered.ends.0 is_d.start start less is_d.delivered.is_packet
    (begins_in_frame is_d.view (drop d.start is_d.octets) is_d.run d.packet is_d.delivered here) in
    omega (arith, past, ap (λ n. length (reassembly [] (take n channel))) same)

-- the offset of a delivery's start, by the frames before it
offset_is : (channel : List TmView) (d : Delivery) (is_d : IsDelivery channel d) → start_offset channel d ≡ length (reassembly [] is_d.before) + d.start
offset_is channel d is_d = grind (arith, common_steps, from_frame, take_at)

agreeing_some : (ends : Bool) (place pointer : ℕ) → (if ends then Some place else None) ≡ Some pointer → place ≡ pointer
agreeing_some ends place pointer found = grind (arith, same_Some)

-- a packet ends before the pointer of a frame after its start, or at it
ends_by_pointer : (view : TmView) (octets : List ℕ) (run after : List TmView) (packet : List ℕ) (earlier : List TmView) (next : TmView) (later : List TmView)
    (pointer : ℕ) (field : List ℕ) → IsDeliveredBy view octets run packet → run ++ after ≡ earlier ++ next ∷ later
    → next.field ≡ Packets (Some pointer) field → length packet ≤ length (reassembly octets earlier) + pointer
ends_by_pointer view octets run after packet earlier next later pointer field delivered same is =
    elim (cases_lt (length earlier) (length run)) [
      | inl inside ↦
          let (more, longer, rest) = longer_begins (earlier ++ next ∷ []) later run after
          (same ∙ sym (append_assoc earlier (next ∷ []) later)) (omega (arith, length_push earlier next)) in
          let agreed = delivered.agreed earlier next more (Some pointer) field (longer ∙ append_assoc earlier (next ∷ []) more) is in
          let before = length (reassembly octets earlier) in
          let place = agreeing_some (nat_lt (length packet) (before + length field)) (length packet - before) pointer (sym agreed) in
          omega (arith, place)
      | inr beyond ↦
          let (more, longer, rest) = longer_begins run after earlier (next ∷ later) (sym same) beyond in
          let all : length (reassembly octets earlier) ≡ length (reassembly octets run) + length (concat (map packet_data more)) =
          ap (λ l. length (reassembly octets l)) longer ∙ ap length (reassembly-append octets run more) ∙ length-append (reassembly octets run) (concat (map packet_data more)) in
          omega (arith, all, ap length delivered.ends.1, length-append packet delivered.ends.0)
    ]

apart_in_later_frame : (channel : List TmView) (d e : Delivery) → IsDelivery channel d → IsDelivery channel e → d.frame < e.frame
    → start_offset channel d + length d.packet ≤ start_offset channel e
apart_in_later_frame channel d e is_d is_e less =
    let (earlier, is, rest) = frames_between channel d e is_d is_e less in
    let carried : length (packet_data is_d.view) ≡ length is_d.octets = ap (λ f. length (data_of f)) is_d.field in
    let so_far = length (concat (map packet_data earlier)) in
    let before : length (reassembly [] is_e.before) ≡ length (reassembly [] is_d.before) + length (packet_data is_d.view) + so_far =
    ap (λ l. length (reassembly [] l)) is ∙ ap length (reassembly-append [] (is_d.before ++ is_d.view ∷ []) earlier)
    ∙ length-append (reassembly [] (is_d.before ++ is_d.view ∷ [])) (concat (map packet_data earlier))
    ∙ ap (λ l. length l + so_far) (reassembly-push [] is_d.before is_d.view)
    ∙ ap (λ n. n + so_far) (length-append (reassembly [] is_d.before) (packet_data is_d.view)) in
    let pointed : is_e.view.field ≡ Packets (Some is_e.start.pointer) is_e.octets = is_e.field ∙ ap (λ f. Packets f is_e.octets) is_e.start.pointed in
    let past = ends_by_pointer is_d.view (drop d.start is_d.octets) is_d.run is_d.after d.packet earlier is_e.view (is_e.run ++ is_e.after) is_e.start.pointer is_e.octets is_d.delivered rest pointed in
    let long = length-append (drop d.start is_d.octets) (concat (map packet_data earlier)) in
    let inside = is_d.start.inside in
    let here = is_e.start.here in
    let dropped = length-drop d.start is_d.octets in
    let from = offset_is channel d is_d in
    let to = offset_is channel e is_e in
    omega arith

pub none_overlap : NoneOverlap
none_overlap channel d e is_d is_e before = grind (arith, apart_in_later_frame, apart_in_one_frame)
