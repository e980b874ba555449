-- The loop that hands packets over.
use Rattle.std.proofs.Common.{◌≡◌, ℕ, ◌+◌, ◌-◌, ◌≤◌, true, false, not, cond, List, [], ◌∷◌, ◌++◌, length, take, drop, Some, None, refl, sym, ◌∙◌, ap, subst, arith, length-append, length-drop, append-nil, append_assoc}
use Rattle.std.proofs.lemmas.List.Elements.{filter-append}
use Rattle.std.proofs.lemmas.List.{length-take-le, take-append-drop, take_rest}
use Rattle.sl_packet.specs.Packet.{IsPacket, is_idle_packet}
use Rattle.sl_packet.specs.Front.{Front, OtherVersion, Incomplete, WholePacket, front_of, packet_at, first_packet_of}
use Rattle.sl_packet.specs.Packets.{packets_of, rest_of, without_idle, only_idle}
use Rattle.sl_packet.specs.Sink.{TakesAll}
use Rattle.sl_packet.proofs.PacketLemmas.{packet_least}
use Rattle.sl_packet.proofs.FrontLemmas.{whole_is_a_packet, whole_front}
use Rattle.sl_packet.proofs.PacketsLemmas.{packets_of-whole, rest_of-whole, packets_of-none, rest_of-none}

-- the packet that is found at the front
pub record IsFirst (octets packet : List ℕ) : Type 0 where
  pub is : IsPacket packet
  pub packets : packets_of octets ≡ packet ∷ packets_of (drop (length packet) octets)
  pub rest : rest_of octets ≡ rest_of (drop (length packet) octets)
  pub inside : length packet ≤ length octets
  pub split : octets ≡ packet ++ drop (length packet) octets

first_at : (f : Front) (octets packet : List ℕ) → f ≡ front_of octets → packet_at f octets ≡ Some packet → (len : ℕ) × (front_of octets ≡ WholePacket len) × (packet ≡ take len octets)
first_at OtherVersion octets packet e h = absurd (cc)
first_at Incomplete octets packet e h = absurd (cc)
first_at (WholePacket len) octets packet e h = (len, sym e, (cc))

pub is_first : (octets packet : List ℕ) → first_packet_of octets ≡ Some packet → IsFirst octets packet
is_first octets packet h =
    let (len, whole, same) = first_at (front_of octets) octets packet refl h in
    let front_is = whole_front octets len whole in
    let long : length packet ≡ len = ap length same ∙ length-take-le len octets front_is.inside in
    let inside = front_is.inside in
    record {
      is = let P : List ℕ → Type 0 = IsPacket in subst P (sym same) (whole_is_a_packet octets len whole).0;
      packets = packets_of-whole octets len whole ∙ ap (λ xs. xs ∷ packets_of (drop len octets)) (sym same) ∙ ap (λ n. packet ∷ packets_of (drop n octets)) (sym long);
      rest = rest_of-whole octets len whole ∙ ap (λ n. rest_of (drop n octets)) (sym long);
      inside = omega arith;
      split = sym (take-append-drop len octets) ∙ ap (λ xs. xs ++ drop len octets) (sym same) ∙ ap (λ n. packet ++ drop n octets) (sym long);
    }

none_at_front : (f : Front) (octets : List ℕ) → packet_at f octets ≡ None → (len : ℕ) → f ≡ WholePacket len → ⊥
none_at_front OtherVersion octets h len e = cc
none_at_front Incomplete octets h len e = cc
none_at_front (WholePacket n) octets h len e = cc

pub none_first : (octets : List ℕ) → first_packet_of octets ≡ None → packets_of octets ≡ []
none_first octets h = packets_of-none octets (none_at_front (front_of octets) octets h)

pub rest_first : (octets : List ℕ) → first_packet_of octets ≡ None → rest_of octets ≡ octets
rest_first octets h = rest_of-none octets (none_at_front (front_of octets) octets h)

-- ---- the packets to deliver, and the idle ones

without_idle-idle : (done : List (List ℕ)) (packet : List ℕ) → is_idle_packet packet ≡ true → without_idle (done ++ packet ∷ []) ≡ without_idle done
without_idle-idle done packet h =
    filter-append (λ p. not (is_idle_packet p)) done (packet ∷ []) ∙ ap (λ b. without_idle done ++ cond (not b) (packet ∷ []) []) h ∙ append-nil (without_idle done)

without_idle-due : (done : List (List ℕ)) (packet : List ℕ) (later : List (List ℕ)) → is_idle_packet packet ≡ false → without_idle (done ++ packet ∷ later) ≡ without_idle done ++ packet ∷ without_idle later
without_idle-due done packet later h =
    filter-append (λ p. not (is_idle_packet p)) done (packet ∷ later) ∙ ap (λ b. without_idle done ++ cond (not b) (packet ∷ without_idle later) (without_idle later)) h

only_idle-idle : (done : List (List ℕ)) (packet : List ℕ) → is_idle_packet packet ≡ true → only_idle (done ++ packet ∷ []) ≡ only_idle done ++ packet ∷ []
only_idle-idle done packet h = filter-append is_idle_packet done (packet ∷ []) ∙ ap (λ b. only_idle done ++ cond b (packet ∷ []) []) h

only_idle-due : (done : List (List ℕ)) (packet : List ℕ) → is_idle_packet packet ≡ false → only_idle (done ++ packet ∷ []) ≡ only_idle done
only_idle-due done packet h = filter-append is_idle_packet done (packet ∷ []) ∙ ap (λ b. only_idle done ++ cond b (packet ∷ []) []) h ∙ append-nil (only_idle done)

-- ---- the steps

module _ {S : Type 0} (taking : S → ℕ → List ℕ → S → Type 0) where
  pub TakesAll-push : (packets : List (List ℕ)) (old mid new : S) (channel : ℕ) (packet : List ℕ) → TakesAll taking old channel packets mid → taking mid channel packet new → TakesAll taking old channel (packets ++ packet ∷ []) new
  TakesAll-push [] old mid new channel packet all one =
      let P : S → Type 0 = λ s. taking s channel packet new in
      (new, subst P all one, refl)
  TakesAll-push (p ∷ packets) old mid new channel packet all one = (all.0, all.1, TakesAll-push packets all.0 mid new channel packet all.2 one)

  -- the first packets of the octets are handed over, and the octets `left` are left
  pub record HasHanded (failures : S → ℕ) (old : S) (channel : ℕ) (octets left : List ℕ) (new : S) (packets idle : ℕ) : Type 0 where
    pub done : List (List ℕ)
    pub in_order : packets_of octets ≡ done ++ packets_of left
    pub rest : rest_of octets ≡ rest_of left
    pub takes : TakesAll taking old channel (without_idle done) new
    pub kept : failures new ≡ failures old
    pub due_count : packets ≡ length (without_idle done)
    pub idle_count : idle ≡ length (only_idle done)
    pub room : packets + idle + length left ≤ length octets

  -- all packets of the octets are handed over
  pub record HasHandedAll (old : S) (channel : ℕ) (octets left : List ℕ) (new : S) (due_count idle_count : ℕ) : Type 0 where
    pub accepted : TakesAll taking old channel (without_idle (packets_of octets)) new
    pub packets : due_count ≡ length (without_idle (packets_of octets))
    pub idle : idle_count ≡ length (only_idle (packets_of octets))
    pub rest : left ≡ rest_of octets

  module _ (failures : S → ℕ) (old : S) (channel : ℕ) (octets : List ℕ) where
    -- the same, with the octets that the code has left, and with equal counts
    pub handed_at : (left joined : List ℕ) (n : ℕ) (new last : S) (packets packets' idle idle' : ℕ) → joined ≡ left → last ≡ new → packets' ≡ packets → idle' ≡ idle → HasHanded failures old channel octets (drop n left) new packets idle → HasHanded failures old channel octets (take (length joined - n) (drop n joined)) last packets' idle'
    handed_at left joined n new last packets packets' idle idle' same_left same_sink same_packets same_idle handed =
        rw (same_left, same_sink, same_packets, same_idle, take_rest left n) handed

    module _ (left : List ℕ) (mid : S) (packets idle : ℕ) (handed : HasHanded failures old channel octets left mid packets idle) where
      next_in_order : (packet : List ℕ) → IsFirst left packet → packets_of octets ≡ (handed.done ++ packet ∷ []) ++ packets_of (drop (length packet) left)
      next_in_order packet first =
          handed.in_order ∙ ap (λ xs. handed.done ++ xs) first.packets
          ∙ sym (append_assoc handed.done (packet ∷ []) (packets_of (drop (length packet) left)))

      pub handed_idle : (packet : List ℕ) → first_packet_of left ≡ Some packet → is_idle_packet packet ≡ true → HasHanded failures old channel octets (drop (length packet) left) mid packets (idle + 1)
      handed_idle packet h is_idle =
          let first = is_first left packet h in
          let inside = first.inside in
          let least = packet_least packet first.is in
          let room = handed.room in
          let count = handed.idle_count in
          let P : List (List ℕ) → Type 0 = λ due. TakesAll taking old channel due mid in
          record {
            done = handed.done ++ packet ∷ [];
            in_order = next_in_order packet first;
            rest = handed.rest ∙ first.rest;
            takes = subst P (sym (without_idle-idle handed.done packet is_idle)) handed.takes;
            kept = handed.kept;
            due_count = handed.due_count ∙ ap length (sym (without_idle-idle handed.done packet is_idle));
            idle_count = omega (arith, ap length (only_idle-idle handed.done packet is_idle), length-append (only_idle handed.done) (packet ∷ []));
            room = omega (arith, length-drop (length packet) left);
          }

      pub handed_due : (packet : List ℕ) (new : S) → first_packet_of left ≡ Some packet → is_idle_packet packet ≡ false → taking mid channel packet new → failures new ≡ failures mid → HasHanded failures old channel octets (drop (length packet) left) new (packets + 1) idle
      handed_due packet new h is_due took same =
          let first = is_first left packet h in
          let inside = first.inside in
          let least = packet_least packet first.is in
          let room = handed.room in
          let count = handed.due_count in
          let P : List (List ℕ) → Type 0 = λ due. TakesAll taking old channel due new in
          record {
            done = handed.done ++ packet ∷ [];
            in_order = next_in_order packet first;
            rest = handed.rest ∙ first.rest;
            takes = subst P (sym (without_idle-due handed.done packet [] is_due)) (TakesAll-push (without_idle handed.done) old mid new channel packet handed.takes took);
            kept = same ∙ handed.kept;
            due_count = omega (arith, ap length (without_idle-due handed.done packet [] is_due), length-append (without_idle handed.done) (packet ∷ []));
            idle_count = handed.idle_count ∙ ap length (sym (only_idle-due handed.done packet is_due));
            room = omega (arith, length-drop (length packet) left);
          }

      -- where no packet is left, all packets are handed over
      pub handed_all : first_packet_of left ≡ None → HasHandedAll old channel octets left mid packets idle
      handed_all h =
          let none = none_at_front (front_of left) left h in
          let all = handed.in_order ∙ ap (λ xs. handed.done ++ xs) (packets_of-none left none) ∙ append-nil handed.done in
          let P : List (List ℕ) → Type 0 = λ packets. TakesAll taking old channel (without_idle packets) mid in
          record {
            accepted = subst P (sym all) handed.takes;
            packets = handed.due_count ∙ ap (λ xs. length (without_idle xs)) (sym all);
            idle = handed.idle_count ∙ ap (λ xs. length (only_idle xs)) (sym all);
            rest = sym (handed.rest ∙ rest_of-none left none);
          }

-- ---- counts alone, of a sink that accepts each packet

abbrev pub accepts : ℕ → ℕ → List ℕ → ℕ → Type 0
accepts old channel packet new = old ≡ old

-- the first packets of the octets are counted, and the octets `left` are left
pub record HasCounted (octets left : List ℕ) (packets idle : ℕ) : Type 0 where
  pub handed : HasHanded accepts (λ sink. 0) 0 0 octets left 0 packets idle

pub counted_none : (octets : List ℕ) → HasCounted octets octets 0 0
counted_none octets =
    record {
      handed = record {
        done = [];
        in_order = refl;
        rest = refl;
        takes = refl;
        kept = refl;
        due_count = refl;
        idle_count = refl;
        room = omega arith;
      };
    }

pub counted_room : {octets left : List ℕ} {packets idle : ℕ} → HasCounted octets left packets idle → packets + idle + length left ≤ length octets
counted_room counted = counted.handed.room

module _ (octets left : List ℕ) (packets idle : ℕ) (counted : HasCounted octets left packets idle) (packet : List ℕ) (first : first_packet_of left ≡ Some packet) where
  pub counted_idle : (joined : List ℕ) → joined ≡ left → is_idle_packet packet ≡ true
      → HasCounted octets (take (length joined - length packet) (drop (length packet) joined)) packets (idle + 1)
  counted_idle joined same is_idle =
      record {
        handed = handed_at accepts (λ sink. 0) 0 0 octets left joined (length packet) 0 0 packets packets (idle + 1) (idle + 1) same refl refl refl
            (handed_idle accepts (λ sink. 0) 0 0 octets left 0 packets idle counted.handed packet first is_idle);
      }

  pub counted_due : (joined : List ℕ) → joined ≡ left → is_idle_packet packet ≡ false
      → HasCounted octets (take (length joined - length packet) (drop (length packet) joined)) (packets + 1) idle
  counted_due joined same is_due =
      record {
        handed = handed_at accepts (λ sink. 0) 0 0 octets left joined (length packet) 0 0 (packets + 1) (packets + 1) idle idle same refl refl refl
            (handed_due accepts (λ sink. 0) 0 0 octets left 0 packets idle counted.handed packet 0 first is_due refl refl);
      }

pub counted_all : (octets left : List ℕ) (packets idle : ℕ) → HasCounted octets left packets idle → first_packet_of left ≡ None
    → HasHandedAll accepts 0 0 octets left 0 packets idle
counted_all octets left packets idle counted none = handed_all accepts (λ sink. 0) 0 0 octets left 0 packets idle counted.handed none
