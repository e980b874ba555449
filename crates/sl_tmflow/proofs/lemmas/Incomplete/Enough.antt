-- The octets of a data field that decide what happens to an incomplete packet.
use Rattle.std.proofs.Common.{◌≡◌, ℕ, ◌+◌, ◌≤◌, List, ◌++◌, length, take, drop, Option, ◌∙◌, ap, arith, append-nil, append_assoc, length-append}
use Rattle.std.proofs.lemmas.Grind.{common_steps}
use Rattle.std.proofs.lemmas.List.{length-replicate, length-take-le, take-append-drop, take-append-le}
use Rattle.sl_packet.specs.Front.{Incomplete, WholePacket, front_of}
use Rattle.sl_packet.specs.Partial.{OctetsMakeAPacket, need_of}
use Rattle.sl_packet.specs.declared.partial.Need.TheVariants.{Octets}
use Rattle.sl_packet.proofs.FrontLemmas.{whole_is_a_packet, packet_is_whole, foreign_is_no_packet}
use Rattle.sl_tmflow.specs.Delivery.{front_continuation}
use Rattle.sl_tmflow.specs.Progress.{IsEnough}
use Rattle.sl_tmflow.proofs.lemmas.Incomplete.List.{stated_packet_len-most}
use Rattle.sl_tmflow.proofs.lemmas.Delivery.Step.{incomplete_before}

-- ---- octets that begin with something

-- octets that begin with a whole packet still do with more octets after them
whole_stays : (octets more : List ℕ) (len : ℕ) → front_of octets ≡ WholePacket len → front_of (octets ++ more) ≡ WholePacket len
whole_stays octets more len whole = grind (arith, common_steps, whole_is_a_packet, append_assoc, take-append-drop, packet_is_whole, length-take-le)

-- where a packet is whole, the octets after it don't matter
packet_same : (first : Option ℕ) (before : ℕ) (field a b : List ℕ) (len : ℕ) → take len a ≡ take len b
    → front_continuation first before field a (WholePacket len) ≡ front_continuation first before field b (WholePacket len)
packet_same first before field a b len same = grind arith

-- octets that aren't incomplete decide the continuation, whatever follows
told : (first : Option ℕ) (before : ℕ) (field octets more : List ℕ) → (front_of octets ≡ Incomplete → ⊥)
    → front_continuation first before field octets (front_of octets) ≡ front_continuation first before field (octets ++ more) (front_of (octets ++ more))
told first before field octets more begun = grind (arith, common_steps, whole_is_a_packet, packet_same, take-append-le, whole_stays, incomplete_before, foreign_is_no_packet, take-append-drop)

-- ---- octets of a data field

-- the first octets are enough if with them the packet is no longer incomplete
pub some_is_enough : (held field : List ℕ) (n : ℕ) → (front_of (held ++ take n field) ≡ Incomplete → ⊥) → length held + length (take n field) ≤ 65542
    → IsEnough held field (take n field)
some_is_enough held field n begun fits = record {
  continuation = λ first.
      told first (length held) field (held ++ take n field) (drop n field) begun
      ∙ ap (λ l. front_continuation first (length held) field l (front_of l)) (append_assoc held (take n field) (drop n field) ∙ ap (λ l. held ++ l) (take-append-drop n field));
  all = λ incomplete. absurd (begun incomplete);
  fits = fits;
}

-- with the octets that it needs, a packet is no longer incomplete
pub wanted_complete : OctetsMakeAPacket → (held more : List ℕ) (n : ℕ) → need_of held ≡ Octets n → length more ≡ n → front_of (held ++ more) ≡ Incomplete → ⊥
wanted_complete law held more n wants long incomplete = grind (arith, common_steps, append-nil, packet_is_whole)

-- with the octets that it needs, a packet is no longer than the longest packet
pub wanted_fits : OctetsMakeAPacket → (held : List ℕ) (n : ℕ) → need_of held ≡ Octets n → length held + n ≤ 65542
wanted_fits law held n wants = grind (arith, length-replicate, stated_packet_len-most, length-append)
