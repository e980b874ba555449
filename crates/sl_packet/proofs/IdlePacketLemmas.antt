-- The idle packet of a given length is an idle packet of this length.
use Rattle.std.proofs.Common.{◌≡◌, ℕ, ◌+◌, ◌-◌, ◌<◌, ◌≤◌, ◌==◌, nat_lt, true, false, length, take, replicate, refl, sym, ◌∙◌, ap, arith, length-append}
use Rattle.std.proofs.lemmas.Bool.{and_from, lt-ltb, eq-eqb}
use Rattle.std.proofs.lemmas.List.{length-replicate, take_at}
use Rattle.std.proofs.lemmas.List.Elements.{All-append, All-replicate}
use Rattle.byteorder.specs.Numbers.{length-bytes_high_first}
use Rattle.sl_fields.specs.Field.{IsOctets, packed}
use Rattle.sl_fields.specs.PacketHeader.{PacketFields, FitsPacketHeader, packet_fields, packet_header, packet_octets}
use Rattle.sl_fields.proofs.HeaderLayout.{reads_back}
use Rattle.sl_fields.proofs.Octets.{octets-bytes}
use Rattle.sl_fields.proofs.PacketHeaderLemmas.{packet_layout}
use Rattle.sl_fields.proofs.Packing.{packed_lt}
use Rattle.sl_packet.specs.IdlePacket.{idle_packet}
use Rattle.sl_packet.specs.Packet.{apid_of, is_idle_packet, IsPacket}
use Rattle.sl_packet.proofs.PacketLemmas.{header_fields}

-- the idle packet's header, which reads back
abbrev idle_header : ℕ → PacketFields
idle_header len =
    record {
      version = 0;
      kind = 0;
      secondary = false;
      apid = 2047;
      flags = 3;
      count = 0;
      length = len - 7;
    }

idle_header_fits : (n : ℕ) → n ≤ 65542 → FitsPacketHeader (idle_header n)
idle_header_fits n most = record {
  version = omega arith;
  kind = omega arith;
  apid = omega arith;
  flags = omega arith;
  count = omega arith;
  length = omega arith;
}

packet_header-idle : (n : ℕ) → n ≤ 65542 → packet_header (packet_octets (idle_header n)) ≡ idle_header n
packet_header-idle n most =
    let fits = idle_header_fits n most in
    reads_back packet_layout (idle_header n) (packed (packet_fields (idle_header n))) fits
    (packed_lt (packet_fields (idle_header n)) (packet_layout.fit (idle_header n) fits)) refl

pub length-idle_packet : (n : ℕ) → 7 ≤ n → length (idle_packet n) ≡ n
unfolding idle_packet
length-idle_packet n least =
    omega (arith, length-append (packet_octets (idle_header n)) (replicate (n - 6) 0), length-bytes_high_first 6 (packed (packet_fields (idle_header n))), length-replicate {A = ℕ} (n - 6) 0)

header_of_idle : (n : ℕ) → n ≤ 65542 → packet_header (take 6 (idle_packet n)) ≡ idle_header n
unfolding idle_packet
header_of_idle n most =
    ap packet_header (take_at (packet_octets (idle_header n)) (replicate (n - 6) 0) 6 (length-bytes_high_first 6 (packed (packet_fields (idle_header n)))))
    ∙ packet_header-idle n most

idle_packet_octets : (n : ℕ) → IsOctets (idle_packet n)
unfolding idle_packet
idle_packet_octets n =
    All-append (λ octet. octet < 256) (packet_octets (idle_header n)) (replicate (n - 6) 0) (octets-bytes 6 (packed (packet_fields (idle_header n))))
    (All-replicate (λ octet. octet < 256) (n - 6) 0 (omega arith))

pub idle_packet_is_a_packet : (n : ℕ) → 7 ≤ n → n ≤ 65542 → IsPacket (idle_packet n)
idle_packet_is_a_packet n least most =
    let long = length-idle_packet n least in
    let fields = header_fields (idle_packet n) (idle_packet_octets n) (omega arith) in
    let header = header_of_idle n most in
    let stated : 7 + (n - 7) ≡ n = omega arith in
    record {
      version = fields.0 ∙ ap (λ h. h.version) header;
      len = long ∙ sym stated ∙ ap (λ h. 7 + h.length) (sym header);
    }

pub idle_packet_is_idle : (n : ℕ) → 7 ≤ n → n ≤ 65542 → is_idle_packet (idle_packet n) ≡ true
idle_packet_is_idle n least most =
    let long = length-idle_packet n least in
    let fields = header_fields (idle_packet n) (idle_packet_octets n) (omega arith) in
    let apid = fields.1 ∙ ap (λ h. h.apid) (header_of_idle n most) in
    and_from (nat_lt 1 (length (idle_packet n))) (apid_of (idle_packet n) == 2047) (lt-ltb 1 (length (idle_packet n)) (omega arith)) (eq-eqb (apid_of (idle_packet n)) 2047 apid)
