use Rattle.std.proofs.Common.{◌≡◌, ℕ, ◌+◌, ◌-◌, List, ◌++◌, length, take, replicate, Result, Ok, Err, OnOk, ◌∙◌, ap, arith, append_assoc, if◌then◌else◌, is_ok, vec_len}
use Rattle.std.proofs.lemmas.List.{take_all}
use Rattle.sl_fields.specs.Field.{octets_of}
use Rattle.sl_packet.specs.IdlePacket.{idle_fields, idle_packet}
use Rattle.sl_packet.proofs.idle.push_idle.Goals as goal

-- the octets after the header and then zeros were added
header_and_zeros : {A E : Type 0} (r : Result A E) (old mid new header : List ℕ) (start end len : ℕ) → mid ≡ old ++ header → header ≡ octets_of 6 (idle_fields len) → length mid ≡ start → start + (len - 6) ≡ end → new ≡ (if is_ok r then take end mid ++ replicate (end - start) 0 else mid) → OnOk r (new ≡ old ++ idle_packet len)
unfolding idle_packet
header_and_zeros (Ok a) old mid new header start end len added is_header long ends e =
    let zeros : end - start ≡ len - 6 = omega arith in
    e ∙ ap (λ xs. xs ++ replicate (end - start) 0) (take_all end mid (omega arith) ∙ added ∙ ap (λ xs. old ++ xs) is_header)
    ∙ ap (λ n. old ++ octets_of 6 (idle_fields len) ++ replicate n 0) zeros
    ∙ append_assoc old (octets_of 6 (idle_fields len)) (replicate (len - 6) 0)
header_and_zeros (Err a) old mid new header start end len added is_header long ends e = tt

pub returns-clause-added : goal.returns-clause-added
returns-clause-added c =
    let added = c.in_ok-extend_from_slice.ensures.items ∙ ap (λ xs. xs ++ c.idle_header-header.result) c.in_ok-reserve.ensures.items in
    let least = c.requires.least in
    let len : c.args.len - 7 + 7 ≡ c.args.len = omega arith in
    let header = c.idle_header-header.ensures ∙ ap (λ n. octets_of 6 (idle_fields n)) len in
    header_and_zeros c.resize.result c.args.out.now.items c.extend_from_slice.new.self.items c.resize.new.self.items c.idle_header-header.result
    (vec_len c.extend_from_slice.new.self) (c.len.result + c.args.len - 6) c.args.len added header (omega arith) (omega arith) c.resize.ensures.items
