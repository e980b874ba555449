use Rattle.std.proofs.Common.{◌≡◌, ◌+◌, ◌∷◌, [], unwrap_or, ap, ◌∙◌, arith, rules, subst, Some}
use Rattle.std.specs.BTreeMap.{get, Updates}
use Rattle.std.specs.Ordering.{nat_cmp}
use Rattle.std.proofs.lemmas.List.{length-append}
use Rattle.sl_packet.specs.Packet.{apid_of}
use Rattle.sl_pair.proofs.SideLemmas.{counted_more}
use Rattle.sl_pair.proofs.numbering.Numbering.next.Goals as goal

pub returns : goal.returns
returns c = λ before h.
    let p = c.args.packet.now in
    let m = c.args.self.now.of_apid in
    let same : c.apid-apid.result ≡ apid_of p = c.apid-apid.ensures in
    let had : c.unwrap_or.result ≡ unwrap_or (get nat_cmp m (apid_of p)) 0 = search rules in
    let count : c.in_ok-of_apid.of_apid ≡ c.unwrap_or.result + 1 = search rules in
    let more : c.in_ok-packets.packets ≡ c.args.self.now.packets + 1 = search rules in
    let updates = subst (λ a. Updates nat_cmp m c.insert.new.self a (Some c.in_ok-of_apid.of_apid)) same c.in_ok-insert.ensures.updates in (
      search rules,
      record {
        all = omega (arith, h.all, length-append before (p ∷ []));
        each = counted_more m c.insert.new.self before p c.in_ok-of_apid.of_apid h.each (count ∙ ap (λ n. n + 1) had) updates;
      },
    )
