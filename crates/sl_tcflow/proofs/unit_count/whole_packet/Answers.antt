use Rattle.std.proofs.Common.{◌∙◌, rules, sym}
use Rattle.sl_tcflow.proofs.lemmas.Count.{packet_within}
use Rattle.sl_tcflow.proofs.unit_count.whole_packet.Goals as goal

pub returns-in-Whole-clause-whole : goal.returns-in-Whole-clause-whole
returns-in-Whole-clause-whole c octets has = (c.needs_tell_packets.ensures.whole octets c.in-Whole.len).0 (sym (c.need.ensures.need octets has) ∙ c.in-Whole.is)

pub returns-in-Whole-clause-least : goal.returns-in-Whole-clause-least
returns-in-Whole-clause-least c =
    (packet_within c.args.outline c.need.result c.in-Whole.len (search rules) c.needs_tell_packets.ensures.whole c.need.ensures.need c.in-Whole.is).0

pub returns-in-Whole-clause-within : goal.returns-in-Whole-clause-within
returns-in-Whole-clause-within c =
    (packet_within c.args.outline c.need.result c.in-Whole.len (search rules) c.needs_tell_packets.ensures.whole c.need.ensures.need c.in-Whole.is).1

pub returns-in_default-clause-none : goal.returns-in_default-clause-none
returns-in_default-clause-none c octets has len whole =
    c.in_default.not-Whole len (c.need.ensures.need octets has ∙ (c.needs_tell_packets.ensures.whole octets len).1 whole)
