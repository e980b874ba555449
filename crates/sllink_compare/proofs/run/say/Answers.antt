use Rattle.sllink_compare.proofs.RunLemmas.{said_or_cut}
use Rattle.sllink_compare.proofs.run.say.Goals as goal

pub returns : goal.returns
returns g c =
    said_or_cut c.write_text.result (rw c.as_bytes.ensures.value at c.write_text.ensures.written) (rw c.as_bytes.ensures.value at c.write_text.ensures.fault)
