use Rattle.sl_engine.proofs.lemmas.Io.Hexadecimal.{block_put}
use Rattle.sl_engine.proofs.io.hexadecimal.Hexadecimals.put_sixteen.Goals as goal

pub returns : goal.returns
returns c = block_put c.args.octets.now c.args.buffer.now _ c.args.at c.args.from 16 c.requires.inside c.requires.room c.of_sixteen.ensures
