use Rattle.sl_fields.proofs.FecfWordLemmas.{are_words}
use Rattle.sl_fields.proofs.RemainderLemmas.{word_is_remainder}
use Rattle.sl_fields.proofs.laws.words_are_remainders.Goals as goal

pub returns-clause-word : goal.returns-clause-word
returns-clause-word c = word_is_remainder

pub returns-clause-last : goal.returns-clause-last
returns-clause-last c = are_words
