use Rattle.sllink_compare.proofs.run.ask.Goals as goal

pub returns-in-Ok-clause-said : goal.returns-in-Ok-clause-said
returns-in-Ok-clause-said g c = λ ended. rw (c.as_str.ensures.value, c.in-Ok.ensures) at c.say.ensures
