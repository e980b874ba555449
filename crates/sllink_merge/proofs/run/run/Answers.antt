use Rattle.std.proofs.Common.{◌≡◌, ◌-◌, ◌≤◌, ◌∷◌, [], Bool, List, ℕ, arith, drop, get_or, inr, length, take}
use Rattle.std.proofs.lemmas.List.{take_all}
use Rattle.sllink_merge.specs.Run.{AreMergedTo, MergeAllTo, octets_of}
use Rattle.sllink_merge.specs.declared.command_line.Link.{Link}
use Rattle.sllink_merge.specs.declared.merge.Recording.{Recording}
use Rattle.sllink_merge.proofs.run.run.Goals as goal

-- what is left of recordings after the first
abbrev rest_of : List Recording → List Recording
rest_of recordings = take (length recordings - 1) (drop 1 recordings)

rest_is : (first : Recording) (others : List Recording) → rest_of (first ∷ others) ≡ others
rest_is first others = take_all (length (first ∷ others) - 1) others (omega arith)

-- the first recording, the second and the later ones are all of them
are_merged : {link : Link} {sure : Bool} {merged : List ℕ} (recordings : List Recording) (d : Recording)
    → 1 ≤ length (rest_of recordings)
    → MergeAllTo link (get_or recordings 0 d).octets.now
    ((get_or (rest_of recordings) 0 d).octets.now ∷ octets_of (rest_of (rest_of recordings))) sure merged
    → AreMergedTo link recordings sure merged
are_merged [] d two is = omega arith
are_merged (first ∷ []) d two is = omega arith
are_merged (first ∷ second ∷ later) d two is = rw (rest_is first (second ∷ later), rest_is second later) at is

pub returns-in-Ok-clause-ended : goal.returns-in-Ok-clause-ended
returns-in-Ok-clause-ended g c = λ not_refused not_stopped. record {
  sure = c.in-Ok.merge.is_sure;
  merged = c.in-Ok.merge.octets.items;
  are_merged = are_merged c.args.recordings.now _ (omega arith) c.in-Ok.ensures;
  written = c.finish.ensures.written not_stopped;
  status_is = c.finish.ensures.status not_stopped;
}

pub returns-in-Ok-clause-stopped : goal.returns-in-Ok-clause-stopped
returns-in-Ok-clause-stopped g c = λ is. inr (record {
  sure = c.in-Ok.merge.is_sure;
  merged = c.in-Ok.merge.octets.items;
  fault = (c.finish.ensures.stopped is).0;
  are_merged = are_merged c.args.recordings.now _ (omega arith) c.in-Ok.ensures;
  stopped = (c.finish.ensures.stopped is).1;
})
