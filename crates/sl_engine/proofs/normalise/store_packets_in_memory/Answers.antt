use Rattle.std.proofs.Common.{[], ◌∙◌, List, ℕ, ap, arith, subst, sym}
use Rattle.sl_engine.specs.Kind.Delivery.{AreStored}
use Rattle.sl_engine.proofs.lemmas.Kind.Delivery.{none_delivered, none_stored}
use Rattle.sl_engine.proofs.lemmas.Link.Answers.{passed_up}
use Rattle.sl_engine.proofs.lemmas.Framing.Reading.{refused_in, taken_none}
use Rattle.sl_engine.proofs.normalise.store_packets_in_memory.Goals as goal

pub cut_chunk-requires : goal.cut_chunk-requires
cut_chunk-requires g c =
    let p = c.args.managed.now in
    let k = g.D.Followed.kind p in
    let laws = (g.D.Followed.within _ p [] c.begin.ensures).adds in
    record { ready = ((record { deliverer = c.begin.result; so_far = c.none.result; delivered = c.new.result }), c.args.recording.now, taken_none c.args.recording.now c.begin-framer.ensures (rw c.none.ensures (none_delivered k laws c.begin.ensures), none_stored k laws _ c.new.ensures.lists), omega arith) }

pub returns-clause-all : goal.returns-clause-all
returns-clause-all g c =
    let p = c.args.managed.now in
    let k = g.D.Followed.kind p in
    let laws = (g.D.Followed.within _ p [] c.begin.ensures).adds in
    let recording = c.args.recording.now in
    let t = c.in_ok-cut_chunk.ensures.taken (record { deliverer = c.begin.result; so_far = c.none.result; delivered = c.new.result }) recording (taken_none recording c.begin-framer.ensures (rw c.none.ensures (none_delivered k laws c.begin.ensures), none_stored k laws _ c.new.ensures.lists)) in
    (laws, subst (λ frames. AreStored k frames c.cut_chunk.new.sink.delivered.lists) (sym t.all ∙ ap (λ (f : List ℕ → List (List ℕ)). f recording) (g.met.D.Followed.frames p)) t.cut.done.1)

pub returns-in_err-cut_chunk-clause-memory : goal.returns-in_err-cut_chunk-clause-memory
returns-in_err-cut_chunk-clause-memory g c =
    let p = c.args.managed.now in
    let k = g.D.Followed.kind p in
    let laws = (g.D.Followed.within _ p [] c.begin.ensures).adds in
    let recording = c.args.recording.now in
    let t = c.in_err-cut_chunk.ensures.fault (record { deliverer = c.begin.result; so_far = c.none.result; delivered = c.new.result }) recording (taken_none recording c.begin-framer.ensures (rw c.none.ensures (none_delivered k laws c.begin.ensures), none_stored k laws _ c.new.ensures.lists)) in
    passed_up _ _ c.from_residual.ensures.1 (refused_in k.frames_of (g.met.D.Followed.frames p) g.met.D.Framer.Framer.front t.1)
