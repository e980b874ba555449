use Rattle.std.proofs.Common.{[]}
use Rattle.std.proofs.lemmas.Result.{MatchResult-weaker, on_ok_weaker}
use Rattle.sl_engine.proofs.lemmas.Link.Answers.{passed_up}
use Rattle.sl_engine.proofs.lemmas.Framing.Reading.{fits_next, taken_next, taken_so_far, taken_all}
use Rattle.sl_engine.proofs.framing.cut_chunk.Goals as goal

pub next_frame-requires : goal.next_frame-requires
next_frame-requires g c =
    let r = c.requires.ready in
    let h = c.loop-frame.invariant r.0 r.1 r.2 in
    (c.args.managed.now, h.rest, h.waiting)

pub frame-requires : goal.frame-requires
frame-requires g c =
    let r = c.requires.ready in
    let h = c.loop-frame.invariant r.0 r.1 r.2 in
    let cut = c.in-Some.ensures.frame c.args.managed.now h.rest h.waiting in
    record { start = r.0; before = h.frames; taken = h.done; whole = cut.whole; fits = fits_next h _ _ cut r.3 }

pub loop-frame-smaller : goal.loop-frame-smaller
loop-frame-smaller g c =
    let r = c.requires.ready in
    let h = c.loop-frame.invariant r.0 r.1 r.2 in
    (c.in-Some.ensures.frame c.args.managed.now h.rest h.waiting).some

pub loop-frame-preserved : goal.loop-frame-preserved
loop-frame-preserved g c = λ start octets given.
    let h = c.loop-frame.invariant start octets given in
    let w = c.next_frame.follows.holds-at-none c.args.managed.now h.rest h.waiting in
    taken_next h {framer' = c.next_frame.follows.lender-at-none} (c.in-Some.ensures.frame c.args.managed.now h.rest h.waiting) (rw c.in-Some.is at w) (c.in_ok-frame.ensures.taken start h.frames h.done)

pub returns-in_err-frame-clause-fault : goal.returns-in_err-frame-clause-fault
returns-in_err-frame-clause-fault g c =
    passed_up _ _ c.from_residual.ensures.1 (λ start octets given.
    let h = c.loop-frame.invariant start octets given in
    let w = c.next_frame.follows.holds-at-none c.args.managed.now h.rest h.waiting in
    (c.next_frame.new.chunk.now, taken_next h {framer' = c.next_frame.follows.lender-at-none} (c.in-Some.ensures.frame c.args.managed.now h.rest h.waiting) (rw c.in-Some.is at w) (c.in_err-frame.ensures.fault start h.frames h.done)))

pub returns-clause-taken : goal.returns-clause-taken
returns-clause-taken g c =
    let p = c.args.managed.now in
    on_ok_weaker c.pause.result (λ paused start octets given.
    let h = c.loop-frame.invariant start octets given in
    let w = c.next_frame.follows.holds-at-none p h.rest h.waiting in
    taken_all h g.met.S.Framer.Framer.front {framer' = c.next_frame.follows.lender-at-none} (c.in_default.ensures.none p h.rest h.waiting) (rw c.in_default.is at w) (paused p start h.frames h.done)) c.pause.ensures.taken

pub returns-clause-fault : goal.returns-clause-fault
returns-clause-fault g c =
    MatchResult-weaker c.pause.result c.pause.ensures.fault (λ _ u. u) (λ fault stops start octets given.
    let h = c.loop-frame.invariant start octets given in
    let w = c.next_frame.follows.holds-at-none c.args.managed.now h.rest h.waiting in
    ([], taken_so_far h {framer' = c.next_frame.follows.lender-at-none} (rw c.in_default.is at w) (stops c.args.managed.now start h.frames h.done)))
