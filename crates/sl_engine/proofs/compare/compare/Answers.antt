use Rattle.std.proofs.Common.{◌≡◌, ◌++◌, [], sym, ◌∙◌, ap, arith, inl, inr, length, List, ℕ, false, true}
use Rattle.std.proofs.lemmas.Result.{IfOk-from_err}
use Rattle.sl_pair.specs.declared.channel.Station.TheVariants.{First, Second}
use Rattle.sl_engine.specs.Compare.Signs.{signs_by}
use Rattle.sl_engine.specs.Compare.Summarised.{summary_in}
use Rattle.sl_engine.specs.Framing.{chunk_size}
use Rattle.sl_engine.specs.Verbs.Check.Lines.{anomalies_by}
use Rattle.sl_engine.proofs.lemmas.Compare.Ends.{beginning, inside_octets, nearer_end, none_on, none_read, none_summed, on_channels, read_whole, same_lists, same_lengths, summary_whole}
use Rattle.sl_engine.proofs.lemmas.Compare.Turns.{alike}
use Rattle.sl_engine.proofs.lemmas.Link.Answers.{passed_up}
use Rattle.sl_engine.proofs.compare.compare.Goals as goal

pub loop-station-init : goal.loop-station-init
loop-station-init g c =
    let p = c.args.one_managed.now in
    let p' = c.args.other_managed.now in
    let k = g.D.Followed.kind p in
    let k' = g.D.Followed.kind p' in
    let laws = (g.D.Followed.within _ p [] c.begin-first.ensures.begun).adds in
    let laws' = (g.D.Followed.within _ p' [] c.begin-second.ensures.begun).adds in
    let none = g.met.D.Framer.Framer.empty p in
    let none' = g.met.D.Framer.Framer.empty p' in
    let is = ap (λ (f : List ℕ → List (List ℕ)). f []) (sym (g.met.D.Followed.frames p)) ∙ none in
    let is' = ap (λ (f : List ℕ → List (List ℕ)). f []) (sym (g.met.D.Followed.frames p')) ∙ none' in (
      [],
      [],
      none_read c.begin-first.ensures.framer none (none_summed k laws c.begin-first.ensures.begun c.begin-first.ensures.none c.begin-first.ensures.no_words c.begin-first.ensures.no_signs) c.begin-first.ensures.octets,
      none_read c.begin-second.ensures.framer none' (none_summed k' laws' c.begin-second.ensures.begun c.begin-second.ensures.none c.begin-second.ensures.no_words c.begin-second.ensures.no_signs) c.begin-second.ensures.octets,
      alike Second c.new-pairing.result _ _ _ (none_on k' laws' is') (alike First c.new-pairing.result _ _ _ (none_on k laws is) c.new-pairing.ensures.none),
      λ is_read. absurd (let bad : false ≡ true = sym c.begin-first.ensures.not_read ∙ is_read in cc),
      λ is_read. absurd (let bad : false ≡ true = sym c.begin-second.ensures.not_read ∙ is_read in cc),
    )

pub read_turn-requires-clause-ready : goal.read_turn-requires-clause-ready
read_turn-requires-clause-ready g c =
    let i = c.loop-station.invariant in
    (c.args.one.now, i.0, i.2)

pub read_turn-requires-in-Second-clause-ready : goal.read_turn-requires-in-Second-clause-ready
read_turn-requires-in-Second-clause-ready g c =
    let i = c.loop-station.invariant in
    (c.args.other.now, i.1, i.3)

pub loop-station-smaller-in-Continue-1 : goal.loop-station-smaller-in-Continue-1
loop-station-smaller-in-Continue-1 g c =
    omega (arith, nearer_end _ _ _ _ _ (c.in-Some.ensures.first c.in-First.is) c.loop-station.invariant.2.allowed c.in_ok-read_turn-in-First.ensures.nearer)

pub loop-station-preserved-in-Continue-1 : goal.loop-station-preserved-in-Continue-1
loop-station-preserved-in-Continue-1 g c =
    let i = c.loop-station.invariant in
    let next = c.in_ok-read_turn-in-First.ensures.paired c.args.one.now i.0 i.2 in
    (i.0 ++ next.0, i.1, next.1, i.3, next.2 _ i.4, c.in_ok-read_turn-in-First.ensures.end, i.6)

pub returns-in_err-read_turn-in-First-clause-compared :
    goal.returns-in_err-read_turn-in-First-clause-compared
returns-in_err-read_turn-in-First-clause-compared g c = IfOk-from_err c.from_residual.result _ c.from_residual.ensures.0

pub returns-in_err-read_turn-in-First-clause-fault :
    goal.returns-in_err-read_turn-in-First-clause-fault
returns-in_err-read_turn-in-First-clause-fault g c =
    let i = c.loop-station.invariant in
    let size : length c.loop-station.buffer ≡ chunk_size = omega arith in
    passed_up _ _ c.from_residual.ensures.1 (inl (rw size at (c.in_err-read_turn-in-First.ensures.fault c.args.one.now i.0 i.2).0, beginning i.3))

pub returns-in_err-read_turn-in-First-clause-memory :
    goal.returns-in_err-read_turn-in-First-clause-memory
returns-in_err-read_turn-in-First-clause-memory g c =
    let i = c.loop-station.invariant in
    passed_up _ _ c.from_residual.ensures.1 (λ memory. inl ((c.in_err-read_turn-in-First.ensures.fault c.args.one.now i.0 i.2).1 memory))

pub returns-in_err-read_turn-in-Second-clause-compared :
    goal.returns-in_err-read_turn-in-Second-clause-compared
returns-in_err-read_turn-in-Second-clause-compared g c =
    let r = c.from_residual-in_err-read_turn-in-Second in
    IfOk-from_err r.result _ r.ensures.0

pub returns-in_err-read_turn-in-Second-clause-fault :
    goal.returns-in_err-read_turn-in-Second-clause-fault
returns-in_err-read_turn-in-Second-clause-fault g c =
    let i = c.loop-station.invariant in
    let size : length c.loop-station.buffer ≡ chunk_size = omega arith in
    passed_up _ _ c.from_residual-in_err-read_turn-in-Second.ensures.1
    (inr (beginning i.2, rw size at (c.in_err-read_turn-in-Second.ensures.fault c.args.other.now i.1 i.3).0))

pub returns-in_err-read_turn-in-Second-clause-memory :
    goal.returns-in_err-read_turn-in-Second-clause-memory
returns-in_err-read_turn-in-Second-clause-memory g c =
    let i = c.loop-station.invariant in
    passed_up _ _ c.from_residual-in_err-read_turn-in-Second.ensures.1 (λ memory. inr ((c.in_err-read_turn-in-Second.ensures.fault c.args.other.now i.1 i.3).1 memory))

pub loop-station-smaller : goal.loop-station-smaller
loop-station-smaller g c =
    omega (arith, nearer_end _ _ _ _ _ (c.in-Some.ensures.second c.in-Second.is) c.loop-station.invariant.3.allowed c.in_ok-read_turn-in-Second.ensures.nearer)

pub loop-station-preserved : goal.loop-station-preserved
loop-station-preserved g c =
    let i = c.loop-station.invariant in
    let next = c.in_ok-read_turn-in-Second.ensures.paired c.args.other.now i.1 i.3 in
    (i.0, i.1 ++ next.0, i.2, next.1, next.2 _ i.4, i.5, c.in_ok-read_turn-in-Second.ensures.end)

pub summary-requires : goal.summary-requires
summary-requires g c =
    let s = c.loop-station.invariant.2 in
    (c.args.one_managed.now, s.all.cut.frames, s.all.cut.done, inside_octets s)

pub summary-requires-2 : goal.summary-requires-2
summary-requires-2 g c =
    let s = c.loop-station.invariant.3 in
    (c.args.other_managed.now, s.all.cut.frames, s.all.cut.done, inside_octets s)

pub returns-clause-compared : goal.returns-clause-compared
returns-clause-compared g c =
    let i = c.loop-station.invariant in
    let p = c.args.one_managed.now in
    let p' = c.args.other_managed.now in
    let k = g.D.Followed.kind p in
    let k' = g.D.Followed.kind p' in
    let d = i.2.all.cut.done in
    let d' = i.3.all.cut.done in
    let laws = (g.D.Followed.within _ p _ d.delivered.processed).adds in
    let laws' = (g.D.Followed.within _ p' _ d'.delivered.processed).adds in
    let is = ap (λ (f : List ℕ → List (List ℕ)). f i.0) (sym (g.met.D.Followed.frames p)) ∙ i.2.all.all in
    let is' = ap (λ (f : List ℕ → List (List ℕ)). f i.1) (sym (g.met.D.Followed.frames p')) ∙ i.3.all.all in
    let stands = alike Second c.loop-station.pairing _ _ _ (on_channels k' laws' (k'.frames_of i.1)) (alike First c.loop-station.pairing _ _ _ (on_channels k laws (k.frames_of i.0)) i.4) in
    record {
      first = i.0;
      second = i.1;
      first_read = read_whole i.2 (i.5 c.in_default.ensures.none.0);
      second_read = read_whole i.3 (i.6 c.in_default.ensures.none.1);
      first_summary = c.summary.ensures p _ d (inside_octets i.2) ∙ summary_whole (summary_in k (anomalies_by g.D.Checked.lines_of (g.D.Followed.found p)) (g.D.Checked.open_at p) (signs_by (g.D.Summarised.is_own p) (g.D.Summarised.is_long p) (g.D.Summarised.begun p))) k.frames_of is i.2.size;
      second_summary = c.summary-2.ensures p' _ d' (inside_octets i.3) ∙ summary_whole (summary_in k' (anomalies_by g.D.Checked.lines_of (g.D.Followed.found p')) (g.D.Checked.open_at p') (signs_by (g.D.Summarised.is_own p') (g.D.Summarised.is_long p') (g.D.Summarised.begun p'))) k'.frames_of is' i.3.size;
      left = stands;
      same = same_lists _ _ (same_lengths k k' c.requires.channels _ _) (c.answer.ensures.same _ _ stands);
      different = c.answer.ensures.different _ _ stands;
    }
