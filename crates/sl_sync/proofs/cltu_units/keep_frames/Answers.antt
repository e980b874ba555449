use Rattle.std.proofs.Common.{◌≡◌, ◌∙◌, length, drop, ap, List, ℕ}
use Rattle.std.specs.List.{concat}
use Rattle.sl_sync.specs.Cltu.{frames_in}
use Rattle.sl_sync.proofs.TcFramesLemmas.{frames-kept}
use Rattle.sl_sync.proofs.cltu_units.keep_frames.Goals as goal

pub returns-clause-kept : goal.returns-clause-kept
returns-clause-kept c =
    let same : c.behind.result.now ≡ drop c.args.begin c.args.text.now.items =
    c.behind.ensures ∙ ap (λ (x : List ℕ). drop c.args.begin x) c.as_slice.ensures.value in
    let len : c.whole_frames-count.result.1 ≡ length (concat (frames_in (drop c.args.begin c.args.text.now.items))) =
    c.whole_frames-count.ensures.len ∙ ap (λ (x : List ℕ). length (concat (frames_in x))) same in
    c.truncate.ensures.items ∙ frames-kept c.args.text.now.items c.args.begin _ c.requires len
