use Rattle.std.proofs.Common.{ℕ, ◌-◌, ◌∙◌, List, length, take, drop, sym, ap, arith}
use Rattle.sl_tmframe.specs.TmField.{as_content}
use Rattle.sl_fields.specs.FecfField.{fecf_len}
use Rattle.sl_tmframe.specs.TmFrame.{TmFormat}
use Rattle.sl_tmframe.proofs.TmFrameLemmas.{read_parts}
use Rattle.sl_tmframe.proofs.tm_frame.TmFrame.read.Goals as goal

pub returns : goal.returns
returns c =
    let frame = c.args.octets.now in
    let header = c.split_header-header in
    let between = c.without_fecf in
    let parts = c.split_control-control in
    let least = c.shape.invariant.least in
    let format = c.shape.view_is in
    let len = ap (λ (f : TmFormat). f.len) format in
    read_parts c.args.shape.now c.args.spacecraft frame between.result.now parts.result.0.now header.result.0 parts.result.1 (as_content c.content_under.result)
    (omega arith)
    (sym c.in_default.ensures)
    header.ensures.header
    (between.ensures ∙ ap (λ (b : List ℕ). take (length b - fecf_len c.shape.inside.fecf) b) header.ensures.behind
    ∙ ap (λ (f : TmFormat). take (length (drop 6 frame) - fecf_len f.fecf) (drop 6 frame)) format)
    parts.ensures.field
    parts.ensures.control
    c.content_under.ensures.class
