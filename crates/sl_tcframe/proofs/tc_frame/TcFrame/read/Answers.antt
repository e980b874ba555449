use Rattle.std.proofs.Common.{◌-◌, ◌∙◌, List, length, take, drop, ap, ℕ, Err}
use Rattle.sl_fields.specs.FecfField.{fecf_len}
use Rattle.sl_tcframe.specs.declared.tc_frame.TcSkip.{TcSkip}
use Rattle.sl_tcframe.specs.TcContent.{content}
use Rattle.sl_tcframe.specs.TcFrame.{TcFormat}
use Rattle.sl_tcframe.proofs.TcFrameLemmas.{field_lies, read_content, read_none}
use Rattle.sl_tcframe.proofs.tc_frame.TcFrame.read.Goals as goal

pub returns-in-Some-content_under : goal.returns-in-Some-content_under
returns-in-Some-content_under c =
    let frame = c.args.octets.now in
    let header = c.split_header-header in
    let field = c.without_fecf-field in
    let lies =
    field.ensures ∙ ap (λ (b : List ℕ). take (length b - fecf_len c.shape.inside.fecf) b) header.ensures.behind
    ∙ ap (λ (f : TcFormat). take (length (drop 5 frame) - fecf_len f.fecf) (drop 5 frame)) c.shape.view_is ∙ field_lies frame (fecf_len c.args.shape.now.fecf) in
    read_content c.args.shape.now c.args.spacecraft frame field.result.now header.result.0 header.ensures.header lies c.in_default.ensures.none c.vc.result (content c.in-Some-content_under.content)
    c.vc.ensures.value c.in-Some-content_under.ensures.value

pub returns-in-None : goal.returns-in-None
returns-in-None c =
    let frame = c.args.octets.now in
    let header = c.split_header-header in
    let field = c.without_fecf-field in
    let lies =
    field.ensures ∙ ap (λ (b : List ℕ). take (length b - fecf_len c.shape.inside.fecf) b) header.ensures.behind
    ∙ ap (λ (f : TcFormat). take (length (drop 5 frame) - fecf_len f.fecf) (drop 5 frame)) c.shape.view_is ∙ field_lies frame (fecf_len c.args.shape.now.fecf) in
    ap (λ (reason : TcSkip). Err reason) c.late_skip_of.ensures
    ∙ read_none c.args.shape.now c.args.spacecraft frame field.result.now header.result.0 header.ensures.header lies c.in_default.ensures.none c.in-None.ensures.value
