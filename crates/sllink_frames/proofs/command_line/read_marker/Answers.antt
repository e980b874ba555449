use Rattle.std.proofs.Common.{inl, inr, ◌/◌, ◌≤◌, ◌∙◌, sym, arith, length}
use Rattle.hex.specs.Hex.{decode_of}
use Rattle.sllink_frames.specs.CommandLine.{marker_in}
use Rattle.sllink_frames.proofs.MarkerLemmas.{decoded-is, decoded-not, read, room, wrong-text}
use Rattle.sllink_frames.proofs.command_line.read_marker.Goals as goal
use Rattle.sllink_frames.proofs.command_line.read_marker.Goals.{then-len-eq0-via-then-len-eq0, then-len-eq0-via-else-len-eq0+then-len-gt16}

pub returns-then-len-eq0 : goal.returns-then-len-eq0
returns-then-len-eq0 c = wrong-text c.args.text.now c.args.errors (elim c.then-len-eq0.branch [
  | then-len-eq0-via-then-len-eq0 w ↦ inl w.if-len-eq0.true
  | then-len-eq0-via-else-len-eq0+then-len-gt16 w ↦ inr w.if-len-gt16.true
])

pub returns-then-is_err : goal.returns-then-is_err
unfolding marker_in
returns-then-is_err c =
    let text = c.args.text.now in
    let few : length text / 2 ≤ 16 = omega arith in
    let same = room c.as_bytes.result.now text c.as_bytes.ensures.value few in
    decoded-not (decode_of text) _ _ c.args.errors (rw same at c.decode_to_slice.ensures.value)
    (sym c.is_err.ensures.value ∙ c.if-is_err.true)

pub returns : goal.returns
returns c =
    let text = c.args.text.now in
    let few : length text / 2 ≤ 16 = omega arith in
    let same = room c.as_bytes.result.now text c.as_bytes.ensures.value few in
    let octets = decoded-is (decode_of text) _ _ (rw same at c.decode_to_slice.ensures.value)
    (sym c.is_err.ensures.value ∙ c.if-is_err.false) in
    read text _ c.args.errors c.new.result _ octets c.if-len-eq0.false few (rw c.from.ensures at c.new.ensures) c.ok_or.ensures.value
