use Rattle.std.proofs.Common.{◌≡◌, ◌++◌, ◌∙◌, length, map, sym, ap, arith, length-append, Some}
use Rattle.std.specs.List.{concat}
use Rattle.std.specs.Vec.{vec_items}
use Rattle.sl_fields.specs.FecfField.{fecf_len}
use Rattle.sl_fields.proofs.Octets.{length-octets_of}
use Rattle.sl_packet.proofs.StoppingLemmas.{on_err}
use Rattle.sl_tmframe.specs.PacketFrame.{frame_fields}
use Rattle.sl_tmflow.proofs.form.push_first.Goals as goal

pub returns-in_err-extend_from_slice-clause-full : goal.returns-in_err-extend_from_slice-clause-full
returns-in_err-extend_from_slice-clause-full c =
    let h = c.args.heading in
    on_err c.from_residual.result _
    (omega (arith, c.in_err-extend_from_slice.ensures.full, ap length c.frame_header.ensures, length-octets_of 6 (frame_fields h.spacecraft h.vc h.mc_count h.vc_count (Some (length c.args.tail.now))), c.requires.roomy))

pub returns-in_err-extend_from_slice-4-clause-full : goal.returns-in_err-extend_from_slice-4-clause-full
returns-in_err-extend_from_slice-4-clause-full c =
    let h = c.args.heading in
    let tail = c.args.tail.now in
    let inside = concat (map vec_items c.args.inside.now) in
    let two : length c.fecf_field-field.result ≡ 2 = ap length c.fecf_field-field.ensures ∙ grind (arith, length-octets_of) in
    let six = length-octets_of 6 (frame_fields h.spacecraft h.vc h.mc_count h.vc_count (Some (length tail))) in
    on_err c.from_residual-in_err-extend_from_slice-4.result _
    (omega (
      arith,
      c.in_err-extend_from_slice-4.ensures.full,
      two,
      six,
      ap length c.frame_header.ensures,
      c.extend_from_slice.ensures.capacity,
      c.extend_from_slice-2.ensures.capacity,
      c.push_all.ensures.capacity,
      c.extend_from_slice-3.ensures.capacity,
      c.in_ok-extend_from_slice.ensures.len,
      c.in_ok-extend_from_slice-2.ensures.len,
      ap length c.in_ok-push_all.ensures.added,
      length-append c.extend_from_slice-2.new.self.items inside,
      c.in_ok-extend_from_slice-3.ensures.len,
      c.requires.whole,
      length-append (tail ++ inside) c.args.head.now,
      length-append tail inside,
      c.requires.roomy,
      ap fecf_len (sym c.fecf.ensures ∙ c.if-not-fecf.false),
    ))
