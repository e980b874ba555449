use Rattle.std.proofs.Common.{◌∙◌, [], ◌∷◌, ap, codes, map}
use Rattle.clap.specs.Words.{rule_of}
use Rattle.sl_link.specs.Program.CommandLine.{flag_rule, needed, text_rule, with_default, with_numbers}
use Rattle.sl_link.proofs.program.command_line.link_options.Goals as goal

pub returns : goal.returns
returns c =
    let byte = c.value_parser-byte.ensures in
    let short = c.value_parser-short.ensures in
    let long = c.value_parser-long.ensures in
    ap (map rule_of) c.in_ok-vec.ensures.items
    ∙ (λ i. c.needed_number-scid.ensures i ∷ c.number_or-tm_length.ensures i ∷ c.number_or-tc_length.ensures i ∷ c.flag_option-tm_fecf.ensures i ∷ c.flag_option-tc_fecf.ensures i ∷ c.number_or-window.ensures i ∷ c.number_or-vr.ensures i ∷ c.text-vr_of.ensures i ∷ c.text-plain.ensures i ∷ c.number_or-limit.ensures i ∷ [])
    ∙ (λ i. needed (with_numbers (c.text.ensures i) (short i)) ∷ with_default (with_numbers (c.text-2.ensures i) (short i)) (codes "1115") ∷ with_default (with_numbers (c.text-3.ensures i) (short i)) (codes "1024") ∷ flag_rule (codes "tm-fecf") ∷ flag_rule (codes "tc-fecf")
    ∷ with_default (with_numbers (c.text-4.ensures i) (byte i)) (codes "10") ∷ with_default (with_numbers (c.text-5.ensures i) (byte i)) (codes "0") ∷ text_rule (codes "vr-of") ∷ text_rule (codes "plain") ∷ with_default (with_numbers (c.text-6.ensures i) (long i)) (codes "1073741824") ∷ [])
