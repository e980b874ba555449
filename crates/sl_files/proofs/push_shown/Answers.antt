use Rattle.std.proofs.Common.{◌≡◌, ◌++◌, subst, sym, ◌∙◌, string_bytes, OnOk, arith}
use Rattle.sl_files.proofs.ShownLemmas.{shown-two, shown-four, shown-eight}
use Rattle.sl_files.proofs.push_shown.Goals as goal

pub returns-in-0-to-255 : goal.returns-in-0-to-255
returns-in-0-to-255 c =
    let e = shown-two c.args.letter (sym c.is_printable.ensures ∙ c.if-is_printable.false)
    (λ e. omega arith) (λ e. omega arith) (λ e. omega arith) (omega arith) in
    subst (λ t. OnOk c.write.result (string_bytes c.write.new.self ≡ string_bytes c.args.text.now ++ t)) e
    (rw (c.laid_out.ensures, c.in_radix.ensures, c.from-code.ensures) at c.write.ensures.bytes)

pub returns-in-256-to-65535 : goal.returns-in-256-to-65535
returns-in-256-to-65535 c =
    let write = c.write-in-256-to-65535 in
    let e = shown-four c.args.letter (sym c.is_printable.ensures ∙ c.if-is_printable.false) (omega arith) (omega arith) in
    subst (λ t. OnOk write.result (string_bytes write.new.self ≡ string_bytes c.args.text.now ++ t)) e
    (rw (c.laid_out-in-256-to-65535.ensures, c.in_radix-in-256-to-65535.ensures, c.from-code.ensures) at write.ensures.bytes)

pub returns-in_default : goal.returns-in_default
returns-in_default c =
    let write = c.write-in_default in
    let e = shown-eight c.args.letter (sym c.is_printable.ensures ∙ c.if-is_printable.false) (omega arith) in
    subst (λ t. OnOk write.result (string_bytes write.new.self ≡ string_bytes c.args.text.now ++ t)) e
    (rw (c.laid_out-in_default.ensures, c.in_radix-in_default.ensures, c.from-code.ensures) at write.ensures.bytes)
