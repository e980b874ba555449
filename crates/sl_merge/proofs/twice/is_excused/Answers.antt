use Rattle.std.proofs.Common.{◌∙◌, ◌≤◌, ◌<◌, ◌≡◌, ℕ, [], true, ap, arith, sym}
use Rattle.std.specs.Prelude.{◌||◌, bytes_eq, nat_le, unwrap_or}
use Rattle.std.specs.HashMap.{get_by}
use Rattle.std.specs.HashSet.{contains}
use Rattle.std.proofs.lemmas.Bool.Decides.{nat_tests}
use Rattle.sl_merge.specs.Merge.{is_first_alone, is_in_second, payload}
use Rattle.sl_merge.specs.Twice.{no_times, times_more}
use Rattle.sl_merge.proofs.TwiceLemmas.{excused_by}
use Rattle.sl_merge.proofs.twice.is_excused.Goals as goal

first_enough : (a b : ℕ) → 2 ≤ a → nat_le 2 a ≡ (nat_le 2 a || nat_le 2 b)
first_enough a b h = grind (arith, nat_tests)

second_needed : (a b : ℕ) → a < 2 → nat_le 2 b ≡ (nat_le 2 a || nat_le 2 b)
second_needed a b h = grind (arith, nat_tests)

pub returns-then-times-ge2 : goal.returns-then-times-ge2
returns-then-times-ge2 g c = λ items seconds times.
    let item = c.args.item.now in
    let alone : is_first_alone item.fate ≡ true = cc (c.if-not-is_first_alone.ensures, c.fate.ensures) in
    let there : is_in_second item.frame items ≡ true =
    sym (seconds item.frame) ∙ ap (contains bytes_eq c.args.seconds.now) (sym c.frame.ensures.octets ∙ sym c.new.ensures) ∙ sym c.if-not-contains.ensures in
    let key : c.new-payload.result ≡ payload c.args.shape.now item.frame = c.new-payload.ensures ∙ c.payload.ensures in
    let t = c.unwrap_or-times.result in
    let found : t ≡ unwrap_or (get_by (bytes_eq (payload c.args.shape.now item.frame)) c.args.times.now) no_times =
    c.unwrap_or-times.ensures
    ∙ ap (λ o. unwrap_or o no_times) (c.copied.ensures ∙ c.get.ensures.value ∙ ap (λ k. get_by (bytes_eq k) c.args.times.now) key) in
    first_enough t.first t.second (omega arith)
    ∙ excused_by c.args.shape.now items item t alone there
    (ap (λ u. times_more c.args.shape.now (payload c.args.shape.now item.frame) u []) found ∙ times (payload c.args.shape.now item.frame))

pub returns-else-times-ge2 : goal.returns-else-times-ge2
returns-else-times-ge2 g c = λ items seconds times.
    let item = c.args.item.now in
    let alone : is_first_alone item.fate ≡ true = cc (c.if-not-is_first_alone.ensures, c.fate.ensures) in
    let there : is_in_second item.frame items ≡ true =
    sym (seconds item.frame) ∙ ap (contains bytes_eq c.args.seconds.now) (sym c.frame.ensures.octets ∙ sym c.new.ensures) ∙ sym c.if-not-contains.ensures in
    let key : c.new-payload.result ≡ payload c.args.shape.now item.frame = c.new-payload.ensures ∙ c.payload.ensures in
    let t = c.unwrap_or-times.result in
    let found : t ≡ unwrap_or (get_by (bytes_eq (payload c.args.shape.now item.frame)) c.args.times.now) no_times =
    c.unwrap_or-times.ensures
    ∙ ap (λ o. unwrap_or o no_times) (c.copied.ensures ∙ c.get.ensures.value ∙ ap (λ k. get_by (bytes_eq k) c.args.times.now) key) in
    second_needed t.first t.second (omega arith)
    ∙ excused_by c.args.shape.now items item t alone there
    (ap (λ u. times_more c.args.shape.now (payload c.args.shape.now item.frame) u []) found ∙ times (payload c.args.shape.now item.frame))
