use Rattle.std.proofs.Common.{◌≡◌, ◌≢◌, ◌<◌, ◌^◌, ℕ, sym, subst, rules}
use Rattle.std.specs.Prelude.{decimal, IfSome, IfNone, Option}
use Rattle.saned_cli.specs.OptionWords.{BeginsPlainly}
use Rattle.saned_cli.proofs.PlainNumbers.{begins_plainly, some_written, none_written}
use Rattle.saned_cli.proofs.daemon_words.plain_number.Goals as goal

pub returns-then-begins_plainly-clause-some : goal.returns-then-begins_plainly-clause-some
returns-then-begins_plainly-clause-some c =
    let plain : BeginsPlainly c.args.text.now = search rules in
    subst (λ (o : Option ℕ). IfSome o (λ n. c.args.text.now ≡ decimal n)) (sym c.ok.ensures.value) (some_written c.args.text.now c.parse.result plain c.parse.ensures.value.0)

pub returns-then-begins_plainly-clause-none : goal.returns-then-begins_plainly-clause-none
returns-then-begins_plainly-clause-none c =
    subst (λ (o : Option ℕ). IfNone o ((n : ℕ) → n < 2 ^ 64 → c.args.text.now ≢ decimal n)) (sym c.ok.ensures.value) (none_written c.args.text.now c.parse.result c.parse.ensures.value.0)

pub returns-else-begins_plainly-clause-none : goal.returns-else-begins_plainly-clause-none
returns-else-begins_plainly-clause-none c = λ n few e.
    let plain : BeginsPlainly c.args.text.now = begins_plainly c.args.text.now n few e in
    search (rules, plain)
