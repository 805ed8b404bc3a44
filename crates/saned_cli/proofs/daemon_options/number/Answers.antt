use Rattle.std.proofs.Common.{ℕ, List, Bor, arith, option_map, refl, subst, sym, inl, inr}
use Rattle.std.specs.Prelude.{Option}
use Rattle.saned_cli.specs.OptionsOfDaemon.{IsNumberOf}
use Rattle.saned_cli.proofs.PlainNumbers.{other_number}
use Rattle.saned_cli.proofs.daemon_options.number.Goals as goal

pub returns-in_default-plain_number-clause-err : goal.returns-in_default-plain_number-clause-err
returns-in_default-plain_number-clause-err c = (
  refl,
  λ n few.
      subst (λ (t : Option (Bor (List ℕ))). ¬ IsNumberOf c.args.least c.args.most c.args.default (option_map (λ text. text.now) t) n) (sym c.in-Some.is)
      (other_number c.in-Some.text.now c.in-Some-plain_number.n c.args.least c.args.most c.args.default (omega arith) c.in-Some-plain_number.ensures.some (inr c.if-n-most.false) n few),
)

pub returns-in_default-plain_number-2-clause-err : goal.returns-in_default-plain_number-2-clause-err
returns-in_default-plain_number-2-clause-err c = (
  refl,
  λ n few.
      subst (λ (t : Option (Bor (List ℕ))). ¬ IsNumberOf c.args.least c.args.most c.args.default (option_map (λ text. text.now) t) n) (sym c.in-Some.is)
      (other_number c.in-Some.text.now c.in-Some-plain_number.n c.args.least c.args.most c.args.default (omega arith) c.in-Some-plain_number.ensures.some (inl c.if-n-least.false) n few),
)
