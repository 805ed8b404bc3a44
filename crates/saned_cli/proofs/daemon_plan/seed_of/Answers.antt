use Rattle.std.proofs.Common.{rules, ◌≡◌, Some, None, IfSome, option_map, string_bytes, subst, sym, refl}
use Rattle.saned_cli.specs.DaemonPlans.{IsSeedOf}
use Rattle.saned_cli.proofs.Seeds.{seed_read}
use Rattle.saned_cli.proofs.daemon_plan.seed_of.Goals as goal

pub returns-in-None-clause-some : goal.returns-in-None-clause-some
returns-in-None-clause-some c =
    let none : c.args.options.now.seed ≡ None = search rules in
    subst (λ seed. IsSeedOf (option_map string_bytes seed) _) (sym none) refl

pub returns-in-Some-clause-some : goal.returns-in-Some-clause-some
returns-in-Some-clause-some c =
    let some : c.args.options.now.seed ≡ Some c.in-Some.text = search rules in
    subst (λ seed. IfSome c.read_seed.result (IsSeedOf (option_map string_bytes seed))) (sym some)
    (seed_read _ c.read_seed.result (search rules))
