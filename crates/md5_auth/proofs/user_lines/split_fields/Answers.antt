use Rattle.std.proofs.lemmas.Bool.{eqb-true}
use Rattle.md5_auth.proofs.UserFieldLemmas.{no_colon, one_colon, three_colons}
use Rattle.md5_auth.proofs.user_lines.split_fields.Goals as goal

pub returns-in_err-user-clause-none : goal.returns-in_err-user-clause-none
returns-in_err-user-clause-none c = rw c.from_residual.ensures (no_colon _ c.in_err-user.ensures.none)

pub returns-in_err-password-clause-none : goal.returns-in_err-password-clause-none
returns-in_err-password-clause-none c =
    rw c.from_residual-in_err-password.ensures (one_colon _ _ _ c.in_ok-user.ensures.found c.in_err-password.ensures.none)

pub returns-then-contains-clause-none : goal.returns-then-contains-clause-none
returns-then-contains-clause-none c =
    let some = c.if-contains.ensures.cases in
    three_colons _ _ _ _ _ c.in_ok-user.ensures.found c.in_ok-password.ensures.found (some.0, some.1, eqb-true _ 58 (some.2 58))
