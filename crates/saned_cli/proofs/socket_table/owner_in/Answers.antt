use Rattle.std.proofs.Common.{◌≤◌, ◌^◌, ℕ, Option, arith, subst, sym}
use Rattle.std.specs.Prelude.{IfNone}
use Rattle.saned_cli.proofs.SocketLines.{if_none_map, large_number, too_large}
use Rattle.saned_cli.proofs.socket_table.owner_in.Goals as goal

pub returns-clause-none : goal.returns-clause-none
returns-clause-none c =
    let large : IfNone c.ok.result (2 ^ 32 ≤ c.in_ok-user.user) = subst (λ (o : Option ℕ). IfNone o (2 ^ 32 ≤ c.in_ok-user.user)) (sym c.ok.ensures.value) (too_large c.try_from.result c.in_ok-user.user c.try_from.ensures) in
    if_none_map c.ok.result large (λ over. large_number c.args.line.now c.in_ok-field_at.field-0.now c.in_ok-user.user (sym c.in_ok-field_at.ensures) c.in_ok-user.ensures.some (omega arith) over)
