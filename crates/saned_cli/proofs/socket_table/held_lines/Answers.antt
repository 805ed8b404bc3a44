use Rattle.std.proofs.Common.{◌++◌, List, ℕ, ap, sym, ◌∙◌}
use Rattle.std.specs.Prelude.{map}
use Rattle.saned_cli.proofs.SocketLines.{gone_on, held, not_held, ended}
use Rattle.saned_cli.proofs.socket_table.held_lines.Goals as goal

pub loop-line-preserved-in_ok-add : goal.loop-line-preserved-in_ok-add
loop-line-preserved-in_ok-add c =
    gone_on _ _ _ _ _ _ c.in_ok-add.ensures (held _ _ _ _ _ c.in-Some.ensures.lines (sym c.is_socket_to.ensures ∙ c.if-is_socket_to.true)) c.loop-line.invariant

pub loop-line-preserved : goal.loop-line-preserved
loop-line-preserved c =
    ap (λ (l : List (List ℕ)). map (λ line. line.now) c.loop-line.lines.items ++ l) (sym (not_held _ _ _ _ _ c.in-Some.ensures.lines (sym c.is_socket_to.ensures ∙ c.if-is_socket_to.false))) ∙ c.loop-line.invariant

pub returns : goal.returns
returns c = ended _ _ _ _ _ (c.in_default.ensures.lines) c.loop-line.invariant
