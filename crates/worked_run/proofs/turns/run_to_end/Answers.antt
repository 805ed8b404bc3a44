use Rattle.std.specs.Prelude.{not}
use Rattle.std.proofs.Common.{◌≡◌, ◌∙◌, Bool, true, false, refl, sym}
use Rattle.client_replies.specs.ProtocolStates.{is_running}
use Rattle.worked_run.proofs.turns.run_to_end.Goals as goal

is_off : (b : Bool) → not b ≡ true → b ≡ false
is_off true e = absurd (let clash : false ≡ true = e in cc)
is_off false e = refl

pub loop-turn-init : goal.loop-turn-init
loop-turn-init g c = λ first job start is rest. rest

pub loop-turn-preserved : goal.loop-turn-preserved
loop-turn-preserved g c = λ first job start is rest. c.take_turn.ensures first c.if-not-take_turn.false job start is (c.loop-turn.invariant first job start is rest)

pub returns-then-is_over-clause-rests : goal.returns-then-is_over-clause-rests
returns-then-is_over-clause-rests g c = λ first on job start is rest. c.loop-turn.invariant first job start is rest

pub returns-then-is_over-clause-over : goal.returns-then-is_over-clause-over
returns-then-is_over-clause-over g c = λ on. is_off (is_running c.loop-turn.client.outcome) (sym c.is_over.ensures ∙ c.if-is_over.true)
