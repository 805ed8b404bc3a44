use Rattle.std.proofs.Common.{◌∙◌, ℕ, Option, Some, None, subst}
use Rattle.saned_core.specs.DaemonStates.{Core, core}
use Rattle.event_world.specs.declared.event.Event.{Event}
use Rattle.event_world.specs.declared.endpoint.Endpoint.{Endpoint}
use Rattle.event_world.specs.JobMoves.{IsNextMove}
use Rattle.event_world.proofs.world.EventWorld.next_move.Goals as goal

-- of the endpoint that is there
abbrev MoveAt : Core → ℕ → Option Event → Option Endpoint → Type 0
MoveAt d i event None = Unit {0}
MoveAt d i event (Some p) = IsNextMove d i p event

pub returns-in-Some-clause-is : goal.returns-in-Some-clause-is
returns-in-Some-clause-is g c = λ p e.
    subst (λ (o : Option Endpoint). MoveAt (core g.D.Device.state c.args.self.now.daemon) c.args.i c.job_event_of.result o) (c.in-Some.ensures ∙ e)
    (record { job_event = c.move_of.result; event_is = c.job_event_of.ensures; runs = rw (← c.self.view_is) c.move_of.ensures.runs; over = c.move_of.ensures.over })
