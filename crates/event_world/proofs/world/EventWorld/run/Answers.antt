use Rattle.std.proofs.Common.{◌≡◌, ◌∙◌, List, rules, subst, sym}
use Rattle.std.proofs.lemmas.List.{map-id}
use Rattle.std.proofs.lemmas.Iterator.Adapters.{YieldsList-from_vec}
use Rattle.std.proofs.lemmas.Iterator.Consumers.{YieldsList-end}
use Rattle.page_sources.specs.SourceView.{source_state}
use Rattle.event_world.specs.declared.event.Event.{Event}
use Rattle.event_world.specs.Worlds.{Runs, seen_world}
use Rattle.event_world.proofs.Histories.{runs_more}
use Rattle.event_world.proofs.world.EventWorld.run.Goals as goal

pub loop-event-preserved : goal.loop-event-preserved
loop-event-preserved g c =
    runs_more source_state c.loop-event.yielded c.in-Some.event (seen_world g.D.Device.state c.args.self.now) (seen_world g.D.Device.state c.loop-event.self) (seen_world g.D.Device.state c.step.new.self) c.loop-event.invariant c.step.ensures

pub returns : goal.returns
returns g c =
    let end = YieldsList-end (YieldsList-from_vec {s = c.into_iter-event-iterator.result} c.args.events.items (search rules) (search rules)) c.loop-event.yielded c.loop-event.event-iterator c.loop-event.yielded_by c.next.result c.next.new.self c.in-None.is c.next.ensures.steps in
    let all : c.loop-event.yielded ≡ c.args.events.items = sym (map-id c.loop-event.yielded) ∙ end.0 in
    subst (λ (es : List Event). Runs source_state es (seen_world g.D.Device.state c.args.self.now) (seen_world g.D.Device.state c.loop-event.self)) all c.loop-event.invariant
