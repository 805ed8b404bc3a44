use Rattle.std.proofs.Common.{◌∙◌, sym, ap, option_map, rules}
use Rattle.dispatch.specs.Table.{Table, table, load_answer}
use Rattle.saned_core.specs.DaemonStates.{Core, core, seen_session_slot}
use Rattle.saned_core.specs.Loading.{holds, slot_load_answer}
use Rattle.saned_core.proofs.Firsts.{none_any, none_told}
use Rattle.saned_core.proofs.daemon.Daemon.load.Goals as goal

pub returns-in-Some-clause-answer : goal.returns-in-Some-clause-answer
returns-in-Some-clause-answer g c = rw (← c.self.view_is) (c.load_at.ensures.answer _)

pub returns-in-None-clause-answer : goal.returns-in-None-clause-answer
returns-in-None-clause-answer g c =
    let f = g.D.Device.state in
    let name = c.args.name.now in
    rw (← c.self.view_is)
    (c.load.ensures.answer ∙ sym (none_told (option_map (seen_session_slot f)) (holds name) (slot_load_answer name) c.self.inside.sessions.slots (load_answer (table f c.self.inside.sessions.registry) name) c.in-None.ensures.none))

pub returns-in-None-clause-after : goal.returns-in-None-clause-after
returns-in-None-clause-after g c =
    let f = g.D.Device.state in
    let d : Core = core f (record { slots = c.self.inside.sessions.slots; registry = c.self.inside.sessions.registry; users = c.self.inside.users; strings = c.self.inside.strings; stream = c.self.inside.challenger; opened = c.self.inside.opened }) in
    rw (← c.self.view_is)
    (rw (none_any (option_map (seen_session_slot f)) (holds c.args.name.now) c.self.inside.sessions.slots c.in-None.ensures.none)
    (ap (λ (r : Table). record d { registry = r }) (search rules)))
