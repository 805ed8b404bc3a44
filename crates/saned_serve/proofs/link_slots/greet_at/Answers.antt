use Rattle.std.proofs.Common.{sym, ◌∙◌, slice_set, arith, rules}
use Rattle.saned_core.specs.DaemonStates.{core}
use Rattle.std.proofs.lemmas.List.Elements.{All-set}
use Rattle.saned_serve.specs.Inside.{HasRooms}
use Rattle.saned_serve.proofs.SlotGreeting.{link_at_get, link_at_set, link_at_off, stands_greets}
use Rattle.saned_serve.proofs.link_slots.greet_at.Goals as goal

pub greet-requires : goal.greet-requires
greet-requires g c = (search rules, (sym (link_at_get c.args.slots.now c.args.i c.index-slots-i.result c.requires.inside) ∙ c.requires.none, c.requires.roomed c.args.i c.index-slots-i.result c.requires.inside))

pub returns-clause-went : goal.returns-clause-went
returns-clause-went g c = λ start past anew was.
    let slots = c.args.slots.now in
    let i = c.args.i in
    let slot = c.greet.new.slot in
    stands_greets g.L.Conn.Socket.history start.daemon start.listeners past (core g.D.Device.state c.args.daemon.now) (g.L.Listeners.trace c.args.net.now) slots anew was c.greet.result (core g.D.Device.state c.greet.new.daemon) (g.L.Listeners.trace c.greet.new.net) (slice_set slots i slot) i slot.link
    (let inside = c.requires.inside in let len = c.requires.len in omega (arith, inside, len)) c.requires.none c.greet.ensures.greets (link_at_set slots i slot c.requires.inside) (link_at_off slots i slot)

pub returns-clause-roomed : goal.returns-clause-roomed
returns-clause-roomed g c = All-set HasRooms c.args.slots.now c.args.i c.greet.new.slot c.greet.ensures.roomed c.requires.roomed
