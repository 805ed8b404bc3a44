use Rattle.std.proofs.Common.{sym, ◌∙◌, ◌+◌, subst, get_or, slice_set}
use Rattle.std.proofs.lemmas.List.Elements.{All-set}
use Rattle.saned_core.specs.DaemonStates.{core}
use Rattle.saned_serve.specs.Inside.{HasRooms, WentOn, IsToBeLeft, one_if, serving_state}
use Rattle.saned_serve.proofs.SlotGreeting.{link_at_get, link_at_set, link_at_off, stands_keeps, stands_empties}
use Rattle.saned_serve.proofs.link_slots.turn_at.Goals as goal

pub returns-else-visit-clause-went : goal.returns-else-visit-clause-went
returns-else-visit-clause-went g c = λ start past asked was.
    let slots = c.args.slots.now in
    let i = c.args.i in
    let slot1 = c.serve_slot-visit.new.slot in
    let history = g.L.Conn.Socket.history in
    let d1 = core g.D.Device.state c.serve_slot-visit.new.daemon in
    let n1 = g.L.Listeners.trace c.serve_slot-visit.new.net in
    let stir = c.serve_slot-visit.result.has_moved in
    let left = subst (λ b. IsToBeLeft b slot1.link) c.if-visit.false c.serve_slot-visit.ensures.left in
    let end = stands_keeps history start.daemon start.listeners past (core g.D.Device.state c.args.daemon.now) (g.L.Listeners.trace c.args.net.now) slots i asked was stir d1 n1 (slice_set slots i slot1) (get_or slots i c.index-slots-i.result).link slot1.link
    (link_at_get slots i c.index-slots-i.result c.requires.inside) c.serve_slot-visit.ensures.keeps left (link_at_set slots i slot1 c.requires.inside) (link_at_off slots i slot1) in
    subst (λ b. WentOn history start past (record { has_moved = stir; left = (one_if b) }) (serving_state d1 n1 (i + 1) (slice_set slots i slot1))) (sym c.if-visit.false) end

pub returns-then-visit-clause-went : goal.returns-then-visit-clause-went
returns-then-visit-clause-went g c = λ start past asked was.
    let slots = c.args.slots.now in
    let i = c.args.i in
    let slot1 = c.serve_slot-visit.new.slot in
    let slot2 = c.vacate.new.slot in
    let history = g.L.Conn.Socket.history in
    let d1 = core g.D.Device.state c.serve_slot-visit.new.daemon in
    let d2 = core g.D.Device.state c.vacate.new.daemon in
    let n1 = g.L.Listeners.trace c.serve_slot-visit.new.net in
    let n2 = g.L.Listeners.trace c.vacate.new.net in
    let stir = c.serve_slot-visit.result.has_moved in
    let left = subst (λ b. IsToBeLeft b slot1.link) c.if-visit.true c.serve_slot-visit.ensures.left in
    let end = stands_empties history start.daemon start.listeners past (core g.D.Device.state c.args.daemon.now) (g.L.Listeners.trace c.args.net.now) slots i asked was stir d1 n1 d2 n2 (slice_set slots i slot2) (get_or slots i c.index-slots-i.result).link slot1.link
    (link_at_get slots i c.index-slots-i.result c.requires.inside) c.serve_slot-visit.ensures.keeps left c.vacate.ensures.empties (link_at_set slots i slot2 c.requires.inside ∙ c.vacate.ensures.none) (link_at_off slots i slot2) in
    subst (λ b. WentOn history start past (record { has_moved = stir; left = (one_if b) }) (serving_state d2 n2 (i + 1) (slice_set slots i slot2))) (sym c.if-visit.true) end

pub returns-else-visit-clause-roomed : goal.returns-else-visit-clause-roomed
returns-else-visit-clause-roomed g c = All-set HasRooms c.args.slots.now c.args.i c.serve_slot-visit.new.slot (c.serve_slot-visit.ensures.roomed (c.requires.roomed c.args.i c.index-slots-i.result c.requires.inside)) c.requires.roomed

pub returns-then-visit-clause-roomed : goal.returns-then-visit-clause-roomed
returns-then-visit-clause-roomed g c = All-set HasRooms c.args.slots.now c.args.i c.vacate.new.slot (c.vacate.ensures.roomed (c.serve_slot-visit.ensures.roomed (c.requires.roomed c.args.i c.index-slots-i.result c.requires.inside))) c.requires.roomed
