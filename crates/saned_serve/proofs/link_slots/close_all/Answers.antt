use Rattle.std.proofs.Common.{◌≡◌, ◌∷◌, [], suc, length, List, refl, sym, subst, arith, rules}
use Rattle.saned_core.specs.DaemonStates.{core}
use Rattle.saned_serve.specs.Inside.{LoopInvariant, Shuts, serving_state}
use Rattle.saned_serve.proofs.SlotGreeting.{shuts_here, stands_pops, stands_ends}
use Rattle.saned_serve.proofs.DataActionSteps.{closing_then}
use Rattle.saned_serve.proofs.link_slots.close_all.Goals as goal

no_items : {A : Type 0} (xs : List A) → length xs ≡ 0 → xs ≡ []
no_items [] e = refl
no_items (x ∷ xs) e = absurd (let wrong : suc (length xs) ≡ 0 = e in omega (arith, wrong))

pub loop-slot-preserved : goal.loop-slot-preserved
loop-slot-preserved g c = λ start past stopped was.
    let history = g.L.Conn.Socket.history in
    let mid = c.loop-slot.invariant start past stopped was in
    let d = core g.D.Device.state c.loop-slot.daemon in
    let e = core g.D.Device.state c.vacate.new.daemon in
    let n = g.L.Listeners.trace c.loop-slot.net in
    let rest = c.pop.new.self.items in
    let next = stands_pops history start.daemon start.listeners mid.journal d n rest c.in-Some.slot mid.stopped
    (subst (λ xs. LoopInvariant history start mid.journal (serving_state d n 0 xs)) c.in-Some.ensures.items mid.stands) e (g.L.Listeners.trace c.vacate.new.net) c.in-Some.slot.link refl c.vacate.ensures.empties in
    let here : Shuts history start.daemon start.listeners past e (g.L.Listeners.trace c.vacate.new.net) rest = record { journal = next.journal; closing = closing_then past mid.journal next.journal mid.closing next.closing; stands = next.stands; stopped = next.stopped } in
    subst (λ x. Shuts history start.daemon start.listeners past e x rest) (sym c.dismiss.ensures) here

pub returns : goal.returns
returns g c = λ start past stopped was.
    let history = g.L.Conn.Socket.history in
    let d = core g.D.Device.state c.loop-slot.daemon in
    let n = g.L.Listeners.trace c.loop-slot.net in
    stands_ends history start.daemon start.listeners past d n (subst (λ xs. Shuts history start.daemon start.listeners past d n xs) (no_items c.loop-slot.slots.items (search rules)) (c.loop-slot.invariant start past stopped was))

pub loop-slot-init : goal.loop-slot-init
loop-slot-init g c = λ start past stopped was.
    shuts_here g.L.Conn.Socket.history start.daemon start.listeners past (core g.D.Device.state c.args.daemon.now) (g.L.Listeners.trace c.args.net.now) c.args.slots.items stopped was
