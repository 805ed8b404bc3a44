use Rattle.std.proofs.Common.{◌++◌, take, drop, length, refl, sym, ◌∙◌, ap, subst, All, [], ◌∷◌, rules}
use Rattle.saned_core.specs.DaemonStates.{core}
use Rattle.saned_serve.specs.Journal.LoopAction.{Stops}
use Rattle.saned_serve.specs.Inside.{LoopInvariant, HasRooms, serving_state}
use Rattle.saned_serve.proofs.SlotGreeting.{stands_begins, stands_stops, served_none, take_front}
use Rattle.saned_serve.proofs.serving.serve.Goals as goal

pub returns-in-Err-clause-served : goal.returns-in-Err-clause-served
returns-in-Err-clause-served g c = served_none (core g.D.Device.state c.args.daemon.now) (g.L.Listeners.trace c.args.net.now) c.args.sessions c.args.idle_turns

pub returns-clause-served : goal.returns-clause-served
returns-clause-served g c =
    let history = g.L.Conn.Socket.history in
    let d0 = core g.D.Device.state c.args.daemon.now in
    let n0 = g.L.Listeners.trace c.args.net.now in
    let d1 = core g.D.Device.state c.take_turns-end.new.daemon in
    let n1 = g.L.Listeners.trace c.take_turns-end.new.net in
    let begins = stands_begins history d0 n0 c.in-Ok.slots.items c.in-Ok.ensures.empty in
    let ran = c.take_turns-end.ensures.ran (record { daemon = d0; listeners = n0 }) (subst (λ xs. LoopInvariant history (record { daemon = d0; listeners = n0 }) [] (serving_state d0 n0 0 xs)) (sym c.as_mut_slice.ensures.value) begins) in
    let len = c.take_turns-end.auto.slots ∙ c.as_mut_slice.ensures.len in
    let stopped = stands_stops history d0 n0 ran.journal d1 n1 c.take_turns-end.new.slots ran.stands in
    let closed = c.close_all.ensures (record { daemon = d0; listeners = n0 }) (Stops ∷ ran.journal) refl (subst (λ xs. LoopInvariant history (record { daemon = d0; listeners = n0 }) (Stops ∷ ran.journal) (serving_state d1 n1 0 xs))
    (sym (ap (λ k. take k (c.take_turns-end.new.slots ++ drop (length c.take_turns-end.new.slots) c.in-Ok.slots.items)) (sym len) ∙ take_front c.take_turns-end.new.slots (drop (length c.take_turns-end.new.slots) c.in-Ok.slots.items))) stopped) in
    record { turns = ran.journal; journal = closed.journal; closing = closed.closing; leads = closed.leads; over = closed.over; ends = ran.ends }

pub take_turns-end-requires : goal.take_turns-end-requires
take_turns-end-requires g c = (search rules, (ap length c.as_mut_slice.ensures.value ∙ c.in-Ok.ensures.len, subst (λ xs. All HasRooms xs) (sym c.as_mut_slice.ensures.value) c.in-Ok.ensures.roomed))
