use Rattle.std.proofs.Common.{◌≡◌, true, false, refl, rules, ◌∙◌, ap, sym, Option, None, Some, is_some}
use Rattle.saned_core.specs.DaemonStates.{core, is_waiting}
use Rattle.saned_core.specs.declared.session_slot.FrameState.TheVariants.{Quiet, Waiting, Streaming, Ending}
use Rattle.saned_core.specs.declared.session_slot.FrameState.{FrameState}
use Rattle.saned_serve.proofs.DataActionSteps.{goes_dials, goes_misses, goes_looks, goes_images}
use Rattle.saned_serve.proofs.link.dial.Goals as goal

none_of : {A : Type 0} (o : Option A) → is_some o ≡ false → o ≡ None
none_of None e = refl
none_of (Some x) e = cc

rests : (frame : FrameState) → (frame ≡ Waiting → ⊥) → is_waiting frame ≡ false
rests Quiet off = refl
rests Waiting off = absurd (off refl)
rests Streaming off = refl
rests Ending off = refl

pub returns-then-not-data_connected : goal.returns-then-not-data_connected
returns-then-not-data_connected g c =
    let waits : true ≡ false = ap is_waiting c.in-Waiting.ensures ∙ sym c.if-not-data_connected.ensures.answer in
    absurd (let wrong = waits in cc)

pub returns-in_default-replace : goal.returns-in_default-replace
returns-in_default-replace g c =
    goes_dials g.L.Conn.Socket.history (core g.D.Device.state c.args.daemon.now) (g.L.Listeners.trace c.args.net.now) c.args.link.now (core g.D.Device.state c.data_connected.new.self) (g.L.Listeners.trace c.accept_data.new.self) Waiting _ _ c.in-Some.conn
    (search rules) c.in-Waiting.ensures (search rules) c.clear.ensures c.in-Some.ensures.fresh (record { waits = sym c.data_connected.ensures.answer ∙ c.if-not-data_connected.false; after = c.data_connected.ensures.after }) c.in-Some.ensures.told

pub returns-in_default-accept_data : goal.returns-in_default-accept_data
returns-in_default-accept_data g c =
    goes_misses g.L.Conn.Socket.history (core g.D.Device.state c.args.daemon.now) (g.L.Listeners.trace c.args.net.now) c.args.link.now (g.L.Listeners.trace c.accept_data.new.self) Waiting (none_of c.args.link.now.image (sym c.if-is_some.ensures)) c.in-Waiting.ensures refl c.in_default-accept_data.ensures.told

pub returns-then-is_some : goal.returns-then-is_some
returns-then-is_some g c = goes_images g.L.Conn.Socket.history (core g.D.Device.state c.args.daemon.now) (g.L.Listeners.trace c.args.net.now) c.args.link.now (sym c.if-is_some.ensures)

pub returns-in_default : goal.returns-in_default
returns-in_default g c =
    goes_looks g.L.Conn.Socket.history (core g.D.Device.state c.args.daemon.now) (g.L.Listeners.trace c.args.net.now) c.args.link.now c.frame.result (none_of c.args.link.now.image (sym c.if-is_some.ensures)) c.frame.ensures (rests c.frame.result c.in_default.not-Waiting)
