use Rattle.std.proofs.Common.{◌≡◌, ◌≢◌, true, false, Option, None, Some, is_some, [], refl, sym, ap, ◌∙◌, subst}
use Rattle.saned_core.specs.DaemonStates.{core}
use Rattle.saned_serve.specs.SessionActions.{ActsOn}
use Rattle.saned_serve.specs.SessionActions.SessionAction.{Lose}
use Rattle.saned_serve.specs.declared.link.SessionLink.{SessionLink}
use Rattle.saned_serve.proofs.ActionSteps.{goes_then}
use Rattle.saned_serve.proofs.DataActionSteps.{goes_dark, goes_shows_none, goes_shows, goes_shows_last, goes_shows_lost}
use Rattle.saned_serve.proofs.link.show.Goals as goal
use Rattle.saned_serve.proofs.link.show.Goals.{else-link-via-then-link+else-is_empty, else-link-via-else-link}

none_of : {A : Type 0} (o : Option A) → is_some o ≡ false → o ≡ None
none_of None e = refl
none_of (Some x) e = cc

pub returns-in-Nothing : goal.returns-in-Nothing
returns-in-Nothing g c = let n = g.L.Listeners.trace c.args.net.now in
    goes_then (c.fill_records.ensures n) (goes_shows_none g.L.Conn.Socket.history (core g.D.Device.state c.fill_records.new.daemon) n c.fill_records.new.link c.send_records.new.link c.in-Nothing.ensures.link c.in-Nothing.ensures.sends)

pub returns-in-Lost : goal.returns-in-Lost
returns-in-Lost g c = let n = g.L.Listeners.trace c.args.net.now in
    goes_then (c.fill_records.ensures n) (goes_shows_lost g.L.Conn.Socket.history (core g.D.Device.state c.fill_records.new.daemon) n c.fill_records.new.link c.send_records.new.link c.hang_up-in-Lost.new.link (core g.D.Device.state c.data_lost.new.self) (g.L.Listeners.trace c.hang_up-in-Lost.new.net) c.in-Lost.ensures.link c.in-Lost.ensures.sends (subst (λ i. ActsOn i (core g.D.Device.state c.fill_records.new.daemon) Lose (core g.D.Device.state c.data_lost.new.self)) (ap (λ (l : SessionLink g.row.L-Conn.Denot). l.id.number) c.in-Lost.ensures.link) c.data_lost.ensures) c.hang_up-in-Lost.ensures.link c.hang_up-in-Lost.ensures.net)

pub returns-then-is_empty : goal.returns-then-is_empty
returns-then-is_empty g c = let n = g.L.Listeners.trace c.args.net.now in
    goes_then (c.fill_records.ensures n) (goes_shows_last g.L.Conn.Socket.history (core g.D.Device.state c.fill_records.new.daemon) n c.fill_records.new.link c.send_records.new.link c.hang_up.new.link (g.L.Listeners.trace c.hang_up.new.net) c.in-Moved.field-0 c.in-Moved.ensures.link c.in-Moved.ensures.sends
    (sym (ap (λ (l : SessionLink g.row.L-Conn.Denot). l.is_last) c.in-Moved.ensures.link) ∙ c.if-link.true) (c.if-is_empty.ensures.0 refl) c.hang_up.ensures.link c.hang_up.ensures.net)

pub returns-else-link : goal.returns-else-link
returns-else-link g c =
    let n = g.L.Listeners.trace c.args.net.now in
    let same = ap (λ (l : SessionLink g.row.L-Conn.Denot). l.is_last) c.in-Moved.ensures.link in
    let more : c.fill_records.new.link.is_last ≡ true → c.send_records.new.link.records ≢ [] = λ last. elim c.else-link.branch [
      | else-link-via-then-link+else-is_empty w ↦ λ none. (let wrong : false ≡ true = w.if-is_empty.ensures.1 none in cc)
      | else-link-via-else-link w ↦ λ none. (let wrong : false ≡ true = sym w.if-link.false ∙ same ∙ last in cc)
    ] in
    goes_then (c.fill_records.ensures n) (goes_shows g.L.Conn.Socket.history (core g.D.Device.state c.fill_records.new.daemon) n c.fill_records.new.link c.send_records.new.link c.in-Moved.field-0 c.in-Moved.ensures.link c.in-Moved.ensures.sends more)

pub returns-then-is_none : goal.returns-then-is_none
returns-then-is_none g c = goes_dark g.L.Conn.Socket.history (core g.D.Device.state c.args.daemon.now) (g.L.Listeners.trace c.args.net.now) c.args.link.now (none_of c.args.link.now.image c.if-is_none.ensures)
