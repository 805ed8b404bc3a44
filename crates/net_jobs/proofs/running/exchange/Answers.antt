use Rattle.std.proofs.Common.{◌≡◌, ◌∙◌, ◌∷◌, length, [], None, false, not, take, refl, sym, ap, rules, arith}
use Rattle.std.proofs.lemmas.List.{length-take}
use Rattle.net_jobs.specs.Inside.{Quiet, ahead_of, left_ahead}
use Rattle.net_jobs.specs.JobJournal.{Writes, Fails}
use Rattle.client_replies.specs.ProtocolStates.{is_running}
use Rattle.net_client.specs.ClientStates.{ClientState}
use Rattle.net_client.specs.ToldPorts.{port_told}
use Rattle.net_jobs.proofs.Turning.{asks_behind, asks_told, dials_held, never_came, turn_writes, turn_fails, turn_dials, turn_hears, turn_prepares}
use Rattle.net_jobs.proofs.running.exchange.Goals as goal

pub returns-then-not-write_out-clause-moved : goal.returns-then-not-write_out-clause-moved
returns-then-not-write_out-clause-moved g c =
    let front = c.write_out.ensures.front c.if-not-write_out.true in (
      Fails (take front.0 c.args.client.now.out) ∷ [],
      Quiet (tt, tt, tt) never_came,
      turn_fails g.C.Read.remaining g.C.Write.contents g.D.Dial.ports g.D.Dial.prepared (left_ahead g.D.Conn.Read.remaining) _ [] c.args.client.now c.write_out.new.client c.link_lost.new.self c.args.control.now c.write_out.new.control c.args.dial.now (g.D.Dial.coming c.args.dial.now) (ahead_of c.args.stream.now c.args.ahead.now) _ _ _ _ front.0 c.requires.up c.write_out.ensures.reads.0
          (c.write_out.ensures.told ∙ ap not c.if-not-write_out.true) front.1 front.2 c.write_out.ensures.rest c.link_lost.ensures.lost refl,
    )

pub returns-in-Some-clause-moved : goal.returns-in-Some-clause-moved
returns-in-Some-clause-moved g c =
    let wrote = turn_writes g.C.Read.remaining g.C.Write.contents g.D.Dial.ports g.D.Dial.prepared (left_ahead g.D.Conn.Read.remaining) _ [] c.args.client.now c.write_out.new.client c.args.control.now c.write_out.new.control c.args.dial.now (g.D.Dial.coming c.args.dial.now) (ahead_of c.args.stream.now c.args.ahead.now) c.args.tally.now.loss None c.args.tally.now.write_failed false
    c.requires.up (sym c.requires.held) refl (c.write_out.ensures.whole (search rules)) (c.write_out.ensures.none (search rules)) c.write_out.ensures.rest refl in
    turn_dials g.C.Read.remaining g.C.Write.contents g.D.Dial.ports g.D.Dial.prepared (left_ahead g.D.Conn.Read.remaining) _ (Writes c.args.client.now.out ∷ []) c.write_out.new.client c.connect.new.client c.write_out.new.control c.args.dial.now c.connect.new.dial _ _ (ahead_of c.args.stream.now c.args.ahead.now) (ahead_of c.connect.result c.args.ahead.now) _ false _ c.in-Some.port refl
    (c.connect.ensures.writes.0 ∙ c.write_out.ensures.told ∙ ap not c.if-not-write_out.false) c.connect.ensures.asked c.connect.ensures.kept (c.connect.ensures.dialled c.args.ahead.now) wrote (tt, tt, tt)

pub returns-clause-moved : goal.returns-clause-moved
returns-clause-moved g c =
    let wrote = turn_writes g.C.Read.remaining g.C.Write.contents g.D.Dial.ports g.D.Dial.prepared (left_ahead g.D.Conn.Read.remaining) _ [] c.args.client.now c.write_out.new.client c.args.control.now c.write_out.new.control c.args.dial.now (g.D.Dial.coming c.args.dial.now) (ahead_of c.args.stream.now c.args.ahead.now) c.args.tally.now.loss None c.args.tally.now.write_failed false
    c.requires.up (sym c.requires.held) refl (c.write_out.ensures.whole (search rules)) (c.write_out.ensures.none (search rules)) c.write_out.ensures.rest refl in
    let told = turn_prepares g.C.Read.remaining g.C.Write.contents g.D.Dial.ports g.D.Dial.prepared (left_ahead g.D.Conn.Read.remaining) _ (Writes c.args.client.now.out ∷ []) c.write_out.new.client c.write_out.new.control c.args.dial.now c.prepare.new.dial (g.D.Dial.coming c.args.dial.now) (g.D.Dial.coming c.prepare.new.dial) (ahead_of c.args.stream.now c.args.ahead.now) false _ refl
    (ap (λ (v : ClientState). is_running v.outcome) c.write_out.ensures.rest ∙ c.requires.running) (c.write_out.ensures.none (search rules)) (asks_told c.has_out-has_asked.result (port_told c.write_out.new.client.progress)) (λ port e. asks_behind c.args.client.now.out c.has_out-has_asked.result (port_told c.write_out.new.client.progress) port c.has_out-has_asked.ensures e) c.prepare.ensures.told c.prepare.ensures.ports c.prepare.ensures.coming wrote (tt, tt, tt) in
    turn_hears g.C.Read.remaining g.C.Write.contents g.D.Dial.ports g.D.Dial.prepared (left_ahead g.D.Conn.Read.remaining) _ told.moves c.write_out.new.client c.hear.new.client c.write_out.new.control c.hear.new.control told.dial c.prepare.new.dial told.coming (g.D.Dial.coming c.prepare.new.dial) (ahead_of c.args.stream.now c.args.ahead.now) _ false _ refl
    (c.hear.ensures.writes.0 ∙ c.write_out.ensures.told ∙ ap not c.if-not-write_out.false) told.ports_are told.coming_is c.hear.ensures.heard told.leads told.quiet

pub returns-in-Some-clause-held : goal.returns-in-Some-clause-held
returns-in-Some-clause-held g c = dials_held (left_ahead g.D.Conn.Read.remaining) c.write_out.new.client c.connect.new.client _ _ c.in-Some.port (ahead_of c.connect.result []) c.connect.new.tally.loss (c.connect.ensures.dialled [])

pub slice_bounds-hear-end-2 : goal.slice_bounds-hear-end-2
slice_bounds-hear-end-2 g c = let all : 4096 ≡ length (take 4096 c.write_out.new.room) = omega (arith, length-take 4096 c.write_out.new.room, c.requires.room, c.write_out.ensures.room) in all

pub hear-requires-clause-few : goal.hear-requires-clause-few
hear-requires-clause-few g c = omega (arith, length-take 4096 c.write_out.new.room)
