use Rattle.std.proofs.Common.{◌≡◌, ◌∙◌, [], None, true, refl, rules, sym, ap}
use Rattle.std.proofs.KnownBytes.{Consumes-nil}
use Rattle.net_jobs.specs.Inside.{CallNotes, Quiet, ahead_of, left_ahead}
use Rattle.net_jobs.specs.Links.{views_of}
use Rattle.net_jobs.specs.declared.calls.CallTally.{CallTally}
use Rattle.net_jobs.proofs.Turning.{loop_at, never_came, same_notes, turn_from, turn_resumes, turn_sees, turn_used_up}
use Rattle.net_jobs.proofs.running.go_on.Goals as goal

pub returns-then-not-take_turn-clause-moved : goal.returns-then-not-take_turn-clause-moved
returns-then-not-take_turn-clause-moved g c =
    let used = c.take_turn.ensures.used_up c.if-not-take_turn.true in
    turn_used_up (views_of g.C.Read.remaining g.C.Write.contents g.D.Dial.ports g.D.Dial.prepared) (left_ahead g.D.Conn.Read.remaining) c.args.client.now c.link_lost.new.self (record { control = c.args.control.now; dial = c.args.dial.now }) (g.D.Dial.coming c.args.dial.now) (ahead_of c.args.stream.now c.args.ahead.now) c.args.tally.now.loss c.take_turn.new.self.loss
    c.args.tally.now.write_failed c.take_turn.new.self.write_failed (Consumes-nil _) c.requires.up (ap (λ (t : CallTally). t.write_failed) used) (ap (λ (t : CallTally). t.loss) used) c.requires.running c.link_lost.ensures.lost

pub returns-in_default-clause-moved : goal.returns-in_default-clause-moved
returns-in_default-clause-moved g c =
    let taken = c.take_turn.ensures.taken c.if-not-take_turn.false in
    let notes = same_notes c.take_turn.new.self.loss c.args.tally.now.loss c.take_turn.new.self.write_failed c.args.tally.now.write_failed (ap (λ (t : CallTally). t.loss) taken) (ap (λ (t : CallTally). t.write_failed) taken) in
    let none : c.take.new.self ≡ c.args.stream.now = search rules in
    ([], Quiet tt never_came, ap (λ (n : CallNotes). record { client = c.args.client.now; links = record { control = c.args.control.now; dial = c.args.dial.now }; coming = g.D.Dial.coming c.args.dial.now; stream = ahead_of c.take.new.self c.args.ahead.now; notes = n }) notes ∙ ap (λ o. loop_at c.args.client.now (record { control = c.args.control.now; dial = c.args.dial.now }) (g.D.Dial.coming c.args.dial.now) (ahead_of o c.args.ahead.now) c.args.tally.now.loss c.args.tally.now.write_failed) none)

pub returns-then-is_receiving-clause-moved : goal.returns-then-is_receiving-clause-moved
returns-then-is_receiving-clause-moved g c =
    let taken = c.take_turn.ensures.taken c.if-not-take_turn.false in
    turn_from (views_of g.C.Read.remaining g.C.Write.contents g.D.Dial.ports g.D.Dial.prepared) (left_ahead g.D.Conn.Read.remaining) true c.args.client.now (record { control = c.args.control.now; dial = c.args.dial.now }) (g.D.Dial.coming c.args.dial.now) (ahead_of c.args.stream.now c.args.ahead.now) c.args.tally.now.loss None c.args.tally.now.write_failed _ _ (sym c.requires.held) refl
    (turn_sees (views_of g.C.Read.remaining g.C.Write.contents g.D.Dial.ports g.D.Dial.prepared) (left_ahead g.D.Conn.Read.remaining) c.args.client.now c.see.new.client (record { control = c.args.control.now; dial = c.args.dial.now }) (g.D.Dial.coming c.args.dial.now) (ahead_of c.args.stream.now c.args.ahead.now) (ahead_of c.see.result c.see.new.room) _ c.see.new.tally.loss
    c.args.tally.now.write_failed c.see.new.tally.write_failed (Consumes-nil _) (ap (λ o. ahead_of o c.args.ahead.now) (sym c.take.ensures.value ∙ c.in-Some.is)) c.requires.up (c.see.ensures.writes.0 ∙ ap (λ (t : CallTally). t.write_failed) taken) c.see.ensures.seen)

pub returns-then-looks_again-clause-moved : goal.returns-then-looks_again-clause-moved
returns-then-looks_again-clause-moved g c =
    let taken = c.take_turn.ensures.taken c.if-not-take_turn.false in
    let loss = ap (λ (t : CallTally). t.loss) taken in
    let failed = ap (λ (t : CallTally). t.write_failed) taken in
    turn_from (views_of g.C.Read.remaining g.C.Write.contents g.D.Dial.ports g.D.Dial.prepared) (left_ahead g.D.Conn.Read.remaining) true c.args.client.now (record { control = c.args.control.now; dial = c.args.dial.now }) (g.D.Dial.coming c.args.dial.now) (ahead_of c.args.stream.now c.args.ahead.now) c.args.tally.now.loss c.take_turn.new.self.loss c.args.tally.now.write_failed c.take_turn.new.self.write_failed _ loss failed
    (turn_resumes (views_of g.C.Read.remaining g.C.Write.contents g.D.Dial.ports g.D.Dial.prepared) (left_ahead g.D.Conn.Read.remaining) c.args.client.now c.feed_control.new.self (record { control = c.args.control.now; dial = c.args.dial.now }) (g.D.Dial.coming c.args.dial.now) (ahead_of c.args.stream.now c.args.ahead.now) c.take_turn.new.self.loss c.take_turn.new.self.write_failed (failed ∙ c.requires.up)
    (record { running = c.requires.running; quiet = sym c.is_receiving.ensures ∙ c.if-is_receiving.false; heeds = λ past serves. c.feed_control.ensures.heeds c.requires.running past serves }) (c.looks_again.ensures.early c.if-looks_again.true))

pub returns-clause-moved : goal.returns-clause-moved
returns-clause-moved g c =
    let taken = c.take_turn.ensures.taken c.if-not-take_turn.false in
    turn_from (views_of g.C.Read.remaining g.C.Write.contents g.D.Dial.ports g.D.Dial.prepared) (left_ahead g.D.Conn.Read.remaining) c.exchange.result c.args.client.now (record { control = c.args.control.now; dial = c.args.dial.now }) (g.D.Dial.coming c.args.dial.now) (ahead_of c.args.stream.now c.args.ahead.now) c.args.tally.now.loss c.take_turn.new.self.loss c.args.tally.now.write_failed c.take_turn.new.self.write_failed _
    (ap (λ (t : CallTally). t.loss) taken) (ap (λ (t : CallTally). t.write_failed) taken) c.exchange.ensures.moved
