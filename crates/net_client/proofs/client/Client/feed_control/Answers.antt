use Rattle.std.proofs.Common.{◌≡◌, ◌∙◌, Some, refl, sym, ap, rules}
use Rattle.net_client.specs.ClientStates.{ClientState}
use Rattle.net_client.specs.ReplyPieces.{awaited_procedure, OutOfMemoryAtOnce}
use Rattle.net_client.proofs.Heeding.{fed_first, heard_more, takes_some, stop_starved, stops, starves}
use Rattle.net_client.proofs.client.Client.feed_control.Goals as goal

pub returns-then-is_err-clause-heeds : goal.returns-then-is_err-clause-heeds
returns-then-is_err-clause-heeds c = rw (← c.self.view_is, c.outcome_by.ensures) (λ running past serves. OutOfMemoryAtOnce (stop_starved _ past c.feed.new.self running serves))

pub loop-self-init : goal.loop-self-init
loop-self-init c = rw (← c.self.view_is) (λ past serves. fed_first _ past c.args.piece.now c.feed.new.self serves (search rules))

pub returns-in_default-read-clause-heeds : goal.returns-in_default-read-clause-heeds
returns-in_default-read-clause-heeds c = λ running past serves.
    let mid : ClientState = c.loop-self.self in
    let waits : awaited_procedure mid.progress ≡ Some c.in-Some.procedure = ap (λ (v : ClientState). awaited_procedure v.progress) (sym c.self-in-loop-self.view_is) ∙ sym c.awaited_procedure.ensures ∙ c.in-Some.is in
    stops c.args.self.now mid c.read.new.self past c.args.piece.now c.in-Some.procedure (c.loop-self.invariant past serves) (sym c.is_running-in-loop-self.ensures ∙ c.loop-self-test.true) waits (c.in_default-read.ensures.none refl)

pub returns-then-not-hear-clause-heeds : goal.returns-then-not-hear-clause-heeds
returns-then-not-hear-clause-heeds c = λ running past serves.
    starves c.args.self.now c.loop-self.self c.read.new.self c.hear.new.self past c.args.piece.now (c.loop-self.invariant past serves) (sym c.is_running-in-loop-self.ensures ∙ c.loop-self-test.true) c.in-Some-read.ensures.some.0 (c.hear.ensures.starved (search rules))

pub loop-self-smaller : goal.loop-self-smaller
loop-self-smaller c = rw c.hear.ensures.input (takes_some c.in-Some.procedure _ _ c.in-Some-read.reply c.in-Some-read.ensures.some.1)

pub loop-self-preserved : goal.loop-self-preserved
loop-self-preserved c = λ past serves.
    let mid : ClientState = c.loop-self.self in
    let waits : awaited_procedure mid.progress ≡ Some c.in-Some.procedure = ap (λ (v : ClientState). awaited_procedure v.progress) (sym c.self-in-loop-self.view_is) ∙ sym c.awaited_procedure.ensures ∙ c.in-Some.is in
    heard_more c.args.self.now mid c.read.new.self c.hear.new.self past c.args.piece.now c.in-Some.procedure c.in-Some-read.reply (c.loop-self.invariant past serves) waits c.in-Some-read.ensures.some.0 c.in-Some-read.ensures.some.1 (c.hear.ensures.heard (search rules))
