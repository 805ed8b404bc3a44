use Rattle.std.proofs.Common.{refl, sym, subst, true, false, rules}
use Rattle.saned_serve.specs.Inside.{JournalGoesOn, session_turn}
use Rattle.saned_serve.specs.Inside.TurnPhase.{Ready, Spoken}
use Rattle.saned_serve.proofs.ActionSteps.{goes_finishes, goes_says, goes_unsaid, goes_dies}
use Rattle.saned_serve.proofs.link.send_replies.Goals as goal

pub returns-then-is_empty : goal.returns-then-is_empty
returns-then-is_empty g c = λ d n.
    subst (λ k. JournalGoesOn g.C.Socket.history (session_turn Ready d n c.args.link.now) false (session_turn Spoken d n k)) (sym c.finish.ensures) (goes_finishes g.C.Socket.history d n c.args.link.now (c.if-is_empty.ensures.0 refl))

pub returns-in-Moved : goal.returns-in-Moved
returns-in-Moved g c = λ d n.
    subst (λ r. JournalGoesOn g.C.Socket.history (session_turn Ready d n c.args.link.now) true (session_turn Spoken d n (record c.args.link.now { conn = c.write_to.new.conn; replies = r }))) (sym c.in-Moved.ensures.rest)
    (goes_says g.C.Socket.history d n c.args.link.now c.write_to.new.conn c.in-Moved.field-0 (λ none. search rules) c.in-Moved.ensures.told)

pub returns-in-Nothing : goal.returns-in-Nothing
returns-in-Nothing g c = λ d n.
    subst (λ r. JournalGoesOn g.C.Socket.history (session_turn Ready d n c.args.link.now) false (session_turn Spoken d n (record c.args.link.now { conn = c.write_to.new.conn; replies = r }))) (sym c.in-Nothing.ensures.rest)
    (goes_unsaid g.C.Socket.history d n c.args.link.now c.write_to.new.conn (λ none. search rules) c.in-Nothing.ensures.told)

pub returns-in-Lost : goal.returns-in-Lost
returns-in-Lost g c = λ d n.
    subst (λ r. JournalGoesOn g.C.Socket.history (session_turn Ready d n c.args.link.now) true (session_turn Spoken d n (record c.args.link.now { conn = c.write_to.new.conn; replies = r; is_done = true }))) (sym c.in-Lost.ensures.rest)
    (goes_dies g.C.Socket.history d n c.args.link.now c.write_to.new.conn (λ none. search rules) c.in-Lost.ensures.told)
