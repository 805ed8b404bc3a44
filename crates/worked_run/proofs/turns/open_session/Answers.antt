use Rattle.std.proofs.Common.{◌≡◌, ◌∙◌, ℕ, List, [], take, sym, ap, subst, arith}
use Rattle.saned_core.specs.DaemonStates.{Core, core, after_open_session}
use Rattle.saned_serve.specs.SessionActions.{AreRepliesTaken, IsOpened}
use Rattle.worked_run.proofs.Parts.{first_turn}
use Rattle.worked_run.proofs.turns.open_session.Goals as goal

-- nothing is taken
none_taken : (d e : Core) (id n : ℕ) (room : List ℕ) → id ≡ 0 → n ≡ 0 → AreRepliesTaken d id 4096 (take n room) e → AreRepliesTaken d 0 4096 [] e
none_taken d e id n room first none t = subst (λ (k : ℕ). AreRepliesTaken d k 4096 [] e) first (subst (λ (k : ℕ). AreRepliesTaken d id 4096 (take k room) e) none t)

pub returns-clause-rest : goal.returns-clause-rest
returns-clause-rest g c = λ none job client new.
    let start = core g.D.Device.state c.args.daemon.now in
    let mid = core g.D.Device.state c.open_session.new.self in
    let end = core g.D.Device.state c.take_replies.new.daemon in
    let ok = c.in-Ok.ensures.ok in
    let first : c.in-Ok.id.number ≡ 0 = ok.0 ∙ none in
    let opened : IsOpened start 1 0 mid = record { room = c.in-Ok.ensures.room; numbered = sym none; after = ok.1 } in
    first_turn job start mid end client 1 none opened (none_taken mid end c.in-Ok.id.number c.take_replies.result c.take_replies.new.room first (omega (arith, c.if-take_replies-gt0.false)) c.take_replies.ensures.taken) new
