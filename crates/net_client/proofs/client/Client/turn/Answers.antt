use Rattle.std.proofs.Common.{◌≡◌, ◌≤◌, ◌∙◌, true, false, ap, arith}
use Rattle.scan_job.specs.declared.outcome.Outcome.{Outcome}
use Rattle.scan_job.specs.declared.outcome.Outcome.TheVariants.{Running, Done, Ended}
use Rattle.client_replies.specs.declared.progress.Progress.TheVariants as stages
use Rattle.client_replies.specs.ProtocolStates.{turns}
use Rattle.net_client.specs.ClientStates.{ClientState}
use Rattle.net_client.proofs.client.Client.turn.Goals as goal
use Rattle.net_client.proofs.client.Client.turn.Goals.{then-self-lt4294967295, else-self-lt4294967295}

no_turn : (o : Outcome) → turns o (stages.Starting true) ≡ true → ⊥
no_turn Running e = let clash : false ≡ true = e in absurd (cc)
no_turn (Done reports) e = let clash : false ≡ true = e in absurd (cc)
no_turn (Ended status why) e = let clash : false ≡ true = e in absurd (cc)

pub invariant_of-self : goal.invariant_of-self
invariant_of-self c =
    let spare : 20 ≤ c.self.inside.out.room = c.self.invariant.1 (ap (λ (v : ClientState). turns v.outcome v.progress) c.self.view_is ∙ c.requires) in
    elim c.if-self-lt4294967295.branch [
      | then-self-lt4294967295 w ↦ let room = rw w.self-inside-is at c.say_start.ensures.room in rw w.self-inside-is (λ r. omega (arith, room, spare), λ t. absurd (no_turn c.self.inside.outcome t), c.self.invariant.2, c.self.invariant.3, λ r e. absurd (let clash : false ≡ true = e in cc))
      | else-self-lt4294967295 w ↦ let room = rw w.self-inside-is at c.say_start.ensures.room in rw w.self-inside-is (λ r. omega (arith, room, spare), λ t. absurd (no_turn c.self.inside.outcome t), c.self.invariant.2, c.self.invariant.3, λ r e. absurd (let clash : false ≡ true = e in cc))
    ]
