use Rattle.std.proofs.Common.{◌≡◌, ◌-◌, ◌∙◌, ℕ, List, length, take, drop, ap, subst, arith, Option, rules}
use Rattle.std.proofs.lemmas.List.{take_all, length-drop}
use Rattle.wire_message.specs.declared.message.Procedure.{Procedure}
use Rattle.wire_codec.specs.PendingMessages.{StopsForMore}
use Rattle.wire_codec.specs.Decoders.{DecoderState}
use Rattle.wire_codec.proofs.decoder.Decoder.still_waits.Goals as goal

pub returns-in-Some-waits_on-clause-waits : goal.returns-in-Some-waits_on-clause-waits
returns-in-Some-waits_on-clause-waits c = λ told.
    let all : take (length c.deref.result.now - c.self.inside.start) (drop c.self.inside.start c.deref.result.now) ≡ drop c.self.inside.start c.deref.result.now = take_all _ _ (omega (arith, length-drop c.self.inside.start c.deref.result.now)) in
    let rest : take (length c.deref.result.now - c.self.inside.start) (drop c.self.inside.start c.deref.result.now) ≡ c.args.self.now.rest =
    all ∙ ap (drop c.self.inside.start) c.deref.ensures.value ∙ ap (λ (w : DecoderState). w.rest) c.self.view_is in
    let same : c.in-Some.pending.procedure ≡ c.args.procedure = search rules in (
      c.in-Some-waits_on.pending.wanted,
      subst (λ (p : Option Procedure). StopsForMore p c.args.self.now.rest c.in-Some-waits_on.pending.wanted) same
          (subst (λ (l : List ℕ). StopsForMore c.in-Some.pending.procedure l c.in-Some-waits_on.pending.wanted) rest c.in-Some-waits_on.ensures.stops),
    )
