use Rattle.std.proofs.Common.{◌≡◌, refl, ◌∙◌, sym, ap, subst, Option, None, Some, false, true, is_some, not, inl, inr, arith, rules}
use Rattle.saned_core.specs.DaemonStates.{core}
use Rattle.saned_serve.specs.Inside.{one_link, link_at}
use Rattle.saned_serve.specs.declared.link.SessionLink.{SessionLink}
use Rattle.saned_serve.proofs.SlotCounts.{decide}
use Rattle.saned_serve.proofs.SlotGreeting.{link_at_get, stands_full}
use Rattle.saned_serve.proofs.link_slots.welcome.Goals as goal

none_of : {A : Type 0} (o : Option A) → is_some o ≡ false → o ≡ None
none_of None e = refl
none_of (Some x) e = cc

one_of : {C : Type 0} (o : Option (SessionLink C)) → is_some o ≡ true → one_link o ≡ 1
one_of None e = cc
one_of (Some l) e = refl

pub greet_at-requires : goal.greet_at-requires
greet_at-requires g c =
    let long = c.loop-i.auto.slots in
    let test = c.loop-i-test.true in (
      search rules,
      (search rules, (link_at_get c.loop-i.slots c.loop-i.i c.index-slots-i.result (omega (arith, long, test)) ∙ none_of _ c.if-is_none.ensures, (long ∙ c.requires.len, c.loop-i.invariant.roomed))),
    )

pub loop-i-preserved : goal.loop-i-preserved
loop-i-preserved g c =
    let long = c.loop-i.auto.slots in
    let test = c.loop-i-test.true in
    let here : one_link (link_at c.loop-i.slots c.loop-i.i) ≡ 1 = ap one_link (link_at_get c.loop-i.slots c.loop-i.i c.index-slots-i.result (omega (arith, long, test))) ∙ one_of _ (c.is_none.ensures ∙ ap not c.if-is_none.false) in
    record {
      taken = λ j few. elim (decide j c.loop-i.i) [ inl same ↦ subst (λ k. one_link (link_at c.loop-i.slots k) ≡ 1) (sym same) here | inr differ ↦ c.loop-i.invariant.taken j (omega (arith, few, differ)) ];
      roomed = c.loop-i.invariant.roomed;
      stands = c.loop-i.invariant.stands;
    }

pub loop-i-init : goal.loop-i-init
loop-i-init g c = record { taken = λ j few. absurd (omega (arith, few)); roomed = c.requires.roomed; stands = λ start past was. was }

pub returns-then-is_none-clause-went : goal.returns-then-is_none-clause-went
returns-then-is_none-clause-went g c = λ start past anew was. c.greet_at.ensures.went start past anew (c.loop-i.invariant.stands start past was)

pub returns-clause-went : goal.returns-clause-went
returns-clause-went g c = λ start past anew was.
    stands_full g.L.Conn.Socket.history start.daemon start.listeners past (core g.D.Device.state c.loop-i.daemon) (g.L.Listeners.trace c.loop-i.net) c.loop-i.slots anew (c.loop-i.invariant.stands start past was)
    (λ j few. c.loop-i.invariant.taken j (let end = c.loop-i-test.false in let len = c.requires.len in omega (arith, few, end, len)))
