-- Which connections recorded listeners took back, by the journal that they show.
use Rattle.std.proofs.Common.{◌≡◌, ◌⊎◌, inl, inr, ℕ, true, false, Option, None, Some, List, [], ◌∷◌, map, refl, sym, ap, ◌∙◌}
use Rattle.saned_serve.specs.ConnectionTraces.{ConnectionTrace}
use Rattle.saned_serve.specs.ListenerTraces.{ListenerTrace, Notice, with_notice}
use Rattle.saned_serve.specs.ListenerTraces.Notice.{Asked, Port, Forgot, Dialed, Shut, Back}
use Rattle.saned_serve.specs.SessionActions.{SessionAction}
use Rattle.saned_serve.specs.SessionActions.SessionAction.{Opens, Hears, Feed, Forgets, Take, Says, Looks, Misses, Connect, Turn, Shows, Lose, HangsUp, Leaves}
use Rattle.saned_serve.specs.Journal.{LoopAction, listener_trace_act, listener_trace_after, listener_trace_port, listener_trace_step}
use Rattle.saned_serve.specs.Journal.LoopAction.{Of, Full, Waits, Refuses, Turned, Stops}
use Rattle.recorded_net.specs.ListenerCalls.{ListenerCall, notice_of, notice_of_call, trace_of_calls}
use Rattle.recorded_net.specs.ListenerCalls.ListenerCall.{AskedFor, TookBack}
use Rattle.recorded_net.specs.NetsBack.{IsUnasked}
use Rattle.recorded_net.specs.declared.asked_calls.Occurrence.{Occurrence}
use Rattle.recorded_net.specs.declared.asked_calls.Occurrence.TheVariants as occurrences

-- it is among the calls
abbrev pub IsIn : ConnectionTrace → List ListenerCall → Type 0
IsIn calls [] = ⊥
IsIn calls (call ∷ earlier) = (call ≡ TookBack calls) ⊎ IsIn calls earlier

-- what an action hands back
abbrev pub HandsBack : LoopAction → ConnectionTrace → Type 0
HandsBack (Of number (HangsUp trace)) calls = trace ≡ Some calls
HandsBack (Of number (Leaves port trace)) calls = trace ≡ Some calls
HandsBack (Refuses port trace) calls = trace ≡ Some calls
HandsBack _ calls = ⊥

-- the calls below some notices: all that is among them is among all, and what is not is what the notices hand back
pub record Below (given : ConnectionTrace → Type 0) (listeners : Option ListenerTrace) (listened : List ListenerCall) : Type 0 where
  pub earlier : List ListenerCall
  pub trace : listeners ≡ trace_of_calls earlier
  pub ins : (calls : ConnectionTrace) → IsIn calls earlier → IsIn calls listened
  pub outs : (calls : ConnectionTrace) → IsIn calls listened → given calls ⊎ IsIn calls earlier

abbrev Given : Notice → ConnectionTrace → Type 0
Given n calls = n ≡ Back (Some calls)

peel : (n : Notice) (listeners : Option ListenerTrace) (listened : List ListenerCall) → with_notice n listeners ≡ trace_of_calls listened → Below (Given n) listeners listened
peel n None listened e = absurd (let wrong : None ≡ trace_of_calls listened = e in cc)
peel n (Some told) [] e = absurd (let wrong : Some (n ∷ told) ≡ Some [] = e in cc)
peel n (Some told) (call ∷ earlier) e =
    let both : Some (n ∷ told) ≡ Some (notice_of_call call ∷ map notice_of_call earlier) = e in
    let first : n ≡ notice_of_call call = cc in
    let rest : told ≡ map notice_of_call earlier = cc in
    record {
      earlier = earlier;
      trace = ap Some rest;
      ins = λ calls held. inr held;
      outs = λ calls held. is_first calls first held;
    }
  where
    is_first : (calls : ConnectionTrace) → n ≡ notice_of_call call → (call ≡ TookBack calls) ⊎ IsIn calls earlier → Given n calls ⊎ IsIn calls earlier
    is_first calls first (inl here) = inl (first ∙ ap notice_of_call here)
    is_first calls first (inr before) = inr before

-- a notice of a connection is of one that is recorded
pub told_back : (trace : Option ConnectionTrace) (listeners : Option ListenerTrace) (listened : List ListenerCall) → with_notice (Back trace) listeners ≡ trace_of_calls listened → (calls : ConnectionTrace) × (trace ≡ Some calls) × IsIn calls listened
told_back trace None listened e = absurd (let wrong : None ≡ trace_of_calls listened = e in cc)
told_back trace (Some told) [] e = absurd (let wrong : Some (Back trace ∷ told) ≡ Some [] = e in cc)
told_back trace (Some told) (TookBack calls ∷ earlier) e =
    let both : Some (Back trace ∷ told) ≡ Some (Back (Some calls) ∷ map notice_of_call earlier) = e in
    (calls, cc, inl refl)
told_back trace (Some told) (AskedFor occurrence ∷ earlier) e = absurd (no_occurrence occurrence e)
  where
    no_occurrence : (o : Occurrence) → Some (Back trace ∷ told) ≡ Some (notice_of o ∷ map notice_of_call earlier) → ⊥
    no_occurrence (occurrences.Asked came) f = cc
    no_occurrence (occurrences.Port port) f = cc
    no_occurrence (occurrences.Forgot port) f = cc
    no_occurrence (occurrences.Dialed port came) f = cc
    no_occurrence (occurrences.Shut port) f = cc

-- what lies below two notices, and below none
under : {F G : ConnectionTrace → Type 0} (upper lower : Option ListenerTrace) (listened : List ListenerCall) (top : Below F upper listened) → Below G lower top.earlier → Below (λ calls. F calls ⊎ G calls) lower listened
under {F} {G} upper lower listened top low = record {
  earlier = low.earlier;
  trace = low.trace;
  ins = λ calls held. top.ins calls (low.ins calls held);
  outs = λ calls held. by_top calls (top.outs calls held);
}
  where
    by_low : (calls : ConnectionTrace) → G calls ⊎ IsIn calls low.earlier → (F calls ⊎ G calls) ⊎ IsIn calls low.earlier
    by_low calls (inl given) = inl (inr given)
    by_low calls (inr before) = inr before

    by_top : (calls : ConnectionTrace) → F calls ⊎ IsIn calls top.earlier → (F calls ⊎ G calls) ⊎ IsIn calls low.earlier
    by_top calls (inl given) = inl (inl given)
    by_top calls (inr before) = by_low calls (low.outs calls before)

-- the same, of fewer words
only : {F G : ConnectionTrace → Type 0} (listeners : Option ListenerTrace) (listened : List ListenerCall) → ((calls : ConnectionTrace) → F calls → G calls) → Below F listeners listened → Below G listeners listened
only {F} {G} listeners listened turns b = record {
  earlier = b.earlier;
  trace = b.trace;
  ins = b.ins;
  outs = λ calls held. turned calls (b.outs calls held);
}
  where
    turned : (calls : ConnectionTrace) → F calls ⊎ IsIn calls b.earlier → G calls ⊎ IsIn calls b.earlier
    turned calls (inl given) = inl (turns calls given)
    turned calls (inr before) = inr before

quiet : (F : ConnectionTrace → Type 0) (listeners : Option ListenerTrace) (listened : List ListenerCall) → listeners ≡ trace_of_calls listened → Below F listeners listened
quiet F listeners listened e = record { earlier = listened; trace = e; ins = λ calls held. held; outs = λ calls held. inr held }

one : (F : ConnectionTrace → Type 0) (n : Notice) (listeners : Option ListenerTrace) (listened : List ListenerCall) → ((calls : ConnectionTrace) → n ≡ Back (Some calls) → F calls) → with_notice n listeners ≡ trace_of_calls listened → Below F listeners listened
one F n listeners listened turns e = only listeners listened turns (peel n listeners listened e)

two : (F : ConnectionTrace → Type 0) (n m : Notice) (listeners : Option ListenerTrace) (listened : List ListenerCall) → ((calls : ConnectionTrace) → (n ≡ Back (Some calls)) ⊎ (m ≡ Back (Some calls)) → F calls) → with_notice n (with_notice m listeners) ≡ trace_of_calls listened → Below F listeners listened
two F n m listeners listened turns e =
    let top = peel n (with_notice m listeners) listened e in
    only listeners listened turns (under (with_notice m listeners) listeners listened top (peel m listeners top.earlier top.trace))

same_trace : (trace : Option ConnectionTrace) (calls : ConnectionTrace) → Back trace ≡ Back (Some calls) → trace ≡ Some calls
same_trace trace calls e = cc

below_act : (number : ℕ) (act : SessionAction) (listeners : Option ListenerTrace) (listened : List ListenerCall) → listener_trace_act act listeners ≡ trace_of_calls listened → Below (HandsBack (Of number act)) listeners listened
below_act number (Opens port) listeners listened e = two (HandsBack (Of number (Opens port))) (Port (Some port)) (Asked true) listeners listened (λ calls given. neither calls given) e
  where
    neither : (calls : ConnectionTrace) → (Port (Some port) ≡ Back (Some calls)) ⊎ (Asked true ≡ Back (Some calls)) → ⊥
    neither calls (inl given) = cc
    neither calls (inr given) = cc
below_act number (Hears got room bytes) listeners listened e = quiet (HandsBack (Of number (Hears got room bytes))) listeners listened e
below_act number (Feed piece fed begins) listeners listened e = quiet (HandsBack (Of number (Feed piece fed begins))) listeners listened e
below_act number (Forgets true port) listeners listened e = one (HandsBack (Of number (Forgets true port))) (Forgot port) listeners listened (λ calls given. cc) e
below_act number (Forgets false port) listeners listened e = quiet (HandsBack (Of number (Forgets false port))) listeners listened e
below_act number (Take room bytes) listeners listened e = quiet (HandsBack (Of number (Take room bytes))) listeners listened e
below_act number (Says got bytes) listeners listened e = quiet (HandsBack (Of number (Says got bytes))) listeners listened e
below_act number (Looks frame) listeners listened e = quiet (HandsBack (Of number (Looks frame))) listeners listened e
below_act number (Misses port) listeners listened e = one (HandsBack (Of number (Misses port))) (Dialed port false) listeners listened (λ calls given. cc) e
below_act number (Connect port) listeners listened e = one (HandsBack (Of number (Connect port))) (Dialed port true) listeners listened (λ calls given. cc) e
below_act number (Turn room step bytes) listeners listened e = quiet (HandsBack (Of number (Turn room step bytes))) listeners listened e
below_act number (Shows got bytes) listeners listened e = quiet (HandsBack (Of number (Shows got bytes))) listeners listened e
below_act number Lose listeners listened e = quiet (HandsBack (Of number Lose)) listeners listened e
below_act number (HangsUp trace) listeners listened e = one (HandsBack (Of number (HangsUp trace))) (Back trace) listeners listened (same_trace trace) e
below_act number (Leaves port trace) listeners listened e = two (HandsBack (Of number (Leaves port trace))) (Back trace) (Shut port) listeners listened (λ calls given. its calls given) e
  where
    its : (calls : ConnectionTrace) → (Back trace ≡ Back (Some calls)) ⊎ (Shut port ≡ Back (Some calls)) → trace ≡ Some calls
    its calls (inl given) = same_trace trace calls given
    its calls (inr given) = absurd (let wrong : Shut port ≡ Back (Some calls) = given in cc)

below_port : (F : ConnectionTrace → Type 0) (port : Option ℕ) (listeners : Option ListenerTrace) (listened : List ListenerCall) → listener_trace_port port (with_notice (Asked true) listeners) ≡ trace_of_calls listened → Below F listeners listened
below_port F None listeners listened e = two F (Port None) (Asked true) listeners listened (λ calls given. absurd (neither calls given)) e
  where
    neither : (calls : ConnectionTrace) → (Port None ≡ Back (Some calls)) ⊎ (Asked true ≡ Back (Some calls)) → ⊥
    neither calls (inl given) = cc
    neither calls (inr given) = cc
below_port F (Some port) listeners listened e =
    let top = peel (Shut port) (with_notice (Port (Some port)) (with_notice (Asked true) listeners)) listened e in
    only listeners listened (λ calls given. absurd (none calls given))
    (under (with_notice (Port (Some port)) (with_notice (Asked true) listeners)) listeners listened top
    (two (λ calls. ⊥) (Port (Some port)) (Asked true) listeners top.earlier (λ calls given. neither calls given) top.trace))
  where
    neither : (calls : ConnectionTrace) → (Port (Some port) ≡ Back (Some calls)) ⊎ (Asked true ≡ Back (Some calls)) → ⊥
    neither calls (inl given) = cc
    neither calls (inr given) = cc

    none : (calls : ConnectionTrace) → (Shut port ≡ Back (Some calls)) ⊎ ⊥ → ⊥
    none calls (inl given) = cc
    none calls (inr never) = never

pub below : (action : LoopAction) (listeners : Option ListenerTrace) (listened : List ListenerCall) → listener_trace_step action listeners ≡ trace_of_calls listened → Below (HandsBack action) listeners listened
below (Of number act) listeners listened e = below_act number act listeners listened e
below Full listeners listened e = quiet (HandsBack Full) listeners listened e
below Waits listeners listened e = one (HandsBack Waits) (Asked false) listeners listened (λ calls given. cc) e
below (Refuses port trace) listeners listened e =
    let middle = listener_trace_port port (with_notice (Asked true) listeners) in
    let top = peel (Back trace) middle listened e in
    only listeners listened (λ calls given. its calls given)
    (under middle listeners listened top (below_port (λ calls. ⊥) port listeners top.earlier top.trace))
  where
    its : (calls : ConnectionTrace) → (Back trace ≡ Back (Some calls)) ⊎ ⊥ → trace ≡ Some calls
    its calls (inl given) = same_trace trace calls given
    its calls (inr never) = absurd never
below Turned listeners listened e = quiet (HandsBack Turned) listeners listened e
below Stops listeners listened e = quiet (HandsBack Stops) listeners listened e

-- ---- listeners that tell nothing tell nothing later

none_act : (act : SessionAction) → listener_trace_act act None ≡ None
none_act (Opens port) = refl
none_act (Hears got room bytes) = refl
none_act (Feed piece fed begins) = refl
none_act (Forgets true port) = refl
none_act (Forgets false port) = refl
none_act (Take room bytes) = refl
none_act (Says got bytes) = refl
none_act (Looks frame) = refl
none_act (Misses port) = refl
none_act (Connect port) = refl
none_act (Turn room step bytes) = refl
none_act (Shows got bytes) = refl
none_act Lose = refl
none_act (HangsUp trace) = refl
none_act (Leaves port trace) = refl

none_step : (action : LoopAction) → listener_trace_step action None ≡ None
none_step (Of number act) = none_act act
none_step Full = refl
none_step Waits = refl
none_step (Refuses None trace) = refl
none_step (Refuses (Some port) trace) = refl
none_step Turned = refl
none_step Stops = refl

none_after : (journal : List LoopAction) → listener_trace_after journal None ≡ None
none_after [] = refl
none_after (action ∷ past) = ap (listener_trace_step action) (none_after past) ∙ none_step action

-- so who tells at last told from the begin on
pub begun_told : (journal : List LoopAction) (began : Option ListenerTrace) (listened : List ListenerCall) → IsUnasked began → listener_trace_after journal began ≡ trace_of_calls listened → began ≡ Some []
begun_told journal None listened unasked e = absurd (let wrong : None ≡ trace_of_calls listened = sym (none_after journal) ∙ e in cc)
begun_told journal (Some trace) listened unasked e = ap Some unasked
