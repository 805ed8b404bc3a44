-- A connection comes.
use Rattle.std.proofs.Common.{◌≡◌, ◌≤◌, ℕ, true, false, ◌||◌, ◌+◌, ◌-◌, Option, None, Some, List, [], ◌∷◌, refl, sym, ap, ◌∙◌, subst, arith}
use Rattle.std.proofs.lemmas.Bool.{eq-eqb, or_right}
use Rattle.saned_core.specs.DaemonStates.{Core}
use Rattle.saned_core.specs.declared.session_slot.SessionId.{SessionId}
use Rattle.saned_serve.specs.ConnectionTraces.{ConnectionTrace, IsTrace}
use Rattle.saned_serve.specs.ListenerTraces.{ListenerTrace, with_notice}
use Rattle.saned_serve.specs.ListenerTraces.Notice.{Asked, Port}
use Rattle.saned_serve.specs.SessionActions.{ActsOn}
use Rattle.saned_serve.specs.SessionActions.SessionAction.{Opens}
use Rattle.saned_serve.specs.Journal.{LoopAction, empty_projection, projection_after, projection_of, IsRefusedConnection, listener_trace_step, JournalLeads, Steps, IsEnabledAfter, tally_of, concerns, has_asked, open_sessions}
use Rattle.saned_serve.specs.Journal.LoopAction.{Of, Waits, Refuses}
use Rattle.saned_serve.specs.Inside.{ImageTraceMatchesIn, LinkMatches, IsDue, one_link, IsLinkOf, IsNewLink, Greets}
use Rattle.saned_serve.specs.Inside.TurnPhase.{Fresh}
use Rattle.saned_serve.specs.declared.link.SessionLink.{SessionLink}
use Rattle.saned_serve.proofs.ActionSteps.{life_at, life_off, eqb_off, counted_none}

leads_action : (action : LoopAction) (d0 : Core) (n0 : Option ListenerTrace) (past : List LoopAction) (d : Core) (n : Option ListenerTrace) → ((j : ℕ) → concerns action j ≡ false) → JournalLeads d0 n0 past d n → Steps d action d → IsEnabledAfter action past → JournalLeads d0 n0 (action ∷ past) d (listener_trace_step action n)
leads_action action d0 n0 past d n off leads steps may = record {
  is_journal = (leads.is_journal, may);
  run = (d, leads.run, steps);
  net = ap (listener_trace_step action) leads.net;
  unused = λ j h. life_off j action past (off j) ∙ leads.unused j h;
}

none_more : {C : Type 0} (n : ℕ) (link : Option (SessionLink C)) → link ≡ None → n ≡ n + one_link link
none_more n link none = let zero_links = ap one_link none in omega (arith, zero_links)

one_more : {C : Type 0} (n : ℕ) (conn : C) (id : SessionId) (port : ℕ) (link : Option (SessionLink C)) → IsNewLink conn id port link → n + 1 - 0 ≡ n + one_link link
one_more n conn id port None sits = absurd sits
one_more n conn id port (Some l) sits = omega arith

-- nobody came
pub greets_none : {C : Type 0} (history : C → Option ConnectionTrace) (d : Core) (n m : Option ListenerTrace) (link : Option (SessionLink C)) → link ≡ None → m ≡ with_notice (Asked false) n → Greets history (record { daemon = d; listeners = n }) false (record { daemon = d; listeners = m }) link
greets_none history d n m link none net = record {
  greets = λ d0 n0 past leads ask. record {
    journal = Waits ∷ past;
    more = (Waits ∷ [], refl);
    leads = subst (λ o. JournalLeads d0 n0 (Waits ∷ past) d o) (sym net) (leads_action Waits d0 n0 past d n (λ j. refl) leads refl ask);
    others = λ j off. life_off j Waits past refl;
    met = subst (λ p. IsLinkOf history past (Waits ∷ past) d.opened p) (sym none) (life_off d.opened Waits past refl);
    tally = counted_none (tally_of past);
    asked = refl;
    crowd = none_more (open_sessions past) link none;
  };
}

-- a connection came that gets no session
pub greets_refuses : {C : Type 0} (history : C → Option ConnectionTrace) (d : Core) (n : Option ListenerTrace) (m : Option ListenerTrace) (port : Option ℕ) (conn : C) (link : Option (SessionLink C)) → link ≡ None → IsTrace (history conn) [] → IsRefusedConnection port d → m ≡ listener_trace_step (Refuses port (history conn)) n → Greets history (record { daemon = d; listeners = n }) true (record { daemon = d; listeners = m }) link
greets_refuses history d n m port conn link none fresh refused net = record {
  greets = λ d0 n0 past leads ask.
      let action = Refuses port (history conn) in
      record {
        journal = action ∷ past;
        more = (action ∷ [], refl);
        leads = subst (λ o. JournalLeads d0 n0 (action ∷ past) d o) (sym net) (leads_action action d0 n0 past d n (λ j. refl) leads (refused, refl) (ask, fresh));
        others = λ j off. life_off j action past refl;
        met = subst (λ p. IsLinkOf history past (action ∷ past) d.opened p) (sym none) (life_off d.opened action past refl);
        tally = (let t = tally_of past in let sum : t.left ≡ t.left + 0 = omega arith in ap (λ k. record t { left = k; stir = t.stir || true }) sum);
        asked = refl;
        crowd = none_more (open_sessions past) link none;
      };
}

unused_opens : (past : List LoopAction) (d e : Core) (port number : ℕ) → ActsOn number d (Opens port) e → ((id : ℕ) → d.opened ≤ id → projection_of id past ≡ empty_projection) → (id : ℕ) → e.opened ≤ id → projection_of id (Of number (Opens port) ∷ past) ≡ empty_projection
unused_opens past d e port number does unused id h =
    let count = ap (λ (c : Core). c.opened) does.after in
    let here = does.numbered in
    life_off id (Of number (Opens port)) past (eqb_off number id (λ same. let wrong : number ≡ id = same in absurd (omega (arith, count, here, h, wrong)))) ∙ unused id (omega (arith, count, h))

met_new : {C : Type 0} (history : C → Option ConnectionTrace) (past : List LoopAction) (d e : Core) (port : ℕ) (id : SessionId) (conn : C) (p : Option (SessionLink C)) → ActsOn id.number d (Opens port) e → projection_of d.opened past ≡ empty_projection → IsTrace (history conn) [] → IsNewLink conn id port p → IsLinkOf history past (Of id.number (Opens port) ∷ past) d.opened p
met_new history past d e port id conn None does none fresh sits = absurd sits
met_new history past d e port id conn (Some l) does none fresh sits =
    let projection = projection_after (Opens port) (projection_of d.opened past) in
    let at = life_at d.opened (Of id.number (Opens port)) past (eq-eqb id.number d.opened does.numbered) in
    let empty = sits.3 in (
      ap (λ x. x.number) sits.1 ∙ does.numbered,
      none,
      subst (λ v. LinkMatches history Fresh v l) (sym at) (record {
        is_open = refl;
        port = sits.2;
        over = sits.5;
        told = subst (λ c. IsTrace (history c) []) (sym sits.0) fresh;
        heard = refl;
        said = empty;
        waits = λ some. absurd (some empty);
        quiet = refl;
        held = λ alive. refl;
        carries = subst (λ i. ImageTraceMatchesIn history i l.is_last l.records projection) (sym sits.4) refl;
        at = sits.6;
      }),
      subst (λ v. IsDue v) (sym at) (refl, refl, refl),
    )

pub greets_opens : {C : Type 0} (history : C → Option ConnectionTrace) (d : Core) (n : Option ListenerTrace) (e : Core) (m : Option ListenerTrace) (port : ℕ) (id : SessionId) (conn : C) (p : Option (SessionLink C)) → ActsOn id.number d (Opens port) e → m ≡ with_notice (Port (Some port)) (with_notice (Asked true) n) → IsTrace (history conn) [] → IsNewLink conn id port p → Greets history (record { daemon = d; listeners = n }) true (record { daemon = e; listeners = m }) p
greets_opens history d n e m port id conn p does net fresh sits = record {
  greets = λ d0 n0 past leads ask.
      let action = Of id.number (Opens port) in
      let none = leads.unused d.opened (omega arith) in
      record {
        journal = action ∷ past;
        more = (action ∷ [], refl);
        leads = record {
          is_journal = (leads.is_journal, (subst (λ k. projection_of k past ≡ empty_projection) (sym does.numbered) none, (λ comes. ask)));
          run = (d, leads.run, does);
          net = net ∙ ap (λ o. with_notice (Port (Some port)) (with_notice (Asked true) o)) leads.net;
          unused = unused_opens past d e port id.number does leads.unused;
        };
        others = λ j off. life_off j action past (eqb_off id.number j (λ same. off (sym same ∙ does.numbered)));
        met = met_new history past d e port id conn p does none fresh sits;
        tally = refl;
        asked = or_right (has_asked past) true refl;
        crowd = one_more (open_sessions past) conn id port p sits;
      };
}
