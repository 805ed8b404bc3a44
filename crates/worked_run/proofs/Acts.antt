-- One act more of a run that is under way, and what is seen of it.
use Rattle.std.specs.Prelude.{◌<◌, ◌≤◌, ◌+◌, ◌-◌, ◌||◌, if◌then◌else◌}
use Rattle.std.proofs.Common.{◌≡◌, ◌≢◌, ◌∙◌, ◌⊎◌, inl, inr, ℕ, zero, suc, Bool, true, false, cond, Option, Some, None, List, [], ◌∷◌, ◌++◌, refl, sym, ap, subst, arith}
use Rattle.scan_job.specs.declared.job.Job.{Job}
use Rattle.net_client.specs.ClientStates.{ClientState, IsNewClient}
use Rattle.net_jobs.specs.JobJournal.{JobMove, given_by}
use Rattle.net_jobs.specs.JobSteps.{JobStep, StepLeads, StepsLead, given_by_steps, has_failed, is_failed_write}
use Rattle.saned_core.specs.DaemonStates.{Core}
use Rattle.saned_serve.specs.SessionActions.{ActsOn, SessionAction, leaves, opens_session}
use Rattle.saned_serve.specs.SessionActions.SessionAction.{Opens, Hears, Feed, Forgets, Take, Says, Looks, Misses, Connect, Turn, Shows, Lose, HangsUp, Leaves}
use Rattle.saned_serve.specs.Journal.{IsBehindItsTurn, IsFront, JournalLeads, LoopAction, MayDo, SessionProjection, has_asked, has_stopped, listener_trace_act, open_sessions, projection_after, projection_of}
use Rattle.saned_serve.specs.Journal.LoopAction.{Of, Turned, Waits}
use Rattle.saned_serve.specs.ListenerTraces.{ListenerTrace, with_notice}
use Rattle.saned_serve.specs.ListenerTraces.Notice.{Asked}
use Rattle.saned_serve.proofs.ActionSteps.{leads_act, not_both, opened_by, or_false}
use Rattle.interleaving.specs.Interleavings.{Traffic, accepted_with, bytes_heard, bytes_sent, bytes_taken, connections_accepted, connections_made, heard_with, job_journal, made_with, sent_with, server_journal, taken_with}
use Rattle.interleaving.specs.Interleavings.Traffic.{Writes as WritesBytes, Reads as ReadsBytes, Dials as MakesConnection, Takes as TakesBytes, NoTraffic}
use Rattle.interleaving.specs.Interleavings.JointAction.{OfJob, OfServer}
use Rattle.interleaving.specs.HandingOn.{HandsOn, MayMove, MayServe}
use Rattle.programs_refine.specs.Programs.{Acts}
use Rattle.programs_refine.specs.StepTraffic.{traffic_of}
use Rattle.programs_refine.specs.WorkedRuns.{owned_by_first}
use Rattle.worked_run.specs.UnderWay.{HasView, IsRunUnderWay, View}

-- ---- an act for the session

abbrev pub acted : SessionAction → View → View
acted act v = record v { projection = projection_after act v.projection; accepted = accepted_with act v.accepted }

-- what connections must have for it
abbrev pub IsHanded : SessionAction → View → Type 0
IsHanded (Opens port) v = ⊥
IsHanded (Feed piece fed begins) v = IsFront (v.projection.heard ++ piece) v.sent
IsHanded (Connect port) v = v.accepted < v.made
IsHanded act v = Unit {0}

handed : (act : SessionAction) (acts : Acts) (v : View) → HasView acts v → IsHanded act v → MayServe traffic_of owned_by_first 0 act acts
handed (Opens port) acts v h is = absurd is
handed (Hears got room bytes) acts v h is = tt
handed (Feed piece fed begins) acts v h is =
    (0, refl, subst (λ (s : List ℕ). IsFront ((projection_of 0 (server_journal acts)).heard ++ piece) s) (sym h.sent) (subst (λ (p : SessionProjection). IsFront (p.heard ++ piece) v.sent) (sym h.projection) is))
handed (Forgets told port) acts v h is = tt
handed (Take room bytes) acts v h is = tt
handed (Says got bytes) acts v h is = tt
handed (Looks frame) acts v h is = tt
handed (Misses port) acts v h is = tt
handed (Connect port) acts v h is =
    (0, refl, subst (λ (n : ℕ). connections_accepted 0 (server_journal acts) < n) (sym h.made) (subst (λ (n : ℕ). n < v.made) (sym h.accepted) is))
handed (Turn room step bytes) acts v h is = tt
handed (Shows got bytes) acts v h is = tt
handed Lose acts v h is = tt
handed (HangsUp trace) acts v h is = tt
handed (Leaves port trace) acts v h is = tt

same_open : (act : SessionAction) (n : ℕ) → opens_session act ≡ false → leaves act ≡ 0 → n ≡ 1 → cond (opens_session act) (n + 1) n - leaves act ≡ 1
same_open act n plain stays one =
    let none : n - 0 ≡ 1 = omega (arith, one) in
    ap (λ (b : Bool). cond b (n + 1) n - leaves act) plain ∙ ap (λ (k : ℕ). n - k) stays ∙ none

viewed_act : (act : SessionAction) (acts : Acts) (v : View) → opens_session act ≡ false → HasView acts v → HasView (OfServer (Of 0 act) ∷ acts) (acted act v)
unfolding server_journal job_journal projection_of connections_accepted
viewed_act act acts v plain h = record {
  projection = ap (projection_after act) h.projection;
  asked = ap (λ (b : Bool). b || opens_session act) h.asked ∙ ap (λ (b : Bool). v.asked || b) plain ∙ or_false v.asked;
  sent = h.sent;
  heard = h.heard;
  taken = h.taken;
  made = h.made;
  accepted = ap (accepted_with act) h.accepted;
  given = h.given;
}

pub acts_on : (job : Job) (start d e : Core) (c : ClientState) (v : View) (act : SessionAction) → IsRunUnderWay job start d c v → opens_session act ≡ false → leaves act ≡ 0 → ActsOn 0 d act e → ((stopped : Bool) → MayDo act v.projection stopped) → IsHanded act v → IsRunUnderWay job start e c (acted act v)
unfolding server_journal job_journal HandsOn
acts_on job start d e c v act u plain stays does may is = record {
  acts = OfServer (Of 0 act) ∷ u.acts;
  view = viewed_act act u.acts v plain u.view;
  first = u.first;
  fresh = u.fresh;
  steps = u.steps;
  up = u.up;
  after = listener_trace_act act u.after;
  serves = leads_act act start None (server_journal u.acts) d u.after e 0 plain u.serves does (subst (λ (p : SessionProjection). MayDo act p (has_stopped (server_journal u.acts))) (sym u.view.projection) (may (has_stopped (server_journal u.acts))));
  opened = opened_by act d e 0 plain does ∙ u.opened;
  one = same_open act (open_sessions (server_journal u.acts)) plain stays u.one;
  hands_on = (u.hands_on, handed act u.acts v u.view is);
}

-- ---- nobody comes

abbrev pub asked_view : View → View
asked_view v = record v { asked = true }

viewed_waits : (acts : Acts) (v : View) → HasView acts v → HasView (OfServer Waits ∷ acts) (asked_view v)
unfolding server_journal job_journal projection_of connections_accepted
viewed_waits acts v h = record { projection = h.projection; asked = refl; sent = h.sent; heard = h.heard; taken = h.taken; made = h.made; accepted = h.accepted; given = h.given }

waits_leads : (start d : Core) (journal : List LoopAction) (n : Option ListenerTrace) → JournalLeads start None journal d n → has_asked journal ≡ false → open_sessions journal ≡ 1 → JournalLeads start None (Waits ∷ journal) d (with_notice (Asked false) n)
unfolding projection_of
waits_leads start d journal n l asked one = record {
  is_journal = (l.is_journal, (asked, omega (arith, one)));
  run = (d, l.run, refl);
  net = ap (with_notice (Asked false)) l.net;
  unused = l.unused;
}

pub waits_on : (job : Job) (start d : Core) (c : ClientState) (v : View) → IsRunUnderWay job start d c v → v.asked ≡ false → IsRunUnderWay job start d c (asked_view v)
unfolding server_journal job_journal HandsOn
waits_on job start d c v u asked = record {
  acts = OfServer Waits ∷ u.acts;
  view = viewed_waits u.acts v u.view;
  first = u.first;
  fresh = u.fresh;
  steps = u.steps;
  up = u.up;
  after = with_notice (Asked false) u.after;
  serves = waits_leads start d (server_journal u.acts) u.after u.serves (u.view.asked ∙ asked) u.one;
  opened = u.opened;
  one = u.one;
  hands_on = (u.hands_on, tt);
}

-- ---- a turn ends

abbrev pub turned_view : View → View
turned_view v = record v { projection = record v.projection { visited = false; spoken = false; tended = false }; asked = false }

viewed_turned : (acts : Acts) (v : View) → HasView acts v → HasView (OfServer Turned ∷ acts) (turned_view v)
unfolding server_journal job_journal projection_of connections_accepted
viewed_turned acts v h = record {
  projection = ap (λ (p : SessionProjection). record p { visited = false; spoken = false; tended = false }) h.projection;
  asked = refl;
  sent = h.sent;
  heard = h.heard;
  taken = h.taken;
  made = h.made;
  accepted = h.accepted;
  given = h.given;
}

settled : (start d : Core) (journal : List LoopAction) (n : Option ListenerTrace) (p : SessionProjection) → JournalLeads start None journal d n → d.opened ≡ 1 → projection_of 0 journal ≡ p → IsBehindItsTurn p → (id : ℕ) → (projection_of id journal).is_open ≡ true → IsBehindItsTurn (projection_of id journal)
settled start d journal n p l opened at is zero here = subst IsBehindItsTurn (sym at) is
settled start d journal n p l opened at is (suc id) here = absurd (not_both here (ap (λ (q : SessionProjection). q.is_open) (l.unused (suc id) (omega (arith, opened)))))

turned_leads : (start d : Core) (journal : List LoopAction) (n : Option ListenerTrace) (p : SessionProjection) → JournalLeads start None journal d n → d.opened ≡ 1 → has_asked journal ≡ true → projection_of 0 journal ≡ p → IsBehindItsTurn p → JournalLeads start None (Turned ∷ journal) d n
unfolding projection_of
turned_leads start d journal n p l opened asked at is = record {
  is_journal = (l.is_journal, (asked, settled start d journal n p l opened at is));
  run = (d, l.run, refl);
  net = l.net;
  unused = λ id low. ap (λ (q : SessionProjection). record q { visited = false; spoken = false; tended = false }) (l.unused id low);
}

pub turns_on : (job : Job) (start d : Core) (c : ClientState) (v : View) → IsRunUnderWay job start d c v → v.asked ≡ true → IsBehindItsTurn v.projection → IsRunUnderWay job start d c (turned_view v)
unfolding server_journal job_journal HandsOn
turns_on job start d c v u asked is = record {
  acts = OfServer Turned ∷ u.acts;
  view = viewed_turned u.acts v u.view;
  first = u.first;
  fresh = u.fresh;
  steps = u.steps;
  up = u.up;
  after = u.after;
  serves = turned_leads start d (server_journal u.acts) u.after v.projection u.serves u.opened (u.view.asked ∙ asked) u.view.projection is;
  opened = u.opened;
  one = u.one;
  hands_on = (u.hands_on, tt);
}

-- ---- a step of the job

-- a step that turns no page
abbrev pub moved : Traffic → List JobMove → View → View
moved t gives v = record v {
  sent = sent_with t v.sent;
  heard = heard_with t v.heard;
  taken = taken_with t v.taken;
  made = made_with t v.made;
  given = v.given ++ given_by gives;
}

-- what was given out before for it
abbrev pub IsGiven : Traffic → View → Type 0
IsGiven (ReadsBytes bytes) v = IsFront (v.heard ++ bytes) v.projection.said
IsGiven (TakesBytes bytes) v = (v.accepted ≡ v.made) × IsFront (v.taken ++ bytes) v.projection.shown × (v.projection.dropped ≡ false)
IsGiven t v = Unit {0}

given : (t : Traffic) (acts : Acts) (v : View) → HasView acts v → IsGiven t v → MayMove traffic_of owned_by_first 0 t acts
given (WritesBytes bytes) acts v h is = tt
given (ReadsBytes bytes) acts v h is =
    (0, refl, subst (λ (l : List ℕ). IsFront (l ++ bytes) (projection_of 0 (server_journal acts)).said) (sym h.heard) (subst (λ (p : SessionProjection). IsFront (v.heard ++ bytes) p.said) (sym h.projection) is))
given MakesConnection acts v h is = tt
given (TakesBytes bytes) acts v h is =
    (0, refl, h.accepted ∙ is.0 ∙ sym h.made, subst (λ (l : List ℕ). IsFront (l ++ bytes) (projection_of 0 (server_journal acts)).shown) (sym h.taken) (subst (λ (p : SessionProjection). IsFront (v.taken ++ bytes) p.shown) (sym h.projection) is.1))
given NoTraffic acts v h is = tt

viewed_step : (step : JobStep) (acts : Acts) (v : View) → step.turned ≡ false → HasView acts v → HasView (OfJob 0 step ∷ acts) (moved (traffic_of step) step.gives v)
unfolding server_journal job_journal bytes_sent bytes_heard bytes_taken connections_made
viewed_step step acts v still h = record {
  projection = h.projection;
  asked = h.asked;
  sent = ap (sent_with (traffic_of step)) h.sent;
  heard = ap (heard_with (traffic_of step)) h.heard;
  taken = ap (taken_with (traffic_of step)) h.taken;
  made = ap (made_with (traffic_of step)) h.made;
  accepted = h.accepted;
  given = ap (λ (b : Bool). if b then [] else given_by_steps (job_journal 0 acts) ++ given_by step.gives) still ∙ ap (λ (l : List ℕ). l ++ given_by step.gives) h.given;
}

pub steps_on : (job : Job) (start d : Core) (c e : ClientState) (v : View) (step : JobStep) → IsRunUnderWay job start d c v → StepLeads c step e → is_failed_write step.move ≡ false → step.turned ≡ false → IsGiven (traffic_of step) v → IsRunUnderWay job start d e (moved (traffic_of step) step.gives v)
unfolding server_journal job_journal HandsOn
steps_on job start d c e v step u leads whole still is = record {
  acts = OfJob 0 step ∷ u.acts;
  view = viewed_step step u.acts v still u.view;
  first = u.first;
  fresh = u.fresh;
  steps = (c, u.steps, u.up, leads);
  up = ap (λ (b : Bool). b || has_failed (job_journal 0 u.acts)) whole ∙ u.up;
  after = u.after;
  serves = u.serves;
  opened = u.opened;
  one = u.one;
  hands_on = (u.hands_on, given (traffic_of step) u.acts v u.view is);
}
