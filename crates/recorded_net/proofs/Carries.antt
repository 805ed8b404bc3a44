-- That each connection carried what is its session's own.
use Rattle.std.proofs.Common.{◌≡◌, ◌⊎◌, inl, inr, ℕ, Bool, true, false, Option, Some, List, [], ◌∷◌, ◌++◌, ◌||◌, refl, sym, ap, ◌∙◌, subst}
use Rattle.std.proofs.Math.Dec.{eqb}
use Rattle.std.proofs.lemmas.Bool.{eqb-true}
use Rattle.saned_serve.specs.ConnectionTraces.{ConnectionTrace, IsTrace, lost_in, trace_bytes_read, trace_bytes_written, is_lost}
use Rattle.saned_serve.specs.ListenerTraces.{with_notice}
use Rattle.saned_serve.specs.ListenerTraces.Notice.{Shut}
use Rattle.saned_serve.specs.SessionActions.{SessionAction}
use Rattle.saned_serve.specs.SessionActions.SessionAction.{Opens, Hears, Feed, Forgets, Take, Says, Looks, Misses, Connect, Turn, Shows, Lose, HangsUp, Leaves}
use Rattle.saned_serve.specs.Journal.{IsFront, IsJournal, LoopAction, MayBeLeft, MayDo, MayHandBackData, SessionProjection, has_stopped, listener_trace_after, projection_after, projection_of}
use Rattle.saned_serve.specs.Journal.LoopAction.{Of, Full, Waits, Refuses, Turned, Stops}
use Rattle.saned_serve.specs.JournalSummary.{IsInJournal}
use Rattle.saned_serve.proofs.ActionSteps.{life_at, life_off, not_both}
use Rattle.saned_serve.proofs.Summing.{nobody}
use Rattle.recorded_net.specs.Carried.{CarriesItsOwn, CarriesFrame, CarriesReplies, HasItsConnection, WasTakenBack}
use Rattle.recorded_net.specs.Carried.CarriesItsOwn.{Control, Data, Refused}
use Rattle.recorded_net.specs.ListenerCalls.{ListenerCall, trace_of_calls}
use Rattle.recorded_net.specs.ListenerCalls.ListenerCall.{TookBack}
use Rattle.recorded_net.proofs.Back.{Below, HandsBack, IsIn, below, told_back}

-- ---- a data connection is not read, and where the daemon was told its loss it was found lost

record ShownOnly (session : SessionProjection) : Type 0 where
  pub unread : trace_bytes_read session.image ≡ []
  pub lost : session.dropped ≡ true → lost_in session.image ≡ true

lost_stays : (a b : Bool) → a ≡ true → a || b ≡ true
lost_stays true b e = refl
lost_stays false b e = absurd (not_both e refl)

shown_act : (act : SessionAction) (session : SessionProjection) (stopped : Bool) → MayDo act session stopped → ShownOnly session → ShownOnly (projection_after act session)
shown_act (Opens port) session stopped may s = record { unread = refl; lost = λ dropped. absurd (not_both dropped refl) }
shown_act (Hears got room bytes) session stopped may s = record { unread = s.unread; lost = s.lost }
shown_act (Feed piece fed begins) session stopped may s = record { unread = s.unread; lost = s.lost }
shown_act (Forgets told port) session stopped may s = record { unread = s.unread; lost = s.lost }
shown_act (Take room bytes) session stopped may s = record { unread = s.unread; lost = s.lost }
shown_act (Says got bytes) session stopped may s = record { unread = s.unread; lost = s.lost }
shown_act (Looks frame) session stopped may s = record { unread = s.unread; lost = s.lost }
shown_act (Misses port) session stopped may s = record { unread = s.unread; lost = s.lost }
shown_act (Connect port) session stopped may s = record { unread = refl; lost = λ dropped. absurd (not_both dropped refl) }
shown_act (Turn room step bytes) session stopped may s = record { unread = s.unread; lost = s.lost }
shown_act (Shows got bytes) session stopped may s = record { unread = s.unread; lost = λ dropped. lost_stays (lost_in session.image) (is_lost got) (s.lost dropped) }
shown_act Lose session stopped may s = record { unread = s.unread; lost = λ dropped. may.2 }
shown_act (HangsUp trace) session stopped may s = record { unread = s.unread; lost = s.lost }
shown_act (Leaves port trace) session stopped may s = record { unread = s.unread; lost = s.lost }

shown : (journal : List LoopAction) (id : ℕ) → IsJournal journal → ShownOnly (projection_of id journal)
shown [] id is_journal = subst (λ v. ShownOnly v) (sym (nobody id)) (record { unread = refl; lost = λ dropped. absurd (not_both dropped refl) })
shown (Of number act ∷ past) id is_journal = by_number (eqb number id) refl (shown past id is_journal.0)
  where
    by_number : (v : Bool) → eqb number id ≡ v → ShownOnly (projection_of id past) → ShownOnly (projection_of id (Of number act ∷ past))
    by_number false e s = subst (λ v. ShownOnly v) (sym (life_off id (Of number act) past e)) s
    by_number true e s =
        let may = subst (λ j. MayDo act (projection_of j past) (has_stopped past)) (eqb-true number id e) is_journal.1.0 in
        subst (λ v. ShownOnly v) (sym (life_at id (Of number act) past e)) (shown_act act (projection_of id past) (has_stopped past) may s)
shown (Full ∷ past) id is_journal = subst (λ v. ShownOnly v) (sym (life_off id Full past refl)) (shown past id is_journal.0)
shown (Waits ∷ past) id is_journal = subst (λ v. ShownOnly v) (sym (life_off id Waits past refl)) (shown past id is_journal.0)
shown (Refuses port trace ∷ past) id is_journal = subst (λ v. ShownOnly v) (sym (life_off id (Refuses port trace) past refl)) (shown past id is_journal.0)
shown (Turned ∷ past) id is_journal = let s = shown past id is_journal.0 in subst (λ v. ShownOnly v) (sym (life_at id Turned past refl)) (record { unread = s.unread; lost = s.lost })
shown (Stops ∷ past) id is_journal = subst (λ v. ShownOnly v) (sym (life_off id Stops past refl)) (shown past id is_journal.0)

-- ---- what a connection carried, where it is handed back

replies : (session : SessionProjection) (stopped : Bool) (port : ℕ) (calls : ConnectionTrace) → MayDo (Leaves port (Some calls)) session stopped → CarriesReplies session stopped calls
replies session stopped port calls may =
    let same : calls ≡ session.control = may.3 in
    record {
      fed = ap trace_bytes_read same ∙ may.4;
      front = subst (λ c. IsFront (trace_bytes_written c) session.said) (sym same) may.5;
      whole = λ held on. ap trace_bytes_written same ∙ all_said (ap lost_in (sym same) ∙ held) on may.6;
    }
  where
    left : lost_in session.control ≡ false → MayBeLeft session → trace_bytes_written session.control ≡ session.said
    left held (inl lost) = absurd (not_both lost held)
    left held (inr over) = over.2

    all_said : lost_in session.control ≡ false → stopped ≡ false → MayBeLeft session ⊎ (stopped ≡ true) → trace_bytes_written session.control ≡ session.said
    all_said held on (inl may_leave) = left held may_leave
    all_said held on (inr off) = absurd (not_both off on)

records : (session : SessionProjection) (stopped : Bool) (calls : ConnectionTrace) → MayDo (HangsUp (Some calls)) session stopped → ShownOnly session → CarriesFrame session stopped calls
records session stopped calls may s =
    let same : calls ≡ session.image = may.2 in
    record {
      unread = ap trace_bytes_read same ∙ s.unread;
      front = subst (λ c. IsFront (trace_bytes_written c) session.shown) (sym same) may.3;
      whole = λ held controlled stands on.
          let all = all_shown (ap lost_in (sym same) ∙ held) controlled stands on may.4 in (all.0, ap trace_bytes_written same ∙ all.1);
    }
  where
    Whole : Type 0
    Whole = (session.last ≡ true) × (trace_bytes_written session.image ≡ session.shown)

    left : lost_in session.control ≡ false → session.over ≡ false → MayBeLeft session → Whole
    left controlled stands (inl lost) = absurd (not_both lost controlled)
    left controlled stands (inr over) = absurd (not_both over.0 stands)

    back : lost_in session.image ≡ false → lost_in session.control ≡ false → session.over ≡ false → MayHandBackData session → Whole
    back held controlled stands (inl whole) = whole
    back held controlled stands (inr (inl dropped)) = absurd (not_both (s.lost dropped) held)
    back held controlled stands (inr (inr may_leave)) = left controlled stands may_leave

    all_shown : lost_in session.image ≡ false → lost_in session.control ≡ false → session.over ≡ false → stopped ≡ false
        → MayHandBackData session ⊎ (stopped ≡ true) → Whole
    all_shown held controlled stands on (inl may_back) = back held controlled stands may_back
    all_shown held controlled stands on (inr off) = absurd (not_both off on)

-- ---- each that was taken back

more : (action : LoopAction) (past : List LoopAction) (calls : ConnectionTrace) → CarriesItsOwn past calls → CarriesItsOwn (action ∷ past) calls
more action past calls (Control id port since before is carries) = Control id port (action ∷ since) before (ap (λ j. action ∷ j) is) carries
more action past calls (Data id since before is carries) = Data id (action ∷ since) before (ap (λ j. action ∷ j) is) carries
more action past calls (Refused none) = Refused none

handed : (action : LoopAction) (past : List LoopAction) (calls : ConnectionTrace) → IsJournal (action ∷ past) → HandsBack action calls → CarriesItsOwn (action ∷ past) calls
handed (Of number (HangsUp trace)) past calls is_journal e =
    subst (λ t. CarriesItsOwn (Of number (HangsUp t) ∷ past) calls) (sym e)
    (Data number [] past refl (records (projection_of number past) (has_stopped past) calls
    (subst (λ t. MayDo (HangsUp t) (projection_of number past) (has_stopped past)) e is_journal.1.0) (shown past number is_journal.0)))
handed (Of number (Leaves port trace)) past calls is_journal e =
    subst (λ t. CarriesItsOwn (Of number (Leaves port t) ∷ past) calls) (sym e)
    (Control number port [] past refl (replies (projection_of number past) (has_stopped past) port calls
    (subst (λ t. MayDo (Leaves port t) (projection_of number past) (has_stopped past)) e is_journal.1.0)))
handed (Refuses port trace) past calls is_journal e = Refused (subst (λ t. IsTrace t []) e is_journal.1.1)
handed (Of number (Opens port)) past calls is_journal e = absurd e
handed (Of number (Hears got room bytes)) past calls is_journal e = absurd e
handed (Of number (Feed piece fed begins)) past calls is_journal e = absurd e
handed (Of number (Forgets told port)) past calls is_journal e = absurd e
handed (Of number (Take room bytes)) past calls is_journal e = absurd e
handed (Of number (Says got bytes)) past calls is_journal e = absurd e
handed (Of number (Looks frame)) past calls is_journal e = absurd e
handed (Of number (Misses port)) past calls is_journal e = absurd e
handed (Of number (Connect port)) past calls is_journal e = absurd e
handed (Of number (Turn room step bytes)) past calls is_journal e = absurd e
handed (Of number (Shows got bytes)) past calls is_journal e = absurd e
handed (Of number Lose) past calls is_journal e = absurd e
handed Full past calls is_journal e = absurd e
handed Waits past calls is_journal e = absurd e
handed Turned past calls is_journal e = absurd e
handed Stops past calls is_journal e = absurd e

pub carried : (journal : List LoopAction) (listened : List ListenerCall) → IsJournal journal → listener_trace_after journal (Some []) ≡ trace_of_calls listened → (calls : ConnectionTrace) → IsIn calls listened → CarriesItsOwn journal calls
carried [] [] is_journal e calls held = absurd held
carried [] (call ∷ earlier) is_journal e calls held = absurd (let wrong : Some [] ≡ trace_of_calls (call ∷ earlier) = e in cc)
carried (action ∷ past) listened is_journal e calls held =
    let b = below action (listener_trace_after past (Some [])) listened e in
    by_below (b.outs calls held) (carried past b.earlier is_journal.0 b.trace calls)
  where
    by_below : {Before : Type 0} → HandsBack action calls ⊎ Before → (Before → CarriesItsOwn past calls) → CarriesItsOwn (action ∷ past) calls
    by_below (inl given) on = handed action past calls is_journal given
    by_below (inr before) on = more action past calls (on before)

-- ---- and each session's

pub split_of_in : (listened : List ListenerCall) (calls : ConnectionTrace) → IsIn calls listened → WasTakenBack calls listened
split_of_in [] calls held = absurd held
split_of_in (call ∷ earlier) calls (inl here) = ([], earlier, ap (λ c. c ∷ earlier) here)
split_of_in (call ∷ earlier) calls (inr before) = let s = split_of_in earlier calls before in (call ∷ s.0, s.1, ap (λ l. call ∷ l) s.2)

pub in_of_split : (later earlier : List ListenerCall) (calls : ConnectionTrace) → IsIn calls (later ++ TookBack calls ∷ earlier)
in_of_split [] earlier calls = inl refl
in_of_split (call ∷ later) earlier calls = inr (in_of_split later earlier calls)

further : (id : ℕ) (action : LoopAction) (past : List LoopAction) (listened : List ListenerCall) (b : Below (HandsBack action) (listener_trace_after past (Some [])) listened) → HasItsConnection past b.earlier id → HasItsConnection (action ∷ past) listened id
further id action past listened b has = record {
  port = has.port;
  since = action ∷ has.since;
  past = has.past;
  calls = has.calls;
  left = ap (λ j. action ∷ j) has.left;
  back = split_of_in listened has.calls (b.ins has.calls (subst (λ l. IsIn has.calls l) (sym has.back.2) (in_of_split has.back.0 has.back.1 has.calls)));
  carries = has.carries;
}

here : (id port : ℕ) (trace : Option ConnectionTrace) (past : List LoopAction) (listened : List ListenerCall) → IsJournal (Of id (Leaves port trace) ∷ past) → listener_trace_after (Of id (Leaves port trace) ∷ past) (Some []) ≡ trace_of_calls listened → HasItsConnection (Of id (Leaves port trace) ∷ past) listened id
here id port trace past listened is_journal e =
    let told = told_back trace (with_notice (Shut port) (listener_trace_after past (Some []))) listened e in
    record {
      port = port;
      since = [];
      past = past;
      calls = told.0;
      left = ap (λ t. Of id (Leaves port t) ∷ past) told.1;
      back = split_of_in listened told.0 told.2;
      carries = replies (projection_of id past) (has_stopped past) port told.0 (subst (λ t. MayDo (Leaves port t) (projection_of id past) (has_stopped past)) told.1 is_journal.1.0);
    }

pub kept : (journal : List LoopAction) (listened : List ListenerCall) (id port : ℕ) (trace : Option ConnectionTrace) → IsJournal journal → listener_trace_after journal (Some []) ≡ trace_of_calls listened → IsInJournal (Of id (Leaves port trace)) journal → HasItsConnection journal listened id
kept [] listened id port trace is_journal e held = absurd held
kept (action ∷ past) listened id port trace is_journal e (inl is) =
    subst (λ a. HasItsConnection (a ∷ past) listened id) (sym is)
    (here id port trace past listened (subst (λ a. IsJournal (a ∷ past)) is is_journal) (subst (λ a. listener_trace_after (a ∷ past) (Some []) ≡ trace_of_calls listened) is e))
kept (action ∷ past) listened id port trace is_journal e (inr before) =
    let b = below action (listener_trace_after past (Some [])) listened e in
    further id action past listened b (kept past b.earlier id port trace is_journal.0 b.trace before)
