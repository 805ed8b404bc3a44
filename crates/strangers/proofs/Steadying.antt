-- What an act for a session leaves of the daemon's users, of the infos of its places, and of the pages of its devices.
use Rattle.std.specs.List.{AllByRecursion}
use Rattle.std.proofs.Common.{◌≡◌, ◌⊎◌, inl, inr, ◌∙◌, ℕ, ◌++◌, List, [], ◌∷◌, Option, Some, None, refl, sym, ap, subst, map}
use Rattle.std.specs.Prelude.{drop, length}
use Rattle.device_api.specs.State.{DeviceState}
use Rattle.md5_auth.specs.declared.users.Entry.{Entry}
use Rattle.dispatch.specs.Table.{Table}
use Rattle.wire_message.specs.declared.message.Reply.{Reply}
use Rattle.wire_message.specs.declared.message.Request.{Request}
use Rattle.saned_requests.specs.declared.session.Session.{Session as RequestSession}
use Rattle.saned_requests.specs.RequestAnswers.{RequestContext}
use Rattle.saned_core.specs.declared.session_slot.Fed.{Fed}
use Rattle.saned_core.specs.declared.session_slot.Fed.TheVariants.{Standing, Over, Starved}
use Rattle.saned_core.specs.declared.session_slot.SessionSlot.{SessionSlot}
use Rattle.saned_core.specs.declared.session_slot.DataStep.{DataStep}
use Rattle.saned_core.specs.DaemonStates.{Core, after_connected, after_end_session, after_lost, after_open_session, after_reply_bytes, after_taken, new_session_slot, no_more, on_session, on_session_slot, session_of, session_slot_of, slot_if_open, with_session}
use Rattle.saned_core.specs.Feeding.{AnswersAll, AnswersWhole, EndsWithin, FailsOutOfMemory, FeedEndsSession, FeedProgress, Feeds, HasNoSession, OutOfMemoryNext, answered_slot, core_context, ended_slot, no_input, table_let_go}
use Rattle.saned_core.specs.Feeding.FeedEndsSession.{Ended, Garbled}
use Rattle.saned_core.specs.Turns.{Turns, TurnsSessions}
use Rattle.saned_serve.specs.SessionActions.{ActsOn, SessionAction}
use Rattle.saned_serve.specs.SessionActions.SessionAction.{Opens, Hears, Feed, Forgets, Take, Says, Looks, Misses, Connect, Turn, Shows, Lose, HangsUp, Leaves}
use Rattle.world_refines.specs.WorldRefinement.{AreFaithful, IsFaithfulLease, IsFaithfulPlace, IsFaithfulSession, IsFaithfulSessionSlot, info_at}
use Rattle.world_refines.proofs.replies.TakenOff.{standing_all}
use Rattle.world_refines.proofs.state.CoreCallsKeep.{given_infos, let_go_infos, lost_true, on_true}
use Rattle.world_refines.proofs.state.Faithful.{given_true, let_go_true, on_slot_all, session_true, slot_all, with_slot_all}
use Rattle.world_refines.proofs.state.ReadTrue.{stream_true}
use Rattle.world_refines.proofs.state.StaysSteady.{IsTrueContext, Keeps, answers_keep, falters_keep}

abbrev Slots : Type 0
Slots = List (Option (SessionSlot DeviceState))

pub record Steady (d e : Core) : Type 0 where
  pub users : e.users ≡ d.users
  pub infos : map info_at e.registry ≡ map info_at d.registry
  pub faithful : AreFaithful d → AreFaithful e

steady_same : (d e : Core) → e ≡ d → Steady d e
steady_same d e is = subst (Steady d) (sym is) (record { users = refl; infos = refl; faithful = λ h. h })

-- ---- a piece of bytes

keeps_itself : (d new : RequestContext) → new ≡ d → Keeps d new
keeps_itself d new is = subst (Keeps d) (sym is) (record { infos = refl; stays = λ h. h })

keeps_then : (d mid new : RequestContext) → Keeps d mid → Keeps mid new → Keeps d new
keeps_then d mid new first more = record { infos = more.infos ∙ first.infos; stays = λ h. more.stays (first.stays h) }

all_keep : (users : List Entry) (d : RequestContext) (qs : List Request) (told : List Reply) (new : RequestContext) → AnswersAll users d qs told new → Keeps d new
all_keep users d [] told new h = keeps_itself d new h.1
all_keep users d (q ∷ qs) told new h = keeps_then d h.1 new (answers_keep users d q h.0 h.1 h.3) (all_keep users h.1 qs h.2 new h.5)

closes_keep : (users : List Entry) (d : RequestContext) (rest : List ℕ) (told : List Reply) (new : RequestContext) → FeedEndsSession users d rest told new → Keeps d new
closes_keep users d rest told new (Garbled nay none is) = keeps_itself d new is
closes_keep users d rest told new (Ended left q said takes answers ends) = answers_keep users d q said new answers

starves_keep : (users : List Entry) (mid : RequestContext) (rest : List ℕ) (new : RequestContext) → (new ≡ mid) ⊎ OutOfMemoryNext users mid rest new → Keeps mid new
starves_keep users mid rest new (inl is) = keeps_itself mid new is
starves_keep users mid rest new (inr next) = falters_keep users mid next.request new next.out_of_memory

-- the session, with what it shares
context_true : (d : Core) (n : ℕ) (session : RequestSession DeviceState) → session_of d n ≡ Some session → AreFaithful d → IsTrueContext (core_context d session)
context_true d n session stood h = record { lying = h.lying; lent = subst IsFaithfulSession stood (session_true (session_slot_of d.slots n) (slot_all IsFaithfulSessionSlot d.slots n tt h.lent)) }

-- a session that is over holds nothing
over_true : (replies : List ℕ) (slot : SessionSlot DeviceState) → IsFaithfulSessionSlot (Some slot) → IsFaithfulSessionSlot (slot_if_open None replies slot)
over_true [] slot h = tt
over_true (b ∷ bytes) slot h = h

ended_true : (text : List ℕ) (slot : SessionSlot DeviceState) → IsFaithfulSessionSlot (ended_slot text slot)
ended_true text slot = over_true (slot.replies ++ text) (record slot { input = no_input; replies = slot.replies ++ text; session = None }) tt

let_go_steady : (n : ℕ) (d e : Core) (session : RequestSession DeviceState) (new : RequestContext) (f : SessionSlot DeviceState → Option (SessionSlot DeviceState)) → session_of d n ≡ Some session → Keeps (core_context d session) new → e.users ≡ d.users → e.slots ≡ on_session_slot f n d.slots → e.registry ≡ table_let_go new → ((slot : SessionSlot DeviceState) → IsFaithfulSessionSlot (f slot)) → Steady d e
let_go_steady n d e session new f stood k users slots registry gone = record {
  users = users;
  infos = ap (λ (t : Table). map info_at t) registry ∙ (given_infos new.registry new.session.held ∙ k.infos);
  faithful = λ h.
      let now = k.stays (context_true d n session stood h) in
      record {
        lying = subst (AllByRecursion IsFaithfulPlace) (sym registry) (given_true new.registry new.session.held now.lent now.lying);
        lent = subst (AllByRecursion IsFaithfulSessionSlot) (sym slots) (on_slot_all IsFaithfulSessionSlot f n d.slots tt (λ slot before. gone slot) h.lent);
      };
}

whole_steady : (n : ℕ) (d e : Core) (piece : List ℕ) → e.users ≡ d.users → AnswersWhole n d piece e → Steady d e
whole_steady n d e piece users h =
    let now = h.now in
    let so = h.feeds.so_far in
    let k = all_keep d.users (core_context d h.session) so.requests so.told now.context so.answers in
    record {
      users = users;
      infos = ap (λ (t : Table). map info_at t) h.registry ∙ k.infos;
      faithful = λ f.
          let after = k.stays (context_true d n h.session h.stood f) in
          record {
            lying = subst (AllByRecursion IsFaithfulPlace) (sym h.registry) after.lying;
            lent = subst (AllByRecursion IsFaithfulSessionSlot) (sym h.slots) (on_slot_all IsFaithfulSessionSlot (answered_slot now) n d.slots tt (λ slot before. after.lent) f.lent);
          };
    }

within_steady : (n : ℕ) (d e : Core) (piece : List ℕ) → e.users ≡ d.users → EndsWithin n d piece e → Steady d e
within_steady n d e piece users h =
    let so = h.feeds.so_far in
    let first = all_keep d.users (core_context d h.session) so.requests so.told h.feeds.mid so.answers in
    let k = keeps_then (core_context d h.session) h.feeds.mid h.context first (closes_keep d.users h.feeds.mid h.feeds.rest h.feeds.last h.context h.feeds.closes) in
    let_go_steady n d e h.session h.context (ended_slot h.text) h.stood k users h.slots h.registry (ended_true h.text)

fails_steady : (n : ℕ) (d e : Core) (piece : List ℕ) → e.users ≡ d.users → FailsOutOfMemory n d piece e → Steady d e
fails_steady n d e piece users h =
    let so = h.feeds.so_far in
    let first = all_keep d.users (core_context d h.session) so.requests so.told h.feeds.mid so.answers in
    let k = keeps_then (core_context d h.session) h.feeds.mid h.context first (starves_keep d.users h.feeds.mid h.feeds.rest h.context h.feeds.out_of_memory) in
    let_go_steady n d e h.session h.context no_more h.stood k users h.slots h.registry (λ slot. tt)

over_steady : (n : ℕ) (d e : Core) (piece : List ℕ) (fed : Fed) → Feeds n d piece fed e → HasNoSession d n ⊎ EndsWithin n d piece e → Steady d e
over_steady n d e piece fed f (inl none) = steady_same d e (f.idle none).1
over_steady n d e piece fed f (inr ends) = within_steady n d e piece (ap (λ (c : Core). c.users) f.others.rest) ends

fed_steady : (n : ℕ) (d e : Core) (piece : List ℕ) (fed : Fed) → Feeds n d piece fed e → Steady d e
fed_steady n d e piece Standing f = whole_steady n d e piece (ap (λ (c : Core). c.users) f.others.rest) (f.standing refl)
fed_steady n d e piece Over f = over_steady n d e piece Over f (f.over refl)
fed_steady n d e piece Starved f = fails_steady n d e piece (ap (λ (c : Core). c.users) f.others.rest) (f.out_of_memory refl)

-- ---- a record

turned_by : (n : ℕ) (d e : Core) (step : DataStep) (buf : List ℕ) (o : Option (RequestSession DeviceState)) → session_of d n ≡ o → e ≡ record d { slots = e.slots } → TurnsSessions o n d.slots step e.slots buf → Steady d e
turned_by n d e step buf None is rest run = steady_same d e (rest ∙ ap (λ (l : Slots). record d { slots = l }) run.1)
turned_by n d e step buf (Some session) is rest run = record {
  users = ap (λ (c : Core). c.users) rest;
  infos = ap (λ (c : Core). map info_at c.registry) rest;
  faithful = λ h.
      let now = stream_true session.transfer session run.0 step buf run.1 (context_true d n session is h).lent in
      record {
        lying = subst (λ (c : Core). AllByRecursion IsFaithfulPlace c.registry) (sym rest) h.lying;
        lent = subst (AllByRecursion IsFaithfulSessionSlot) (sym run.2) (on_slot_all IsFaithfulSessionSlot (with_session run.0) n d.slots tt (λ slot before. now) h.lent);
      };
}

-- ---- any act

opened_steady : (d : Core) (port : ℕ) → Steady d (after_open_session d port)
opened_steady d port = record {
  users = refl;
  infos = refl;
  faithful = λ h. record { lying = h.lying; lent = with_slot_all IsFaithfulSessionSlot d.slots (new_session_slot d.strings d.opened port) (tt, (tt, (tt, (tt, tt)))) h.lent };
}

taken_steady : (d : Core) (n count : ℕ) → Steady d (record d { slots = on_session_slot (after_taken count) n d.slots })
taken_steady d n count = record {
  users = refl;
  infos = refl;
  faithful = λ h. record { lying = h.lying; lent = on_slot_all IsFaithfulSessionSlot (after_taken count) n d.slots tt (λ slot before. standing_all IsFaithfulSessionSlot slot.session (drop count slot.replies) (after_reply_bytes count slot) tt before) h.lent };
}

connected_steady : (d : Core) (n : ℕ) → Steady d (record d { slots = on_session_slot (on_session after_connected) n d.slots })
connected_steady d n = record {
  users = refl;
  infos = refl;
  faithful = λ h. record { lying = h.lying; lent = on_true after_connected n d.slots (λ session s. s) h.lent };
}

lost_steady : (d : Core) (n : ℕ) → Steady d (record d { slots = on_session_slot (on_session after_lost) n d.slots })
lost_steady d n = record {
  users = refl;
  infos = refl;
  faithful = λ h. record { lying = h.lying; lent = on_true after_lost n d.slots (λ session s. lost_true session.transfer session s) h.lent };
}

left_steady : (d : Core) (n : ℕ) → Steady d (after_end_session d n)
left_steady d n = record {
  users = refl;
  infos = let_go_infos d.registry (session_of d n);
  faithful = λ h. record {
    lying = let_go_true d.registry (session_of d n) (session_true (session_slot_of d.slots n) (slot_all IsFaithfulSessionSlot d.slots n tt h.lent)) h.lying;
    lent = on_slot_all IsFaithfulSessionSlot no_more n d.slots tt (λ slot before. tt) h.lent;
  };
}

pub act_steady : (n : ℕ) (act : SessionAction) (d e : Core) → ActsOn n d act e → Steady d e
act_steady n (Opens port) d e a = subst (Steady d) (sym a.after) (opened_steady d port)
act_steady n (Hears got room bytes) d e a = steady_same d e a
act_steady n (Feed piece fed begins) d e a = fed_steady n d e piece fed a.0
act_steady n (Forgets told port) d e a = steady_same d e a
act_steady n (Take room bytes) d e a = subst (Steady d) (sym a.after) (taken_steady d n (length bytes))
act_steady n (Says got bytes) d e a = steady_same d e a
act_steady n (Looks frame) d e a = steady_same d e a.1
act_steady n (Misses port) d e a = steady_same d e a.1
act_steady n (Connect port) d e a = subst (Steady d) (sym a.after) (connected_steady d n)
act_steady n (Turn room step bytes) d e a = turned_by n d e step a.buffer (session_of d n) refl a.turns.others a.turns.slots
act_steady n (Shows got bytes) d e a = steady_same d e a
act_steady n Lose d e a = subst (Steady d) (sym a) (lost_steady d n)
act_steady n (HangsUp trace) d e a = steady_same d e a
act_steady n (Leaves port trace) d e a = subst (Steady d) (sym a) (left_steady d n)
