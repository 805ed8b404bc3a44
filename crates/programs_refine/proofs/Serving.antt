-- Each act of the server leads on: the world stands behind it as before.
use Rattle.std.specs.Prelude.{◌<◌, ◌≤◌, ◌||◌, ◌+◌, ◌==◌, IsSome, Contains}
use Rattle.std.specs.Option.{option_and_then}
use Rattle.std.proofs.Common.{◌≡◌, ◌≢◌, ◌∙◌, ◌⊎◌, inl, inr, ℕ, Bool, true, false, Option, Some, None, List, [], ◌∷◌, ◌++◌, length, take, slice_get, append-nil, refl, sym, ap, subst, arith}
use Rattle.std.proofs.lemmas.Bool.Decides.{nat_tests}
use Rattle.scan_job.specs.declared.job.Job.{Job}
use Rattle.client_replies.specs.ProtocolStates.{is_running, wanted_port}
use Rattle.net_client.specs.ClientStates.{ClientState}
use Rattle.saned_core.specs.declared.session_slot.SessionId.{SessionId}
use Rattle.saned_core.specs.declared.session_slot.Fed.{Fed}
use Rattle.saned_core.specs.declared.session_slot.Fed.TheVariants as feds
use Rattle.saned_core.specs.declared.session_slot.DataStep.{DataStep}
use Rattle.saned_core.specs.declared.session_slot.DataStep.TheVariants.{Idle, Bytes, Last}
use Rattle.saned_core.specs.DaemonLimits.{HasDaemonLimits}
use Rattle.saned_core.specs.DaemonStates.{Core, after_connected, after_end_session, after_lost, after_open_session, all_slots_taken, frame_in, is_closed, is_waiting, new_session_slot, no_more, on_session, on_session_slot, replies_in, session_in, session_of, session_slot_of}
use Rattle.saned_core.specs.Feeding.{Feeds}
use Rattle.saned_core.specs.Turns.{Turns}
use Rattle.saned_core.proofs.DaemonLimits.{limits_lost, limits_turned}
use Rattle.saned_serve.specs.ConnectionTraces.{ConnectionTrace}
use Rattle.saned_serve.specs.SessionActions.{ActsOn, IsConnected, IsOpened, IsTurned, SessionAction, frame_begins, is_end_record, opens_session, written_by}
use Rattle.saned_serve.specs.SessionActions.SessionAction.{Opens, Hears, Feed, Forgets, Take, Says, Looks, Misses, Connect, Turn, Shows, Lose, HangsUp, Leaves}
use Rattle.saned_serve.specs.Journal.{IsFront, LoopAction, MayDo, has_stopped, projection_of}
use Rattle.saned_serve.specs.Journal.LoopAction.{Of}
use Rattle.saned_serve.proofs.ActionSteps.{or_false, stands_for}
use Rattle.in_flight.specs.InFlight.{DiffersInFlight, SlotDiffersInFlight, undelivered_after_feed, undelivered_with}
use Rattle.in_flight.proofs.Alike.{keeps_none}
use Rattle.in_flight.proofs.Calls.{connections_alike, ends_alike, frames_alike, losses_alike, opens_alike, takes_unseen, turns_alike}
use Rattle.in_flight.proofs.Feeding.{feeds_alike}
use Rattle.in_flight.proofs.Places.{a_place_is_left}
use Rattle.in_flight.proofs.Slots.{Change, Slot, decide, none_free, opened_other, own_slot, unused}
use Rattle.interleaving.specs.HandingOn.{HaveOneSession, Owner}
use Rattle.event_world.specs.declared.event.JobEvent.TheVariants as events
use Rattle.event_world.specs.declared.endpoint.Endpoint.{Endpoint}
use Rattle.event_world.specs.Endpoints.{after_move, with_link}
use Rattle.event_world.specs.JobEvents.{Connects, Does, IsFlowing, frame_state_at, image_lost}
use Rattle.programs_refine.specs.WorldHistory.{HearsInTurn, WantsBeforeItFlows}
use Rattle.programs_refine.proofs.Delivered.{slot_was}
use Rattle.programs_refine.proofs.Flowing.{feeds_flow, flows_or_not, frame_apart, frame_same, last_ends, lost_ends, loses_nothing, on_number, turn_apart, turn_slots, turns_nothing}
use Rattle.programs_refine.proofs.Lists.{there}
use Rattle.programs_refine.proofs.Outgoing.{never_both}
use Rattle.programs_refine.proofs.Passed.{Passed, Traffics, is_starved, nothing_passed, passed_after, passed_of, passes_other, passes_own}
use Rattle.programs_refine.proofs.Replied.{connects, drops, drops_idle, feeds, hangs_up, leaves, takes_replies, turns, turns_idle}
use Rattle.programs_refine.proofs.Tracks.{AlwaysIn, Course, IsLinked, IsUnlinked, JobTracks, Tracks, files_kept, image_bytes, new_files_track, not_moved, stays}
use Rattle.programs_refine.proofs.Tracks.JobTracks.{Unlinked, Linked, Left}
use Rattle.programs_refine.proofs.Acted.{Served, TracksBehind, act_done, comes, same_flying, stranger_done}

-- ---- what is assumed throughout

pub record Setting (course : Course) : Type 0 where
  pub one : HaveOneSession course.owner
  pub within : (k i : ℕ) → course.owner k ≡ Some i → i < length course.jobs
  pub wants : AlwaysIn course WantsBeforeItFlows
  pub hears : AlwaysIn course HearsInTurn

-- ---- the job of a session that is open

record LinkedAt (course : Course) (journal : List LoopAction) (done : ℕ → Traffics) (d : Core) (c : ℕ → ClientState) (t : TracksBehind course journal done d c) (n : ℕ) : Type 0 where
  i : ℕ
  own : course.owner n ≡ Some i
  p : Endpoint
  at : slice_get t.w.endpoints i ≡ Some p
  low : n < d.opened
  l : IsLinked (passed_of journal n) (t.flying n) (done i) n (c i) p

linked_at : (course : Course) (journal : List LoopAction) (done : ℕ → Traffics) (d : Core) (c : ℕ → ClientState) (t : TracksBehind course journal done d c) (s : Setting course) (n i : ℕ)
    → course.owner n ≡ Some i → (passed_of journal n).is_open ≡ true → LinkedAt course journal done d c t n
linked_at course journal done d c t s n i own open_now =
    let j = there course.jobs i (s.within n i own) in
    let e = t.each i j.0 j.1 in
    by j.0 e.0 e.1 e.2
  where
    by : (job : Job) (p : Endpoint) → slice_get t.w.endpoints i ≡ Some p → JobTracks course.owner d.opened t.flying (passed_of journal) (done i) i job (c i) p → LinkedAt course journal done d c t n
    by job p at (Unlinked u) = never_both (passed_of journal n).is_open open_now (ap (λ (x : Passed). x.is_open) (u.silent n own))
    by job p at (Linked k mine low l) =
        let same : k ≡ n = s.one k n i mine own in
        record { i = i; own = own; p = p; at = at; low = subst (λ (x : ℕ). x < d.opened) same low; l = subst (λ (x : ℕ). IsLinked (passed_of journal x) (t.flying x) (done i) x (c i) p) same l }
    by job p at (Left k mine low shut l) = never_both (passed_of journal n).is_open open_now (subst (λ (x : ℕ). (passed_of journal x).is_open ≡ false) (s.one k n i mine own) shut)

-- ---- the acts

-- whose session it is: a job's, or a stranger's
abbrev pub IsOf : Course → ℕ → Type 0
IsOf course n = ((i : ℕ) × (course.owner n ≡ Some i)) ⊎ ((course.owner n ≡ None) × (course.among ≡ true))

take_served : (course : Course) (journal : List LoopAction) (done : ℕ → Traffics) (d d_new : Core) (c : ℕ → ClientState) (t : TracksBehind course journal done d c) (n room : ℕ) (bytes : List ℕ)
    → (passed_of journal n).is_open ≡ true → ActsOn n d (Take room bytes) d_new → Served course journal done d d_new c t n (Take room bytes) t.w.daemon (t.flying n ++ bytes)
take_served course journal done d d_new c t n room bytes on a =
    let same : d_new.opened ≡ d.opened = ap (λ (z : Core). z.opened) a.after in
    record {
      differs = subst (λ (z : Core). DiffersInFlight (undelivered_with n (t.flying n ++ bytes) t.flying) z t.w.daemon) (sym a.after) (takes_unseen t.flying d t.w.daemon n bytes t.differs a.front);
      was = λ k off some. some;
      slot = λ some. on;
      frames = λ k off. refl;
      calm = λ told. t.calm n told;
      more = omega (arith, same);
      above = λ k off high. omega (arith, same, high);
    }

take_act : (course : Course) (journal : List LoopAction) (done : ℕ → Traffics) (d d_new : Core) (c : ℕ → ClientState) (t : TracksBehind course journal done d c) (s : Setting course) (n room : ℕ) (bytes : List ℕ)
    → IsOf course n → (passed_of journal n).is_open ≡ true → ActsOn n d (Take room bytes) d_new → TracksBehind course (Of n (Take room bytes) ∷ journal) done d_new c
take_act course journal done d d_new c t s n room bytes (inl own) on a =
    let x = linked_at course journal done d c t s n own.0 own.1 on in
    let same : d_new.opened ≡ d.opened = ap (λ (z : Core). z.opened) a.after in
    act_done course journal done d d_new c t n x.i (Take room bytes) t.w.daemon (t.flying n ++ bytes) x.own (record {
      serves = take_served course journal done d d_new c t n room bytes on a;
      q = x.p;
      m = not_moved course t.events t.w x.i x.p t.leads x.at;
      low = (let low = x.low in omega (arith, low, same));
      mine = inl (takes_replies (passed_of journal n) (t.flying n) (done x.i) n (c x.i) x.p bytes x.l);
    })
take_act course journal done d d_new c t s n room bytes (inr his) on a = stranger_done course journal done d d_new c t n (Take room bytes) t.w.daemon (t.flying n ++ bytes) his.0 his.1 (take_served course journal done d d_new c t n room bytes on a) (inl refl)

hang_served : (course : Course) (journal : List LoopAction) (done : ℕ → Traffics) (d d_new : Core) (c : ℕ → ClientState) (t : TracksBehind course journal done d c) (n : ℕ) (trace : Option ConnectionTrace) → (passed_of journal n).is_open ≡ true → d_new ≡ d → Served course journal done d d_new c t n (HangsUp trace) t.w.daemon (t.flying n)
hang_served course journal done d d_new c t n trace on a =
    let same : d_new.opened ≡ d.opened = ap (λ (z : Core). z.opened) a in
    record {
      differs = subst (λ (z : Core). DiffersInFlight (undelivered_with n (t.flying n) t.flying) z t.w.daemon) (sym a) (same_flying n t.flying d t.w.daemon t.differs);
      was = λ k off some. some;
      slot = λ some. on;
      frames = λ k off. refl;
      calm = λ told. t.calm n told;
      more = omega (arith, same);
      above = λ k off high. omega (arith, same, high);
    }

hang_act : (course : Course) (journal : List LoopAction) (done : ℕ → Traffics) (d d_new : Core) (c : ℕ → ClientState) (t : TracksBehind course journal done d c) (s : Setting course) (n : ℕ) (trace : Option ConnectionTrace)
    → IsOf course n → (passed_of journal n).is_open ≡ true → d_new ≡ d → TracksBehind course (Of n (HangsUp trace) ∷ journal) done d_new c
hang_act course journal done d d_new c t s n trace (inl own) on a =
    let x = linked_at course journal done d c t s n own.0 own.1 on in
    let same : d_new.opened ≡ d.opened = ap (λ (z : Core). z.opened) a in
    act_done course journal done d d_new c t n x.i (HangsUp trace) t.w.daemon (t.flying n) x.own (record {
      serves = hang_served course journal done d d_new c t n trace on a;
      q = x.p;
      m = not_moved course t.events t.w x.i x.p t.leads x.at;
      low = (let low = x.low in omega (arith, low, same));
      mine = inl (hangs_up (passed_of journal n) (t.flying n) (done x.i) n (c x.i) x.p x.l);
    })
hang_act course journal done d d_new c t s n trace (inr his) on a = stranger_done course journal done d d_new c t n (HangsUp trace) t.w.daemon (t.flying n) his.0 his.1 (hang_served course journal done d d_new c t n trace on a) (inl refl)

-- neither has come
both_off : (a b : Bool) → (a || b) ≡ false → (a ≡ false) × (b ≡ false)
both_off true b e = never_both true refl e
both_off false b e = (refl, e)

feed_served : (course : Course) (journal : List LoopAction) (done : ℕ → Traffics) (d d_new : Core) (c : ℕ → ClientState) (t : TracksBehind course journal done d c) (n : ℕ) (piece : List ℕ) (fed : Fed) (begins : Bool) (e : Core) (bytes : List ℕ)
    → (passed_of journal n).is_open ≡ true → Feeds n d piece fed d_new → DiffersInFlight (undelivered_with n bytes t.flying) d_new e → Feeds n t.w.daemon piece fed e → Served course journal done d d_new c t n (Feed piece fed begins) e bytes
feed_served course journal done d d_new c t n piece fed begins e bytes on a differs call =
    let same : d_new.opened ≡ d.opened = ap (λ (z : Core). z.opened) a.others.rest in
    record {
      differs = differs;
      was = λ k off there_now none. there_now (call.others.slots k off ∙ none);
      slot = λ there_now. on;
      frames = λ k off. frame_same t.w.daemon e k (call.others.slots k off);
      calm = λ told flows. t.calm n told (feeds_flow n t.w.daemon piece fed e t.differs.limits_there.1 call flows);
      more = omega (arith, same);
      above = λ k off high. omega (arith, same, high);
    }

feed_act : (course : Course) (journal : List LoopAction) (done : ℕ → Traffics) (d d_new : Core) (c : ℕ → ClientState) (t : TracksBehind course journal done d c) (s : Setting course) (n : ℕ) (piece : List ℕ) (fed : Fed) (begins : Bool)
    → IsOf course n → (passed_of journal n).is_open ≡ true → piece ≢ [] → length piece ≤ 4096 → ((i : ℕ) → course.owner n ≡ Some i → IsFront ((passed_of journal n).heard ++ piece) (done i).sent) → Feeds n d piece fed d_new
    → TracksBehind course (Of n (Feed piece fed begins) ∷ journal) done d_new c
feed_act course journal done d d_new c t s n piece fed begins (inl own) on some short front a =
    let x = linked_at course journal done d c t s n own.0 own.1 on in
    let same : d_new.opened ≡ d.opened = ap (λ (z : Core). z.opened) a.others.rest in
    let f = feeds_alike t.flying d t.w.daemon d_new n piece fed t.differs a in
    let bytes = undelivered_after_feed fed (t.flying n) in
    let h = feeds t.w.daemon f.e_new n (passed_of journal n) (t.flying n) bytes (passed_after (Feed piece fed begins) (passed_of journal n)).starved (done x.i) (c x.i) x.p piece fed x.l (kept fed) some short (front x.i x.own) f.call in
    act_done course journal done d d_new c t n x.i (Feed piece fed begins) f.e_new bytes x.own (record {
      serves = feed_served course journal done d d_new c t n piece fed begins f.e_new bytes on a f.differs f.call;
      q = h.q;
      m = comes course t.events t.w x.i x.p h.q (events.ToDaemon (length piece)) f.e_new t.leads x.at tt h.can h.does;
      low = (let low = x.low in omega (arith, low, same));
      mine = inl h.tracks;
    })
  where
    kept : (v : Fed) → ((passed_of journal n).starved || is_starved v) ≡ false → (undelivered_after_feed v (t.flying n) ≡ t.flying n) × ((passed_of journal n).starved ≡ false)
    kept feds.Standing e = (refl, (both_off (passed_of journal n).starved false e).0)
    kept feds.Over e = (refl, (both_off (passed_of journal n).starved false e).0)
    kept feds.Starved e = never_both true refl (both_off (passed_of journal n).starved true e).1
feed_act course journal done d d_new c t s n piece fed begins (inr his) on some short front a =
    let f = feeds_alike t.flying d t.w.daemon d_new n piece fed t.differs a in
    let bytes = undelivered_after_feed fed (t.flying n) in
    stranger_done course journal done d d_new c t n (Feed piece fed begins) f.e_new bytes his.0 his.1 (feed_served course journal done d d_new c t n piece fed begins f.e_new bytes on a f.differs f.call)
    (inr (Feed piece fed (frame_begins t.w.daemon n f.e_new), (f.call, refl)))

connect_served : (course : Course) (journal : List LoopAction) (done : ℕ → Traffics) (d d_new : Core) (c : ℕ → ClientState) (t : TracksBehind course journal done d c) (n port : ℕ)
    → (passed_of journal n).is_open ≡ true → IsConnected d n d_new → Served course journal done d d_new c t n (Connect port) (record t.w.daemon { slots = on_session_slot (on_session after_connected) n t.w.daemon.slots }) (t.flying n)
connect_served course journal done d d_new c t n port on a =
    let same : d_new.opened ≡ d.opened = ap (λ (z : Core). z.opened) a.after in
    let f : Change = on_session after_connected in
    let e : Core = record t.w.daemon { slots = on_session_slot f n t.w.daemon.slots } in
    record {
      differs = subst (λ (z : Core). DiffersInFlight (undelivered_with n (t.flying n) t.flying) z e) (sym a.after)
          (same_flying n t.flying (record d { slots = on_session_slot f n d.slots }) e (connections_alike t.flying d t.w.daemon n t.differs));
      was = λ k off. slot_was f n t.w.daemon.opened k t.w.daemon.slots (on_number after_connected) t.differs.limits_there.1;
      slot = λ there_now. on;
      frames = λ k off. frame_apart f n k t.w.daemon e (on_number after_connected) (λ equal. off (sym equal)) refl;
      calm = λ told flows. never_both false told refl;
      more = omega (arith, same);
      above = λ k off high. omega (arith, same, high);
    }

connect_act : (course : Course) (journal : List LoopAction) (done : ℕ → Traffics) (d d_new : Core) (c : ℕ → ClientState) (t : TracksBehind course journal done d c) (s : Setting course) (n port : ℕ)
    → IsOf course n → (passed_of journal n).is_open ≡ true → ((i : ℕ) → course.owner n ≡ Some i → ((passed_of journal n).accepted < (done i).made) × ((done i).taken ≡ [])) → IsConnected d n d_new
    → TracksBehind course (Of n (Connect port) ∷ journal) done d_new c
connect_act course journal done d d_new c t s n port who on less a =
    by (ap is_waiting (frames_alike t.flying d t.w.daemon n t.differs) ∙ a.waits) (connect_served course journal done d d_new c t n port on a) who
  where
    by : is_waiting (frame_in (session_of t.w.daemon n)) ≡ true → Served course journal done d d_new c t n (Connect port) (record t.w.daemon { slots = on_session_slot (on_session after_connected) n t.w.daemon.slots }) (t.flying n)
        → IsOf course n → TracksBehind course (Of n (Connect port) ∷ journal) done d_new c
    by waits served (inl mine) =
        let x = linked_at course journal done d c t s n mine.0 mine.1 on in
        let same : d_new.opened ≡ d.opened = ap (λ (z : Core). z.opened) a.after in
        let there_now : Core = record t.w.daemon { slots = on_session_slot (on_session after_connected) n t.w.daemon.slots } in
        let own = less x.i x.own in
        let h = connects t.w.daemon n (passed_of journal n) (t.flying n) (done x.i) (c x.i) x.p x.l own.0 own.1 waits in
        act_done course journal done d d_new c t n x.i (Connect port) there_now (t.flying n) x.own (record {
          serves = served;
          q = h.q;
          m = comes course t.events t.w x.i x.p h.q events.DataConnect there_now t.leads x.at tt h.can h.does;
          low = (let low = x.low in omega (arith, low, same));
          mine = inl h.tracks;
        })
    by waits served (inr his) =
        stranger_done course journal done d d_new c t n (Connect port) (record t.w.daemon { slots = on_session_slot (on_session after_connected) n t.w.daemon.slots }) (t.flying n) his.0 his.1 served (inr (Connect port, record { waits = waits; after = refl }))

not_so : (b : Bool) → (b ≡ true → ⊥) → b ≡ false
not_so true f = absurd (f refl)
not_so false f = refl

-- no record is due behind the end record
ends_turn : (course : Course) (journal : List LoopAction) (done : ℕ → Traffics) (d d_new : Core) (c : ℕ → ClientState) (t : TracksBehind course journal done d c) (n : ℕ) (v : DataStep) (e : Core) (buf : List ℕ) → Turns n t.w.daemon v e buf → ((passed_of journal n).dropped || (passed_of journal n).last) ≡ false → ((passed_of journal n).dropped || ((passed_of journal n).last || is_end_record v)) ≡ true → IsFlowing (frame_state_at e n) → ⊥
ends_turn course journal done d d_new c t n Idle e buf turned quiet told f = never_both ((passed_of journal n).dropped || ((passed_of journal n).last || false)) told (ap (λ (b : Bool). (passed_of journal n).dropped || b) (or_false (passed_of journal n).last) ∙ quiet)
ends_turn course journal done d d_new c t n (Bytes count) e buf turned quiet told f = never_both ((passed_of journal n).dropped || ((passed_of journal n).last || false)) told (ap (λ (b : Bool). (passed_of journal n).dropped || b) (or_false (passed_of journal n).last) ∙ quiet)
ends_turn course journal done d d_new c t n (Last count) e buf turned quiet told f = last_ends n count t.w.daemon e buf t.differs.limits_there.1 turned f

turn_served : (course : Course) (journal : List LoopAction) (done : ℕ → Traffics) (d d_new : Core) (c : ℕ → ClientState) (t : TracksBehind course journal done d c) (n room : ℕ) (step : DataStep) (bytes : List ℕ) (a : IsTurned d n room step bytes d_new) (e : Core)
    → (passed_of journal n).is_open ≡ true → IsFlowing (frame_state_at t.w.daemon n) → DiffersInFlight t.flying d_new e → Turns n t.w.daemon step e a.buffer → Served course journal done d d_new c t n (Turn room step bytes) e (t.flying n)
turn_served course journal done d d_new c t n room step bytes a e on flows differs call =
    let own = passed_of journal n in
    let same : d_new.opened ≡ d.opened = ap (λ (z : Core). z.opened) a.turns.others in
    let quiet : (own.dropped || own.last) ≡ false = not_so (own.dropped || own.last) (λ told. t.calm n told flows) in
    record {
      differs = same_flying n t.flying d_new e differs;
      was = λ k off. turn_slots n k t.w.daemon e step a.buffer t.differs.limits_there.1 call;
      slot = λ there_now. on;
      frames = λ k off. turn_apart n k t.w.daemon e step a.buffer (λ equal. off (sym equal)) call;
      calm = ends_turn course journal done d d_new c t n step e a.buffer call quiet;
      more = omega (arith, same);
      above = λ k off high. omega (arith, same, high);
    }

turn_flowing : (course : Course) (journal : List LoopAction) (done : ℕ → Traffics) (d d_new : Core) (c : ℕ → ClientState) (t : TracksBehind course journal done d c) (s : Setting course) (n room : ℕ) (step : DataStep) (bytes : List ℕ)
    → IsOf course n → (passed_of journal n).is_open ≡ true → (passed_of journal n).imaging ≡ true → (passed_of journal n).last ≡ false → IsFlowing (frame_state_at t.w.daemon n) → IsTurned d n room step bytes d_new
    → TracksBehind course (Of n (Turn room step bytes) ∷ journal) done d_new c
turn_flowing course journal done d d_new c t s n room step bytes (inl mine) on imaging last flows a =
    let x = linked_at course journal done d c t s n mine.0 mine.1 on in
    let own = passed_of journal n in
    let same : d_new.opened ≡ d.opened = ap (λ (z : Core). z.opened) a.turns.others in
    let f = turns_alike t.flying d t.w.daemon d_new n step a.buffer t.differs a.turns in
    let quiet : (own.dropped || own.last) ≡ false = not_so (own.dropped || own.last) (λ told. t.calm n told flows) in
    let image = x.l.image.stands imaging last (both_off own.dropped own.last quiet).0 in
    let h = turns t.w.daemon f.e_new n own (t.flying n) (done x.i) (c x.i) x.p step a.buffer bytes x.l image last flows a.front f.call in
    act_done course journal done d d_new c t n x.i (Turn room step bytes) f.e_new (t.flying n) x.own (record {
      serves = turn_served course journal done d d_new c t n room step bytes a f.e_new on flows f.differs f.call;
      q = h.q;
      m = comes course t.events t.w x.i x.p h.q events.DataTurn f.e_new t.leads x.at tt h.can h.does;
      low = (let low = x.low in omega (arith, low, same));
      mine = inl h.tracks;
    })
turn_flowing course journal done d d_new c t s n room step bytes (inr his) on imaging last flows a =
    let f = turns_alike t.flying d t.w.daemon d_new n step a.buffer t.differs a.turns in
    stranger_done course journal done d d_new c t n (Turn room step bytes) f.e_new (t.flying n) his.0 his.1 (turn_served course journal done d d_new c t n room step bytes a f.e_new on flows f.differs f.call)
    (inr (Turn room step bytes, record { buffer = a.buffer; size = a.size; turns = f.call; fits = a.fits; front = a.front }))

-- the same sessions, at the daemon of the programs
same_slots : (flying : ℕ → List ℕ) (d d_new e : Core) → d_new ≡ record d { slots = d_new.slots } → HasDaemonLimits d_new → ((m : ℕ) → session_slot_of d_new.slots m ≡ session_slot_of d.slots m) → DiffersInFlight flying d e → DiffersInFlight flying d_new e
same_slots flying d d_new e is limits slots h = record {
  registry = h.registry ∙ sym (ap (λ (z : Core). z.registry) is);
  users = h.users ∙ sym (ap (λ (z : Core). z.users) is);
  strings = h.strings ∙ sym (ap (λ (z : Core). z.strings) is);
  stream = h.stream ∙ sym (ap (λ (z : Core). z.stream) is);
  opened = h.opened ∙ sym (ap (λ (z : Core). z.opened) is);
  sessions = λ k. subst (λ (z : Option Slot). SlotDiffersInFlight (flying k) z (session_slot_of e.slots k)) (sym (slots k)) (h.sessions k);
  limits = limits;
  limits_there = h.limits_there;
}

still_served : (course : Course) (journal : List LoopAction) (done : ℕ → Traffics) (d d_new : Core) (c : ℕ → ClientState) (t : TracksBehind course journal done d c) (n : ℕ) (act : SessionAction)
    → d_new ≡ record d { slots = d_new.slots } → HasDaemonLimits d_new → ((m : ℕ) → session_slot_of d_new.slots m ≡ session_slot_of d.slots m) → (passed_after act (passed_of journal n)).is_open ≡ true → (IsFlowing (frame_state_at t.w.daemon n) → ⊥) → Served course journal done d d_new c t n act t.w.daemon (t.flying n)
still_served course journal done d d_new c t n act is limits slots on off =
    let same : d_new.opened ≡ d.opened = ap (λ (z : Core). z.opened) is in
    record {
      differs = same_flying n t.flying d_new t.w.daemon (same_slots t.flying d d_new t.w.daemon is limits slots t.differs);
      was = λ k other some. some;
      slot = λ some. on;
      frames = λ k other. refl;
      calm = λ told flows. off flows;
      more = omega (arith, same);
      above = λ k other high. omega (arith, same, high);
    }

turn_idle : (course : Course) (journal : List LoopAction) (done : ℕ → Traffics) (d d_new : Core) (c : ℕ → ClientState) (t : TracksBehind course journal done d c) (s : Setting course) (n room : ℕ) (step : DataStep) (bytes : List ℕ)
    → IsOf course n → (passed_of journal n).is_open ≡ true → (IsFlowing (frame_state_at t.w.daemon n) → ⊥) → IsTurned d n room step bytes d_new → TracksBehind course (Of n (Turn room step bytes) ∷ journal) done d_new c
turn_idle course journal done d d_new c t s n room step bytes who on off a =
    let here : IsFlowing (frame_state_at d n) → ⊥ = λ f. off (subst IsFlowing (sym (frames_alike t.flying d t.w.daemon n t.differs)) f) in
    let none = turns_nothing n d d_new step a.buffer t.differs.limits.1 here a.turns in
    let nothing : bytes ≡ [] = a.front ∙ ap (λ (v : DataStep). take (written_by v) a.buffer) none.idle in
    by none.idle nothing (still_served course journal done d d_new c t n (Turn room step bytes) a.turns.others (limits_turned n d step d_new a.buffer a.turns t.differs.limits) none.slots on off) who
  where
    by : step ≡ Idle → bytes ≡ [] → Served course journal done d d_new c t n (Turn room step bytes) t.w.daemon (t.flying n) → IsOf course n → TracksBehind course (Of n (Turn room step bytes) ∷ journal) done d_new c
    by idle nothing served (inl mine) =
        let x = linked_at course journal done d c t s n mine.0 mine.1 on in
        let same : d_new.opened ≡ d.opened = ap (λ (z : Core). z.opened) a.turns.others in
        act_done course journal done d d_new c t n x.i (Turn room step bytes) t.w.daemon (t.flying n) x.own (record {
          serves = served;
          q = x.p;
          m = not_moved course t.events t.w x.i x.p t.leads x.at;
          low = (let low = x.low in omega (arith, low, same));
          mine = inl (turns_idle (passed_of journal n) (t.flying n) (done x.i) n (c x.i) x.p step bytes idle nothing x.l);
        })
    by idle nothing served (inr his) = stranger_done course journal done d d_new c t n (Turn room step bytes) t.w.daemon (t.flying n) his.0 his.1 served (inl refl)

turn_act : (course : Course) (journal : List LoopAction) (done : ℕ → Traffics) (d d_new : Core) (c : ℕ → ClientState) (t : TracksBehind course journal done d c) (s : Setting course) (n room : ℕ) (step : DataStep) (bytes : List ℕ)
    → IsOf course n → (passed_of journal n).is_open ≡ true → (passed_of journal n).imaging ≡ true → (passed_of journal n).last ≡ false → IsTurned d n room step bytes d_new → TracksBehind course (Of n (Turn room step bytes) ∷ journal) done d_new c
turn_act course journal done d d_new c t s n room step bytes who on imaging last a = by (flows_or_not (frame_state_at t.w.daemon n))
  where
    by : IsFlowing (frame_state_at t.w.daemon n) ⊎ (IsFlowing (frame_state_at t.w.daemon n) → ⊥) → TracksBehind course (Of n (Turn room step bytes) ∷ journal) done d_new c
    by (inl flows) = turn_flowing course journal done d d_new c t s n room step bytes who on imaging last flows a
    by (inr off) = turn_idle course journal done d d_new c t s n room step bytes who on off a

lose_served : (course : Course) (journal : List LoopAction) (done : ℕ → Traffics) (d d_new : Core) (c : ℕ → ClientState) (t : TracksBehind course journal done d c) (n : ℕ) → (passed_of journal n).is_open ≡ true → d_new ≡ record d { slots = on_session_slot (on_session after_lost) n d.slots } → Served course journal done d d_new c t n Lose (image_lost n t.w.daemon) (t.flying n)
lose_served course journal done d d_new c t n on a =
    let f : Change = on_session after_lost in
    let e : Core = image_lost n t.w.daemon in
    let same : d_new.opened ≡ d.opened = ap (λ (z : Core). z.opened) a in
    record {
      differs = subst (λ (z : Core). DiffersInFlight (undelivered_with n (t.flying n) t.flying) z e) (sym a)
          (same_flying n t.flying (record d { slots = on_session_slot f n d.slots }) e (losses_alike t.flying d t.w.daemon n t.differs));
      was = λ k other. slot_was f n t.w.daemon.opened k t.w.daemon.slots (on_number after_lost) t.differs.limits_there.1;
      slot = λ there_now. on;
      frames = λ k other. frame_apart f n k t.w.daemon e (on_number after_lost) (λ equal. other (sym equal)) refl;
      calm = λ told. lost_ends n t.w.daemon e t.differs.limits_there.1 refl;
      more = omega (arith, same);
      above = λ k other high. omega (arith, same, high);
    }

lose_flowing : (course : Course) (journal : List LoopAction) (done : ℕ → Traffics) (d d_new : Core) (c : ℕ → ClientState) (t : TracksBehind course journal done d c) (s : Setting course) (n : ℕ)
    → IsOf course n → (passed_of journal n).is_open ≡ true → (passed_of journal n).imaging ≡ true → IsFlowing (frame_state_at t.w.daemon n) → d_new ≡ record d { slots = on_session_slot (on_session after_lost) n d.slots } → TracksBehind course (Of n Lose ∷ journal) done d_new c
lose_flowing course journal done d d_new c t s n (inl mine) on imaging flows a =
    let own = passed_of journal n in
    let same : d_new.opened ≡ d.opened = ap (λ (z : Core). z.opened) a in
    let x = linked_at course journal done d c t s n mine.0 mine.1 on in
    let e : Core = image_lost n t.w.daemon in
    let quiet : (own.dropped || own.last) ≡ false = not_so (own.dropped || own.last) (λ told. t.calm n told flows) in
    let off = both_off own.dropped own.last quiet in
    let image = x.l.image.stands imaging off.1 off.0 in
    let wish = λ (runs : is_running x.p.client.outcome ≡ true) (wants : IsSome (wanted_port x.p.client.progress)).
    s.wants t.events t.w t.leads x.i x.p x.l.id x.at x.l.link runs wants (subst (λ (k : ℕ). IsFlowing (frame_state_at t.w.daemon k)) (sym x.l.number) flows) in
    let h = drops t.w.daemon n own (t.flying n) (done x.i) (c x.i) x.p x.l image wish in
    act_done course journal done d d_new c t n x.i Lose e (t.flying n) x.own (record {
      serves = lose_served course journal done d d_new c t n on a;
      q = h.q;
      m = comes course t.events t.w x.i x.p h.q events.LoseImage e t.leads x.at tt h.can h.does;
      low = (let low = x.low in omega (arith, low, same));
      mine = inl h.tracks;
    })
lose_flowing course journal done d d_new c t s n (inr his) on imaging flows a = stranger_done course journal done d d_new c t n Lose (image_lost n t.w.daemon) (t.flying n) his.0 his.1 (lose_served course journal done d d_new c t n on a) (inr (Lose, refl))

lose_idle : (course : Course) (journal : List LoopAction) (done : ℕ → Traffics) (d d_new : Core) (c : ℕ → ClientState) (t : TracksBehind course journal done d c) (s : Setting course) (n : ℕ)
    → IsOf course n → (passed_of journal n).is_open ≡ true → (IsFlowing (frame_state_at t.w.daemon n) → ⊥) → d_new ≡ record d { slots = on_session_slot (on_session after_lost) n d.slots } → TracksBehind course (Of n Lose ∷ journal) done d_new c
lose_idle course journal done d d_new c t s n who on off a =
    let here : IsFlowing (frame_state_at d n) → ⊥ = λ g. off (subst IsFlowing (sym (frames_alike t.flying d t.w.daemon n t.differs)) g) in
    by who (subst (λ (z : Core). Served course journal done d z c t n Lose t.w.daemon (t.flying n)) (sym a)
    (still_served course journal done d (record d { slots = on_session_slot (on_session after_lost) n d.slots }) c t n Lose refl (limits_lost d n t.differs.limits) (loses_nothing n d t.differs.limits.1 here) on off))
  where
    by : IsOf course n → Served course journal done d d_new c t n Lose t.w.daemon (t.flying n) → TracksBehind course (Of n Lose ∷ journal) done d_new c
    by (inl mine) served =
        let x = linked_at course journal done d c t s n mine.0 mine.1 on in
        let same : d_new.opened ≡ d.opened = ap (λ (z : Core). z.opened) a in
        act_done course journal done d d_new c t n x.i Lose t.w.daemon (t.flying n) x.own (record {
          serves = served;
          q = x.p;
          m = not_moved course t.events t.w x.i x.p t.leads x.at;
          low = (let low = x.low in omega (arith, low, same));
          mine = inl (drops_idle (passed_of journal n) (t.flying n) (done x.i) n (c x.i) x.p x.l);
        })
    by (inr his) served = stranger_done course journal done d d_new c t n Lose t.w.daemon (t.flying n) his.0 his.1 served (inl refl)

lose_act : (course : Course) (journal : List LoopAction) (done : ℕ → Traffics) (d d_new : Core) (c : ℕ → ClientState) (t : TracksBehind course journal done d c) (s : Setting course) (n : ℕ)
    → IsOf course n → (passed_of journal n).is_open ≡ true → (passed_of journal n).imaging ≡ true → d_new ≡ record d { slots = on_session_slot (on_session after_lost) n d.slots } → TracksBehind course (Of n Lose ∷ journal) done d_new c
lose_act course journal done d d_new c t s n who on imaging a = by (flows_or_not (frame_state_at t.w.daemon n))
  where
    by : IsFlowing (frame_state_at t.w.daemon n) ⊎ (IsFlowing (frame_state_at t.w.daemon n) → ⊥) → TracksBehind course (Of n Lose ∷ journal) done d_new c
    by (inl flows) = lose_flowing course journal done d d_new c t s n who on imaging flows a
    by (inr off) = lose_idle course journal done d d_new c t s n who on off a

none_left : (slot : Option Slot) → option_and_then no_more slot ≡ None
none_left None = refl
none_left (Some slot) = refl

leave_served : (course : Course) (journal : List LoopAction) (done : ℕ → Traffics) (d d_new : Core) (c : ℕ → ClientState) (t : TracksBehind course journal done d c) (n port : ℕ) (trace : Option ConnectionTrace) → d_new ≡ after_end_session d n → Served course journal done d d_new c t n (Leaves port trace) (after_end_session t.w.daemon n) []
leave_served course journal done d d_new c t n port trace a =
    let same : d_new.opened ≡ d.opened = ap (λ (z : Core). z.opened) a in
    let e : Core = after_end_session t.w.daemon n in
    let gone : session_slot_of e.slots n ≡ None = own_slot no_more n t.w.daemon.opened t.w.daemon.slots keeps_none t.differs.limits_there.1 ∙ none_left (session_slot_of t.w.daemon.slots n) in
    record {
      differs = subst (λ (z : Core). DiffersInFlight (undelivered_with n [] t.flying) z e) (sym a) (ends_alike t.flying d t.w.daemon n t.differs);
      was = λ k other. slot_was no_more n t.w.daemon.opened k t.w.daemon.slots keeps_none t.differs.limits_there.1;
      slot = λ some. absurd (some gone);
      frames = λ k other. frame_apart no_more n k t.w.daemon e keeps_none (λ equal. other (sym equal)) refl;
      calm = λ told flows. subst (λ (z : Option Slot). IsFlowing (frame_in (session_in z))) gone flows;
      more = omega (arith, same);
      above = λ k other high. omega (arith, same, high);
    }

leave_act : (course : Course) (journal : List LoopAction) (done : ℕ → Traffics) (d d_new : Core) (c : ℕ → ClientState) (t : TracksBehind course journal done d c) (s : Setting course) (n port : ℕ) (trace : Option ConnectionTrace)
    → IsOf course n → (passed_of journal n).is_open ≡ true → d_new ≡ after_end_session d n → TracksBehind course (Of n (Leaves port trace) ∷ journal) done d_new c
leave_act course journal done d d_new c t s n port trace (inl mine) on a =
    let x = linked_at course journal done d c t s n mine.0 mine.1 on in
    let own = passed_of journal n in
    let same : d_new.opened ≡ d.opened = ap (λ (z : Core). z.opened) a in
    let e : Core = after_end_session t.w.daemon n in
    let h = leaves t.w.daemon n own (t.flying n) (done x.i) (c x.i) x.p x.l in
    act_done course journal done d d_new c t n x.i (Leaves port trace) e [] x.own (record {
      serves = leave_served course journal done d d_new c t n port trace a;
      q = h.q;
      m = comes course t.events t.w x.i x.p h.q events.LoseControl e t.leads x.at tt h.can h.does;
      low = (let low = x.low in omega (arith, low, same));
      mine = inr (refl, h.left);
    })
leave_act course journal done d d_new c t s n port trace (inr his) on a = stranger_done course journal done d d_new c t n (Leaves port trace) (after_end_session t.w.daemon n) [] his.0 his.1 (leave_served course journal done d d_new c t n port trace a) (inr (Leaves port trace, refl))

-- ---- a session is opened

next_one : (a b : ℕ) → a ≤ b → b ≢ a → a + 1 ≤ b
next_one a b low off = by (decide b a)
  where
    by : (b ≡ a) ⊎ (b ≢ a) → a + 1 ≤ b
    by (inl same) = absurd (off same)
    by (inr other) = grind (arith, nat_tests)

no_flying : (flying : ℕ → List ℕ) (d e : Core) (n : ℕ) → DiffersInFlight flying d e → session_slot_of d.slots n ≡ None → session_slot_of e.slots n ≡ None → flying n ≡ []
no_flying flying d e n h here away =
    sym (append-nil (flying n)) ∙ sym (ap (λ (z : Option Slot). flying n ++ replies_in z) here) ∙ sym (h.sessions n).replies ∙ ap replies_in away

opened_linked : (own : Passed) (flying : List ℕ) (x : Traffics) (n port : ℕ) (i : ℕ) (owner : Owner) (opened : ℕ) (passed : ℕ → Passed) (job : Job) (c : ClientState) (p : Endpoint) (id : SessionId) → id.number ≡ n → own ≡ nothing_passed → flying ≡ [] → IsUnlinked owner opened passed x i job c p
    → IsLinked (passed_after (Opens port) own) flying x n c (with_link id (after_move p))
opened_linked own flying x n port i owner opened passed job c p id number silent none u = record {
  id = id;
  link = refl;
  number = number;
  is_open = refl;
  pending = false;
  made = ap (λ (z : Traffics). z.made) u.rest ∙ sym (ap (λ (z : Passed). z.accepted + 0) silent);
  follows = u.follows;
  out = u.out;
  said = λ ok. sym (ap (λ (z : Traffics). z.heard ++ flying) u.rest ∙ none);
  image = record {
    way = λ off told. sym (ap (λ (z : Traffics). z.taken ++ image_bytes p.image) u.rest ∙ ap image_bytes image);
    stands = λ imaging last told. never_both false imaging refl;
    last_is = λ z at. absurd (let wrong : None ≡ Some z = sym image ∙ at in cc);
  };
  files = files_kept x.turned x.given p (with_link id (after_move p)) (record { file = refl; pages = refl; finished = refl; task = refl; done = λ done. done })
      (new_files_track job p x.turned x.given u.new (ap (λ (z : Traffics). z.turned) u.rest) (ap (λ (z : Traffics). z.given) u.rest));
}
  where
    image : p.image ≡ None
    image = ap (λ (z : Endpoint). z.image) u.new.rest

-- sessions that stand have their numbers among fewer than eight
pub record AreFew (journal : List LoopAction) : Type 0 where
  pub numbers : List ℕ
  pub few : length numbers < 8
  pub all : (k : ℕ) → (passed_of journal k).is_open ≡ true → Contains numbers k

-- a place is free for it in the world as well
place_there : (course : Course) (journal : List LoopAction) (done : ℕ → Traffics) (d d_new : Core) (c : ℕ → ClientState) (t : TracksBehind course journal done d c) (n port : ℕ) → AreFew journal → IsOpened d port n d_new → is_closed t.w.daemon ≡ false
place_there course journal done d d_new c t n port few a =
    let w = t.w.daemon in
    let full = both_off (d.opened == 18446744073709551615) (all_slots_taken d.slots) a.room in
    let left = a_place_is_left w few.numbers t.differs.limits_there (λ k some. few.all k (t.slots k some)) few.few in
    ap (λ (z : ℕ). (z == 18446744073709551615) || all_slots_taken w.slots) t.differs.opened ∙ ap (λ (b : Bool). b || all_slots_taken w.slots) full.0 ∙ left

there_opened : (course : Course) (journal : List LoopAction) (done : ℕ → Traffics) (d d_new : Core) (c : ℕ → ClientState) (t : TracksBehind course journal done d c) (n port : ℕ) → IsOpened d port n d_new → t.w.daemon.opened ≡ n
there_opened course journal done d d_new c t n port a = t.differs.opened ∙ sym a.numbered

nothing_flies : (course : Course) (journal : List LoopAction) (done : ℕ → Traffics) (d d_new : Core) (c : ℕ → ClientState) (t : TracksBehind course journal done d c) (n port : ℕ) → IsOpened d port n d_new → t.flying n ≡ []
nothing_flies course journal done d d_new c t n port a =
    let w = t.w.daemon in
    no_flying t.flying d w n t.differs (ap (session_slot_of d.slots) a.numbered ∙ none_free d.opened d.slots (unused d.opened d.slots t.differs.limits.1))
    (ap (session_slot_of w.slots) (sym (there_opened course journal done d d_new c t n port a)) ∙ none_free w.opened w.slots (unused w.opened w.slots t.differs.limits_there.1))

open_served : (course : Course) (journal : List LoopAction) (done : ℕ → Traffics) (d d_new : Core) (c : ℕ → ClientState) (t : TracksBehind course journal done d c) (n port : ℕ) → AreFew journal → IsOpened d port n d_new → Served course journal done d d_new c t n (Opens port) (after_open_session t.w.daemon port) (t.flying n)
open_served course journal done d d_new c t n port few a = record {
  differs = subst (λ (z : Core). DiffersInFlight (undelivered_with n (t.flying n) t.flying) z e) (sym a.after) (same_flying n t.flying (after_open_session d port) e (opens_alike t.flying d w port t.differs a.room (place_there course journal done d d_new c t n port few a)));
  was = λ k off some none. some (others k off ∙ none);
  slot = λ some. refl;
  frames = λ k off. frame_same w e k (others k off);
  calm = λ told. never_both false told refl;
  more = omega (arith, opened);
  above = λ k off high. (let next = next_one d.opened k high (λ same. off (same ∙ sym a.numbered)) in omega (arith, opened, next));
}
  where
    w : Core
    w = t.w.daemon

    e : Core
    e = after_open_session t.w.daemon port

    opened : d_new.opened ≡ d.opened + 1
    opened = ap (λ (z : Core). z.opened) a.after

    others : (k : ℕ) → k ≢ n → session_slot_of (after_open_session t.w.daemon port).slots k ≡ session_slot_of t.w.daemon.slots k
    others k off = opened_other t.w.daemon.slots (new_session_slot t.w.daemon.strings t.w.daemon.opened port) k (λ same. off (same ∙ there_opened course journal done d d_new c t n port a))

open_act : (course : Course) (journal : List LoopAction) (done : ℕ → Traffics) (d d_new : Core) (c : ℕ → ClientState) (t : TracksBehind course journal done d c) (s : Setting course) (n port : ℕ)
    → IsOf course n → AreFew journal → IsOpened d port n d_new → TracksBehind course (Of n (Opens port) ∷ journal) done d_new c
open_act course journal done d d_new c t s n port (inr his) few a =
    stranger_done course journal done d d_new c t n (Opens port) (after_open_session t.w.daemon port) (t.flying n) his.0 his.1 (open_served course journal done d d_new c t n port few a)
    (inr (Opens port, record { room = place_there course journal done d d_new c t n port few a; numbered = sym (there_opened course journal done d d_new c t n port a); after = refl }))
open_act course journal done d d_new c t s n port (inl mine) few a =
    let j = there course.jobs mine.0 (s.within n mine.0 mine.1) in
    let e = t.each mine.0 j.0 j.1 in
    by mine.0 mine.1 j.0 e.0 e.1 e.2
  where
    begun : (i : ℕ) → course.owner n ≡ Some i → (job : Job) (p : Endpoint) → slice_get t.w.endpoints i ≡ Some p → IsUnlinked course.owner d.opened (passed_of journal) (done i) i job (c i) p → TracksBehind course (Of n (Opens port) ∷ journal) done d_new c
    begun i own job p here u =
        let w = t.w.daemon in
        let id : SessionId = record { number = n } in
        let q : Endpoint = with_link id (after_move p) in
        let e : Core = after_open_session w port in
        let opened : d_new.opened ≡ d.opened + 1 = ap (λ (z : Core). z.opened) a.after in
        let runs : is_running p.client.outcome ≡ true = ap (λ (z : ClientState). is_running z.outcome) u.new.client.value in
        let before : p.was_connected ≡ false = ap (λ (z : Endpoint). z.was_connected) u.new.rest in
        let does : Does w p events.Connect e q = (port, subst (λ (b : Bool). Connects port b w p e q) (sym (place_there course journal done d d_new c t n port few a)) (id, sym (there_opened course journal done d d_new c t n port a), refl, refl)) in
        act_done course journal done d d_new c t n i (Opens port) e (t.flying n) own (record {
          serves = open_served course journal done d d_new c t n port few a;
          q = q;
          m = comes course t.events t.w i p q events.Connect e t.leads here tt (runs, before) does;
          low = (let numbered = a.numbered in omega (arith, opened, numbered));
          mine = inl (opened_linked (passed_of journal n) (t.flying n) (done i) n port i course.owner d.opened (passed_of journal) job (c i) p id refl (u.silent n own) (nothing_flies course journal done d d_new c t n port a) u);
        })

    by : (i : ℕ) → course.owner n ≡ Some i → (job : Job) (p : Endpoint) → slice_get t.w.endpoints i ≡ Some p → JobTracks course.owner d.opened t.flying (passed_of journal) (done i) i job (c i) p → TracksBehind course (Of n (Opens port) ∷ journal) done d_new c
    by i own job p here (Unlinked u) = begun i own job p here u
    by i own job p here (Linked k mine low l) = absurd (let same = s.one k n i mine own in let numbered = a.numbered in omega (arith, low, same, numbered))
    by i own job p here (Left k mine low shut l) = absurd (let same = s.one k n i mine own in let numbered = a.numbered in omega (arith, low, same, numbered))

-- ---- an act by which nothing passes

pub same_done : (course : Course) (passed passed_new : ℕ → Passed) (done : ℕ → Traffics) (d d_new : Core) (c : ℕ → ClientState) → ((k : ℕ) → passed_new k ≡ passed k) → d_new ≡ d → Tracks course passed done d c → Tracks course passed_new done d_new c
same_done course passed passed_new done d d_new c same is t = record {
  events = t.events;
  w = t.w;
  leads = t.leads;
  count = t.count;
  flying = t.flying;
  differs = subst (λ (z : Core). DiffersInFlight t.flying z t.w.daemon) (sym is) t.differs;
  slots = λ k some. ap (λ (x : Passed). x.is_open) (same k) ∙ t.slots k some;
  owned = λ none k on. t.owned none k (sym (ap (λ (x : Passed). x.is_open) (same k)) ∙ on);
  calm = λ k told. t.calm k (sym (ap (λ (x : Passed). x.dropped || x.last) (same k)) ∙ told);
  each = λ i job at.
      let e = t.each i job at in
      let opened : d.opened ≡ d_new.opened = sym (ap (λ (z : Core). z.opened) is) in
      (e.0, e.1, stays course.owner d.opened d_new.opened t.flying t.flying passed passed_new (done i) i job (c i) e.0 (omega (arith, opened)) (λ k own high. omega (arith, opened, high)) (λ k own. same k) (λ k own. refl) e.2);
}

-- an act for a session by which nothing passes
nothing_passes : (course : Course) (journal : List LoopAction) (done : ℕ → Traffics) (d d_new : Core) (c : ℕ → ClientState) (n : ℕ) (act : SessionAction) → ((x : Passed) → passed_after act x ≡ x) → d_new ≡ d → TracksBehind course journal done d c
    → TracksBehind course (Of n act ∷ journal) done d_new c
nothing_passes course journal done d d_new c n act none is t = same_done course (passed_of journal) (passed_of (Of n act ∷ journal)) done d d_new c same is t
  where
    same : (k : ℕ) → passed_of (Of n act ∷ journal) k ≡ passed_of journal k
    same k = by (decide k n)
      where
        by : (k ≡ n) ⊎ (k ≢ n) → passed_of (Of n act ∷ journal) k ≡ passed_of journal k
        by (inl on) = ap (passed_of (Of n act ∷ journal)) on ∙ passes_own n act journal ∙ none (passed_of journal n) ∙ ap (passed_of journal) (sym on)
        by (inr off) = passes_other n k act journal (λ equal. off (sym equal))

-- ---- every action of the server

-- what connections that hand on allow
abbrev pub Handed : Owner → Bool → (ℕ → Passed) → (ℕ → Traffics) → ℕ → SessionAction → Type 0
Handed owner among passed done n (Opens port) = among ≡ false → (i : ℕ) × (owner n ≡ Some i)
Handed owner among passed done n (Feed piece fed begins) = (i : ℕ) → owner n ≡ Some i → IsFront ((passed n).heard ++ piece) (done i).sent
Handed owner among passed done n (Connect port) = (i : ℕ) → owner n ≡ Some i → ((passed n).accepted < (done i).made) × ((done i).taken ≡ [])
Handed owner among passed done n act = Unit {0}

-- a session is a job's, or strangers may speak, and it is one of them
whose : (course : Course) (n : ℕ) → (course.among ≡ false → (i : ℕ) × (course.owner n ≡ Some i)) → IsOf course n
whose course n own = by (course.owner n) refl course.among refl
  where
    by : (o : Option ℕ) → course.owner n ≡ o → (b : Bool) → course.among ≡ b → IsOf course n
    by (Some i) at b may = inl (i, at)
    by None at true may = inr (at, may)
    by None at false off = inl (own off)

stands_whose : (course : Course) (journal : List LoopAction) (done : ℕ → Traffics) (d : Core) (c : ℕ → ClientState) (t : TracksBehind course journal done d c) (n : ℕ) → (passed_of journal n).is_open ≡ true → IsOf course n
stands_whose course journal done d c t n on = whose course n (λ none. t.owned none n on)

pub acts_on : (course : Course) (journal : List LoopAction) (done : ℕ → Traffics) (d d_new : Core) (c : ℕ → ClientState) (s : Setting course) (n : ℕ) (act : SessionAction)
    → MayDo act (projection_of n journal) (has_stopped journal) → (opens_session act ≡ true → AreFew journal) → Handed course.owner course.among (passed_of journal) done n act → ActsOn n d act d_new → TracksBehind course journal done d c → TracksBehind course (Of n act ∷ journal) done d_new c
acts_on course journal done d d_new c s n (Opens port) may few handed a t = open_act course journal done d d_new c t s n port (whose course n handed) (few refl) a
acts_on course journal done d d_new c s n (Hears got room bytes) may few handed a t = nothing_passes course journal done d d_new c n (Hears got room bytes) (λ x. refl) a t
acts_on course journal done d d_new c s n (Feed piece fed begins) may few handed a t = feed_act course journal done d d_new c t s n piece fed begins (stands_whose course journal done d c t n may.0) may.0 may.2 may.3 handed a.0
acts_on course journal done d d_new c s n (Forgets told port) may few handed a t = nothing_passes course journal done d d_new c n (Forgets told port) (λ x. refl) a t
acts_on course journal done d d_new c s n (Take room bytes) may few handed a t = take_act course journal done d d_new c t s n room bytes (stands_whose course journal done d c t n may.0) may.0 a
acts_on course journal done d d_new c s n (Says got bytes) may few handed a t = nothing_passes course journal done d d_new c n (Says got bytes) (λ x. refl) a t
acts_on course journal done d d_new c s n (Looks frame) may few handed a t = nothing_passes course journal done d d_new c n (Looks frame) (λ x. refl) a.1 t
acts_on course journal done d d_new c s n (Misses port) may few handed a t = nothing_passes course journal done d d_new c n (Misses port) (λ x. refl) a.1 t
acts_on course journal done d d_new c s n (Connect port) may few handed a t = connect_act course journal done d d_new c t s n port (stands_whose course journal done d c t n may.0) may.0 handed a
acts_on course journal done d d_new c s n (Turn room step bytes) may few handed a t = turn_act course journal done d d_new c t s n room step bytes (stands_whose course journal done d c t n may.0) may.0 may.1 may.3 a
acts_on course journal done d d_new c s n (Shows got bytes) may few handed a t = nothing_passes course journal done d d_new c n (Shows got bytes) (λ x. refl) a t
acts_on course journal done d d_new c s n Lose may few handed a t = lose_act course journal done d d_new c t s n (stands_whose course journal done d c t n may.0) may.0 may.1 a
acts_on course journal done d d_new c s n (HangsUp trace) may few handed a t =
    let on = stands_for (HangsUp trace) (projection_of n journal) (has_stopped journal) refl may in
    hang_act course journal done d d_new c t s n trace (stands_whose course journal done d c t n on) on a
acts_on course journal done d d_new c s n (Leaves port trace) may few handed a t =
    let on = stands_for (Leaves port trace) (projection_of n journal) (has_stopped journal) refl may in
    leave_act course journal done d d_new c t s n port trace (stands_whose course journal done d c t n on) on a
