-- Whatever a stranger does, the jobs and the other strangers stand.
use Rattle.std.specs.Option.{option_and_then}
use Rattle.std.specs.List.{AllByRecursion}
use Rattle.std.proofs.Common.{◌≡◌, ◌≢◌, ◌∙◌, ◌⊎◌, inl, inr, ℕ, ◌+◌, ◌≤◌, ◌<◌, List, [], ◌∷◌, ◌++◌, Bool, true, false, Option, Some, None, option_map, refl, sym, ap, subst, length, slice_get, arith}
use Rattle.device_api.specs.State.{DeviceState}
use Rattle.dispatch.specs.Table.{Table}
use Rattle.saned_requests.specs.declared.session.Session.{Session as RequestSession}
use Rattle.saned_requests.specs.RequestAnswers.{RequestContext}
use Rattle.saned_core.specs.declared.session_slot.Fed.{Fed}
use Rattle.saned_core.specs.declared.session_slot.Fed.TheVariants.{Standing, Over, Starved}
use Rattle.saned_core.specs.declared.session_slot.SessionId.{SessionId}
use Rattle.saned_core.specs.declared.session_slot.SessionSlot.{SessionSlot}
use Rattle.saned_core.specs.DaemonLimits.{HasDaemonLimits, HaveOwnNumbers, IsFree}
use Rattle.saned_core.specs.DaemonStates.{Core, after_connected, after_end_session, after_lost, after_open_session, after_reply_bytes, after_taken, frame_in, is_closed, is_waiting, no_more, on_session, on_session_slot, session_in, session_let_go, session_of, session_slot_of, slot_if_open}
use Rattle.saned_core.specs.Feeding.{Feeds}
use Rattle.saned_core.specs.Inside.{slot_after_feed, slot_or_none_after_feed}
use Rattle.saned_core.specs.Turns.{TurnsSessions}
use Rattle.saned_core.proofs.Apart.{apart, feed_keeps}
use Rattle.saned_core.proofs.DaemonLimits.{limits_connected, limits_ended, limits_fed, limits_lost, limits_opened, limits_taken, limits_turned}
use Rattle.saned_core.proofs.FeedCases.{feeds_in}
use Rattle.saned_serve.specs.SessionActions.{ActsOn, SessionAction}
use Rattle.saned_serve.specs.SessionActions.SessionAction.{Opens, Hears, Feed, Forgets, Take, Says, Looks, Misses, Connect, Turn, Shows, Lose, HangsUp, Leaves}
use Rattle.system_model.specs.AbstractDevices.{AbstractDevice}
use Rattle.system_model.specs.AbstractSessions.{AbstractSession}
use Rattle.daemon_refines.specs.ContextRefinement.{TableRefines}
use Rattle.daemon_refines.specs.OtherSessions.{LeavesOthers}
use Rattle.daemon_refines.specs.Cores.{RefinesAfterFeed, SessionRefines}
use Rattle.daemon_refines.proofs.Changes.{Held}
use Rattle.daemon_refines.proofs.OtherSessions.{leaves_all}
use Rattle.in_flight.proofs.Slots.{decide, none_free, own_slot, unused}
use Rattle.event_world.specs.declared.endpoint.Endpoint.{Endpoint}
use Rattle.event_world.specs.Worlds.{WorldCore}
use Rattle.world_refines.specs.GhostStates.{Ghost}
use Rattle.world_refines.specs.WorldRefinement.{IsBelow, IsLinked, IsNobodys, StrangerStands, stranger_of}
use Rattle.world_refines.proofs.state.CoreCallsKeep.{on_number}
use Rattle.world_refines.proofs.state.Strangers.{not_linked, other_stranger}
use Rattle.strangers.specs.LeavingJobs.{GoesOn, IsStrangers, JobsStand, LeavesJobs, ghost_with}
use Rattle.strangers.specs.Among.{ActLeaves, ActsLeave, StandsAmong, StrangerAct, StrangerActs, StrangersAct, StrangersDoAll, StrangersDoAnything}
use Rattle.strangers.proofs.Jobs.{jobs_left}
use Rattle.strangers.proofs.Calls.{connects, leaves, loses_data, none_number, says_anything}
use Rattle.strangers.proofs.Others.{comes, taken_number, takes_data, takes_replies}

abbrev Slots : Type 0
Slots = List (Option (SessionSlot DeviceState))

abbrev pub at_daemon : WorldCore → Core → WorldCore
at_daemon w e = record w { daemon = e }

-- ---- what an act comes to

-- the stranger's own part, and what it leaves
record Acted (t : Ghost) (w : WorldCore) (n : ℕ) (e : Core) : Type 0 where
  device : ℕ → AbstractDevice
  left : LeavesJobs t w (stranger_of w n) n e device
  held : Held
  shows : TableRefines (stranger_of w n) t.system.make held e.registry device
  limits : HasDaemonLimits e
  opened : w.daemon.opened ≤ e.opened
  sits : (session : RequestSession DeviceState) → session_of e n ≡ Some session → (s : AbstractSession) × SessionRefines (stranger_of w n) t.system.make e n device s
  rests : session_of e n ≡ None → TableRefines (stranger_of w n) t.system.make [] e.registry device

own_stranger : (t : Ghost) (w : WorldCore) (n : ℕ) (e : Core) → (a : Acted t w n e) → IsNobodys w n → StrangerStands t w n → StrangerStands (ghost_with a.device t) (at_daemon w e) n
own_stranger t w n e a nobodys h = record {
  sits = λ session is apart_from. a.sits session is;
  rests = λ either. by either;
}
  where
    by : (session_of e n ≡ None) ⊎ IsLinked w.endpoints n → TableRefines (stranger_of w n) t.system.make [] e.registry a.device
    by (inl none) = a.rests none
    by (inr linked) = absurd (not_linked w n nobodys linked)

acted : (t : Ghost) (w : WorldCore) (n : ℕ) (e : Core) → StandsAmong t w → IsNobodys w n → Acted t w n e → ActLeaves t w (at_daemon w e) n
acted t w n e h nobodys a = record {
  device = a.device;
  stands = record {
    jobs = a.left.stands;
    limits = a.limits;
    links = λ j endpoint id at is. let low = h.links j endpoint id at is in let more = a.opened in omega (arith, low, more);
    nowhere = λ m. a.left.others.listed _ ∙ h.nowhere m;
    strangers = λ m. by m (decide m n);
  };
  slots = a.left.slots;
  held = a.left.held;
  uses = a.left.uses;
}
  where
    by : (m : ℕ) → (m ≡ n) ⊎ (m ≢ n) → StrangerStands (ghost_with a.device t) (at_daemon w e) m
    by m (inl same) = subst (λ (x : ℕ). StrangerStands (ghost_with a.device t) (at_daemon w e) x) (sym same) (own_stranger t w n e a nobodys (h.strangers n))
    by m (inr off) = other_stranger t w n m e a.device (record { held = a.held; shows = a.shows; others = a.left.others; slots = a.left.slots }) off (h.strangers m)

-- ---- nothing comes of it

nothing : (t : Ghost) (w : WorldCore) (n : ℕ) (e : Core) → StandsAmong t w → e ≡ w.daemon → ActLeaves t w (at_daemon w e) n
nothing t w n e h is =
    subst (λ (x : Core). ActLeaves t w (at_daemon w x) n) (sym is)
    (record { device = t.system.device; stands = h; slots = λ m off. refl; held = λ k j off e_held. refl; uses = λ k. inl refl })

-- ---- he has a session

is_his : (t : Ghost) (w : WorldCore) (n : ℕ) (session : RequestSession DeviceState) → (h : StandsAmong t w) → (nobodys : IsNobodys w n) → (is : session_of w.daemon n ≡ Some session) → IsStrangers t w (stranger_of w n) n ((h.strangers n).sits session is nobodys).0
is_his t w n session h nobodys is = record { beyond = omega arith; nowhere = h.nowhere n; apart = nobodys; sits = ((h.strangers n).sits session is nobodys).1 }

goes_on : (t : Ghost) (w : WorldCore) (n : ℕ) (e : Core) → HasDaemonLimits e → e.opened ≡ w.daemon.opened → GoesOn t w (stranger_of w n) n e → Acted t w n e
goes_on t w n e limits opened g = record {
  device = g.device;
  left = g.leaves;
  held = g.own.session.held;
  shows = g.own.shows.devices;
  limits = limits;
  opened = omega (arith, opened);
  sits = λ session is. (g.session, g.own);
  rests = λ none. absurd (let clash : None ≡ Some g.own.session = sym none ∙ g.own.stands in cc);
}

-- he has none any more
is_gone : (t : Ghost) (w : WorldCore) (n : ℕ) (e : Core) (device : ℕ → AbstractDevice) → HasDaemonLimits e → e.opened ≡ w.daemon.opened → session_of e n ≡ None → LeavesJobs t w (stranger_of w n) n e device → TableRefines (stranger_of w n) t.system.make [] e.registry device → Acted t w n e
is_gone t w n e device limits opened none left own = record {
  device = device;
  left = left;
  held = [];
  shows = own;
  limits = limits;
  opened = omega (arith, opened);
  sits = λ session is. absurd (let clash : None ≡ Some session = sym none ∙ is in cc);
  rests = λ same. own;
}

-- a piece of his bytes
over_if : (replies : List ℕ) (slot : SessionSlot DeviceState) → slot.session ≡ None → session_in (slot_if_open None replies slot) ≡ None
over_if [] slot none = refl
over_if (b ∷ bytes) slot none = none

abbrev Ends : Fed → Type 0
Ends Standing = ⊥
Ends Over = Unit {0}
Ends Starved = Unit {0}

over_slot : (fed : Fed) (context : RequestContext) (rest text : List ℕ) (o : Option (SessionSlot DeviceState)) → Ends fed → session_in (option_and_then (slot_or_none_after_feed fed context rest text) o) ≡ None
over_slot Standing context rest text o ends = absurd ends
over_slot Over context rest text None ends = refl
over_slot Over context rest text (Some slot) ends = over_if (slot.replies ++ text) (slot_after_feed Over context.session rest text slot) refl
over_slot Starved context rest text None ends = refl
over_slot Starved context rest text (Some slot) ends = over_if [] (slot_after_feed Starved context.session rest text slot) refl

session_gone : (n : ℕ) (d e : Core) (session : RequestSession DeviceState) (piece : List ℕ) (fed : Fed) → HasDaemonLimits d → session_of d n ≡ Some session → Feeds n d piece fed e → Ends fed → session_of e n ≡ None
session_gone n d e session piece fed limits is f ends =
    let g = feeds_in n d piece fed e session is f in
    ap (λ (l : Slots). session_in (session_slot_of l n)) g.slots_is
    ∙ (ap session_in (own_slot (slot_or_none_after_feed fed g.context g.rest g.text) n d.opened d.slots (feed_keeps fed g.context g.rest g.text) limits.1) ∙ over_slot fed g.context g.rest g.text (session_slot_of d.slots n) ends)

fed_by : (t : Ghost) (w : WorldCore) (n : ℕ) (e : Core) (fed : Fed) (device : ℕ → AbstractDevice) → HasDaemonLimits e → e.opened ≡ w.daemon.opened → (Ends fed → session_of e n ≡ None) → LeavesJobs t w (stranger_of w n) n e device → RefinesAfterFeed fed (stranger_of w n) t.system.make e n device → Acted t w n e
fed_by t w n e Standing device limits opened gone left own = goes_on t w n e limits opened (record { device = device; leaves = left; session = own.0; own = own.1 })
fed_by t w n e Over device limits opened gone left own = is_gone t w n e device limits opened (gone tt) left own
fed_by t w n e Starved device limits opened gone left own = is_gone t w n e device limits opened (gone tt) left own

ended_slot : (o : Option (SessionSlot DeviceState)) → session_in (option_and_then no_more o) ≡ None
ended_slot None = refl
ended_slot (Some slot) = refl

ended_none : (n : ℕ) (d : Core) → HasDaemonLimits d → session_of (after_end_session d n) n ≡ None
ended_none n d limits = ap session_in (own_slot no_more n d.opened d.slots none_number limits.1) ∙ ended_slot (session_slot_of d.slots n)

-- ---- he has none

none_left : (t : Ghost) (w : WorldCore) (n : ℕ) (e : Core) → (h : StandsAmong t w) → IsNobodys w n → session_of w.daemon n ≡ None → HasDaemonLimits e → e.opened ≡ w.daemon.opened → e.registry ≡ w.daemon.registry → ((m : ℕ) → m ≢ n → session_slot_of e.slots m ≡ session_slot_of w.daemon.slots m) → session_of e n ≡ None → Acted t w n e
none_left t w n e h nobodys none limits opened registry slots gone =
    let i = stranger_of w n in
    let table = t.system.device in
    let old = (h.strangers n).rests (inl none) in
    let now = subst (λ (r : Table). TableRefines i t.system.make [] r table) (sym registry) old in
    let left = jobs_left t w i n e table (omega arith) (h.nowhere n) old nobodys h.jobs (record { held = []; shows = now; others = subst (λ (r : Table). LeavesOthers i w.daemon.registry r table table) (sym registry) (leaves_all i w.daemon.registry table); slots = slots; uses = λ k. inl refl }) in
    is_gone t w n e table limits opened gone left now

lost_none : (g : RequestSession DeviceState → RequestSession DeviceState) (o : Option (SessionSlot DeviceState)) → session_in o ≡ None → session_in (option_and_then (on_session g) o) ≡ None
lost_none g None none = refl
lost_none g (Some slot) none = ap (option_map g) none

taken_none : (count : ℕ) (o : Option (SessionSlot DeviceState)) → session_in o ≡ None → session_in (option_and_then (after_taken count) o) ≡ None
taken_none count None none = refl
taken_none count (Some slot) none =
    ap (λ (x : Option (RequestSession DeviceState)). session_in (slot_if_open x (after_reply_bytes count slot).replies (after_reply_bytes count slot))) none ∙ over_if (after_reply_bytes count slot).replies (after_reply_bytes count slot) none

-- ---- he comes

pub below : (n : ℕ) (slots : Slots) → HaveOwnNumbers n slots → AllByRecursion (IsBelow n) slots
below n [] own = tt
below n (None ∷ slots) own = (tt, below n slots own)
below n (Some slot ∷ slots) own = (own.0, below n slots own.2)

opens : (t : Ghost) (w : WorldCore) (n port : ℕ) (e : Core) → StandsAmong t w → IsNobodys w n → n ≡ w.daemon.opened → is_closed w.daemon ≡ false → e ≡ after_open_session w.daemon port → ActLeaves t w (at_daemon w e) n
opens t w n port e h nobodys numbered room after =
    subst (λ (x : Core). ActLeaves t w (at_daemon w x) n) (sym after) (subst (λ (x : ℕ). ActLeaves t w (at_daemon w (after_open_session w.daemon port)) x) (sym numbered) (at_opened (subst (IsNobodys w) numbered nobodys)))
  where
    at_opened : IsNobodys w w.daemon.opened → ActLeaves t w (at_daemon w (after_open_session w.daemon port)) w.daemon.opened
    at_opened none_has =
        let d = w.daemon in
        let n = d.opened in
        let i = stranger_of w n in
        let none : session_of d n ≡ None = ap session_in (none_free n d.slots (unused n d.slots h.limits.1)) in
        let c = comes t w i port h.jobs (record { beyond = omega arith; nowhere = h.nowhere n; nothing = (h.strangers n).rests (inl none); room = room; below = below n d.slots h.limits.1; links = h.links }) in
        acted t w n (after_open_session d port) h none_has (record {
          device = t.system.device;
          left = c.leaves;
          held = c.is.sits.session.held;
          shows = c.is.sits.shows.devices;
          limits = limits_opened d port h.limits;
          opened = omega arith;
          sits = λ session is. (c.session, c.is.sits);
          rests = λ gone. absurd (let clash : None ≡ Some c.is.sits.session = sym gone ∙ c.is.sits.stands in cc);
        })

-- ---- any act

never : (b : Bool) → b ≡ true → b ≡ false → ⊥
never b on off = let clash : true ≡ false = sym on ∙ off in cc

pub by_session : (t : Ghost) (w : WorldCore) (n : ℕ) (act : SessionAction) (e : Core) (o : Option (RequestSession DeviceState)) → StandsAmong t w → IsNobodys w n → session_of w.daemon n ≡ o → ActsOn n w.daemon act e → ActLeaves t w (at_daemon w e) n
by_session t w n (Opens port) e o h nobodys is a = opens t w n port e h nobodys a.numbered a.room a.after
by_session t w n (Hears got room bytes) e o h nobodys is a = nothing t w n e h a
by_session t w n (Forgets told port) e o h nobodys is a = nothing t w n e h a
by_session t w n (Says got bytes) e o h nobodys is a = nothing t w n e h a
by_session t w n (Looks frame) e o h nobodys is a = nothing t w n e h a.1
by_session t w n (Misses port) e o h nobodys is a = nothing t w n e h a.1
by_session t w n (Shows got bytes) e o h nobodys is a = nothing t w n e h a
by_session t w n (HangsUp trace) e o h nobodys is a = nothing t w n e h a
by_session t w n (Feed piece fed begins) e (Some session) h nobodys is a =
    let s = says_anything t w (stranger_of w n) n _ piece fed e h.jobs (is_his t w n session h nobodys is) a.0 in
    acted t w n e h nobodys (fed_by t w n e fed s.device (limits_fed n w.daemon piece fed e a.0 h.limits) (ap (λ (c : Core). c.opened) a.0.others.rest) (session_gone n w.daemon e session piece fed h.limits is a.0) s.leaves s.own)
by_session t w n (Feed piece fed begins) e None h nobodys is a = nothing t w n e h (a.0.idle is).1
by_session t w n (Take room bytes) e (Some session) h nobodys is a =
    subst (λ (x : Core). ActLeaves t w (at_daemon w x) n) (sym a.after) (acted t w n _ h nobodys (goes_on t w n _ (limits_taken w.daemon n (length bytes) h.limits) refl (takes_replies t w (stranger_of w n) n (length bytes) _ h.jobs (is_his t w n session h nobodys is))))
by_session t w n (Take room bytes) e None h nobodys is a =
    subst (λ (x : Core). ActLeaves t w (at_daemon w x) n) (sym a.after)
    (acted t w n _ h nobodys (none_left t w n _ h nobodys is (limits_taken w.daemon n (length bytes) h.limits) refl refl (λ m off. apart w.daemon.slots (after_taken (length bytes)) n m (taken_number (length bytes)) (λ same. off (sym same)))
    (ap session_in (own_slot (after_taken (length bytes)) n w.daemon.opened w.daemon.slots (taken_number (length bytes)) h.limits.1) ∙ taken_none (length bytes) (session_slot_of w.daemon.slots n) is)))
by_session t w n (Connect port) e (Some session) h nobodys is a =
    subst (λ (x : Core). ActLeaves t w (at_daemon w x) n) (sym a.after) (acted t w n _ h nobodys (goes_on t w n _ (limits_connected w.daemon n h.limits) refl (connects t w (stranger_of w n) n _ h.jobs (is_his t w n session h nobodys is))))
by_session t w n (Connect port) e None h nobodys is a = absurd (never _ a.waits (ap (λ (o : Option (RequestSession DeviceState)). is_waiting (frame_in o)) is))
by_session t w n (Turn room step bytes) e (Some session) h nobodys is a =
    acted t w n e h nobodys (goes_on t w n e (limits_turned n w.daemon step e a.buffer a.turns h.limits) (ap (λ (c : Core). c.opened) a.turns.others) (takes_data t w (stranger_of w n) n _ step a.buffer e h.jobs (is_his t w n session h nobodys is) a.turns))
by_session t w n (Turn room step bytes) e None h nobodys is a =
    let run : TurnsSessions None n w.daemon.slots step e.slots a.buffer = subst (λ (o : Option (RequestSession DeviceState)). TurnsSessions o n w.daemon.slots step e.slots a.buffer) is a.turns.slots in
    nothing t w n e h (a.turns.others ∙ ap (λ (l : Slots). record w.daemon { slots = l }) run.1)
by_session t w n Lose e (Some session) h nobodys is a =
    subst (λ (x : Core). ActLeaves t w (at_daemon w x) n) (sym a) (acted t w n _ h nobodys (goes_on t w n _ (limits_lost w.daemon n h.limits) refl (loses_data t w (stranger_of w n) n _ h.jobs (is_his t w n session h nobodys is))))
by_session t w n Lose e None h nobodys is a =
    subst (λ (x : Core). ActLeaves t w (at_daemon w x) n) (sym a)
    (acted t w n _ h nobodys (none_left t w n _ h nobodys is (limits_lost w.daemon n h.limits) refl refl (λ m off. apart w.daemon.slots (on_session after_lost) n m (on_number after_lost) (λ same. off (sym same)))
    (ap session_in (own_slot (on_session after_lost) n w.daemon.opened w.daemon.slots (on_number after_lost) h.limits.1) ∙ lost_none after_lost (session_slot_of w.daemon.slots n) is)))
by_session t w n (Leaves port trace) e (Some session) h nobodys is a =
    let g = leaves t w (stranger_of w n) n _ h.jobs (is_his t w n session h nobodys is) in
    subst (λ (x : Core). ActLeaves t w (at_daemon w x) n) (sym a) (acted t w n _ h nobodys (is_gone t w n _ g.device (limits_ended w.daemon n h.limits) refl (ended_none n w.daemon h.limits) g.leaves g.own))
by_session t w n (Leaves port trace) e None h nobodys is a =
    subst (λ (x : Core). ActLeaves t w (at_daemon w x) n) (sym a)
    (acted t w n _ h nobodys (none_left t w n _ h nobodys is (limits_ended w.daemon n h.limits) refl (ap (session_let_go w.daemon.registry) is) (λ m off. apart w.daemon.slots no_more n m none_number (λ same. off (sym same))) (ended_none n w.daemon h.limits)))

pub same_world : (w v : WorldCore) → v.endpoints ≡ w.endpoints → v ≡ at_daemon w v.daemon
same_world w v is = ap (λ (l : List Endpoint). record v { endpoints = l }) is

pub do_anything : StrangersDoAnything
do_anything t w v n act h a =
    subst (λ (x : WorldCore). ActLeaves t w x n) (sym (same_world w v a.rest)) (by_session t w n act v.daemon (session_of w.daemon n) h a.nobodys refl a.acts)

-- ---- any number of acts

pub do_all : StrangersDoAll
do_all t w v [] h is = subst (λ (x : WorldCore). ActsLeave t w x) (sym is) (record { device = t.system.device; stands = h; held = λ k j low e. refl })
do_all t w v (a ∷ acts) h runs =
    let u = runs.0 in
    let one = do_anything t w u a.session a.act h runs.1 in
    let more = do_all (ghost_with one.device t) u v acts one.stands runs.2 in
    let same : length u.endpoints ≡ length w.endpoints = ap (λ (l : List Endpoint). length l) runs.1.rest in
    record {
      device = more.device;
      stands = more.stands;
      held = λ k j low e.
          let first = one.held k j (λ clash. omega (arith, low, clash)) e in
          more.held k j (omega (arith, low, same)) (ap (λ (x : AbstractDevice). x.holder) first ∙ e) ∙ first;
    }
