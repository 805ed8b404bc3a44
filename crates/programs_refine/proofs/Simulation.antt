-- All that the programs do, act by act, stands behind a world.
use Rattle.std.specs.Prelude.{◌<◌, ◌||◌, ◌+◌}
use Rattle.std.proofs.Common.{◌≡◌, ◌≢◌, ◌∙◌, ◌⊎◌, inl, inr, ℕ, zero, suc, Bool, true, false, cond, Option, Some, None, List, [], ◌∷◌, ◌++◌, length, slice_get, refl, sym, ap, subst, arith}
use Rattle.std.proofs.Math.Dec.{eqb}
use Rattle.std.proofs.lemmas.Bool.{eqb-true}
use Rattle.std.proofs.lemmas.Bool.Decides.{nat_tests}
use Rattle.page_picture.specs.Source.{SourceState}
use Rattle.page_sources.specs.declared.kinds.Source.{Source}
use Rattle.scan_job.specs.declared.job.Job.{Job}
use Rattle.scan_job.specs.JobSize.{HasCount}
use Rattle.net_client.specs.ClientStates.{ClientState, IsNewClient}
use Rattle.saned_core.specs.declared.session_slot.Fed.{Fed}
use Rattle.saned_core.specs.declared.session_slot.Fed.TheVariants as feds
use Rattle.saned_core.specs.DaemonLimits.{HasDaemonLimits}
use Rattle.saned_core.specs.DaemonStates.{Core, session_slot_of}
use Rattle.saned_serve.specs.ConnectionTraces.{ConnectionTrace}
use Rattle.saned_serve.specs.SessionActions.{ActsOn, SessionAction, opens_session}
use Rattle.saned_serve.specs.SessionActions.SessionAction.{Opens, Hears, Feed, Forgets, Take, Says, Looks, Misses, Connect, Turn, Shows, Lose, HangsUp, Leaves}
use Rattle.saned_serve.specs.Journal.{DaemonRuns, IsEnabledAfter, IsFront, IsJournal, LoopAction}
use Rattle.saned_serve.specs.Journal.LoopAction.{Of, Full, Waits, Refuses, Turned, Stops}
use Rattle.saned_serve.specs.JournalSummary.{IsInJournal}
use Rattle.saned_serve.proofs.ActionSteps.{opened_by}
use Rattle.saned_serve.proofs.Openings.{open_counted}
use Rattle.in_flight.proofs.Calls.{nothing_first}
use Rattle.in_flight.proofs.Slots.{Slot, decide}
use Rattle.interleaving.specs.Interleavings.{Traffic, job_journal, server_journal}
use Rattle.interleaving.specs.Interleavings.JointAction.{OfJob, OfServer}
use Rattle.interleaving.specs.Interleavings.Traffic.{Writes as WritesBytes, Reads as ReadsBytes, Dials as MakesConnection, Takes as TakesBytes, NoTraffic}
use Rattle.interleaving.specs.AmongStrangers.{IsForAnOwner}
use Rattle.interleaving.specs.HandingOn.{HandsOnAmong, HaveOneSession, MayMove, MayServe, Owner}
use Rattle.interleaving.proofs.Fronts.{reads_written}
use Rattle.event_world.specs.declared.endpoint.Endpoint.{Endpoint}
use Rattle.event_world.specs.Endpoints.{budget_of, no_pages}
use Rattle.event_world.specs.FileInvariant.{AllFilesRepresent}
use Rattle.event_world.specs.Worlds.{AreNew}
use Rattle.event_world.proofs.Events.{new_posts}
use Rattle.programs_refine.specs.StepTraffic.{traffic_of}
use Rattle.programs_refine.specs.Programs.{Acts, HasOpenedNone}
use Rattle.programs_refine.proofs.Passed.{Passed, Traffics, has_starved, is_starved, starved_with, no_traffics, only_sent, passed_after, passed_first, passed_of, passes_full, passes_other, passes_own, passes_refuses, passes_stops, passes_turned, passes_waits, traffics_of}
use Rattle.programs_refine.proofs.Outgoing.{never_both}
use Rattle.programs_refine.proofs.Serving.{AreFew, Handed}
use Rattle.programs_refine.proofs.Stepping.{MayStep, Standing}
use Rattle.programs_refine.proofs.Tracks.{course_of, IsUnlinked, Tracks}
use Rattle.programs_refine.proofs.Tracks.Follows.{Alike}
use Rattle.programs_refine.proofs.Tracks.JobTracks.{Unlinked}

-- ---- at first

abbrev free_slots : List (Option Slot)
free_slots = None ∷ None ∷ None ∷ None ∷ None ∷ None ∷ None ∷ None ∷ []

none_free_slots : (n : ℕ) → session_slot_of free_slots n ≡ None
unfolding session_slot_of
none_free_slots n = refl

no_slots : (d : Core) → HasOpenedNone d → (n : ℕ) → session_slot_of d.slots n ≡ None
no_slots d new n = subst (λ (s : List (Option Slot)). session_slot_of s n ≡ None) (sym new.slots) (none_free_slots n)

pub new_limits : (d : Core) → HasOpenedNone d → HasDaemonLimits d
new_limits d new = subst (λ (s : List (Option Slot)). HasDaemonLimits (record d { slots = s })) (sym new.slots) (refl, tt)

abbrev pub endpoint_of : Job → ClientState → Endpoint
endpoint_of job c = record {
  task = job.task;
  client = c;
  was_connected = false;
  link = None;
  is_over = false;
  image = None;
  file = Some [];
  pages = no_pages;
  finished = 0;
  out_of_memory = false;
  budget = budget_of job.task;
}

abbrev pub endpoints_of : List Job → (ℕ → ClientState) → List Endpoint
endpoints_of [] first = []
endpoints_of (job ∷ jobs) first = endpoint_of job (first 0) ∷ endpoints_of jobs (λ i. first (suc i))

pub are_new : (jobs : List Job) (first : ℕ → ClientState) → ((i : ℕ) (job : Job) → slice_get jobs i ≡ Some job → IsNewClient job (first i)) → AreNew jobs (endpoints_of jobs first)
are_new [] first fresh = tt
are_new (job ∷ jobs) first fresh = (record { client = fresh 0 job refl; rest = refl }, are_new jobs (λ i. first (suc i)) (λ i other at. fresh (suc i) other at))

many : (jobs : List Job) (first : ℕ → ClientState) → length (endpoints_of jobs first) ≡ length jobs
many [] first = refl
many (job ∷ jobs) first = ap suc (many jobs (λ i. first (suc i)))

endpoint_at : (jobs : List Job) (first : ℕ → ClientState) (i : ℕ) (job : Job) → slice_get jobs i ≡ Some job → slice_get (endpoints_of jobs first) i ≡ Some (endpoint_of job (first i))
endpoint_at [] first i job at = absurd (let wrong : None ≡ Some job = at in cc)
endpoint_at (other ∷ jobs) first zero job at = ap (λ (j : Job). Some (endpoint_of j (first 0))) (let same : other ≡ job = cc in same)
endpoint_at (other ∷ jobs) first (suc i) job at = endpoint_at jobs (λ k. first (suc k)) i job at

pub new_files : (jobs : List Job) (first : ℕ → ClientState) → ((i : ℕ) (job : Job) → slice_get jobs i ≡ Some job → HasCount job.task) → AreNew jobs (endpoints_of jobs first) → AllFilesRepresent (endpoints_of jobs first)
new_files jobs first counts new = λ k p at. new_posts jobs (endpoints_of jobs first) k p counts new at

pub begun : (source : Source → SourceState) (owner : Owner) (among : Bool) (jobs : List Job) (d : Core) (first c : ℕ → ClientState) → HasOpenedNone d → ((i : ℕ) (job : Job) → slice_get jobs i ≡ Some job → IsNewClient job (first i)) → ((i : ℕ) (job : Job) → slice_get jobs i ≡ Some job → c i ≡ first i)
    → Tracks (course_of source (record { daemon = d; endpoints = endpoints_of jobs first }) owner among jobs) (passed_of []) (λ i. traffics_of []) d c
begun source owner among jobs d first c new fresh same = record {
  events = [];
  w = record { daemon = d; endpoints = endpoints_of jobs first };
  leads = record { are = tt; theirs = tt; runs = refl };
  count = many jobs first;
  flying = λ n. [];
  differs = nothing_first d (new_limits d new);
  slots = λ n some. absurd (some (no_slots d new n));
  owned = λ none n on. never_both (passed_of [] n).is_open on (ap (λ (x : Passed). x.is_open) (passed_first n));
  calm = λ n told. never_both ((passed_of [] n).dropped || (passed_of [] n).last) told (ap (λ (x : Passed). x.dropped || x.last) (passed_first n));
  each = λ i job at. (endpoint_of job (first i), endpoint_at jobs first i job at, Unlinked (unlinked i job at));
}
  where
    unlinked : (i : ℕ) (job : Job) → slice_get jobs i ≡ Some job → IsUnlinked owner d.opened (passed_of []) (traffics_of []) i job (c i) (endpoint_of job (first i))
    unlinked i job at = record {
      new = record { client = fresh i job at; rest = refl };
      none = λ k own. (let zero_opened = new.opened in omega (arith, zero_opened));
      silent = λ k own. passed_first k;
      follows = Alike refl (ap (λ (z : ClientState). record z { out = (first i).out }) (sym (same i job at)));
      out = record { up = []; rest = (first i).out; sent_is = ap (λ (x : Traffics). x.sent) no_traffics; out_is = refl; rest_is = λ ok. ap (λ (z : ClientState). z.out) (sym (same i job at)) };
      rest = only_sent;
    }

-- ---- a session stands until it is left

open_after : (act : SessionAction) (x : Passed) → ((port : ℕ) (trace : Option ConnectionTrace) → act ≡ Leaves port trace → ⊥) → x.is_open ≡ true → (passed_after act x).is_open ≡ true
open_after (Opens port) x stays on = refl
open_after (Hears got room bytes) x stays on = on
open_after (Feed piece fed begins) x stays on = on
open_after (Forgets told port) x stays on = on
open_after (Take room bytes) x stays on = on
open_after (Says got bytes) x stays on = on
open_after (Looks frame) x stays on = on
open_after (Misses port) x stays on = on
open_after (Connect port) x stays on = on
open_after (Turn room step bytes) x stays on = on
open_after (Shows got bytes) x stays on = on
open_after Lose x stays on = on
open_after (HangsUp trace) x stays on = on
open_after (Leaves port trace) x stays on = absurd (stays port trace refl)

opened_open : (act : SessionAction) (x : Passed) → opens_session act ≡ true → (passed_after act x).is_open ≡ true
opened_open (Opens port) x opens = refl
opened_open (Hears got room bytes) x opens = cc
opened_open (Feed piece fed begins) x opens = cc
opened_open (Forgets told port) x opens = cc
opened_open (Take room bytes) x opens = cc
opened_open (Says got bytes) x opens = cc
opened_open (Looks frame) x opens = cc
opened_open (Misses port) x opens = cc
opened_open (Connect port) x opens = cc
opened_open (Turn room step bytes) x opens = cc
opened_open (Shows got bytes) x opens = cc
opened_open Lose x opens = cc
opened_open (HangsUp trace) x opens = cc
opened_open (Leaves port trace) x opens = cc

opens_number : (act : SessionAction) (d e : Core) (n : ℕ) → opens_session act ≡ true → ActsOn n d act e → (n ≡ d.opened) × (e.opened ≡ d.opened + 1)
opens_number (Opens port) d e n opens does = (does.numbered, ap (λ (c : Core). c.opened) does.after)
opens_number (Hears got room bytes) d e n opens does = cc
opens_number (Feed piece fed begins) d e n opens does = cc
opens_number (Forgets told port) d e n opens does = cc
opens_number (Take room bytes) d e n opens does = cc
opens_number (Says got bytes) d e n opens does = cc
opens_number (Looks frame) d e n opens does = cc
opens_number (Misses port) d e n opens does = cc
opens_number (Connect port) d e n opens does = cc
opens_number (Turn room step bytes) d e n opens does = cc
opens_number (Shows got bytes) d e n opens does = cc
opens_number Lose d e n opens does = cc
opens_number (HangsUp trace) d e n opens does = cc
opens_number (Leaves port trace) d e n opens does = cc

-- nobody has left it
abbrev pub IsNotLeft : ℕ → List LoopAction → Type 0
IsNotLeft k journal = (port : ℕ) (trace : Option ConnectionTrace) → IsInJournal (Of k (Leaves port trace)) journal → ⊥

stands_after : (past : List LoopAction) (k n : ℕ) (act : SessionAction) (d e : Core) (b : Bool) → opens_session act ≡ b → (k ≡ n) ⊎ (k ≢ n) → ActsOn n d act e → k < e.opened → IsNotLeft k (Of n act ∷ past) → (k < d.opened → (passed_of past k).is_open ≡ true) → (passed_of (Of n act ∷ past) k).is_open ≡ true
stands_after past k n act d e true opens (inl on) does low stays before = ap (λ (x : ℕ). (passed_of (Of n act ∷ past) x).is_open) on ∙ ap (λ (x : Passed). x.is_open) (passes_own n act past) ∙ opened_open act (passed_of past n) opens
stands_after past k n act d e false plain (inl on) does low stays before =
    let same = opened_by act d e n plain does in
    let stood : (passed_of past n).is_open ≡ true = subst (λ (x : ℕ). (passed_of past x).is_open ≡ true) on (before (omega (arith, low, same))) in
    ap (λ (x : ℕ). (passed_of (Of n act ∷ past) x).is_open) on ∙ ap (λ (x : Passed). x.is_open) (passes_own n act past)
    ∙ open_after act (passed_of past n) (λ port trace is. stays port trace (inl (ap (λ (a : SessionAction). Of n a) is ∙ ap (λ (x : ℕ). Of x (Leaves port trace)) (sym on)))) stood
stands_after past k n act d e true opens (inr off) does low stays before =
    let next = opens_number act d e n opens does in
    ap (λ (x : Passed). x.is_open) (passes_other n k act past (λ same. off (sym same))) ∙ before (less k d.opened (let more = next.1 in omega (arith, low, more)) (λ same. off (same ∙ sym next.0)))
  where
    less : (a b : ℕ) → a < b + 1 → a ≢ b → a < b
    less a b small other = by (decide a b)
      where
        by : (a ≡ b) ⊎ (a ≢ b) → a < b
        by (inl same) = absurd (other same)
        by (inr apart) = grind (arith, nat_tests)
stands_after past k n act d e false plain (inr off) does low stays before =
    let same = opened_by act d e n plain does in
    ap (λ (x : Passed). x.is_open) (passes_other n k act past (λ equal. off (sym equal))) ∙ before (omega (arith, low, same))

same_before : (k : ℕ) (action : LoopAction) (past : List LoopAction) (d e : Core) → passed_of (action ∷ past) k ≡ passed_of past k → e ≡ d → k < e.opened → (k < d.opened → (passed_of past k).is_open ≡ true) → (passed_of (action ∷ past) k).is_open ≡ true
same_before k action past d e same is low before = let opened = ap (λ (z : Core). z.opened) is in ap (λ (x : Passed). x.is_open) same ∙ before (omega (arith, low, opened))

pub stands : (journal : List LoopAction) (first d : Core) (k : ℕ) → first.opened ≡ 0 → DaemonRuns first journal d → k < d.opened → IsNotLeft k journal → (passed_of journal k).is_open ≡ true
stands [] first d k none runs low stays = absurd (let same = ap (λ (z : Core). z.opened) runs in omega (arith, low, same, none))
stands (Of n act ∷ past) first d k none runs low stays = stands_after past k n act runs.0 d (opens_session act) refl (decide k n) runs.2 low stays (λ less. stands past first runs.0 k none runs.1 less (λ port trace held. stays port trace (inr held)))
stands (Full ∷ past) first d k none runs low stays = same_before k Full past runs.0 d (passes_full k past) runs.2 low (λ less. stands past first runs.0 k none runs.1 less (λ port trace held. stays port trace (inr held)))
stands (Waits ∷ past) first d k none runs low stays = same_before k Waits past runs.0 d (passes_waits k past) runs.2 low (λ less. stands past first runs.0 k none runs.1 less (λ port trace held. stays port trace (inr held)))
stands (Refuses to told ∷ past) first d k none runs low stays = same_before k (Refuses to told) past runs.0 d (passes_refuses k to told past) runs.2.1 low (λ less. stands past first runs.0 k none runs.1 less (λ port trace held. stays port trace (inr held)))
stands (Turned ∷ past) first d k none runs low stays = same_before k Turned past runs.0 d (passes_turned k past) runs.2 low (λ less. stands past first runs.0 k none runs.1 less (λ port trace held. stays port trace (inr held)))
stands (Stops ∷ past) first d k none runs low stays = same_before k Stops past runs.0 d (passes_stops k past) runs.2 low (λ less. stands past first runs.0 k none runs.1 less (λ port trace held. stays port trace (inr held)))

-- ---- what connections hand on

same_owner : (owner : Owner) (k i j : ℕ) → owner k ≡ Some i → owner k ≡ Some j → i ≡ j
same_owner owner k i j a b = let e : Some i ≡ Some j = sym a ∙ b in cc

-- it is handed on so, and to its job where it has one
pub handed_as : (owner : Owner) (among : Bool) (acts : Acts) (n : ℕ) (act : SessionAction) → HaveOneSession owner → IsJournal (server_journal acts) → HandsOnAmong traffic_of owner acts → (owner n ≡ None) ⊎ MayServe traffic_of owner n act acts → (among ≡ false → IsForAnOwner owner n act)
    → Handed owner among (passed_of (server_journal acts)) (λ i. traffics_of (job_journal i acts)) n act
handed_as owner among acts n (Opens port) one is hands m own = own
handed_as owner among acts n (Feed piece fed begins) one is hands (inl none) own = λ i mine. let clash : None ≡ Some i = sym none ∙ mine in cc
handed_as owner among acts n (Feed piece fed begins) one is hands (inr m) own = λ i mine. subst (λ (x : ℕ). IsFront ((passed_of (server_journal acts) n).heard ++ piece) (traffics_of (job_journal x acts)).sent) (same_owner owner n m.0 i m.1 mine) m.2
handed_as owner among acts n (Connect port) one is hands (inl none) own = λ i mine. let clash : None ≡ Some i = sym none ∙ mine in cc
handed_as owner among acts n (Connect port) one is hands (inr m) own = λ i mine.
    let less : (passed_of (server_journal acts) n).accepted < (traffics_of (job_journal i acts)).made = subst (λ (x : ℕ). (passed_of (server_journal acts) n).accepted < (traffics_of (job_journal x acts)).made) (same_owner owner n m.0 i m.1 mine) m.2 in
    (less, (reads_written traffic_of owner acts n i one is hands mine).waits less)
handed_as owner among acts n act one is hands m own = tt

pub may_step : (owner : Owner) (i : ℕ) (acts : Acts) (traffic : Traffic) → MayMove traffic_of owner i traffic acts → MayStep owner (passed_of (server_journal acts)) (traffics_of (job_journal i acts)) i traffic
may_step owner i acts (WritesBytes bytes) m = tt
may_step owner i acts (ReadsBytes bytes) m = m
may_step owner i acts MakesConnection m = tt
may_step owner i acts (TakesBytes bytes) m = m
may_step owner i acts NoTraffic m = tt

pub few_open : (journal : List LoopAction) (n : ℕ) (act : SessionAction) → IsJournal journal → IsEnabledAfter (Of n act) journal → opens_session act ≡ true → AreFew journal
few_open journal n act is may opens =
    let counted = open_counted journal is in
    let few = (may.1 opens).1 in
    record { numbers = counted.0; few = (let count = counted.1.count in omega (arith, few, count)); all = λ k on. counted.1.all k on }

-- ---- no step behind the end of its session

-- the session is left with it, or it ended it for lack of memory
abbrev pub IsEnding : SessionAction → Type 0
IsEnding (Opens port) = ⊥
IsEnding (Hears got room bytes) = ⊥
IsEnding (Feed piece fed begins) = fed ≡ feds.Starved
IsEnding (Forgets told port) = ⊥
IsEnding (Take room bytes) = ⊥
IsEnding (Says got bytes) = ⊥
IsEnding (Looks frame) = ⊥
IsEnding (Misses port) = ⊥
IsEnding (Connect port) = ⊥
IsEnding (Turn room step bytes) = ⊥
IsEnding (Shows got bytes) = ⊥
IsEnding Lose = ⊥
IsEnding (HangsUp trace) = ⊥
IsEnding (Leaves port trace) = Unit {0}

abbrev pub IsTimelyFor : Owner → ℕ → List LoopAction → Type 0
IsTimelyFor owner i journal = (k : ℕ) → owner k ≡ Some i → (act : SessionAction) → IsEnding act → IsInJournal (Of k act) journal → ⊥

pub not_left : (owner : Owner) (i k : ℕ) (journal : List LoopAction) → owner k ≡ Some i → IsTimelyFor owner i journal → IsNotLeft k journal
not_left owner i k journal own t port trace held = t k own (Leaves port trace) tt held

starved_not : (act : SessionAction) (b : Bool) → b ≡ false → (IsEnding act → ⊥) → starved_with act b ≡ false
starved_not (Opens port) b e off = e
starved_not (Hears got room bytes) b e off = e
starved_not (Feed piece fed begins) b e off = by fed off
  where
    by : (v : Fed) → (v ≡ feds.Starved → ⊥) → (b || is_starved v) ≡ false
    by feds.Standing h = ap (λ (x : Bool). x || false) e
    by feds.Over h = ap (λ (x : Bool). x || false) e
    by feds.Starved h = absurd (h refl)
starved_not (Forgets told port) b e off = e
starved_not (Take room bytes) b e off = e
starved_not (Says got bytes) b e off = e
starved_not (Looks frame) b e off = e
starved_not (Misses port) b e off = e
starved_not (Connect port) b e off = e
starved_not (Turn room step bytes) b e off = e
starved_not (Shows got bytes) b e off = e
starved_not Lose b e off = e
starved_not (HangsUp trace) b e off = e
starved_not (Leaves port trace) b e off = e

-- its session did not end for lack of memory
pub not_starved : (owner : Owner) (i k : ℕ) (journal : List LoopAction) → owner k ≡ Some i → IsTimelyFor owner i journal → (passed_of journal k).starved ≡ false
unfolding has_starved
not_starved owner i k [] own t = refl
not_starved owner i k (Of n act ∷ past) own t = by (eqb n k) refl (not_starved owner i k past own (λ m mine other ends held. t m mine other ends (inr held)))
  where
    by : (b : Bool) → eqb n k ≡ b → has_starved k past ≡ false → cond (eqb n k) (starved_with act (has_starved k past)) (has_starved k past) ≡ false
    by true at before =
        ap (λ (v : Bool). cond v (starved_with act (has_starved k past)) (has_starved k past)) at ∙ starved_not act (has_starved k past) before (λ ends. t k own act ends (inl (ap (λ (m : ℕ). Of m act) (eqb-true n k at))))
    by false off before = ap (λ (v : Bool). cond v (starved_with act (has_starved k past)) (has_starved k past)) off ∙ before
not_starved owner i k (Full ∷ past) own t = not_starved owner i k past own (λ m mine other ends held. t m mine other ends (inr held))
not_starved owner i k (Waits ∷ past) own t = not_starved owner i k past own (λ m mine other ends held. t m mine other ends (inr held))
not_starved owner i k (Refuses to told ∷ past) own t = not_starved owner i k past own (λ m mine other ends held. t m mine other ends (inr held))
not_starved owner i k (Turned ∷ past) own t = not_starved owner i k past own (λ m mine other ends held. t m mine other ends (inr held))
not_starved owner i k (Stops ∷ past) own t = not_starved owner i k past own (λ m mine other ends held. t m mine other ends (inr held))

abbrev pub AreTimely : Owner → Acts → Type 0
AreTimely owner [] = Unit {0}
AreTimely owner (OfServer action ∷ past) = AreTimely owner past
AreTimely owner (OfJob i step ∷ past) = AreTimely owner past × IsTimelyFor owner i (server_journal past)

-- ---- and none takes bytes of a data connection behind its loss

abbrev pub TakeWhatStands : Owner → Acts → Type 0
TakeWhatStands owner [] = Unit {0}
TakeWhatStands owner (OfServer action ∷ past) = TakeWhatStands owner past
TakeWhatStands owner (OfJob i step ∷ past) = TakeWhatStands owner past × Standing owner (passed_of (server_journal past)) i (traffic_of step)
