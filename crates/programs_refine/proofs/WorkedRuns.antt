-- Small runs over connections that meet every premise.
use Rattle.std.specs.Prelude.{◌<◌, ◌≤◌}
use Rattle.std.proofs.Common.{◌≡◌, ◌∙◌, inl, inr, ℕ, zero, suc, true, false, Some, None, List, [], ◌∷◌, slice_get, eqb, refl, sym, ap, subst, arith}
use Rattle.std.proofs.lemmas.List.Elements.{All-from_recursion}
use Rattle.std.proofs.lemmas.Bool.{ne_eqb}
use Rattle.rand_chacha.specs.ChaCha.{ChaCha}
use Rattle.md5_auth.specs.declared.users.Entry.{Entry}
use Rattle.device_api.specs.State.{DeviceState}
use Rattle.dispatch.specs.Table.{Table, fresh_table}
use Rattle.event_world.specs.Worlds.{IsFitJob}
use Rattle.programs_refine.specs.Keeping.{ProgramsKeepAll}
use Rattle.scan_job.specs.declared.job.Job.{Job}
use Rattle.scan_job.specs.JobSize.{HasCount}
use Rattle.client_replies.specs.ProtocolStates.{is_running}
use Rattle.net_client.specs.ClientStates.{ClientState, IsNewClient}
use Rattle.net_jobs.specs.JobSteps.{StepsLead}
use Rattle.saned_requests.specs.declared.session.StringSize.{StringSize}
use Rattle.saned_requests.specs.Holding.{fresh_session}
use Rattle.saned_core.specs.declared.session_slot.Fed.TheVariants.{Starved}
use Rattle.saned_core.specs.declared.session_slot.SessionSlot.{SessionSlot}
use Rattle.saned_core.specs.DaemonStates.{Core, after_open_session, after_taken, no_more, on_session_slot, session_slot_of, with_session_slot}
use Rattle.saned_core.specs.Feeding.{Feeds, core_context}
use Rattle.saned_core.proofs.Apart.{apart}
use Rattle.saned_serve.specs.declared.sockets.Got.TheVariants.{Moved}
use Rattle.saned_serve.specs.SessionActions.{SessionAction}
use Rattle.saned_serve.specs.SessionActions.SessionAction.{Feed, Hears, Opens, Take}
use Rattle.saned_serve.specs.Journal.{LoopAction, empty_projection, projection_of}
use Rattle.saned_serve.specs.Journal.LoopAction.{Of}
use Rattle.interleaving.specs.Interleavings.{bytes_heard, bytes_sent, bytes_taken, connections_accepted, connections_made, job_journal, server_journal}
use Rattle.interleaving.specs.Interleavings.JointAction.{OfJob}
use Rattle.interleaving.specs.AmongStrangers.{owned_by_none}
use Rattle.interleaving.specs.HandingOn.{HandsOn, HaveOneSession}
use Rattle.interleaving.specs.Parts.{ControlHandsOn, DataIsFromDaemon}
use Rattle.programs_refine.specs.Programs.{OwnersAreJobs}
use Rattle.programs_refine.specs.WorkedRuns.{LostAtOnceIsARun, LostMayBringMore, NewIsFit, StarvedIsARun, StarvedIsKept, loses, lost_client, new_core, owned_by_first, starved_acts, writes}

-- of one job
pub one_job : (job other : Job) (i : ℕ) (P : ℕ → Job → Type 0) → slice_get (job ∷ []) i ≡ Some other → P 0 job → P i other
one_job job other zero P e p = let same : Some job ≡ Some other = e in let is : job ≡ other = cc in subst (P 0) is p
one_job job other (suc i) P e p = absurd (let clash : None ≡ Some other = e in cc)

runs : (job : Job) (c : ClientState) → IsNewClient job c → is_running c.outcome ≡ true
runs job c new = ap (λ (z : ClientState). is_running z.outcome) new.value

-- ---- 1

pub loses_leads : (job : Job) (c : ClientState) → IsNewClient job c → StepsLead c (loses ∷ []) (lost_client c)
loses_leads job c new = (c, refl, refl, (refl, refl, record { lost = runs job c new; new_is = refl }))

pub none_owned : (jobs : List Job) → OwnersAreJobs owned_by_none jobs
none_owned jobs = record { within = λ k i e. absurd (let clash : None ≡ Some i = e in cc); one = λ j k i e f. absurd (let clash : None ≡ Some i = e in cc) }

pub lost_at_once : LostAtOnceIsARun
unfolding server_journal job_journal ControlHandsOn DataIsFromDaemon projection_of
lost_at_once job c registry users strings stream new count = record {
  new = record { slots = refl; opened = refl };
  owns = none_owned (job ∷ []);
  counts = All-from_recursion (λ (j : Job). HasCount j.task) (job ∷ []) (count, tt);
  loops = record {
    first = λ i. c;
    fresh = λ i other e. one_job job other i (λ k j. IsNewClient j c) e new;
    loops = λ i other e. one_job job other i (λ k j. StepsLead c (job_journal k (OfJob 0 loses ∷ [])) (lost_client c)) e (loses_leads job c new);
  };
  end = new_core registry users strings stream;
  before = None;
  after = None;
  serves = record { is_journal = tt; run = refl; net = refl; unused = λ id low. refl };
  hands_on = (tt, tt);
  from_daemon = (tt, tt);
}

-- ---- 2

first_within : (k i : ℕ) → owned_by_first k ≡ Some i → i < 1
first_within zero i e = let is : Some 0 ≡ Some i = e in let same : 0 ≡ i = cc in omega (arith, same)
first_within (suc k) i e = absurd (let clash : None ≡ Some i = e in cc)

first_one : HaveOneSession owned_by_first
first_one zero zero i e f = refl
first_one zero (suc k) i e f = absurd (let clash : None ≡ Some i = f in cc)
first_one (suc j) k i e f = absurd (let clash : None ≡ Some i = e in cc)

pub first_owned : (job : Job) → OwnersAreJobs owned_by_first (job ∷ [])
first_owned job = record { within = first_within; one = first_one }

starves_leads : (job : Job) (c : ClientState) → IsNewClient job c → StepsLead c (loses ∷ writes c.out ∷ []) (lost_client (record c { out = [] }))
starves_leads job c new = (record c { out = [] }, (c, refl, refl, (refl, refl, record { all = refl; new_is = refl })), refl, (refl, refl, record { lost = runs job c new; new_is = refl }))

-- the daemon behind each act: a session is opened, none of its replies are taken, and it ran out of memory
abbrev pub core_1 : Table → List Entry → StringSize → ChaCha → ℕ → Core
core_1 registry users strings stream port = after_open_session (new_core registry users strings stream) port

abbrev pub core_2 : Table → List Entry → StringSize → ChaCha → ℕ → Core
core_2 registry users strings stream port = record (core_1 registry users strings stream port) { slots = on_session_slot (after_taken 0) 0 (core_1 registry users strings stream port).slots }

abbrev pub core_3 : Table → List Entry → StringSize → ChaCha → ℕ → Core
core_3 registry users strings stream port = record (core_2 registry users strings stream port) { slots = on_session_slot no_more 0 (core_2 registry users strings stream port).slots }

none_number : (slot new : SessionSlot DeviceState) → no_more slot ≡ Some new → new.number ≡ slot.number
none_number slot new e = absurd (let clash : None ≡ Some new = e in cc)

pub starves : (registry : Table) (users : List Entry) (strings : StringSize) (stream : ChaCha) (port byte : ℕ) → Feeds 0 (core_2 registry users strings stream port) (byte ∷ []) Starved (core_3 registry users strings stream port)
unfolding session_slot_of on_session_slot with_session_slot
starves registry users strings stream port byte =
    let d = core_2 registry users strings stream port in
    let session = fresh_session strings port in
    record {
      idle = λ none. absurd (let clash : Some session ≡ None = none in cc);
      standing = λ e. absurd (cc);
      over = λ e. absurd (cc);
      out_of_memory = λ e. record {
        session = session;
        stood = refl;
        context = core_context d session;
        feeds = record {
          rest = byte ∷ [];
          mid = core_context d session;
          text = [];
          so_far = record { requests = []; told = []; reads = record { text = []; whole = refl; spelled = refl }; answers = (refl, refl); says = refl };
          out_of_memory = inl refl;
        };
        slots = refl;
        registry = refl;
        stream = refl;
      };
      others = record { slots = λ m other. apart d.slots no_more 0 m none_number (λ same. other (sym same)); rest = refl };
    }

other_projection : (id : ℕ) (act : SessionAction) (past : List LoopAction) → eqb 0 id ≡ false → projection_of id (Of 0 act ∷ past) ≡ projection_of id past
unfolding projection_of
other_projection id act past e = rw e refl

first_projection : (id : ℕ) → projection_of id [] ≡ empty_projection
unfolding projection_of
first_projection id = refl

pub unused_behind : (id port byte : ℕ) → 1 ≤ id → projection_of id (Of 0 (Feed (byte ∷ []) Starved false) ∷ Of 0 (Hears (Moved 1) 4096 (byte ∷ [])) ∷ Of 0 (Take 4096 []) ∷ Of 0 (Opens port) ∷ []) ≡ empty_projection
unused_behind id port byte low =
    let off = ne_eqb 0 id (λ same. omega (arith, low, same)) in
    other_projection id _ _ off ∙ (other_projection id _ _ off ∙ (other_projection id _ _ off ∙ (other_projection id _ _ off ∙ first_projection id)))

pub starved_at_once : StarvedIsARun
unfolding server_journal job_journal ControlHandsOn DataIsFromDaemon projection_of session_slot_of on_session_slot with_session_slot bytes_sent bytes_heard connections_accepted connections_made
starved_at_once job c registry users strings stream port byte rest new count is = record {
  new = record { slots = refl; opened = refl };
  owns = first_owned job;
  counts = All-from_recursion (λ (j : Job). HasCount j.task) (job ∷ []) (count, tt);
  loops = record {
    first = λ i. c;
    fresh = λ i other e. one_job job other i (λ k j. IsNewClient j c) e new;
    loops = λ i other e. one_job job other i (λ k j. StepsLead c (job_journal k (starved_acts port c byte)) (lost_client (record c { out = [] }))) e (starves_leads job c new);
  };
  end = core_3 registry users strings stream port;
  before = None;
  after = None;
  serves = record {
    is_journal = ((((tt, (refl, λ e. (refl, omega arith))), ((refl, refl, refl, refl), λ e. absurd (let clash : false ≡ true = e in cc))), ((refl, refl, refl, refl, refl, refl), λ e. absurd (let clash : false ≡ true = e in cc))), ((refl, refl, (λ e. let clash : byte ∷ [] ≡ [] = e in absurd (cc)), omega arith), λ e. absurd (let clash : false ≡ true = e in cc)));
    run = (core_2 registry users strings stream port, (core_2 registry users strings stream port, (core_1 registry users strings stream port, (new_core registry users strings stream, refl, record { room = refl; numbered = refl; after = refl }), record { front = refl; most = inr refl; after = refl }), refl), (starves registry users strings stream port byte, refl));
    net = refl;
    unused = λ id low. unused_behind id port byte low;
  };
  hands_on = ((((((tt, tt), (0, refl)), tt), tt), (0, refl, (rest, is))), tt);
  from_daemon = ((tt, tt), tt);
}

-- ---- the theorem, of that run

pub new_is_fit : NewIsFit
new_is_fit devices job users strings stream seed seeded names limits fit = record { daemon = record { registry = refl; slots = refl; opened = refl }; seed = seed; seeded = seeded; names = names; limits = limits; fit = All-from_recursion (λ (j : Job). IsFitJob j) (job ∷ []) (fit, tt) }

pub kept : ProgramsKeepAll → StarvedIsKept
kept all devices job c users strings stream seed port byte rest seeded names limits fit new is =
    all devices (job ∷ []) owned_by_first (new_core (fresh_table devices) users strings stream) (starved_acts port c byte) _ (new_is_fit devices job users strings stream seed seeded names limits fit)
    (starved_at_once job c (fresh_table devices) users strings stream port byte rest new fit.1 is)

-- ---- behind a loss

pub lost_brings : LostMayBringMore
unfolding HandsOn server_journal job_journal projection_of connections_accepted connections_made bytes_taken
lost_brings port room byte = ((((((tt, (0, refl)), tt), (0, refl, omega arith)), tt), tt), (0, refl, refl, ([], refl)))
