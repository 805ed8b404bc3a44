-- In the end each job that stands is lost in the world: so one whose loop lost a connection ends as its loop did.
use Rattle.std.specs.Prelude.{◌<◌, ◌≤◌, ◌+◌, IsSome}
use Rattle.std.proofs.Common.{◌≡◌, ◌≢◌, ◌∙◌, ◌⊎◌, inl, inr, ℕ, zero, suc, Bool, true, false, Some, List, [], ◌∷◌, ◌++◌, length, slice_get, refl, sym, ap, subst, arith}
use Rattle.std.proofs.lemmas.Bool.Decides.{nat_tests}
use Rattle.scan_job.specs.declared.job.Job.{Job}
use Rattle.client_replies.specs.declared.progress.Link.TheVariants as links
use Rattle.client_replies.specs.ProtocolStates.{is_running}
use Rattle.net_client.specs.ClientStates.{ClientState}
use Rattle.saned_core.specs.declared.session_slot.SessionId.{SessionId}
use Rattle.saned_core.specs.DaemonStates.{Core, after_end_session, after_open_session, is_closed}
use Rattle.in_flight.proofs.Slots.{decide}
use Rattle.interleaving.specs.HandingOn.{Owner}
use Rattle.event_world.specs.declared.event.Event.{Event}
use Rattle.event_world.specs.declared.event.Event.TheVariants.{Connect, LoseControl}
use Rattle.event_world.specs.declared.event.JobEvent.TheVariants as events
use Rattle.event_world.specs.declared.endpoint.Endpoint.{Endpoint}
use Rattle.event_world.specs.Endpoints.{after_move, shut_out, with_link, without_link}
use Rattle.event_world.specs.JobEvents.{Connects, Does}
use Rattle.event_world.specs.Worlds.{WorldCore}
use Rattle.strangers.specs.Together.{JointEvent, events_among}
use Rattle.strangers.specs.Together.JointEvent.{OfJobs, OfStranger}
use Rattle.programs_refine.specs.WorldHistory.{AreLosses, IsLoss}
use Rattle.programs_refine.proofs.Delivered.{if_linked}
use Rattle.programs_refine.proofs.Lists.{there}
use Rattle.programs_refine.proofs.Passed.{Passed, Traffics}
use Rattle.programs_refine.proofs.Replied.{ends_as, stops_as}
use Rattle.programs_refine.proofs.Acted.{comes}
use Rattle.programs_refine.proofs.Tracks.{Course, Led, FilesTrack, Follows, IsUnlinked, JobTracks, Moved, Tracks, files_kept, moved, new_files_track, not_moved, done_behind_loss, lost_outcome}
use Rattle.programs_refine.proofs.Tracks.JobTracks.{Unlinked, Linked, Left}

-- an event behind another of the same job
twice : (course : Course) (w : WorldCore) (i : ℕ) (q r : Endpoint) (e f : Core) → (m : Moved course w i q e) → Moved course m.v i r f → Moved course w i r f
twice course w i q r e f m n = record { events = n.events; v = n.v; leads = n.leads; daemon = n.daemon; count = n.count ∙ m.count; own = n.own; others = λ j off. n.others j off ∙ m.others j off }

-- the job of a place is as its loop has it, if that is over
record Ends (course : Course) (w : WorldCore) (i : ℕ) (x : Traffics) (c : ClientState) : Type 0 where
  q : Endpoint
  e : Core
  m : Moved course w i q e
  losses : AreLosses (events_among m.events)
  ended : is_running c.outcome ≡ false → q.client.outcome ≡ c.outcome
  stopped : is_running c.outcome ≡ true → q.client.outcome ≡ lost_outcome
  files : FilesTrack x.turned x.given q

-- a job whose session stands loses its control connection
losses_more : (events : List JointEvent) (event : Event) → AreLosses (events_among events) → IsLoss event → AreLosses (events_among (events ++ OfJobs event ∷ []))
losses_more [] event are is = (is, tt)
losses_more (OfJobs other ∷ events) event are is = (are.0, losses_more events event are.1 is)
losses_more (OfStranger a ∷ events) event are is = losses_more events event are is

lost_now : (course : Course) (before : List JointEvent) (w : WorldCore) (i : ℕ) (x : Traffics) (c : ClientState) (p : Endpoint) (id : SessionId) (pending dropped : Bool) → Led course before w → AreLosses (events_among before) → slice_get w.endpoints i ≡ Some p → p.link ≡ Some id → Follows pending dropped c p.client → FilesTrack x.turned x.given p → Ends course w i x c
unfolding comes moved
lost_now course before w i x c p id pending dropped l are at link follows files =
    let q : Endpoint = without_link (after_move p) in
    let e : Core = after_end_session w.daemon id.number in
    let does : Does w.daemon p events.LoseControl e q = if_linked p.link id id.number (λ j. (e ≡ after_end_session w.daemon j) × (q ≡ without_link (after_move p))) link refl (refl, refl) in
    record {
      q = q;
      e = e;
      m = comes course before w i p q events.LoseControl e l at tt (subst IsSome (sym link) refl) does;
      losses = losses_more before (LoseControl i) are tt;
      ended = λ over. ends_as pending dropped (is_running p.client.outcome) c p.client refl follows over;
      stopped = stops_as pending dropped c p.client follows;
      files = files_kept x.turned x.given p q (record { file = refl; pages = refl; finished = refl; task = refl; done = done_behind_loss links.Control p.client }) files;
    }

-- one that was not connected is connected first, or finds no place
connects_late : (course : Course) (before : List JointEvent) (w : WorldCore) (owner : Owner) (opened : ℕ) (passed : ℕ → Passed) (i : ℕ) (x : Traffics) (job : Job) (c : ClientState) (p : Endpoint) → Led course before w → AreLosses (events_among before) → slice_get w.endpoints i ≡ Some p → IsUnlinked owner opened passed x i job c p → Ends course w i x c
unfolding comes moved twice
connects_late course before w owner opened passed i x job c p l are at u = by (is_closed w.daemon) refl
  where
    runs : is_running p.client.outcome ≡ true
    runs = ap (λ (z : ClientState). is_running z.outcome) u.new.client.value

    waits : p.was_connected ≡ false
    waits = ap (λ (z : Endpoint). z.was_connected) u.new.rest

    files : FilesTrack x.turned x.given p
    files = new_files_track job p x.turned x.given u.new (ap (λ (z : Traffics). z.turned) u.rest) (ap (λ (z : Traffics). z.given) u.rest)

    by : (b : Bool) → is_closed w.daemon ≡ b → Ends course w i x c
    by true full =
        let q : Endpoint = shut_out (after_move p) in
        let does : Does w.daemon p events.Connect w.daemon q = (1, subst (λ (b : Bool). Connects 1 b w.daemon p w.daemon q) (sym full) (refl, refl)) in
        record {
          q = q;
          e = w.daemon;
          m = comes course before w i p q events.Connect w.daemon l at tt (runs, waits) does;
          losses = losses_more before (Connect i) are tt;
          ended = λ over. ends_as false false (is_running p.client.outcome) c p.client refl u.follows over;
          stopped = stops_as false false c p.client u.follows;
          files = files_kept x.turned x.given p q (record { file = refl; pages = refl; finished = refl; task = refl; done = done_behind_loss links.Control p.client }) files;
        }
    by false room =
        let id : SessionId = record { number = w.daemon.opened } in
        let q : Endpoint = with_link id (after_move p) in
        let e : Core = after_open_session w.daemon 1 in
        let does : Does w.daemon p events.Connect e q = (1, subst (λ (b : Bool). Connects 1 b w.daemon p e q) (sym room) (id, refl, refl, refl)) in
        let m = comes course before w i p q events.Connect e l at tt (runs, waits) does in
        let linked = files_kept x.turned x.given p q (record { file = refl; pages = refl; finished = refl; task = refl; done = λ done. done }) files in
        let lost = lost_now course m.events m.v i x c q id false false m.leads (losses_more before (Connect i) are tt) m.own refl u.follows linked in
        record { q = lost.q; e = lost.e; m = twice course w i q lost.q e lost.e m lost.m; losses = lost.losses; ended = lost.ended; stopped = lost.stopped; files = lost.files }

finish_one : (course : Course) (before : List JointEvent) (w : WorldCore) (owner : Owner) (opened : ℕ) (flying : ℕ → List ℕ) (passed : ℕ → Passed) (i : ℕ) (x : Traffics) (job : Job) (c : ClientState) (p : Endpoint) → Led course before w → AreLosses (events_among before) → slice_get w.endpoints i ≡ Some p → JobTracks owner opened flying passed x i job c p
    → Ends course w i x c
unfolding not_moved
finish_one course before w owner opened flying passed i x job c p l are at (Unlinked u) = connects_late course before w owner opened passed i x job c p l are at u
finish_one course before w owner opened flying passed i x job c p l are at (Linked k own low k_linked) = lost_now course before w i x c p k_linked.id k_linked.pending (passed k).dropped l are at k_linked.link k_linked.follows k_linked.files
finish_one course before w owner opened flying passed i x job c p l are at (Left k own low shut h) = record { q = p; e = w.daemon; m = not_moved course before w i p l at; losses = are; ended = h.ended; stopped = h.stopped; files = h.files }

-- ---- all jobs in turn

-- a job that is over is as its loop has it
pub record IsAsEnded (v : WorldCore) (i : ℕ) (x : Traffics) (c : ClientState) : Type 0 where
  pub q : Endpoint
  pub at : slice_get v.endpoints i ≡ Some q
  pub ended : is_running c.outcome ≡ false → q.client.outcome ≡ c.outcome
  pub stopped : is_running c.outcome ≡ true → q.client.outcome ≡ lost_outcome
  pub files : FilesTrack x.turned x.given q

-- the jobs before this place are, and the others as they were
pub record FinishedTo (course : Course) (w : WorldCore) (jobs : List Job) (done : ℕ → Traffics) (c : ℕ → ClientState) (n : ℕ) : Type 0 where
  pub events : List JointEvent
  pub v : WorldCore
  pub leads : Led course events v
  pub losses : AreLosses (events_among events)
  pub ended : (i : ℕ) → i < n → i < length jobs → IsAsEnded v i (done i) (c i)
  pub kept : (i : ℕ) → n ≤ i → slice_get v.endpoints i ≡ slice_get w.endpoints i

-- from that world on, without strangers
abbrev pub from : Course → WorldCore → Course
from course w = record course { first = w; among = false }

less_than : (a b : ℕ) → a < b + 1 → a ≢ b → a < b
less_than a b low off = by (decide a b)
  where
    by : (a ≡ b) ⊎ (a ≢ b) → a < b
    by (inl same) = absurd (off same)
    by (inr other) = grind (arith, nat_tests)

one_more : (course : Course) (passed : ℕ → Passed) (done : ℕ → Traffics) (d : Core) (c : ℕ → ClientState) (t : Tracks course passed done d c) (n : ℕ) → n < length course.jobs → FinishedTo (from course t.w) t.w course.jobs done c n → FinishedTo (from course t.w) t.w course.jobs done c (n + 1)
one_more course passed done d c t n low f =
    let j = there course.jobs n low in
    let e = t.each n j.0 j.1 in
    let x = finish_one (from course t.w) f.events f.v course.owner d.opened t.flying passed n (done n) j.0 (c n) e.0 f.leads f.losses (f.kept n (omega arith) ∙ e.1) e.2 in
    record { events = x.m.events; v = x.m.v; leads = x.m.leads; losses = x.losses; ended = λ i less within. by x i within (decide i n) less; kept = λ i high. x.m.others i (λ same. absurd (omega (arith, same, high))) ∙ f.kept i (omega (arith, high)) }
  where
    by : (x : Ends (from course t.w) f.v n (done n) (c n)) → (i : ℕ) → i < length course.jobs → (i ≡ n) ⊎ (i ≢ n) → i < n + 1 → IsAsEnded x.m.v i (done i) (c i)
    by x i within (inl same) less = subst (λ (k : ℕ). IsAsEnded x.m.v k (done k) (c k)) (sym same) (record { q = x.q; at = x.m.own; ended = x.ended; stopped = x.stopped; files = x.files })
    by x i within (inr off) less =
        let was = f.ended i (less_than i n less off) within in
        record { q = was.q; at = x.m.others i off ∙ was.at; ended = was.ended; stopped = was.stopped; files = was.files }

pub finish_all : (course : Course) (passed : ℕ → Passed) (done : ℕ → Traffics) (d : Core) (c : ℕ → ClientState) (t : Tracks course passed done d c) (n : ℕ) → n ≤ length course.jobs → FinishedTo (from course t.w) t.w course.jobs done c n
finish_all course passed done d c t zero low = record { events = []; v = t.w; leads = record { are = tt; theirs = tt; runs = refl }; losses = tt; ended = λ i less within. absurd (omega (arith, less)); kept = λ i high. refl }
finish_all course passed done d c t (suc n) low =
    subst (λ (k : ℕ). FinishedTo (from course t.w) t.w course.jobs done c k) (let e : n + 1 ≡ suc n = omega arith in e) (one_more course passed done d c t n (omega (arith, low)) (finish_all course passed done d c t n (omega (arith, low))))
