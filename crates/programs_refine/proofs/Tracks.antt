-- How a world stands behind what the programs did so far: its daemon has the replies that are on their way still, and the client of each
-- job is that of its loop, but for what the daemon has not seen yet.
use Rattle.std.specs.Prelude.{◌<◌, ◌≤◌, ◌||◌, IsSome, if◌then◌else◌, ◌&&◌}
use Rattle.std.proofs.Common.{◌≡◌, ◌≢◌, ◌∙◌, ◌⊎◌, inl, inr, ℕ, ◌+◌, Bool, true, false, cond, Option, Some, None, List, [], ◌∷◌, ◌++◌, slice_get, slice_set, refl, sym, ap, subst, arith, length}
use Rattle.sane_fixed.specs.declared.status.Status.TheVariants as statuses
use Rattle.page_picture.specs.Source.{SourceState}
use Rattle.page_sources.specs.declared.kinds.Source.{Source}
use Rattle.scan_job.specs.declared.job.Job.{Job}
use Rattle.scan_job.specs.declared.outcome.Outcome.{Outcome}
use Rattle.scan_job.specs.declared.outcome.Outcome.TheVariants.{Running, Done, Ended}
use Rattle.scan_job.specs.declared.outcome.Why.TheVariants as whys
use Rattle.client_replies.specs.declared.progress.Link.{Link}
use Rattle.client_replies.specs.declared.progress.Link.TheVariants as links
use Rattle.client_replies.specs.declared.progress.Progress.{Progress}
use Rattle.client_replies.specs.ProtocolStates.{is_batch, is_imaging, is_lost_by, is_receiving, is_running, wanted_port}
use Rattle.net_client.specs.ClientStates.{ClientState, after_client_end}
use Rattle.saned_core.specs.declared.session_slot.SessionId.{SessionId}
use Rattle.saned_core.specs.DaemonStates.{Core, session_slot_of}
use Rattle.in_flight.specs.InFlight.{DiffersInFlight}
use Rattle.interleaving.specs.HandingOn.{Owner}
use Rattle.event_world.specs.declared.event.Event.{Event}
use Rattle.event_world.specs.declared.event.JobEvent.{JobEvent}
use Rattle.event_world.specs.declared.endpoint.Endpoint.{Endpoint}
use Rattle.event_world.specs.declared.endpoint.Image.{Image}
use Rattle.event_world.specs.Endpoints.{IsNew, after_link_loss, with_data_opened}
use Rattle.event_world.specs.JobEvents.{Can, Does, Happens, IsFlowing, frame_state_at, is_done}
use Rattle.event_world.specs.Worlds.{AtEndpoint, Leads, Runs, WorldCore}
use Rattle.in_flight.proofs.Slots.{decide}
use Rattle.strangers.specs.Together.{JointEvent, RunsAmong, events_among}
use Rattle.strangers.specs.Together.JointEvent.{OfJobs, OfStranger}
use Rattle.world_refines.proofs.state.ListEntries.{set_length}
use Rattle.programs_refine.specs.Programs.{HasFilesOf}
use Rattle.programs_refine.specs.WorldHistory.{AreOfConnections, IsOfConnections, LeadsBy}
use Rattle.programs_refine.proofs.Lists.{same_there, set_other, set_there, within}
use Rattle.programs_refine.proofs.Passed.{Passed, Traffics, nothing_passed}

-- ---- one client behind the other

abbrev pub with_out : List ℕ → ClientState → ClientState
with_out out c = record c { out = out }

abbrev pub lost_outcome : Outcome
lost_outcome = Ended statuses.IoError whys.Lost

-- of a loop's client c and the world's q
pub data Follows (pending dropped : Bool) (c q : ClientState) : Type 0 where
  -- they differ by bytes on their way alone
  Alike : pending ≡ false → q ≡ with_out q.out c → Follows pending dropped c q
  -- the loop has made a data connection that the daemon did not accept yet
  Dialled : pending ≡ true → IsSome (wanted_port q.progress) → is_running q.outcome ≡ true → c ≡ with_out c.out (with_data_opened q) → Follows pending dropped c q
  -- the loop has lost a connection, and the daemon does not know
  Lost : is_running q.outcome ≡ true → c.outcome ≡ lost_outcome → (pending ≡ true → IsSome (wanted_port q.progress)) → Follows pending dropped c q
  -- the daemon knows that the data connection is lost, and the loop may not
  Cut : pending ≡ false → dropped ≡ true → q.outcome ≡ lost_outcome → (is_receiving c.outcome c.progress ≡ true) ⊎ (c.outcome ≡ lost_outcome) → Follows pending dropped c q

-- the requests that are on their way stand in front of those that are to go out
pub record OutTracks (failed : Bool) (sent heard there here : List ℕ) : Type 0 where
  pub up : List ℕ
  pub rest : List ℕ
  pub sent_is : sent ≡ heard ++ up
  pub out_is : there ≡ up ++ rest
  pub rest_is : failed ≡ false → rest ≡ here

abbrev pub image_bytes : Option Image → List ℕ
image_bytes None = []
image_bytes (Some image) = image.bytes

-- the records that are on their way wait in the world
pub record ImageTracks (pending : Bool) (own : Passed) (taken : List ℕ) (image : Option Image) : Type 0 where
  pub way : pending ≡ false → own.dropped ≡ false → own.shown ≡ taken ++ image_bytes image
  pub stands : own.imaging ≡ true → own.last ≡ false → own.dropped ≡ false → IsSome image
  pub last_is : (x : Image) → image ≡ Some x → x.is_last ≡ own.last

abbrev pub count_of : Bool → ℕ
count_of pending = cond pending 1 0

-- ---- its files

-- the file under way is what went out of it; or a batch is done with its last page, and that is finished too
pub data FilesTrack (turned : List (List ℕ)) (given : List ℕ) (p : Endpoint) : Type 0 where
  UnderWay : HasFilesOf turned given p → FilesTrack turned given p
  AllFinished : is_batch p.task ≡ true → is_done p.client.outcome ≡ true → HasFilesOf (turned ++ given ∷ []) [] p → FilesTrack turned given p

-- nothing of its files changes, and a job that is done stays so
pub record KeepsFiles (p q : Endpoint) : Type 0 where
  pub file : q.file ≡ p.file
  pub pages : q.pages ≡ p.pages
  pub finished : q.finished ≡ p.finished
  pub task : q.task ≡ p.task
  pub done : is_done p.client.outcome ≡ true → is_done q.client.outcome ≡ true

pub has_files : (finished : List (List ℕ)) (text : List ℕ) (p q : Endpoint) → KeepsFiles p q → HasFilesOf finished text p → HasFilesOf finished text q
has_files finished text p q k h = record {
  file = k.file ∙ h.file;
  count = k.finished ∙ h.count;
  room = ap length k.pages ∙ h.room;
  each = λ n bytes at. ap (λ (l : List (Option (List ℕ))). slice_get l n) k.pages ∙ h.each n bytes at;
}

pub files_kept : (turned : List (List ℕ)) (given : List ℕ) (p q : Endpoint) → KeepsFiles p q → FilesTrack turned given p → FilesTrack turned given q
files_kept turned given p q k (UnderWay h) = UnderWay (has_files turned given p q k h)
files_kept turned given p q k (AllFinished batch done h) = AllFinished (ap is_batch k.task ∙ batch) (k.done done) (has_files (turned ++ given ∷ []) [] p q k h)

-- those of a job that was just begun
pub new_files_track : (job : Job) (p : Endpoint) (turned : List (List ℕ)) (given : List ℕ) → IsNew job p → turned ≡ [] → given ≡ [] → FilesTrack turned given p
new_files_track job p turned given n no_pages no_bytes =
    subst (λ (l : List (List ℕ)). FilesTrack l given p) (sym no_pages) (subst (λ (t : List ℕ). FilesTrack [] t p) (sym no_bytes) (UnderWay (record {
      file = ap (λ (z : Endpoint). z.file) n.rest;
      count = ap (λ (z : Endpoint). z.finished) n.rest;
      room = ap (λ (z : Endpoint). length z.pages) n.rest;
      each = λ k bytes at. absurd (let wrong : None ≡ Some bytes = at in cc);
    })))

pub done_is_over : (outcome : Outcome) → is_done outcome ≡ true → is_running outcome ≡ true → ⊥
done_is_over Running done runs = let wrong : false ≡ true = done in cc
done_is_over (Done reports) done runs = let wrong : false ≡ true = runs in cc
done_is_over (Ended status why) done runs = let wrong : false ≡ true = done in cc

lost_runs : (link : Link) (outcome : Outcome) (progress : Progress) → is_lost_by link outcome progress ≡ true → is_running outcome ≡ true
lost_runs links.Control outcome progress e = e
lost_runs links.Image outcome progress e = by (is_running outcome) e
  where
    by : (b : Bool) → (b && is_imaging progress) ≡ true → b ≡ true
    by true e = refl
    by false e = absurd (let wrong : false ≡ true = e in cc)

-- a job that is done stays so behind a loss
pub done_behind_loss : (link : Link) (c : ClientState) → is_done c.outcome ≡ true → is_done (after_link_loss link c).outcome ≡ true
done_behind_loss link c done = by (is_lost_by link c.outcome c.progress) refl
  where
    by : (b : Bool) → is_lost_by link c.outcome c.progress ≡ b → is_done (if b then after_client_end statuses.IoError whys.Lost c else c).outcome ≡ true
    by true e = absurd (done_is_over c.outcome done (lost_runs link c.outcome c.progress e))
    by false e = done

-- ---- one job

-- no session was opened for it
pub record IsUnlinked (owner : Owner) (opened : ℕ) (passed : ℕ → Passed) (done : Traffics) (i : ℕ) (job : Job) (c : ClientState) (p : Endpoint) : Type 0 where
  pub new : IsNew job p
  pub none : (k : ℕ) → owner k ≡ Some i → opened ≤ k
  pub silent : (k : ℕ) → owner k ≡ Some i → passed k ≡ nothing_passed
  pub follows : Follows false false c p.client
  pub out : OutTracks done.failed done.sent [] p.client.out c.out
  pub rest : done ≡ record { sent = done.sent; heard = []; taken = []; made = 0; failed = done.failed; turned = []; given = [] }

-- its session is that of number k
pub record IsLinked (own : Passed) (flying : List ℕ) (done : Traffics) (k : ℕ) (c : ClientState) (p : Endpoint) : Type 0 where
  pub id : SessionId
  pub link : p.link ≡ Some id
  pub number : id.number ≡ k
  pub is_open : own.is_open ≡ true
  pub pending : Bool
  pub made : done.made ≡ own.accepted + count_of pending
  pub follows : Follows pending own.dropped c p.client
  pub out : OutTracks done.failed done.sent own.heard p.client.out c.out
  pub said : own.starved ≡ false → own.said ≡ done.heard ++ flying
  pub image : ImageTracks pending own done.taken p.image
  pub files : FilesTrack done.turned done.given p

-- its session was left
pub record HasLeft (done : Traffics) (c : ClientState) (p : Endpoint) : Type 0 where
  pub ended : is_running c.outcome ≡ false → p.client.outcome ≡ c.outcome
  pub stopped : is_running c.outcome ≡ true → p.client.outcome ≡ lost_outcome
  pub files : FilesTrack done.turned done.given p
  pub link : p.link ≡ None

pub data JobTracks (owner : Owner) (opened : ℕ) (flying : ℕ → List ℕ) (passed : ℕ → Passed) (done : Traffics) (i : ℕ) (job : Job) (c : ClientState) (p : Endpoint) : Type 0 where
  Unlinked : IsUnlinked owner opened passed done i job c p → JobTracks owner opened flying passed done i job c p
  Linked : (k : ℕ) → owner k ≡ Some i → k < opened → IsLinked (passed k) (flying k) done k c p → JobTracks owner opened flying passed done i job c p
  Left : (k : ℕ) → owner k ≡ Some i → k < opened → (passed k).is_open ≡ false → HasLeft done c p → JobTracks owner opened flying passed done i job c p

-- ---- all of them

-- what stays as it is from the first act to the last: what sources are, the world at first, whose sessions are, whether strangers may
-- speak, the jobs
pub record Course : Type 0 where
  pub source : Source → SourceState
  pub first : WorldCore
  pub owner : Owner
  pub among : Bool
  pub jobs : List Job

abbrev pub course_of : (Source → SourceState) → WorldCore → Owner → Bool → List Job → Course
course_of source first owner among jobs = record { source = source; first = first; owner = owner; among = among; jobs = jobs }

-- each act of a stranger is for a session that no job has, and where none may speak there is none
abbrev pub AreTheirs : Owner → Bool → List JointEvent → Type 0
AreTheirs owner among [] = Unit {0}
AreTheirs owner among (OfJobs e ∷ xs) = AreTheirs owner among xs
AreTheirs owner among (OfStranger a ∷ xs) = (owner a.session ≡ None) × (among ≡ true) × AreTheirs owner among xs

-- events of connections and such acts led to a world
pub record Led (course : Course) (events : List JointEvent) (w : WorldCore) : Type 0 where
  pub are : AreOfConnections (events_among events)
  pub theirs : AreTheirs course.owner course.among events
  pub runs : RunsAmong course.source events course.first w

-- so it is in each world to which these led
abbrev pub AlwaysIn : Course → (WorldCore → Type 0) → Type 0
AlwaysIn course Holds = (events : List JointEvent) (w : WorldCore) → Led course events w → Holds w

-- without strangers they are events alone
pub alone : (source : Source → SourceState) (owner : Owner) (among : Bool) (events : List JointEvent) (w v : WorldCore) → among ≡ false → AreTheirs owner among events → RunsAmong source events w v → Runs source (events_among events) w v
alone source owner among [] w v off theirs r = r
alone source owner among (OfJobs e ∷ xs) w v off theirs r = (r.0, r.1, alone source owner among xs r.0 v off theirs r.2)
alone source owner among (OfStranger a ∷ xs) w v off theirs r = absurd (let clash : true ≡ false = sym theirs.1 ∙ off in cc)

pub led_alone : (course : Course) (events : List JointEvent) (w : WorldCore) → course.among ≡ false → Led course events w → LeadsBy course.source course.first (events_among events) w
led_alone course events w off l = record { are = l.are; runs = alone course.source course.owner course.among events course.first w off l.theirs l.runs }

pub record Tracks (course : Course) (passed : ℕ → Passed) (done : ℕ → Traffics) (d : Core) (c : ℕ → ClientState) : Type 0 where
  pub events : List JointEvent
  pub w : WorldCore
  pub leads : Led course events w
  pub count : length w.endpoints ≡ length course.jobs
  pub flying : ℕ → List ℕ
  pub differs : DiffersInFlight flying d w.daemon
  pub slots : (n : ℕ) → session_slot_of w.daemon.slots n ≢ None → (passed n).is_open ≡ true
  pub owned : course.among ≡ false → (n : ℕ) → (passed n).is_open ≡ true → (i : ℕ) × (course.owner n ≡ Some i)
  -- no frame flows behind its end, or behind the loss of its connection
  pub calm : (n : ℕ) → ((passed n).dropped || (passed n).last) ≡ true → IsFlowing (frame_state_at w.daemon n) → ⊥
  pub each : (i : ℕ) (job : Job) → slice_get course.jobs i ≡ Some job → (p : Endpoint) × (slice_get w.endpoints i ≡ Some p) × JobTracks course.owner d.opened flying passed (done i) i job (c i) p

abbrev pub IsCalm : (ℕ → Passed) → Core → Type 0
IsCalm passed e = (n : ℕ) → ((passed n).dropped || (passed n).last) ≡ true → IsFlowing (frame_state_at e n) → ⊥

-- it is as it was where nothing of it changed
pub stays : (owner : Owner) (o o_new : ℕ) (flying flying_new : ℕ → List ℕ) (passed passed_new : ℕ → Passed) (done : Traffics) (i : ℕ) (job : Job) (c : ClientState) (p : Endpoint) → o ≤ o_new
    → ((k : ℕ) → owner k ≡ Some i → o ≤ k → o_new ≤ k) → ((k : ℕ) → owner k ≡ Some i → passed_new k ≡ passed k) → ((k : ℕ) → owner k ≡ Some i → flying_new k ≡ flying k)
    → JobTracks owner o flying passed done i job c p → JobTracks owner o_new flying_new passed_new done i job c p
stays owner o o_new flying flying_new passed passed_new done i job c p more above same alike (Unlinked u) = Unlinked (record {
  new = u.new;
  none = λ k own. above k own (u.none k own);
  silent = λ k own. same k own ∙ u.silent k own;
  follows = u.follows;
  out = u.out;
  rest = u.rest;
})
stays owner o o_new flying flying_new passed passed_new done i job c p more above same alike (Linked k own low l) =
    Linked k own (omega (arith, low, more)) (subst (λ (x : Passed). IsLinked x (flying_new k) done k c p) (sym (same k own)) (subst (λ (x : List ℕ). IsLinked (passed k) x done k c p) (sym (alike k own)) l))
stays owner o o_new flying flying_new passed passed_new done i job c p more above same alike (Left k own low shut l) = Left k own (omega (arith, low, more)) (ap (λ (x : Passed). x.is_open) (same k own) ∙ shut) l

-- ---- an event of a world

abbrev pub world_with : WorldCore → ℕ → Core → Endpoint → WorldCore
world_with w i e q = record { daemon = e; endpoints = slice_set w.endpoints i q }

pub at_endpoint : (w : WorldCore) (i : ℕ) (p : Endpoint) (event : JobEvent) (e : Core) (q : Endpoint) → slice_get w.endpoints i ≡ Some p → Can w.daemon p event → Does w.daemon p event e q → AtEndpoint w i event (world_with w i e q)
at_endpoint w i p event e q at can does =
    let happens : Happens w.daemon p event e q = record { does = λ _. does; cannot = λ no. absurd (no can) } in
    record {
      happens = λ r there. (q, subst (λ (x : Endpoint). Happens w.daemon x event e q) (same_there w.endpoints i p r at there) happens, refl);
      beyond = λ far. absurd (let low = within w.endpoints i p at in omega (arith, far, low));
    }

runs_more : (source : Source → SourceState) (events : List JointEvent) (x : JointEvent) (first w v : WorldCore) → RunsAmong source events first w → RunsAmong source (x ∷ []) w v → RunsAmong source (events ++ x ∷ []) first v
runs_more source [] x first w v r l = subst (λ (y : WorldCore). RunsAmong source (x ∷ []) y v) r l
runs_more source (OfJobs e ∷ events) x first w v r l = (r.0, r.1, runs_more source events x r.0 w v r.2 l)
runs_more source (OfStranger a ∷ events) x first w v r l = (r.0, r.1, runs_more source events x r.0 w v r.2 l)

are_more : (events : List JointEvent) (x : JointEvent) → AreOfConnections (events_among events) → AreOfConnections (events_among (x ∷ [])) → AreOfConnections (events_among (events ++ x ∷ []))
are_more [] x all is = is
are_more (OfJobs e ∷ events) x all is = (all.0, are_more events x all.1 is)
are_more (OfStranger a ∷ events) x all is = are_more events x all is

theirs_more : (owner : Owner) (among : Bool) (events : List JointEvent) (x : JointEvent) → AreTheirs owner among events → AreTheirs owner among (x ∷ []) → AreTheirs owner among (events ++ x ∷ [])
theirs_more owner among [] x all is = is
theirs_more owner among (OfJobs e ∷ events) x all is = theirs_more owner among events x all is
theirs_more owner among (OfStranger a ∷ events) x all is = (all.0, all.1, theirs_more owner among events x all.2 is)

pub led_more : (course : Course) (events : List JointEvent) (x : JointEvent) (w v : WorldCore) → Led course events w → AreOfConnections (events_among (x ∷ [])) → AreTheirs course.owner course.among (x ∷ []) → RunsAmong course.source (x ∷ []) w v → Led course (events ++ x ∷ []) v
led_more course events x w v l is theirs leads = record { are = are_more events x l.are is; theirs = theirs_more course.owner course.among events x l.theirs theirs; runs = runs_more course.source events x course.first w v l.runs leads }

-- a world to which nothing happened, or an event of job i alone
pub record Moved (course : Course) (w : WorldCore) (i : ℕ) (q : Endpoint) (e : Core) : Type 0 where
  pub events : List JointEvent
  pub v : WorldCore
  pub leads : Led course events v
  pub daemon : v.daemon ≡ e
  pub count : length v.endpoints ≡ length w.endpoints
  pub own : slice_get v.endpoints i ≡ Some q
  pub others : (j : ℕ) → j ≢ i → slice_get v.endpoints j ≡ slice_get w.endpoints j

unfoldable pub not_moved : (course : Course) (events : List JointEvent) (w : WorldCore) (i : ℕ) (p : Endpoint) → Led course events w → slice_get w.endpoints i ≡ Some p → Moved course w i p w.daemon
not_moved course events w i p l at = record { events = events; v = w; leads = l; daemon = refl; count = refl; own = at; others = λ j off. refl }

unfoldable pub moved : (course : Course) (events : List JointEvent) (event : Event) (w : WorldCore) (i : ℕ) (p q : Endpoint) (e : Core) → Led course events w → slice_get w.endpoints i ≡ Some p → IsOfConnections event → Leads course.source event w (world_with w i e q)
    → Moved course w i q e
moved course events event w i p q e l at is leads = record {
  events = events ++ OfJobs event ∷ [];
  v = world_with w i e q;
  leads = led_more course events (OfJobs event) w (world_with w i e q) l (is, tt) tt (world_with w i e q, leads, refl);
  daemon = refl;
  count = set_length w.endpoints i q;
  own = set_there w.endpoints i p q at;
  others = λ j off. set_other w.endpoints i j q (λ same. off (sym same));
}

-- ---- one job goes on, and the others stay

pub goes_on : (course : Course) (passed passed_new : ℕ → Passed) (done done_new : ℕ → Traffics) (d d_new : Core) (c c_new : ℕ → ClientState) (t : Tracks course passed done d c)
    → (i : ℕ) (q : Endpoint) (e : Core) (m : Moved course t.w i q e) (flying : ℕ → List ℕ) → DiffersInFlight flying d_new e → ((n : ℕ) → session_slot_of e.slots n ≢ None → (passed_new n).is_open ≡ true) → (course.among ≡ false → (n : ℕ) → (passed_new n).is_open ≡ true → (j : ℕ) × (course.owner n ≡ Some j)) → IsCalm passed_new e → d.opened ≤ d_new.opened
    → ((j : ℕ) → j ≢ i → (k : ℕ) → course.owner k ≡ Some j → (d.opened ≤ k → d_new.opened ≤ k) × (passed_new k ≡ passed k) × (flying k ≡ t.flying k)) → ((j : ℕ) → j ≢ i → (done_new j ≡ done j) × (c_new j ≡ c j))
    → ((job : Job) → slice_get course.jobs i ≡ Some job → JobTracks course.owner d_new.opened flying passed_new (done_new i) i job (c_new i) q) → Tracks course passed_new done_new d_new c_new
goes_on course passed passed_new done done_new d d_new c c_new t i q e m flying differs slots owned calm more others still mine = record {
  events = m.events;
  w = m.v;
  leads = m.leads;
  count = m.count ∙ t.count;
  flying = flying;
  differs = subst (λ (x : Core). DiffersInFlight flying d_new x) (sym m.daemon) differs;
  slots = subst (λ (x : Core). (n : ℕ) → session_slot_of x.slots n ≢ None → (passed_new n).is_open ≡ true) (sym m.daemon) slots;
  owned = owned;
  calm = subst (IsCalm passed_new) (sym m.daemon) calm;
  each = λ j job at. by j job at (decide j i);
}
  where
    by : (j : ℕ) (job : Job) → slice_get course.jobs j ≡ Some job → (j ≡ i) ⊎ (j ≢ i) → (p : Endpoint) × (slice_get m.v.endpoints j ≡ Some p) × JobTracks course.owner d_new.opened flying passed_new (done_new j) j job (c_new j) p
    by j job at (inl same) =
        subst (λ (x : ℕ). slice_get course.jobs x ≡ Some job → (p : Endpoint) × (slice_get m.v.endpoints x ≡ Some p) × JobTracks course.owner d_new.opened flying passed_new (done_new x) x job (c_new x) p) (sym same) (λ here. (q, m.own, mine job here)) at
    by j job at (inr off) =
        let was = t.each j job at in
        let kept = stays course.owner d.opened d_new.opened t.flying flying passed passed_new (done j) j job (c j) was.0 more (λ k own. (others j off k own).0) (λ k own. (others j off k own).1) (λ k own. (others j off k own).2) was.2 in
        (was.0, m.others j off ∙ was.1, rw ((still j off).0, (still j off).1) kept)
