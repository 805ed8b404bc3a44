-- The promise of a world, of the programs.
use Rattle.std.specs.Prelude.{◌<◌, ◌≤◌, ◌+◌, ◌-◌, ◌==◌, ◌||◌, nat_lt, if◌then◌else◌, slice_index_or, IsSome, min}
use Rattle.std.proofs.Common.{◌≡◌, ◌∙◌, inl, inr, ℕ, zero, suc, Bool, true, false, Option, Some, None, option_map, option_and_then, List, [], ◌∷◌, ◌++◌, length, slice_get, refl, sym, ap, subst, arith}
use Rattle.std.proofs.Math.Nat.{min-eq_left}
use Rattle.std.proofs.lemmas.Bool.Decides.{nat_tests}
use Rattle.std.proofs.lemmas.Option.{get_or_from_slice_get, slice_get_within}
use Rattle.page_sources.specs.SourceView.{source_state}
use Rattle.device_api.specs.State.{DeviceState, HeldPage}
use Rattle.sane_fixed.specs.declared.device_info.DeviceInfo.{DeviceInfo}
use Rattle.scan_job.specs.declared.job.Job.{Job}
use Rattle.sane_fixed.specs.declared.status.Status.TheVariants as statuses
use Rattle.scan_job.specs.declared.outcome.Outcome.{Outcome}
use Rattle.scan_job.specs.declared.outcome.Outcome.TheVariants.{Done, Ended}
use Rattle.scan_job.specs.declared.outcome.Why.TheVariants as whys
use Rattle.client_replies.specs.ProtocolStates.{is_running, wanted_port}
use Rattle.client_replies.specs.declared.progress.Progress.{Progress}
use Rattle.frame_join.proofs.GivenKept.{whole_front}
use Rattle.net_client.specs.ClientStates.{ClientState}
use Rattle.net_jobs.specs.JobSteps.{files_by_steps, given_by_steps}
use Rattle.interleaving.specs.Interleavings.{job_journal}
use Rattle.saned_core.specs.declared.session_slot.SessionId.{SessionId}
use Rattle.saned_core.specs.DaemonStates.{Core}
use Rattle.system_model.specs.Client as model
use Rattle.system_model.specs.Daemon.{TransferState, Streaming, Ending}
use Rattle.system_model.specs.Devices.{Make}
use Rattle.system_model.specs.Transitions.{IsImaging}
use Rattle.daemon_refines.specs.ContextRefinement.{HaveSources}
use Rattle.event_world.specs.declared.event.Event.{Event}
use Rattle.event_world.specs.declared.event.Event.TheVariants.{Connect, ToDaemon, ToClient, DataConnect, DataTurn, DataToClient, LoseControl, LoseImage, Cancel, Load, Unplug}
use Rattle.event_world.specs.declared.endpoint.Endpoint.{Endpoint}
use Rattle.event_world.specs.Endpoints.{finished_page}
use Rattle.event_world.specs.JobMoves.{IsNextMove, moves_left_of}
use Rattle.event_world.specs.Worlds.{Runs, WorldCore}
use Rattle.world_refines.specs.GhostStates.{Ghost, place_of_info}
use Rattle.world_refines.specs.MainTheorem.{AreFittingLoads, AreTrueLoads, EventsFollow}
use Rattle.world_refines.specs.NewWorlds.{HaveSourcesAt, IsNewDaemon, NewWorldsRefine, PageSources, initial_ghost, make_of}
use Rattle.world_refines.specs.Wires.{FlightMatches}
use Rattle.world_refines.specs.WorldRefinement.{IsServed, WorldRefines, session_by}
use Rattle.world_refines.proofs.frames.Dialling.{wants_imaging}
use Rattle.world_refines.proofs.frames.TurnEvents.{Started, started_by}
use Rattle.scan_world.specs.Calls.{AnswersAre, MovesNext, finished_by, is_starved, moves_answered}
use Rattle.scan_world.specs.Histories.{History, LedTo}
use Rattle.scan_world.specs.Laws.{AllIsRight}
use Rattle.scan_world.proofs.Led.{loads_jointly, runs_jointly}
use Rattle.scan_world.specs.Promise.{CountIsKept, FileIsKept, JobAnswers, OutcomeIsKept, PageIsKept}
use Rattle.programs_refine.specs.Keeping.{history_of, AllLoopsAreKept, AreFit, LoopIsKept, ProgramsKeepAll, StoppedIsKept, WorldsHearInTurn, WorldsWantBeforeItFlows}
use Rattle.programs_refine.specs.Programs.{Acts, ComeToAWorld, EndsAlike, HasFilesOf, IsWorldOf, StopsAlike}
use Rattle.programs_refine.specs.WorldHistory.{AreLosses, AreOfConnections, IsLoss, IsOfConnections, LeadsBy, WantsBeforeItFlows}
use Rattle.programs_refine.proofs.Lists.{there}
use Rattle.programs_refine.proofs.Outgoing.{never_both}
use Rattle.programs_refine.proofs.Programs.{programs_are}
use Rattle.md5_auth.specs.Challenges.{HasGiven}

-- ---- a job that wants its data connection has no frame that flows

flows_none : (stage : model.JobStage) (c : TransferState) (progress : Progress) (phase : _) (image : Option (List ℕ)) (flight : List ℕ) (ending : _) → IsImaging stage → Started c → FlightMatches stage c progress phase image flight ending → wanted_port progress ≡ None
flows_none stage c progress phase image flight ending imaging (inl streaming) f =
    let g : FlightMatches (model.Running (model.Imaging imaging.0 imaging.1)) Streaming progress phase image flight ending = subst (λ (x : TransferState). FlightMatches (model.Running (model.Imaging imaging.0 imaging.1)) x progress phase image flight ending) streaming (subst (λ (x : model.JobStage). FlightMatches x c progress phase image flight ending) imaging.2 f) in
    g.wants
flows_none stage c progress phase image flight ending imaging (inr ends) f =
    let g : FlightMatches (model.Running (model.Imaging imaging.0 imaging.1)) Ending progress phase image flight ending = subst (λ (x : TransferState). FlightMatches (model.Running (model.Imaging imaging.0 imaging.1)) x progress phase image flight ending) ends (subst (λ (x : model.JobStage). FlightMatches x c progress phase image flight ending) imaging.2 f) in
    g.wants

pub wants_first : (t : Ghost) (w : WorldCore) → WorldRefines t w → WantsBeforeItFlows w
wants_first t w h i p id at link runs wants flows =
    let s = h.endpoints i p at in
    let me = t.system.job i in
    let imaging = wants_imaging (place_of_info t.infos) (t.jobs i) (t.history i) (t.pages i) me p s.exchanges wants in
    let served : IsServed i t.system.make w.daemon (Some id) me.served t.system.device (session_by i t.system.device me) = subst (λ (l : Option SessionId). IsServed i t.system.make w.daemon l me.served t.system.device (session_by i t.system.device me)) link s.served in
    let started = started_by i t.system.make w.daemon id me.served t.system.device me refl served flows in
    let none = flows_none me.client.stage me.session.transfer p.client.progress p.client.phase (t.wires i).image me.session.flight me.session.ending imaging started.started s.means.flow in
    let wrong : false ≡ true = subst IsSome none wants in cc

-- whatever their pages are
pub any_source : ℕ → PageSources
any_source k = record { fallible = true; steady = false }

any_pages : (make : Make) (pages : List HeldPage) → make.fallible ≡ true → make.steady ≡ false → HaveSources make pages
any_pages make [] fallible steady = tt
any_pages make (held ∷ pages) fallible steady = (record { infallible = λ e. never_both make.fallible fallible e; steady = λ e. never_both make.steady e steady }, any_pages make pages fallible steady)

pub have_any : (devices : List DeviceState) → HaveSourcesAt any_source devices
unfolding any_source
have_any devices k s at = any_pages (make_of (any_source k) (Some s)) s.pages refl refl

pub no_loads : (events : List Event) → AreOfConnections events → AreTrueLoads source_state events
no_loads [] are = tt
no_loads (Connect i ∷ events) are = (tt, no_loads events are.1)
no_loads (ToDaemon i n ∷ events) are = (tt, no_loads events are.1)
no_loads (ToClient i n ∷ events) are = (tt, no_loads events are.1)
no_loads (DataConnect i ∷ events) are = (tt, no_loads events are.1)
no_loads (DataTurn i ∷ events) are = (tt, no_loads events are.1)
no_loads (DataToClient i n ∷ events) are = (tt, no_loads events are.1)
no_loads (LoseControl i ∷ events) are = (tt, no_loads events are.1)
no_loads (LoseImage i ∷ events) are = (tt, no_loads events are.1)
no_loads (Cancel i ∷ events) are = absurd are.0
no_loads (Load name page ∷ events) are = absurd are.0
no_loads (Unplug name ∷ events) are = absurd are.0

pub none_to_fit : (infos : List DeviceInfo) (make : ℕ → Make) (events : List Event) → AreOfConnections events → AreFittingLoads source_state infos make events
none_to_fit infos make [] are = tt
none_to_fit infos make (Connect i ∷ events) are = (tt, none_to_fit infos make events are.1)
none_to_fit infos make (ToDaemon i n ∷ events) are = (tt, none_to_fit infos make events are.1)
none_to_fit infos make (ToClient i n ∷ events) are = (tt, none_to_fit infos make events are.1)
none_to_fit infos make (DataConnect i ∷ events) are = (tt, none_to_fit infos make events are.1)
none_to_fit infos make (DataTurn i ∷ events) are = (tt, none_to_fit infos make events are.1)
none_to_fit infos make (DataToClient i n ∷ events) are = (tt, none_to_fit infos make events are.1)
none_to_fit infos make (LoseControl i ∷ events) are = (tt, none_to_fit infos make events are.1)
none_to_fit infos make (LoseImage i ∷ events) are = (tt, none_to_fit infos make events are.1)
none_to_fit infos make (Cancel i ∷ events) are = absurd are.0
none_to_fit infos make (Load name page ∷ events) are = absurd are.0
none_to_fit infos make (Unplug name ∷ events) are = absurd are.0

pub always_first : NewWorldsRefine → EventsFollow → WorldsWantBeforeItFlows
always_first new follows devices jobs other d w fit is events v leads =
    let first = new any_source jobs other devices w is.endpoints (subst (IsNewDaemon devices) (sym is.daemon) fit.daemon) fit.names fit.limits (have_any devices) fit.fit in
    let t = initial_ghost any_source jobs other devices w.daemon.users w.endpoints in
    let run = follows source_state events t w v first (no_loads events leads.are) (none_to_fit t.infos t.system.make events leads.are) leads.runs in
    wants_first run.ghost_then v run.stands

-- ---- what a world answers of a job that is over

abbrev answers_of : Endpoint → JobAnswers
answers_of p = record { outcome = p.client.outcome; file = p.file; file_at = λ k. finished_page p k; finished = min p.finished 16; starved = p.out_of_memory; next_move = None; moves_left = moves_left_of p }

answers_are : (w : WorldCore) (i : ℕ) (p : Endpoint) → slice_get w.endpoints i ≡ Some p → is_running p.client.outcome ≡ false → AnswersAre w i (answers_of p)
answers_are w i p at over = record {
  outcome = ap (option_map (λ (x : Endpoint). x.client.outcome)) at;
  file = ap (option_and_then (λ (x : Endpoint). x.file)) at;
  pages = λ k. ap (option_and_then (λ (x : Endpoint). finished_page x k)) at;
  finished = ap finished_by at;
  starved = ap is_starved at;
  next_move = subst (λ (o : Option Endpoint). MovesNext w.daemon i o None) (sym at) none;
  moves_left = ap moves_answered at;
}
  where
    none : IsNextMove w.daemon i p None
    none = record { job_event = None; event_is = refl; runs = λ on. never_both (is_running p.client.outcome) on over; over = λ off. refl }

-- a finished page is one of sixteen
within_room : (texts : List (List ℕ)) (text : List ℕ) (p : Endpoint) (n : ℕ) (bytes : List ℕ) → HasFilesOf texts text p → slice_get texts n ≡ Some bytes → n < 16
within_room texts text p n bytes h at = let low = slice_get_within p.pages n (Some bytes) (h.each n bytes at) in omega (arith, low, h.room)

last_within : (texts : List (List ℕ)) (text : List ℕ) (p : Endpoint) (n : ℕ) → HasFilesOf texts text p → length texts ≡ n → n ≤ 16
last_within texts text p zero h e = omega arith
last_within texts text p (suc n) h e = let x = there texts n (omega (arith, e)) in let low = within_room texts text p n x.0 h x.1 in omega (arith, low)

few_finished : (p : Endpoint) (texts : List (List ℕ)) (text : List ℕ) → HasFilesOf texts text p → min p.finished 16 ≡ length texts
few_finished p texts text h = let few = last_within texts text p (length texts) h refl in min-eq_left (omega (arith, h.count, few)) ∙ h.count

-- what a world answers of a page is what went out of it
finished_at : (p : Endpoint) (n : ℕ) (bytes : List ℕ) (a b c : Bool) → (n + 1 == 0) ≡ a → nat_lt p.finished (n + 1) ≡ b → nat_lt 16 (n + 1) ≡ c → a ≡ false → b ≡ false → c ≡ false → slice_get p.pages n ≡ Some (Some bytes) → finished_page p (n + 1) ≡ Some bytes
finished_at p n bytes a b c d e f is_none is_low is_few at =
    ap (λ (x : Bool). if (x || nat_lt p.finished (n + 1)) || nat_lt 16 (n + 1) then None else slice_index_or p.pages ((n + 1) - 1) None) (d ∙ is_none)
    ∙ ap (λ (x : Bool). if x || nat_lt 16 (n + 1) then None else slice_index_or p.pages ((n + 1) - 1) None) (e ∙ is_low)
    ∙ ap (λ (x : Bool). if x then None else slice_index_or p.pages ((n + 1) - 1) None) (f ∙ is_few)
    ∙ ap (λ (k : ℕ). slice_index_or p.pages k None) (omega arith) ∙ get_or_from_slice_get p.pages n (Some bytes) None at

page_kept : (h : History) (v : WorldCore) (i : ℕ) (job : Job) (p : Endpoint) (texts : List (List ℕ)) (text : List ℕ) (n : ℕ) (bytes : List ℕ) → HasFilesOf texts text p → slice_get texts n ≡ Some bytes → PageIsKept h v i job p.out_of_memory (min p.finished 16) (n + 1) (finished_page p (n + 1))
    → PageIsKept h v i job p.out_of_memory (length texts) (n + 1) (Some bytes)
page_kept h v i job p texts text n bytes files at k =
    let low = slice_get_within texts n bytes at in
    let few = within_room texts text p n bytes files at in
    let count = files.count in
    subst (λ (f : Option (List ℕ)). PageIsKept h v i job p.out_of_memory (length texts) (n + 1) f)
    (finished_at p n bytes (n + 1 == 0) (nat_lt p.finished (n + 1)) (nat_lt 16 (n + 1)) refl refl refl (grind (arith, nat_tests)) (grind (arith, nat_tests, low, count)) (grind (arith, nat_tests, few)) (files.each n bytes at))
    (subst (λ (m : ℕ). PageIsKept h v i job p.out_of_memory m (n + 1) (finished_page p (n + 1))) (few_finished p texts text files) k)

pub kept_by : (right : AllIsRight) (h : History) (v : WorldCore) (acts : Acts) (i : ℕ) (job : Job) (last : ClientState) → LedTo h v → slice_get h.jobs i ≡ Some job → is_running last.outcome ≡ false → EndsAlike v i acts last → LoopIsKept h v i job acts last
kept_by right h v acts i job last led at over x =
    let p = x.endpoint in
    let k = right h v i job (answers_of p) (record { led = led; job_at = at }) (answers_are v i p x.at (ap is_running x.outcome ∙ over)) in
    record {
      ends = x;
      outcome = subst (OutcomeIsKept h v i job p.out_of_memory) x.outcome k.outcome;
      file = subst (λ (f : Option (List ℕ)). FileIsKept h v i job p.out_of_memory last.outcome f) x.files.file (subst (λ (o : Outcome). FileIsKept h v i job p.out_of_memory o p.file) x.outcome k.file);
      pages = λ n bytes at. page_kept h v i job p x.finished x.text n bytes x.files at (k.pages (n + 1));
      count = subst (λ (f : ℕ). CountIsKept h v i job last.outcome f) (few_finished p x.finished x.text x.files) (subst (λ (o : Outcome). CountIsKept h v i job o (min p.finished 16)) x.outcome k.count);
    }

pub stopped_by : (right : AllIsRight) (h : History) (v : WorldCore) (acts : Acts) (i : ℕ) (job : Job) → LedTo h v → slice_get h.jobs i ≡ Some job → StopsAlike v i acts → StoppedIsKept h v i job acts
stopped_by right h v acts i job led at x =
    let p = x.endpoint in
    let k = right h v i job (answers_of p) (record { led = led; job_at = at }) (answers_are v i p x.at (ap is_running x.lost)) in
    let turned = files_by_steps (job_journal i acts) in
    let text = given_by_steps (job_journal i acts) in
    record {
      stops = x;
      not_whole = λ whole. (let told = k.file.whole text (length text) x.files.file (whole_front text whole) in let clash : Ended statuses.IoError whys.Lost ≡ Done told.0 = sym x.lost ∙ told.2 in cc);
      pages = λ n bytes at. page_kept h v i job p turned text n bytes x.files at (k.pages (n + 1));
    }

led_by : (devices : List DeviceState) (jobs : List Job) (d : Core) (first v : WorldCore) (events : List Event) → (fit : AreFit devices jobs d) → IsWorldOf d jobs first → LeadsBy source_state first events v → LedTo (history_of devices fit.seed jobs d events) v
led_by devices jobs d first v events fit is l = record {
  first = first;
  endpoints = is.endpoints;
  daemon = subst (IsNewDaemon devices) (sym is.daemon) fit.daemon;
  users_are = ap (λ (x : Core). x.users) is.daemon;
  seeded = subst (λ (x : Core). HasGiven fit.seed 0 x.stream) (sym is.daemon) fit.seeded;
  names = fit.names;
  limits = fit.limits;
  fit = fit.fit;
  loads = loads_jointly events (no_loads events l.are);
  runs = runs_jointly events first v l.runs;
}

loss_of_connections : (event : Event) → IsLoss event → IsOfConnections event
loss_of_connections (Connect i) is = tt
loss_of_connections (LoseControl i) is = tt
loss_of_connections event is = absurd is

pub losses_of_connections : (losses : List Event) → AreLosses losses → AreOfConnections losses
losses_of_connections [] are = tt
losses_of_connections (event ∷ losses) are = (loss_of_connections event are.0, losses_of_connections losses are.1)

more_of_connections : (events losses : List Event) → AreOfConnections events → AreLosses losses → AreOfConnections (events ++ losses)
more_of_connections [] losses are lost = losses_of_connections losses lost
more_of_connections (event ∷ events) losses are lost = (are.0, more_of_connections events losses are.1 lost)

runs_then : (events more : List Event) (u v w : WorldCore) → Runs source_state events u v → Runs source_state more v w → Runs source_state (events ++ more) u w
runs_then [] more u v w same r = subst (λ (x : WorldCore). Runs source_state more x w) same r
runs_then (event ∷ events) more u v w l r = (l.0, l.1, runs_then events more l.0 v w l.2 r)

keeps : (right : AllIsRight) (devices : List DeviceState) (jobs : List Job) (d : Core) (acts : Acts) (end : Core) (last : ℕ → ClientState) → AreFit devices jobs d → ComeToAWorld source_state jobs d acts end last → AllLoopsAreKept devices jobs d acts last
keeps right devices jobs d acts end last fit a =
    let l = a.leads_on in
    let events = l.serves.events ++ l.losses in
    let leads : LeadsBy source_state a.w events l.v = record { are = more_of_connections l.serves.events l.losses l.serves.leads.are l.are; runs = runs_then l.serves.events l.losses a.w l.serves.v l.v l.serves.leads.runs l.leads_on } in
    let led = led_by devices jobs d a.w l.v events fit a.is_of leads in
    record {
      seed = fit.seed;
      events = events;
      are = leads.are;
      v = l.v;
      led = led;
      each = λ i job at over. kept_by right (history_of devices fit.seed jobs d events) l.v acts i job (last i) led at over (l.jobs_are i job at over);
      stopped = λ i job at runs. stopped_by right (history_of devices fit.seed jobs d events) l.v acts i job led at (l.stopped_are i job at runs);
    }

-- of no job
keeps_none : (devices : List DeviceState) (d : Core) (acts : Acts) (last : ℕ → ClientState) → AreFit devices [] d → AllLoopsAreKept devices [] d acts last
keeps_none devices d acts last fit =
    let w : WorldCore = record { daemon = d; endpoints = [] } in
    record {
      seed = fit.seed;
      events = [];
      are = tt;
      v = w;
      led = led_by devices [] d w w [] fit (record { daemon = refl; endpoints = tt }) (record { are = tt; runs = refl });
      each = λ i job at over. absurd (let wrong : None ≡ Some job = at in cc);
      stopped = λ i job at runs. absurd (let wrong : None ≡ Some job = at in cc);
    }

pub all_kept : NewWorldsRefine → EventsFollow → WorldsHearInTurn → AllIsRight → ProgramsKeepAll
all_kept new follows hears right devices [] owner d acts last fit r = keeps_none devices d acts last fit
all_kept new follows hears right devices (job ∷ jobs) owner d acts last fit r =
    keeps right devices (job ∷ jobs) d acts r.end last fit (programs_are source_state (job ∷ jobs) owner d acts last r (λ w is. (always_first new follows devices (job ∷ jobs) job d w fit is, hears devices (job ∷ jobs) job d w fit is)))
