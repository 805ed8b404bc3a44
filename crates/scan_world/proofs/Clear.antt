-- A job in whose way nothing stands is done, or is told as out of memory, or its session broke off.
use Rattle.std.specs.Prelude.{map, option_map, slice_get}
use Rattle.std.specs.List.{AllByRecursion}
use Rattle.std.proofs.Common.{◌≡◌, ◌≢◌, ◌∙◌, ◌⊎◌, ℕ, List, [], ◌∷◌, ◌++◌, Bool, true, false, Option, Some, None, inl, inr, refl, sym, ap, subst}
use Rattle.page_sources.specs.SourceView.{source_state}
use Rattle.sane_fixed.specs.declared.status.Status.{Status}
use Rattle.sane_fixed.specs.declared.status.Status.TheVariants as statuses
use Rattle.device_api.specs.State.{DeviceState, HeldPage, feeds, is_at_rest}
use Rattle.saned_core.specs.DaemonStates.{Core}
use Rattle.client_replies.specs.ProtocolStates.{is_running, scans}
use Rattle.scan_job.specs.declared.job.Job.{Job}
use Rattle.scan_job.specs.declared.outcome.Outcome.{Outcome}
use Rattle.scan_job.specs.declared.outcome.Outcome.TheVariants.{Running, Done, Ended}
use Rattle.scan_job.specs.declared.outcome.Why.{Why}
use Rattle.scan_job.specs.declared.outcome.Why.TheVariants as whys
use Rattle.event_world.specs.declared.endpoint.Endpoint.{Endpoint}
use Rattle.event_world.specs.declared.event.Event.{Event}
use Rattle.event_world.specs.declared.event.Event.TheVariants as events
use Rattle.event_world.specs.declared.event.Event.TheVariants.{Cancel, Load, LoseControl, LoseImage, ToDaemon, Unplug}
use Rattle.event_world.specs.declared.event.JobEvent.{JobEvent}
use Rattle.event_world.specs.declared.event.JobEvent.TheVariants as moves
use Rattle.event_world.specs.JobEvents.{job_event_of}
use Rattle.event_world.specs.JobMoves.{IsFirstMove, IsNext, IsNextMove, in_order}
use Rattle.event_world.specs.Rounds.{RoundsRunOut}
use Rattle.event_world.specs.Worlds.{Leads, Runs, WorldCore}
use Rattle.strangers.specs.Together.{JointEvent}
use Rattle.strangers.specs.Together.JointEvent.{OfJobs}
use Rattle.scan_world.specs.Calls.{AreNextMoves, IsJobAt, IsMoveAt, MovesNext, is_starved, starved_at}
use Rattle.scan_world.specs.Clear.{BrokeOff, ClearsBy, ClearsUp, ComesTo, IsClear, IsEither, IsSupplied, SharesClear}
use Rattle.scan_world.specs.Endings.{AnswerIsExplained, IsEndingExplained, NamesStatus}
use Rattle.scan_world.specs.Histories.{HasEvent, History, LedTo, Moment, and_then, history_up_to, of_jobs}
use Rattle.scan_world.specs.Laws.{Below}
use Rattle.scan_world.specs.Page.{CameFor, CameInTime, Settled}
use Rattle.scan_world.specs.Page.CameFor.{AtFirst, WithEvent}
use Rattle.scan_world.specs.Page.CameInTime.{FromFirst, AsItRan}
use Rattle.scan_world.specs.Promise.{OutcomeIsKept}
use Rattle.scan_world.specs.Sessions.{Asked, AtJob, Has, IsAtStart}
use Rattle.scan_world.specs.Trays.{OwnTray}
use Rattle.scan_world.proofs.Calls.{outcome_call, ran_out}
use Rattle.scan_world.proofs.Ended.{loss_kept}
use Rattle.scan_world.proofs.Joint.{in_jobs, of_jobs_then}
use Rattle.scan_world.proofs.Led.{led_then, runs_jointly, steps_run}
use Rattle.scan_world.proofs.Lists.{In, all_front, contains_in, in_either, in_front, in_list, in_split}
use Rattle.scan_world.proofs.NextMoves.{LoadsNothing, quiet_loads, quiet_moves}
use Rattle.scan_world.proofs.Refused.{cancel_next}
use Rattle.scan_world.proofs.Quiet.{no_acts_front, no_acts_then, none_shared}
use Rattle.scan_world.proofs.There.{endpoint_there, outcome_there}
use Rattle.scan_world.proofs.moments.Beside.{Pair, not_both}
use Rattle.scan_world.proofs.moments.Entries.{unsome}
use Rattle.scan_world.proofs.Unhindered.{IsOf, has_own, is_of, listed_here, some_page}
use Rattle.scan_world.proofs.TrayPages.{trays_are_taken}

-- ---- events

quiet_in : (ms : List Event) (e : Event) → AllByRecursion LoadsNothing ms → In e ms → LoadsNothing e
quiet_in [] e all among = absurd among
quiet_in (m ∷ ms) e all (inl same) = subst LoadsNothing (sym same) all.0
quiet_in (m ∷ ms) e all (inr among) = quiet_in ms e all.1 among

joined : (xs ys zs : List JointEvent) → xs ++ (ys ++ zs) ≡ (xs ++ ys) ++ zs
joined [] ys zs = refl
joined (x ∷ xs) ys zs = ap (λ (l : List JointEvent). x ∷ l) (joined xs ys zs)

-- the parts of moves are moves
jobs_split : (ms : List Event) (front back : List JointEvent) (e : Event) → of_jobs ms ≡ front ++ OfJobs e ∷ back → (more : List Event) × (after : List Event) × (ms ≡ more ++ e ∷ after) × (back ≡ of_jobs after)
jobs_split [] [] back e s = absurd (let clash : [] ≡ OfJobs e ∷ back = s in cc)
jobs_split [] (y ∷ front) back e s = absurd (let clash : [] ≡ y ∷ (front ++ OfJobs e ∷ back) = s in cc)
jobs_split (m ∷ ms) [] back e s =
    let both : OfJobs m ∷ of_jobs ms ≡ OfJobs e ∷ back = s in
    let first : m ≡ e = cc in
    let rest : of_jobs ms ≡ back = cc in
    ([], ms, ap (λ (x : Event). x ∷ ms) first, sym rest)
jobs_split (m ∷ ms) (y ∷ front) back e s =
    let both : OfJobs m ∷ of_jobs ms ≡ y ∷ (front ++ OfJobs e ∷ back) = s in
    let rest : of_jobs ms ≡ front ++ OfJobs e ∷ back = cc in
    let r = jobs_split ms front back e rest in
    (m ∷ r.0, r.1, ap (λ (xs : List Event). m ∷ xs) r.2, r.3)

-- an event of a history and moves is one of the first, or stands in the second
split_at : (es : List JointEvent) (ms : List Event) (front back : List JointEvent) (e : Event) → es ++ of_jobs ms ≡ front ++ OfJobs e ∷ back → In (OfJobs e) es ⊎ ((more : List Event) × (after : List Event) × (ms ≡ more ++ e ∷ after))
split_at [] ms front back e s = let r = jobs_split ms front back e s in inr (r.0, r.1, r.2)
split_at (x ∷ es) ms [] back e s = inl (inl (let both : x ∷ (es ++ of_jobs ms) ≡ OfJobs e ∷ back = s in cc))
split_at (x ∷ es) ms (y ∷ front) back e s =
    let both : x ∷ (es ++ of_jobs ms) ≡ y ∷ (front ++ OfJobs e ∷ back) = s in
    let rest : es ++ of_jobs ms ≡ front ++ OfJobs e ∷ back = cc in
    elim (split_at es ms front back e rest) [
      | inl among ↦ inl (inr among)
      | inr behind ↦ inr behind
    ]

-- of the events of a moment each is one in front of the moves, or is none that lays a page in or takes a device out
abbrev AreOld : History → List JointEvent → Type 0
AreOld h es = (e : Event) → In (OfJobs e) es → LoadsNothing e ⊎ In (OfJobs e) h.events

of_either : (h : History) (ms : List Event) (x : Event) → AllByRecursion LoadsNothing ms → In (OfJobs x) h.events ⊎ In (OfJobs x) (of_jobs ms) → LoadsNothing x ⊎ In (OfJobs x) h.events
of_either h ms x quiet (inl here) = inr here
of_either h ms x quiet (inr there) = inl (quiet_in ms x quiet (in_jobs ms x there))

old_events : (h : History) (ms : List Event) (front back : List JointEvent) (e : Event) → AllByRecursion LoadsNothing ms → h.events ++ of_jobs ms ≡ front ++ OfJobs e ∷ back → AreOld h front
old_events h ms front back e quiet split x among =
    of_either h ms x quiet (in_either h.events (of_jobs ms) (OfJobs x) (subst (λ (es : List JointEvent). In (OfJobs x) es) (sym split) (in_front front (OfJobs e ∷ back) (OfJobs x) among)))

all_old : (h : History) (ms : List Event) → AllByRecursion LoadsNothing ms → AreOld h (h.events ++ of_jobs ms)
all_old h ms quiet e among = of_either h ms e quiet (in_either h.events (of_jobs ms) (OfJobs e) among)

-- ---- what histories of one world have

settled_back : (h : History) (es : List JointEvent) (job : Job) → Settled (history_up_to h es) job → Settled h job
settled_back h es job s = record { device = s.device; is_there = s.is_there; named = s.named; setup = s.setup; placed = s.placed; in_force = s.in_force }

settled_more : (h : History) (es : List JointEvent) (job : Job) → Settled h job → Settled (history_up_to h es) job
settled_more h es job s = record { device = s.device; is_there = s.is_there; named = s.named; setup = s.setup; placed = s.placed; in_force = s.in_force }

-- a page that came as a job ran came
pub came_ever : (h : History) (w : WorldCore) (i : ℕ) (name : List ℕ) (held : HeldPage) → CameInTime h w i name held → CameFor h name held
came_ever h w i name held (FromFirst device there named among) = AtFirst device there named among
came_ever h w i name held (AsItRan source happened is) = WithEvent source (in_split h.events happened.0.front happened.0.back (OfJobs (Load name source)) happened.0.split) is

came_back : (h : History) (es : List JointEvent) → AreOld h es → (name : List ℕ) (held : HeldPage) → CameFor (history_up_to h es) name held → CameFor h name held
came_back h es old name held (AtFirst device there named among) = AtFirst device there named among
came_back h es old name held (WithEvent source among is) = by_case (old (Load name source) (in_list es (OfJobs (Load name source)) among))
  where
    by_case : LoadsNothing (Load name source) ⊎ In (OfJobs (Load name source)) h.events → CameFor h name held
    by_case (inl nothing) = absurd nothing
    by_case (inr here) = WithEvent source (contains_in h.events (OfJobs (Load name source)) here) is

-- ---- what stands in front of an event

unlisted_not : {Q : ℕ → Type 0} → Below → (h : History) (es : List JointEvent) (v : WorldCore) (i : ℕ) (job : Job) → LedTo (history_up_to h es) v → AreOld h es → IsClear h i job Q → In (OfJobs (Unplug job.device)) es → ⊥
unlisted_not below h es v i job led old clear among = elim (old (Unplug job.device) among) [
  | inl nothing ↦ nothing
  | inr here ↦ clear.left (Unplug job.device) (contains_in h.events (OfJobs (Unplug job.device)) here) refl
]

clear_of : {Q : ℕ → Type 0} → (below : Below) (h : History) (es : List JointEvent) (v : WorldCore) (i : ℕ) (job : Job) (led : LedTo (history_up_to h es) v) (clear : IsClear h i job Q) (d : DeviceState) → Has v i job.device d → IsOf (history_up_to h es) clear.device d
clear_of below h es v i job led clear d has = is_of below (history_up_to h es) v job led clear.device clear.is_there i d (subst (λ (n : List ℕ). Has v i n d) (sym clear.named) has)

-- a feeder in the way of which nothing stands is its job's own
own_tray : {Q : ℕ → Type 0} → (h : History) (ms : List Event) (i : ℕ) (job : Job) → AllByRecursion LoadsNothing ms → (clear : IsClear h i job Q) → feeds clear.device ≡ true → IsSupplied h i job clear.device Q → OwnTray (and_then h ms) i job
own_tray h ms i job quiet clear feeder supplied = record {
  device = clear.device;
  is_there = clear.is_there;
  named = clear.named;
  feeder = feeder;
  alone = λ j other at named. supplied.only j (clear.alone j other at named);
  unladen = λ source among. elim (all_old h ms quiet (Load job.device source) (in_list (h.events ++ of_jobs ms) (OfJobs (Load job.device source)) among)) [
    | inl nothing ↦ nothing
    | inr here ↦ supplied.unladen source (contains_in h.events (OfJobs (Load job.device source)) here)
  ];
  undisturbed = no_acts_then h ms clear.undisturbed;
}

paged : {Q : ℕ → Type 0} → Below → (h : History) (ms : List Event) (v : WorldCore) (i : ℕ) (job : Job) → AllByRecursion LoadsNothing ms → IsJobAt (and_then h ms) v i job → (clear : IsClear h i job Q) → scans job.task ≡ true → (asked : Asked (and_then h ms) v i IsAtStart) → AtJob asked.at.before i (λ p. p.finished ≡ 0) → (d : DeviceState) → Has asked.at.before i job.device d → is_at_rest d.phase ≡ true → d.pages ≡ [] → (b : Bool) → feeds clear.device ≡ b → ⊥
unfolding own_tray
paged below h ms v i job quiet at clear scanning asked finished d has rests none false plain =
    some_page (history_up_to h asked.at.front) clear.device d (clear_of below h asked.at.front asked.at.before i job asked.at.led_before clear d has) plain none
paged below h ms v i job quiet at clear scanning asked finished d has rests none true feeder =
    let supplied = clear.supplied scanning feeder in
    let left = (trays_are_taken below (and_then h ms) v i 0 job at (own_tray h ms i job quiet clear feeder supplied) asked finished d has rests).0 in
    supplied.some (sym left ∙ ap (λ (pages : List HeldPage). map (λ (held : HeldPage). held.page) pages) none)

-- ---- what the daemon answers

-- that the device is busy, since another of these jobs has it
abbrev Held : (ℕ → Type 0) → ℕ → Status → Type 0
Held Q i status = (status ≡ statuses.DeviceBusy) × ((j : ℕ) × (j ≢ i) × Q j)

answered : {Q : ℕ → Type 0} → Below → (h : History) (ms : List Event) (v : WorldCore) (i : ℕ) (job : Job) → AllByRecursion LoadsNothing ms → IsJobAt (and_then h ms) v i job → IsClear h i job Q → (status : Status) → AnswerIsExplained (and_then h ms) v i job status → Held Q i status
unfolding settled_back
answered below h ms v i job quiet at clear statuses.Good x = absurd x
answered below h ms v i job quiet at clear statuses.Unsupported x = absurd x
answered below h ms v i job quiet at clear statuses.Cancelled x = absurd x
answered below h ms v i job quiet at clear statuses.DeviceBusy (asked, inl (j, d, other, has)) =
    let own = has_own below (history_up_to h asked.at.front) asked.at.before job asked.at.led_before j job.device d has in
    (refl, (j, other, clear.alone j own.0 own.1 own.2))
answered below h ms v i job quiet at clear statuses.DeviceBusy (asked, inr shared) =
    let front = no_acts_front (and_then h ms) asked.at.front (OfJobs (ToDaemon i asked.n) ∷ asked.at.back) asked.at.split (no_acts_then h ms clear.undisturbed) in
    absurd (none_shared below (history_up_to h asked.at.front) asked.at.before job front asked.at.led_before job.device shared)
answered below h ms v i job quiet at clear statuses.Inval (inl (unforced, opened)) = absurd (clear.forced (unforced.0, λ s. unforced.1 (settled_more h (h.events ++ of_jobs ms) job s)))
answered below h ms v i job quiet at clear statuses.Inval (inr (inr (asked, none))) =
    let old = old_events h ms asked.at.front asked.at.back _ quiet asked.at.split in
    absurd (listed_here below (history_up_to h asked.at.front) asked.at.before job asked.at.led_before clear.device clear.is_there clear.named
    (λ among. unlisted_not below h asked.at.front asked.at.before i job asked.at.led_before old clear among) none)
answered below h ms v i job quiet at clear statuses.Inval (inr (inl none)) =
    absurd (clear.meant none.scanning (settled_back h (h.events ++ of_jobs ms) job none.settled) none.held (came_back h (h.events ++ of_jobs ms) (all_old h ms quiet) job.device none.held (came_ever (and_then h ms) v i job.device none.held none.came)) none.none)
answered below h ms v i job quiet at clear statuses.Eof x = absurd x
answered below h ms v i job quiet at clear statuses.Jammed x = absurd x
answered below h ms v i job quiet at clear statuses.NoDocs (scanning, asked, finished, (d, has, rests, none)) = absurd (paged below h ms v i job quiet at clear scanning asked finished d has rests none (feeds clear.device) refl)
answered below h ms v i job quiet at clear statuses.CoverOpen x = absurd x
answered below h ms v i job quiet at clear statuses.IoError (scanning, (held, came, able), failed) =
    let firm = clear.firm scanning held (came_back h (h.events ++ of_jobs ms) (all_old h ms quiet) job.device held (came_ever (and_then h ms) v i job.device held came)) in
    absurd (let clash : true ≡ false = sym firm ∙ able in cc)
answered below h ms v i job quiet at clear statuses.NoMem x = absurd x
answered below h ms v i job quiet at clear statuses.AccessDenied (asked, judged) = absurd (let clash : true ≡ false = sym (clear.allowed judged.guarded judged.challenge) ∙ judged.is in cc)

unnamed : {Q : ℕ → Type 0} → (h : History) (ms : List Event) (v : WorldCore) (i : ℕ) (job : Job) (status : Status) → IsClear h i job Q → NamesStatus (and_then h ms) v i job status → ⊥
unfolding settled_back
unnamed h ms v i job status clear (turn, scanning, (settled, told)) = let clash : None ≡ Some status = sym (clear.unnamed (settled_back h (h.events ++ of_jobs ms) job settled)) ∙ told in cc

-- ---- its next moves

-- a next move among these, with the worlds around it
record NextAt (more : List Event) (e : Event) (back : List Event) (w v : WorldCore) : Type 0 where
  between : WorldCore
  came : Runs source_state more w between
  j : ℕ
  next : IsMoveAt between j (Some e)
  behind : WorldCore
  leads : Leads source_state e between behind
  rest : Runs source_state back behind v

-- next moves lead on
moves_run : (es : List Event) (w v : WorldCore) → AreNextMoves es w v → Runs source_state es w v
moves_run es w v steps = steps_run (λ (e : Event) (u x : WorldCore). (i : ℕ) × IsMoveAt u i (Some e)) es w v steps

next_at : (more back : List Event) (e : Event) (w v : WorldCore) → AreNextMoves (more ++ e ∷ back) w v → NextAt more e back w v
next_at [] back e w v (u, leads, next, rest) = record { between = w; came = refl; j = next.0; next = next.1; behind = u; leads = leads; rest = moves_run back u v rest }
next_at (m ∷ more) back e w v (u, leads, next, rest) =
    let n = next_at more back e u v rest in
    record { between = n.between; came = (u, leads, n.came); j = n.j; next = n.next; behind = n.behind; leads = n.leads; rest = n.rest }

-- one of some stands in a place
split_in : (ms : List Event) (e : Event) → In e ms → (more : List Event) × (back : List Event) × (ms ≡ more ++ e ∷ back)
split_in [] e among = absurd among
split_in (m ∷ ms) e (inl same) = ([], ms, ap (λ (x : Event). x ∷ ms) (sym same))
split_in (m ∷ ms) e (inr among) = let r = split_in ms e among in (m ∷ r.0, r.1, ap (λ (xs : List Event). m ∷ xs) r.2)

-- the loss of a connection as a next move is that of its job
loses_is : (j i : ℕ) (x : JobEvent) → LoseControl i ≡ job_event_of j x → j ≡ i
loses_is j i moves.Connect e = absurd (let clash : LoseControl i ≡ events.Connect j = e in cc)
loses_is j i (moves.ToDaemon n) e = absurd (let clash : LoseControl i ≡ events.ToDaemon j n = e in cc)
loses_is j i (moves.ToClient n) e = absurd (let clash : LoseControl i ≡ events.ToClient j n = e in cc)
loses_is j i moves.DataConnect e = absurd (let clash : LoseControl i ≡ events.DataConnect j = e in cc)
loses_is j i moves.DataTurn e = absurd (let clash : LoseControl i ≡ events.DataTurn j = e in cc)
loses_is j i (moves.DataToClient n) e = absurd (let clash : LoseControl i ≡ events.DataToClient j n = e in cc)
loses_is j i moves.LoseControl e = let both : LoseControl i ≡ LoseControl j = e in sym cc
loses_is j i moves.LoseImage e = absurd (let clash : LoseControl i ≡ LoseImage j = e in cc)
loses_is j i moves.Cancel e = absurd (let clash : LoseControl i ≡ Cancel j = e in cc)

lost_by : (j i : ℕ) (o : Option JobEvent) → Some (LoseControl i) ≡ option_map (job_event_of j) o → j ≡ i
lost_by j i None e = absurd (let clash : Some (LoseControl i) ≡ None = e in cc)
lost_by j i (Some x) e = loses_is j i x (let both : Some (LoseControl i) ≡ Some (job_event_of j x) = e in cc)

lost_own : (d : Core) (j i : ℕ) (o : Option Endpoint) → MovesNext d j o (Some (LoseControl i)) → j ≡ i
lost_own d j i None next = absurd (let clash : Some (LoseControl i) ≡ None = next in cc)
lost_own d j i (Some p) next = lost_by j i next.job_event next.event_is

-- no next move is the loss of a data connection
abbrev AreNoLosses : List JobEvent → Type 0
AreNoLosses [] = Unit {0}
AreNoLosses (m ∷ ms) = (moves.LoseImage ≡ m → ⊥) × AreNoLosses ms

no_image : (d : Core) (p : Endpoint) (ms : List JobEvent) → AreNoLosses ms → IsFirstMove d p ms moves.LoseImage → ⊥
no_image d p [] none (is, over, can) = let clash : moves.LoseImage ≡ moves.LoseControl = is in cc
no_image d p (m ∷ ms) none (inl (can, is)) = none.0 is
no_image d p (m ∷ ms) none (inr (never, more)) = no_image d p ms none.1 more

no_losses : AreNoLosses in_order
no_losses = (
  λ is. (let clash : moves.LoseImage ≡ moves.Connect = is in cc),
  (
    λ is. (let clash : moves.LoseImage ≡ moves.ToDaemon 4096 = is in cc),
    (
      λ is. (let clash : moves.LoseImage ≡ moves.ToClient 4096 = is in cc),
      (
        λ is. (let clash : moves.LoseImage ≡ moves.DataConnect = is in cc),
        (λ is. (let clash : moves.LoseImage ≡ moves.DataToClient 4096 = is in cc), (λ is. (let clash : moves.LoseImage ≡ moves.DataTurn = is in cc), tt)),
      ),
    ),
  ),
)

image_is : (j i : ℕ) (x : JobEvent) → LoseImage i ≡ job_event_of j x → x ≡ moves.LoseImage
image_is j i moves.Connect e = absurd (let clash : LoseImage i ≡ events.Connect j = e in cc)
image_is j i (moves.ToDaemon n) e = absurd (let clash : LoseImage i ≡ events.ToDaemon j n = e in cc)
image_is j i (moves.ToClient n) e = absurd (let clash : LoseImage i ≡ events.ToClient j n = e in cc)
image_is j i moves.DataConnect e = absurd (let clash : LoseImage i ≡ events.DataConnect j = e in cc)
image_is j i moves.DataTurn e = absurd (let clash : LoseImage i ≡ events.DataTurn j = e in cc)
image_is j i (moves.DataToClient n) e = absurd (let clash : LoseImage i ≡ events.DataToClient j n = e in cc)
image_is j i moves.LoseControl e = absurd (let clash : LoseImage i ≡ LoseControl j = e in cc)
image_is j i moves.LoseImage e = refl
image_is j i moves.Cancel e = absurd (let clash : LoseImage i ≡ Cancel j = e in cc)

image_next : (d : Core) (j i : ℕ) (p : Endpoint) (o : Option JobEvent) (b : Bool) → is_running p.client.outcome ≡ b → Some (LoseImage i) ≡ option_map (job_event_of j) o → (is_running p.client.outcome ≡ true → IsNext d p in_order o) → (is_running p.client.outcome ≡ false → o ≡ None) → ⊥
image_next d j i p None b at is runs over = let clash : Some (LoseImage i) ≡ None = is in cc
image_next d j i p (Some x) true at is runs over =
    let same : LoseImage i ≡ job_event_of j x = (let both : Some (LoseImage i) ≡ Some (job_event_of j x) = is in cc) in
    no_image d p in_order no_losses (subst (IsFirstMove d p in_order) (image_is j i x same) (runs at))
image_next d j i p (Some x) false at is runs over = let clash : Some x ≡ None = over at in cc

not_image : (d : Core) (j i : ℕ) (o : Option Endpoint) → MovesNext d j o (Some (LoseImage i)) → ⊥
not_image d j i None next = let clash : Some (LoseImage i) ≡ None = next in cc
not_image d j i (Some p) next = image_next d j i p next.job_event (is_running p.client.outcome) refl next.event_is next.runs next.over

-- ---- a loss among them

starved_there : (w : WorldCore) (i : ℕ) (p : Endpoint) → slice_get w.endpoints i ≡ Some p → p.out_of_memory ≡ true → starved_at w i ≡ true
starved_there w i p at out = ap is_starved at ∙ out

broke_off : Below → (h : History) (ms more back : List Event) (old new : WorldCore) (i : ℕ) (job : Job) → LedTo h old → slice_get h.jobs i ≡ Some job → AllByRecursion LoadsNothing more → ms ≡ more ++ LoseControl i ∷ back → NextAt more (LoseControl i) back old new → BrokeOff (and_then h ms) new i job
broke_off below h ms more back old new i job led job_at quiet split n =
    let before : LedTo (and_then h more) n.between = led_then h more old n.between led (quiet_loads more quiet) n.came in
    let p = endpoint_there below (and_then h more) n.between i job (record { led = before; job_at = job_at }) in
    let own : n.j ≡ i = lost_own n.between.daemon n.j i (slice_get n.between.endpoints n.j) n.next in
    let next : IsNextMove n.between.daemon i p.0 (Some (LoseControl i)) =
    subst (λ (o : Option Endpoint). MovesNext n.between.daemon i o (Some (LoseControl i))) p.1.endpoint_at (subst (λ (k : ℕ). IsMoveAt n.between k (Some (LoseControl i))) own n.next) in
    let at : Moment (and_then h ms) new (LoseControl i) = record {
      front = h.events ++ of_jobs more;
      back = of_jobs back;
      split = ap (λ (es : List Event). h.events ++ of_jobs es) split ∙ (ap (λ (es : List JointEvent). h.events ++ es) (of_jobs_then more (LoseControl i ∷ back)) ∙ joined h.events (of_jobs more) (OfJobs (LoseControl i) ∷ of_jobs back));
      before = n.between;
      led_before = before;
      behind = n.behind;
      leads = (n.behind, n.leads, refl);
      rest = runs_jointly back n.behind new n.rest;
    } in (
      at,
      elim (loss_kept below (and_then h more) n.between i job p.0 p.1 next) [
        | inl out ↦ inl (starved_there n.between i p.0 p.1.endpoint_at out)
        | inr unsaid ↦ inr unsaid
      ],
    )

-- ---- the endings of a clear job

-- what is so in front of the moves, and of them
record Way (h : History) (ms : List Event) (old new : WorldCore) (i : ℕ) (job : Job) (Q : ℕ → Type 0) : Type 0 where
  below : Below
  led : LedTo h old
  job_at : slice_get h.jobs i ≡ Some job
  clear : IsClear h i job Q
  next : AreNextMoves ms old new
  quiet : AllByRecursion LoadsNothing ms

quiet_front : (ms more back : List Event) → ms ≡ more ++ back → AllByRecursion LoadsNothing ms → AllByRecursion LoadsNothing more
quiet_front ms more back split quiet = all_front LoadsNothing more back (subst (AllByRecursion LoadsNothing) split quiet)

next_in : (h : History) (ms more back : List Event) (e : Event) (old new : WorldCore) → ms ≡ more ++ e ∷ back → AreNextMoves ms old new → NextAt more e back old new
next_in h ms more back e old new split next = next_at more back e old new (subst (λ (es : List Event). AreNextMoves es old new) split next)

lost : {Q : ℕ → Type 0} → (h : History) (ms : List Event) (old new : WorldCore) (i : ℕ) (job : Job) → Way h ms old new i job Q → Moment (and_then h ms) new (LoseControl i) → BrokeOff (and_then h ms) new i job
lost h ms old new i job way at = elim (split_at h.events ms at.front at.back (LoseControl i) at.split) [
  | inl here ↦ absurd (way.clear.left (LoseControl i) (contains_in h.events (OfJobs (LoseControl i)) here) refl)
  | inr there ↦ broke_off way.below h ms there.0 there.1 old new i job way.led way.job_at (quiet_front ms there.0 (LoseControl i ∷ there.1) there.2 way.quiet) there.2 (next_in h ms there.0 there.1 (LoseControl i) old new there.2 way.next)
]

no_image_lost : {Q : ℕ → Type 0} → (h : History) (ms : List Event) (old new : WorldCore) (i : ℕ) (job : Job) → Way h ms old new i job Q → Moment (and_then h ms) new (LoseImage i) → ⊥
no_image_lost h ms old new i job way at = elim (split_at h.events ms at.front at.back (LoseImage i) at.split) [
  | inl here ↦ way.clear.left (LoseImage i) (contains_in h.events (OfJobs (LoseImage i)) here) refl
  | inr there ↦ (let n = next_in h ms there.0 there.1 (LoseImage i) old new there.2 way.next in not_image n.between.daemon n.j i (slice_get n.between.endpoints n.j) n.next)
]

not_cancelled : {Q : ℕ → Type 0} → (h : History) (ms : List Event) (old new : WorldCore) (i : ℕ) (job : Job) → Way h ms old new i job Q → HasEvent (and_then h ms) (Cancel i) → ⊥
not_cancelled h ms old new i job way among = elim (in_either h.events (of_jobs ms) (OfJobs (Cancel i)) (in_list (h.events ++ of_jobs ms) (OfJobs (Cancel i)) among)) [
  | inl here ↦ way.clear.left (Cancel i) (contains_in h.events (OfJobs (Cancel i)) here) refl
  | inr there ↦ (let s = split_in ms (Cancel i) (in_jobs ms (Cancel i) there) in let n = next_in h ms s.0 s.1 (Cancel i) old new s.2 way.next in cancel_next n.between.daemon n.j i (slice_get n.between.endpoints n.j) n.next)
]

job_then : {Q : ℕ → Type 0} → (h : History) (ms : List Event) (old new : WorldCore) (i : ℕ) (job : Job) → Way h ms old new i job Q → IsJobAt (and_then h ms) new i job
job_then h ms old new i job way = record { led = led_then h ms old new way.led (quiet_loads ms way.quiet) (moves_run ms old new way.next); job_at = way.job_at }

ended : {Q : ℕ → Type 0} → (h : History) (ms : List Event) (old new : WorldCore) (i : ℕ) (job : Job) → Way h ms old new i job Q → (status : Status) (why : Why) → IsEndingExplained (and_then h ms) new i job (starved_at new i) status why → ComesTo (and_then h ms) new i job (Ended status why) ⊎ ((why ≡ whys.Answer) × Held Q i status)
ended h ms old new i job way status whys.Answer (inl (other, named)) = absurd (unnamed h ms new i job status way.clear named)
ended h ms old new i job way status whys.Answer (inr x) = inr (refl, answered way.below h ms new i job way.quiet (job_then h ms old new i job way) way.clear status x)
ended h ms old new i job way status whys.Cancelled (same, among) = absurd (not_cancelled h ms old new i job way among)
ended h ms old new i job way status whys.Lost (same, inl (inl happened)) = inl (inr (inr (lost h ms old new i job way happened.0)))
ended h ms old new i job way status whys.Lost (same, inl (inr happened)) = absurd (no_image_lost h ms old new i job way happened.0)
ended h ms old new i job way status whys.Lost (same, inr starved) = inl (inr (inl (inl starved)))
ended h ms old new i job way status whys.Malformed x = absurd x
ended h ms old new i job way status whys.Short (same, named) = absurd (unnamed h ms new i job statuses.Eof way.clear named)
ended h ms old new i job way status whys.Long x = absurd x
ended h ms old new i job way status whys.Setting (same, unforced, opened) = absurd (way.clear.forced (unforced.0, λ s. unforced.1 (settled_more h (h.events ++ of_jobs ms) job s)))
ended h ms old new i job way status whys.Plain x = absurd x
ended h ms old new i job way status whys.Memory (same, starved) = inl (inr (inl (inr (ap (λ (s : Status). Ended s whys.Memory) same))))
ended h ms old new i job way status whys.Sink x = absurd x

-- it was answered that the device is busy, since another of these jobs has it
abbrev BusyBy : (ℕ → Type 0) → ℕ → Outcome → Type 0
BusyBy Q i outcome = (outcome ≡ Ended statuses.DeviceBusy whys.Answer) × ((j : ℕ) × (j ≢ i) × Q j)

busy_or : {A : Type 0} {Q : ℕ → Type 0} {i : ℕ} {status : Status} {why : Why} → A ⊎ ((why ≡ whys.Answer) × Held Q i status) → A ⊎ BusyBy Q i (Ended status why)
busy_or (inl a) = inl a
busy_or {why = why} (inr (answer, (busy, by))) = inr (ap (λ (s : Status). Ended s why) busy ∙ ap (λ (y : Why). Ended statuses.DeviceBusy y) answer, by)

-- which none is, where no other job names it
only_clear : {A : Type 0} {i : ℕ} {outcome : Outcome} → A ⊎ BusyBy (λ (j : ℕ). j ≡ i) i outcome → A
only_clear (inl a) = a
only_clear (inr (busy, (j, other, same))) = absurd (other same)

comes : {Q : ℕ → Type 0} → (h : History) (ms : List Event) (old new : WorldCore) (i : ℕ) (job : Job) → Way h ms old new i job Q → (outcome : Outcome) → (outcome ≡ Running → ⊥) → OutcomeIsKept (and_then h ms) new i job (starved_at new i) outcome → ComesTo (and_then h ms) new i job outcome ⊎ BusyBy Q i outcome
comes h ms old new i job way Running runs kept = absurd (runs refl)
comes h ms old new i job way (Done reports) runs kept = inl (inl (reports, refl))
comes h ms old new i job way (Ended status why) runs kept = busy_or (ended h ms old new i job way status why (kept.ended status why refl).2)

pub clears_up : Below → (w v : WorldCore) → RoundsRunOut source_state w v → ClearsUp w v
clears_up below w v rounds h led i job at clear =
    let out = ran_out below w v rounds h led in
    let o = outcome_call below v i (and_then h out.moves) job (record { led = out.led; job_at = at }) in
    let way : Way h out.moves w v i job (λ (j : ℕ). j ≡ i) = record { below = below; led = led; job_at = at; clear = clear; next = out.next; quiet = quiet_moves out.moves w v out.next } in
    record { out = out; outcome = o.0; is = o.1; comes = only_clear (comes h out.moves w v i job way o.0 (out.over i job o.0 at o.1) o.2) }

pub clears_by : Below → (events : List Event) (w v : WorldCore) → ClearsBy events w v
clears_by below events w v h led next i job at clear outcome is over =
    let quiet = quiet_moves events w v next in
    let on = led_then h events w v led (quiet_loads events quiet) (moves_run events w v next) in
    let o = outcome_call below v i (and_then h events) job (record { led = on; job_at = at }) in
    let way : Way h events w v i job (λ (j : ℕ). j ≡ i) = record { below = below; led = led; job_at = at; clear = clear; next = next; quiet = quiet } in
    let same : o.0 ≡ outcome = unsome o.0 outcome (sym o.1 ∙ is) in
    only_clear (comes h events w v i job way outcome over (subst (OutcomeIsKept (and_then h events) v i job (starved_at v i)) same o.2))

-- ---- of two on one device

told_busy : {A : Type 0} {Q : ℕ → Type 0} {i : ℕ} {outcome : Outcome} → A ⊎ BusyBy Q i outcome → A ⊎ (outcome ≡ Ended statuses.DeviceBusy whys.Answer)
told_busy (inl a) = inl a
told_busy (inr b) = inr b.0

pub shares_clear : Below → (w v : WorldCore) → RoundsRunOut source_state w v → SharesClear w v
unfolding settled_back
shares_clear below w v rounds h led i j a b apart at there named clear clear_too =
    let out = ran_out below w v rounds h led in
    let quiet = quiet_moves out.moves w v out.next in
    let p = endpoint_there below (and_then h out.moves) v i a (record { led = out.led; job_at = at }) in
    let q = endpoint_there below (and_then h out.moves) v j b (record { led = out.led; job_at = there }) in
    let o = outcome_call below v i (and_then h out.moves) a (record { led = out.led; job_at = at }) in
    let r = outcome_call below v j (and_then h out.moves) b (record { led = out.led; job_at = there }) in
    let way : Way h out.moves w v i a (IsEither i j) = record { below = below; led = led; job_at = at; clear = clear; next = out.next; quiet = quiet } in
    let way_too : Way h out.moves w v j b (IsEither i j) = record { below = below; led = led; job_at = there; clear = clear_too; next = out.next; quiet = quiet } in
    let pair : Pair (and_then h out.moves) a i j a b = record {
      a_at = at;
      b_at = there;
      a_named = refl;
      b_named = named;
      apart = apart;
      only = clear.alone;
      a_nothing = λ s. clear.unnamed (settled_back h (h.events ++ of_jobs out.moves) a s);
      b_nothing = λ s. clear_too.unnamed (settled_back h (h.events ++ of_jobs out.moves) b s);
      undisturbed = no_acts_then h out.moves clear.undisturbed;
    } in
    record {
      out = out;
      first = o.0;
      first_is = o.1;
      second = r.0;
      second_is = r.1;
      comes = told_busy (comes h out.moves w v i a way o.0 (out.over i a o.0 at o.1) o.2);
      comes_too = told_busy (comes h out.moves w v j b way_too r.0 (out.over j b r.0 there r.1) r.2);
      one = λ busy too. not_both below (and_then h out.moves) v i j a b p.0 q.0 out.led pair p.1.endpoint_at q.1.endpoint_at (outcome_there v.endpoints i p.0 o.0 p.1.endpoint_at o.1 ∙ busy) (outcome_there v.endpoints j q.0 r.0 q.1.endpoint_at r.1 ∙ too);
    }
