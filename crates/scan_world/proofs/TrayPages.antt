-- As its job asks for a start, a feeder of its own has the pages of its first tray that the job has not finished.
use Rattle.std.specs.Prelude.{◌<◌, ◌≤◌, ◌-◌, Contains, IfSome, drop, length, map, min, option_and_then, option_map, slice_get, slice_set}
use Rattle.std.proofs.Common.{◌≡◌, ◌∙◌, ◌⊎◌, ℕ, zero, suc, List, [], ◌∷◌, ◌++◌, true, false, Option, Some, None, inl, inr, refl, sym, ap, subst, arith}
use Rattle.std.proofs.Math.Nat.{min-eq_left, min-eq_right, min-le_left}
use Rattle.std.proofs.Math.Seq.{drop-append_seam}
use Rattle.page_picture.specs.Page.{PageView}
use Rattle.page_sources.specs.SourceView.{source_state}
use Rattle.device_api.specs.State.{DeviceState, HeldPage, Phase as AnyPhase, feeds, first_page, is_at_rest}
use Rattle.device_api.specs.State.Phase.{AtRest as Rest, Between as Amid, Reading as Read}
use Rattle.saned_core.specs.DaemonStates.{Core}
use Rattle.client_replies.specs.declared.progress.Progress.{Progress}
use Rattle.client_replies.specs.declared.progress.Progress.TheVariants as stages
use Rattle.scan_job.specs.declared.job.Job.{Job}
use Rattle.scan_job.specs.declared.outcome.Outcome.TheVariants.{Done, Running}
use Rattle.daemon_refines.specs.ContextRefinement.{abstract_device, page_views, pages_to_come}
use Rattle.daemon_refines.proofs.Scanning.{rests}
use Rattle.system_model.specs.AbstractDevices.{AbstractDevice, Begin, Between, Reading, Resting, ScanPhase, is_resting}
use Rattle.system_model.specs.AbstractMessages.{AbstractRequest, Start}
use Rattle.system_model.specs.SystemStates.{SystemState, device_for, make_for, wanted_place}
use Rattle.system_model.specs.Transitions.{IsUnderWay}
use Rattle.event_world.specs.declared.endpoint.Endpoint.{Endpoint}
use Rattle.event_world.specs.declared.event.Event.{Event}
use Rattle.event_world.specs.declared.event.Event.TheVariants.{Load, ToDaemon}
use Rattle.event_world.specs.Endpoints.{finished_page}
use Rattle.event_world.specs.Worlds.{Runs, WorldCore}
use Rattle.world_refines.specs.GhostStates.{place_named}
use Rattle.world_refines.specs.WorldPromises.{IsOutcome}
use Rattle.world_refines.proofs.requests.Waiting.{AwaitsAnswer, waits_there as waits_so}
use Rattle.strangers.specs.Together.{JointEvent}
use Rattle.strangers.specs.Together.JointEvent.{OfJobs}
use Rattle.scan_world.specs.Calls.{ForEach, IsJobAt, finished_at, finished_by, page_answered}
use Rattle.scan_world.specs.Endings.{HadNoPage}
use Rattle.scan_world.specs.Histories.{History, history_up_to}
use Rattle.scan_world.specs.Laws.{Below}
use Rattle.scan_world.specs.Page.{IsScan, IsSteady}
use Rattle.scan_world.specs.Sessions.{AtJob, Has, IsAtStart}
use Rattle.scan_world.specs.Trays.{BatchIsCounted, IsOfTray, OwnTray, TraysAreTaken, first_tray, pages_in}
use Rattle.scan_world.proofs.AllKept.{count_kept, page_kept}
use Rattle.scan_world.proofs.Begun.{wants_all}
use Rattle.scan_world.proofs.Jobs.{IsJob}
use Rattle.scan_world.proofs.Lists.{In, contains_in, in_front, in_list}
use Rattle.scan_world.proofs.OwnTrays.{begun_pages, takes_there}
use Rattle.scan_world.proofs.Quiet.{no_acts_front}
use Rattle.scan_world.proofs.Scanned.{at_first, infos_of, kept_by, wants_there}
use Rattle.scan_world.proofs.Sources.{sources_of}
use Rattle.scan_world.proofs.There.{endpoint_there, outcome_there}
use Rattle.scan_world.proofs.Unhindered.{is_of, some_page}
use Rattle.scan_world.proofs.moments.Entries.{unsome}
use Rattle.scan_world.proofs.moments.Filed.{finished_low}
use Rattle.scan_world.proofs.moments.Finished.{count_at, mapped_length}
use Rattle.scan_world.proofs.moments.Stands.{has_holds}
use Rattle.scan_world.proofs.moments.Started.{app_length, enough}
use Rattle.scan_world.proofs.moments.Tray.{starts_ready}
use Rattle.scan_world.proofs.moments.Whole.{all_sent}

-- ---- where nothing is to be delivered nothing is

same_entries : {X : Type 0} (xs : List X) (i : ℕ) (x : X) → slice_get xs i ≡ Some x → slice_set xs i x ≡ xs
same_entries [] i x e = refl
same_entries {X = X} (z ∷ xs) zero x e = ap (λ (y : X). y ∷ xs) (sym (unsome z x e))
same_entries {X = X} (z ∷ xs) (suc i) x e = ap (λ (ys : List X). z ∷ ys) (same_entries xs i x e)

same_world : (w v : WorldCore) → v.daemon ≡ w.daemon → v.endpoints ≡ w.endpoints → v ≡ w
same_world w v d e = ap (λ (y : Core). record { daemon = y; endpoints = v.endpoints }) d ∙ ap (λ (es : List Endpoint). record { daemon = w.daemon; endpoints = es }) e

nothing_fed : (w v : WorldCore) (i n : ℕ) (p : Endpoint) → slice_get w.endpoints i ≡ Some p → p.client.out ≡ [] → Runs source_state (ToDaemon i n ∷ []) w v → v ≡ w
nothing_fed w v i n p at none (x, leads, rest) =
    let a = leads.happens p at in
    let same = a.1.cannot (λ can. can.1 none) in
    rest ∙ same_world w x same.0 (a.2 ∙ (ap (slice_set w.endpoints i) same.1 ∙ same_entries w.endpoints i p at))

-- ---- as it asks for a start

asks_start : (progress : Progress) (q : AbstractRequest) → IsAtStart progress → AwaitsAnswer q progress → q ≡ Start
asks_start (stages.Starting first) Start is waits = refl
asks_start (stages.Starting first) q is waits = absurd waits
asks_start progress q is waits = absurd is

rests_so : (phase : ScanPhase) → is_resting phase ≡ true → phase ≡ Resting
rests_so Resting is = refl
rests_so (Between last more) is = absurd (let clash : false ≡ true = is in cc)
rests_so (Reading frame rest more) is = absurd (let clash : false ≡ true = is in cc)

pages_at_rest : (d : DeviceState) (phase : AnyPhase) → is_at_rest phase ≡ true → page_views (pages_to_come phase d) ≡ pages_in d
pages_at_rest d (Rest c) is = refl
pages_at_rest d (Amid ended) is = absurd (let clash : false ≡ true = is in cc)
pages_at_rest d (Read pass given) is = absurd (let clash : false ≡ true = is in cc)

-- so many pages are left of the first ones
abbrev AreLeft : ℕ → List PageView → DeviceState → Type 0
AreLeft n first d = (pages_in d ≡ drop n first) × (n ≤ length first)

left_of : (xs : List PageView) (n : ℕ) (first : List PageView) (d : DeviceState) → xs ++ pages_in d ≡ first → length xs ≡ n → AreLeft n first d
left_of xs n first d whole long = (
  sym (ap (λ (m : ℕ). drop m first) (sym long) ∙ (ap (drop (length xs)) (sym whole) ∙ drop-append_seam xs (pages_in d))),
  subst (λ (m : ℕ). m ≤ length first) long (subst (λ (ys : List PageView). length xs ≤ length ys) whole (app_length xs (pages_in d))),
)

wants_then : (below : Below) (h : History) (w : WorldCore) (i : ℕ) (job : Job) (at : IsJobAt h w i job) → wanted_place (kept_by below.kept h w job at.led).run.ghost_then.system i ≡ place_named (infos_of h) job.device
wants_then below h w i job at =
    let k = kept_by below.kept h w job at.led in
    let t = at_first h w job at.led in
    ap (λ (s : SystemState). wanted_place s i) k.run.rules_are ∙ (wants_all k.run.steps t.system i ∙ wants_there h w job at.led (sources_of h) i at.job_at)

-- its request is on the way
record Asks (w : WorldCore) (i : ℕ) (job : Job) (p : Endpoint) (d : DeviceState) : Type 0 where
  there : slice_get w.endpoints i ≡ Some p
  runs : p.client.outcome ≡ Running
  waits : IsAtStart p.client.progress
  some : p.client.out ≡ [] → ⊥
  has : Has w i job.device d
  rest_is : is_at_rest d.phase ≡ true

by_todo : (below : Below) (h : History) (w : WorldCore) (i : ℕ) (job : Job) (at : IsJobAt h w i job) (tray : OwnTray h i job) (p : Endpoint) (d : DeviceState) → Asks w i job p d → (qs : List AbstractRequest) → ((kept_by below.kept h w job at.led).run.ghost_then.system.job i).todo ≡ qs → AreLeft p.finished (first_tray tray.device) d
by_todo below h w i job at tray p d a [] todo =
    let u = (kept_by below.kept h w job at.led).run.ghost_then in
    let stands = (kept_by below.kept h w job at.led).run.stands in
    let sent = all_sent u w i stands todo a.has.session a.has.at in
    absurd (a.some (subst (λ (x : Endpoint). x.client.out ≡ []) (unsome a.has.at.endpoint p (sym a.has.at.is_there ∙ a.there)) sent))
by_todo below h w i job at tray p d a (q ∷ rest) todo =
    let k = kept_by below.kept h w job at.led in
    let u = k.run.ghost_then in
    let me = u.system.job i in
    let on : IsUnderWay me.client.stage = subst (IsOutcome u i) a.runs (k.promises.outcomes i p a.there) in
    let s = waits_so u w i q rest k.run.stands on todo in
    let start : q ≡ Start = asks_start p.client.progress q a.waits (subst (λ (x : Endpoint). AwaitsAnswer q x.client.progress) (unsome s.0 p (sym s.1 ∙ a.there)) s.2) in
    let asked : me.todo ≡ Start ∷ rest = todo ∙ ap (λ (x : AbstractRequest). x ∷ rest) start in
    let m = has_holds u w i job.device d k.run.stands a.has in
    let dev : device_for u.system i ≡ abstract_device (Some i) d = ap u.system.device (sym m.wanted) ∙ m.is in
    let resting : (device_for u.system i).phase ≡ Resting = ap (λ (x : AbstractDevice). x.phase) dev ∙ rests_so (abstract_device (Some i) d).phase (rests d m.made.in_scan ∙ a.rest_is) in
    let ready = starts_ready i (make_for u.system i) me (device_for u.system i) me.client.stage rest on (k.run.stands.sound.exchanges i) asked resting in
    let count = count_at u w i rest (slice_get w.endpoints i) refl k.run.stands ready.1 ready.0 in
    let n : p.finished ≡ length me.session.started = subst (λ (x : Endpoint). x.finished ≡ length me.session.started) (unsome count.0 p (sym count.1 ∙ a.there)) count.2 in
    let left : (u.system.device (place_named (infos_of h) job.device)).tray ≡ pages_in d = ap (λ (j : ℕ). (u.system.device j).tray) (sym (wants_then below h w i job at)) ∙ (ap (λ (x : AbstractDevice). x.tray) dev ∙ pages_at_rest d d.phase a.rest_is) in
    left_of (begun_pages me.session.started) p.finished (first_tray tray.device) d (ap (λ (ys : List PageView). begun_pages me.session.started ++ ys) (sym left) ∙ takes_there below h w i job at tray) (mapped_length (λ (b : Begin). b.page) me.session.started ∙ sym n)

pub tray_front : (h : History) (front back : List JointEvent) (e : Event) (i : ℕ) (job : Job) → h.events ≡ front ++ OfJobs e ∷ back → OwnTray h i job → OwnTray (history_up_to h front) i job
tray_front h front back e i job split tray = record {
  device = tray.device;
  is_there = tray.is_there;
  named = tray.named;
  feeder = tray.feeder;
  alone = tray.alone;
  unladen = λ source among. tray.unladen source (contains_in h.events (OfJobs (Load job.device source)) (subst (λ (es : List JointEvent). In (OfJobs (Load job.device source)) es) (sym split) (in_front front (OfJobs e ∷ back) (OfJobs (Load job.device source)) (in_list front (OfJobs (Load job.device source)) among))));
  undisturbed = no_acts_front h front (OfJobs e ∷ back) split tray.undisturbed;
}

at_endpoint : (w : WorldCore) (i : ℕ) (p : Endpoint) (Is : Endpoint → Type 0) → slice_get w.endpoints i ≡ Some p → AtJob w i Is → Is p
at_endpoint w i p Is there at = subst Is (unsome at.0 p (sym at.1 ∙ there)) at.2

pub trays_are_taken : Below → TraysAreTaken
unfolding tray_front
trays_are_taken below h w i n job at tray asked finished d has rest_is =
    let m = asked.at in
    let here : IsJobAt (history_up_to h m.front) m.before i job = record { led = m.led_before; job_at = at.job_at } in
    let mine = tray_front h m.front m.back (ToDaemon i asked.n) i job m.split tray in
    let ran = asked.came.0 in
    let p = ran.0 in
    let asks : Asks m.before i job p d = record {
      there = ran.1;
      runs = ran.2;
      waits = at_endpoint m.before i p (λ (x : Endpoint). IsAtStart x.client.progress) ran.1 asked.waits;
      some = λ none. asked.came.1 (nothing_fed m.before m.behind i asked.n p ran.1 none m.leads);
      has = has;
      rest_is = rest_is;
    } in
    let same : p.finished ≡ n = at_endpoint m.before i p (λ (x : Endpoint). x.finished ≡ n) ran.1 finished in
    subst (λ (k : ℕ). AreLeft k (first_tray tray.device) d) same
    (by_todo below (history_up_to h m.front) m.before i job here mine p d asks ((kept_by below.kept (history_up_to h m.front) m.before job m.led_before).run.ghost_then.system.job i).todo refl)

-- ---- no more pages than there were

few_pages : (below : Below) (h : History) (w : WorldCore) (i : ℕ) (job : Job) (at : IsJobAt h w i job) (tray : OwnTray h i job) (p : Endpoint) → slice_get w.endpoints i ≡ Some p → p.finished ≤ length (first_tray tray.device)
few_pages below h w i job at tray p there =
    let k = kept_by below.kept h w job at.led in
    let u = k.run.ghost_then in
    let me = u.system.job i in
    let low = finished_low u w i p k.run.stands there in
    let more = enough (make_for u.system i) me (k.run.stands.sound.pages i) in
    let as_many = mapped_length (λ (b : Begin). b.page) me.session.started in
    let dev = u.system.device (place_named (infos_of h) job.device) in
    let all : length (begun_pages me.session.started) ≤ length (first_tray tray.device) = subst (λ (ys : List PageView). length (begun_pages me.session.started) ≤ length ys) (takes_there below h w i job at tray) (app_length (begun_pages me.session.started) dev.tray) in
    omega (arith, low, more, as_many, all)

-- ---- the k-th page

first_left : (xs : List PageView) (n : ℕ) (pages : List HeldPage) → map (λ (held : HeldPage). held.page) pages ≡ drop n xs → n < length xs → slice_get xs n ≡ Some (first_page pages).page
first_left [] n pages left low = absurd (omega (arith, low))
first_left (x ∷ xs) zero [] left low = absurd (let clash : [] ≡ x ∷ xs = left in cc)
first_left (x ∷ xs) zero (held ∷ pages) left low =
    let both : held.page ∷ map (λ (it : HeldPage). it.page) pages ≡ x ∷ xs = left in
    let same : held.page ≡ x = cc in ap (λ (y : PageView). Some y) (sym same)
first_left (x ∷ xs) (suc n) pages left low = first_left xs n pages left (omega (arith, low))

pub page_of_tray : (below : Below) (h : History) (w : WorldCore) (i k : ℕ) (job : Job) (at : IsJobAt h w i job) (tray : OwnTray h i job) (p : Endpoint) (file : List ℕ) → IsJob h w i job p → IsSteady h w i job.device → finished_page p k ≡ Some file → IsOfTray h w i job tray k file
page_of_tray below h w i k job at tray p file j steady given =
    let kept = (page_kept below h w i k job p j).scanned file given in
    let scan : IsScan h w i job (k - 1) file = kept.2 steady in
    let s = scan.started in
    let left = trays_are_taken below h w i (k - 1) job at tray s.asked s.finished s.device s.has s.rests in
    let few = few_pages below h w i job at tray p j.endpoint_at in
    let some = kept.0 in
    let within = kept.1 in
    let most = min-le_left p.finished 16 in
    let there = first_left (first_tray tray.device) (k - 1) s.device.pages left.0 (omega (arith, few, some, within, most)) in
    (scan, there ∙ ap (λ (page : PageView). Some page) s.first)

pub page_call : {X : Type 0} (read : X → List ℕ) (given : Option X) → Below → (w : WorldCore) (i k : ℕ) → option_map read given ≡ page_answered w i k → IfSome given (λ (x : X). ForEach w i (λ h job. (tray : OwnTray h i job) → IsSteady h w i job.device → IsOfTray h w i job tray k (read x)))
page_call read None below w i k is = tt
page_call read (Some x) below w i k is = λ h job at tray steady.
    let p = endpoint_there below h w i job at in
    let file : finished_page p.0 k ≡ Some (read x) = sym (ap (option_and_then (λ (e : Endpoint). finished_page e k)) p.1.endpoint_at) ∙ sym is in
    page_of_tray below h w i k job at tray p.0 (read x) p.1 steady file

-- ---- how many they are

none_left : (xs : List PageView) (n : ℕ) → [] ≡ drop n xs → length xs ≤ n
none_left [] n left = omega arith
none_left (x ∷ xs) zero left = absurd (let clash : [] ≡ x ∷ xs = left in cc)
none_left (x ∷ xs) (suc n) left = let few = none_left xs n left in omega (arith, few)

-- a device that is no feeder has a page whenever the job asks for a start
plain_count : Below → (h : History) (w : WorldCore) (i : ℕ) (job : Job) (finished count : ℕ) (device : DeviceState) → Contains h.devices device → device.info.name ≡ job.device → feeds device ≡ false → (finished ≡ count) ⊎ ((0 < finished) × (finished < count) × HadNoPage h w i job finished) → finished ≡ count
plain_count below h w i job finished count device there named plain (inl all) = all
plain_count below h w i job finished count device there named plain (inr (some, fewer, (scanning, asked, behind, (d, has, rest_is, none)))) =
    let g = history_up_to h asked.at.front in
    absurd (some_page g device d (is_of below g asked.at.before job asked.at.led_before device there i d (subst (λ (n : List ℕ). Has asked.at.before i n d) (sym named) has)) plain none)

fed_count : (below : Below) (h : History) (w : WorldCore) (i : ℕ) (job : Job) (at : IsJobAt h w i job) (tray : OwnTray h i job) (finished count : ℕ) → finished ≤ length (first_tray tray.device) → (finished ≡ count) ⊎ ((0 < finished) × (finished < count) × HadNoPage h w i job finished) → finished ≡ min count (length (first_tray tray.device))
fed_count below h w i job at tray finished count few (inl all) = all ∙ sym (min-eq_left (subst (λ (n : ℕ). n ≤ length (first_tray tray.device)) all few))
fed_count below h w i job at tray finished count few (inr (some, fewer, (scanning, asked, behind, (d, has, rest_is, none)))) =
    let left = (trays_are_taken below h w i finished job at tray asked behind d has rest_is).0 in
    let empty : [] ≡ drop finished (first_tray tray.device) = ap (λ (pages : List HeldPage). map (λ (held : HeldPage). held.page) pages) (sym none) ∙ left in
    let most = none_left (first_tray tray.device) finished empty in
    let same : length (first_tray tray.device) ≡ finished = omega (arith, few, most) in
    sym same ∙ sym (min-eq_right (omega (arith, same, fewer)))

pub tray_count : Below → (w : WorldCore) (i finished : ℕ) → finished ≡ finished_at w i → ForEach w i (λ h job. BatchIsCounted h w i job finished)
tray_count below w i finished is h job at count reports batch done =
    let p = endpoint_there below h w i job at in
    let own : finished ≡ min p.0.finished 16 = is ∙ ap finished_by p.1.endpoint_at in
    let outcome = outcome_there w.endpoints i p.0 (Done reports) p.1.endpoint_at done in
    let counted : (finished ≡ count) ⊎ ((0 < finished) × (finished < count) × HadNoPage h w i job finished) = subst (λ (n : ℕ). (n ≡ count) ⊎ ((0 < n) × (n < count) × HadNoPage h w i job n)) (sym own) (count_kept below h w i job p.0 p.1 count reports batch outcome) in
    let few = λ (tray : OwnTray h i job). (let low = few_pages below h w i job at tray p.0 p.1.endpoint_at in let most = min-le_left p.0.finished 16 in let all : finished ≤ length (first_tray tray.device) = omega (arith, own, low, most) in all) in
    record {
      plain = λ device there named plain. plain_count below h w i job finished count device there named plain counted;
      fed = λ tray. fed_count below h w i job at tray finished count (few tray) counted;
    }
