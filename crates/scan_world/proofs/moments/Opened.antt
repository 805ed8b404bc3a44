-- A job that is done opened its device: as it asked, that was listed and free, and the job was permitted.
use Rattle.std.specs.Prelude.{eqb, slice_get, ◌≢◌}
use Rattle.std.specs.List.{AllByRecursion}
use Rattle.std.proofs.Common.{◌≡◌, ◌∙◌, ◌⊎◌, ℕ, List, [], ◌∷◌, ◌++◌, Bool, true, false, Option, Some, None, inl, inr, refl, sym, ap, subst, eqb-true}
use Rattle.scan_job.specs.declared.outcome.Why.{Why}
use Rattle.scan_job.specs.declared.outcome.Why.TheVariants.{Lost, Memory, Cancelled}
use Rattle.sane_fixed.specs.declared.status.Status.{Status}
use Rattle.sane_fixed.specs.declared.status.Status.TheVariants.{IoError, NoMem}
use Rattle.sane_fixed.specs.declared.status.Status.TheVariants as statuses
use Rattle.page_picture.specs.Shows.{Frame}
use Rattle.sane_fixed.specs.declared.device_info.DeviceInfo.{DeviceInfo}
use Rattle.device_api.specs.Kinds.{Page}
use Rattle.device_api.specs.State.{DeviceState}
use Rattle.dispatch.specs.declared.table.place.Lease.{Lease}
use Rattle.dispatch.specs.declared.table.place.Place.{Place}
use Rattle.dispatch.specs.declared.table.place.Slot.{Slot}
use Rattle.dispatch.specs.declared.table.place.Slot.TheVariants.{In, Out, Gone}
use Rattle.dispatch.specs.Table.{find_name}
use Rattle.saned_requests.specs.declared.session.Session.{Session}
use Rattle.scan_job.specs.declared.job.Job.{Job}
use Rattle.system_model.specs.AbstractMessages.{AbstractReply, AbstractRequest, Challenge, Open, Authorize, Get, Set, Start, Greeted, Listed, Opened, Challenged, Described, Got, Gave, Shaped, Begun, Acked, Refused, same_text}
use Rattle.system_model.specs.AbstractDevices.{AbstractDevice, ScanPhase, Resting, Between, Reading, is_held_by, is_resting, without_first}
use Rattle.system_model.specs.Actions
use Rattle.system_model.specs.Actions.{Action, answer_next, device_after_answer, environment_of, job_after_action, served_by}
use Rattle.system_model.specs.Client.{AbstractJob, AbstractProgress, ClientView, JobStage, AbstractTask, Idle, Running, Done, Ended, Greeting, Listing, Opening, Allowing, Describing, Putting, Getting, Starting, Shaping, Imaging, List_, Show, SetOnly, Scan, Batch, progress_after_init}
use Rattle.system_model.specs.ClientReplies.{finish_in, hear_at, hear_in, client_after_bytes, stage_after_stop}
use Rattle.system_model.specs.Daemon.{AnswerEffect, Environment, FailureCounts, TransferState, Quiet, Waiting, Streaming, Ending, allow, answer, answer_awaited, answer_if, begin_page, begin_pass, get_reply, hand_out_device, open_listed, put_reply, refuse, serve, set_reply, start_at, start_effect, start_or_fail, start_page, take_listed}
use Rattle.system_model.specs.Devices.{Make, AbstractAcceptedSet, accept_value, has_readable_value, picture_frames}
use Rattle.system_model.specs.SystemStates.{JobState, SystemState, device_for, listed_devices, make_for, wanted_place}
use Rattle.system_model.specs.Transitions.{By, IsEnabled, IsActionEnabled, IsHistory, IsUnderWay, Loads, Transition, Unplugs, Uses, after_all, after_transition}
use Rattle.daemon_refines.specs.ContextRefinement.{PlaceRefines, SlotRefines}
use Rattle.daemon_refines.proofs.OtherSessions.{IsThere}
use Rattle.event_world.specs.Worlds.{WorldCore}
use Rattle.world_refines.specs.FailedSources.{AllAlong}
use Rattle.world_refines.specs.GhostStates.{Ghost, backend_of, is_guarded, name_at, place_named}
use Rattle.world_refines.specs.WorldRefinement.{HaveDifferentNames, WorldRefines, stranger_of}
use Rattle.world_refines.proofs.job_events.Constant.{Fixed}
use Rattle.world_refines.proofs.state.Finding.{find_there, names_at}
use Rattle.scan_world.specs.Endings.{HasPassed, WasOpened}
use Rattle.scan_world.specs.Histories.{History}
use Rattle.scan_world.specs.Sessions.{Has, SessionAt, StrangerHas}
use Rattle.scan_world.proofs.Evident.{Opens}
use Rattle.scan_world.proofs.Along.{Here, Laws, own_place}
use Rattle.scan_world.proofs.Begun.{job_stays, party_stays}
use Rattle.scan_world.proofs.Pages.{HasDevice, IsOfOne, name_there}
use Rattle.scan_world.proofs.Scanned.{infos_of, name_of}
use Rattle.scan_world.proofs.moments.Entries.{own_device, own_party, unsome}
use Rattle.scan_world.proofs.moments.Judged.{Front, asked_open, here_then, infos_there, judged_by}
use Rattle.scan_world.proofs.moments.Moments.{AnsweredSo, AnswersAt}
use Rattle.scan_world.proofs.moments.Requests.{IsOpening}
use Rattle.scan_world.proofs.moments.Stands.{has_holds, job_has, stranger_holds, table_of}

-- ---- what an opening comes from

-- the device is listed and free, and may be opened; and client i has it then
pub record Grants (i : ℕ) (left : AnswerEffect) (dev : AbstractDevice) (awaited : Option Challenge) (x : Environment) (q : AbstractRequest) : Type 0 where
  pub opens : IsOpening q
  pub listed : dev.listed ≡ true
  pub free : dev.holder ≡ None
  pub permitted : (x.guarded ≡ false) ⊎ ((c : Challenge) × (awaited ≡ Some c) × (x.allows c ≡ true))
  pub takes : left.device.holder ≡ Some i

-- where one of these tells that the device is opened, that is so
abbrev pub TellsIf : Type 0 → List AbstractReply → Type 0
TellsIf F [] = Unit {0}
TellsIf F (Opened ∷ rs) = F × TellsIf F rs
TellsIf F (r ∷ rs) = TellsIf F rs

hand_grants : (F : Type 0) (i : ℕ) (k : Make) (dev : AbstractDevice) (c : TransferState) (o : Option ℕ) → (o ≡ None → F) → TellsIf F (hand_out_device i k dev c o).told
hand_grants F i k dev c None f = (f refl, tt)
hand_grants F i k dev c (Some j) f = tt

take_grants : (F : Type 0) (i : ℕ) (k : Make) (dev : AbstractDevice) (c : TransferState) (b : Bool) → (b ≡ true → dev.holder ≡ None → F) → TellsIf F (take_listed i k dev c b).told
take_grants F i k dev c false f = tt
take_grants F i k dev c true f = hand_grants F i k dev c dev.holder (f refl)

open_grants : (F : Type 0) (i : ℕ) (k : Make) (dev : AbstractDevice) (c : TransferState) (challenge : Challenge) (listed guarded : Bool) → (listed ≡ true → guarded ≡ false → dev.holder ≡ None → F) → TellsIf F (open_listed i k dev c challenge listed guarded).told
open_grants F i k dev c challenge false guarded f = tt
open_grants F i k dev c challenge true true f = tt
open_grants F i k dev c challenge true false f = hand_grants F i k dev c dev.holder (f refl refl)

allow_grants : (F : Type 0) (i : ℕ) (k : Make) (dev : AbstractDevice) (c : TransferState) (a b : Bool) → (a ≡ true → b ≡ true → dev.listed ≡ true → dev.holder ≡ None → F) → TellsIf F (allow i k dev c a b).told
allow_grants F i k dev c true true f = take_grants F i k dev c dev.listed (f refl refl)
allow_grants F i k dev c true false f = tt
allow_grants F i k dev c false b f = tt

get_grants : (F : Type 0) (k : Make) (dev : AbstractDevice) (c : TransferState) (n : ℕ) (b : Bool) → TellsIf F (get_reply k dev c n b).told
get_grants F k dev c n true = tt
get_grants F k dev c n false = tt

put_grants : (F : Type 0) (dev : AbstractDevice) (c : TransferState) (o : Option AbstractAcceptedSet) → TellsIf F (put_reply dev c o).told
put_grants F dev c None = tt
put_grants F dev c (Some put) = tt

set_grants : (F : Type 0) (k : Make) (dev : AbstractDevice) (c : TransferState) (n : ℕ) (value : _) (b : Bool) → TellsIf F (set_reply k dev c n value b).told
set_grants F k dev c n value true = put_grants F dev c (accept_value k dev.options n value)
set_grants F k dev c n value false = tt

page_grants : (F : Type 0) (k : Make) (dev : AbstractDevice) (c : TransferState) (page : Page) (frames : List Frame) → TellsIf F (begin_page k dev c page frames).told
page_grants F k dev c page [] = tt
page_grants F k dev c page (f ∷ more) = tt

pass_grants : (F : Type 0) (k : Make) (dev : AbstractDevice) (c : TransferState) (frames : List Frame) → TellsIf F (begin_pass k dev c frames).told
pass_grants F k dev c [] = tt
pass_grants F k dev c (f ∷ more) = tt

tray_grants : (F : Type 0) (k : Make) (dev : AbstractDevice) (c : TransferState) (again : Bool) (tray : List Page) → TellsIf F (start_page k dev c again tray).told
tray_grants F k dev c again [] = tt
tray_grants F k dev c again (page ∷ tray) = page_grants F k dev c page (picture_frames k dev.options page)

phase_grants : (F : Type 0) (k : Make) (dev : AbstractDevice) (c : TransferState) (again : Bool) (phase : ScanPhase) → TellsIf F (start_at k dev c again phase).told
phase_grants F k dev c again Resting = tray_grants F k dev c again dev.tray
phase_grants F k dev c again (Between last more) = pass_grants F k dev c more
phase_grants F k dev c again (Reading frame rest more) = tt

fail_grants : (F : Type 0) (k : Make) (dev : AbstractDevice) (c : TransferState) (again : Bool) (fault : Option FailureCounts) → TellsIf F (start_or_fail k dev c again fault).told
fail_grants F k dev c again None = phase_grants F k dev c again dev.phase
fail_grants F k dev c again (Some fault) = tt

start_grants : (F : Type 0) (k : Make) (dev : AbstractDevice) (x : Environment) (c : TransferState) → TellsIf F (start_effect k dev x c).told
start_grants F k dev x Quiet = fail_grants F k dev Quiet x.again x.fault
start_grants F k dev x Waiting = tt
start_grants F k dev x Streaming = tt
start_grants F k dev x Ending = tt

abbrev Opens_to : ℕ → Make → AbstractDevice → TransferState → Environment → AnswerEffect
Opens_to i k dev c x = open_listed i k dev c x.challenge dev.listed x.guarded

open_free : (i : ℕ) (k : Make) (dev : AbstractDevice) (c : TransferState) (x : Environment) → TellsIf (Grants i (Opens_to i k dev c x) dev None x Open) (Opens_to i k dev c x).told
open_free i k dev c x = open_grants (Grants i (Opens_to i k dev c x) dev None x Open) i k dev c x.challenge dev.listed x.guarded (λ listed unguarded free. record {
  opens = tt;
  listed = listed;
  free = free;
  permitted = inl unguarded;
  takes = ap (λ (b : Bool). (open_listed i k dev c x.challenge b x.guarded).device.holder) listed
      ∙ (ap (λ (b : Bool). (open_listed i k dev c x.challenge true b).device.holder) unguarded ∙ ap (λ (o : Option ℕ). (hand_out_device i k dev c o).device.holder) free);
})

serve_grants : (i : ℕ) (k : Make) (dev : AbstractDevice) (c : TransferState) (x : Environment) (q : AbstractRequest) → TellsIf (Grants i (serve i k dev c x q) dev None x q) (serve i k dev c x q).told
serve_grants i k dev c x Open = open_free i k dev c x
serve_grants i k dev c x (Get n) = get_grants (Grants i (serve i k dev c x (Get n)) dev None x (Get n)) k dev c n (has_readable_value k dev.options n)
serve_grants i k dev c x (Set n value) = set_grants (Grants i (serve i k dev c x (Set n value)) dev None x (Set n value)) k dev c n value (is_resting dev.phase)
serve_grants i k dev c x Start = start_grants (Grants i (serve i k dev c x Start) dev None x Start) k dev x c
serve_grants i k dev c x q = tt

refuse_grants : (i : ℕ) (k : Make) (dev : AbstractDevice) (c : TransferState) (x : Environment) (q : AbstractRequest) → TellsIf (Grants i (refuse i k dev c x q) dev None x q) (refuse i k dev c x q).told
refuse_grants i k dev c x Open = open_free i k dev c x
refuse_grants i k dev c x q = tt

awaited_grants : (i : ℕ) (k : Make) (dev : AbstractDevice) (c : TransferState) (x : Environment) (sent : Challenge) (q : AbstractRequest) → TellsIf (Grants i (answer_awaited i k dev c x sent q) dev (Some sent) x q) (answer_awaited i k dev c x sent q).told
awaited_grants i k dev c x sent (Authorize challenge) =
    allow_grants (Grants i (answer_awaited i k dev c x sent (Authorize challenge)) dev (Some sent) x (Authorize challenge)) i k dev c (same_text challenge sent) (x.allows sent) (λ same allowed listed free. record {
      opens = tt;
      listed = listed;
      free = free;
      permitted = inr (sent, refl, allowed);
      takes = ap (λ (b : Bool). (allow i k dev c b (x.allows sent)).device.holder) same ∙ (ap (λ (b : Bool). (allow i k dev c true b).device.holder) allowed
          ∙ (ap (λ (b : Bool). (take_listed i k dev c b).device.holder) listed ∙ ap (λ (o : Option ℕ). (hand_out_device i k dev c o).device.holder) free));
    })
awaited_grants i k dev c x sent q = tt

if_grants : (b : Bool) (i : ℕ) (k : Make) (dev : AbstractDevice) (c : TransferState) (x : Environment) (q : AbstractRequest) → TellsIf (Grants i (answer_if b i k dev c x q) dev None x q) (answer_if b i k dev c x q).told
if_grants true i k dev c x q = serve_grants i k dev c x q
if_grants false i k dev c x q = refuse_grants i k dev c x q

answer_grants : (i : ℕ) (k : Make) (dev : AbstractDevice) (c : TransferState) (awaited : Option Challenge) (x : Environment) (q : AbstractRequest) → TellsIf (Grants i (answer i k dev c awaited x q) dev awaited x q) (answer i k dev c awaited x q).told
answer_grants i k dev c None x q = if_grants (is_held_by i dev.holder) i k dev c x q
answer_grants i k dev c (Some sent) x q = awaited_grants i k dev c x sent q

-- ---- of the world in front of it

-- the place of a device that is listed is found
there_by : (i : ℕ) (make : Make) (held : List (Option (Lease DeviceState))) (k : ℕ) (dev : AbstractDevice) (name : List ℕ) (slot : Slot DeviceState) → SlotRefines i make held k dev name slot → dev.listed ≡ true → IsThere slot
there_by i make held k dev name (In s) r on = tt
there_by i make held k dev name Out r on = tt
there_by i make held k dev name Gone r on = absurd (let clash : false ≡ true = sym r.0 ∙ on in cc)

found_by : (t : Ghost) (w : WorldCore) (name : List ℕ) (k : ℕ) (make : Make) (held : List (Option (Lease DeviceState))) (o : Option (Place DeviceState)) → slice_get w.daemon.registry k ≡ o → WorldRefines t w → PlaceRefines 0 make held k (t.system.device k) o → (t.system.device k).listed ≡ true → name_at t.infos k ≡ Some name → find_name name w.daemon.registry ≡ Some k
found_by t w name k make held None at h r on named = absurd (let clash : false ≡ true = sym r.0 ∙ on in cc)
found_by t w name k make held (Some p) at h r on named =
    let own : name_at t.infos k ≡ Some p.info.name = subst (λ (infos : List DeviceInfo). name_at infos k ≡ Some p.info.name) (sym h.is_of.infos) (names_at w.daemon.registry k p at) in
    let same : p.info.name ≡ name = unsome p.info.name name (sym own ∙ named) in
    find_there w.daemon.registry name k p (subst HaveDifferentNames h.is_of.infos h.is_of.apart) at same (there_by 0 make held k (t.system.device k) p.info.name p.slot r on)

pub listed_found : (t : Ghost) (w : WorldCore) (name : List ℕ) (k : ℕ) → WorldRefines t w → (t.system.device k).listed ≡ true → name_at t.infos k ≡ Some name → find_name name w.daemon.registry ≢ None
listed_found t w name k h on named none =
    let tab = table_of t w 0 (slice_get w.endpoints 0) refl h in
    let found = found_by t w name k (t.system.make k) tab.0 (slice_get w.daemon.registry k) refl h (tab.1.places k) on named in
    let clash : None ≡ Some k = sym none ∙ found in cc

-- nobody has a device that nobody holds by the model
none_has : (t : Ghost) (w : WorldCore) (name : List ℕ) (k : ℕ) → WorldRefines t w → (t.system.device k).holder ≡ None → name_at t.infos k ≡ Some name → (j : ℕ) (d : DeviceState) → Has w j name d → ⊥
none_has t w name k h free named j d has =
    let m = has_holds t w j name d h has in
    let same : m.place ≡ k = h.is_of.apart m.place k name m.named named in
    let clash : None ≡ Some j = sym free ∙ (ap (λ (n : ℕ). (t.system.device n).holder) (sym same) ∙ ap (λ (dev : AbstractDevice). dev.holder) m.is) in cc

none_shares : (t : Ghost) (w : WorldCore) (name : List ℕ) (k : ℕ) → WorldRefines t w → (t.system.device k).holder ≡ None → name_at t.infos k ≡ Some name → StrangerHas w name → ⊥
none_shares t w name k h free named x =
    let m = stranger_holds t w name h x in
    let same : m.place ≡ k = h.is_of.apart m.place k name m.named named in
    let clash : None ≡ Some (stranger_of w m.number) = sym free ∙ (ap (λ (n : ℕ). (t.system.device n).holder) (sym same) ∙ m.held) in cc

permitted_by : (h : History) (w : WorldCore) (i : ℕ) (job : Job) (s : SystemState) → Here h i job s → IsUnderWay (s.job i).client.stage → (s.job i).served ≡ true → (a : Front h w job s i) → Opens (s.job i) → ((s.job i).session.job.guarded ≡ false) ⊎ ((c : Challenge) × ((s.job i).session.awaited ≡ Some c) × ((s.job i).session.job.allows c ≡ true)) → (is_guarded h.users (backend_of job.device) ≡ false) ⊎ HasPassed h a.1.at.before i job true
permitted_by h w i job s e on served a o (inl unguarded) = inl (ap (λ (j : AbstractJob). j.guarded) (sym e.is) ∙ unguarded)
permitted_by h w i job s e on served a o (inr (c, awaited, allows)) = inr (judged_by h w i job s true e on served a o c awaited allows)

-- it was opened, and there is such a device
abbrev pub IsOpened : History → WorldCore → ℕ → Job → Type 0
IsOpened h w i job = WasOpened h w i job × HasDevice h (place_named (infos_of h) job.device)

-- the answer to it
abbrev Answered : SystemState → ℕ → Challenge → Option FailureCounts → AbstractRequest → AnswerEffect
Answered s i challenge fault q = served_by i (make_for s i) (listed_devices s) (s.job i) (device_for s i) challenge fault q

-- behind the event its session, where it stands, has the device that was opened
has_behind : (h : History) (w : WorldCore) (i : ℕ) (job : Job) (s : SystemState) (challenge : Challenge) (fault : Option FailureCounts) (q : AbstractRequest) (rest : List AbstractRequest) (m : AnswersAt h w job s i challenge fault) → (s.job i).todo ≡ q ∷ rest → (Answered s i challenge fault q).device.holder ≡ Some i → name_at (infos_of h) (wanted_place s i) ≡ Some job.device → (session : Session DeviceState) → SessionAt m.at.behind i session → (d : DeviceState) × Has m.at.behind i job.device d
has_behind h w i job s challenge fault q rest m todo takes named session now =
    let b = m.later session now in
    let k = wanted_place s i in
    let dev : b.0.system.device k ≡ (Answered s i challenge fault q).device =
    ap (λ (u : SystemState). u.device k) b.3 ∙ (own_device s i (Actions.Answers challenge fault) ∙ ap (device_after_answer i (make_for s i) (listed_devices s) (s.job i) (device_for s i) challenge fault) todo) in
    let there : name_at b.0.infos k ≡ Some job.device = subst (λ (infos : List DeviceInfo). name_at infos k ≡ Some job.device) (sym (ap (λ (f : Fixed). f.1) b.1)) named in
    let has = job_has b.0 m.at.behind k i job.device now.endpoint now.is_there b.2 (ap (λ (x : AbstractDevice). x.holder) dev ∙ takes) there in
    (has.0, has.1)

opened_by : (h : History) (w : WorldCore) (i : ℕ) (job : Job) (s : SystemState) (challenge : Challenge) (fault : Option FailureCounts) (x : Environment) (q : AbstractRequest) (rest : List AbstractRequest) → Here h i job s → IsUnderWay (s.job i).client.stage → (s.job i).served ≡ true → AnswersAt h w job s i challenge fault → (s.job i).todo ≡ q ∷ rest → x.guarded ≡ (s.job i).session.job.guarded → x.allows ≡ (s.job i).session.job.allows → Grants i (Answered s i challenge fault q) (device_for s i) (s.job i).session.awaited x q → IsOpened h w i job
opened_by h w i job s challenge fault x q rest e on served m todo guards allows g =
    let a : Front h w job s i = ((challenge, fault), m) in
    let d = place_named (infos_of h) job.device in
    let place : wanted_place s i ≡ d = e.fine.places i ∙ own_place h i job e.own_job.at in
    let there : HasDevice h d = subst (HasDevice h) place ((e.fine.slots (wanted_place s i)).listed g.listed) in
    let name : name_at (infos_of h) d ≡ Some job.device = name_there h.devices d there.0 there.1 ∙ ap (λ (n : List ℕ). Some n) (name_of h job.device there.0 there.1) in
    let named : name_at a.1.ghost.infos (wanted_place s i) ≡ Some job.device = subst (λ (k : ℕ). name_at a.1.ghost.infos k ≡ Some job.device) (sym place) (subst (λ (infos : List DeviceInfo). name_at infos d ≡ Some job.device) (sym (infos_there h w job s i a)) name) in
    let t = a.1.ghost in
    let same : (t.system.device (wanted_place s i)) ≡ device_for s i = ap (λ (u : SystemState). u.device (wanted_place s i)) a.1.state in
    let may : ((s.job i).session.job.guarded ≡ false) ⊎ ((c : Challenge) × ((s.job i).session.awaited ≡ Some c) × ((s.job i).session.job.allows c ≡ true)) =
    subst (λ (b : Bool). (b ≡ false) ⊎ ((c : Challenge) × ((s.job i).session.awaited ≡ Some c) × ((s.job i).session.job.allows c ≡ true))) guards
    (subst (λ (f : Challenge → Bool). (x.guarded ≡ false) ⊎ ((c : Challenge) × ((s.job i).session.awaited ≡ Some c) × (f c ≡ true))) allows g.permitted) in
    let opened : WasOpened h w i job = record {
      asked = asked_open h w i job s on a (q, rest, todo, g.opens);
      listed = listed_found t a.1.at.before job.device (wanted_place s i) a.1.stands (ap (λ (dev : AbstractDevice). dev.listed) same ∙ g.listed) named;
      free = none_has t a.1.at.before job.device (wanted_place s i) a.1.stands (ap (λ (dev : AbstractDevice). dev.holder) same ∙ g.free) named;
      unshared = none_shares t a.1.at.before job.device (wanted_place s i) a.1.stands (ap (λ (dev : AbstractDevice). dev.holder) same ∙ g.free) named;
      permitted = permitted_by h w i job s e on served a (q, rest, todo, g.opens) may;
      taken = has_behind h w i job s challenge fault q rest m todo g.takes (subst (λ (k : ℕ). name_at (infos_of h) k ≡ Some job.device) (sym place) name);
    } in
    (opened, there)

-- ---- what is so of a job by what its client waits for

abbrev pub OpenedAt : Type 0 → AbstractTask → JobStage → Type 0
OpenedAt F task Idle = Unit {0}
OpenedAt F task (Running Greeting) = Unit {0}
OpenedAt F task (Running Listing) = (task ≡ List_) ⊎ F
OpenedAt F task (Running Opening) = Unit {0}
OpenedAt F task (Running (Allowing challenge)) = Unit {0}
OpenedAt F task (Running (Describing left)) = F
OpenedAt F task (Running (Putting n value requested left)) = F
OpenedAt F task (Running (Getting n left)) = F
OpenedAt F task (Running Starting) = F
OpenedAt F task (Running Shaping) = F
OpenedAt F task (Running (Imaging params heard)) = F
OpenedAt F task Done = task ≢ List_ → F
OpenedAt F task (Ended status why) = Unit {0}

-- whatever it goes on to, where it is opened
went_on : (F : Type 0) (task : AbstractTask) (stage : JobStage) → F → OpenedAt F task stage
went_on F task Idle f = tt
went_on F task (Running Greeting) f = tt
went_on F task (Running Listing) f = inr f
went_on F task (Running Opening) f = tt
went_on F task (Running (Allowing challenge)) f = tt
went_on F task (Running (Describing left)) f = f
went_on F task (Running (Putting n value requested left)) f = f
went_on F task (Running (Getting n left)) f = f
went_on F task (Running Starting) f = f
went_on F task (Running Shaping) f = f
went_on F task (Running (Imaging params heard)) f = f
went_on F task Done f = λ other. f
went_on F task (Ended status why) f = tt

greeted : (F : Type 0) (task : AbstractTask) → OpenedAt F task (Running (progress_after_init task))
greeted F List_ = inl refl
greeted F Show = tt
greeted F SetOnly = tt
greeted F Scan = tt
greeted F (Batch n) = tt

listed_done : (F : Type 0) (task : AbstractTask) → (task ≡ List_) ⊎ F → task ≢ List_ → F
listed_done F task (inl same) other = absurd (other same)
listed_done F task (inr f) other = f

first_told : (F : Type 0) (r : AbstractReply) (rs : List AbstractReply) → TellsIf F (r ∷ rs) → TellsIf F (r ∷ [])
first_told F Greeted rs t = tt
first_told F (Listed devices) rs t = tt
first_told F Opened rs t = (t.0, tt)
first_told F (Challenged challenge) rs t = tt
first_told F (Described descriptors) rs t = tt
first_told F (Got value) rs t = tt
first_told F (Gave value info) rs t = tt
first_told F (Shaped params) rs t = tt
first_told F (Begun order) rs t = tt
first_told F Acked rs t = tt
first_told F (Refused status) rs t = tt

rest_told : (F : Type 0) (r : AbstractReply) (rs : List AbstractReply) → TellsIf F (r ∷ rs) → TellsIf F rs
rest_told F Greeted rs t = t
rest_told F (Listed devices) rs t = t
rest_told F Opened rs t = t.1
rest_told F (Challenged challenge) rs t = t
rest_told F (Described descriptors) rs t = t
rest_told F (Got value) rs t = t
rest_told F (Gave value info) rs t = t
rest_told F (Shaped params) rs t = t
rest_told F (Begun order) rs t = t
rest_told F Acked rs t = t
rest_told F (Refused status) rs t = t

all_told : (F : Type 0) (xs ys : List AbstractReply) → TellsIf F xs → TellsIf F ys → TellsIf F (xs ++ ys)
all_told F [] ys a b = b
all_told F (Greeted ∷ xs) ys a b = all_told F xs ys a b
all_told F (Listed devices ∷ xs) ys a b = all_told F xs ys a b
all_told F (Opened ∷ xs) ys a b = (a.0, all_told F xs ys a.1 b)
all_told F (Challenged challenge ∷ xs) ys a b = all_told F xs ys a b
all_told F (Described descriptors ∷ xs) ys a b = all_told F xs ys a b
all_told F (Got value ∷ xs) ys a b = all_told F xs ys a b
all_told F (Gave value info ∷ xs) ys a b = all_told F xs ys a b
all_told F (Shaped params ∷ xs) ys a b = all_told F xs ys a b
all_told F (Begun order ∷ xs) ys a b = all_told F xs ys a b
all_told F (Acked ∷ xs) ys a b = all_told F xs ys a b
all_told F (Refused status ∷ xs) ys a b = all_told F xs ys a b

-- what is told where that is so of a weaker thing
told_by : (F G : Type 0) (xs : List AbstractReply) → (F → G) → TellsIf F xs → TellsIf G xs
told_by F G [] f a = tt
told_by F G (Greeted ∷ xs) f a = told_by F G xs f a
told_by F G (Listed devices ∷ xs) f a = told_by F G xs f a
told_by F G (Opened ∷ xs) f a = (f a.0, told_by F G xs f a.1)
told_by F G (Challenged challenge ∷ xs) f a = told_by F G xs f a
told_by F G (Described descriptors ∷ xs) f a = told_by F G xs f a
told_by F G (Got value ∷ xs) f a = told_by F G xs f a
told_by F G (Gave value info ∷ xs) f a = told_by F G xs f a
told_by F G (Shaped params ∷ xs) f a = told_by F G xs f a
told_by F G (Begun order ∷ xs) f a = told_by F G xs f a
told_by F G (Acked ∷ xs) f a = told_by F G xs f a
told_by F G (Refused status ∷ xs) f a = told_by F G xs f a

-- ---- what a reply makes of it

hear_greeting : (F : Type 0) (job : AbstractJob) (m : ClientView) (r : AbstractReply) → OpenedAt F job.task (Running Greeting) → TellsIf F (r ∷ []) → OpenedAt F job.task (hear_at Greeting job m r).stage
hear_greeting F job m Greeted o t = greeted F job.task
hear_greeting F job m (Listed devices) o t = tt
hear_greeting F job m Opened o t = tt
hear_greeting F job m (Challenged challenge) o t = tt
hear_greeting F job m (Described descriptors) o t = tt
hear_greeting F job m (Got value) o t = tt
hear_greeting F job m (Gave value info) o t = tt
hear_greeting F job m (Shaped params) o t = tt
hear_greeting F job m (Begun order) o t = tt
hear_greeting F job m Acked o t = tt
hear_greeting F job m (Refused status) o t = tt

hear_listing : (F : Type 0) (job : AbstractJob) (m : ClientView) (r : AbstractReply) → OpenedAt F job.task (Running Listing) → TellsIf F (r ∷ []) → OpenedAt F job.task (hear_at Listing job m r).stage
hear_listing F job m Greeted o t = tt
hear_listing F job m (Listed devices) o t = listed_done F job.task o
hear_listing F job m Opened o t = tt
hear_listing F job m (Challenged challenge) o t = tt
hear_listing F job m (Described descriptors) o t = tt
hear_listing F job m (Got value) o t = tt
hear_listing F job m (Gave value info) o t = tt
hear_listing F job m (Shaped params) o t = tt
hear_listing F job m (Begun order) o t = tt
hear_listing F job m Acked o t = tt
hear_listing F job m (Refused status) o t = tt

hear_opening : (F : Type 0) (job : AbstractJob) (m : ClientView) (r : AbstractReply) → OpenedAt F job.task (Running Opening) → TellsIf F (r ∷ []) → OpenedAt F job.task (hear_at Opening job m r).stage
hear_opening F job m Greeted o t = tt
hear_opening F job m (Listed devices) o t = tt
hear_opening F job m Opened o t = t.0
hear_opening F job m (Challenged challenge) o t = tt
hear_opening F job m (Described descriptors) o t = tt
hear_opening F job m (Got value) o t = tt
hear_opening F job m (Gave value info) o t = tt
hear_opening F job m (Shaped params) o t = tt
hear_opening F job m (Begun order) o t = tt
hear_opening F job m Acked o t = tt
hear_opening F job m (Refused status) o t = tt

hear_allowing : (F : Type 0) (answered : Challenge) (job : AbstractJob) (m : ClientView) (r : AbstractReply) → OpenedAt F job.task (Running (Allowing answered)) → TellsIf F (r ∷ []) → OpenedAt F job.task (hear_at (Allowing answered) job m r).stage
hear_allowing F answered job m Greeted o t = tt
hear_allowing F answered job m (Listed devices) o t = tt
hear_allowing F answered job m Opened o t = t.0
hear_allowing F answered job m (Challenged challenge) o t = tt
hear_allowing F answered job m (Described descriptors) o t = tt
hear_allowing F answered job m (Got value) o t = tt
hear_allowing F answered job m (Gave value info) o t = tt
hear_allowing F answered job m (Shaped params) o t = tt
hear_allowing F answered job m (Begun order) o t = tt
hear_allowing F answered job m Acked o t = tt
hear_allowing F answered job m (Refused status) o t = tt

heard : (F : Type 0) (g : AbstractProgress) (job : AbstractJob) (m : ClientView) (r : AbstractReply) → OpenedAt F job.task (Running g) → TellsIf F (r ∷ []) → OpenedAt F job.task (hear_at g job m r).stage
heard F Greeting job m r o t = hear_greeting F job m r o t
heard F Listing job m r o t = hear_listing F job m r o t
heard F Opening job m r o t = hear_opening F job m r o t
heard F (Allowing answered) job m r o t = hear_allowing F answered job m r o t
heard F (Describing left) job m r o t = went_on F job.task (hear_at (Describing left) job m r).stage o
heard F (Putting n value requested left) job m r o t = went_on F job.task (hear_at (Putting n value requested left) job m r).stage o
heard F (Getting n left) job m r o t = went_on F job.task (hear_at (Getting n left) job m r).stage o
heard F Starting job m r o t = went_on F job.task (hear_at Starting job m r).stage o
heard F Shaping job m r o t = went_on F job.task (hear_at Shaping job m r).stage o
heard F (Imaging params got) job m r o t = went_on F job.task (hear_at (Imaging params got) job m r).stage o

heard_in : (F : Type 0) (stage : JobStage) (job : AbstractJob) (m : ClientView) (r : AbstractReply) → m.stage ≡ stage → OpenedAt F job.task stage → TellsIf F (r ∷ []) → OpenedAt F job.task (hear_in stage job m r).stage
heard_in F Idle job m r at o t = subst (OpenedAt F job.task) (sym at) o
heard_in F (Running g) job m r at o t = heard F g job m r o t
heard_in F Done job m r at o t = subst (OpenedAt F job.task) (sym at) o
heard_in F (Ended status why) job m r at o t = subst (OpenedAt F job.task) (sym at) o

-- ---- what bytes, and the end, of a frame make of it

read_on : (F : Type 0) (task : AbstractTask) (stage : JobStage) (m : ClientView) (bytes : List ℕ) → m.stage ≡ stage → OpenedAt F task stage → OpenedAt F task (client_after_bytes stage m bytes).stage
read_on F task (Running (Imaging params got)) m bytes at o = went_on F task (client_after_bytes (Running (Imaging params got)) m bytes).stage o
read_on F task Idle m bytes at o = subst (OpenedAt F task) (sym at) o
read_on F task (Running Greeting) m bytes at o = subst (OpenedAt F task) (sym at) o
read_on F task (Running Listing) m bytes at o = subst (OpenedAt F task) (sym at) o
read_on F task (Running Opening) m bytes at o = subst (OpenedAt F task) (sym at) o
read_on F task (Running (Allowing challenge)) m bytes at o = subst (OpenedAt F task) (sym at) o
read_on F task (Running (Describing left)) m bytes at o = subst (OpenedAt F task) (sym at) o
read_on F task (Running (Putting n value requested left)) m bytes at o = subst (OpenedAt F task) (sym at) o
read_on F task (Running (Getting n left)) m bytes at o = subst (OpenedAt F task) (sym at) o
read_on F task (Running Starting) m bytes at o = subst (OpenedAt F task) (sym at) o
read_on F task (Running Shaping) m bytes at o = subst (OpenedAt F task) (sym at) o
read_on F task Done m bytes at o = subst (OpenedAt F task) (sym at) o
read_on F task (Ended status why) m bytes at o = subst (OpenedAt F task) (sym at) o

finished_so : (F : Type 0) (task : AbstractTask) (stage : JobStage) (m : ClientView) (status : _) → m.stage ≡ stage → OpenedAt F task stage → OpenedAt F task (finish_in stage task m status).stage
finished_so F task (Running (Imaging params got)) m status at o = went_on F task (finish_in (Running (Imaging params got)) task m status).stage o
finished_so F task Idle m status at o = subst (OpenedAt F task) (sym at) o
finished_so F task (Running Greeting) m status at o = subst (OpenedAt F task) (sym at) o
finished_so F task (Running Listing) m status at o = subst (OpenedAt F task) (sym at) o
finished_so F task (Running Opening) m status at o = subst (OpenedAt F task) (sym at) o
finished_so F task (Running (Allowing challenge)) m status at o = subst (OpenedAt F task) (sym at) o
finished_so F task (Running (Describing left)) m status at o = subst (OpenedAt F task) (sym at) o
finished_so F task (Running (Putting n value requested left)) m status at o = subst (OpenedAt F task) (sym at) o
finished_so F task (Running (Getting n left)) m status at o = subst (OpenedAt F task) (sym at) o
finished_so F task (Running Starting) m status at o = subst (OpenedAt F task) (sym at) o
finished_so F task (Running Shaping) m status at o = subst (OpenedAt F task) (sym at) o
finished_so F task Done m status at o = subst (OpenedAt F task) (sym at) o
finished_so F task (Ended status_was why) m status at o = subst (OpenedAt F task) (sym at) o

stopped_so : (F : Type 0) (task : AbstractTask) (status : Status) (why : Why) (stage : JobStage) → OpenedAt F task stage → OpenedAt F task (stage_after_stop status why stage)
stopped_so F task status why Idle o = tt
stopped_so F task status why (Running g) o = tt
stopped_so F task status why Done o = o
stopped_so F task status why (Ended earlier reason) o = tt

-- ---- one step

-- of what its client waits for, and of the replies that are due to it
abbrev pub OpenedSo : Type 0 → JobState → Type 0
OpenedSo F p = OpenedAt F p.session.job.task p.client.stage × TellsIf F p.due

answers_so : (F : Type 0) (i : ℕ) (k : Make) (ds : List ℕ) (p : JobState) (dev : AbstractDevice) (challenge : Challenge) (fault : Option FailureCounts) (qs : List AbstractRequest) → p.todo ≡ qs →
    ((q : AbstractRequest) (rest : List AbstractRequest) → p.todo ≡ q ∷ rest → Grants i (served_by i k ds p dev challenge fault q) dev p.session.awaited (environment_of p.session ds challenge fault) q → F) → OpenedSo F p → OpenedSo F (answer_next i k ds p dev challenge fault qs)
answers_so F i k ds p dev challenge fault [] todo f o = o
answers_so F i k ds p dev challenge fault (q ∷ rest) todo f o =
    let x = environment_of p.session ds challenge fault in
    let told = answer_grants i k dev p.session.transfer p.session.awaited x q in
    (o.0, all_told F p.due (served_by i k ds p dev challenge fault q).told o.1 (told_by (Grants i (served_by i k ds p dev challenge fault q) dev p.session.awaited x q) F (served_by i k ds p dev challenge fault q).told (f q rest todo) told))

hears_so : (F : Type 0) (p : JobState) (r : AbstractReply) → ((rest : List AbstractReply) × (p.due ≡ r ∷ rest)) → OpenedSo F p → OpenedAt F p.session.job.task (hear_in p.client.stage p.session.job p.client r).stage × TellsIf F (without_first p.due)
hears_so F p r (rest, is) o =
    let t : TellsIf F (r ∷ rest) = subst (TellsIf F) is o.1 in
    (heard_in F p.client.stage p.session.job p.client r refl o.0 (first_told F r rest t), subst (TellsIf F) (ap without_first (sym is)) (rest_told F r rest t))

own_so : (F : Type 0) (i : ℕ) (k : Make) (ds : List ℕ) (p : JobState) (dev : AbstractDevice) (x : Action) → IsActionEnabled i k p dev x →
    ((challenge : Challenge) (fault : Option FailureCounts) → x ≡ Actions.Answers challenge fault → (q : AbstractRequest) (rest : List AbstractRequest) → p.todo ≡ q ∷ rest → Grants i (served_by i k ds p dev challenge fault q) dev p.session.awaited (environment_of p.session ds challenge fault) q → F) → OpenedSo F p → OpenedSo F (job_after_action i k ds p dev x)
own_so F i k ds p dev Actions.Connects may f o = (tt, o.1)
own_so F i k ds p dev (Actions.Answers challenge fault) may f o = answers_so F i k ds p dev challenge fault p.todo refl (f challenge fault refl) o
own_so F i k ds p dev (Actions.Hears reply) may f o = hears_so F p reply may.1 o
own_so F i k ds p dev Actions.Dials may f o = o
own_so F i k ds p dev (Actions.Turns bytes) may f o = o
own_so F i k ds p dev Actions.TurnsLast may f o = o
own_so F i k ds p dev (Actions.TurnsNamed status) may f o = o
own_so F i k ds p dev Actions.TurnsShort may f o = o
own_so F i k ds p dev (Actions.TurnsFault fault) may f o = o
own_so F i k ds p dev Actions.TurnsOff may f o = o
own_so F i k ds p dev (Actions.Reads bytes) may f o = (read_on F p.session.job.task p.client.stage p.client bytes refl o.0, o.1)
own_so F i k ds p dev (Actions.Finishes status) may f o = (finished_so F p.session.job.task p.client.stage p.client status refl o.0, o.1)
own_so F i k ds p dev (Actions.Loses memory) may f o = (stopped_so F p.session.job.task IoError Lost p.client.stage o.0, tt)
own_so F i k ds p dev (Actions.LosesImage memory) may f o = (stopped_so F p.session.job.task IoError Lost p.client.stage o.0, o.1)
own_so F i k ds p dev (Actions.Breaks memory) may f o = (o.0, tt)
own_so F i k ds p dev Actions.RunsOutOfMemory may f o = (stopped_so F p.session.job.task NoMem Memory p.client.stage o.0, o.1)
own_so F i k ds p dev Actions.Stops may f o = (stopped_so F p.session.job.task statuses.Cancelled Cancelled p.client.stage o.0, o.1)

-- ---- all steps; of a job that is over, what was so at its end

abbrev pub Kept : Type 0 → JobState → JobStage → Type 0
Kept F p Idle = OpenedSo F p
Kept F p (Running g) = OpenedSo F p
Kept F p Done = OpenedAt F p.session.job.task Done
Kept F p (Ended status why) = Unit {0}

kept_of : (F : Type 0) (p : JobState) (stage : JobStage) → p.client.stage ≡ stage → OpenedSo F p → Kept F p stage
kept_of F p Idle at o = o
kept_of F p (Running g) at o = o
kept_of F p Done at o = subst (OpenedAt F p.session.job.task) at o.0
kept_of F p (Ended status why) at o = tt

abbrev pub KeptNow : Type 0 → JobState → Type 0
KeptNow F p = Kept F p p.client.stage

-- of a job that is under way
pub under_so : (F : Type 0) (p : JobState) (stage : JobStage) → IsUnderWay stage → Kept F p stage → OpenedSo F p
under_so F p Idle on k = k
under_so F p (Running g) on k = k
under_so F p Done on k = absurd on
under_so F p (Ended status why) on k = absurd on

under_step : (h : History) (w : WorldCore) (i : ℕ) (job : Job) (s : SystemState) (x : Action) → Here h i job s → IsUnderWay (s.job i).client.stage → AnsweredSo h w job s (By i x) → IsEnabled s (By i x) → OpenedSo (IsOpened h w i job) (s.job i) → KeptNow (IsOpened h w i job) ((after_transition s (By i x)).job i)
under_step h w i job s x e on so may o =
    let F = IsOpened h w i job in
    let p = s.job i in
    let then_is = own_so F i (make_for s i) (listed_devices s) p (device_for s i) x may (λ challenge fault is q rest todo g.
    let front : AnswersAt h w job s i challenge fault = (subst (λ (y : Action). AnsweredSo h w job s (By i y)) is so) on in
    let served : p.served ≡ true = (subst (λ (y : Action). IsActionEnabled i (make_for s i) p (device_for s i) y) is may).0 in
    opened_by h w i job s challenge fault (environment_of p.session (listed_devices s) challenge fault) q rest e on served front todo refl refl g) o in
    subst (KeptNow F) (sym (own_party s i x)) (kept_of F (job_after_action i (make_for s i) (listed_devices s) p (device_for s i) x) _ refl then_is)

over_step : Laws → (F : Type 0) (s : SystemState) (i : ℕ) (x : Action) (stage : JobStage) → (s.job i).client.stage ≡ stage → (IsUnderWay stage → ⊥) → IsEnabled s (By i x) → Kept F (s.job i) stage → KeptNow F ((after_transition s (By i x)).job i)
over_step laws F s i x Idle at off may k = absurd (off tt)
over_step laws F s i x (Running g) at off may k = absurd (off tt)
over_step laws F s i x Done at off may k =
    let stays : ((after_transition s (By i x)).job i).client.stage ≡ Done = ap (λ (m : ClientView). m.stage) (laws.last s i x may (λ on. off (subst IsUnderWay at on))) ∙ at in
    let job : ((after_transition s (By i x)).job i).session.job ≡ (s.job i).session.job = ap (λ (p : JobState). p.session.job) (own_party s i x) ∙ job_stays i (make_for s i) (listed_devices s) (s.job i) (device_for s i) x in
    subst (Kept F ((after_transition s (By i x)).job i)) (sym stays) (subst (λ (j : AbstractJob). OpenedAt F j.task Done) (sym job) k)
over_step laws F s i x (Ended status why) at off may k =
    let stays : ((after_transition s (By i x)).job i).client.stage ≡ Ended status why = ap (λ (m : ClientView). m.stage) (laws.last s i x may (λ on. off (subst IsUnderWay at on))) ∙ at in
    subst (Kept F ((after_transition s (By i x)).job i)) (sym stays) tt

own_step : Laws → (h : History) (w : WorldCore) (i : ℕ) (job : Job) (s : SystemState) (x : Action) (stage : JobStage) → (s.job i).client.stage ≡ stage → Here h i job s → AnsweredSo h w job s (By i x) → IsEnabled s (By i x) → Kept (IsOpened h w i job) (s.job i) stage → KeptNow (IsOpened h w i job) ((after_transition s (By i x)).job i)
own_step laws h w i job s x Idle at e so may k = under_step h w i job s x e (subst IsUnderWay (sym at) tt) so may k
own_step laws h w i job s x (Running g) at e so may k = under_step h w i job s x e (subst IsUnderWay (sym at) tt) so may k
own_step laws h w i job s x Done at e so may k = over_step laws (IsOpened h w i job) s i x Done at (λ on. on) may k
own_step laws h w i job s x (Ended status why) at e so may k = over_step laws (IsOpened h w i job) s i x (Ended status why) at (λ on. on) may k

abbrev pub KeptAt : History → WorldCore → ℕ → Job → SystemState → Type 0
KeptAt h w i job s = KeptNow (IsOpened h w i job) (s.job i)

by_step : Laws → (h : History) (w : WorldCore) (i : ℕ) (job : Job) (s : SystemState) (j : ℕ) (x : Action) (b : Bool) → eqb i j ≡ b → Here h i job s → AnsweredSo h w job s (By j x) → IsEnabled s (By j x) → KeptAt h w i job s → KeptAt h w i job (after_transition s (By j x))
by_step laws h w i job s j x false e here so may k = subst (KeptNow (IsOpened h w i job)) (sym (party_stays s j x i e)) k
by_step laws h w i job s j x true e here so may k =
    subst (λ (n : ℕ). AnsweredSo h w job s (By n x) → IsEnabled s (By n x) → KeptAt h w i job (after_transition s (By n x))) (eqb-true i j e)
    (λ r l. own_step laws h w i job s x (s.job i).client.stage refl here r l k) so may

pub one_step : Laws → (h : History) (w : WorldCore) (i : ℕ) (job : Job) (s : SystemState) (x : Transition) → Here h i job s → AnsweredSo h w job s x → IsEnabled s x → KeptAt h w i job s → KeptAt h w i job (after_transition s x)
one_step laws h w i job s (By j x) here so may k = by_step laws h w i job s j x (eqb i j) refl here so may k
one_step laws h w i job s (Loads d page) here so may k = k
one_step laws h w i job s (Unplugs d) here so may k = k
one_step laws h w i job s (Uses u d shown left) here so may k = k

all_steps : Laws → (h : History) (w : WorldCore) (i : ℕ) (job : Job) (xs : List Transition) (s : SystemState) → Here h i job s → AllByRecursion (IsOfOne h) xs → AllAlong (AnsweredSo h w job) s xs → IsHistory s xs → KeptAt h w i job s → KeptAt h w i job (after_all s xs)
all_steps laws h w i job [] s e of so may k = k
all_steps laws h w i job (x ∷ xs) s e of so may k =
    all_steps laws h w i job xs (after_transition s x) (here_then laws h w i job s x e of.0 may.0) of.1 so.1 may.1 (one_step laws h w i job s x e so.0 may.0 k)

-- a job that is done, and is no list, was opened
pub was_opened : Laws → (h : History) (w : WorldCore) (i : ℕ) (job : Job) (steps : List Transition) (s : SystemState) → Here h i job s → AllByRecursion (IsOfOne h) steps → AllAlong (AnsweredSo h w job) s steps → IsHistory s steps → KeptAt h w i job s →
    ((after_all s steps).job i).client.stage ≡ Done → ((after_all s steps).job i).session.job.task ≢ List_ → IsOpened h w i job
was_opened laws h w i job steps s e of so may first done other =
    subst (Kept (IsOpened h w i job) ((after_all s steps).job i)) done (all_steps laws h w i job steps s e of so may first) other
