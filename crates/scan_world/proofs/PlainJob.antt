-- A job that is alone on a flatbed or on a feeder, in whose way nothing stands.
use Rattle.std.specs.Prelude.{All, Contains, map, slice_get, ◌≢◌}
use Rattle.std.specs.List.{AllByRecursion}
use Rattle.std.proofs.Common.{◌≡◌, ◌∙◌, ℕ, zero, suc, List, [], ◌∷◌, true, false, Option, Some, None, inl, inr, refl, sym, ap, subst, arith}
use Rattle.sane_fixed.specs.declared.byte_order.ByteOrder.TheVariants.{Little}
use Rattle.md5_auth.specs.declared.users.Entry.{Entry}
use Rattle.page_picture.specs.Meaning.{meaning_of}
use Rattle.page_picture.specs.Source.{SourceState}
use Rattle.page_picture.specs.declared.scene.DeviceKind.{DeviceKind}
use Rattle.page_picture.specs.declared.scene.DeviceKind.TheVariants.{Feeder, Flatbed}
use Rattle.scan_frames.specs.declared.setup.Setup.{Setup}
use Rattle.device_api.specs.InForce.{Placement}
use Rattle.device_api.specs.State.{DeviceState, HeldPage, feeds, held_from}
use Rattle.device_api.specs.Values.{defaults}
use Rattle.virtual_scanner.specs.New.{new_device}
use Rattle.client_replies.specs.ProtocolStates.{scans}
use Rattle.scan_job.specs.declared.job.Job.{Job}
use Rattle.event_world.specs.declared.event.Event.TheVariants.{Load}
use Rattle.strangers.specs.Together.JointEvent.{OfJobs, OfStranger}
use Rattle.scan_world.specs.Clear.{FeederIsClear, IsAllowedAlways, IsClear, IsSupplied, PlainIsClear}
use Rattle.scan_world.specs.Histories.{History, begun}
use Rattle.scan_world.specs.Page.{CameFor, Settled}
use Rattle.scan_world.specs.Page.CameFor.{AtFirst, WithEvent}
use Rattle.scan_world.specs.Settings.{AreSettingsPut, PutsInForce}
use Rattle.scan_world.proofs.Examples.{contains_one}
use Rattle.scan_world.proofs.Lists.{In, in_list}
use Rattle.scan_world.proofs.Nearest.{forced_is}
use Rattle.scan_world.proofs.Settings.{all_nearest}

abbrev plain_device : DeviceKind → List ℕ → List SourceState → DeviceState
plain_device k name sources = new_device k name sources Little

abbrev plain_history : DeviceKind → List ℕ → List SourceState → List Entry → List ℕ → Job → History
plain_history k name sources users seed job = begun (plain_device k name sources ∷ []) users seed (job ∷ [])

no_member : {X : Type 0} (x : X) → Contains [] x → ⊥
no_member x (k, within, is) = omega (arith, within)

only_job : (job other : Job) (j : ℕ) → slice_get (job ∷ []) j ≡ Some other → j ≡ 0
only_job job other zero at = refl
only_job job other (suc j) at = absurd (let clash : None ≡ Some other = at in cc)

-- what is so of each of these sources is so of each page that came
each_held : (P : HeldPage → Type 0) (sources : List SourceState) → AllByRecursion (λ (s : SourceState). P (held_from s)) sources → (held : HeldPage) → In held (map held_from sources) → P held
each_held P [] all held among = absurd among
each_held P (s ∷ sources) all held (inl same) = subst P (sym same) all.0
each_held P (s ∷ sources) all held (inr among) = each_held P sources all.1 held among

page_so : (P : HeldPage → Type 0) (k : DeviceKind) (name : List ℕ) (sources : List SourceState) (users : List Entry) (seed : List ℕ) (job : Job) → AllByRecursion (λ (s : SourceState). P (held_from s)) sources → (held : HeldPage) → CameFor (plain_history k name sources users seed job) job.device held → P held
page_so P k name sources users seed job all held (AtFirst device there named among) =
    let same : plain_device k name sources ≡ device = contains_one (plain_device k name sources) device there in
    each_held P sources all held (in_list (map held_from sources) held (subst (λ (d : DeviceState). Contains d.pages held) (sym same) among))
page_so P k name sources users seed job all held (WithEvent laid there is) = absurd (no_member (OfJobs (Load job.device laid)) there)

-- the settings put nothing else in force
one_setup : (items : List (List ℕ × List ℕ)) (s t u : Setup) (placed others : List Placement) → AreSettingsPut s items placed t → AreSettingsPut s items others u → u ≡ t
one_setup items s t u placed others put other =
    let a = forced_is items s placed t (all_nearest items s placed t put) in
    let b = forced_is items s others u (all_nearest items s others u other) in
    let both : ◌≡◌ {A = Option (Setup × List Placement)} (Some (u, others)) (Some (t, placed)) = sym b ∙ a in
    let pair : ◌≡◌ {A = Setup × List Placement} (u, others) (t, placed) = cc in
    ap (λ (x : Setup × List Placement). x.0) pair

setup_is : (k : DeviceKind) (name : List ℕ) (sources : List SourceState) (users : List Entry) (seed : List ℕ) (job : Job) (setup : Setup) → PutsInForce k job.settings.items setup → (s : Settled (plain_history k name sources users seed job) job) → s.setup ≡ setup
unfolding defaults
setup_is k name sources users seed job setup puts s =
    let same : plain_device k name sources ≡ s.device = contains_one (plain_device k name sources) s.device s.is_there in
    one_setup job.settings.items (defaults k Little) setup s.setup puts.placed s.placed puts.put (subst (λ (d : DeviceState). AreSettingsPut (defaults d.setup.scene.kind d.setup.order) job.settings.items s.placed s.setup) (sym same) s.in_force)

put_there : (k : DeviceKind) (name : List ℕ) (sources : List SourceState) (job : Job) (setup : Setup) (placed : List Placement) → AreSettingsPut (defaults k Little) job.settings.items placed setup → AreSettingsPut (defaults (plain_device k name sources).setup.scene.kind (plain_device k name sources).setup.order) job.settings.items placed setup
unfolding defaults
put_there k name sources job setup placed put = put

-- a page of it means a picture with these options
abbrev Means : Setup → HeldPage → Type 0
Means setup held = meaning_of held.page setup.scene ≢ None

clear_on : (k : DeviceKind) (name : List ℕ) (sources : List SourceState) (users : List Entry) (seed : List ℕ) (job : Job) (setup : Setup) → job.device ≡ name → PutsInForce k job.settings.items setup → AllByRecursion (λ (s : SourceState). s.infallible ≡ true) sources → AllByRecursion (λ (s : SourceState). Means setup (held_from s)) sources → IsAllowedAlways users job →
    (scans job.task ≡ true → feeds (plain_device k name sources) ≡ true → IsSupplied (plain_history k name sources users seed job) 0 job (plain_device k name sources) (λ (j : ℕ). j ≡ 0)) → IsClear (plain_history k name sources users seed job) 0 job (λ (j : ℕ). j ≡ 0)
clear_on k name sources users seed job setup named puts firm meant allowed supplied =
    let device = plain_device k name sources in
    record {
      device = device;
      is_there = (0, omega arith, refl);
      named = sym named;
      supplied = supplied;
      alone = λ j other at same. only_job job other j at;
      forced = λ unforced. unforced.1 (record { device = device; is_there = (0, omega arith, refl); named = sym named; setup = setup; placed = puts.placed; in_force = put_there k name sources job setup puts.placed puts.put });
      unnamed = λ s. ap (λ (t : Setup). t.told) (setup_is k name sources users seed job setup puts s) ∙ puts.unnamed;
      meant = λ scanning s held came is. page_so (Means setup) k name sources users seed job meant held came (ap (λ (t : Setup). meaning_of held.page t.scene) (sym (setup_is k name sources users seed job setup puts s)) ∙ is);
      firm = λ scanning held came. page_so (λ (x : HeldPage). x.infallible ≡ true) k name sources users seed job firm held came;
      allowed = allowed;
      left = λ event there. absurd (no_member (OfJobs event) there);
      undisturbed = λ a there. no_member (OfStranger a) there;
    }

no_feeder : (name : List ℕ) (sources : List SourceState) → feeds (plain_device Flatbed name sources) ≡ true → ⊥
unfolding defaults
no_feeder name sources feeder = let clash : false ≡ true = feeder in cc

pub plain_is_clear : PlainIsClear
plain_is_clear name source users seed job setup named puts firm meant allowed = clear_on Flatbed name (source ∷ []) users seed job setup named puts (firm, tt) (meant, tt) allowed (λ scanning feeder. absurd (no_feeder name (source ∷ []) feeder))

each_is : {X : Type 0} (P : X → Type 0) (xs : List X) → All P xs → AllByRecursion P xs
each_is P [] h = tt
each_is P (x ∷ xs) h = (h 0 x (omega arith), each_is P xs (λ k d low. h (suc k) d (omega (arith, low))))

some_pages : (sources : List SourceState) → sources ≢ [] → map (λ (held : HeldPage). held.page) (map held_from sources) ≢ []
some_pages [] some none = some refl
some_pages (s ∷ sources) some none = let clash : s.page ∷ map (λ (held : HeldPage). held.page) (map held_from sources) ≡ [] = none in cc

pub feeder_is_clear : FeederIsClear
feeder_is_clear name sources users seed job setup named puts some firm meant allowed =
    clear_on Feeder name sources users seed job setup named puts (each_is (λ (s : SourceState). s.infallible ≡ true) sources firm) (each_is (λ (s : SourceState). Means setup (held_from s)) sources meant) allowed
    (λ scanning feeder. record { some = some_pages sources some; only = λ j same. same; unladen = λ source among. no_member (OfJobs (Load job.device source)) among })
