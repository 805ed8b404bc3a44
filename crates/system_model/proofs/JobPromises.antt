-- WHAT FOLLOWS FOR A JOB from what stands.
use Rattle.std.proofs.Common.{Bool, true, false, cond, inl, inr, ◌≡◌, ◌≢◌, ℕ, List, [], ◌∷◌, ◌++◌, Option, Some, None, refl, sym, subst, ap, length, arith}
use Rattle.page_picture.specs.Shows.{Frame}
use Rattle.option_desc.specs.declared.value.Value.{Value}
use Rattle.system_model.specs.AbstractMessages.{RequestedSetting, AbstractReport}
use Rattle.system_model.specs.Devices.{Make, OptionsInForce, AbstractAcceptedSet, default_options, descriptors_in_force, resolve_setting, accept_value}
use Rattle.system_model.specs.AbstractInForce.{SettingsResult, abstract_force, with_reports_before, put_then, setting_then, report_of, AreAnswered}
use Rattle.system_model.specs.Client.{JobStage, ClientView, Done, Ended, AbstractTask, List_, Show, SetOnly, Scan, Batch}
use Rattle.system_model.specs.AbstractDevices.{AbstractDevice, Begin}
use Rattle.system_model.specs.SystemStates.{listed_of, SessionView, JobState, SystemState, make_for, device_for}
use Rattle.system_model.specs.Sync.{AllInForce, IsPictureOfStart, ArePictures}
use Rattle.system_model.specs.Invariants.{StageInvariant, IsRightlyDone, Invariant}
use Rattle.system_model.specs.ModelPromises.{IsListing, ListingsAreTrue, InitialStateIsInvariant, HistoriesKeepInvariant, ScansAreRight, PagesAreRight, BatchPagesAreCounted, SettingsAreAnswered, DoneIsAllowed, ListsAreRight, ShowsAreRight, EndsAreCaused}
use Rattle.system_model.proofs.Laws.{is_nearest}
use Rattle.system_model.proofs.InvariantAfter

pub sound_after_all : HistoriesKeepInvariant
sound_after_all = InvariantAfter.sound_after_all

pub beginning_sound : InitialStateIsInvariant
beginning_sound make device job places free fit =
    record {
      exchanges = λ i. (
        refl,
        refl,
        refl,
        record {
          free = λ e. let f = free (job i).wants in cc;
          transfer = refl;
          flight = refl;
          ending = refl;
          awaits = refl;
          sent = refl;
          started = refl;
          shown = refl;
          reports = refl;
          values = refl;
          frames = refl;
          pages = refl;
        },
      );
      pages = λ i. record { begins = []; later = []; started = refl; pictures = tt };
      fit = fit;
    }

exchanged : (i : ℕ) (k : Make) (p : JobState) (dev : AbstractDevice) (st now : JobStage) → st ≡ now → StageInvariant i k p dev st → StageInvariant i k p dev now
exchanged i k p dev st now e h = subst (λ (x : JobStage). StageInvariant i k p dev x) e h

-- a job that is done, at its task
done : (s : SystemState) (i : ℕ) (task : AbstractTask) → Invariant s → (s.job i).client.stage ≡ Done → (s.job i).session.job.task ≡ task → IsRightlyDone (make_for s i) (s.job i).session (s.job i).client task
done s i task h e t =
    subst (λ (x : AbstractTask). IsRightlyDone (make_for s i) (s.job i).session (s.job i).client x) t
    (exchanged i (make_for s i) (s.job i) (device_for s i) (s.job i).client.stage Done e (h.exchanges i))

-- REPORTS
peeled : (r : AbstractReport) (f : Option SettingsResult) (o : OptionsInForce) (reports : List AbstractReport) → with_reports_before (r ∷ []) f ≡ Some (record { options = o; reports = reports }) →
    (more : List AbstractReport) × (reports ≡ r ∷ more) × (f ≡ Some (record { options = o; reports = more }))
peeled r None o reports e = cc
peeled r (Some f) o reports e =
    let p : record { options = f.options; reports = r ∷ f.reports } ≡ record { options = o; reports = reports } = cc in
    (f.reports, sym (ap (λ (x : SettingsResult). x.reports) p), ap (λ (x : SettingsResult). Some (record { options = x.options; reports = f.reports })) p)

-- the fold answers each setting with the nearest admitted value
put_answers : (k : Make) (at : OptionsInForce) (requested : RequestedSetting) (ws : List RequestedSetting) (n : ℕ) (asked : Value) (put : Option AbstractAcceptedSet) (o : OptionsInForce) (reports : List AbstractReport) →
    resolve_setting (descriptors_in_force k at) requested ≡ Some (n, asked) → accept_value k at n asked ≡ put → put_then (abstract_force ws k) requested asked put ≡ Some (record { options = o; reports = reports }) →
    ((rs : List AbstractReport) (from : OptionsInForce) → abstract_force ws k from ≡ Some (record { options = o; reports = rs }) → AreAnswered k ws rs) → AreAnswered k (requested ∷ ws) reports
put_answers k at requested ws n asked None o reports r p e rest = cc
put_answers k at requested ws n asked (Some put) o reports r p e rest =
    let q = peeled (report_of requested asked put) (abstract_force ws k put.options) o reports e in
    let x = is_nearest k at n asked put p in
    subst (λ rs. AreAnswered k (requested ∷ ws) rs) (sym q.1)
    ((at, record { number = n; is_setting = refl; asked = r; given = x.0; inexact = x.1 }), rest q.0 put.options q.2)

wish_answers : (k : Make) (at : OptionsInForce) (requested : RequestedSetting) (ws : List RequestedSetting) (r : Option (ℕ × Value)) (o : OptionsInForce) (reports : List AbstractReport) →
    resolve_setting (descriptors_in_force k at) requested ≡ r → setting_then (abstract_force ws k) k at requested r ≡ Some (record { options = o; reports = reports }) →
    ((rs : List AbstractReport) (from : OptionsInForce) → abstract_force ws k from ≡ Some (record { options = o; reports = rs }) → AreAnswered k ws rs) → AreAnswered k (requested ∷ ws) reports
wish_answers k at requested ws None o reports r e rest = cc
wish_answers k at requested ws (Some (n, asked)) o reports r e rest = put_answers k at requested ws n asked (accept_value k at n asked) o reports r refl e rest

same_reports : (a b : SettingsResult) → Some a ≡ Some b → a.reports ≡ b.reports
same_reports a b e = let p : a ≡ b = cc in ap (λ (x : SettingsResult). x.reports) p

no_report : (r : AbstractReport) (reports : List AbstractReport) → [] ≡ r ∷ reports → ⊥
no_report r reports e = cc

pub answers_all : (k : Make) (ws : List RequestedSetting) (at : OptionsInForce) (o : OptionsInForce) (reports : List AbstractReport) → abstract_force ws k at ≡ Some (record { options = o; reports = reports }) → AreAnswered k ws reports
answers_all k [] at o [] e = tt
answers_all k [] at o (r ∷ reports) e =
    absurd (no_report r reports (same_reports (record { options = at; reports = [] }) (record { options = o; reports = r ∷ reports }) e))
answers_all k (requested ∷ ws) at o reports e = wish_answers k at requested ws (resolve_setting (descriptors_in_force k at) requested) o reports refl e (λ rs from f. answers_all k ws from o rs f)

settled_at : (k : Make) (b : SessionView) (m : ClientView) (task : AbstractTask) → task ≢ List_ → IsRightlyDone k b m task → (o : OptionsInForce) × AllInForce k b.job b.sent m.reports o
settled_at k b m List_ n h = absurd (n refl)
settled_at k b m Show n h = (h.options, h.settled)
settled_at k b m SetOnly n h = h
settled_at k b m Scan n h = h.0
settled_at k b m (Batch l) n h = h.0

pub settings_answered : SettingsAreAnswered
settings_answered s i h e n =
    let a = settled_at (make_for s i) (s.job i).session (s.job i).client (s.job i).session.job.task n (done s i (s.job i).session.job.task h e refl) in
    answers_all (make_for s i) (s.job i).session.job.settings (default_options (make_for s i)) a.0 (s.job i).client.reports a.1.forced

pub done_allowed : DoneIsAllowed
done_allowed s i h e n = (settled_at (make_for s i) (s.job i).session (s.job i).client (s.job i).session.job.task n (done s i (s.job i).session.job.task h e refl)).1.permitted

-- PAGES
pub pages_right : PagesAreRight
pages_right s i h = let f = h.pages i in (f.begins, f.later, f.started, f.pictures)

one_page : (k : Make) (ws : List RequestedSetting) (starts begins later : List Begin) (pages : List (List Frame)) → length pages ≡ 1 → starts ≡ begins ++ later → ArePictures k ws begins pages →
    (begin : Begin) × (more : List Begin) × (frames : List Frame) × (starts ≡ begin ∷ more) × (pages ≡ frames ∷ []) × IsPictureOfStart k ws begin frames
one_page k ws starts [] later [] n s p = cc
one_page k ws starts [] later (page ∷ pages) n s p = absurd p
one_page k ws starts (b ∷ begins) later [] n s p = absurd p
one_page k ws starts (b ∷ []) later (page ∷ []) n s p = (b, later, page, s, refl, p.0)
one_page k ws starts (b ∷ c ∷ begins) later (page ∷ []) n s p = absurd p.1
one_page k ws starts (b ∷ begins) later (page ∷ other ∷ pages) n s p = absurd (omega arith)

pub scans_right : ScansAreRight
scans_right s i h e t =
    let f = h.pages i in
    one_page (make_for s i) (s.job i).session.job.settings (s.job i).session.started f.begins f.later (s.job i).client.pages (done s i Scan h e t).1 f.started f.pictures

pub batches_counted : BatchPagesAreCounted
batches_counted s i n h e t = (done s i (Batch n) h e t).1

-- LISTS AND SHOWS
pub lists_right : ListsAreRight
lists_right s i h e t = done s i List_ h e t

pub shows_right : ShowsAreRight
shows_right s i h e t = let a = done s i Show h e t in (a.options, a.settled, a.known, a.values)

-- ENDINGS
pub ends_caused : EndsAreCaused
ends_caused s i status why h e = exchanged i (make_for s i) (s.job i) (device_for s i) (s.job i).client.stage (Ended status why) e (h.exchanges i)

listing_if : (device : ℕ → AbstractDevice) (d : ℕ) (places rest : List ℕ) (x : Bool) → (device d).listed ≡ x → IsListing device places rest → IsListing device (d ∷ places) (cond x (d ∷ rest) rest)
listing_if device d places rest true e h = inl (e, (rest, refl, h))
listing_if device d places rest false e h = inr (e, h)

listing : (device : ℕ → AbstractDevice) (places : List ℕ) → IsListing device places (listed_of device places)
listing device [] = refl
listing device (d ∷ places) = listing_if device d places (listed_of device places) (device d).listed refl (listing device places)

pub listings_true : ListingsAreTrue
listings_true s = listing s.device s.places
