-- Pages that are laid in, and devices that are unplugged.
use Rattle.std.proofs.Common.{inl, inr, ◌⊎◌, ◌≡◌, ◌∙◌, ℕ, zero, suc, List, [], ◌∷◌, Bool, true, false, Option, Some, None, refl, sym, ap, subst, length, slice_get, arith}
use Rattle.std.specs.Prelude.{Result, Ok, Err, ◌&&◌, ◌||◌, not, nat_lt, if◌then◌else◌}
use Rattle.sane_fixed.specs.declared.status.Status.{Status as Code}
use Rattle.sane_fixed.specs.declared.status.Status.TheVariants as code
use Rattle.page_picture.specs.Page.{PageView}
use Rattle.page_picture.specs.Source.{SourceState}
use Rattle.page_picture.specs.declared.scene.DeviceKind.{DeviceKind}
use Rattle.scan_frames.specs.Frames.{frames_of}
use Rattle.device_api.specs.Kinds.{is_feeder, has_room, laid_in}
use Rattle.device_api.specs.State.{DeviceState, HeldPage as Page, Phase as AnyPhase, after_load as page_loaded, feeds, held_from, is_at_rest, page_of, pages_with, takes_page, tray_room}
use Rattle.device_api.specs.State.Phase.{AtRest as Rest, Between as Amid, Reading as Read}
use Rattle.device_api.proofs.KindLaws.{laid_is, room_is}
use Rattle.dispatch.specs.declared.table.place.Slot.{Slot}
use Rattle.dispatch.specs.declared.table.place.Slot.TheVariants.{In, Out, Gone}
use Rattle.dispatch.specs.declared.table.place.Place.{Place}
use Rattle.dispatch.specs.Table.{Table, table_after_load, after_unplug, find_name, held_at, load_answer, load_at, load_of, loaded_at, loaded_slot, slot_load, unplug_answer, unplug_at, unplug_of, unplugged_at, unplugged_of, with_loaded, with_slot}
use Rattle.saned_requests.specs.Holding.{held_by}
use Rattle.saned_requests.proofs.LeaseWords.{held_by-own_past}
use Rattle.scan_laws.specs.Passes as scan
use Rattle.system_model.specs.Devices.{Make}
use Rattle.system_model.specs.AbstractDevices.{AbstractDevice, ScanPhase, Resting, is_resting}
use Rattle.system_model.specs.SystemStates.{with_entry}
use Rattle.system_model.specs.Transitions.{with_page_laid_in, without_listing}
use Rattle.daemon_refines.specs.ContextRefinement.{SlotRefines, TableRefines, phase_at, abstract_device, abstract_device_as, page_views, pages_to_come, tray_of, HasSource}
use Rattle.daemon_refines.specs.TableRefinement.{LoadsAgree, PagesAgree, RefusalsAgree, TableLoaded, TableUnplugged, UnplugsAgree}
use Rattle.daemon_refines.proofs.Sources.{laid_sources}
use Rattle.daemon_refines.proofs.Changes.{Held, changed, shown_as, shown_by}
use Rattle.daemon_refines.proofs.WordsAndPlaces.{put_other, put_same, with_new}
use Rattle.daemon_refines.proofs.Moved.{put_elsewhere, put_there, unsome}
use Rattle.daemon_refines.proofs.OpenSteps.{found_slot, held_there, in_or_out}
use Rattle.daemon_refines.proofs.Scanning.{rests}

-- ---- a page

-- what takes a page is at rest, and has room
both_true : (a b : Bool) → (a && b) ≡ true → (a ≡ true) × (b ≡ true)
both_true true b e = (refl, e)
both_true false b e = absurd (cc)

views_with : (feeder : Bool) (pages : List Page) (page : Page) → pages_with feeder (page_views pages) page.page ≡ page_views (pages_with feeder pages page)
views_with false pages page = refl
views_with true [] page = refl
views_with true (held ∷ pages) page = ap (λ (t : List PageView). held.page ∷ t) (views_with true pages page)

laid : (kind : DeviceKind) (pages : List Page) (page : Page) → laid_in kind page.page (page_views pages) ≡ page_views (pages_with (is_feeder kind) pages page)
laid kind pages page = laid_is kind page.page (page_views pages) ∙ views_with (is_feeder kind) pages page

same_count : (pages : List Page) → length (page_views pages) ≡ length pages
same_count [] = refl
same_count (held ∷ pages) = ap suc (same_count pages)

has_room_is : (kind : DeviceKind) (pages : List Page) → has_room kind (page_views pages) ≡ (not (is_feeder kind) || nat_lt (length pages) tray_room)
has_room_is kind pages = room_is kind (page_views pages) ∙ ap (λ (n : ℕ). not (is_feeder kind) || nat_lt n tray_room) (same_count pages)

resting_tray : (phase : AnyPhase) (s : DeviceState) → is_at_rest phase ≡ true → pages_to_come phase s ≡ s.pages
resting_tray (Rest c) s e = refl
resting_tray (Amid ended) s e = absurd (cc)
resting_tray (Read pass given) s e = absurd (cc)

resting_phase : (phase : AnyPhase) (s : DeviceState) → is_at_rest phase ≡ true → phase_at (scan.scan_place_in phase (frames_of s.setup (page_of s))) ≡ Resting
resting_phase (Rest c) s e = refl
resting_phase (Amid ended) s e = absurd (cc)
resting_phase (Read pass given) s e = absurd (cc)

rest_in_scan : (phase : AnyPhase) (s t : DeviceState) → t.phase ≡ phase → is_at_rest phase ≡ true → scan.IsInScan t
rest_in_scan (Rest c) s t e rest = record { phase = subst (λ (p : AnyPhase). scan.IsPhaseOf p t.setup (page_of t)) (sym e) tt; page = λ moves. absurd (let clash : true ≡ false = sym (ap is_at_rest e) ∙ moves in cc) }
rest_in_scan (Amid ended) s t e rest = absurd (cc)
rest_in_scan (Read pass given) s t e rest = absurd (cc)

pub pages_agree : PagesAgree
pages_agree k s source holder made firm takes =
    let both = both_true (is_at_rest s.phase) (not (feeds s) || nat_lt (length s.pages) tray_room) takes in
    let tray : tray_of s ≡ page_views s.pages = ap page_views (resting_tray s.phase s both.0) in
    let next = page_loaded s source in
    record {
      at_rest = resting_phase s.phase s both.0;
      room = ap (λ (x : DeviceKind). has_room x (tray_of s)) made.kind ∙ ap (has_room s.setup.scene.kind) tray ∙ has_room_is s.setup.scene.kind s.pages ∙ both.1;
      device = ap (λ (x : DeviceKind). abstract_device_as holder s.setup (laid_in x source.page (tray_of s)) (abstract_device holder s).phase) made.kind
          ∙ ap (λ (t : List PageView). abstract_device_as holder s.setup (laid_in s.setup.scene.kind source.page t) (abstract_device holder s).phase) tray
          ∙ ap (λ (t : List PageView). abstract_device_as holder s.setup t (abstract_device holder s).phase) (laid s.setup.scene.kind s.pages (held_from source) ∙ sym (ap page_views (resting_tray s.phase next both.0)))
          ∙ ap (λ (p : ScanPhase). abstract_device_as holder s.setup (tray_of next) p) (resting_phase s.phase s both.0 ∙ sym (resting_phase s.phase next both.0));
      made = record { sources = laid_sources k (feeds s) s.pages (held_from source) firm made.sources; kind = made.kind; order = made.order; allowed = made.allowed; in_scan = rest_in_scan s.phase s next refl both.0 };
    }

pub refusals_agree : RefusalsAgree
refusals_agree k s holder made refused rest room =
    let at : is_at_rest s.phase ≡ true = sym (rests s made.in_scan) ∙ ap is_resting rest in
    let more : (not (feeds s) || nat_lt (length s.pages) tray_room) ≡ true =
    sym (has_room_is s.setup.scene.kind s.pages) ∙ sym (ap (has_room s.setup.scene.kind) (ap page_views (resting_tray s.phase s at))) ∙ sym (ap (λ (x : DeviceKind). has_room x (tray_of s)) made.kind) ∙ room in
    let clash : true ≡ false = sym (ap (λ (b : Bool). b && (not (feeds s) || nat_lt (length s.pages) tray_room)) at ∙ more) ∙ refused in
    absurd (cc)

-- ---- a place whose device is in

-- something else in a place that no word stands for
pub place_changed : (i : ℕ) (make : ℕ → Make) (held : Held) (registry : Table) (table : ℕ → AbstractDevice) (p : ℕ) (at : Place DeviceState) (s : DeviceState) (slot : Slot DeviceState) (dev : AbstractDevice) → TableRefines i make held registry table → slice_get registry p ≡ Some at → at.slot ≡ In s →
    SlotRefines i (make p) held p dev at.info.name slot → TableRefines i make held (with_slot registry p slot) (with_entry table p dev)
place_changed i make held registry table p at s slot dev old there in_it h =
    let w = length held in
    let none : held_by held w ≡ None = held_by-own_past held w (omega arith) in
    changed i make held registry table w p held (with_slot registry p slot) (with_entry table p dev) old (record {
      others = λ v n. refl;
      alone = λ v n away e same. in_or_out registry p at s n same there in_it (old.leases v n e).own;
      was = λ n e. absurd (let clash : None ≡ Some n = sym none ∙ e in cc);
      tables = λ k away. put_elsewhere table p dev k away;
      slots = λ k away. put_other registry p k slot away;
      now = λ n e. absurd (let clash : None ≡ Some n = sym none ∙ e in cc);
      here = shown_as i (make p) held p (with_entry table p dev p) (slice_get (with_slot registry p slot) p) (with_new at slot) slot (put_same registry p at slot there) refl
          (subst (λ (x : AbstractDevice). SlotRefines i (make p) held p x at.info.name slot) (sym (put_there table p dev)) h);
    })

-- ---- a page for it

loaded_table : (t : Table) (k : ℕ) (p : Place DeviceState) (source : SourceState) → slice_get t k ≡ Some p → with_loaded t k source ≡ with_slot t k (loaded_slot p.slot source)
unfolding with_loaded with_slot
loaded_table [] k p source e = refl
loaded_table (q ∷ t) zero p source e = let same : q ≡ p = unsome q p e in ap (λ (x : Place DeviceState). record { info = q.info; slot = loaded_slot x.slot source } ∷ t) same
loaded_table (q ∷ t) (suc k) p source e = ap (λ (x : Table). q ∷ x) (loaded_table t k p source e)

takes_it : (b : Bool) → ◌≡◌ {A = Result Unit Code} (if b then Ok tt else Err code.DeviceBusy) (Ok tt) → b ≡ true
takes_it true e = refl
takes_it false e = absurd (let clash : ◌≡◌ {A = Result Unit Code} (Err code.DeviceBusy) (Ok tt) = e in cc)

-- what is there, by what the load answers
load_here : (registry : Table) (k : ℕ) (p : Place DeviceState) (slot : Slot DeviceState) → slice_get registry k ≡ Some p → p.slot ≡ slot → load_at registry (Some k) ≡ load_of slot
load_here registry k p slot at e = ap slot_load at ∙ ap load_of e

loaded_behind : (name : List ℕ) (registry : Table) (k : ℕ) (p : Place DeviceState) (s : DeviceState) (source : SourceState) → find_name name registry ≡ Some k → slice_get registry k ≡ Some p → p.slot ≡ In s → takes_page s ≡ true →
    table_after_load registry name source ≡ with_slot registry k (In (page_loaded s source))
unfolding table_after_load
loaded_behind name registry k p s source found at e takes =
    ap (λ (o : Option ℕ). loaded_at registry o source) found ∙ loaded_table registry k p source at ∙ ap (λ (x : Slot DeviceState). with_slot registry k (loaded_slot x source)) e
    ∙ ap (λ (b : Bool). with_slot registry k (In (if b then page_loaded s source else s))) takes

load_in : (i : ℕ) (make : ℕ → Make) (held : Held) (registry : Table) (table : ℕ → AbstractDevice) (name : List ℕ) (source : SourceState) (k : ℕ) (p : Place DeviceState) (s : DeviceState) → TableRefines i make held registry table → ((k : ℕ) → find_name name registry ≡ Some k → HasSource (make k) (held_from source)) → find_name name registry ≡ Some k → slice_get registry k ≡ Some p → p.slot ≡ In s → takes_page s ≡ true →
    TableLoaded i make held registry table name source
load_in i make held registry table name source k p s old firm found at e takes =
    let shown : SlotRefines i (make k) held k (table k) p.info.name (In s) = shown_by i (make k) held k (table k) (slice_get registry k) p (In s) at e (old.places k) in
    let page = pages_agree (make k) s source None shown.1 (firm k found) takes in
    let dev = with_page_laid_in (make k) source.page (table k) in
    let dev_is : dev ≡ abstract_device None (page_loaded s source) = ap (with_page_laid_in (make k) source.page) shown.0 ∙ page.device in
    record {
      place = k;
      named = found;
      listed = ap (λ (t : AbstractDevice). t.listed) shown.0;
      at_rest = ap (λ (t : AbstractDevice). t.phase) shown.0 ∙ page.at_rest;
      room = ap (λ (t : AbstractDevice). has_room (make k).model t.tray) shown.0 ∙ page.room;
      shows = subst (λ (t : Table). TableRefines i make held t (with_entry table k dev)) (sym (loaded_behind name registry k p s source found at e takes))
          (place_changed i make held registry table k p s (In (page_loaded s source)) dev old at e (dev_is, page.made, shown.2));
    }

load_slot : (i : ℕ) (make : ℕ → Make) (held : Held) (registry : Table) (table : ℕ → AbstractDevice) (name : List ℕ) (source : SourceState) (k : ℕ) (p : Place DeviceState) → TableRefines i make held registry table → ((k : ℕ) → find_name name registry ≡ Some k → HasSource (make k) (held_from source)) → find_name name registry ≡ Some k → slice_get registry k ≡ Some p → ((s : DeviceState) × (p.slot ≡ In s)) ⊎ (p.slot ≡ Out) →
    load_at registry (Some k) ≡ Ok tt → TableLoaded i make held registry table name source
load_slot i make held registry table name source k p old firm found at (inl in_it) ok =
    load_in i make held registry table name source k p in_it.0 old firm found at in_it.1 (takes_it (takes_page in_it.0) (sym (load_here registry k p (In in_it.0) at in_it.1) ∙ ok))
load_slot i make held registry table name source k p old firm found at (inr out) ok = absurd (let clash : ◌≡◌ {A = Result Unit Code} (Err code.DeviceBusy) (Ok tt) = sym (load_here registry k p Out at out) ∙ ok in cc)

load_found : (i : ℕ) (make : ℕ → Make) (held : Held) (registry : Table) (table : ℕ → AbstractDevice) (name : List ℕ) (source : SourceState) (found : Option ℕ) → TableRefines i make held registry table → ((k : ℕ) → find_name name registry ≡ Some k → HasSource (make k) (held_from source)) → find_name name registry ≡ found → load_at registry found ≡ Ok tt → TableLoaded i make held registry table name source
load_found i make held registry table name source None old firm e ok = absurd (let clash : ◌≡◌ {A = Result Unit Code} (Err code.Inval) (Ok tt) = ok in cc)
load_found i make held registry table name source (Some k) old firm e ok =
    let there = found_slot name registry k e in load_slot i make held registry table name source k there.place old firm e there.at there.slot ok

pub loads_agree : LoadsAgree
unfolding load_answer
loads_agree i make held registry table name source old firm ok = load_found i make held registry table name source (find_name name registry) old firm refl ok

-- ---- an unplug

unplugged_behind : (name : List ℕ) (registry : Table) (k : ℕ) (s : DeviceState) → find_name name registry ≡ Some k → held_at registry k ≡ Some s → after_unplug registry name ≡ with_slot registry k Gone
unfolding after_unplug
unplugged_behind name registry k s found there = ap (λ (o : Option ℕ). unplugged_at registry o) found ∙ ap (unplugged_of registry k) there

unplug_in : (i : ℕ) (make : ℕ → Make) (held : Held) (registry : Table) (table : ℕ → AbstractDevice) (name : List ℕ) (k : ℕ) (p : Place DeviceState) (s : DeviceState) → TableRefines i make held registry table → find_name name registry ≡ Some k → slice_get registry k ≡ Some p → p.slot ≡ In s → TableUnplugged i make held registry table name
unplug_in i make held registry table name k p s old found at e =
    let shown : SlotRefines i (make k) held k (table k) p.info.name (In s) = shown_by i (make k) held k (table k) (slice_get registry k) p (In s) at e (old.places k) in
    let free : (table k).holder ≡ None = ap (λ (t : AbstractDevice). t.holder) shown.0 in
    record {
      place = k;
      named = found;
      listed = ap (λ (t : AbstractDevice). t.listed) shown.0;
      free = free;
      shows = subst (λ (t : Table). TableRefines i make held t (with_entry table k (without_listing (table k)))) (sym (unplugged_behind name registry k s found (held_there registry k p (In s) at e)))
          (place_changed i make held registry table k p s Gone (without_listing (table k)) old at e (refl, free));
    }

unplug_slot : (i : ℕ) (make : ℕ → Make) (held : Held) (registry : Table) (table : ℕ → AbstractDevice) (name : List ℕ) (k : ℕ) (p : Place DeviceState) (t : DeviceState) → TableRefines i make held registry table → find_name name registry ≡ Some k → slice_get registry k ≡ Some p → ((s : DeviceState) × (p.slot ≡ In s)) ⊎ (p.slot ≡ Out) →
    unplug_at registry (Some k) ≡ Ok t → TableUnplugged i make held registry table name
unplug_slot i make held registry table name k p t old found at (inl in_it) ok = unplug_in i make held registry table name k p in_it.0 old found at in_it.1
unplug_slot i make held registry table name k p t old found at (inr out) ok = absurd (let clash : ◌≡◌ {A = Result DeviceState Code} (Err code.DeviceBusy) (Ok t) = sym (ap unplug_of (held_there registry k p Out at out)) ∙ ok in cc)

unplug_found : (i : ℕ) (make : ℕ → Make) (held : Held) (registry : Table) (table : ℕ → AbstractDevice) (name : List ℕ) (t : DeviceState) (found : Option ℕ) → TableRefines i make held registry table → find_name name registry ≡ found → unplug_at registry found ≡ Ok t → TableUnplugged i make held registry table name
unplug_found i make held registry table name t None old e ok = absurd (let clash : ◌≡◌ {A = Result DeviceState Code} (Err code.Inval) (Ok t) = ok in cc)
unplug_found i make held registry table name t (Some k) old e ok =
    let there = found_slot name registry k e in unplug_slot i make held registry table name k there.place t old e there.at there.slot ok

pub unplugs_agree : UnplugsAgree
unfolding unplug_answer
unplugs_agree i make held registry table name t old ok = unplug_found i make held registry table name t (find_name name registry) old refl ok
