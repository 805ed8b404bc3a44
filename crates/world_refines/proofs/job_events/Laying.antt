-- A page for a device that a session holds.
use Rattle.std.specs.Prelude.{◌&&◌, if◌then◌else◌}
use Rattle.std.proofs.Common.{◌≡◌, ◌≢◌, ◌⊎◌, inl, inr, ◌∙◌, ℕ, zero, suc, [], ◌∷◌, Option, Some, Bool, true, false, eqb, refl, sym, ap, length}
use Rattle.page_picture.specs.Source.{SourceState}
use Rattle.device_api.specs.State.{DeviceState, after_load as page_loaded, takes_page, held_from}
use Rattle.device_api.specs.State.Phase.{Reading}
use Rattle.device_api.specs.State.{Phase as AnyPhase, is_at_rest}
use Rattle.dispatch.specs.declared.table.place.Lease.{Lease}
use Rattle.saned_requests.specs.declared.session.DataPhase.{DataPhase as WordCarriage}
use Rattle.saned_requests.specs.declared.session.DataPhase.TheVariants as word
use Rattle.saned_requests.specs.declared.session.Session.{Session as RequestSession}
use Rattle.saned_requests.specs.Holding.{free_word, held_by, on_word, with_device}
use Rattle.saned_requests.specs.RequestAnswers.{RequestContext}
use Rattle.saned_core.specs.Loading.{lease_with}
use Rattle.system_model.specs.Devices.{Make}
use Rattle.system_model.specs.AbstractDevices.{AbstractDevice}
use Rattle.system_model.specs.AbstractSessions.{AbstractSession}
use Rattle.system_model.specs.SystemStates.{with_entry}
use Rattle.daemon_refines.specs.ContextRefinement.{FrameIsRead, IsReadBy, ContextRefines, abstract_device, HasSource}
use Rattle.daemon_refines.proofs.Changes.{Held}
use Rattle.daemon_refines.proofs.DataLinks.{listed_by, still_awaited}
use Rattle.daemon_refines.proofs.WordsAndPlaces.{on_length, on_other, on_same}
use Rattle.daemon_refines.proofs.Moved.{Stays, moved_table, moved_words, unsome}
use Rattle.daemon_refines.proofs.OpenSteps.{free_same}
use Rattle.daemon_refines.proofs.TableRefinement.{pages_agree}
use Rattle.world_refines.proofs.job_events.Leasing.{laid}
use Rattle.world_refines.proofs.state.ListEntries.{is_same}

-- ---- what the lease is then

takes_it : (source : SourceState) (l : Lease DeviceState) → takes_page l.device ≡ true → lease_with source (Some l) ≡ Some (record l { device = page_loaded l.device source })
takes_it source l e = ap (λ (b : Bool). with_device l (if b then page_loaded l.device source else l.device)) e

takes_none : (source : SourceState) (l : Lease DeviceState) → takes_page l.device ≡ false → lease_with source (Some l) ≡ Some l
takes_none source l e = ap (λ (b : Bool). with_device l (if b then page_loaded l.device source else l.device)) e

-- a word whose lease stays leaves all as it is
pub on_self : (f : Option (Lease DeviceState) → Option (Lease DeviceState)) (held : Held) (w : ℕ) (l : Lease DeviceState) → held_by held w ≡ Some l → f (Some l) ≡ Some l → on_word f held w ≡ held
unfolding held_by on_word
on_self f [] w l e same = refl
on_self f (x ∷ held) zero l e same = ap (λ (y : Option (Lease DeviceState)). y ∷ held) (ap f e ∙ (same ∙ sym e))
on_self f (x ∷ held) (suc w) l e same = ap (λ (h : Held). x ∷ h) (on_self f held w l e same)

pub laid_none : (source : SourceState) (word : ℕ) (s : RequestSession DeviceState) (l : Lease DeviceState) → held_by s.held word ≡ Some l → takes_page l.device ≡ false → laid source word s ≡ s
laid_none source word s l e nay = ap (λ (h : Held). record s { held = h }) (on_self (lease_with source) s.held word l e (takes_none source l nay))

-- ---- a frame is of another word

resting : (phase : AnyPhase) (pass given : ℕ) → is_at_rest phase ≡ true → phase ≡ Reading pass given → ⊥
resting phase pass given rest e = let clash : false ≡ true = sym (ap is_at_rest e) ∙ rest in absurd (cc)

rests : (s : DeviceState) → takes_page s ≡ true → is_at_rest s.phase ≡ true
rests s e = first (is_at_rest s.phase) _ e
  where
    first : (a b : Bool) → (a && b) ≡ true → a ≡ true
    first true b e = refl
    first false b e = absurd (let clash : false ≡ true = e in cc)

read_still : (source : SourceState) (held : Held) (w v : ℕ) (l : Lease DeviceState) → held_by held w ≡ Some l → takes_page l.device ≡ true → (v ≡ w) ⊎ (v ≢ w) → IsReadBy held v → IsReadBy (on_word (lease_with source) held w) v
read_still source held w v l e takes (inl same) r =
    let is : r.lease ≡ l = unsome r.lease l (sym r.stands ∙ (ap (held_by held) same ∙ e)) in
    absurd (resting l.device.phase r.pass r.given (rests l.device takes) (ap (λ (x : Lease DeviceState). x.device.phase) (sym is) ∙ r.phase))
read_still source held w v l e takes (inr away) r = record { lease = r.lease; stands = on_other (lease_with source) held w v away ∙ r.stands; pass = r.pass; given = r.given; phase = r.phase }

frame_still : (source : SourceState) (c : WordCarriage) (held : Held) (w : ℕ) (l : Lease DeviceState) → held_by held w ≡ Some l → takes_page l.device ≡ true → FrameIsRead c held → FrameIsRead c (on_word (lease_with source) held w)
frame_still source word.Quiet held w l e takes h = tt
frame_still source (word.Waiting v) held w l e takes h = read_still source held w v l e takes (is_same v w) h
frame_still source (word.Streaming v) held w l e takes h = read_still source held w v l e takes (is_same v w) h
frame_still source word.Ending held w l e takes h = tt

-- ---- the session behind it

abbrev pub laid_context : SourceState → ℕ → RequestContext → RequestContext
laid_context source w d = record d { session = laid source w d.session }

pub laid_shows : (i : ℕ) (make : ℕ → Make) (d : RequestContext) (table : ℕ → AbstractDevice) (s : AbstractSession) (w : ℕ) (l : Lease DeviceState) (source : SourceState) → ContextRefines i make d table s → held_by d.session.held w ≡ Some l → HasSource (make l.place) (held_from source) → takes_page l.device ≡ true →
    ContextRefines i make (laid_context source w d) (with_entry table l.place (abstract_device (Some i) (page_loaded l.device source))) s
laid_shows i make d table s w l source old e firm takes =
    let shown = old.devices.leases w l e in
    let f = lease_with source in
    let new = laid_context source w d in
    let next = page_loaded l.device source in
    let dev = abstract_device (Some i) next in
    let stays : Stays i make d w l new dev = record {
      lease = record l { device = next };
      registry = refl;
      four = on_length f d.session.held w;
      others = λ v n. on_other f d.session.held w v n;
      is = on_same f d.session.held w l e ∙ takes_it source l takes;
      place = refl;
      info = refl;
      device = refl;
      made = (pages_agree (make l.place) l.device source (Some i) shown.made firm takes).made;
    } in
    let four : length new.session.held ≡ 4 = on_length f d.session.held w ∙ old.four in
    let words = moved_words i make d table s w l old e new dev stays in
    let free : free_word new.session.held ≡ free_word d.session.held = sym (free_same new.session.held s.words four words) ∙ free_same d.session.held s.words old.four old.words in
    record {
      words = words;
      four = four;
      transfer = old.transfer;
      awaited = still_awaited d.session.held new.session.held d.registry table (with_entry table l.place dev) d.session.awaited s.awaited free
          (λ k. listed_by table l.place dev k (eqb k l.place) refl (sym (ap (λ (t : AbstractDevice). t.listed) shown.device))) old.awaited;
      frame = frame_still source d.session.transfer d.session.held w l e takes old.frame;
      devices = moved_table i make d table s w l old e new dev stays;
    }
