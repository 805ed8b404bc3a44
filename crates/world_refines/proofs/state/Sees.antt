-- What a daemon's call for one session leaves to others.
use Rattle.std.proofs.Common.{◌≡◌, ◌≢◌, inl, inr, ◌∙◌, ℕ, ◌<◌, ◌≤◌, [], ◌∷◌, Option, Some, None, Bool, true, false, eqb, refl, sym, ap, subst, map}
use Rattle.std.proofs.lemmas.Bool.{ne_eqb}
use Rattle.std.specs.List.{AllByRecursion}
use Rattle.rand_chacha.specs.ChaCha.{ChaCha}
use Rattle.device_api.specs.State.{DeviceState}
use Rattle.dispatch.specs.Table.{Table}
use Rattle.dispatch.specs.declared.table.place.Place.{Place}
use Rattle.saned_requests.specs.declared.session.StringSize.TheVariants.{OfText}
use Rattle.saned_requests.specs.Holding.{fresh_session}
use Rattle.saned_core.specs.declared.session_slot.SessionId.{SessionId}
use Rattle.saned_core.specs.DaemonStates.{Core, session_slot_of, session_in}
use Rattle.system_model.specs.Devices.{Make}
use Rattle.system_model.specs.AbstractDevices.{AbstractDevice, is_held_by}
use Rattle.system_model.specs.AbstractSessions.{AbstractSession, one_word_session}
use Rattle.system_model.specs.SystemStates.{JobState}
use Rattle.daemon_refines.specs.ContextRefinement.{TableRefines}
use Rattle.daemon_refines.specs.OtherSessions.{IsHeldByNoOther, LeavesOthers, LeavesPlace}
use Rattle.daemon_refines.specs.Cores.{SessionRefines}
use Rattle.daemon_refines.proofs.Beginning.{openings_show}
use Rattle.daemon_refines.proofs.Changes.{Held}
use Rattle.daemon_refines.proofs.Cores.{stands_as}
use Rattle.daemon_refines.proofs.SessionEndings.{shift}
use Rattle.daemon_refines.proofs.OtherSessions.{others_stand}
use Rattle.world_refines.specs.WorldRefinement.{AreFaithful, IsBelow, IsServed, info_at, slot_of_link, session_by}

-- a number that is not the link's
abbrev pub IsOther : Option SessionId → ℕ → Type 0
IsOther None m = Unit {0}
IsOther (Some id) m = m ≢ id.number

-- what a call for client i's session does to the daemon, and what it leaves to all others
pub record Leaves (i : ℕ) (make : ℕ → Make) (link : Option SessionId) (d e : Core) (table device : ℕ → AbstractDevice) : Type 0 where
  pub users : e.users ≡ d.users
  pub infos : map info_at e.registry ≡ map info_at d.registry
  pub opened : d.opened ≤ e.opened
  pub below : AllByRecursion (IsBelow e.opened) e.slots
  pub faithful : AreFaithful e
  pub slots : (m : ℕ) → IsOther link m → m < d.opened → session_slot_of e.slots m ≡ session_slot_of d.slots m
  pub held : Held
  pub shows : TableRefines i make held e.registry device
  pub others : LeavesOthers i d.registry e.registry table device

-- ---- who holds what

own_of_other : (i j : ℕ) (h : Option ℕ) → j ≢ i → IsHeldByNoOther i h → is_held_by j h ≡ false
own_of_other i j None n own = refl
own_of_other i j (Some k) n own = ap (λ (x : ℕ). eqb x j) own ∙ ne_eqb i j (λ e. n (sym e))

place_held : (i j : ℕ) (old new : AbstractDevice) (at now : Option (Place DeviceState)) → j ≢ i → LeavesPlace i old new at now → is_held_by j new.holder ≡ is_held_by j old.holder
place_held i j old new at now n (inl same) = ap (λ (dev : AbstractDevice). is_held_by j dev.holder) same.0
place_held i j old new at now n (inr own) = own_of_other i j new.holder n own.1 ∙ sym (own_of_other i j old.holder n own.0)

pub session_same : (i j : ℕ) (registry now : Table) (table device : ℕ → AbstractDevice) (p : JobState) → j ≢ i → LeavesOthers i registry now table device → session_by j device p ≡ session_by j table p
session_same i j registry now table device p n h =
    ap (λ (b : Bool). one_word_session b p.session.job.wants p.session.transfer p.session.awaited) (place_held i j (table p.session.job.wants) (device p.session.job.wants) _ _ n (h.places p.session.job.wants))

-- ---- a client that holds nothing

no_session : (j : ℕ) (make : ℕ → Make) (registry : Table) (device : ℕ → AbstractDevice) → TableRefines j make (None ∷ None ∷ None ∷ None ∷ []) registry device → TableRefines j make [] registry device
no_session j make registry device h = shift j make [] registry device (shift j make (None ∷ []) registry device (shift j make (None ∷ None ∷ []) registry device (shift j make (None ∷ None ∷ None ∷ []) registry device h)))

pub table_stands : (i j : ℕ) (make : ℕ → Make) (held : Held) (stream : ChaCha) (registry now : Table) (table device : ℕ → AbstractDevice) → j ≢ i → TableRefines i make held now device → LeavesOthers i registry now table device →
    TableRefines j make [] registry table → TableRefines j make [] now device
table_stands i j make held stream registry now table device n shows leaves h =
    no_session j make now device
    (others_stand i j make held (record { session = fresh_session OfText 1; registry = registry; stream = stream }) now stream table device _ (λ e. n (sym e)) shows leaves (openings_show j make OfText 1 registry stream table h)).devices

-- ---- another job's session

pub other_stands : (i j m : ℕ) (make : ℕ → Make) (link : Option SessionId) (d e : Core) (table device : ℕ → AbstractDevice) (u : AbstractSession) → j ≢ i → IsOther link m → m < d.opened → Leaves i make link d e table device → SessionRefines j make d m table u → SessionRefines j make e m device u
other_stands i j m make link d e table device u n other below l h =
    stands_as i j m make d e table device u n (ap session_in (l.slots m other below)) (record { held = l.held; shows = l.shows; others = l.others }) h

pub served_stands : (i j : ℕ) (make : ℕ → Make) (link own : Option SessionId) (d e : Core) (table device : ℕ → AbstractDevice) (p : JobState) (served : Bool) → j ≢ i →
    ((id : SessionId) → own ≡ Some id → IsOther link id.number × (id.number < d.opened)) → Leaves i make link d e table device →
    IsServed j make d own served table (session_by j table p) → IsServed j make e own served device (session_by j device p)
served_stands i j make link None d e table device p true n apart l h = absurd h
served_stands i j make link (Some id) d e table device p true n apart l h =
    let a = apart id refl in
    subst (λ (s : AbstractSession). SessionRefines j make e id.number device s) (sym (session_same i j d.registry e.registry table device p n l.others)) (other_stands i j id.number make link d e table device _ n a.0 a.1 l h)
served_stands i j make link None d e table device p false n apart l h = (refl, table_stands i j make l.held d.stream d.registry e.registry table device n l.shows l.others h.1)
served_stands i j make link (Some id) d e table device p false n apart l h =
    let a = apart id refl in
    (ap session_in (l.slots id.number a.0 a.1) ∙ h.0, table_stands i j make l.held d.stream d.registry e.registry table device n l.shows l.others h.1)

pub slot_stands : (i : ℕ) (make : ℕ → Make) (link own : Option SessionId) (d e : Core) (table device : ℕ → AbstractDevice) → ((id : SessionId) → own ≡ Some id → IsOther link id.number × (id.number < d.opened)) → Leaves i make link d e table device → slot_of_link e own ≡ slot_of_link d own
slot_stands i make link None d e table device apart l = refl
slot_stands i make link (Some id) d e table device apart l = let a = apart id refl in l.slots id.number a.0 a.1
