-- What the daemon's calls for one session leave: its end, and the loss and the making of its data connection.
use Rattle.std.specs.Prelude.{if◌then◌else◌}
use Rattle.std.specs.Option.{option_and_then}
use Rattle.std.specs.List.{AllByRecursion}
use Rattle.std.proofs.Common.{◌≡◌, ◌≢◌, ◌⊎◌, inl, inr, ◌∙◌, ℕ, zero, suc, List, [], ◌∷◌, Option, Some, None, option_map, Bool, true, false, cond, eqb, refl, sym, ap, subst, map, slice_get, arith}
use Rattle.device_api.specs.State.{DeviceState, after_cancel}
use Rattle.sane_fixed.specs.declared.device_info.DeviceInfo.{DeviceInfo}
use Rattle.dispatch.specs.declared.table.place.Lease.{Lease}
use Rattle.dispatch.specs.declared.table.place.Place.{Place}
use Rattle.dispatch.specs.declared.table.place.Slot.{Slot}
use Rattle.dispatch.specs.declared.table.place.Slot.TheVariants.{In, Out, Gone}
use Rattle.dispatch.specs.Table.{Table, after_give_back, awaits, with_slot}
use Rattle.saned_requests.specs.declared.session.DataPhase.{DataPhase as WordCarriage}
use Rattle.saned_requests.specs.declared.session.DataPhase.TheVariants as word
use Rattle.saned_requests.specs.declared.session.Session.{Session as RequestSession}
use Rattle.saned_requests.specs.Holding.{with_lease_back, given_back}
use Rattle.saned_core.specs.declared.session_slot.SessionSlot.{SessionSlot}
use Rattle.saned_core.specs.declared.session_slot.SessionId.{SessionId}
use Rattle.saned_core.specs.DaemonStates.{Core, after_connected, after_lost, after_end_session, is_slot_number, lost_from, no_more, on_session_slot, on_session, replies_in, session_slot_of, session_in, session_let_go, session_of}
use Rattle.saned_core.specs.Feeding.{input_in}
use Rattle.saned_core.proofs.Apart.{apart}
use Rattle.system_model.specs.AbstractMessages.{Challenge}
use Rattle.system_model.specs.Client.{AbstractJob}
use Rattle.system_model.specs.Devices.{Make}
use Rattle.system_model.specs.AbstractDevices.{AbstractDevice, is_held_by, device_let_go, put_down}
use Rattle.system_model.specs.Daemon.{TransferState, Quiet, Waiting, Streaming, Ending}
use Rattle.system_model.specs.Actions.{image_off, left_by_loss}
use Rattle.system_model.specs.SystemStates.{JobState, with_entry}
use Rattle.system_model.specs.AbstractSessions.{AbstractSession, one_word_session, only_word}
use Rattle.daemon_refines.specs.ContextRefinement.{HoldsPlace, PlaceRefines, SlotRefines, TableRefines}
use Rattle.daemon_refines.specs.DataRefinement.{transfer_connected, off_at}
use Rattle.daemon_refines.specs.OtherSessions.{IsHeldByNoOther, LeavesOthers}
use Rattle.daemon_refines.specs.Cores.{SessionRefines}
use Rattle.daemon_refines.proofs.Changes.{Held}
use Rattle.daemon_refines.proofs.CoreCalls.{core_connects, core_loses}
use Rattle.daemon_refines.proofs.SessionEndings.{ends, left_by, no_place, same_tables}
use Rattle.daemon_refines.proofs.Leaves.{IsKept, changed, ends_leave, held_own, kept, leaves_kept, put_one}
use Rattle.daemon_refines.proofs.Moved.{put_elsewhere, put_there, unsome}
use Rattle.daemon_refines.proofs.OtherSessions.{leaves_all, leaves_same}
use Rattle.world_refines.specs.WorldRefinement.{AreFaithful, IsBelow, IsFaithfulLease, IsFaithfulSessionSlot, IsFaithfulSession, IsServed, info_at, session_by}
use Rattle.world_refines.proofs.state.Faithful.{cancelled_word_true, let_go_true, on_slot_all, slot_all, session_true}
use Rattle.world_refines.proofs.state.ListEntries.{is_same}
use Rattle.world_refines.proofs.state.Sees.{Leaves}
use Rattle.world_refines.proofs.state.Taking.{put_self, same_session}

-- ---- infos of places

pub slot_infos : (t : Table) (k : ℕ) (slot : Slot DeviceState) → map info_at (with_slot t k slot) ≡ map info_at t
unfolding with_slot
slot_infos [] k slot = refl
slot_infos (p ∷ t) zero slot = refl
slot_infos (p ∷ t) (suc k) slot = ap (λ (x : List DeviceInfo). p.info ∷ x) (slot_infos t k slot)

pub give_infos : (t : Table) (l : Lease DeviceState) (b : Bool) → map info_at (if b then with_slot t l.place (In (after_cancel l.device)) else t) ≡ map info_at t
give_infos t l true = slot_infos t l.place (In (after_cancel l.device))
give_infos t l false = refl

pub back_infos : (t : Table) (lease : Option (Lease DeviceState)) → map info_at (with_lease_back t lease) ≡ map info_at t
unfolding after_give_back
back_infos t None = refl
back_infos t (Some l) = give_infos t l (awaits l.device.info.name l.place t)

pub given_infos : (t : Table) (held : Held) → map info_at (given_back t held) ≡ map info_at t
given_infos t [] = refl
given_infos t (lease ∷ held) = given_infos (with_lease_back t lease) held ∙ back_infos t lease

pub let_go_infos : (t : Table) (session : Option (RequestSession DeviceState)) → map info_at (session_let_go t session) ≡ map info_at t
let_go_infos t None = refl
let_go_infos t (Some session) = given_infos t session.held

-- ---- a client holds no device but the one that its job names

pub word_wanted : (b : Bool) (d w k : ℕ) (c : Bool) → eqb w 0 ≡ c → only_word b d w ≡ Some k → k ≡ d
word_wanted true d w k true e h = let same : Some d ≡ Some k = sym (ap (λ (x : Bool). cond x (Some d) None) e) ∙ h in sym (unsome d k same)
word_wanted false d w k true e h = let clash : None ≡ Some k = sym (ap (λ (x : Bool). cond x None None) e) ∙ h in absurd (cc)
word_wanted b d w k false e h = let clash : None ≡ Some k = sym (ap (λ (x : Bool). cond x (cond b (Some d) None) None) e) ∙ h in absurd (cc)

slot_left : (i : ℕ) (make : Make) (held : Held) (k : ℕ) (dev : AbstractDevice) (name : List ℕ) (slot : Slot DeviceState) → (HoldsPlace held k → ⊥) → SlotRefines i make held k dev name slot → device_let_go i dev ≡ dev
slot_left i make held k dev name Gone n h = left_by i dev None h.1 (λ e. absurd (cc))
slot_left i make held k dev name (In s) n h = left_by i dev None (ap (λ (x : AbstractDevice). x.holder) h.0) (λ e. absurd (cc))
slot_left i make held k dev name Out n (listed, inl holds) = absurd (n holds)
slot_left i make held k dev name Out n (listed, inr away) = left_by i dev (Some away.other) away.holder (λ e. away.no_own (unsome away.other i e))

pub place_left : (i : ℕ) (make : Make) (held : Held) (k : ℕ) (dev : AbstractDevice) (at : Option (Place DeviceState)) → (HoldsPlace held k → ⊥) → PlaceRefines i make held k dev at → device_let_go i dev ≡ dev
place_left i make held k dev None n h = left_by i dev None h.1 (λ e. absurd (cc))
place_left i make held k dev (Some p) n h = slot_left i make held k dev p.info.name p.slot n h

pub holds_wanted : (i : ℕ) (make : ℕ → Make) (core : Core) (n : ℕ) (table : ℕ → AbstractDevice) (p : JobState) (k : ℕ) → (h : SessionRefines i make core n table (session_by i table p)) → HoldsPlace h.session.held k → k ≡ p.session.job.wants
holds_wanted i make core n table p k h holds =
    let at : only_word (is_held_by i (table p.session.job.wants).holder) p.session.job.wants holds.word ≡ Some k =
    h.shows.words holds.word ∙ (ap (option_map (λ (l : Lease DeviceState). l.place)) holds.stands ∙ ap (λ (x : ℕ). Some x) holds.place) in
    word_wanted (is_held_by i (table p.session.job.wants).holder) p.session.job.wants holds.word k (eqb holds.word 0) refl at

-- ---- the session of a number, where it is changed

found_by : (g : RequestSession DeviceState → RequestSession DeviceState) (n : ℕ) (x : Option (SessionSlot DeviceState)) (slots : List (Option (SessionSlot DeviceState))) (b : Bool) → is_slot_number n x ≡ b → session_slot_of (on_session_slot (on_session g) n slots) n ≡ option_and_then (on_session g) (session_slot_of slots n) →
    session_slot_of (if b then option_and_then (on_session g) x ∷ slots else x ∷ on_session_slot (on_session g) n slots) n ≡ option_and_then (on_session g) (if b then x else session_slot_of slots n)
unfolding session_slot_of
found_by g n None slots true e more = absurd (let clash : false ≡ true = e in cc)
found_by g n (Some slot) slots true e more = rw e refl
found_by g n x slots false e more = rw e more

pub found_on : (g : RequestSession DeviceState → RequestSession DeviceState) (n : ℕ) (slots : List (Option (SessionSlot DeviceState))) → session_slot_of (on_session_slot (on_session g) n slots) n ≡ option_and_then (on_session g) (session_slot_of slots n)
unfolding session_slot_of on_session_slot
found_on g n [] = refl
found_on g n (x ∷ slots) = found_by g n x slots (is_slot_number n x) refl (found_on g n slots)

same_input : (g : RequestSession DeviceState → RequestSession DeviceState) (o : Option (SessionSlot DeviceState)) → input_in (option_and_then (on_session g) o) ≡ input_in o
same_input g None = refl
same_input g (Some slot) = refl

same_replies : (g : RequestSession DeviceState → RequestSession DeviceState) (o : Option (SessionSlot DeviceState)) → replies_in (option_and_then (on_session g) o) ≡ replies_in o
same_replies g None = refl
same_replies g (Some slot) = refl

over_still : (g : RequestSession DeviceState → RequestSession DeviceState) (o : Option (SessionSlot DeviceState)) → session_in o ≡ None → session_in (option_and_then (on_session g) o) ≡ None
over_still g None e = refl
over_still g (Some slot) e = ap (option_map g) e

pub input_on : (g : RequestSession DeviceState → RequestSession DeviceState) (n : ℕ) (slots : List (Option (SessionSlot DeviceState))) → input_in (session_slot_of (on_session_slot (on_session g) n slots) n) ≡ input_in (session_slot_of slots n)
input_on g n slots = ap input_in (found_on g n slots) ∙ same_input g (session_slot_of slots n)

pub replies_on : (g : RequestSession DeviceState → RequestSession DeviceState) (n : ℕ) (slots : List (Option (SessionSlot DeviceState))) → replies_in (session_slot_of (on_session_slot (on_session g) n slots) n) ≡ replies_in (session_slot_of slots n)
replies_on g n slots = ap replies_in (found_on g n slots) ∙ same_replies g (session_slot_of slots n)

pub over_on : (g : RequestSession DeviceState → RequestSession DeviceState) (n : ℕ) (slots : List (Option (SessionSlot DeviceState))) → session_in (session_slot_of slots n) ≡ None → session_in (session_slot_of (on_session_slot (on_session g) n slots) n) ≡ None
over_on g n slots e = ap session_in (found_on g n slots) ∙ over_still g (session_slot_of slots n) e

pub on_number : (g : RequestSession DeviceState → RequestSession DeviceState) (slot new : SessionSlot DeviceState) → on_session g slot ≡ Some new → new.number ≡ slot.number
on_number g slot new e = ap (λ (x : SessionSlot DeviceState). x.number) (sym (unsome (record slot { session = option_map g slot.session }) new e))

-- ---- its end

pub none_number : (slot new : SessionSlot DeviceState) → no_more slot ≡ Some new → new.number ≡ slot.number
none_number slot new e = absurd (let clash : None ≡ Some new = e in cc)

-- what is left of a client's session that was ended, by its devices that are let go
pub record IsEnded (i : ℕ) (make : ℕ → Make) (d : Core) (n wants : ℕ) (table : ℕ → AbstractDevice) : Type 0 where
  pub shows : TableRefines i make [] (after_end_session d n).registry (λ k. device_let_go i (table k))
  pub others : LeavesOthers i d.registry (after_end_session d n).registry table (λ k. device_let_go i (table k))
  pub only : (k : ℕ) → k ≢ wants → device_let_go i (table k) ≡ table k

pub is_ended : (i : ℕ) (make : ℕ → Make) (d : Core) (id : SessionId) (served : Bool) (table : ℕ → AbstractDevice) (p : JobState) → IsServed i make d (Some id) served table (session_by i table p) → IsEnded i make d id.number p.session.job.wants table
is_ended i make d id true table p h =
    let registry : (after_end_session d id.number).registry ≡ given_back d.registry h.session.held = ap (session_let_go d.registry) h.stands in
    record {
      shows = subst (λ (t : Table). TableRefines i make [] t (λ k. device_let_go i (table k))) (sym registry) (ends i make h.session.held d.registry table h.shows.devices);
      others = subst (λ (t : Table). LeavesOthers i d.registry t table (λ k. device_let_go i (table k))) (sym registry) (ends_leave i make h.session.held d.registry table h.shows.devices);
      only = λ k n. place_left i (make k) h.session.held k (table k) (slice_get d.registry k) (λ holds. n (holds_wanted i make d id.number table p k h holds)) (h.shows.devices.places k);
    }
is_ended i make d id false table p h =
    let registry : (after_end_session d id.number).registry ≡ d.registry = ap (session_let_go d.registry) h.0 in
    let same : (k : ℕ) → device_let_go i (table k) ≡ table k = λ k. no_place i (make k) k (table k) (slice_get d.registry k) (h.1.places k) in
    record {
      shows = subst (λ (t : Table). TableRefines i make [] t (λ k. device_let_go i (table k))) (sym registry) (same_tables i make [] d.registry table (λ k. device_let_go i (table k)) same h.1);
      others = subst (λ (t : Table). LeavesOthers i d.registry t table (λ k. device_let_go i (table k))) (sym registry) (leaves_same i d.registry d.registry table table (λ k. device_let_go i (table k)) same (leaves_all i d.registry table));
      only = λ k n. same k;
    }

pub put_let_go : (i wants : ℕ) (table : ℕ → AbstractDevice) → ((k : ℕ) → k ≢ wants → device_let_go i (table k) ≡ table k) → (k : ℕ) → with_entry table wants (device_let_go i (table wants)) k ≡ device_let_go i (table k)
put_let_go i wants table only k = by_test i wants table only k (is_same k wants)
  where
    by_test : (i wants : ℕ) (table : ℕ → AbstractDevice) → ((k : ℕ) → k ≢ wants → device_let_go i (table k) ≡ table k) → (k : ℕ) → (k ≡ wants) ⊎ (k ≢ wants) → with_entry table wants (device_let_go i (table wants)) k ≡ device_let_go i (table k)
    by_test i wants table only k (inl e) = subst (λ (x : ℕ). with_entry table wants (device_let_go i (table wants)) x ≡ device_let_go i (table x)) (sym e) (put_there table wants (device_let_go i (table wants)))
    by_test i wants table only k (inr n) = put_elsewhere table wants (device_let_go i (table wants)) k n ∙ sym (only k n)

pub leaves_ended : (i : ℕ) (make : ℕ → Make) (d : Core) (id : SessionId) (served : Bool) (table : ℕ → AbstractDevice) (p : JobState) → AllByRecursion (IsBelow d.opened) d.slots → AreFaithful d → IsServed i make d (Some id) served table (session_by i table p) →
    Leaves i make (Some id) d (after_end_session d id.number) table (with_entry table p.session.job.wants (device_let_go i (table p.session.job.wants)))
leaves_ended i make d id served table p below faithful h =
    let e = is_ended i make d id served table p h in
    let same = put_let_go i p.session.job.wants table e.only in
    record {
      users = refl;
      infos = let_go_infos d.registry (session_of d id.number);
      opened = omega arith;
      below = on_slot_all (IsBelow d.opened) no_more id.number d.slots tt (λ s b. tt) below;
      faithful = record {
        lying = let_go_true d.registry (session_of d id.number) (session_true (session_slot_of d.slots id.number) (slot_all IsFaithfulSessionSlot d.slots id.number tt faithful.lent)) faithful.lying;
        lent = on_slot_all IsFaithfulSessionSlot no_more id.number d.slots tt (λ s b. tt) faithful.lent;
      };
      slots = λ m other low. apart d.slots no_more id.number m none_number (λ x. other (sym x));
      held = [];
      shows = same_tables i make [] (after_end_session d id.number).registry (λ k. device_let_go i (table k)) _ same e.shows;
      others = leaves_same i d.registry (after_end_session d id.number).registry table (λ k. device_let_go i (table k)) _ same e.others;
    }

-- and it holds nothing any more
pub shows_ended : (i : ℕ) (make : ℕ → Make) (d : Core) (id : SessionId) (served : Bool) (table : ℕ → AbstractDevice) (p : JobState) → IsServed i make d (Some id) served table (session_by i table p) →
    TableRefines i make [] (after_end_session d id.number).registry (with_entry table p.session.job.wants (device_let_go i (table p.session.job.wants)))
shows_ended i make d id served table p h =
    let e = is_ended i make d id served table p h in
    same_tables i make [] (after_end_session d id.number).registry (λ k. device_let_go i (table k)) _ (put_let_go i p.session.job.wants table e.only) e.shows

-- ---- a call that changes its session alone

-- what is so of slots, where one session is another
pub on_below : (g : RequestSession DeviceState → RequestSession DeviceState) (n k : ℕ) (slots : List (Option (SessionSlot DeviceState))) → AllByRecursion (IsBelow k) slots → AllByRecursion (IsBelow k) (on_session_slot (on_session g) n slots)
on_below g n k slots h = on_slot_all (IsBelow k) (on_session g) n slots tt (λ s b. b) h

-- what a session holds stays true
pub lost_true : (c : WordCarriage) (session : RequestSession DeviceState) → AllByRecursion IsFaithfulLease session.held → AllByRecursion IsFaithfulLease (lost_from c session).held
lost_true word.Quiet session h = h
lost_true (word.Waiting w) session h = h
lost_true (word.Streaming w) session h = cancelled_word_true session.held w h
lost_true word.Ending session h = h

slot_true : (g : RequestSession DeviceState → RequestSession DeviceState) (o : Option (RequestSession DeviceState)) → ((session : RequestSession DeviceState) → AllByRecursion IsFaithfulLease session.held → AllByRecursion IsFaithfulLease (g session).held) → IsFaithfulSession o → IsFaithfulSession (option_map g o)
slot_true g None keeps h = tt
slot_true g (Some session) keeps h = keeps session h

pub on_true : (g : RequestSession DeviceState → RequestSession DeviceState) (n : ℕ) (slots : List (Option (SessionSlot DeviceState))) → ((session : RequestSession DeviceState) → AllByRecursion IsFaithfulLease session.held → AllByRecursion IsFaithfulLease (g session).held) →
    AllByRecursion IsFaithfulSessionSlot slots → AllByRecursion IsFaithfulSessionSlot (on_session_slot (on_session g) n slots)
on_true g n slots keeps h = on_slot_all IsFaithfulSessionSlot (on_session g) n slots tt (λ s b. slot_true g s.session keeps b) h

-- the daemon, whose session of that number is changed so
abbrev pub on_core : (RequestSession DeviceState → RequestSession DeviceState) → Core → ℕ → Core
on_core g d n = record d { slots = on_session_slot (on_session g) n d.slots }

pub leaves_on : (g : RequestSession DeviceState → RequestSession DeviceState) (i : ℕ) (make : ℕ → Make) (d : Core) (id : SessionId) (table device : ℕ → AbstractDevice) → ((session : RequestSession DeviceState) → AllByRecursion IsFaithfulLease session.held → AllByRecursion IsFaithfulLease (g session).held) →
    AllByRecursion (IsBelow d.opened) d.slots → AreFaithful d → (held : Held) → TableRefines i make held d.registry device → LeavesOthers i d.registry d.registry table device → Leaves i make (Some id) d (on_core g d id.number) table device
leaves_on g i make d id table device keeps below faithful held shows others =
    record {
      users = refl;
      infos = refl;
      opened = omega arith;
      below = on_below g id.number d.opened d.slots below;
      faithful = record { lying = faithful.lying; lent = on_true g id.number d.slots keeps faithful.lent };
      slots = λ m other low. apart d.slots (on_session g) id.number m (on_number g) (λ x. other (sym x));
      held = held;
      shows = shows;
      others = others;
    }

-- ---- its data connection is lost

put_down_kept : (i : ℕ) (dev : AbstractDevice) (b : Bool) → (b ≡ true → IsHeldByNoOther i dev.holder) → IsKept i dev (cond b (put_down dev) dev)
put_down_kept i dev true h = changed i dev (put_down dev) (h refl) refl refl
put_down_kept i dev false h = kept i dev

off_kept : (i : ℕ) (c : TransferState) (dev : AbstractDevice) → IsKept i dev (image_off i c dev)
off_kept i Quiet dev = kept i dev
off_kept i Waiting dev = kept i dev
off_kept i Streaming dev = put_down_kept i dev (is_held_by i dev.holder) (λ e. held_own i dev.holder e)
off_kept i Ending dev = kept i dev

put_down_holder : (dev : AbstractDevice) (b : Bool) → (cond b (put_down dev) dev).holder ≡ dev.holder
put_down_holder dev true = refl
put_down_holder dev false = refl

off_holder : (i : ℕ) (c : TransferState) (dev : AbstractDevice) → (image_off i c dev).holder ≡ dev.holder
off_holder i Quiet dev = refl
off_holder i Waiting dev = refl
off_holder i Streaming dev = put_down_holder dev (is_held_by i dev.holder)
off_holder i Ending dev = refl

-- where the device is not held nothing comes of it
off_unheld : (i : ℕ) (c : TransferState) (dev : AbstractDevice) → is_held_by i dev.holder ≡ false → image_off i c dev ≡ dev
off_unheld i Quiet dev e = refl
off_unheld i Waiting dev e = refl
off_unheld i Streaming dev e = ap (λ (b : Bool). cond b (put_down dev) dev) e
off_unheld i Ending dev e = refl

off_is : (i : ℕ) (c : TransferState) (table : ℕ → AbstractDevice) (d : ℕ) (b : Bool) → is_held_by i (table d).holder ≡ b → (k : ℕ) → with_entry table d (image_off i c (table d)) k ≡ off_at i c table (cond b (Some d) None) k
off_is i c table d true e k = refl
off_is i c table d false e k = put_self table d (image_off i c (table d)) (off_unheld i c (table d) e) k

lost_session : (i : ℕ) (c : TransferState) (table : ℕ → AbstractDevice) (d : ℕ) → is_held_by i (with_entry table d (image_off i c (table d)) d).holder ≡ is_held_by i (table d).holder
lost_session i c table d = ap (λ (dev : AbstractDevice). is_held_by i dev.holder) (put_there table d (image_off i c (table d))) ∙ ap (is_held_by i) (off_holder i c (table d))

pub is_lost : (i : ℕ) (make : ℕ → Make) (d : Core) (id : SessionId) (served : Bool) (table : ℕ → AbstractDevice) (p q : JobState) → AllByRecursion (IsBelow d.opened) d.slots → AreFaithful d → (served ≡ false → p.session.transfer ≡ Quiet) →
    q.session.job ≡ p.session.job → q.session.awaited ≡ p.session.awaited → q.session.transfer ≡ left_by_loss p.session.transfer → IsServed i make d (Some id) served table (session_by i table p) →
    Leaves i make (Some id) d (on_core after_lost d id.number) table (with_entry table p.session.job.wants (image_off i p.session.transfer (table p.session.job.wants)))
    × IsServed i make (on_core after_lost d id.number) (Some id) served (with_entry table p.session.job.wants (image_off i p.session.transfer (table p.session.job.wants))) (session_by i (with_entry table p.session.job.wants (image_off i p.session.transfer (table p.session.job.wants))) q)
is_lost i make d id true table p q below faithful calm job awaited transfer h =
    let wants = p.session.job.wants in
    let c = p.session.transfer in
    let device = with_entry table wants (image_off i c (table wants)) in
    let b = is_held_by i (table wants).holder in
    let stands = core_loses i make id.number d (on_core after_lost d id.number) table (session_by i table p) h refl in
    let same : (k : ℕ) → device k ≡ off_at i c table (cond b (Some wants) None) k = off_is i c table wants b refl in
    let own = same_session i make (on_core after_lost d id.number) id.number _ device _ same stands.own in
    let ruled : session_by i device q ≡ one_word_session b wants (left_by_loss c) p.session.awaited =
    ap (λ (x : AbstractJob). one_word_session (is_held_by i (device x.wants).holder) x.wants q.session.transfer q.session.awaited) job
    ∙ (ap (λ (x : Bool). one_word_session x wants q.session.transfer q.session.awaited) (lost_session i c table wants)
    ∙ (ap (λ (x : TransferState). one_word_session b wants x q.session.awaited) transfer ∙ ap (λ (x : Option Challenge). one_word_session b wants (left_by_loss c) x) awaited)) in (
      leaves_on after_lost i make d id table device (λ session s. lost_true session.transfer session s) below faithful own.session.held own.shows.devices
          (leaves_kept i d.registry table device (put_one i table wants (image_off i c (table wants)) (off_kept i c (table wants)))),
      subst (λ (s : AbstractSession). SessionRefines i make (on_core after_lost d id.number) id.number device s) (sym ruled) own,
    )
is_lost i make d id false table p q below faithful calm job awaited transfer h =
    let wants = p.session.job.wants in
    let c = p.session.transfer in
    let device = with_entry table wants (image_off i c (table wants)) in
    let same : (k : ℕ) → device k ≡ table k = put_self table wants (image_off i c (table wants)) (ap (λ (x : TransferState). image_off i x (table wants)) (calm refl)) in
    let shows = same_tables i make [] d.registry table device same h.1 in (
      leaves_on after_lost i make d id table device (λ session s. lost_true session.transfer session s) below faithful [] shows (leaves_same i d.registry d.registry table table device same (leaves_all i d.registry table)),
      (over_on after_lost id.number d.slots h.0, shows),
    )

-- ---- it is made

pub is_connected : (i : ℕ) (make : ℕ → Make) (d : Core) (id : SessionId) (table device : ℕ → AbstractDevice) (p q : JobState) → AllByRecursion (IsBelow d.opened) d.slots → AreFaithful d → ((k : ℕ) → device k ≡ table k) →
    q.session.job ≡ p.session.job → q.session.awaited ≡ p.session.awaited → q.session.transfer ≡ transfer_connected p.session.transfer → SessionRefines i make d id.number table (session_by i table p) →
    Leaves i make (Some id) d (on_core after_connected d id.number) table device × SessionRefines i make (on_core after_connected d id.number) id.number device (session_by i device q)
is_connected i make d id table device p q below faithful same job awaited transfer h =
    let wants = p.session.job.wants in
    let b = is_held_by i (table wants).holder in
    let stands = core_connects i make id.number d (on_core after_connected d id.number) table (session_by i table p) h refl in
    let own = same_session i make (on_core after_connected d id.number) id.number table device _ same stands.own in
    let ruled : session_by i device q ≡ one_word_session b wants (transfer_connected p.session.transfer) p.session.awaited =
    ap (λ (x : AbstractJob). one_word_session (is_held_by i (device x.wants).holder) x.wants q.session.transfer q.session.awaited) job
    ∙ (ap (λ (x : AbstractDevice). one_word_session (is_held_by i x.holder) wants q.session.transfer q.session.awaited) (same wants)
    ∙ (ap (λ (x : TransferState). one_word_session b wants x q.session.awaited) transfer ∙ ap (λ (x : Option Challenge). one_word_session b wants (transfer_connected p.session.transfer) x) awaited)) in (
      leaves_on after_connected i make d id table device (λ session s. s) below faithful own.session.held own.shows.devices (leaves_same i d.registry d.registry table table device same (leaves_all i d.registry table)),
      subst (λ (s : AbstractSession). SessionRefines i make (on_core after_connected d id.number) id.number device s) (sym ruled) own,
    )
