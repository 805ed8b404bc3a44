-- What requests and ends leave to other sessions.
use Rattle.std.proofs.Common.{inl, inr, ◌⊎◌, ◌≡◌, ◌≢◌, ◌∙◌, ℕ, zero, suc, List, [], ◌∷◌, Bool, true, false, Option, Some, None, refl, sym, ap, subst, eqb, eqb-true, cond, slice_get}
use Rattle.std.specs.Prelude.{Ok, Err}
use Rattle.std.proofs.lemmas.Bool.{eqb-false}
use Rattle.option_desc.specs.declared.value.Value.{Value}
use Rattle.page_picture.specs.Shows.{Frame}
use Rattle.device_api.specs.State.{DeviceState, after_cancel, after_reset}
use Rattle.dispatch.specs.declared.table.place.Slot.{Slot}
use Rattle.dispatch.specs.declared.table.place.Slot.TheVariants.{In, Out}
use Rattle.dispatch.specs.declared.table.place.Place.{Place}
use Rattle.dispatch.specs.declared.table.place.Lease.{Lease}
use Rattle.dispatch.specs.Table.{Table, after_give_back, after_take, find_name, held_at, after_take_answer, take_answer, take_at, take_of, with_slot}
use Rattle.dispatch.proofs.Names.{lease_in_again}
use Rattle.saned_requests.specs.Holding.{given_back, held_by, on_word}
use Rattle.saned_requests.proofs.Keeping.{Moves}
use Rattle.saned_requests.proofs.Keeping.Moves.{Still, Moved, Closed, Opened}
use Rattle.saned_requests.proofs.Moving.{answers_moves}
use Rattle.system_model.specs.AbstractMessages.{Authorize, Cancel, Challenge, Close, Describe, Exit, Get, Open, Parameters, AbstractRequest, Set, Start, same_text}
use Rattle.device_api.specs.Kinds.{Page}
use Rattle.system_model.specs.Devices.{Make, AbstractAcceptedSet, picture_frames, accept_value, has_readable_value}
use Rattle.system_model.specs.AbstractDevices.{AbstractDevice, ScanPhase, Resting, Between, Reading, is_held_by, is_resting, device_let_go, put_back}
use Rattle.system_model.specs.Daemon.{Environment, TransferState, Quiet, Waiting, Streaming, Ending, FailureCounts, allow, begin_page, begin_pass, get_reply, open_listed, put_reply, serve, set_reply, start_at, start_or_fail, start_page, start_effect, hand_out_device, take_listed}
use Rattle.system_model.specs.SystemStates.{with_entry}
use Rattle.system_model.specs.AbstractSessions.{AddressedRequest, AbstractSession, allow_call, answer_call, awaited_call, least_free_word as free_of, open_call, plain_call, serve_away, serve_word, word_call}
use Rattle.daemon_refines.specs.ContextRefinement.{SlotRefines, TableRefines, abstract_device}
use Rattle.daemon_refines.specs.OtherSessions.{DevicesLeave, EndsLeave, IsHeldByNoOther, LeavesOthers, LeavesPlace, RequestsLeave}
use Rattle.daemon_refines.proofs.Changes.{Held, shown_by}
use Rattle.daemon_refines.proofs.SessionEndings.{gone, no_place, shift}
use Rattle.daemon_refines.proofs.WordsAndPlaces.{put_other}
use Rattle.daemon_refines.proofs.CancelAndClose.{given_back_table}
use Rattle.daemon_refines.proofs.Moved.{place_in, unsome}
use Rattle.daemon_refines.proofs.OpenSteps.{found_slot, held_there}
use Rattle.daemon_refines.proofs.OtherSessions.{leaves_all, leaves_same, leaves_then, own_of, same_name, there_in, there_out}
use Rattle.daemon_refines.proofs.Scanning.{given_back_is}

-- ---- devices, by the model

-- a device is as it was, or it was and is client i's or nobody's; it is listed where it was
pub record IsKept (i : ℕ) (old new : AbstractDevice) : Type 0 where
  pub own : (new ≡ old) ⊎ (IsHeldByNoOther i old.holder × IsHeldByNoOther i new.holder)
  pub listed : new.listed ≡ old.listed

pub kept : (i : ℕ) (dev : AbstractDevice) → IsKept i dev dev
kept i dev = record { own = inl refl; listed = refl }

-- client i's own, with the same holder
pub changed : (i : ℕ) (old new : AbstractDevice) → IsHeldByNoOther i old.holder → new.holder ≡ old.holder → new.listed ≡ old.listed → IsKept i old new
changed i old new own e f = record { own = inr (own, own_of i new.holder old.holder e own); listed = f }

returned : (i : ℕ) (dev : AbstractDevice) → IsHeldByNoOther i dev.holder → IsKept i dev (put_back dev)
returned i dev own = record { own = inr (own, tt); listed = refl }

take_kept : (i : ℕ) (k : Make) (dev : AbstractDevice) (c : TransferState) (h : Option ℕ) → dev.holder ≡ h → IsKept i dev (hand_out_device i k dev c h).device
take_kept i k dev c None e = record { own = inr (own_of i dev.holder None e tt, refl); listed = refl }
take_kept i k dev c (Some j) e = kept i dev

listed_kept : (i : ℕ) (k : Make) (dev : AbstractDevice) (c : TransferState) (b : Bool) → IsKept i dev (take_listed i k dev c b).device
listed_kept i k dev c true = take_kept i k dev c dev.holder refl
listed_kept i k dev c false = kept i dev

open_kept : (i : ℕ) (k : Make) (dev : AbstractDevice) (c : TransferState) (challenge : Challenge) (listed guarded : Bool) → IsKept i dev (open_listed i k dev c challenge listed guarded).device
open_kept i k dev c challenge false guarded = kept i dev
open_kept i k dev c challenge true true = kept i dev
open_kept i k dev c challenge true false = take_kept i k dev c dev.holder refl

allow_kept : (i : ℕ) (k : Make) (dev : AbstractDevice) (c : TransferState) (same allows : Bool) → IsKept i dev (allow i k dev c same allows).device
allow_kept i k dev c true true = listed_kept i k dev c dev.listed
allow_kept i k dev c true false = kept i dev
allow_kept i k dev c false allows = kept i dev

get_kept : (i : ℕ) (k : Make) (dev : AbstractDevice) (c : TransferState) (n : ℕ) (b : Bool) → IsKept i dev (get_reply k dev c n b).device
get_kept i k dev c n true = kept i dev
get_kept i k dev c n false = kept i dev

put_kept : (i : ℕ) (dev : AbstractDevice) (c : TransferState) (o : Option AbstractAcceptedSet) → IsHeldByNoOther i dev.holder → IsKept i dev (put_reply dev c o).device
put_kept i dev c None own = kept i dev
put_kept i dev c (Some with_entry) own = changed i dev _ own refl refl

set_kept : (i : ℕ) (k : Make) (dev : AbstractDevice) (c : TransferState) (n : ℕ) (v : Value) (b : Bool) → IsHeldByNoOther i dev.holder → IsKept i dev (set_reply k dev c n v b).device
set_kept i k dev c n v true own = put_kept i dev c (accept_value k dev.options n v) own
set_kept i k dev c n v false own = kept i dev

page_kept : (i : ℕ) (k : Make) (dev : AbstractDevice) (c : TransferState) (page : Page) (fs : List Frame) → IsHeldByNoOther i dev.holder → IsKept i dev (begin_page k dev c page fs).device
page_kept i k dev c page [] own = kept i dev
page_kept i k dev c page (f ∷ more) own = changed i dev _ own refl refl

pass_kept : (i : ℕ) (k : Make) (dev : AbstractDevice) (c : TransferState) (fs : List Frame) → IsHeldByNoOther i dev.holder → IsKept i dev (begin_pass k dev c fs).device
pass_kept i k dev c [] own = changed i dev _ own refl refl
pass_kept i k dev c (f ∷ more) own = changed i dev _ own refl refl

tray_kept : (i : ℕ) (k : Make) (dev : AbstractDevice) (c : TransferState) (again : Bool) (tray : List Page) → IsHeldByNoOther i dev.holder → IsKept i dev (start_page k dev c again tray).device
tray_kept i k dev c again [] own = kept i dev
tray_kept i k dev c again (page ∷ tray) own = page_kept i k dev c page (picture_frames k dev.options page) own

at_kept : (i : ℕ) (k : Make) (dev : AbstractDevice) (c : TransferState) (again : Bool) (phase : ScanPhase) → IsHeldByNoOther i dev.holder → IsKept i dev (start_at k dev c again phase).device
at_kept i k dev c again Resting own = tray_kept i k dev c again dev.tray own
at_kept i k dev c again (Between last more) own = pass_kept i k dev c more own
at_kept i k dev c again (Reading f rest more) own = kept i dev

fault_kept : (i : ℕ) (k : Make) (dev : AbstractDevice) (c : TransferState) (again : Bool) (fault : Option FailureCounts) → IsHeldByNoOther i dev.holder → IsKept i dev (start_or_fail k dev c again fault).device
fault_kept i k dev c again None own = at_kept i k dev c again dev.phase own
fault_kept i k dev c again (Some fault) own = changed i dev _ own refl refl

start_kept : (i : ℕ) (k : Make) (dev : AbstractDevice) (x : Environment) (c : TransferState) → IsHeldByNoOther i dev.holder → IsKept i dev (start_effect k dev x c).device
start_kept i k dev x Quiet own = fault_kept i k dev Quiet x.again x.fault own
start_kept i k dev x Waiting own = kept i dev
start_kept i k dev x Streaming own = kept i dev
start_kept i k dev x Ending own = kept i dev

serve_kept : (i : ℕ) (k : Make) (dev : AbstractDevice) (c : TransferState) (x : Environment) (q : AbstractRequest) → IsHeldByNoOther i dev.holder → IsKept i dev (serve i k dev c x q).device
serve_kept i k dev c x Open own = open_kept i k dev c x.challenge dev.listed x.guarded
serve_kept i k dev c x (Authorize challenge) own = returned i dev own
serve_kept i k dev c x (Get n) own = get_kept i k dev c n (has_readable_value k dev.options n)
serve_kept i k dev c x (Set n v) own = set_kept i k dev c n v (is_resting dev.phase) own
serve_kept i k dev c x Start own = start_kept i k dev x c own
serve_kept i k dev c x Cancel own = changed i dev _ own refl refl
serve_kept i k dev c x Close own = returned i dev own
serve_kept i k dev c x Exit own = returned i dev own
serve_kept i k dev c x q own = kept i dev

away_kept : (i : ℕ) (k : Make) (dev : AbstractDevice) (c : TransferState) (x : Environment) (q : AbstractRequest) → IsHeldByNoOther i dev.holder → IsKept i dev (serve_away i k dev c x q).device
away_kept i k dev c x Cancel own = changed i dev _ own refl refl
away_kept i k dev c x Close own = returned i dev own
away_kept i k dev c x q own = serve_kept i k dev c x q own

word_kept : (b : Bool) (i : ℕ) (k : Make) (dev : AbstractDevice) (c : TransferState) (x : Environment) (q : AbstractRequest) → IsHeldByNoOther i dev.holder → IsKept i dev (serve_word b i k dev c x q).device
word_kept true i k dev c x q own = serve_kept i k dev c x q own
word_kept false i k dev c x q own = away_kept i k dev c x q own

-- ---- all devices, by the model

abbrev pub AreKept : ℕ → (ℕ → AbstractDevice) → (ℕ → AbstractDevice) → Type 0
AreKept i table new = (k : ℕ) → IsKept i (table k) (new k)

at_place : (i : ℕ) (table : ℕ → AbstractDevice) (p : ℕ) (dev : AbstractDevice) (k : ℕ) (b : Bool) → eqb k p ≡ b → IsKept i (table p) dev → IsKept i (table k) (cond b dev (table k))
at_place i table p dev k true e h = subst (λ (j : ℕ). IsKept i (table j) dev) (sym (eqb-true k p e)) h
at_place i table p dev k false e h = kept i (table k)

pub put_one : (i : ℕ) (table : ℕ → AbstractDevice) (p : ℕ) (dev : AbstractDevice) → IsKept i (table p) dev → AreKept i table (with_entry table p dev)
put_one i table p dev h k = at_place i table p dev k (eqb k p) refl h

abbrev HasOwn : ℕ → (ℕ → AbstractDevice) → AbstractSession → Type 0
HasOwn i table s = (w p : ℕ) → s.words w ≡ Some p → IsHeldByNoOther i (table p).holder

word_call_kept : (i : ℕ) (make : ℕ → Make) (table : ℕ → AbstractDevice) (s : AbstractSession) (x : Environment) (q : AbstractRequest) (w : ℕ) (o : Option ℕ) → s.words w ≡ o → HasOwn i table s → AreKept i table (word_call i make table s x q w o).table
word_call_kept i make table s x q w None e own k = kept i (table k)
word_call_kept i make table s x q w (Some p) e own k = put_one i table p _ (word_kept (eqb w s.framed) i (make p) (table p) s.transfer x q (own w p e)) k

open_call_kept : (i : ℕ) (make : ℕ → Make) (table : ℕ → AbstractDevice) (s : AbstractSession) (x : Environment) (p : ℕ) (o : Option ℕ) → AreKept i table (open_call i make table s x p o).table
open_call_kept i make table s x p None k = kept i (table k)
open_call_kept i make table s x p (Some w) k = put_one i table p _ (open_kept i (make p) (table p) s.transfer x.challenge (table p).listed x.guarded) k

allow_call_kept : (i : ℕ) (make : ℕ → Make) (table : ℕ → AbstractDevice) (s : AbstractSession) (x : Environment) (sent : Challenge) (p : ℕ) (c : Challenge) (o : Option ℕ) → AreKept i table (allow_call i make table s x sent p c o).table
allow_call_kept i make table s x sent p c None k = kept i (table k)
allow_call_kept i make table s x sent p c (Some w) k = put_one i table p _ (allow_kept i (make p) (table p) s.transfer (same_text c sent) (x.allows sent)) k

pub held_own : (i : ℕ) (h : Option ℕ) → is_held_by i h ≡ true → IsHeldByNoOther i h
held_own i None e = absurd (cc)
held_own i (Some j) e = eqb-true j i e

by_holder : (i : ℕ) (dev : AbstractDevice) (b : Bool) → (b ≡ true → IsHeldByNoOther i dev.holder) → IsKept i dev (cond b (put_back dev) dev)
by_holder i dev true h = returned i dev (h refl)
by_holder i dev false h = kept i dev

pub all_let_go : (i : ℕ) (table : ℕ → AbstractDevice) → AreKept i table (λ k. device_let_go i (table k))
all_let_go i table k = by_holder i (table k) (is_held_by i (table k).holder) (λ e. held_own i (table k).holder e)

plain_kept : (i : ℕ) (make : ℕ → Make) (table : ℕ → AbstractDevice) (s : AbstractSession) (x : ℕ → Environment) (call : AddressedRequest) (q : AbstractRequest) → HasOwn i table s → AreKept i table (plain_call i make table s x call q).table
plain_kept i make table s x call Open own k = open_call_kept i make table s (x call.place) call.place (free_of s.words) k
plain_kept i make table s x call (Authorize c) own k = all_let_go i table k
plain_kept i make table s x call Exit own k = all_let_go i table k
plain_kept i make table s x call Describe own k = word_call_kept i make table s (x call.place) Describe call.word (s.words call.word) refl own k
plain_kept i make table s x call (Get n) own k = word_call_kept i make table s (x call.place) (Get n) call.word (s.words call.word) refl own k
plain_kept i make table s x call (Set n v) own k = word_call_kept i make table s (x call.place) (Set n v) call.word (s.words call.word) refl own k
plain_kept i make table s x call Parameters own k = word_call_kept i make table s (x call.place) Parameters call.word (s.words call.word) refl own k
plain_kept i make table s x call Start own k = word_call_kept i make table s (x call.place) Start call.word (s.words call.word) refl own k
plain_kept i make table s x call Cancel own k = word_call_kept i make table s (x call.place) Cancel call.word (s.words call.word) refl own k
plain_kept i make table s x call Close own k = word_call_kept i make table s (x call.place) Close call.word (s.words call.word) refl own k
plain_kept i make table s x call q own k = kept i (table k)

awaited_kept : (i : ℕ) (make : ℕ → Make) (table : ℕ → AbstractDevice) (s : AbstractSession) (x : ℕ → Environment) (sent : Challenge) (p : ℕ) (q : AbstractRequest) → AreKept i table (awaited_call i make table s x sent p q).table
awaited_kept i make table s x sent p (Authorize c) k = allow_call_kept i make table s (x p) sent p c (free_of s.words) k
awaited_kept i make table s x sent p q k = all_let_go i table k

pub call_kept : (i : ℕ) (make : ℕ → Make) (table : ℕ → AbstractDevice) (s : AbstractSession) (x : ℕ → Environment) (awaited : Option (Challenge × ℕ)) (call : AddressedRequest) → HasOwn i table s → AreKept i table (answer_call i make table s x awaited call).table
call_kept i make table s x None call own k = plain_kept i make table s x call call.request own k
call_kept i make table s x (Some sent) call own k = awaited_kept i make table s x sent.0 sent.1 call.request k

-- the words of a session are client i's
own_word : (i : ℕ) (make : ℕ → Make) (held : Held) (registry : Table) (table : ℕ → AbstractDevice) (w p : ℕ) (h : Option (Lease DeviceState)) → TableRefines i make held registry table → held_by held w ≡ h → place_in h ≡ Some p → IsHeldByNoOther i (table p).holder
own_word i make held registry table w p None old e f = absurd (let clash : None ≡ Some p = f in cc)
own_word i make held registry table w p (Some l) old e f =
    own_of i (table p).holder (Some i) (ap (λ (k : ℕ). (table k).holder) (sym (unsome l.place p f)) ∙ ap (λ (t : AbstractDevice). t.holder) (old.leases w l e).device) refl

pub has_own : (i : ℕ) (make : ℕ → Make) (held : Held) (registry : Table) (table : ℕ → AbstractDevice) (s : AbstractSession) → TableRefines i make held registry table → ((w : ℕ) → s.words w ≡ place_in (held_by held w)) → HasOwn i table s
has_own i make held registry table s old words w p e = own_word i make held registry table w p (held_by held w) old refl (sym (words w) ∙ e)

-- ---- the registry, by how leases move

-- a slot is as it was, or its device is client i's or nobody's
abbrev SlotsKept : ℕ → (ℕ → AbstractDevice) → Table → Table → Type 0
SlotsKept i table registry now = (k : ℕ) → (slice_get now k ≡ slice_get registry k) ⊎ IsHeldByNoOther i (table k).holder

slot_put : (i : ℕ) (table : ℕ → AbstractDevice) (registry : Table) (p : ℕ) (slot : Slot DeviceState) (k : ℕ) (b : Bool) → eqb k p ≡ b → IsHeldByNoOther i (table p).holder → (slice_get (with_slot registry p slot) k ≡ slice_get registry k) ⊎ IsHeldByNoOther i (table k).holder
slot_put i table registry p slot k true e own = inr (subst (λ (j : ℕ). IsHeldByNoOther i (table j).holder) (sym (eqb-true k p e)) own)
slot_put i table registry p slot k false e own = inl (put_other registry p k slot (eqb-false k p e))

-- what is taken was in its place
taken_of : (t : Table) (k : ℕ) (l : Lease DeviceState) (o : Option DeviceState) → held_at t k ≡ o → take_of k o ≡ Ok l → l.place ≡ k
taken_of t k l (Some s) e f = let same : record { device = after_reset s; place = k } ≡ l = cc in ap (λ (x : Lease DeviceState). x.place) (sym same)
taken_of t k l None e f = absurd (cc)

not_out : (t : Table) (k : ℕ) (l : Lease DeviceState) (p : Place DeviceState) → slice_get t k ≡ Some p → p.slot ≡ Out → take_of k (held_at t k) ≡ Ok l → ⊥
not_out t k l p at out e = let clash : Err _ ≡ Ok l = sym (ap (take_of k) (held_there t k p Out at out)) ∙ e in absurd (cc)

pub record TakenAt (t : Table) (l : Lease DeviceState) : Type 0 where
  pub place : Place DeviceState
  pub at : slice_get t l.place ≡ Some place
  pub state : DeviceState
  pub slot : place.slot ≡ In state

taken_slot : (t : Table) (k : ℕ) (l : Lease DeviceState) (p : Place DeviceState) → slice_get t k ≡ Some p → ((s : DeviceState) × (p.slot ≡ In s)) ⊎ (p.slot ≡ Out) → take_of k (held_at t k) ≡ Ok l → TakenAt t l
taken_slot t k l p at (inl in_it) e = record { place = p; at = ap (slice_get t) (taken_of t k l (held_at t k) refl e) ∙ at; state = in_it.0; slot = in_it.1 }
taken_slot t k l p at (inr out) e = absurd (not_out t k l p at out e)

taken_found : (name : List ℕ) (t : Table) (l : Lease DeviceState) (found : Option ℕ) → find_name name t ≡ found → take_at t found ≡ Ok l → TakenAt t l
taken_found name t l None f e = absurd (cc)
taken_found name t l (Some k) f e = let there = found_slot name t k f in taken_slot t k l there.place there.at there.slot e

taken : (name : List ℕ) (t : Table) (l : Lease DeviceState) → take_answer t name ≡ Ok l → TakenAt t l
unfolding take_answer
taken name t l e = taken_found name t l (find_name name t) refl e

leased_is : (name : List ℕ) (t : Table) (l : Lease DeviceState) → take_answer t name ≡ Ok l → after_take t name ≡ with_slot t l.place Out
unfolding after_take
leased_is name t l e = ap (after_take_answer t) e

pub slots_kept : (i : ℕ) (make : ℕ → Make) (held : Held) (registry : Table) (table : ℕ → AbstractDevice) (after : Held) (now : Table) → TableRefines i make held registry table → Moves held registry after now → SlotsKept i table registry now
slots_kept i make held registry table after now old (Still e f) k = inl (ap (λ (t : Table). slice_get t k) f)
slots_kept i make held registry table after now old (Moved w l s e g a f) k = inl (ap (λ (t : Table). slice_get t k) f)
slots_kept i make held registry table after now old (Closed w l e a f) k =
    let shown = old.leases w l e in
    subst (λ (t : Table). (slice_get t k ≡ slice_get registry k) ⊎ IsHeldByNoOther i (table k).holder) (sym (f ∙ lease_in_again registry l shown.own))
    (slot_put i table registry l.place (In (after_cancel l.device)) k (eqb k l.place) refl (own_of i (table l.place).holder (Some i) (ap (λ (t : AbstractDevice). t.holder) shown.device) refl))
slots_kept i make held registry table after now old (Opened w l name e r a f) k =
    let from = taken name registry l r in
    let shown : SlotRefines i (make l.place) held l.place (table l.place) from.place.info.name (In from.state) = shown_by i (make l.place) held l.place (table l.place) (slice_get registry l.place) from.place (In from.state) from.at from.slot (old.places l.place) in
    subst (λ (t : Table). (slice_get t k ≡ slice_get registry k) ⊎ IsHeldByNoOther i (table k).holder) (sym (f ∙ leased_is name registry l r))
    (slot_put i table registry l.place Out k (eqb k l.place) refl (own_of i (table l.place).holder None (ap (λ (t : AbstractDevice). t.holder) shown.0) tt))

pub names_kept : (i : ℕ) (make : ℕ → Make) (held : Held) (registry : Table) (table : ℕ → AbstractDevice) (after : Held) (now : Table) (name : List ℕ) → TableRefines i make held registry table → Moves held registry after now → find_name name now ≡ find_name name registry
names_kept i make held registry table after now name old (Still e f) = ap (find_name name) f
names_kept i make held registry table after now name old (Moved w l s e g a f) = ap (find_name name) f
names_kept i make held registry table after now name old (Closed w l e a f) =
    let own = (old.leases w l e).own in
    ap (find_name name) (f ∙ lease_in_again registry l own) ∙ same_name name registry l.place own.place (In (after_cancel l.device)) own.at (there_out own.place.slot own.out) tt
names_kept i make held registry table after now name old (Opened w l other e r a f) =
    let from = taken other registry l r in
    ap (find_name name) (f ∙ leased_is other registry l r) ∙ same_name name registry l.place from.place Out from.at (there_in from.place.slot from.state from.slot) tt

-- ---- both

place_left : (i : ℕ) (old new : AbstractDevice) (at now : Option (Place DeviceState)) → IsKept i old new → (now ≡ at) ⊎ IsHeldByNoOther i old.holder → LeavesPlace i old new at now
place_left i old new at now h s = by_device h.own s
  where
    by_device : (new ≡ old) ⊎ (IsHeldByNoOther i old.holder × IsHeldByNoOther i new.holder) → (now ≡ at) ⊎ IsHeldByNoOther i old.holder → LeavesPlace i old new at now
    by_device (inr own) s = inr own
    by_device (inl same) (inl e) = inl (same, e)
    by_device (inl same) (inr own) = inr (own, own_of i new.holder old.holder (ap (λ (t : AbstractDevice). t.holder) same) own)

pub leaves : (i : ℕ) (make : ℕ → Make) (held : Held) (registry : Table) (table : ℕ → AbstractDevice) (after : Held) (now : Table) (new : ℕ → AbstractDevice) → TableRefines i make held registry table → Moves held registry after now → AreKept i table new → LeavesOthers i registry now table new
leaves i make held registry table after now new old moves kept_all =
    record {
      places = λ k. place_left i (table k) (new k) (slice_get registry k) (slice_get now k) (kept_all k) (slots_kept i make held registry table after now old moves k);
      listed = λ k. (kept_all k).listed;
      names = λ name. names_kept i make held registry table after now name old moves;
    }

-- a registry that stays
pub leaves_kept : (i : ℕ) (registry : Table) (table new : ℕ → AbstractDevice) → AreKept i table new → LeavesOthers i registry registry table new
leaves_kept i registry table new kept_all =
    record {
      places = λ k. place_left i (table k) (new k) (slice_get registry k) (slice_get registry k) (kept_all k) (inl refl);
      listed = λ k. (kept_all k).listed;
      names = λ name. refl;
    }

pub requests_leave : RequestsLeave
requests_leave i make users d table s q call x said new old g =
    leaves i make d.session.held d.registry table new.session.held new.registry (answer_call i make table s x s.awaited call).table old.devices (answers_moves users d new q said g)
    (call_kept i make table s x s.awaited call (has_own i make d.session.held d.registry table s old.devices old.words))

pub devices_leave : DevicesLeave
devices_leave i make held registry table w l s old e =
    let shown = old.leases w l e in
    leaves i make held registry table held registry (with_entry table l.place (abstract_device (Some i) s)) old (Still refl refl)
    (put_one i table l.place (abstract_device (Some i) s) (changed i (table l.place) (abstract_device (Some i) s) (own_of i (table l.place).holder (Some i) (ap (λ (t : AbstractDevice). t.holder) shown.device) refl) (sym (ap (λ (t : AbstractDevice). t.holder) shown.device)) (sym (ap (λ (t : AbstractDevice). t.listed) shown.device))))

-- ---- an end, word by word

pub ends_leave : EndsLeave
unfolding held_by on_word
ends_leave i make [] registry table old = leaves_same i registry registry table table (λ k. device_let_go i (table k)) (λ k. no_place i (make k) k (table k) (slice_get registry k) (old.places k)) (leaves_all i registry table)
ends_leave i make (None ∷ held) registry table old = ends_leave i make held registry table (shift i make held registry table old)
ends_leave i make (Some l ∷ held) registry table old =
    let p = l.place in
    let dev = put_back (table p) in
    let new = with_entry table p dev in
    let registry2 = after_give_back registry l in
    let holder = ap (λ (t : AbstractDevice). t.holder) (old.leases 0 l refl).device in
    let one = given_back_table i make (Some l ∷ held) registry table 0 l dev (None ∷ held) old refl (λ v n. other v n) refl (ap put_back (old.leases 0 l refl).device ∙ given_back_is (Some i) l.device) in
    let first = leaves i make (Some l ∷ held) registry table (None ∷ held) registry2 new old (Closed 0 l refl refl refl) (put_one i table p dev (returned i (table p) (own_of i (table p).holder (Some i) holder refl))) in
    let rest = ends_leave i make held registry2 new (shift i make held registry2 new one) in
    leaves_same i registry (given_back registry2 held) table (λ k. device_let_go i (new k)) (λ k. device_let_go i (table k)) (λ k. sym (gone i table p holder k (eqb k p) refl)) (leaves_then i registry registry2 (given_back registry2 held) table new (λ k. device_let_go i (new k)) first rest)
  where
    other : (v : ℕ) → v ≢ 0 → held_by (None ∷ held) v ≡ held_by (Some l ∷ held) v
    other zero n = absurd (n refl)
    other (suc v) n = refl
