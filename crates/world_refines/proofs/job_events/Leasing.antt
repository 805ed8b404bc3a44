-- A device of a name that a session holds, and a page for it.
use Rattle.std.specs.Prelude.{if◌then◌else◌, ◌||◌}
use Rattle.std.specs.Option.{option_and_then}
use Rattle.std.specs.List.{AllByRecursion, list_any}
use Rattle.std.proofs.Common.{◌≡◌, ◌∙◌, ℕ, zero, suc, List, [], ◌∷◌, Option, Some, None, option_map, Bool, true, false, refl, sym, ap, slice_get, arith}
use Rattle.std.proofs.lemmas.Bool.{ne_eqb}
use Rattle.page_picture.specs.Source.{SourceState}
use Rattle.device_api.specs.ScannerLimits.{IsHeldPage}
use Rattle.device_api.specs.State.{DeviceState, HeldPage as Page, after_load as page_loaded, feeds, held_from, pages_with, takes_page}
use Rattle.dispatch.specs.declared.table.place.Lease.{Lease}
use Rattle.saned_requests.specs.declared.session.Session.{Session as RequestSession}
use Rattle.saned_requests.specs.Holding.{held_by, on_word}
use Rattle.saned_core.specs.declared.session_slot.SessionSlot.{SessionSlot}
use Rattle.saned_core.specs.Loading.{held_with, holds, holds_in, is_lease_named, lease_with, on_first, slot_with_page, session_with}
use Rattle.saned_core.specs.DaemonStates.{is_slot_number, on_session_slot, on_session, session_slot_of}
use Rattle.daemon_refines.proofs.Changes.{Held}
use Rattle.daemon_refines.proofs.Moved.{own}
use Rattle.world_refines.specs.WorldRefinement.{IsFaithful, IsFaithfulLease, IsFaithfulPage}
use Rattle.world_refines.proofs.state.Faithful.{TakesSlot, word_true}
use Rattle.world_refines.proofs.state.Finding.{same_texts}
use Rattle.world_refines.proofs.state.EndpointSlots.{Single, later}

-- ---- what a page leaves true

page_true : (source : SourceState) → IsHeldPage (held_from source) → (b : Bool) (pages : List Page) → AllByRecursion IsFaithfulPage pages → AllByRecursion IsFaithfulPage (pages_with b pages (held_from source))
page_true source limits false pages h = (limits.view, tt)
page_true source limits true [] h = (limits.view, tt)
page_true source limits true (p ∷ pages) h = (h.0, page_true source limits true pages h.1)

pub load_true : (source : SourceState) → IsHeldPage (held_from source) → (s : DeviceState) → IsFaithful s → IsFaithful (page_loaded s source)
load_true source limits s h = page_true source limits (feeds s) s.pages h

device_true : (source : SourceState) → IsHeldPage (held_from source) → (b : Bool) (s : DeviceState) → IsFaithful s → IsFaithful (if b then page_loaded s source else s)
device_true source limits true s h = load_true source limits s h
device_true source limits false s h = h

lease_true : (source : SourceState) → IsHeldPage (held_from source) → (lease : Option (Lease DeviceState)) → IsFaithfulLease lease → IsFaithfulLease (lease_with source lease)
lease_true source limits None h = h
lease_true source limits (Some l) h = device_true source limits (takes_page l.device) l.device h

-- ---- a session, of which the device of one word takes a page

abbrev pub laid : SourceState → ℕ → RequestSession DeviceState → RequestSession DeviceState
laid source word s = record s { held = on_word (lease_with source) s.held word }

pub laid_true : (source : SourceState) → IsHeldPage (held_from source) → (word : ℕ) (s : RequestSession DeviceState) → AllByRecursion IsFaithfulLease s.held → AllByRecursion IsFaithfulLease (laid source word s).held
laid_true source limits word s h = word_true (lease_with source) s.held word (lease_true source limits) h

-- ---- the first lease of that name

pub record FoundLease (name : List ℕ) (held : Held) : Type 0 where
  pub word : ℕ
  pub lease : Lease DeviceState
  pub stands : held_by held word ≡ Some lease
  pub name_is : lease.device.info.name ≡ name
  pub then_is : (source : SourceState) → held_with name source held ≡ on_word (lease_with source) held word

lease_by : (name : List ℕ) (x : Option (Lease DeviceState)) (held : Held) (b : Bool) → is_lease_named name x ≡ b → (b || list_any (is_lease_named name) held) ≡ true → (list_any (is_lease_named name) held ≡ true → FoundLease name held) → FoundLease name (x ∷ held)
unfolding on_first on_word held_by
lease_by name None held true is e more = absurd (let clash : false ≡ true = is in cc)
lease_by name (Some l) held true is e more =
    record {
      word = 0;
      lease = l;
      stands = refl;
      name_is = (same_texts l.device.info.name name).0 is;
      then_is = λ source. ap (λ (b : Bool). if b then lease_with source (Some l) ∷ held else Some l ∷ on_first (is_lease_named name) (lease_with source) held) is;
    }
lease_by name x held false is e more =
    let f = more e in
    record {
      word = suc f.word;
      lease = f.lease;
      stands = f.stands;
      name_is = f.name_is;
      then_is = λ source. ap (λ (b : Bool). if b then lease_with source x ∷ held else x ∷ on_first (is_lease_named name) (lease_with source) held) is ∙ ap (λ (h : Held). x ∷ h) (f.then_is source);
    }

found_lease : (name : List ℕ) (held : Held) → list_any (is_lease_named name) held ≡ true → FoundLease name held
found_lease name [] e = absurd (let clash : false ≡ true = e in cc)
found_lease name (x ∷ held) e = lease_by name x held (is_lease_named name x) refl e (found_lease name held)

-- ---- the first slot whose session has it

pub record FoundSlot (name : List ℕ) (slots : TakesSlot) : Type 0 where
  pub index : ℕ
  pub slot : SessionSlot DeviceState
  pub session : RequestSession DeviceState
  pub at : slice_get slots index ≡ Some (Some slot)
  pub session_is : slot.session ≡ Some session
  pub lease : FoundLease name session.held
  pub found : Single slots → session_slot_of slots slot.number ≡ Some slot
  pub then_is : Single slots → (source : SourceState) → on_first (holds name) (slot_with_page name source) slots ≡ on_session_slot (on_session (laid source lease.word)) slot.number slots

slot_here : (name : List ℕ) (slot : SessionSlot DeviceState) (slots : TakesSlot) (o : Option (RequestSession DeviceState)) → slot.session ≡ o → holds_in name o ≡ true → FoundSlot name (Some slot ∷ slots)
unfolding on_first on_session_slot session_slot_of
slot_here name slot slots None e has = absurd (let clash : false ≡ true = has in cc)
slot_here name slot slots (Some s) e has =
    let l = found_lease name s.held has in
    let number : is_slot_number slot.number (Some slot) ≡ true = own slot.number in
    record {
      index = 0;
      slot = slot;
      session = s;
      at = refl;
      session_is = e;
      lease = l;
      found = λ single. ap (λ (b : Bool). if b then Some slot else session_slot_of slots slot.number) number;
      then_is = λ single source.
          let g = laid source l.word in
          let left : on_first (holds name) (slot_with_page name source) (Some slot ∷ slots) ≡ Some (record slot { session = Some (g s) }) ∷ slots =
          ap (λ (b : Bool). if b then slot_with_page name source (Some slot) ∷ slots else Some slot ∷ on_first (holds name) (slot_with_page name source) slots) (ap (holds_in name) e ∙ has)
          ∙ ap (λ (o : Option (RequestSession DeviceState)). Some (record slot { session = o }) ∷ slots) (ap (session_with name source) e ∙ ap (λ (h : Held). Some (record s { held = h })) (l.then_is source)) in
          let right : on_session_slot (on_session g) slot.number (Some slot ∷ slots) ≡ Some (record slot { session = Some (g s) }) ∷ slots =
          ap (λ (b : Bool). if b then option_and_then (on_session g) (Some slot) ∷ slots else Some slot ∷ on_session_slot (on_session g) slot.number slots) number
          ∙ ap (λ (o : Option (RequestSession DeviceState)). Some (record slot { session = option_map g o }) ∷ slots) e in
          left ∙ sym right;
    }

head_other : (x : Option (SessionSlot DeviceState)) (slots : TakesSlot) (k : ℕ) (slot : SessionSlot DeviceState) → slice_get slots k ≡ Some (Some slot) → Single (x ∷ slots) → is_slot_number slot.number x ≡ false
head_other None slots k slot at single = refl
head_other (Some r) slots k slot at single = ne_eqb r.number slot.number (λ same. let clash : zero ≡ suc k = single zero (suc k) r slot refl at same in omega (arith, clash))

slot_by : (name : List ℕ) (x : Option (SessionSlot DeviceState)) (slots : TakesSlot) (b : Bool) → holds name x ≡ b → (b || list_any (holds name) slots) ≡ true → (list_any (holds name) slots ≡ true → FoundSlot name slots) → FoundSlot name (x ∷ slots)
unfolding on_first on_session_slot session_slot_of
slot_by name None slots true is e more = absurd (let clash : false ≡ true = is in cc)
slot_by name (Some slot) slots true is e more = slot_here name slot slots slot.session refl is
slot_by name x slots false is e more =
    let f = more e in
    record {
      index = suc f.index;
      slot = f.slot;
      session = f.session;
      at = f.at;
      session_is = f.session_is;
      lease = f.lease;
      found = λ single. ap (λ (b : Bool). if b then x else session_slot_of slots f.slot.number) (head_other x slots f.index f.slot f.at single) ∙ f.found (later x slots single);
      then_is = λ single source.
          let g = laid source f.lease.word in
          ap (λ (b : Bool). if b then slot_with_page name source x ∷ slots else x ∷ on_first (holds name) (slot_with_page name source) slots) is
          ∙ (ap (λ (r : TakesSlot). x ∷ r) (f.then_is (later x slots single) source)
          ∙ sym (ap (λ (b : Bool). if b then option_and_then (on_session g) x ∷ slots else x ∷ on_session_slot (on_session g) f.slot.number slots) (head_other x slots f.index f.slot f.at single)));
    }

pub found_own_slot : (name : List ℕ) (slots : TakesSlot) → list_any (holds name) slots ≡ true → FoundSlot name slots
found_own_slot name [] e = absurd (let clash : false ≡ true = e in cc)
found_own_slot name (x ∷ slots) e = slot_by name x slots (holds name x) refl e (found_own_slot name slots)

-- ---- and a lease that a session has is found

either_true : (b c : Bool) → c ≡ true → (b || c) ≡ true
either_true true c e = refl
either_true false c e = e

pub any_lease : (name : List ℕ) (held : Held) (word : ℕ) (l : Lease DeviceState) → held_by held word ≡ Some l → l.device.info.name ≡ name → list_any (is_lease_named name) held ≡ true
unfolding held_by
any_lease name [] word l e same = absurd (let clash : None ≡ Some l = e in cc)
any_lease name (x ∷ held) zero l e same = ap (λ (b : Bool). b || list_any (is_lease_named name) held) (ap (is_lease_named name) e ∙ (same_texts l.device.info.name name).1 same)
any_lease name (x ∷ held) (suc word) l e same = either_true (is_lease_named name x) (list_any (is_lease_named name) held) (any_lease name held word l e same)

any_by : (name : List ℕ) (x y : Option (SessionSlot DeviceState)) (slots : TakesSlot) (b : Bool) → holds name (if b then x else y) ≡ true → (holds name y ≡ true → list_any (holds name) slots ≡ true) → (holds name x || list_any (holds name) slots) ≡ true
any_by name x y slots true e more = ap (λ (b : Bool). b || list_any (holds name) slots) e
any_by name x y slots false e more = either_true (holds name x) (list_any (holds name) slots) (more e)

pub any_slot : (name : List ℕ) (slots : TakesSlot) (n : ℕ) → holds name (session_slot_of slots n) ≡ true → list_any (holds name) slots ≡ true
unfolding session_slot_of
any_slot name [] n e = e
any_slot name (x ∷ slots) n e = any_by name x (session_slot_of slots n) slots (is_slot_number n x) e (any_slot name slots n)
