-- A session ends, and each device that it holds is given back; and what changes no word.
use Rattle.std.proofs.Common.{inl, inr, ◌≡◌, ◌≢◌, ◌∙◌, ◌+◌, ℕ, zero, suc, List, [], ◌∷◌, Bool, true, false, Option, Some, None, refl, sym, ap, subst, eqb, eqb-true, cond, slice_get, arith}
use Rattle.std.specs.Prelude.{◌/◌, ◌==◌, if◌then◌else◌}
use Rattle.std.proofs.lemmas.Bool.{eqb-false}
use Rattle.sane_fixed.specs.declared.status.Status.TheVariants as code
use Rattle.sane_fixed.specs.declared.device_info.DeviceInfo.{DeviceInfo}
use Rattle.device_api.specs.State.{DeviceState}
use Rattle.dispatch.specs.declared.table.place.Slot.{Slot}
use Rattle.dispatch.specs.declared.table.place.Slot.TheVariants.{In, Out, Gone}
use Rattle.dispatch.specs.declared.table.place.Place.{Place}
use Rattle.dispatch.specs.declared.table.place.Lease.{Lease}
use Rattle.dispatch.specs.Table.{Table, after_give_back, is_gone, listed_infos}
use Rattle.wire_message.specs.declared.message.Request.{Request as Asked}
use Rattle.wire_message.specs.declared.message.Request.TheVariants as requests
use Rattle.wire_message.specs.declared.message.Reply.TheVariants as replies
use Rattle.saned_requests.specs.declared.request_answer.RequestAnswer.{RequestAnswer}
use Rattle.saned_requests.specs.declared.request_answer.RequestAnswer.TheVariants.{One, Last}
use Rattle.saned_requests.specs.Holding.{given_back, held_by}
use Rattle.saned_requests.specs.RequestAnswers.{RequestContext, greeting, session_ended, own_version}
use Rattle.system_model.specs.AbstractMessages.{Authorize, Exit, Greeted, Listed, AbstractRequest}
use Rattle.system_model.specs.Devices.{Make}
use Rattle.system_model.specs.AbstractDevices.{AbstractDevice, is_held_by, device_let_go, put_back}
use Rattle.system_model.specs.Daemon.{Environment}
use Rattle.system_model.specs.SystemStates.{with_entry}
use Rattle.system_model.specs.AbstractSessions.{AddressedRequest, AbstractSession, all_over, answer_call, awaited_call, reply_alone, plain_call}
use Rattle.daemon_refines.specs.ContextRefinement.{HoldsPlace, ContextRefines, PlaceRefines, SlotRefines, TableRefines}
use Rattle.daemon_refines.specs.Agreeing.{Agrees, AgreesOn, manner}
use Rattle.daemon_refines.specs.WholeSessions.{DevicesAgree, EndsAgree, InitAgrees, InitEnds, IsLast, IsOtherRequest, ListsAgree, OthersEnd, infos_for}
use Rattle.daemon_refines.specs.DataRefinement.{ReleaseAgrees}
use Rattle.daemon_refines.proofs.Changes.{Held, place_shown, shown_by}
use Rattle.daemon_refines.proofs.CancelAndClose.{given_back_table}
use Rattle.daemon_refines.proofs.Moved.{put_elsewhere, put_there, unsome}
use Rattle.daemon_refines.proofs.Scanning.{given_back_is}
use Rattle.daemon_refines.proofs.WordRequests.{says_one}

-- devices that are the same at each place
pub same_tables : (i : ℕ) (make : ℕ → Make) (held : Held) (registry : Table) (table new : ℕ → AbstractDevice) → ((k : ℕ) → new k ≡ table k) → TableRefines i make held registry table → TableRefines i make held registry new
same_tables i make held registry table new same old =
    record {
      leases = λ w l e. let s = old.leases w l e in record { device = same l.place ∙ s.device; made = s.made; own = s.own };
      apart = old.apart;
      places = λ k. subst (λ (dev : AbstractDevice). PlaceRefines i (make k) held k dev (slice_get registry k)) (sym (same k)) (old.places k);
    }

-- nothing is behind the first word
pub shift : (i : ℕ) (make : ℕ → Make) (held : Held) (registry : Table) (table : ℕ → AbstractDevice) → TableRefines i make (None ∷ held) registry table → TableRefines i make held registry table
unfolding held_by
shift i make held registry table old =
    record {
      leases = λ w l e. old.leases (suc w) l e;
      apart = λ w v l m e f same. let n : suc w ≡ suc v = old.apart (suc w) (suc v) l m e f same in cc;
      places = λ k. place_shown i (make k) (None ∷ held) held k (table k) (slice_get registry k) (λ h. held_at k h.word h.lease h.stands h.place) (old.places k);
    }
  where
    held_at : (k w : ℕ) (l : Lease DeviceState) → held_by (None ∷ held) w ≡ Some l → l.place ≡ k → HoldsPlace held k
    held_at k zero l e p = absurd (let clash : None ≡ Some l = e in cc)
    held_at k (suc w) l e p = record { word = w; lease = l; stands = e; place = p }

-- what another holds, or nobody, is left
pub left_by : (i : ℕ) (dev : AbstractDevice) (h : Option ℕ) → dev.holder ≡ h → (h ≡ Some i → ⊥) → device_let_go i dev ≡ dev
left_by i dev None e n = ap (λ (x : Option ℕ). cond (is_held_by i x) (put_back dev) dev) e
left_by i dev (Some j) e n = ap (λ (x : Option ℕ). cond (is_held_by i x) (put_back dev) dev) e ∙ by_test (eqb j i) refl
  where
    by_test : (b : Bool) → eqb j i ≡ b → cond (eqb j i) (put_back dev) dev ≡ dev
    by_test true t = absurd (n (ap (λ (x : ℕ). Some x) (eqb-true j i t)))
    by_test false t = ap (λ (b : Bool). cond b (put_back dev) dev) t

pub taken_by : (i : ℕ) (dev : AbstractDevice) → dev.holder ≡ Some i → device_let_go i dev ≡ put_back dev
taken_by i dev e = ap (λ (x : Option ℕ). cond (is_held_by i x) (put_back dev) dev) e ∙ by_test (eqb i i) refl
  where
    by_test : (b : Bool) → eqb i i ≡ b → cond (eqb i i) (put_back dev) dev ≡ put_back dev
    by_test true t = ap (λ (b : Bool). cond b (put_back dev) dev) t
    by_test false t = absurd (eqb-false i i t refl)

no_word : (i : ℕ) (make : Make) (k : ℕ) (dev : AbstractDevice) (name : List ℕ) (slot : Slot DeviceState) → SlotRefines i make [] k dev name slot → device_let_go i dev ≡ dev
unfolding held_by
no_word i make k dev name Gone h = left_by i dev None h.1 (λ e. cc)
no_word i make k dev name (In s) h = left_by i dev None (ap (λ (x : AbstractDevice). x.holder) h.0) (λ e. cc)
no_word i make k dev name Out (l, inl h) = absurd (let clash : None ≡ Some h.lease = h.stands in cc)
no_word i make k dev name Out (l, inr h) = left_by i dev (Some h.other) h.holder (λ e. h.no_own (unsome h.other i e))

pub no_place : (i : ℕ) (make : Make) (k : ℕ) (dev : AbstractDevice) (at : Option (Place DeviceState)) → PlaceRefines i make [] k dev at → device_let_go i dev ≡ dev
no_place i make k dev None h = left_by i dev None h.1 (λ e. cc)
no_place i make k dev (Some p) h = no_word i make k dev p.info.name p.slot h

-- what client i holds is given back once
pub gone : (i : ℕ) (table : ℕ → AbstractDevice) (p : ℕ) → (table p).holder ≡ Some i → (e : ℕ) (b : Bool) → eqb e p ≡ b → device_let_go i (with_entry table p (put_back (table p)) e) ≡ device_let_go i (table e)
gone i table p holder e true t =
    let here = eqb-true e p t in
    ap (λ (k : ℕ). device_let_go i (with_entry table p (put_back (table p)) k)) here ∙ ap (device_let_go i) (put_there table p (put_back (table p)))
    ∙ left_by i (put_back (table p)) None refl (λ q. cc)
    ∙ sym (ap (λ (k : ℕ). device_let_go i (table k)) here ∙ taken_by i (table p) holder)
gone i table p holder e false t = ap (device_let_go i) (put_elsewhere table p (put_back (table p)) e (eqb-false e p t))

-- each in its turn
pub ends : (i : ℕ) (make : ℕ → Make) (held : Held) (registry : Table) (table : ℕ → AbstractDevice) → TableRefines i make held registry table → TableRefines i make [] (given_back registry held) (λ e. device_let_go i (table e))
unfolding held_by
ends i make [] registry table old = same_tables i make [] registry table (λ e. device_let_go i (table e)) (λ k. no_place i (make k) k (table k) (slice_get registry k) (old.places k)) old
ends i make (None ∷ held) registry table old = ends i make held registry table (shift i make held registry table old)
ends i make (Some l ∷ held) registry table old =
    let p = l.place in
    let dev = put_back (table p) in
    let new = with_entry table p dev in
    let registry2 = after_give_back registry l in
    let one = given_back_table i make (Some l ∷ held) registry table 0 l dev (None ∷ held) old refl (λ v n. other v n) refl (ap put_back (old.leases 0 l refl).device ∙ given_back_is (Some i) l.device) in
    same_tables i make [] (given_back registry2 held) (λ e. device_let_go i (new e)) (λ e. device_let_go i (table e)) (λ e. sym (gone i table l.place (ap (λ (x : AbstractDevice). x.holder) (old.leases 0 l refl).device) e (eqb e p) refl)) (ends i make held registry2 new (shift i make held registry2 new one))
  where
    other : (v : ℕ) → v ≢ 0 → held_by (None ∷ held) v ≡ held_by (Some l ∷ held) v
    other zero n = absurd (n refl)
    other (suc v) n = refl

pub session_over : (i : ℕ) (make : ℕ → Make) (d : RequestContext) (table : ℕ → AbstractDevice) (s : AbstractSession) (q : Asked) (word : ℕ) → ContextRefines i make d table s → AgreesOn i make d word q (all_over i table s) (session_ended d)
session_over i make d table s q word old = record { says = refl; same_end = refl; stands = λ e. cc; ends = λ e. ends i make d.session.held d.registry table old.devices }

last_of : (i : ℕ) (make : ℕ → Make) (d : RequestContext) (table : ℕ → AbstractDevice) (s : AbstractSession) (x : ℕ → Environment) (call : AddressedRequest) (q : Asked) (word : ℕ) (r : AbstractRequest) → call.request ≡ r → ContextRefines i make d table s → IsLast r → AgreesOn i make d word q (answer_call i make table s x None call) (session_ended d)
last_of i make d table s x call q word Exit e old h = subst (λ (r : AbstractRequest). AgreesOn i make d word q (plain_call i make table s x call r) (session_ended d)) (sym e) (session_over i make d table s q word old)
last_of i make d table s x call q word (Authorize c) e old h = subst (λ (r : AbstractRequest). AgreesOn i make d word q (plain_call i make table s x call r) (session_ended d)) (sym e) (session_over i make d table s q word old)
last_of i make d table s x call q word other e old h = absurd h

pub ends_agree : EndsAgree
ends_agree i make d table s x call q word old h = last_of i make d table s x call q word call.request refl old h

other_of : (i : ℕ) (make : ℕ → Make) (d : RequestContext) (table : ℕ → AbstractDevice) (s : AbstractSession) (x : ℕ → Environment) (sent : List ℕ) (p : ℕ) (q : Asked) (word : ℕ) (r : AbstractRequest) → ContextRefines i make d table s → IsOtherRequest r → AgreesOn i make d word q (awaited_call i make table s x sent p r) (session_ended d)
other_of i make d table s x sent p q word (Authorize c) old h = absurd h
other_of i make d table s x sent p q word call old h = session_over i make d table s q word old

pub others_end : OthersEnd
others_end i make d table s x call q word sent p old h = other_of i make d table s x sent p q word call.request old h

-- GET_DEVICES and INIT
pub devices_agree : DevicesAgree
devices_agree i make d table s x w place old none = says_one i make (manner d w) _ (reply_alone (Listed (x place).listed) table s) (Listed (x place).listed) _ d refl refl refl old

is_listed : (i : ℕ) (make : Make) (held : Held) (k : ℕ) (dev : AbstractDevice) (name : List ℕ) (slot : Slot DeviceState) → SlotRefines i make held k dev name slot → dev.listed ≡ (if is_gone slot then false else true)
is_listed i make held k dev name (In s) h = ap (λ (x : AbstractDevice). x.listed) h.0
is_listed i make held k dev name Out h = h.0
is_listed i make held k dev name Gone h = h.0

by_slot : (table : ℕ → AbstractDevice) (k : ℕ) (p : Place DeviceState) (t : Table) (slot : Slot DeviceState) → p.slot ≡ slot → listed_infos t ≡ infos_for table (k + 1) t →
    (if is_gone p.slot then listed_infos t else p.info ∷ listed_infos t) ≡ cond (if is_gone p.slot then false else true) (p.info ∷ infos_for table (k + 1) t) (infos_for table (k + 1) t)
by_slot table k p t (In s) e rest = ap (λ (x : Slot DeviceState). if is_gone x then listed_infos t else p.info ∷ listed_infos t) e ∙ ap (λ (xs : List DeviceInfo). p.info ∷ xs) rest ∙ sym (ap (λ (x : Slot DeviceState). cond (if is_gone x then false else true) (p.info ∷ infos_for table (k + 1) t) (infos_for table (k + 1) t)) e)
by_slot table k p t Out e rest = ap (λ (x : Slot DeviceState). if is_gone x then listed_infos t else p.info ∷ listed_infos t) e ∙ ap (λ (xs : List DeviceInfo). p.info ∷ xs) rest ∙ sym (ap (λ (x : Slot DeviceState). cond (if is_gone x then false else true) (p.info ∷ infos_for table (k + 1) t) (infos_for table (k + 1) t)) e)
by_slot table k p t Gone e rest = ap (λ (x : Slot DeviceState). if is_gone x then listed_infos t else p.info ∷ listed_infos t) e ∙ rest ∙ sym (ap (λ (x : Slot DeviceState). cond (if is_gone x then false else true) (p.info ∷ infos_for table (k + 1) t) (infos_for table (k + 1) t)) e)

lists_from : (table : ℕ → AbstractDevice) (k : ℕ) (t : Table) → ((n j : ℕ) (p : Place DeviceState) → n ≡ k + j → slice_get t j ≡ Some p → (table n).listed ≡ (if is_gone p.slot then false else true)) → listed_infos t ≡ infos_for table k t
lists_from table k [] h = refl
lists_from table k (p ∷ t) h =
    let rest = lists_from table (k + 1) t (λ n j p2 e g. h n (suc j) p2 (omega arith) g) in
    by_slot table k p t p.slot refl rest ∙ sym (ap (λ (b : Bool). cond b (p.info ∷ infos_for table (k + 1) t) (infos_for table (k + 1) t)) (h k 0 p (omega arith) refl))

pub lists_agree : ListsAgree
lists_agree i make d table s old = lists_from table 0 d.registry (λ n j p z e.
    let here : n ≡ j = omega arith in
    ap (λ (k : ℕ). (table k).listed) here ∙ is_listed i (make j) d.session.held j (table j) p.info.name p.slot (shown_by i (make j) d.session.held j (table j) (slice_get d.registry j) p p.slot e refl (old.devices.places j)))

greeted : (i : ℕ) (make : ℕ → Make) (d : RequestContext) (table : ℕ → AbstractDevice) (s : AbstractSession) → ContextRefines i make d table s → ContextRefines i make (record d { session = record d.session { greeted = true } }) table s
greeted i make d table s old = record { words = old.words; four = old.four; transfer = old.transfer; frame = old.frame; awaited = old.awaited; devices = old.devices }

pub init_agrees : InitAgrees
init_agrees i make d table s x version w place user old none major =
    let new : RequestContext = record d { session = record d.session { greeted = true } } in
    let said_is : greeting version ≡ One (replies.Init code.Good own_version) = ap (λ (n : ℕ). if n == 1 then One (replies.Init code.Good own_version) else Last (Some (replies.Init code.Inval own_version))) major in
    subst (λ (said : RequestAnswer). Agrees i make (manner d w) (requests.Init version user) (reply_alone Greeted table s) said new) (sym said_is)
    (says_one i make (manner d w) _ (reply_alone Greeted table s) Greeted _ new refl refl refl (greeted i make d table s old))

other_major : (n : ℕ) (b : Bool) → (n == 1) ≡ b → n ≢ 1 → (if n == 1 then One (replies.Init code.Good own_version) else Last (Some (replies.Init code.Inval own_version))) ≡ Last (Some (replies.Init code.Inval own_version))
other_major n true e other = absurd (other (eqb-true n 1 e))
other_major n false e other = ap (λ (b : Bool). if b then One (replies.Init code.Good own_version) else Last (Some (replies.Init code.Inval own_version))) e

pub init_ends : InitEnds
init_ends i make d table s version old other = record { said = other_major (version / 16777216) (version / 16777216 == 1) refl other; ends = ends i make d.session.held d.registry table old.devices }

pub release_agrees : ReleaseAgrees
release_agrees i make d table s old = ends i make d.session.held d.registry table old.devices
