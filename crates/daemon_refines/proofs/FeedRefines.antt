-- A piece of bytes: its requests in turn, and what is left where the session ends in it.
use Rattle.std.proofs.Common.{inl, inr, ◌⊎◌, ◌≡◌, ◌≢◌, ◌∙◌, ℕ, List, [], ◌∷◌, Bool, true, false, Option, Some, None, refl, sym, ap, subst, eqb, eqb-true}
use Rattle.std.specs.Prelude.{Result, Ok, Err}
use Rattle.std.proofs.lemmas.Bool.{eqb-false}
use Rattle.sane_fixed.specs.declared.no_mem.NoMem.{NoMem}
use Rattle.sane_fixed.specs.declared.status.Status.{Status as Code}
use Rattle.sane_fixed.specs.declared.status.Status.TheVariants as code
use Rattle.md5_auth.specs.declared.users.Entry.{Entry}
use Rattle.device_api.specs.State.{DeviceState, Starts}
use Rattle.device_api.proofs.SameLaws.{start_same}
use Rattle.dispatch.specs.declared.table.place.Lease.{Lease}
use Rattle.dispatch.specs.Table.{Table}
use Rattle.wire_message.specs.declared.message.Request.{Request as Asked}
use Rattle.wire_message.specs.declared.message.Request.TheVariants as requests
use Rattle.wire_message.specs.declared.message.Reply.{Reply}
use Rattle.saned_requests.specs.declared.session.AwaitedAuthorization.{AwaitedAuthorization}
use Rattle.saned_requests.specs.declared.session.DataPhase.{DataPhase as WordCarriage}
use Rattle.saned_requests.specs.declared.session.DataPhase.TheVariants as word
use Rattle.saned_requests.specs.declared.request_answer.RequestAnswer.{RequestAnswer}
use Rattle.saned_requests.specs.Holding.{given_back, held_by, on_word, with_device}
use Rattle.saned_requests.specs.RequestAnswers.{Answers, AnswersBy, AnswersFree, AnswersGreeted, RequestContext, RequestOutOfMemory, OutOfMemoryBy, OutOfMemoryFree, OutOfMemoryGreeted, StartsLease, StartsWord, control, start_answer, with_held}
use Rattle.saned_requests.specs.RequestAnswers.RequestOutOfMemory.{Under, All}
use Rattle.saned_core.specs.declared.session_slot.Fed.TheVariants.{Standing, Over, Starved}
use Rattle.saned_core.specs.Feeding as daemon
use Rattle.saned_core.specs.Feeding.{AnswersAll, OutOfMemoryNext, session_goes_on}
use Rattle.saned_core.specs.Feeding.FeedEndsSession.{Garbled, Ended}
use Rattle.system_model.specs.Devices.{Make}
use Rattle.system_model.specs.AbstractDevices.{AbstractDevice, device_let_go, put_back, put_down}
use Rattle.system_model.specs.SystemStates.{with_entry}
use Rattle.system_model.specs.AbstractSessions.{AbstractSession}
use Rattle.daemon_refines.specs.ContextRefinement.{ContextRefines, TableRefines, abstract_device}
use Rattle.daemon_refines.specs.OtherSessions.{LeavesOthers}
use Rattle.daemon_refines.specs.Feeds.{ClosesSession, EndsSession, FeedsAgree, SessionContinues, IsSessionBegun}
use Rattle.daemon_refines.specs.Feeds.ClosesSession.{AtOnce, BehindOne}
use Rattle.daemon_refines.proofs.Changes.{Held}
use Rattle.daemon_refines.proofs.SessionEndings.{ends, same_tables, taken_by}
use Rattle.daemon_refines.proofs.Greeted.{SameWords, answers_end, same_words}
use Rattle.daemon_refines.proofs.WordsAndPlaces.{on_length, on_other, on_same}
use Rattle.daemon_refines.proofs.Leaves.{devices_leave, ends_leave}
use Rattle.daemon_refines.proofs.Moved.{Stays, moved_table, put_elsewhere, put_there}
use Rattle.daemon_refines.proofs.OtherSessions.{leaves_all, leaves_same, leaves_then}
use Rattle.daemon_refines.proofs.Serving.{Served, served}
use Rattle.daemon_refines.proofs.ScannerStarts.{made_started, starved_is}

-- ---- requests that the session goes on behind

-- one, and then these
then_these : (i : ℕ) (make : ℕ → Make) (users : List Entry) (d : RequestContext) (table : ℕ → AbstractDevice) (s : AbstractSession) (q : Asked) (qs : List Asked) (said : RequestAnswer) (mid new : RequestContext) (one : Served i make users d table s q said mid) → SessionContinues i make users mid one.devices one.session qs new → SessionContinues i make users d table s (q ∷ qs) new
then_these i make users d table s q qs said mid new one more =
    record {
      devices = more.devices;
      session = more.session;
      runs = (said, mid, one.devices, one.session, one.serves, one.shows, more.runs);
      shows = more.shows;
      begun = more.begun;
      others = leaves_then i d.registry mid.registry new.registry table one.devices more.devices one.others more.others;
    }

answers_all : (i : ℕ) (make : ℕ → Make) (users : List Entry) (d : RequestContext) (table : ℕ → AbstractDevice) (s : AbstractSession) (qs : List Asked) (told : List Reply) (new : RequestContext) → ContextRefines i make d table s → IsSessionBegun d → AnswersAll users d qs told new → SessionContinues i make users d table s qs new
answers_all i make users d table s [] told new old begun g =
    record {
      devices = table;
      session = s;
      runs = (g.1, refl, refl);
      shows = subst (λ (t : RequestContext). ContextRefines i make t table s) (sym g.1) old;
      begun = subst (λ (t : RequestContext). IsSessionBegun t) (sym g.1) begun;
      others = subst (λ (t : RequestContext). LeavesOthers i d.registry t.registry table table) (sym g.1) (leaves_all i d.registry table);
    }
answers_all i make users d table s (q ∷ qs) told new old begun (said, mid, more, g, on, rest, is) =
    let one = served i make users d table s q said mid old begun g on in
    then_these i make users d table s q qs said mid new one (answers_all i make users mid one.devices one.session qs more new one.shows one.begun rest)

-- ---- an end, by what the words hold then

-- behind these requests all is given back
record Returns (i : ℕ) (make : ℕ → Make) (users : List Entry) (mid : RequestContext) (table : ℕ → AbstractDevice) (s : AbstractSession) (new : RequestContext) : Type 0 where
  devices : ℕ → AbstractDevice
  closes : ClosesSession i make users mid table s new devices
  back : TableRefines i make [] (daemon.table_let_go new) (λ k. device_let_go i (devices k))
  others : LeavesOthers i mid.registry (daemon.table_let_go new) table (λ k. device_let_go i (devices k))

ends_behind : (i : ℕ) (make : ℕ → Make) (users : List Entry) (d : RequestContext) (table : ℕ → AbstractDevice) (s : AbstractSession) (asked : List Asked) (mid new : RequestContext) (far : SessionContinues i make users d table s asked mid) → Returns i make users mid far.devices far.session new → EndsSession i make users d table s asked new
ends_behind i make users d table s asked mid new far r =
    record {
      mid = mid;
      so_far = far;
      devices = r.devices;
      closes = r.closes;
      back = r.back;
      others = leaves_then i d.registry mid.registry (daemon.table_let_go new) table far.devices (λ k. device_let_go i (r.devices k)) far.others r.others;
    }

-- with the same words
let_go_same : (mid new : RequestContext) → SameWords mid new → daemon.table_let_go mid ≡ daemon.table_let_go new
let_go_same mid new same = ap (λ (t : Table). given_back t mid.session.held) (sym same.registry) ∙ ap (λ (h : Held). given_back new.registry h) (sym same.held)

-- the device of a word found no memory to start
pub record IsStopped (mid new : RequestContext) : Type 0 where
  pub word : ℕ
  pub lease : Lease DeviceState
  pub after : DeviceState
  pub stands : held_by mid.session.held word ≡ Some lease
  pub starts : Starts lease.device (Err code.NoMem) after
  pub held : new.session.held ≡ on_word (λ _. with_device lease after) mid.session.held word

-- all that the session holds is given back as it stands
pub record Back (i : ℕ) (make : ℕ → Make) (mid : RequestContext) (table : ℕ → AbstractDevice) (new : RequestContext) : Type 0 where
  pub registry : new.registry ≡ mid.registry
  pub words : (new.session.held ≡ mid.session.held) ⊎ IsStopped mid new
  pub back : TableRefines i make [] (daemon.table_let_go new) (λ k. device_let_go i (table k))
  pub others : LeavesOthers i mid.registry (daemon.table_let_go new) table (λ k. device_let_go i (table k))

pub back_same : (i : ℕ) (make : ℕ → Make) (mid : RequestContext) (table : ℕ → AbstractDevice) (s : AbstractSession) (new : RequestContext) → ContextRefines i make mid table s → SameWords mid new → Back i make mid table new
back_same i make mid table s new old same =
    record {
      registry = same.registry;
      words = inl same.held;
      back = subst (λ (t : Table). TableRefines i make [] t (λ k. device_let_go i (table k))) (let_go_same mid new same) (ends i make mid.session.held mid.registry table old.devices);
      others = subst (λ (t : Table). LeavesOthers i mid.registry t table (λ k. device_let_go i (table k))) (let_go_same mid new same) (ends_leave i make mid.session.held mid.registry table old.devices);
    }

given_at_once : (i : ℕ) (make : ℕ → Make) (users : List Entry) (mid : RequestContext) (table : ℕ → AbstractDevice) (s : AbstractSession) (new : RequestContext) → Back i make mid table new → Returns i make users mid table s new
given_at_once i make users mid table s new b = record { devices = table; closes = AtOnce refl; back = b.back; others = b.others }

at_once : (i : ℕ) (make : ℕ → Make) (users : List Entry) (mid : RequestContext) (table : ℕ → AbstractDevice) (s : AbstractSession) (new : RequestContext) → ContextRefines i make mid table s → SameWords mid new → Returns i make users mid table s new
at_once i make users mid table s new old same = given_at_once i make users mid table s new (back_same i make mid table s new old same)

-- one more request was served
behind_one : (i : ℕ) (make : ℕ → Make) (users : List Entry) (mid : RequestContext) (table : ℕ → AbstractDevice) (s : AbstractSession) (q : Asked) (said : RequestAnswer) (new : RequestContext) → Served i make users mid table s q said new → Returns i make users mid table s new
behind_one i make users mid table s q said new one =
    record {
      devices = one.devices;
      closes = BehindOne q said one.session one.serves;
      back = ends i make new.session.held new.registry one.devices one.shows.devices;
      others = leaves_then i mid.registry new.registry (daemon.table_let_go new) table one.devices (λ k. device_let_go i (one.devices k)) one.others (ends_leave i make new.session.held new.registry one.devices one.shows.devices);
    }

by_end : (i : ℕ) (make : ℕ → Make) (users : List Entry) (mid : RequestContext) (table : ℕ → AbstractDevice) (s : AbstractSession) (q : Asked) (said : RequestAnswer) (new : RequestContext) (b : Bool) → session_goes_on said ≡ b → ContextRefines i make mid table s → IsSessionBegun mid → Answers users mid q said new → Returns i make users mid table s new
by_end i make users mid table s q said new true e old begun g = behind_one i make users mid table s q said new (served i make users mid table s q said new old begun g e)
by_end i make users mid table s q said new false e old begun g = at_once i make users mid table s new old (answers_end users mid q said new g e)

answer_ends : (i : ℕ) (make : ℕ → Make) (users : List Entry) (mid : RequestContext) (table : ℕ → AbstractDevice) (s : AbstractSession) (q : Asked) (said : RequestAnswer) (new : RequestContext) → ContextRefines i make mid table s → IsSessionBegun mid → Answers users mid q said new → Returns i make users mid table s new
answer_ends i make users mid table s q said new old begun g = by_end i make users mid table s q said new (session_goes_on said) refl old begun g

-- no spelling stands in the rest, or a request ended it
closed_by : (i : ℕ) (make : ℕ → Make) (users : List Entry) (mid : RequestContext) (table : ℕ → AbstractDevice) (s : AbstractSession) (rest : List ℕ) (told : List Reply) (new : RequestContext) → ContextRefines i make mid table s → IsSessionBegun mid → daemon.FeedEndsSession users mid rest told new → Returns i make users mid table s new
closed_by i make users mid table s rest told new old begun (Garbled none said is) = at_once i make users mid table s new old (same_words mid mid new is refl refl)
closed_by i make users mid table s rest told new old begun (Ended left q said takes g ended) = answer_ends i make users mid table s q said new old begun g

-- ---- out of memory

-- a device that is given back is at rest, whatever it was
rests_back : (i : ℕ) (table : ℕ → AbstractDevice) (p : ℕ) (dev : AbstractDevice) → (table p).holder ≡ Some i → dev ≡ put_down (table p) → (k : ℕ) (b : Bool) → eqb k p ≡ b → device_let_go i (with_entry table p dev k) ≡ device_let_go i (table k)
rests_back i table p dev holder is k true e =
    let here = eqb-true k p e in
    let own : dev.holder ≡ Some i = ap (λ (t : AbstractDevice). t.holder) is ∙ holder in
    ap (λ (j : ℕ). device_let_go i (with_entry table p dev j)) here ∙ ap (device_let_go i) (put_there table p dev) ∙ taken_by i dev own ∙ ap put_back is ∙ sym (taken_by i (table p) holder) ∙ sym (ap (λ (j : ℕ). device_let_go i (table j)) here)
rests_back i table p dev holder is k false e = ap (device_let_go i) (put_elsewhere table p dev k (eqb-false k p e))

starved_start : (i : ℕ) (make : ℕ → Make) (users : List Entry) (mid : RequestContext) (table : ℕ → AbstractDevice) (s : AbstractSession) (w : ℕ) (l : Lease DeviceState) (after : DeviceState) → ContextRefines i make mid table s → held_by mid.session.held w ≡ Some l → Starts l.device (Err code.NoMem) after →
    Back i make mid table (with_held mid (on_word (λ _. with_device l after) mid.session.held w))
starved_start i make users mid table s w l after old e h =
    let shown = old.devices.leases w l e in
    let p = l.place in
    let new : RequestContext = with_held mid (on_word (λ _. with_device l after) mid.session.held w) in
    let dev = abstract_device (Some i) after in
    let rested : dev ≡ put_down (table p) = sym (ap put_down shown.device ∙ starved_is (Some i) l.device after h) in
    let holder : (table p).holder ≡ Some i = ap (λ (t : AbstractDevice). t.holder) shown.device in
    let stays : Stays i make mid w l new dev = record {
      lease = record l { device = after };
      registry = refl;
      four = on_length (λ _. with_device l after) mid.session.held w;
      others = λ v n. on_other (λ _. with_device l after) mid.session.held w v n;
      is = on_same (λ _. with_device l after) mid.session.held w l e;
      place = refl;
      info = (start_same l.device after (Err code.NoMem) h).info;
      device = refl;
      made = made_started (make p) l.device after (Err code.NoMem) shown.made h;
    } in
    let moved = moved_table i make mid table s w l old e new dev stays in
    let same : (k : ℕ) → device_let_go i (table k) ≡ device_let_go i (with_entry table p dev k) = λ k. sym (rests_back i table p dev holder rested k (eqb k p) refl) in
    record {
      registry = refl;
      words = inr (record { word = w; lease = l; after = after; stands = e; starts = h; held = refl });
      back = same_tables i make [] (daemon.table_let_go new) (λ k. device_let_go i (with_entry table p dev k)) (λ k. device_let_go i (table k)) same (ends i make new.session.held mid.registry (with_entry table p dev) moved);
      others = leaves_same i mid.registry (daemon.table_let_go new) table (λ k. device_let_go i (with_entry table p dev k)) (λ k. device_let_go i (table k)) same
          (leaves_then i mid.registry mid.registry (daemon.table_let_go new) table (with_entry table p dev) (λ k. device_let_go i (with_entry table p dev k)) (devices_leave i make mid.session.held mid.registry table w l after old.devices e) (ends_leave i make new.session.held mid.registry (with_entry table p dev) moved));
    }

no_reply : (told : Reply × WordCarriage) → ◌≡◌ {A = Result (Reply × WordCarriage) NoMem} (Err (record {})) (Ok told) → ⊥
no_reply told e = absurd (cc)

-- by the word and the frame
starved_at : (i : ℕ) (make : ℕ → Make) (users : List Entry) (mid : RequestContext) (table : ℕ → AbstractDevice) (s : AbstractSession) (w : ℕ) (c : WordCarriage) (h lease : Option (Lease DeviceState)) → ContextRefines i make mid table s → held_by mid.session.held w ≡ h → StartsLease c mid.session.port w h (Err (record {})) lease →
    Back i make mid table (with_held mid (on_word (λ _. lease) mid.session.held w))
starved_at i make users mid table s w c None lease old e g = absurd (no_reply _ g.0)
starved_at i make users mid table s w (word.Waiting v) (Some l) lease old e g = absurd (no_reply _ g.0)
starved_at i make users mid table s w (word.Streaming v) (Some l) lease old e g = absurd (no_reply _ g.0)
starved_at i make users mid table s w word.Ending (Some l) lease old e g = absurd (no_reply _ g.0)
starved_at i make users mid table s w word.Quiet (Some l) lease old e g = by_told g.told_is
  where
    by_told : ((g.answer ≢ Err code.NoMem) × (◌≡◌ {A = Result (Reply × WordCarriage) NoMem} (Err (record {})) (Ok (start_answer word.Quiet mid.session.port w l.device.setup.order g.answer)))) ⊎ ((g.answer ≡ Err code.NoMem) × (◌≡◌ {A = Result (Reply × WordCarriage) NoMem} (Err (record {})) (Err (record {})))) → Back i make mid table (with_held mid (on_word (λ _. lease) mid.session.held w))
    by_told (inl t) = absurd (no_reply _ t.1)
    by_told (inr t) =
        subst (λ (x : Option (Lease DeviceState)). Back i make mid table (with_held mid (on_word (λ _. x) mid.session.held w))) (sym g.new_is)
        (starved_start i make users mid table s w l g.after old e (subst (λ (a : Result Unit Code). Starts l.device a g.after) t.0 g.starts))

starved_word : (i : ℕ) (make : ℕ → Make) (users : List Entry) (mid : RequestContext) (table : ℕ → AbstractDevice) (s : AbstractSession) (w : ℕ) (new : RequestContext) → ContextRefines i make mid table s → StartsWord mid w (Err (record {})) new → Back i make mid table new
starved_word i make users mid table s w new old g =
    subst (λ (t : RequestContext). Back i make mid table t) (sym g.new_is) (starved_at i make users mid table s w mid.session.transfer (held_by mid.session.held w) g.lease old refl g.starts)

-- an answer of a session that was greeted and awaits nothing
as_answer : (users : List Entry) (d : RequestContext) (q : Asked) (said : RequestAnswer) (new : RequestContext) → d.session.greeted ≡ true → d.session.awaited ≡ None → AnswersFree users d q said new → Answers users d q said new
as_answer users d q said new greeted none g = subst (λ (b : Bool). AnswersBy b users d q said new) (sym greeted) (subst (λ (a : Option AwaitedAuthorization). AnswersGreeted users d a q said new) (sym none) g)

-- all is given back as it stands, or the request was answered
abbrev pub BackOrAnswered : ℕ → (ℕ → Make) → List Entry → RequestContext → (ℕ → AbstractDevice) → Asked → RequestContext → Type 0
BackOrAnswered i make users mid table q new = Back i make mid table new ⊎ ((said : RequestAnswer) × Answers users mid q said new)

falters_free : (i : ℕ) (make : ℕ → Make) (users : List Entry) (mid : RequestContext) (table : ℕ → AbstractDevice) (s : AbstractSession) (q : Asked) (new : RequestContext) → ContextRefines i make mid table s → mid.session.greeted ≡ true → mid.session.awaited ≡ None → OutOfMemoryFree mid q new → BackOrAnswered i make users mid table q new
falters_free i make users mid table s (requests.Init version user) new old greeted none g = absurd g
falters_free i make users mid table s (requests.Open name) new old greeted none (inl g) = inl (back_same i make mid table s new old (same_words mid mid new g refl refl))
falters_free i make users mid table s (requests.Open name) new old greeted none (inr g) = inl (back_same i make mid table s new old (same_words mid (record mid { stream = g.1 }) new g.3 refl refl))
falters_free i make users mid table s (requests.Close w) new old greeted none g = absurd g
falters_free i make users mid table s (requests.ControlOption w n action kind value) new old greeted none (inl g) = inl (back_same i make mid table s new old (same_words mid mid new g refl refl))
falters_free i make users mid table s (requests.ControlOption w n action kind value) new old greeted none (inr g) =
    let q = requests.ControlOption w n action kind value in
    let said = (control mid w n action kind value).0 in
    inr (said, as_answer users mid q said new greeted none (refl, g))
falters_free i make users mid table s (requests.GetParameters w) new old greeted none g = absurd g
falters_free i make users mid table s (requests.Start w) new old greeted none g = inl (starved_word i make users mid table s w new old g)
falters_free i make users mid table s (requests.Cancel w) new old greeted none g = absurd g
falters_free i make users mid table s (requests.Authorize resource user password) new old greeted none g = absurd g
falters_free i make users mid table s requests.Exit new old greeted none g = absurd g
falters_free i make users mid table s q new old greeted none g = inl (back_same i make mid table s new old (same_words mid mid new g refl refl))

falters_greeted : (i : ℕ) (make : ℕ → Make) (users : List Entry) (mid : RequestContext) (table : ℕ → AbstractDevice) (s : AbstractSession) (a : Option AwaitedAuthorization) (q : Asked) (new : RequestContext) → ContextRefines i make mid table s → mid.session.greeted ≡ true → mid.session.awaited ≡ a → OutOfMemoryGreeted mid a q new → BackOrAnswered i make users mid table q new
falters_greeted i make users mid table s None q new old greeted e g = falters_free i make users mid table s q new old greeted e g
falters_greeted i make users mid table s (Some aw) q new old greeted e g = absurd g

falters_by : (i : ℕ) (make : ℕ → Make) (users : List Entry) (mid : RequestContext) (table : ℕ → AbstractDevice) (s : AbstractSession) (b : Bool) (q : Asked) (new : RequestContext) → ContextRefines i make mid table s → mid.session.greeted ≡ b → OutOfMemoryBy b mid q new → BackOrAnswered i make users mid table q new
falters_by i make users mid table s true q new old e g = falters_greeted i make users mid table s mid.session.awaited q new old e refl g
falters_by i make users mid table s false q new old e g = absurd g

pub faltered : (i : ℕ) (make : ℕ → Make) (users : List Entry) (mid : RequestContext) (table : ℕ → AbstractDevice) (s : AbstractSession) (q : Asked) (new : RequestContext) → ContextRefines i make mid table s → RequestOutOfMemory users mid q new → BackOrAnswered i make users mid table q new
faltered i make users mid table s q new old (Under g) = falters_by i make users mid table s mid.session.greeted q new old refl g
faltered i make users mid table s q new old (All said g) = inr (said, g)

returned : (i : ℕ) (make : ℕ → Make) (users : List Entry) (mid : RequestContext) (table : ℕ → AbstractDevice) (s : AbstractSession) (q : Asked) (new : RequestContext) → ContextRefines i make mid table s → IsSessionBegun mid → BackOrAnswered i make users mid table q new → Returns i make users mid table s new
returned i make users mid table s q new old begun (inl b) = given_at_once i make users mid table s new b
returned i make users mid table s q new old begun (inr g) = answer_ends i make users mid table s q g.0 new old begun g.1

starved_by : (i : ℕ) (make : ℕ → Make) (users : List Entry) (mid : RequestContext) (table : ℕ → AbstractDevice) (s : AbstractSession) (rest : List ℕ) (new : RequestContext) → ContextRefines i make mid table s → IsSessionBegun mid → (new ≡ mid) ⊎ OutOfMemoryNext users mid rest new → Returns i make users mid table s new
starved_by i make users mid table s rest new old begun (inl is) = at_once i make users mid table s new old (same_words mid mid new is refl refl)
starved_by i make users mid table s rest new old begun (inr g) = returned i make users mid table s g.request new old begun (faltered i make users mid table s g.request new old g.out_of_memory)

-- ---- a piece

pub feeds_agree : FeedsAgree
feeds_agree i make users d table s old piece rest text Standing new shown begun g =
    let far = g.so_far in
    (far.requests, far.reads, answers_all i make users d table s far.requests far.told new shown begun far.answers)
feeds_agree i make users d table s old piece rest text Over new shown begun g =
    let far = g.so_far in
    let goes = answers_all i make users d table s far.requests far.told g.mid shown begun far.answers in
    (g.rest, far.requests, far.reads, ends_behind i make users d table s far.requests g.mid new goes (closed_by i make users g.mid goes.devices goes.session g.rest g.last new goes.shows goes.begun g.closes))
feeds_agree i make users d table s old piece rest text Starved new shown begun g =
    let far = g.so_far in
    let goes = answers_all i make users d table s far.requests far.told g.mid shown begun far.answers in
    (g.rest, far.requests, far.reads, ends_behind i make users d table s far.requests g.mid new goes (starved_by i make users g.mid goes.devices goes.session g.rest new goes.shows goes.begun g.out_of_memory))
