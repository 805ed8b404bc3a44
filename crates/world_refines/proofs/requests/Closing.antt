-- A session that is over within a piece: by its last request, for lack of memory, or at a reply past the limits of the wire.
use Rattle.std.specs.Prelude.{map, option_map}
use Rattle.std.specs.List.{AllByRecursion}
use Rattle.std.proofs.Common.{◌≡◌, ◌≢◌, ◌⊎◌, inl, inr, ◌∙◌, ℕ, List, [], ◌∷◌, ◌++◌, Bool, true, false, eqb, Some, refl, sym, ap, subst, slice_get}
use Rattle.dispatch.specs.declared.table.place.Lease.{Lease}
use Rattle.device_api.specs.State.{DeviceState}
use Rattle.saned_requests.specs.declared.request_answer.RequestAnswer.{RequestAnswer}
use Rattle.saned_requests.specs.Holding.{with_device}
use Rattle.saned_requests.specs.RequestAnswers.{Answers, RequestContext}
use Rattle.saned_core.specs.Feeding.{session_goes_on}
use Rattle.saned_core.specs.Feeding as daemon
use Rattle.wire_message.specs.declared.message.Request.{Request as Asked}
use Rattle.system_model.specs.AbstractMessages.{AbstractRequest}
use Rattle.system_model.specs.Devices.{Make}
use Rattle.system_model.specs.Causes.{IsCauseAmong, LinkOutOfMemory}
use Rattle.system_model.specs.AbstractDevices.{AbstractDevice, is_held_by, device_let_go}
use Rattle.system_model.specs.Client.{ClientView}
use Rattle.system_model.specs.Daemon.{Quiet}
use Rattle.system_model.specs.Actions as actions
use Rattle.system_model.specs.Actions.{without_session}
use Rattle.system_model.specs.Deliveries.{Chance, answers}
use Rattle.system_model.specs.AbstractSessions.{only_word}
use Rattle.system_model.specs.SystemStates.{JobState, SystemState, with_entry}
use Rattle.system_model.specs.Transitions.{By, IsHistory, IsUnderWay, MayBreak, Transition, after_transition, after_all}
use Rattle.daemon_refines.specs.ContextRefinement.{HoldsPlace, ContextRefines, TableRefines}
use Rattle.daemon_refines.specs.OtherSessions.{LeavesOthers}
use Rattle.daemon_refines.proofs.SessionEndings.{same_tables}
use Rattle.daemon_refines.proofs.FeedRefines.{Back, IsStopped, back_same}
use Rattle.daemon_refines.proofs.Greeted.{answers_end}
use Rattle.daemon_refines.proofs.Moved.{put_elsewhere, put_there}
use Rattle.daemon_refines.proofs.OtherSessions.{leaves_same, leaves_then}
use Rattle.daemon_refines.proofs.ScannerStarts.{starved_in}
use Rattle.world_refines.specs.GhostStates.{Ghost}
use Rattle.world_refines.specs.WorldRefinement.{IsFaithful, IsFaithfulLease, IsFaithfulPlace, info_at, session_by, AreStartedViews}
use Rattle.world_refines.proofs.requests.AnswersKeep.{Stays, stays, not_breaking}
use Rattle.world_refines.proofs.state.CoreCallsKeep.{given_infos, place_left, put_let_go, word_wanted}
use Rattle.world_refines.proofs.state.Faithful.{given_true, word_true}
use Rattle.world_refines.proofs.state.ReadTrue.{held_true, stopped_true}
use Rattle.world_refines.proofs.requests.Folding.{AnswersOne, InContext, answers_to, due_none, legal_answer}

-- ---- what is let go

-- the client holds nothing but the device that its job names
holds_its_own : (i : ℕ) (make : ℕ → Make) (d : RequestContext) (table : ℕ → AbstractDevice) (p : JobState) (k : ℕ) → ContextRefines i make d table (session_by i table p) → HoldsPlace d.session.held k → k ≡ p.session.job.wants
holds_its_own i make d table p k h holds =
    let at : only_word (is_held_by i (table p.session.job.wants).holder) p.session.job.wants holds.word ≡ Some k = h.words holds.word ∙ (ap (option_map (λ (l : Lease DeviceState). l.place)) holds.stands ∙ ap (λ (x : ℕ). Some x) holds.place) in
    word_wanted (is_held_by i (table p.session.job.wants).holder) p.session.job.wants holds.word k (eqb holds.word 0) refl at

let_go_there : (i : ℕ) (make : ℕ → Make) (d : RequestContext) (table : ℕ → AbstractDevice) (p : JobState) → ContextRefines i make d table (session_by i table p) → (k : ℕ) → with_entry table p.session.job.wants (device_let_go i (table p.session.job.wants)) k ≡ device_let_go i (table k)
let_go_there i make d table p h =
    put_let_go i p.session.job.wants table (λ k n. place_left i (make k) d.session.held k (table k) (slice_get d.registry k) (λ holds. n (holds_its_own i make d table p k h holds)) (h.devices.places k))

-- ---- histories that go on

pub steps_then : (s : SystemState) (xs ys : List Transition) → after_all s (xs ++ ys) ≡ after_all (after_all s xs) ys
steps_then s [] ys = refl
steps_then s (x ∷ xs) ys = steps_then (after_transition s x) xs ys

pub history_then : (s : SystemState) (xs ys : List Transition) → IsHistory s xs → IsHistory (after_all s xs) ys → IsHistory s (xs ++ ys)
history_then s [] ys a b = b
history_then s (x ∷ xs) ys a b = (a.0, history_then (after_transition s x) xs ys a.1 b)

pub answers_then : (i : ℕ) (a b : List Chance) → answers i (a ++ b) ≡ answers i a ++ answers i b
answers_then i [] b = refl
answers_then i (c ∷ a) b = ap (λ (x : List Transition). By i (actions.Answers c.0 c.1) ∷ x) (answers_then i a b)

-- ---- what it comes to

-- all but the session's end and its causes stays
pub record Keeps (i : ℕ) (old new : SystemState) : Type 0 where
  pub make : new.make ≡ old.make
  pub places : new.places ≡ old.places
  pub others : (j : ℕ) → j ≢ i → new.job j ≡ old.job j
  pub client : (new.job i).client ≡ (old.job i).client
  pub linked : (new.job i).linked ≡ (old.job i).linked
  pub image : (new.job i).image ≡ (old.job i).image
  pub job : (new.job i).session.job ≡ (old.job i).session.job
  pub flight : (new.job i).session.flight ≡ (old.job i).session.flight
  pub ending : (new.job i).session.ending ≡ (old.job i).session.ending

pub keeps_stayed : (i : ℕ) (old new : SystemState) → Stays i old new → Keeps i old new
keeps_stayed i old new h =
    record { make = h.make; places = h.places; others = h.job; client = h.own.client; linked = h.own.linked; image = h.own.image; job = h.own.job; flight = h.own.flight; ending = h.own.ending }

pub keeps_then : (i : ℕ) (a b c : SystemState) → Keeps i a b → Keeps i b c → Keeps i a c
keeps_then i a b c x y =
    record {
      make = y.make ∙ x.make;
      places = y.places ∙ x.places;
      others = λ j n. y.others j n ∙ x.others j n;
      client = y.client ∙ x.client;
      linked = y.linked ∙ x.linked;
      image = y.image ∙ x.image;
      job = y.job ∙ x.job;
      flight = y.flight ∙ x.flight;
      ending = y.ending ∙ x.ending;
    }

-- the session is over, for lack of memory or not, and all that it held is given back
pub record Closed (t : Ghost) (i : ℕ) (s : SystemState) (d : RequestContext) (steps : List Transition) (memory : Bool) (new : RequestContext) : Type 0 where
  pub legal : IsHistory s steps
  pub keeps : Keeps i s (after_all s steps)
  pub served : ((after_all s steps).job i).served ≡ false
  pub quiet : ((after_all s steps).job i).session.transfer ≡ Quiet
  pub starved : memory ≡ false → IsCauseAmong LinkOutOfMemory ((after_all s steps).job i).session.met → IsCauseAmong LinkOutOfMemory (s.job i).session.met
  pub started : AreStartedViews s.make ((after_all s steps).job i)
  pub back : TableRefines i s.make [] (daemon.table_let_go new) (after_all s steps).device
  pub others : LeavesOthers i d.registry (daemon.table_let_go new) s.device (after_all s steps).device
  pub infos : t.infos ≡ map info_at (daemon.table_let_go new)
  pub lying : AllByRecursion IsFaithfulPlace (daemon.table_let_go new)
  pub nothing_due : IsUnderWay (s.job i).client.stage → ((after_all s steps).job i).due ≡ []

-- what is given back is true to its pages
back_true : (mid new : RequestContext) → AllByRecursion IsFaithfulLease mid.session.held → (new.session.held ≡ mid.session.held) ⊎ IsStopped mid new → AllByRecursion IsFaithfulLease new.session.held
back_true mid new h (inl same) = subst (AllByRecursion IsFaithfulLease) (sym same) h
back_true mid new h (inr stop) =
    let own : IsFaithful stop.lease.device = held_true mid.session.held stop.word stop.lease stop.stands h in
    let after_transition : IsFaithful stop.after = subst IsFaithful (sym (starved_in stop.lease.device.phase stop.lease.device stop.after stop.starts)) (stopped_true stop.lease.device.phase stop.lease.device own) in
    subst (AllByRecursion IsFaithfulLease) (sym stop.held) (word_true (λ _. with_device stop.lease stop.after) mid.session.held stop.word (λ lease _. after_transition) h)

-- ---- it breaks off

abbrev pub broken : ℕ → Bool → Transition
broken i memory = By i (actions.Breaks memory)

-- the job behind it
abbrev broken_party : Bool → JobState → JobState
broken_party memory p = record p { todo = []; due = []; served = false; session = without_session memory p.session }

pub breaks : (t : Ghost) (i : ℕ) (s : SystemState) (d new : RequestContext) (memory : Bool) → InContext t i s d → MayBreak (s.job i).client.stage → (memory ≡ false → (s.job i).due ≢ []) → Back i s.make d s.device new → Closed t i s d (broken i memory ∷ []) memory new
breaks t i s d new memory h may some back =
    let p = s.job i in
    let next = after_transition s (By i (actions.Breaks memory)) in
    let is : next.job i ≡ broken_party memory p = put_there s.job i (broken_party memory p) in
    let same : (k : ℕ) → next.device k ≡ device_let_go i (s.device k) = let_go_there i s.make d s.device p h.shows in
    record {
      legal = ((h.served, may, some), tt);
      keeps = record {
        make = refl;
        places = refl;
        others = λ j n. put_elsewhere s.job i (broken_party memory p) j n;
        client = ap (λ (x : JobState). x.client) is;
        linked = ap (λ (x : JobState). x.linked) is;
        image = ap (λ (x : JobState). x.image) is;
        job = ap (λ (x : JobState). x.session.job) is;
        flight = ap (λ (x : JobState). x.session.flight) is;
        ending = ap (λ (x : JobState). x.session.ending) is;
      };
      served = ap (λ (x : JobState). x.served) is;
      quiet = ap (λ (x : JobState). x.session.transfer) is;
      starved = λ nay met. by_memory memory p nay (subst (λ (x : JobState). IsCauseAmong LinkOutOfMemory x.session.met) is met);
      started = subst (λ (x : JobState). AreStartedViews s.make x) (sym is) h.started;
      back = same_tables i s.make [] (daemon.table_let_go new) (λ k. device_let_go i (s.device k)) next.device same back.back;
      others = leaves_same i d.registry (daemon.table_let_go new) s.device (λ k. device_let_go i (s.device k)) next.device same back.others;
      infos = h.infos ∙ (ap (map info_at) (sym back.registry) ∙ sym (given_infos new.registry new.session.held));
      lying = given_true new.registry new.session.held (back_true d new h.held back.words) (subst (AllByRecursion IsFaithfulPlace) (sym back.registry) h.lying);
      nothing_due = λ e. ap (λ (x : JobState). x.due) is;
    }
  where
    by_memory : (memory : Bool) (p : JobState) → memory ≡ false → IsCauseAmong LinkOutOfMemory (without_session memory p.session).met → IsCauseAmong LinkOutOfMemory p.session.met
    by_memory true p e met = absurd (let clash : true ≡ false = e in cc)
    by_memory false p e met = not_breaking p.session.met met

-- ---- its last request

one_step : (i : ℕ) (s : SystemState) (chance : Chance) → after_all s (answers i (chance ∷ [])) ≡ after_transition s (answers_to i chance.0 chance.1)
one_step i s chance = refl

pub ends_by_request : (t : Ghost) (i : ℕ) (s : SystemState) (d new : RequestContext) (q : Asked) (r : AbstractRequest) (rest : List AbstractRequest) (said : RequestAnswer) → InContext t i s d → (s.job i).todo ≡ r ∷ rest → Answers t.users d q said new → session_goes_on said ≡ false → (one : AnswersOne t i s d said new) →
    Closed t i s d (answers i ((one.challenge, one.fault) ∷ [])) false new
ends_by_request t i s d new q r rest said h e g off one =
    let chance : Chance = (one.challenge, one.fault) in
    let stay = stays i s (chance ∷ []) in
    let next = after_transition s (answers_to i one.challenge one.fault) in
    let back = back_same i s.make d s.device (session_by i s.device (s.job i)) new h.shows (answers_end t.users d q said new g off) in
    record {
      legal = (legal_answer t i s d one.challenge one.fault r rest h e one.may, tt);
      keeps = keeps_stayed i s next stay;
      served = one.over off;
      quiet = one.quiet off;
      starved = λ nay met. stay.own.starved met;
      started = one.page_views h.started;
      back = same_tables i s.make [] (daemon.table_let_go new) (λ k. device_let_go i (s.device k)) next.device (one.device off) back.back;
      others = leaves_same i d.registry (daemon.table_let_go new) s.device (λ k. device_let_go i (s.device k)) next.device (one.device off) back.others;
      infos = h.infos ∙ (ap (map info_at) (sym back.registry) ∙ sym (given_infos new.registry new.session.held));
      lying = given_true new.registry new.session.held (back_true d new h.held back.words) (subst (AllByRecursion IsFaithfulPlace) (sym back.registry) h.lying);
      nothing_due = λ u. (one.silent off).1 ∙ due_none t i s d r rest h u e;
    }

-- ---- behind others

pub closed_behind : (t : Ghost) (i : ℕ) (s : SystemState) (d mid new : RequestContext) (chances : List Chance) (steps : List Transition) (memory : Bool) → IsHistory s (answers i chances) → LeavesOthers i d.registry mid.registry s.device (after_all s (answers i chances)).device →
    Closed t i (after_all s (answers i chances)) mid steps memory new → Closed t i s d (answers i chances ++ steps) memory new
closed_behind t i s d mid new chances steps memory legal others c =
    let far = after_all s (answers i chances) in
    let stay = stays i s chances in
    let is = steps_then s (answers i chances) steps in
    record {
      legal = history_then s (answers i chances) steps legal c.legal;
      keeps = subst (Keeps i s) (sym is) (keeps_then i s far (after_all far steps) (keeps_stayed i s far stay) c.keeps);
      served = ap (λ (x : SystemState). (x.job i).served) is ∙ c.served;
      quiet = ap (λ (x : SystemState). (x.job i).session.transfer) is ∙ c.quiet;
      starved = λ nay met. stay.own.starved (c.starved nay (subst (λ (x : SystemState). IsCauseAmong LinkOutOfMemory (x.job i).session.met) is met));
      started = subst (λ (x : SystemState). AreStartedViews s.make (x.job i)) (sym is) (subst (λ (m : ℕ → Make). AreStartedViews m ((after_all far steps).job i)) stay.make c.started);
      back = subst (λ (x : SystemState). TableRefines i s.make [] (daemon.table_let_go new) x.device) (sym is) (subst (λ (m : ℕ → Make). TableRefines i m [] (daemon.table_let_go new) (after_all far steps).device) stay.make c.back);
      others = subst (λ (x : SystemState). LeavesOthers i d.registry (daemon.table_let_go new) s.device x.device) (sym is) (leaves_then i d.registry mid.registry (daemon.table_let_go new) s.device far.device (after_all far steps).device others c.others);
      infos = c.infos;
      lying = c.lying;
      nothing_due = λ u. ap (λ (x : SystemState). (x.job i).due) is ∙ c.nothing_due (subst (λ (m : ClientView). IsUnderWay m.stage) (sym stay.own.client) u);
    }

-- a request was answered, and then it breaks off
pub breaks_behind_one : (t : Ghost) (i : ℕ) (s : SystemState) (d new : RequestContext) (r : AbstractRequest) (rest : List AbstractRequest) (said : RequestAnswer) (memory : Bool) → InContext t i s d → (s.job i).todo ≡ r ∷ rest → MayBreak (s.job i).client.stage → session_goes_on said ≡ true → (one : AnswersOne t i s d said new) →
    Closed t i s d (answers i ((one.challenge, one.fault) ∷ []) ++ broken i memory ∷ []) memory new
breaks_behind_one t i s d new r rest said memory h e may on one =
    let chance : Chance = (one.challenge, one.fault) in
    let next = after_transition s (answers_to i one.challenge one.fault) in
    let now = one.on on in
    let still : MayBreak (next.job i).client.stage = subst (λ (m : ClientView). MayBreak m.stage) (sym (stays i s (chance ∷ [])).own.client) may in
    let back = back_same i next.make new next.device (session_by i next.device (next.job i)) new now.shows (record { held = refl; registry = refl }) in
    closed_behind t i s d new new (chance ∷ []) (broken i memory ∷ []) memory (legal_answer t i s d one.challenge one.fault r rest h e one.may, tt) (one.others on) (breaks t i next new new memory now still (λ _. one.some_due on) back)
