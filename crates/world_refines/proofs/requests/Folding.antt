-- The requests of a piece, one after another: each is answered as the model says, on what those before it left.
use Rattle.std.specs.Prelude.{map, length}
use Rattle.std.specs.List.{AllByRecursion}
use Rattle.std.proofs.Common.{◌≡◌, inl, inr, ◌∙◌, ℕ, suc, List, [], ◌∷◌, ◌++◌, true, false, Option, refl, sym, ap, subst, append_assoc, append-nil, ◌≢◌}
use Rattle.page_picture.specs.Shows.{Frame}
use Rattle.saned_requests.specs.declared.request_answer.RequestAnswer.{RequestAnswer}
use Rattle.saned_requests.specs.RequestAnswers.{Answers, RequestContext}
use Rattle.saned_core.specs.Feeding.{AnswersAll, IsUnsaid, SaysAll, session_goes_on, replies_to}
use Rattle.wire_message.specs.declared.message.Request.{Request as Asked}
use Rattle.wire_message.specs.declared.message.Reply.{Reply}
use Rattle.client_replies.specs.declared.progress.Progress.{Progress}
use Rattle.client_replies.specs.ProtocolStates.{ProtocolState, target_of}
use Rattle.system_model.specs.AbstractMessages.{Challenge, AbstractRequest}
use Rattle.system_model.specs.AbstractMessages as words
use Rattle.system_model.specs.Devices.{Make}
use Rattle.system_model.specs.AbstractDevices.{AbstractDevice, device_let_go, without_first}
use Rattle.system_model.specs.Client.{Done, Ended, Idle, AbstractJob, ClientView, Running, JobStage}
use Rattle.system_model.specs.Daemon.{FailureCounts, Quiet}
use Rattle.system_model.specs.Actions as actions
use Rattle.system_model.specs.Actions.{answer_next}
use Rattle.system_model.specs.Deliveries.{Chance, answers}
use Rattle.system_model.specs.Invariants.{Invariant, StageInvariant}
use Rattle.system_model.specs.SystemStates.{JobState, SystemState, listed_devices, make_for, device_for}
use Rattle.system_model.specs.Transitions.{By, IsHistory, IsEnabled, IsUnderWay, MayFail, Transition, after_transition, after_all}
use Rattle.option_desc.specs.declared.descriptor.Descriptor.{Descriptor}
use Rattle.client_refines.specs.ClientRefinement.{ClientRefines}
use Rattle.client_refines.specs.RequestRefinement.{AreRequests, IsRequest, asks_of}
use Rattle.daemon_refines.specs.ContextRefinement.{ContextRefines}
use Rattle.daemon_refines.specs.Failures.{IsCounted}
use Rattle.daemon_refines.specs.Feeds.{IsSessionBegun}
use Rattle.daemon_refines.specs.OtherSessions.{LeavesOthers}
use Rattle.daemon_refines.proofs.Moved.{put_there}
use Rattle.daemon_refines.proofs.OtherSessions.{leaves_all, leaves_then}
use Rattle.world_refines.specs.GhostStates.{Ghost, place_of_info, abstract_job}
use Rattle.world_refines.specs.Speaks.{AsksAsHeld, SpeaksAs, WaitsQuietly}
use Rattle.world_refines.specs.Wires.{SpellsAwaitedReply, SpellsReplies}
use Rattle.world_refines.specs.WorldRefinement.{HaveDifferentNames, IsFaithfulLease, IsFaithfulPlace, info_at, numbers_from, session_by, client_at_greeting, AreStartedViews}
use Rattle.world_refines.proofs.requests.AnswersKeep.{stays}
use Rattle.world_refines.proofs.state.Waiting.{waits_less}

-- the request context is the session of job i's client by the model
pub record InContext (t : Ghost) (i : ℕ) (s : SystemState) (d : RequestContext) : Type 0 where
  pub shows : ContextRefines i s.make d s.device (session_by i s.device (s.job i))
  pub begun : IsSessionBegun d
  pub job_is : (s.job i).session.job ≡ abstract_job t.users t.infos (t.jobs i)
  pub infos : t.infos ≡ map info_at d.registry
  pub apart : HaveDifferentNames t.infos
  pub places : s.places ≡ numbers_from 0 t.infos
  pub held : AllByRecursion IsFaithfulLease d.session.held
  pub lying : AllByRecursion IsFaithfulPlace d.registry
  pub started : AreStartedViews s.make (s.job i)
  pub sound : Invariant s
  pub asks : (j : ℕ) → AsksAsHeld s j
  pub speaks : SpeaksAs (t.jobs i).device (s.job i) d.session
  pub served : (s.job i).served ≡ true

abbrev pub answers_to : ℕ → Challenge → Option FailureCounts → Transition
answers_to i challenge fault = By i (actions.Answers challenge fault)

-- the wire's replies to it, for a client that is under way: one reply of the model
pub record Replied (t : Ghost) (i : ℕ) (s new : SystemState) (progress : Progress) (said : RequestAnswer) : Type 0 where
  pub reply : words.AbstractReply
  pub due : (new.job i).due ≡ (s.job i).due ++ reply ∷ []
  pub comes : (text : List ℕ) → SaysAll (replies_to said) text → SpellsAwaitedReply (place_of_info t.infos) progress reply text

-- the client refines the client view of the job
abbrev pub IsReadAs : Ghost → ℕ → SystemState → List (List Frame) → ProtocolState → Type 0
IsReadAs t i s pages protocol = ClientRefines (place_of_info t.infos) (target_of (t.jobs i)) (s.job i).session.job pages protocol (client_at_greeting (s.job i).client.stage (s.job i).client)

-- what comes of one request: of a reply that is not said by the wire nothing was said before it
pub record AnswersOne (t : Ghost) (i : ℕ) (s : SystemState) (d : RequestContext) (said : RequestAnswer) (new : RequestContext) : Type 0 where
  pub challenge : Challenge
  pub fault : Option FailureCounts
  pub may : MayFail (make_for s i) fault
  pub counted : IsCounted d.session.held new.session.held 0 fault
  pub on : session_goes_on said ≡ true → InContext t i (after_transition s (answers_to i challenge fault)) new
  pub others : session_goes_on said ≡ true → LeavesOthers i d.registry new.registry s.device (after_transition s (answers_to i challenge fault)).device
  pub some_due : session_goes_on said ≡ true → ((after_transition s (answers_to i challenge fault)).job i).due ≢ []
  pub replied : session_goes_on said ≡ true → IsUnderWay (s.job i).client.stage → (pages : List (List Frame)) (protocol : ProtocolState) → IsReadAs t i s pages protocol → WaitsQuietly protocol.progress (s.job i).todo → Replied t i s (after_transition s (answers_to i challenge fault)) protocol.progress said
  pub cut : IsUnderWay (s.job i).client.stage → (before behind : List Reply) (reply : Reply) → replies_to said ≡ before ++ reply ∷ behind → IsUnsaid reply → before ≡ []
  -- where it ends the session all is given back, and nothing is said
  pub over : session_goes_on said ≡ false → ((after_transition s (answers_to i challenge fault)).job i).served ≡ false
  pub quiet : session_goes_on said ≡ false → ((after_transition s (answers_to i challenge fault)).job i).session.transfer ≡ Quiet
  pub device : session_goes_on said ≡ false → (k : ℕ) → (after_transition s (answers_to i challenge fault)).device k ≡ device_let_go i (s.device k)
  pub page_views : AreStartedViews s.make (s.job i) → AreStartedViews s.make ((after_transition s (answers_to i challenge fault)).job i)
  pub silent : session_goes_on said ≡ false → (replies_to said ≡ []) × (((after_transition s (answers_to i challenge fault)).job i).due ≡ (s.job i).due)

abbrev pub OneRequest : Ghost → ℕ → Type 0
OneRequest t i =
    (s : SystemState) (d new : RequestContext) (q : Asked) (r : AbstractRequest) (rest : List AbstractRequest) (said : RequestAnswer) → InContext t i s d → (s.job i).todo ≡ r ∷ rest → IsRequest (target_of (t.jobs i)) 0 (s.job i).client.known q r → Answers t.users d q said new → AnswersOne t i s d said new

-- ---- texts of replies

record SaysBoth (a b : List Reply) (text : List ℕ) : Type 0 where
  front : List ℕ
  back : List ℕ
  text_is : text ≡ front ++ back
  first : SaysAll a front
  second : SaysAll b back

says_both : (a b : List Reply) (text : List ℕ) → SaysAll (a ++ b) text → SaysBoth a b text
says_both [] b text h = record { front = []; back = text; text_is = refl; first = refl; second = h }
says_both (r ∷ a) b text h =
    let more = says_both a b h.1 h.4 in
    record { front = h.0 ++ more.front; back = more.back; text_is = h.2 ∙ (ap (λ (x : List ℕ). h.0 ++ x) more.text_is ∙ sym (append_assoc h.0 more.front more.back)); first = (h.0, more.front, refl, h.3, more.first); second = more.second }

-- ---- a client that is under way and whose request is on the way waits for it alone

pub no_reply : (i : ℕ) (k : Make) (p : JobState) (dev : AbstractDevice) (st : JobStage) (r : AbstractRequest) (rest : List AbstractRequest) → IsUnderWay st → p.todo ≡ r ∷ rest → StageInvariant i k p dev st → p.due ≡ []
no_reply i k p dev Idle r rest u e h = h.2
no_reply i k p dev (Running g) r rest u e (inl h) = h.due
no_reply i k p dev (Running g) r rest u e (inr (inl h)) = absurd (let clash : [] ≡ r ∷ rest = sym h.todo ∙ e in cc)
no_reply i k p dev (Running g) r rest u e (inr (inr h)) = h.due
no_reply i k p dev Done r rest u e h = absurd u
no_reply i k p dev (Ended status why) r rest u e h = absurd u

pub due_none : (t : Ghost) (i : ℕ) (s : SystemState) (d : RequestContext) (r : AbstractRequest) (rest : List AbstractRequest) → InContext t i s d → IsUnderWay (s.job i).client.stage → (s.job i).todo ≡ r ∷ rest → (s.job i).due ≡ []
due_none t i s d r rest h u e = no_reply i (make_for s i) (s.job i) (device_for s i) (s.job i).client.stage r rest u e (h.sound.exchanges i)

pub spells_none : (t : Ghost) (progress : Progress) (due : List words.AbstractReply) (text : List ℕ) → due ≡ [] → SpellsReplies (place_of_info t.infos) progress due text → text ≡ []
spells_none t progress due text e h = subst (λ (x : List words.AbstractReply). SpellsReplies (place_of_info t.infos) progress x text) e h

-- ---- one answer

party_answered : (i : ℕ) (s : SystemState) (challenge : Challenge) (fault : Option FailureCounts) → (after_transition s (answers_to i challenge fault)).job i ≡ answer_next i (make_for s i) (listed_devices s) (s.job i) (device_for s i) challenge fault (s.job i).todo
party_answered i s challenge fault = put_there s.job i (answer_next i (make_for s i) (listed_devices s) (s.job i) (device_for s i) challenge fault (s.job i).todo)

pub todo_after : (i : ℕ) (s : SystemState) (challenge : Challenge) (fault : Option FailureCounts) (r : AbstractRequest) (rest : List AbstractRequest) → (s.job i).todo ≡ r ∷ rest → ((after_transition s (answers_to i challenge fault)).job i).todo ≡ rest
todo_after i s challenge fault r rest e =
    ap (λ (p : JobState). p.todo) (party_answered i s challenge fault) ∙ ap (λ (x : List AbstractRequest). (answer_next i (make_for s i) (listed_devices s) (s.job i) (device_for s i) challenge fault x).todo) e ∙ ap without_first e

pub legal_answer : (t : Ghost) (i : ℕ) (s : SystemState) (d : RequestContext) (challenge : Challenge) (fault : Option FailureCounts) (r : AbstractRequest) (rest : List AbstractRequest) → InContext t i s d → (s.job i).todo ≡ r ∷ rest → MayFail (make_for s i) fault → IsEnabled s (answers_to i challenge fault)
legal_answer t i s d challenge fault r rest h e may = (h.served, λ none. absurd (let clash : [] ≡ r ∷ rest = sym none ∙ e in cc), may)

-- ---- all of them

-- each source that fails in an answer has counted that between the request contexts in front of it and behind it
abbrev pub AreCounted : RequestContext → List Chance → RequestContext → Type 0
AreCounted d [] new = new ≡ d
AreCounted d (chance ∷ chances) new = (mid : RequestContext) × IsCounted d.session.held mid.session.held 0 chance.1 × AreCounted mid chances new

pub record Ran (t : Ghost) (i : ℕ) (s : SystemState) (d : RequestContext) (qs : List Asked) (later : List AbstractRequest) (told : List Reply) (new : RequestContext) : Type 0 where
  pub chances : List Chance
  pub count : length chances ≡ length qs
  pub legal : IsHistory s (answers i chances)
  pub counted : AreCounted d chances new
  pub in_context : InContext t i (after_all s (answers i chances)) new
  pub others : LeavesOthers i d.registry new.registry s.device (after_all s (answers i chances)).device
  pub todo : ((after_all s (answers i chances)).job i).todo ≡ later
  pub told_are : IsUnderWay (s.job i).client.stage → (pages : List (List Frame)) (protocol : ProtocolState) → IsReadAs t i s pages protocol → WaitsQuietly protocol.progress (s.job i).todo → (front text : List ℕ) → SpellsReplies (place_of_info t.infos) protocol.progress (s.job i).due front → SaysAll told text →
      SpellsReplies (place_of_info t.infos) protocol.progress ((after_all s (answers i chances)).job i).due (front ++ text)

ran_none : (t : Ghost) (i : ℕ) (s : SystemState) (d new : RequestContext) (later : List AbstractRequest) (told : List Reply) → InContext t i s d → (s.job i).todo ≡ later → (told ≡ []) × (new ≡ d) → Ran t i s d [] later told new
ran_none t i s d new later told h e g =
    record {
      chances = [];
      count = refl;
      legal = tt;
      counted = g.1;
      in_context = subst (InContext t i s) (sym g.1) h;
      others = subst (λ (x : RequestContext). LeavesOthers i d.registry x.registry s.device s.device) (sym g.1) (leaves_all i d.registry s.device);
      todo = e;
      told_are = λ u pages protocol reads waits front text spells says.
          let none : text ≡ [] = subst (λ (x : List Reply). SaysAll x text) g.0 says in
          subst (SpellsReplies (place_of_info t.infos) protocol.progress (s.job i).due) (sym (ap (λ (x : List ℕ). front ++ x) none ∙ append-nil front)) spells;
    }

read_after : (t : Ghost) (i : ℕ) (s : SystemState) (chance : Chance) (pages : List (List Frame)) (protocol : ProtocolState) → IsReadAs t i s pages protocol → IsReadAs t i (after_transition s (answers_to i chance.0 chance.1)) pages protocol
read_after t i s chance pages protocol h =
    let own = (stays i s (chance ∷ [])).own in
    subst (λ (m : ClientView). ClientRefines (place_of_info t.infos) (target_of (t.jobs i)) ((after_transition s (answers_to i chance.0 chance.1)).job i).session.job pages protocol (client_at_greeting m.stage m)) (sym own.client)
    (subst (λ (j : AbstractJob). ClientRefines (place_of_info t.infos) (target_of (t.jobs i)) j pages protocol (client_at_greeting (s.job i).client.stage (s.job i).client)) (sym own.job) h)

ran_more : (t : Ghost) (i : ℕ) (s : SystemState) (d mid new : RequestContext) (q : Asked) (qs : List Asked) (r : AbstractRequest) (rest later : List AbstractRequest) (said : RequestAnswer) (more : List Reply) → InContext t i s d → (s.job i).todo ≡ r ∷ rest → session_goes_on said ≡ true → (one : AnswersOne t i s d said mid) →
    Ran t i (after_transition s (answers_to i one.challenge one.fault)) mid qs later more new → Ran t i s d (q ∷ qs) later (replies_to said ++ more) new
ran_more t i s d mid new q qs r rest later said more h e on one ran =
    let next = after_transition s (answers_to i one.challenge one.fault) in
    let chance : Chance = (one.challenge, one.fault) in
    let own = (stays i s (chance ∷ [])).own in
    record {
      chances = chance ∷ ran.chances;
      count = ap suc ran.count;
      legal = (legal_answer t i s d one.challenge one.fault r rest h e one.may, ran.legal);
      counted = (mid, one.counted, ran.counted);
      in_context = ran.in_context;
      others = leaves_then i d.registry mid.registry new.registry s.device next.device (after_all next (answers i ran.chances)).device (one.others on) ran.others;
      todo = ran.todo;
      told_are = λ u pages protocol reads waits front text spells says.
          let both = says_both (replies_to said) more text says in
          let reply = one.replied on u pages protocol reads waits in
          let none = due_none t i s d r rest h u e in
          let empty : front ≡ [] = spells_none t protocol.progress (s.job i).due front none spells in
          let due : (next.job i).due ≡ reply.reply ∷ [] = reply.due ∙ ap (λ (x : List words.AbstractReply). x ++ reply.reply ∷ []) none in
          let first : SpellsReplies (place_of_info t.infos) protocol.progress (next.job i).due (front ++ both.front) =
          subst (λ (x : List words.AbstractReply). SpellsReplies (place_of_info t.infos) protocol.progress x (front ++ both.front)) (sym due)
          (subst (λ (x : List ℕ). SpellsReplies (place_of_info t.infos) protocol.progress (reply.reply ∷ []) (x ++ both.front)) (sym empty) (reply.comes both.front both.first)) in
          let under : IsUnderWay (next.job i).client.stage = subst (λ (m : ClientView). IsUnderWay m.stage) (sym own.client) u in
          let later_waits = subst (WaitsQuietly protocol.progress) (sym (todo_after i s one.challenge one.fault r rest e)) (waits_less protocol.progress r rest (subst (WaitsQuietly protocol.progress) e waits)) in
          subst (SpellsReplies (place_of_info t.infos) protocol.progress ((after_all next (answers i ran.chances)).job i).due) (append_assoc front both.front both.back ∙ ap (λ (x : List ℕ). front ++ x) (sym both.text_is))
          (ran.told_are under pages protocol (read_after t i s chance pages protocol reads) later_waits (front ++ both.front) both.back first both.second);
    }

known_after : (i : ℕ) (s : SystemState) (chance : Chance) → ((after_transition s (answers_to i chance.0 chance.1)).job i).client.known ≡ (s.job i).client.known
known_after i s chance = ap (λ (m : ClientView). m.known) (stays i s (chance ∷ [])).own.client

pub run_all : (t : Ghost) (i : ℕ) → OneRequest t i → (s : SystemState) (d new : RequestContext) (qs : List Asked) (first later : List AbstractRequest) (told : List Reply) → InContext t i s d → (s.job i).todo ≡ first ++ later →
    AreRequests (target_of (t.jobs i)) qs (asks_of 0 (s.job i).client.known first) → AnswersAll t.users d qs told new → Ran t i s d qs later told new
run_all t i one s d new [] [] later told h e are g = ran_none t i s d new later told h e g
run_all t i one s d new [] (r ∷ first) later told h e are g = absurd are
run_all t i one s d new (q ∷ qs) [] later told h e are g = absurd are
run_all t i one s d new (q ∷ qs) (r ∷ first) later told h e are (said, mid, more, g, on, rest, is) =
    let a = one s d mid q r (first ++ later) said h e are.0 g in
    let next = after_transition s (answers_to i a.challenge a.fault) in
    let known = known_after i s (a.challenge, a.fault) in
    let ran = run_all t i one next mid new qs first later more (a.on on) (todo_after i s a.challenge a.fault r (first ++ later) e) (subst (λ (x : List Descriptor). AreRequests (target_of (t.jobs i)) qs (asks_of 0 x first)) (sym known) are.1) rest in
    subst (λ (x : List Reply). Ran t i s d (q ∷ qs) later x new) (sym is) (ran_more t i s d mid new q qs r (first ++ later) later said more h e on a ran)
