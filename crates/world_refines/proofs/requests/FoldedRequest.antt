-- One request of a job's client, by the model, as the fold over a piece's requests takes it.
use Rattle.std.specs.Prelude.{map}
use Rattle.std.specs.List.{AllByRecursion}
use Rattle.std.proofs.Common.{◌≡◌, inl, inr, ◌∙◌, ℕ, List, [], ◌∷◌, ◌++◌, true, false, Option, sym, ap, subst, append-nil, ◌≢◌}
use Rattle.page_picture.specs.Page.{IsPageView}
use Rattle.page_picture.specs.Shows.{Frame}
use Rattle.wire_message.specs.declared.message.Request.{Request as Asked}
use Rattle.wire_message.specs.declared.message.Request.TheVariants as requests
use Rattle.wire_message.specs.declared.message.Reply.{Reply as Wire}
use Rattle.saned_requests.specs.declared.request_answer.RequestAnswer.{RequestAnswer}
use Rattle.saned_requests.specs.RequestAnswers.{Answers, RequestContext}
use Rattle.saned_core.specs.Feeding.{IsUnsaid, session_goes_on, replies_to}
use Rattle.client_replies.specs.declared.progress.JobTarget.{JobTarget}
use Rattle.client_replies.specs.ProtocolStates.{ProtocolState, target_of}
use Rattle.option_desc.specs.declared.descriptor.Descriptor.{Descriptor}
use Rattle.system_model.specs.AbstractMessages.{Challenge, AbstractReply, AbstractRequest}
use Rattle.system_model.specs.AbstractMessages as words
use Rattle.system_model.specs.AbstractDevices.{Begin, AbstractDevice, device_let_go}
use Rattle.system_model.specs.Daemon.{FailureCounts, AnswerEffect, session_over_effect}
use Rattle.system_model.specs.Actions.{answer_next, job_after_answer, device_after_answer}
use Rattle.system_model.specs.SystemStates.{JobState, SystemState, listed_devices, make_for, with_entry, device_for, wanted_place}
use Rattle.system_model.specs.Transitions.{IsUnderWay, after_transition}
use Rattle.system_model.proofs.JobPromises.{sound_after_all}
use Rattle.client_refines.specs.RequestRefinement.{IsRequest}
use Rattle.daemon_refines.specs.ContextRefinement.{ContextRefines}
use Rattle.daemon_refines.specs.OtherSessions.{LeavesOthers}
use Rattle.daemon_refines.proofs.Moved.{put_there}
use Rattle.world_refines.specs.GhostStates.{Ghost}
use Rattle.world_refines.specs.Speaks.{SetsAsHeld, SpeaksAs, WaitsQuietly}
use Rattle.world_refines.specs.WorldRefinement.{IsFaithfulLease, IsFaithfulPlace, info_at, session_by, AreStartedViews}
use Rattle.world_refines.proofs.requests.Asked.{IsSession, free_elsewhere}
use Rattle.world_refines.proofs.requests.Folding.{AnswersOne, InContext, IsReadAs, OneRequest, Replied, answers_to, legal_answer}
use Rattle.world_refines.proofs.state.Held.{held_after_all}
use Rattle.world_refines.proofs.requests.PlainAnswers.{Ends, IsTold, answer_ends}
use Rattle.world_refines.proofs.requests.Replied.{Answering, IsAnswered, answers_as}
use Rattle.world_refines.proofs.requests.Served.{devices_by, put_let_go, serving}
use Rattle.world_refines.proofs.requests.Silent.{IsOwnInit, ends_silent}
use Rattle.system_model.specs.Devices.{Make}

-- what an answer leaves of the table's infos, and of what is true to its pages
pub record KeepsTrue (k : Make) (d new : RequestContext) (v : AnswerEffect) : Type 0 where
  pub infos : map info_at new.registry ≡ map info_at d.registry
  pub held : AllByRecursion IsFaithfulLease new.session.held
  pub lying : AllByRecursion IsFaithfulPlace new.registry
  pub begun : k.steady ≡ true → AllByRecursion (λ (b : Begin). IsPageView b.page) v.begun

-- the job by the model, and all devices, behind the answer
abbrev pub served_now : ℕ → SystemState → AbstractRequest → Challenge → Option FailureCounts → AnswerEffect
served_now i s r challenge fault = serving i s.make (listed_devices s) s.device (s.job i) r challenge fault

pub party_is : (i : ℕ) (s : SystemState) (r : AbstractRequest) (rest : List AbstractRequest) (challenge : Challenge) (fault : Option FailureCounts) → (s.job i).todo ≡ r ∷ rest → (after_transition s (answers_to i challenge fault)).job i ≡ job_after_answer (s.job i) (served_now i s r challenge fault)
party_is i s r rest challenge fault e =
    put_there s.job i (answer_next i (make_for s i) (listed_devices s) (s.job i) (device_for s i) challenge fault (s.job i).todo) ∙ ap (λ (qs : List AbstractRequest). answer_next i (make_for s i) (listed_devices s) (s.job i) (device_for s i) challenge fault qs) e

device_is : (i : ℕ) (s : SystemState) (r : AbstractRequest) (rest : List AbstractRequest) (challenge : Challenge) (fault : Option FailureCounts) → (s.job i).todo ≡ r ∷ rest → (after_transition s (answers_to i challenge fault)).device ≡ devices_by s.device (s.job i) (served_now i s r challenge fault)
device_is i s r rest challenge fault e = ap (λ (qs : List AbstractRequest). with_entry s.device (wanted_place s i) (device_after_answer i (make_for s i) (listed_devices s) (s.job i) (device_for s i) challenge fault qs)) e

pub own_init : (target : JobTarget) (known : List Descriptor) (q : Asked) (r : AbstractRequest) → IsRequest target 0 known q r → IsOwnInit q
own_init target known (requests.Init version user) words.Init is = is.0
own_init target known (requests.Init version user) q is = absurd is
own_init target known q r is = tt

-- ---- where it ends

ended_is : (v : AnswerEffect) (i : ℕ) (dev : AbstractDevice) → v.goes_on ≡ false → Ends i dev v → v ≡ session_over_effect (device_let_go i dev)
ended_is v i dev off (inl on) = absurd (let clash : true ≡ false = sym on.0 ∙ off in cc)
ended_is v i dev off (inr is) = is

-- something is due to its client where it goes on
told_on : (due told : List AbstractReply) → IsTold told → due ++ told ≢ []
told_on [] [] some none = some
told_on [] (r ∷ told) some none = let clash : r ∷ told ≡ [] = none in absurd (cc)
told_on (d ∷ due) told some none = let clash : d ∷ (due ++ told) ≡ [] = none in absurd (cc)

tells_on : (v : AnswerEffect) (i : ℕ) (dev : AbstractDevice) (due : List AbstractReply) → v.goes_on ≡ true → Ends i dev v → due ++ v.told ≢ []
tells_on v i dev due on (inl tells) = told_on due v.told tells.1
tells_on v i dev due on (inr is) = absurd (let clash : false ≡ true = sym (ap (λ (x : AnswerEffect). x.goes_on) is) ∙ on in cc)

-- ---- the request

sheets_more : (xs ys : List Begin) → AllByRecursion (λ (b : Begin). IsPageView b.page) xs → AllByRecursion (λ (b : Begin). IsPageView b.page) ys → AllByRecursion (λ (b : Begin). IsPageView b.page) (xs ++ ys)
sheets_more [] ys a b = b
sheets_more (x ∷ xs) ys a b = (a.0, sheets_more xs ys a.1 b)

-- what is still to be shown of an answer: what it leaves true, and what is said to a client that is under way
pub record Rest (t : Ghost) (i : ℕ) (s : SystemState) (d : RequestContext) (q : Asked) (r : AbstractRequest) (said : RequestAnswer) (new : RequestContext) (challenge : Challenge) (fault : Option FailureCounts) : Type 0 where
  pub keeps : KeepsTrue (make_for s i) d new (served_now i s r challenge fault)
  pub replied : session_goes_on said ≡ true → IsUnderWay (s.job i).client.stage → (pages : List (List Frame)) (protocol : ProtocolState) → IsReadAs t i s pages protocol → WaitsQuietly protocol.progress (s.job i).todo → Replied t i s (after_transition s (answers_to i challenge fault)) protocol.progress said
  pub cut : IsUnderWay (s.job i).client.stage → (before behind : List Wire) (reply : Wire) → replies_to said ≡ before ++ reply ∷ behind → IsUnsaid reply → before ≡ []

pub one_by : (t : Ghost) (i : ℕ) (s : SystemState) (d new : RequestContext) (q : Asked) (r : AbstractRequest) (rest : List AbstractRequest) (said : RequestAnswer) (challenge : Challenge) (fault : Option FailureCounts) → InContext t i s d → (s.job i).todo ≡ r ∷ rest → IsRequest (target_of (t.jobs i)) 0 (s.job i).client.known q r → Answers t.users d q said new →
    IsAnswered i s.make (listed_devices s) (t.jobs i).device s.device (s.job i) d q r said new challenge fault → Rest t i s d q r said new challenge fault → AnswersOne t i s d said new
one_by t i s d new q r rest said challenge fault h e is g a more =
    let p = s.job i in
    let v = served_now i s r challenge fault in
    let next = after_transition s (answers_to i challenge fault) in
    let job_state = party_is i s r rest challenge fault e in
    let device = device_is i s r rest challenge fault e in
    let ends = answer_ends i (make_for s i) (device_for s i) p.session.transfer p.session.awaited _ r in
    let legal = legal_answer t i s d challenge fault r rest h e a.may in
    let off : session_goes_on said ≡ false → v ≡ session_over_effect (device_let_go i (device_for s i)) = λ no_more. ended_is v i (device_for s i) (a.behind.same_end ∙ no_more) ends in
    record {
      challenge = challenge;
      fault = fault;
      may = a.may;
      counted = a.counted;
      on = λ on. record {
        shows = subst (λ (x : ℕ → AbstractDevice). ContextRefines i s.make new x (session_by i x (next.job i))) (sym device) (subst (λ (x : JobState). ContextRefines i s.make new (devices_by s.device p v) (session_by i (devices_by s.device p v) x)) (sym job_state) (a.behind.shows (a.behind.same_end ∙ on)));
        begun = a.begun;
        job_is = ap (λ (x : JobState). x.session.job) job_state ∙ h.job_is;
        infos = h.infos ∙ sym more.keeps.infos;
        apart = h.apart;
        places = h.places;
        held = more.keeps.held;
        lying = more.keeps.lying;
        started = subst (λ (x : JobState). AreStartedViews s.make x) (sym job_state) (λ steady. sheets_more p.session.started v.begun (h.started steady) (more.keeps.begun steady));
        sound = sound_after_all s (answers_to i challenge fault ∷ []) h.sound (legal, tt);
        asks = held_after_all s (answers_to i challenge fault ∷ []) h.sound h.asks (legal, tt);
        speaks = subst (λ (x : JobState). SpeaksAs (t.jobs i).device x new.session) (sym job_state) (a.speaks on);
        served = ap (λ (x : JobState). x.served) job_state ∙ (a.behind.same_end ∙ on);
      };
      others = λ on. subst (λ (x : ℕ → AbstractDevice). LeavesOthers i d.registry new.registry s.device x) (sym device) a.behind.others;
      some_due = λ on. subst (λ (x : JobState). x.due ≢ []) (sym job_state) (tells_on v i (device_for s i) p.due (a.behind.same_end ∙ on) ends);
      replied = more.replied;
      cut = more.cut;
      over = λ no_more. ap (λ (x : JobState). x.served) job_state ∙ (a.behind.same_end ∙ no_more);
      quiet = λ no_more. ap (λ (x : JobState). x.session.transfer) job_state ∙ ap (λ (x : AnswerEffect). x.transfer) (off no_more);
      device = λ no_more k.
          ap (λ (x : ℕ → AbstractDevice). x k) device ∙ (ap (λ (x : AnswerEffect). devices_by s.device p x k) (off no_more) ∙ put_let_go i p.session.job.wants s.device (free_elsewhere i s.make d s.device p h.shows) k);
      page_views = λ started. subst (λ (x : JobState). AreStartedViews s.make x) (sym job_state) (λ steady. sheets_more p.session.started v.begun (started steady) (more.keeps.begun steady));
      silent = λ no_more. (
        ends_silent t.users d q said new (own_init (target_of (t.jobs i)) p.client.known q r is) g no_more,
        ap (λ (x : JobState). x.due) job_state ∙ (ap (λ (x : AnswerEffect). p.due ++ x.told) (off no_more) ∙ append-nil p.due),
      );
    }

-- each request, where the rest is so
pub one_request : (t : Ghost) (i : ℕ) → ((s : SystemState) (d new : RequestContext) (q : Asked) (r : AbstractRequest) (rest : List AbstractRequest) (said : RequestAnswer) → InContext t i s d → (s.job i).todo ≡ r ∷ rest → IsRequest (target_of (t.jobs i)) 0 (s.job i).client.known q r → Answers t.users d q said new →
    (a : Answering i s.make (listed_devices s) (t.jobs i).device s.device (s.job i) d q r said new) → Rest t i s d q r said new a.0 a.1) → OneRequest t i
one_request t i more s d new q r rest said h e is g =
    let as_held : SetsAsHeld i (make_for s i) (s.job i).client.known (device_for s i) (r ∷ rest) = subst (λ (qs : List AbstractRequest). SetsAsHeld i (make_for s i) (s.job i).client.known (device_for s i) qs) e (h.asks i) in
    let session : IsSession i s.make t.users t.infos (t.jobs i) d s.device (s.job i) = record { job_is = h.job_is; infos_are = h.infos; apart = h.apart; shows = h.shows; speaks = h.speaks } in
    let a = answers_as i s.make t.users t.infos (t.jobs i) d s.device (s.job i) (listed_devices s) (s.job i).client.known q r rest said new session h.begun e as_held is g in
    one_by t i s d new q r rest said a.0 a.1 h e is g a.2 (more s d new q r rest said h e is g a)
