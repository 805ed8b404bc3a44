-- Any request, by the laws of each.
use Rattle.std.proofs.Common.{◌≡◌, ◌∙◌, ℕ, List, [], Bool, true, false, Option, Some, None, refl, sym, ap, subst, eqb, eqb-true, cond}
use Rattle.md5_auth.specs.declared.users.Entry.{Entry}
use Rattle.wire_message.specs.declared.message.ControlAction.TheVariants.{GetValue, SetValue}
use Rattle.wire_message.specs.declared.message.Request.{Request as Asked}
use Rattle.wire_message.specs.declared.message.Request.TheVariants as requests
use Rattle.saned_requests.specs.declared.request_answer.RequestAnswer.{RequestAnswer}
use Rattle.saned_requests.specs.declared.session.AwaitedAuthorization.{AwaitedAuthorization}
use Rattle.saned_requests.specs.RequestAnswers.{AnswersAwaiting, AnswersBy, AnswersFree, AnswersGreeted, RequestContext, IsContextOutcome, MayOpen, ContextOutcome, cancel, close, control, devices_reply, greet, options_reply, session_ended, params_reply}
use Rattle.system_model.specs.AbstractMessages.{Cancel, Challenge, Close, Describe, Get, GetDevices, Init, Open, Parameters, AbstractRequest, Set, Start, same_text}
use Rattle.system_model.specs.Devices.{Make}
use Rattle.system_model.specs.AbstractDevices.{AbstractDevice}
use Rattle.system_model.specs.Daemon.{Environment, FailureCounts}
use Rattle.system_model.specs.AbstractSessions.{AddressedRequest, FullEffect, AbstractSession, answer_call, plain_call}
use Rattle.daemon_refines.specs.ContextRefinement.{IsAwaited, ContextRefines}
use Rattle.daemon_refines.specs.Spelling.{Manner}
use Rattle.daemon_refines.specs.Agreeing.{Agrees, manner}
use Rattle.daemon_refines.specs.WholeSessions.{IsGuarded, IsJudged, IsLast, IsOtherRequest}
use Rattle.daemon_refines.specs.DeviceWords.{MayFailAt}
use Rattle.daemon_refines.specs.Failures.{IsCounted}
use Rattle.daemon_refines.specs.ModelRequests.{IsAwaitedCall, IsCallBy, IsFreeCall, RequestServed, RequestsAgree, with_chance, device_word_of}
use Rattle.daemon_refines.proofs.Sources.{no_failure}
use Rattle.daemon_refines.proofs.SessionEndings.{devices_agree, ends_agree, init_agrees, others_end}
use Rattle.daemon_refines.proofs.CancelAndClose.{cancel_agrees, close_agrees}
use Rattle.daemon_refines.proofs.Moved.{put_there}
use Rattle.daemon_refines.proofs.Opens.{authorize_agrees, open_agrees}
use Rattle.daemon_refines.proofs.SetRequests.{set_agrees}
use Rattle.daemon_refines.proofs.Started.{start_agrees}
use Rattle.daemon_refines.proofs.WordRequests.{get_agrees, options_agree, parameters_agree}

-- what a request gives is what it gave
pub given : (i : ℕ) (make : ℕ → Make) (m : Manner) (q : Asked) (comes : FullEffect) (outcome : ContextOutcome) (said : RequestAnswer) (new : RequestContext) → IsContextOutcome outcome said new → Agrees i make m q comes outcome.0 outcome.1 → Agrees i make m q comes said new
given i make m q comes outcome said new g h = subst (λ (t : RequestAnswer). Agrees i make m q comes t new) (sym g.0) (subst (λ (t : RequestContext). Agrees i make m q comes outcome.0 t) (sym g.1) h)

-- a call for a word
for_word : (i : ℕ) (make : ℕ → Make) (d : RequestContext) (table : ℕ → AbstractDevice) (s : AbstractSession) (q : Asked) (x : ℕ → Environment) (call : AddressedRequest) (request : AbstractRequest) (w : ℕ) (said : RequestAnswer) (new : RequestContext) → call.request ≡ request → call.word ≡ w →
    Agrees i make (manner d w) q (answer_call i make table s x None (record { request = request; word = w; place = call.place })) said new → Agrees i make (manner d w) q (answer_call i make table s x None call) said new
for_word i make d table s q x call request w said new e f h =
    subst (λ (c : AddressedRequest). Agrees i make (manner d w) q (answer_call i make table s x None c) said new) (ap (λ (r : AbstractRequest). record { request = r; word = w; place = call.place }) (sym e) ∙ ap (λ (n : ℕ). record { request = call.request; word = n; place = call.place }) (sym f)) h

-- and any other
for_request : (i : ℕ) (make : ℕ → Make) (d : RequestContext) (table : ℕ → AbstractDevice) (s : AbstractSession) (q : Asked) (x : ℕ → Environment) (call : AddressedRequest) (request : AbstractRequest) (said : RequestAnswer) (new : RequestContext) → call.request ≡ request →
    Agrees i make (manner d (device_word_of q)) q (plain_call i make table s x call request) said new → Agrees i make (manner d (device_word_of q)) q (answer_call i make table s x None call) said new
for_request i make d table s q x call request said new e h = subst (λ (r : AbstractRequest). Agrees i make (manner d (device_word_of q)) q (plain_call i make table s x call r) said new) (sym e) h

-- a session that awaits nothing
abbrev FreeBound : ℕ → (ℕ → Make) → RequestContext → (ℕ → AbstractDevice) → AbstractSession → Asked → AddressedRequest → (ℕ → Environment) → RequestAnswer → RequestContext → Type 0
FreeBound i make d table s q call x said new =
    (challenge : Challenge) × (fault : Option FailureCounts) × MayFailAt make (s.words call.word) fault × IsCounted d.session.held new.session.held call.word fault × Agrees i make (manner d (device_word_of q)) q (answer_call i make table s (with_chance x call.place challenge fault) None call) said new

plain : (i : ℕ) (make : ℕ → Make) (d : RequestContext) (table : ℕ → AbstractDevice) (s : AbstractSession) (q : Asked) (call : AddressedRequest) (x : ℕ → Environment) (said : RequestAnswer) (new : RequestContext) → Agrees i make (manner d (device_word_of q)) q (answer_call i make table s (with_chance x call.place [] None) None call) said new → FreeBound i make d table s q call x said new
plain i make d table s q call x said new h = ([], None, no_failure make (s.words call.word), tt, h)

-- what is served at a place of the call
here : (x : ℕ → Environment) (place : ℕ) (challenge : Challenge) (fault : Option FailureCounts) → with_chance x place challenge fault place ≡ record (x place) { challenge = challenge; fault = fault }
here x place challenge fault = put_there x place (record (x place) { challenge = challenge; fault = fault })

free_call : (i : ℕ) (make : ℕ → Make) (users : List Entry) (d : RequestContext) (table : ℕ → AbstractDevice) (s : AbstractSession) (q : Asked) (call : AddressedRequest) (x : ℕ → Environment) (said : RequestAnswer) (new : RequestContext) → ContextRefines i make d table s → d.session.awaited ≡ None → IsFreeCall users d table q call x → AnswersFree users d q said new →
    FreeBound i make d table s q call x said new
free_call i make users d table s (requests.Init version user) call x said new old none is g =
    let law = init_agrees i make d table s (with_chance x call.place [] None) version 0 call.place user old none is.1 in
    plain i make d table s (requests.Init version user) call x said new (for_request i make d table s (requests.Init version user) (with_chance x call.place [] None) call Init said new is.0
    (given i make (manner d 0) (requests.Init version user) _ (greet d version) said new g law))
free_call i make users d table s requests.GetDevices call x said new old none is g =
    plain i make d table s requests.GetDevices call x said new (for_request i make d table s requests.GetDevices (with_chance x call.place [] None) call GetDevices said new is
    (given i make (manner d 0) requests.GetDevices _ (devices_reply d) said new g (devices_agree i make d table s (with_chance x call.place [] None) 0 call.place old none)))
free_call i make users d table s (requests.Open name) call x said new old none is g =
    let law = open_agrees i make users d table s name 0 call.place said new old none is.1 g in
    let challenge = law.0 in
    let now = with_chance x call.place challenge None in (
      challenge,
      None,
      no_failure make (s.words call.word),
      tt,
      for_request i make d table s (requests.Open name) now call Open said new is.0
          (law.1 now (ap (λ (a : Environment). a.challenge) (here x call.place challenge None))
          (λ free found. subst (λ (b : Bool). IsGuarded users name b) (sym (ap (λ (a : Environment). a.guarded) (here x call.place challenge None))) (is.2 free found))),
    )
free_call i make users d table s (requests.Close w) call x said new old none is g =
    plain i make d table s (requests.Close w) call x said new (for_word i make d table s (requests.Close w) (with_chance x call.place [] None) call Close w said new is.0 is.1
    (given i make (manner d w) (requests.Close w) _ (close d w) said new g (close_agrees i make d table s (with_chance x call.place [] None) w call.place old none)))
free_call i make users d table s (requests.GetOptionDescriptors w) call x said new old none is g =
    plain i make d table s (requests.GetOptionDescriptors w) call x said new (for_word i make d table s (requests.GetOptionDescriptors w) (with_chance x call.place [] None) call Describe w said new is.0 is.1
    (given i make (manner d w) (requests.GetOptionDescriptors w) _ (options_reply d w) said new g (options_agree i make d table s (with_chance x call.place [] None) w call.place old none)))
free_call i make users d table s (requests.ControlOption w n GetValue kind value) call x said new old none is g =
    let q = requests.ControlOption w n GetValue kind value in
    plain i make d table s q call x said new (for_word i make d table s q (with_chance x call.place [] None) call (Get n) w said new is.0 is.1
    (given i make (manner d w) q _ (control d w n GetValue kind value) said new g (get_agrees n kind value i make d table s (with_chance x call.place [] None) w call.place old none)))
free_call i make users d table s (requests.ControlOption w n SetValue kind value) call x said new old none is g =
    let q = requests.ControlOption w n SetValue kind value in
    plain i make d table s q call x said new (for_word i make d table s q (with_chance x call.place [] None) call (Set n is.0) w said new is.2.0 is.2.1
    (given i make (manner d w) q _ (control d w n SetValue kind value) said new g (set_agrees i make d table s (with_chance x call.place [] None) w call.place n kind value is.0 old none is.1)))
free_call i make users d table s (requests.GetParameters w) call x said new old none is g =
    plain i make d table s (requests.GetParameters w) call x said new (for_word i make d table s (requests.GetParameters w) (with_chance x call.place [] None) call Parameters w said new is.0 is.1
    (given i make (manner d w) (requests.GetParameters w) _ (params_reply d w) said new g (parameters_agree i make d table s (with_chance x call.place [] None) w call.place old none)))
free_call i make users d table s (requests.Start w) call x said new old none is g =
    let law = start_agrees i make d table s w call.place said new old none g in
    let fault = law.0 in
    let now = with_chance x call.place [] fault in
    ([], fault, subst (λ (n : ℕ). MayFailAt make (s.words n) fault) (sym is.1) law.1, subst (λ (n : ℕ). IsCounted d.session.held new.session.held n fault) (sym is.1) law.2, for_word i make d table s (requests.Start w) now call Start w said new is.0 is.1 (law.3 now (ap (λ (a : Environment). a.fault) (here x call.place [] fault))))
free_call i make users d table s (requests.Cancel w) call x said new old none is g =
    plain i make d table s (requests.Cancel w) call x said new (for_word i make d table s (requests.Cancel w) (with_chance x call.place [] None) call Cancel w said new is.0 is.1
    (given i make (manner d w) (requests.Cancel w) _ (cancel d w) said new g (cancel_agrees i make d table s (with_chance x call.place [] None) w call.place old none)))
free_call i make users d table s (requests.Authorize resource user password) call x said new old none is g =
    let q = requests.Authorize resource user password in
    plain i make d table s q call x said new (given i make (manner d 0) q _ (session_ended d) said new g
    (ends_agree i make d table s (with_chance x call.place [] None) call q 0 old (subst (λ (r : AbstractRequest). IsLast r) (sym is.1) tt)))
free_call i make users d table s requests.Exit call x said new old none is g =
    plain i make d table s requests.Exit call x said new (given i make (manner d 0) requests.Exit _ (session_ended d) said new g
    (ends_agree i make d table s (with_chance x call.place [] None) call requests.Exit 0 old (subst (λ (r : AbstractRequest). IsLast r) (sym is) tt)))

-- a session that awaits AUTHORIZE
allowed_by : (x : ℕ → Environment) (place at : ℕ) (b : Bool) → eqb at place ≡ b → (with_chance x place [] None at).allows ≡ (x at).allows
allowed_by x place at true e = ap (λ (b : Bool). (cond b (record (x place) { challenge = []; fault = None }) (x at)).allows) e ∙ sym (ap (λ (k : ℕ). (x k).allows) (eqb-true at place e))
allowed_by x place at false e = ap (λ (b : Bool). (cond b (record (x place) { challenge = []; fault = None }) (x at)).allows) e

abbrev AwaitedBound : ℕ → (ℕ → Make) → RequestContext → (ℕ → AbstractDevice) → AbstractSession → Challenge → ℕ → Asked → AddressedRequest → (ℕ → Environment) → RequestAnswer → RequestContext → Type 0
AwaitedBound i make d table s sent place q call x said new = Agrees i make (manner d (device_word_of q)) q (answer_call i make table s (with_chance x call.place [] None) (Some (sent, place)) call) said new

other_call : (i : ℕ) (make : ℕ → Make) (d : RequestContext) (table : ℕ → AbstractDevice) (s : AbstractSession) (sent : Challenge) (place : ℕ) (q : Asked) (call : AddressedRequest) (x : ℕ → Environment) (said : RequestAnswer) (new : RequestContext) → ContextRefines i make d table s → IsOtherRequest call.request → IsContextOutcome (session_ended d) said new → AwaitedBound i make d table s sent place q call x said new
other_call i make d table s sent place q call x said new old is g =
    given i make (manner d (device_word_of q)) q _ (session_ended d) said new g (others_end i make d table s (with_chance x call.place [] None) call q (device_word_of q) sent place old is)

judged_here : (may : Type 0) (same : Bool) (f g : Challenge → Bool) (sent : Challenge) → f ≡ g → IsJudged may same (f sent) → IsJudged may same (g sent)
judged_here may same f g sent e h = subst (λ (allows : Challenge → Bool). IsJudged may same (allows sent)) e h

awaited_call_is : (i : ℕ) (make : ℕ → Make) (users : List Entry) (d : RequestContext) (table : ℕ → AbstractDevice) (s : AbstractSession) (aw : AwaitedAuthorization) (sent : Challenge) (place : ℕ) (q : Asked) (call : AddressedRequest) (x : ℕ → Environment) (said : RequestAnswer) (new : RequestContext) → ContextRefines i make d table s → d.session.awaited ≡ Some aw → s.awaited ≡ Some (sent, place) →
    IsAwaitedCall users aw sent place q call x → AnswersAwaiting users d aw q said new → AwaitedBound i make d table s sent place q call x said new
awaited_call_is i make users d table s aw sent place (requests.Authorize resource user password) call x said new old e f is g =
    let now = with_chance x call.place [] None in
    let judged = judged_here (MayOpen users aw resource user password) (same_text is.0 sent) (x place).allows (now place).allows sent (sym (allowed_by x call.place place (eqb place call.place) refl)) is.2 in
    subst (λ (c : AddressedRequest). Agrees i make (manner d 0) (requests.Authorize resource user password) (answer_call i make table s now (Some (sent, place)) c) said new) (ap (λ (r : AbstractRequest). record { request = r; word = call.word; place = call.place }) (sym is.1))
    (authorize_agrees i make users d table s aw resource user password is.0 sent 0 place call.place said new now old e f judged g)
awaited_call_is i make users d table s aw sent place q call x said new old e f is g = other_call i make d table s sent place q call x said new old is g

-- by what is awaited
by_awaited : (i : ℕ) (make : ℕ → Make) (users : List Entry) (d : RequestContext) (table : ℕ → AbstractDevice) (s : AbstractSession) (a : Option AwaitedAuthorization) (sent : Option (Challenge × ℕ)) (q : Asked) (call : AddressedRequest) (x : ℕ → Environment) (said : RequestAnswer) (new : RequestContext) → ContextRefines i make d table s → d.session.awaited ≡ a → s.awaited ≡ sent →
    IsAwaited d.session.held d.registry table a sent → IsCallBy users d table a sent q call x → AnswersGreeted users d a q said new → RequestServed i make d table s q call x said new
by_awaited i make users d table s None sent q call x said new old e f awaits is g =
    let bound = free_call i make users d table s q call x said new old e is g in
    record {
      challenge = bound.0;
      fault = bound.1;
      may = bound.2;
      counted = bound.3;
      agrees = subst (λ (o : Option (Challenge × ℕ)). Agrees i make (manner d (device_word_of q)) q (answer_call i make table s (with_chance x call.place bound.0 bound.1) o call) said new) (sym (f ∙ awaits)) bound.4;
    }
by_awaited i make users d table s (Some aw) None q call x said new old e f awaits is g = absurd is
by_awaited i make users d table s (Some aw) (Some sent) q call x said new old e f awaits is g =
    record {
      challenge = [];
      fault = None;
      may = no_failure make (s.words call.word);
      counted = tt;
      agrees = subst (λ (o : Option (Challenge × ℕ)). Agrees i make (manner d (device_word_of q)) q (answer_call i make table s (with_chance x call.place [] None) o call) said new) (sym f)
          (awaited_call_is i make users d table s aw sent.0 sent.1 q call x said new old e f is g);
    }

pub requests_agree : RequestsAgree
requests_agree i make users d table s q call x said new old greeted is g =
    by_awaited i make users d table s d.session.awaited s.awaited q call x said new old refl refl old.awaited is (subst (λ (b : Bool). AnswersBy b users d q said new) greeted g)
