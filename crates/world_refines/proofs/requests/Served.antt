-- One request of a job's client: what the daemon answers, and what it leaves, is the model's answer.
use Rattle.std.specs.Prelude.{◌/◌, cond}
use Rattle.std.proofs.Common.{◌≡◌, ◌≢◌, ◌⊎◌, inl, inr, ◌∙◌, ℕ, List, [], ◌∷◌, Option, Some, None, Bool, true, false, refl, sym, ap, subst}
use Rattle.sane_fixed.specs.declared.status.Status.TheVariants.{Inval}
use Rattle.sane_fixed.specs.declared.device_info.DeviceInfo.{DeviceInfo}
use Rattle.sane_fixed.specs.declared.status.Status.TheVariants as code
use Rattle.md5_auth.specs.declared.users.Entry.{Entry}
use Rattle.dispatch.specs.Table.{Table}
use Rattle.wire_message.specs.declared.message.ControlAction.TheVariants as actions
use Rattle.wire_message.specs.declared.message.Request.{Request as Asked}
use Rattle.wire_message.specs.declared.message.Request.TheVariants as requests
use Rattle.client_replies.specs.ProtocolStates.{target_of}
use Rattle.saned_requests.specs.declared.request_answer.RequestAnswer.{RequestAnswer}
use Rattle.saned_requests.specs.declared.request_answer.RequestAnswer.TheVariants.{One}
use Rattle.saned_requests.specs.declared.session.AwaitedAuthorization.{AwaitedAuthorization}
use Rattle.saned_requests.specs.Holding.{given_back}
use Rattle.saned_requests.specs.RequestAnswers.{Answers, AnswersBy, AnswersGreeted, RequestContext, IsContextOutcome, ContextOutcome, control, first_answer, greet, refused_control}
use Rattle.saned_core.specs.Feeding.{session_goes_on}
use Rattle.saned_core.specs.Feeding as daemon
use Rattle.scan_job.specs.declared.job.Job.{Job}
use Rattle.option_desc.specs.declared.descriptor.Descriptor.{Descriptor}
use Rattle.system_model.specs.AbstractMessages.{Challenge, Init, Refused, AbstractReply, AbstractRequest, Set}
use Rattle.option_desc.specs.declared.value.Value.{Value}
use Rattle.system_model.specs.Devices.{Make, AbstractAcceptedSet, accept_value}
use Rattle.system_model.specs.AbstractDevices.{AbstractDevice, is_held_by, is_resting, device_let_go}
use Rattle.system_model.specs.Daemon.{Environment, TransferState, FailureCounts, AnswerEffect, answer, answer_if, put_reply, set_reply}
use Rattle.system_model.specs.Actions.{job_after_answer, environment_of, served_by}
use Rattle.system_model.specs.SystemStates.{JobState, with_entry}
use Rattle.system_model.specs.AbstractSessions.{FullEffect, FollowsOneWord, IsLike, AbstractSession, answer_call, call_to, one_word_session}
use Rattle.system_model.specs.Transitions.{MayFail}
use Rattle.daemon_refines.specs.DeviceWords.{MayFailAt}
use Rattle.daemon_refines.specs.Failures.{IsCounted}
use Rattle.system_model.proofs.OneWord.{one_word_enough}
use Rattle.client_refines.specs.RequestRefinement.{IsRequest}
use Rattle.daemon_refines.specs.Agreeing.{Agrees, manner}
use Rattle.daemon_refines.specs.OtherSessions.{LeavesOthers}
use Rattle.daemon_refines.specs.Feeds.{IsSessionBegun}
use Rattle.daemon_refines.specs.ContextRefinement.{IsAwaited, TransferRefines, ContextRefines, TableRefines}
use Rattle.daemon_refines.specs.ModelRequests.{IsCall, with_chance, device_word_of}
use Rattle.daemon_refines.specs.Spelling.{Manner, SpellsSaid}
use Rattle.daemon_refines.proofs.DataLinks.{still_awaited}
use Rattle.daemon_refines.proofs.Changes.{Held}
use Rattle.daemon_refines.proofs.SessionEndings.{init_agrees, left_by, same_tables}
use Rattle.daemon_refines.proofs.Greeted.{SameWords, answers_end, stays_greeted}
use Rattle.daemon_refines.proofs.Leaves.{ends_leave, requests_leave}
use Rattle.daemon_refines.proofs.Moved.{own, put_elsewhere, put_there}
use Rattle.daemon_refines.proofs.OtherSessions.{leaves_all, leaves_same}
use Rattle.daemon_refines.proofs.AnyRequest.{given, requests_agree}
use Rattle.daemon_refines.proofs.SetRequests.{set_refuses}
use Rattle.world_refines.specs.Speaks.{IsGreeted, SetsAsHeld}
use Rattle.world_refines.specs.WorldRefinement.{session_by}
use Rattle.world_refines.proofs.requests.Asked.{Calls, IsOdd, IsSession, all_around, free_elsewhere, is_call, word_is}
use Rattle.world_refines.proofs.state.ListEntries.{is_same}
use Rattle.world_refines.proofs.requests.PlainAnswers.{Ends, answer_ends}
use Rattle.world_refines.proofs.state.Taking.{put_self}

-- what the model serves of a request of client i's
abbrev pub serving : ℕ → (ℕ → Make) → List ℕ → (ℕ → AbstractDevice) → JobState → AbstractRequest → Challenge → Option FailureCounts → AnswerEffect
serving i make listed device p r challenge fault = served_by i (make p.session.job.wants) listed p (device p.session.job.wants) challenge fault r

-- the devices behind it
abbrev pub devices_by : (ℕ → AbstractDevice) → JobState → AnswerEffect → ℕ → AbstractDevice
devices_by device p v = with_entry device p.session.job.wants v.device

-- what stands behind it at the daemon
pub record Behind (i : ℕ) (make : ℕ → Make) (device : ℕ → AbstractDevice) (p : JobState) (d : RequestContext) (said : RequestAnswer) (new : RequestContext) (v : AnswerEffect) : Type 0 where
  pub same_end : v.goes_on ≡ session_goes_on said
  pub shows : v.goes_on ≡ true → ContextRefines i make new (devices_by device p v) (session_by i (devices_by device p v) (job_after_answer p v))
  pub ends : v.goes_on ≡ false → TableRefines i make [] (daemon.table_let_go new) (devices_by device p v)
  pub others : LeavesOthers i d.registry new.registry device (devices_by device p v)
  pub others_end : v.goes_on ≡ false → LeavesOthers i d.registry (daemon.table_let_go new) device (devices_by device p v)

-- ---- a session that is alike, and devices that are the same at each place

like_shows : (i : ℕ) (make : ℕ → Make) (d : RequestContext) (table device : ℕ → AbstractDevice) (s t : AbstractSession) → ((k : ℕ) → device k ≡ table k) → IsLike s t → ContextRefines i make d table s → ContextRefines i make d device t
like_shows i make d table device s t same like h =
    record {
      words = λ w. sym (like.words w) ∙ h.words w;
      four = h.four;
      transfer = subst (λ (n : ℕ). TransferRefines d.session.transfer t.transfer n) like.framed (subst (λ (c : TransferState). TransferRefines d.session.transfer c s.framed) like.transfer h.transfer);
      frame = h.frame;
      awaited =
          still_awaited d.session.held d.session.held d.registry table device d.session.awaited t.awaited refl (λ k. ap (λ (dev : AbstractDevice). dev.listed) (same k))
          (subst (λ (sent : Option (Challenge × ℕ)). IsAwaited d.session.held d.registry table d.session.awaited sent) like.awaited h.awaited);
      devices = same_tables i make d.session.held d.registry table device same h.devices;
    }

-- ---- what the laws of the daemon give, for the model of one device

-- surroundings that say this at the job's place
like_call : (i : ℕ) (make : ℕ → Make) (listed : List ℕ) (device : ℕ → AbstractDevice) (p : JobState) (r : AbstractRequest) (x : ℕ → Environment) (challenge : Challenge) (fault : Option FailureCounts) → ((e : ℕ) → e ≢ p.session.job.wants → (device e).holder ≢ Some i) → x p.session.job.wants ≡ environment_of p.session listed challenge fault →
    FollowsOneWord i p.session.job.wants device (answer_call i make device (session_by i device p) x (session_by i device p).awaited (call_to p.session.job.wants r)) (serving i make listed device p r challenge fault)
like_call i make listed device p r x challenge fault free e =
    let wants = p.session.job.wants in
    subst (λ (a : Environment). FollowsOneWord i wants device (answer_call i make device (session_by i device p) x (session_by i device p).awaited (call_to wants r)) (answer i (make wants) (device wants) p.session.transfer p.session.awaited a r)) e
    (one_word_enough i wants make device p.session.transfer p.session.awaited x r free)

-- all that its client holds is let go
pub put_let_go : (i wants : ℕ) (table : ℕ → AbstractDevice) → ((k : ℕ) → k ≢ wants → (table k).holder ≢ Some i) → (k : ℕ) → with_entry table wants (device_let_go i (table wants)) k ≡ device_let_go i (table k)
put_let_go i wants table free k = by_test (is_same k wants)
  where
    by_test : (k ≡ wants) ⊎ (k ≢ wants) → with_entry table wants (device_let_go i (table wants)) k ≡ device_let_go i (table k)
    by_test (inl e) = subst (λ (x : ℕ). with_entry table wants (device_let_go i (table wants)) x ≡ device_let_go i (table x)) (sym e) (put_there table wants (device_let_go i (table wants)))
    by_test (inr n) = put_elsewhere table wants (device_let_go i (table wants)) k n ∙ sym (left_by i (table k) (table k).holder refl (free k n))

-- a session that ends leaves to others what they hold
leaves_end : (i : ℕ) (make : ℕ → Make) (d : RequestContext) (device : ℕ → AbstractDevice) (p : JobState) (new : RequestContext) (v : AnswerEffect) → ContextRefines i make d device (session_by i device p) → SameWords d new → Ends i (device p.session.job.wants) v → v.goes_on ≡ false → LeavesOthers i d.registry (daemon.table_let_go new) device (devices_by device p v)
leaves_end i make d device p new v h same (inl on) off = absurd (let clash : true ≡ false = sym on.0 ∙ off in cc)
leaves_end i make d device p new v h same (inr ended) off =
    let wants = p.session.job.wants in
    let back : daemon.table_let_go new ≡ daemon.table_let_go d = ap (λ (t : Table). given_back t new.session.held) same.registry ∙ ap (λ (x : Held). given_back d.registry x) same.held in
    let is : (k : ℕ) → devices_by device p v k ≡ device_let_go i (device k) = λ k. ap (λ (x : AnswerEffect). with_entry device wants x.device k) ended ∙ put_let_go i wants device (free_elsewhere i make d device p h) k in
    subst (λ (t : Table). LeavesOthers i d.registry t device (devices_by device p v)) (sym back)
    (leaves_same i d.registry (daemon.table_let_go d) device (λ k. device_let_go i (device k)) (devices_by device p v) is (ends_leave i make d.session.held d.registry device h.devices))

behind_by : (i : ℕ) (make : ℕ → Make) (users : List Entry) (device : ℕ → AbstractDevice) (p : JobState) (d : RequestContext) (q : Asked) (m : Manner) (comes : FullEffect) (said : RequestAnswer) (new : RequestContext) (v : AnswerEffect) → ContextRefines i make d device (session_by i device p) → Answers users d q said new → Agrees i make m q comes said new → FollowsOneWord i p.session.job.wants device comes v →
    LeavesOthers i d.registry new.registry device comes.table → Ends i (device p.session.job.wants) v → Behind i make device p d said new v
behind_by i make users device p d q m comes said new v h g a f others ended =
    let wants = p.session.job.wants in
    let same : (k : ℕ) → devices_by device p v k ≡ comes.table k = λ k. sym (f.table_is k) in
    let ends : v.goes_on ≡ session_goes_on said = sym f.goes_on ∙ a.same_end in
    let session : session_by i (devices_by device p v) (job_after_answer p v) ≡ one_word_session (is_held_by i v.device.holder) wants v.transfer v.awaited =
    ap (λ (x : AbstractDevice). one_word_session (is_held_by i x.holder) wants v.transfer v.awaited) (put_there device wants v.device) in
    record {
      same_end = ends;
      shows = λ on. subst (λ (s : AbstractSession). ContextRefines i make new (devices_by device p v) s) (sym session) (like_shows i make new comes.table (devices_by device p v) comes.session (one_word_session (is_held_by i v.device.holder) wants v.transfer v.awaited) same (f.session on) (a.stands (sym ends ∙ on)));
      ends = λ off. same_tables i make [] (daemon.table_let_go new) comes.table (devices_by device p v) same (a.ends (sym ends ∙ off));
      others = leaves_same i d.registry new.registry device comes.table (devices_by device p v) same others;
      others_end = λ off. leaves_end i make d device p new v h (answers_end users d q said new g (sym ends ∙ off)) ended off;
    }

-- what is served, what stands behind it, and its reply as the laws of the daemon spell it
pub record Raw (i : ℕ) (make : ℕ → Make) (listed : List ℕ) (device : ℕ → AbstractDevice) (p : JobState) (d : RequestContext) (q : Asked) (r : AbstractRequest) (said : RequestAnswer) (new : RequestContext) (challenge : Challenge) (fault : Option FailureCounts) : Type 0 where
  pub may : MayFail (make p.session.job.wants) fault
  pub behind : Behind i make device p d said new (serving i make listed device p r challenge fault)
  pub counted : IsCounted d.session.held new.session.held 0 fault
  pub greeted : new.session.greeted ≡ true
  pub says : ((n : ℕ) (value : Value) → r ≡ Set n value → is_resting (device p.session.job.wants).phase ≡ true) → SpellsSaid (manner d 0) q (serving i make listed device p r challenge fault).told said

abbrev pub IsRaw : ℕ → (ℕ → Make) → List ℕ → (ℕ → AbstractDevice) → JobState → RequestContext → Asked → AbstractRequest → RequestAnswer → RequestContext → Type 0
IsRaw i make listed device p d q r said new = (challenge : Challenge) × (fault : Option FailureCounts) × Raw i make listed device p d q r said new challenge fault

-- a call of a session that was greeted
chance_is : (p : JobState) (listed : List ℕ) (challenge : Challenge) (fault : Option FailureCounts) → with_chance (all_around p listed) p.session.job.wants challenge fault p.session.job.wants ≡ environment_of p.session listed challenge fault
chance_is p listed challenge fault = put_there (all_around p listed) p.session.job.wants (record (all_around p listed p.session.job.wants) { challenge = challenge; fault = fault })

fails_by : (held : Bool) (make : ℕ → Make) (d : ℕ) (fault : Option FailureCounts) → MayFailAt make (cond held (Some d) None) fault → MayFail (make d) fault
fails_by true make d fault h = h
fails_by false make d fault h = subst (λ (f : Option FailureCounts). MayFail (make d) f) (sym h) tt

raw_call : (i : ℕ) (make : ℕ → Make) (users : List Entry) (infos : List DeviceInfo) (job : Job) (d : RequestContext) (device : ℕ → AbstractDevice) (p : JobState) (listed : List ℕ) (q : Asked) (r : AbstractRequest) (said : RequestAnswer) (new : RequestContext) → IsSession i make users infos job d device p → d.session.greeted ≡ true → device_word_of q ≡ 0 →
    IsCall users d device (session_by i device p) q (call_to p.session.job.wants r) (all_around p listed) → Answers users d q said new → IsRaw i make listed device p d q r said new
raw_call i make users infos job d device p listed q r said new h greeted word call g =
    let wants = p.session.job.wants in
    let s = session_by i device p in
    let served = requests_agree i make users d device s q (call_to wants r) (all_around p listed) said new h.shows greeted call g in
    let x = with_chance (all_around p listed) wants served.challenge served.fault in
    let comes = answer_call i make device s x s.awaited (call_to wants r) in
    let v = serving i make listed device p r served.challenge served.fault in
    let f = like_call i make listed device p r x served.challenge served.fault (free_elsewhere i make d device p h.shows) (chance_is p listed served.challenge served.fault) in
    let others = requests_leave i make users d device s q (call_to wants r) x said new h.shows g in
    let behind = behind_by i make users device p d q (manner d (device_word_of q)) comes said new v h.shows g served.agrees f others (answer_ends i (make wants) (device wants) p.session.transfer p.session.awaited (environment_of p.session listed served.challenge served.fault) r) in (
      served.challenge,
      served.fault,
      record {
        may = fails_by (is_held_by i (device wants).holder) make wants served.fault served.may;
        behind = behind;
        counted = served.counted;
        greeted = stays_greeted users d d.session.awaited q said new (subst (λ (b : Bool). AnswersBy b users d q said new) greeted g) greeted;
        says = λ _. subst (λ (told : List AbstractReply). SpellsSaid (manner d 0) q told said) f.told (subst (λ (w : ℕ). SpellsSaid (manner d w) q comes.told said) word served.agrees.says);
      },
    )

-- INIT, of a session that was not
raw_init : (i : ℕ) (make : ℕ → Make) (users : List Entry) (infos : List DeviceInfo) (job : Job) (d : RequestContext) (device : ℕ → AbstractDevice) (p : JobState) (listed : List ℕ) (version : ℕ) (user : List ℕ) (said : RequestAnswer) (new : RequestContext) → IsSession i make users infos job d device p → d.session.awaited ≡ None → version / 16777216 ≡ 1 → IsContextOutcome (greet d version) said new →
    Answers users d (requests.Init version user) said new → IsRaw i make listed device p d (requests.Init version user) Init said new
raw_init i make users infos job d device p listed version user said new h none major gives g =
    let wants = p.session.job.wants in
    let s = session_by i device p in
    let x = all_around p listed in
    let q = requests.Init version user in
    let sent : s.awaited ≡ None = none_sent d.session.held d.registry device d.session.awaited s.awaited none h.shows.awaited in
    let comes = answer_call i make device s x s.awaited (call_to wants Init) in
    let agrees = subst (λ (o : Option (Challenge × ℕ)). Agrees i make (manner d 0) q (answer_call i make device s x o (call_to wants Init)) said new) (sym sent)
    (given i make (manner d 0) q (answer_call i make device s x None (call_to wants Init)) (greet d version) said new gives (init_agrees i make d device s x version 0 wants user h.shows none major)) in
    let v = serving i make listed device p Init [] None in
    let f = like_call i make listed device p Init x [] None (free_elsewhere i make d device p h.shows) refl in
    let others = requests_leave i make users d device s q (call_to wants Init) x said new h.shows g in (
      [],
      None,
      record {
        may = tt;
        behind = behind_by i make users device p d q (manner d 0) comes said new v h.shows g agrees f others (answer_ends i (make wants) (device wants) p.session.transfer p.session.awaited (environment_of p.session listed [] None) Init);
        counted = tt;
        greeted = ap (λ (t : RequestContext). t.session.greeted) gives.1;
        says = λ _. subst (λ (told : List AbstractReply). SpellsSaid (manner d 0) q told said) f.told agrees.says;
      },
    )
  where
    none_sent : (held : Held) (registry : Table) (table : ℕ → AbstractDevice) (a : Option AwaitedAuthorization) (sent : Option (Challenge × ℕ)) → a ≡ None → IsAwaited held registry table a sent → sent ≡ None
    none_sent held registry table None sent e h = h
    none_sent held registry table (Some aw) sent e h = absurd (let clash : Some aw ≡ None = e in cc)

-- a SET that both refuse
pub record IsRefused (dev : AbstractDevice) (c : TransferState) (v : AnswerEffect) : Type 0 where
  pub device : v.device ≡ dev
  pub transfer : v.transfer ≡ c
  pub awaited : v.awaited ≡ None
  pub goes_on : v.goes_on ≡ true
  pub told : is_resting dev.phase ≡ true → v.told ≡ Refused Inval ∷ []

odd_reply : (k : Make) (dev : AbstractDevice) (c : TransferState) (n : ℕ) (value : Value) (b : Bool) → is_resting dev.phase ≡ b → accept_value k dev.options n value ≡ None → IsRefused dev c (set_reply k dev c n value b)
odd_reply k dev c n value true e none =
    subst (λ (o : Option AbstractAcceptedSet). IsRefused dev c (put_reply dev c o)) (sym none) (record { device = refl; transfer = refl; awaited = refl; goes_on = refl; told = λ _. refl })
odd_reply k dev c n value false e none =
    record { device = refl; transfer = refl; awaited = refl; goes_on = refl; told = λ rests. absurd (let clash : false ≡ true = sym e ∙ rests in cc) }

odd_if : (b : Bool) (i : ℕ) (k : Make) (dev : AbstractDevice) (c : TransferState) (x : Environment) (n : ℕ) (value : Value) → b ≡ true → accept_value k dev.options n value ≡ None → IsRefused dev c (answer_if b i k dev c x (Set n value))
odd_if true i k dev c x n value e none = odd_reply k dev c n value (is_resting dev.phase) refl none
odd_if false i k dev c x n value e none = absurd (let clash : false ≡ true = e in cc)

odd_served : (i : ℕ) (k : Make) (dev : AbstractDevice) (c : TransferState) (a : Option Challenge) (x : Environment) (n : ℕ) (value : Value) → a ≡ None → dev.holder ≡ Some i → accept_value k dev.options n value ≡ None → IsRefused dev c (answer i k dev c a x (Set n value))
odd_served i k dev c a x n value e mine none =
    subst (λ (o : Option Challenge). IsRefused dev c (answer i k dev c o x (Set n value))) (sym e)
    (odd_if (is_held_by i dev.holder) i k dev c x n value (ap (is_held_by i) mine ∙ own i) none)

raw_odd : (i : ℕ) (make : ℕ → Make) (users : List Entry) (infos : List DeviceInfo) (job : Job) (d : RequestContext) (device : ℕ → AbstractDevice) (p : JobState) (listed : List ℕ) (q : Asked) (r : AbstractRequest) (said : RequestAnswer) (new : RequestContext) → IsSession i make users infos job d device p → d.session.greeted ≡ true → d.session.awaited ≡ None → p.session.awaited ≡ None →
    IsOdd i make d device p q r → Answers users d q said new → IsRaw i make listed device p d q r said new
raw_odd i make users infos job d device p listed q r said new h greeted none sent odd g =
    let wants = p.session.job.wants in
    let dev = device wants in
    let k = make wants in
    let o = requests.ControlOption 0 odd.option actions.SetValue odd.kind odd.value in
    let refused = set_refuses d 0 odd.option odd.kind odd.value odd.none in
    let gives : IsContextOutcome (control d 0 odd.option actions.SetValue odd.kind odd.value) said new =
    subst (λ (a : Option AwaitedAuthorization). AnswersGreeted users d a o said new) none (subst (λ (b : Bool). AnswersBy b users d o said new) greeted (subst (λ (x : Asked). Answers users d x said new) odd.is g)) in
    let said_is : said ≡ One (refused_control code.Inval odd.kind odd.value) = gives.0 ∙ ap (λ (t : ContextOutcome). t.0) refused in
    let new_is : new ≡ d = gives.1 ∙ ap (λ (t : ContextOutcome). t.1) refused in
    let v = serving i make listed device p r [] None in
    let is : IsRefused dev p.session.transfer v =
    subst (λ (x : AbstractRequest). IsRefused dev p.session.transfer (serving i make listed device p x [] None)) (sym odd.asked_is) (odd_served i k dev p.session.transfer p.session.awaited (environment_of p.session listed [] None) odd.option odd.asked sent odd.holder odd.refused) in
    let same : (e : ℕ) → devices_by device p v e ≡ device e = put_self device wants v.device is.device in
    let session : session_by i (devices_by device p v) (job_after_answer p v) ≡ session_by i device p =
    ap (λ (x : AbstractDevice). one_word_session (is_held_by i x.holder) wants v.transfer v.awaited) (same wants) ∙ ap (λ (c : TransferState). one_word_session (is_held_by i dev.holder) wants c v.awaited) is.transfer ∙ ap (λ (a : Option Challenge). one_word_session (is_held_by i dev.holder) wants p.session.transfer a) (is.awaited ∙ sym sent) in (
      [],
      None,
      record {
        may = tt;
        behind = record {
          same_end = is.goes_on ∙ sym (ap session_goes_on said_is);
          shows = λ on.
              subst (λ (t : RequestContext). ContextRefines i make t (devices_by device p v) (session_by i (devices_by device p v) (job_after_answer p v))) (sym new_is)
              (subst (λ (s : AbstractSession). ContextRefines i make d (devices_by device p v) s) (sym session) (like_shows i make d device (devices_by device p v) (session_by i device p) (session_by i device p) same (record { words = λ w. refl; transfer = refl; framed = refl; awaited = refl }) h.shows));
          ends = λ off. absurd (let clash : true ≡ false = sym is.goes_on ∙ off in cc);
          others = subst (λ (t : RequestContext). LeavesOthers i d.registry t.registry device (devices_by device p v)) (sym new_is) (leaves_same i d.registry d.registry device device (devices_by device p v) same (leaves_all i d.registry device));
          others_end = λ off. absurd (let clash : true ≡ false = sym is.goes_on ∙ off in cc);
        };
        counted = tt;
        greeted = ap (λ (t : RequestContext). t.session.greeted) new_is ∙ greeted;
        says = λ rests.
            subst (λ (s : RequestAnswer). SpellsSaid (manner d 0) q v.told s) (sym said_is)
            (subst (λ (x : Asked). SpellsSaid (manner d 0) x v.told (One (refused_control code.Inval odd.kind odd.value))) (sym odd.is) (Refused Inval, is.told (rests odd.option odd.asked odd.asked_is), (code.Inval, refl, refl)));
      },
    )

-- ---- any request

by_calls : (i : ℕ) (make : ℕ → Make) (users : List Entry) (infos : List DeviceInfo) (job : Job) (d : RequestContext) (device : ℕ → AbstractDevice) (p : JobState) (listed : List ℕ) (q : Asked) (r : AbstractRequest) (said : RequestAnswer) (new : RequestContext) → IsSession i make users infos job d device p → d.session.greeted ≡ true → device_word_of q ≡ 0 →
    Calls i make users d device p listed q r → Answers users d q said new → IsRaw i make listed device p d q r said new
by_calls i make users infos job d device p listed q r said new h greeted word (inl call) g = raw_call i make users infos job d device p listed q r said new h greeted word call g
by_calls i make users infos job d device p listed q r said new h greeted word (inr odd) g = raw_odd i make users infos job d device p listed q r said new h greeted odd.0 odd.1 odd.2 g

-- a session that was not greeted has INIT as its first request
first_init : (i : ℕ) (make : ℕ → Make) (users : List Entry) (infos : List DeviceInfo) (job : Job) (d : RequestContext) (device : ℕ → AbstractDevice) (p : JobState) (listed : List ℕ) (known : List Descriptor) (q : Asked) (said : RequestAnswer) (new : RequestContext) → IsSession i make users infos job d device p → d.session.awaited ≡ None →
    IsRequest (target_of job) 0 known q Init → IsContextOutcome (first_answer d q) said new → Answers users d q said new → IsRaw i make listed device p d q Init said new
first_init i make users infos job d device p listed known (requests.Init version user) said new h none is gives g = raw_init i make users infos job d device p listed version user said new h none (subst (λ (v : ℕ). v / 16777216 ≡ 1) (sym is.0) refl) gives g
first_init i make users infos job d device p listed known (requests.ControlOption w o actions.GetValue kind value) said new h none is gives g = absurd is
first_init i make users infos job d device p listed known (requests.ControlOption w o actions.SetValue kind value) said new h none is gives g = absurd is
first_init i make users infos job d device p listed known q said new h none is gives g = absurd is

by_greeted : (i : ℕ) (make : ℕ → Make) (users : List Entry) (infos : List DeviceInfo) (job : Job) (d : RequestContext) (device : ℕ → AbstractDevice) (p : JobState) (listed : List ℕ) (known : List Descriptor) (q : Asked) (r : AbstractRequest) (rest : List AbstractRequest) (said : RequestAnswer) (new : RequestContext) (b : Bool) → d.session.greeted ≡ b → IsSession i make users infos job d device p → IsSessionBegun d → p.todo ≡ r ∷ rest →
    SetsAsHeld i (make p.session.job.wants) known (device p.session.job.wants) (r ∷ rest) → IsRequest (target_of job) 0 known q r → Answers users d q said new → IsRaw i make listed device p d q r said new
by_greeted i make users infos job d device p listed known q r rest said new true e h begun todo as_held is g =
    by_calls i make users infos job d device p listed q r said new h e (word_is (target_of job) known q r is) (is_call i make users infos job d device p listed known q r rest h as_held is) g
by_greeted i make users infos job d device p listed known q r rest said new false e h (inl greeted) todo as_held is g = absurd (let clash : true ≡ false = sym greeted ∙ e in cc)
by_greeted i make users infos job d device p listed known q r rest said new false e h (inr none) todo as_held is g =
    let first = subst (λ (b : Bool). IsGreeted b p.todo) e h.speaks.greeted in
    let same : r ≡ Init = ap (λ (x : List AbstractRequest). first_or r x) (sym todo ∙ first.1) in
    subst (λ (x : AbstractRequest). IsRaw i make listed device p d q x said new) (sym same)
    (first_init i make users infos job d device p listed known q said new h none (subst (IsRequest (target_of job) 0 known q) same is) (subst (λ (b : Bool). AnswersBy b users d q said new) e g) g)
  where
    first_or : AbstractRequest → List AbstractRequest → AbstractRequest
    first_or r [] = r
    first_or r (x ∷ xs) = x

pub raw : (i : ℕ) (make : ℕ → Make) (users : List Entry) (infos : List DeviceInfo) (job : Job) (d : RequestContext) (device : ℕ → AbstractDevice) (p : JobState) (listed : List ℕ) (known : List Descriptor) (q : Asked) (r : AbstractRequest) (rest : List AbstractRequest) (said : RequestAnswer) (new : RequestContext) → IsSession i make users infos job d device p → IsSessionBegun d → p.todo ≡ r ∷ rest →
    SetsAsHeld i (make p.session.job.wants) known (device p.session.job.wants) (r ∷ rest) → IsRequest (target_of job) 0 known q r → Answers users d q said new → IsRaw i make listed device p d q r said new
raw i make users infos job d device p listed known q r rest said new h begun todo as_held is g = by_greeted i make users infos job d device p listed known q r rest said new d.session.greeted refl h begun todo as_held is g
