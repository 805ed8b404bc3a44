-- Requests to a device word that leave its device.
use Rattle.std.proofs.Common.{◌≡◌, ◌≢◌, ◌∙◌, ℕ, [], ◌∷◌, Bool, true, false, Option, Some, None, refl, sym, ap, subst, eqb, length, slice_get}
use Rattle.std.specs.Prelude.{Result, Ok, Err}
use Rattle.sane_fixed.specs.declared.status.Status.TheVariants.{Inval}
use Rattle.sane_fixed.specs.declared.kind.Kind.{Kind}
use Rattle.sane_fixed.specs.declared.params.Params.{Params}
use Rattle.sane_fixed.specs.declared.status.Status.{Status as Code}
use Rattle.sane_fixed.specs.declared.status.Status.TheVariants as code
use Rattle.option_desc.specs.declared.value.Value.{Value}
use Rattle.device_api.specs.Options.{descriptors_of as table_options}
use Rattle.device_api.specs.State.{DeviceState}
use Rattle.device_api.specs.Values.{option_got}
use Rattle.dispatch.specs.declared.table.place.Lease.{Lease}
use Rattle.wire_message.specs.declared.message.ControlAction.{ControlAction}
use Rattle.wire_message.specs.declared.message.ControlAction.TheVariants.{GetValue}
use Rattle.wire_message.specs.declared.message.Request.{Request as Asked}
use Rattle.wire_message.specs.declared.message.Request.TheVariants as requests
use Rattle.wire_message.specs.declared.message.Reply.{Reply as Wire}
use Rattle.wire_message.specs.declared.message.Reply.TheVariants as replies
use Rattle.wire_message.specs.declared.message.WireValue.{WireValue}
use Rattle.saned_requests.specs.declared.session.DataPhase.{DataPhase as WordCarriage}
use Rattle.saned_requests.specs.declared.session.DataPhase.TheVariants as word
use Rattle.saned_requests.specs.declared.request_answer.RequestAnswer.TheVariants.{One}
use Rattle.saned_requests.specs.Holding.{held_by, on_word}
use Rattle.saned_requests.specs.RequestAnswers.{RequestContext, ContextOutcome, control, control_lease, got_reply, kind_of, options_of_lease, options_reply, params_reply, params_reply_of, refused_control, with_held}
use Rattle.saned_requests.specs.OptionValues.{sent_as, size_of}
use Rattle.system_model.specs.AbstractMessages.{Described, Describe, Get, Got, Parameters, Refused, AbstractReply, AbstractRequest, Shaped}
use Rattle.system_model.specs.Devices.{Make, descriptors_in_force, is_answered_value, has_readable_value as told_there, readable_value, value_or_false}
use Rattle.system_model.specs.AbstractDevices.{AbstractDevice}
use Rattle.system_model.specs.Daemon.{Environment, TransferState, Quiet, Waiting, Streaming, Ending, AnswerEffect, get_reply, abstract_params, reply_effect, serve}
use Rattle.system_model.specs.SystemStates.{with_entry}
use Rattle.system_model.specs.AbstractSessions.{FullEffect, AbstractSession, closes, framed_by, reply_alone, serve_word, unknown_word_reply, word_call, words_left}
use Rattle.daemon_refines.specs.ContextRefinement.{TransferRefines, ContextRefines, FrameIsRead}
use Rattle.daemon_refines.specs.Spelling.{Manner, Spells}
use Rattle.daemon_refines.specs.Agreeing.{Agrees, AgreesOn, manner}
use Rattle.daemon_refines.specs.DeviceWords.{GetAgrees, OptionsAgree, ParametersAgree}
use Rattle.daemon_refines.proofs.FramesAreRead.{frame_still, all_same}
use Rattle.daemon_refines.proofs.Changes.{Held}
use Rattle.daemon_refines.proofs.WordsAndPlaces.{on_length, on_nothing, on_other, on_same}
use Rattle.daemon_refines.proofs.Moved.{moved, place_in}
use Rattle.daemon_refines.proofs.Scanning.{got_refused, params_are}

-- one reply, and the session goes on
pub says_one : (i : ℕ) (make : ℕ → Make) (m : Manner) (q : Asked) (comes : FullEffect) (a : AbstractReply) (r : Wire) (new : RequestContext) → comes.told ≡ a ∷ [] → comes.goes_on ≡ true → Spells m q a r → ContextRefines i make new comes.table comes.session → Agrees i make m q comes (One r) new
says_one i make m q comes a r new told on spells shows = record { says = (a, told, spells); same_end = on; stands = λ e. shows; ends = λ e. cc }

-- a word that stands for nothing
pub says_unknown : (i : ℕ) (make : ℕ → Make) (m : Manner) (new : RequestContext) (table : ℕ → AbstractDevice) (s : AbstractSession) (q : Asked) (request : AbstractRequest) (r : Wire) → ContextRefines i make new table s → Spells m q (unknown_word_reply request) r → Agrees i make m q (reply_alone (unknown_word_reply request) table s) (One r) new
says_unknown i make m new table s q request r shows spells = says_one i make m q (reply_alone (unknown_word_reply request) table s) (unknown_word_reply request) r new refl refl spells shows

-- a request context with the same words
pub same_held : (i : ℕ) (make : ℕ → Make) (d : RequestContext) (table : ℕ → AbstractDevice) (s : AbstractSession) (held : Held) → ContextRefines i make d table s → held ≡ d.session.held → ContextRefines i make (with_held d held) table s
same_held i make d table s held old e =
    subst (λ (h : Held). ContextRefines i make (with_held d h) table s) (sym e) (record { words = old.words; four = old.four; transfer = old.transfer; frame = old.frame; awaited = old.awaited; devices = old.devices })

-- a frame that is not touched
pub same_carriage : (wc : WordCarriage) (c : TransferState) (w f : ℕ) → TransferRefines wc c f → TransferRefines wc c (framed_by c c w f)
same_carriage wc Waiting w f h = h
same_carriage wc Streaming w f h = h
same_carriage wc Ending w f h = h
same_carriage word.Quiet Quiet w f h = h
same_carriage (word.Waiting v) Quiet w f h = absurd (let clash : Quiet ≡ Waiting = h.0 in cc)
same_carriage (word.Streaming v) Quiet w f h = absurd (let clash : Quiet ≡ Streaming = h.0 in cc)
same_carriage word.Ending Quiet w f h = absurd (let clash : Quiet ≡ Ending = h in cc)

-- a request context on which word w stands for what it stood for
pub record Rewrites (d : RequestContext) (w : ℕ) (l : Lease DeviceState) (new : RequestContext) : Type 0 where
  pub registry : new.registry ≡ d.registry
  pub four : length new.session.held ≡ length d.session.held
  pub others : (v : ℕ) → v ≢ w → held_by new.session.held v ≡ held_by d.session.held v
  pub is : held_by new.session.held w ≡ Some l
  pub awaited : new.session.awaited ≡ d.session.awaited
  pub transfer : new.session.transfer ≡ d.session.transfer

pub untouched : (d : RequestContext) (w : ℕ) (l : Lease DeviceState) → held_by d.session.held w ≡ Some l → Rewrites d w l d
untouched d w l e = record { registry = refl; four = refl; others = λ v n. refl; is = e; awaited = refl; transfer = refl }

pub rewritten : (d : RequestContext) (w : ℕ) (l : Lease DeviceState) → held_by d.session.held w ≡ Some l → Rewrites d w l (with_held d (on_word (λ _. Some l) d.session.held w))
rewritten d w l e =
    record {
      registry = refl;
      four = on_length (λ _. Some l) d.session.held w;
      others = λ v n. on_other (λ _. Some l) d.session.held w v n;
      is = on_same (λ _. Some l) d.session.held w l e;
      awaited = refl;
      transfer = refl;
    }

-- a request that changes nothing
pub still : (i : ℕ) (make : ℕ → Make) (d : RequestContext) (table : ℕ → AbstractDevice) (s : AbstractSession) (w : ℕ) (l : Lease DeviceState) (new : RequestContext) → ContextRefines i make d table s → d.session.awaited ≡ None → held_by d.session.held w ≡ Some l → Rewrites d w l new →
    ContextRefines i make new (with_entry table l.place (table l.place)) (record { words = s.words; transfer = s.transfer; framed = framed_by s.transfer s.transfer w s.framed; awaited = None })
still i make d table s w l new old none stands r =
    let shown = old.devices.leases w l stands in
    moved i make d table s w l old stands new (table l.place) _
    (record { lease = l; registry = r.registry; four = r.four; others = r.others; is = r.is; place = refl; info = refl; device = shown.device; made = shown.made })
    (record {
      awaited = r.awaited ∙ none;
      words = λ v. refl;
      transfer = subst (λ (c : WordCarriage). TransferRefines c s.transfer (framed_by s.transfer s.transfer w s.framed)) (sym r.transfer) (same_carriage d.session.transfer s.transfer w s.framed old.transfer);
      frame = subst (λ (c : WordCarriage). FrameIsRead c new.session.held) (sym r.transfer) (frame_still d.session.transfer d.session.held new.session.held (all_same d.session.held new.session.held w l stands r.is r.others) old.frame);
      sent = refl;
    })

-- what is served at a word
pub answered : (i : ℕ) (make : ℕ → Make) (m : Manner) (q : Asked) (table : ℕ → AbstractDevice) (s : AbstractSession) (x : Environment) (request : AbstractRequest) (w p : ℕ) (a : AbstractReply) (r : Wire) (new : RequestContext) (v : AnswerEffect) →
    serve_word (eqb w s.framed) i (make p) (table p) s.transfer x request ≡ v → closes request ≡ false → v.told ≡ a ∷ [] → v.goes_on ≡ true → Spells m q a r →
    ContextRefines i make new (with_entry table p v.device) (record { words = s.words; transfer = v.transfer; framed = framed_by s.transfer v.transfer w s.framed; awaited = None }) →
    Agrees i make m q (word_call i make table s x request w (Some p)) (One r) new
answered i make m q table s x request w p a r new v e opn told on spells shows =
    says_one i make m q (word_call i make table s x request w (Some p)) a r new (ap (λ (t : AnswerEffect). t.told) e ∙ told) (ap (λ (t : AnswerEffect). t.goes_on) e ∙ on) spells
    (subst (λ (b : Bool). ContextRefines i make new (with_entry table p (serve_word (eqb w s.framed) i (make p) (table p) s.transfer x request).device) (record { words = words_left b s.words w; transfer = (serve_word (eqb w s.framed) i (make p) (table p) s.transfer x request).transfer; framed = framed_by s.transfer (serve_word (eqb w s.framed) i (make p) (table p) s.transfer x request).transfer w s.framed; awaited = None })) (sym opn)
    (subst (λ (t : AnswerEffect). ContextRefines i make new (with_entry table p t.device) (record { words = s.words; transfer = t.transfer; framed = framed_by s.transfer t.transfer w s.framed; awaited = None })) (sym e) shows))

-- what is said of a device that stays as it is
pub tells : (i : ℕ) (make : ℕ → Make) (d : RequestContext) (q : Asked) (table : ℕ → AbstractDevice) (s : AbstractSession) (x : Environment) (request : AbstractRequest) (w : ℕ) (l : Lease DeviceState) (a : AbstractReply) (r : Wire) (new : RequestContext) → ContextRefines i make d table s → d.session.awaited ≡ None → held_by d.session.held w ≡ Some l → Rewrites d w l new →
    serve_word (eqb w s.framed) i (make l.place) (table l.place) s.transfer x request ≡ reply_effect a (table l.place) s.transfer → closes request ≡ false → Spells (manner d w) q a r →
    Agrees i make (manner d w) q (word_call i make table s x request w (Some l.place)) (One r) new
tells i make d q table s x request w l a r new old none stands same e opn spells =
    answered i make (manner d w) q table s x request w l.place a r new (reply_effect a (table l.place) s.transfer) e opn refl refl spells (still i make d table s w l new old none stands same)

-- these requests are served alike, whatever word the frame is of
describes : (b : Bool) (i : ℕ) (k : Make) (dev : AbstractDevice) (c : TransferState) (x : Environment) → serve_word b i k dev c x Describe ≡ serve i k dev c x Describe
describes true i k dev c x = refl
describes false i k dev c x = refl

gets : (b : Bool) (i : ℕ) (k : Make) (dev : AbstractDevice) (c : TransferState) (x : Environment) (n : ℕ) → serve_word b i k dev c x (Get n) ≡ serve i k dev c x (Get n)
gets true i k dev c x n = refl
gets false i k dev c x n = refl

shapes : (b : Bool) (i : ℕ) (k : Make) (dev : AbstractDevice) (c : TransferState) (x : Environment) → serve_word b i k dev c x Parameters ≡ serve i k dev c x Parameters
shapes true i k dev c x = refl
shapes false i k dev c x = refl

-- ---- GET_OPTION_DESCRIPTORS

options_at : (i : ℕ) (make : ℕ → Make) (d : RequestContext) (table : ℕ → AbstractDevice) (s : AbstractSession) (x : Environment) (w : ℕ) (h : Option (Lease DeviceState)) → ContextRefines i make d table s → d.session.awaited ≡ None → held_by d.session.held w ≡ h →
    Agrees i make (manner d w) (requests.GetOptionDescriptors w) (word_call i make table s x Describe w (place_in h)) (One (replies.GetOptionDescriptors (options_of_lease h))) d
unfolding descriptors_in_force
options_at i make d table s x w None old none e = says_unknown i make (manner d w) d table s _ Describe _ old refl
options_at i make d table s x w (Some l) old none e =
    let shown = old.devices.leases w l e in
    tells i make d _ table s x Describe w l (Described (descriptors_in_force (make l.place) (table l.place).options)) _ d old none e (untouched d w l e) (describes (eqb w s.framed) i (make l.place) (table l.place) s.transfer x) refl
    (ap (λ (dev : AbstractDevice). replies.GetOptionDescriptors (table_options dev.options)) (sym shown.device))

pub options_agree : OptionsAgree
options_agree i make d table s x w place shows none =
    subst (λ (p : Option ℕ). AgreesOn i make d w (requests.GetOptionDescriptors w) (word_call i make table s (x place) Describe w p) (options_reply d w)) (sym (shows.words w))
    (options_at i make d table s (x place) w (held_by d.session.held w) shows none refl)

-- ---- GET_PARAMETERS

params_answer : (i : ℕ) (make : ℕ → Make) (d : RequestContext) (table : ℕ → AbstractDevice) (s : AbstractSession) (x : Environment) (w : ℕ) (h : Option (Lease DeviceState)) → ContextRefines i make d table s → d.session.awaited ≡ None → held_by d.session.held w ≡ h →
    Agrees i make (manner d w) (requests.GetParameters w) (word_call i make table s x Parameters w (place_in h)) (One (params_reply_of h)) d
params_answer i make d table s x w None old none e = says_unknown i make (manner d w) d table s _ Parameters _ old (code.Inval, refl, refl)
params_answer i make d table s x w (Some l) old none e =
    let shown = old.devices.leases w l e in
    let k = make l.place in
    tells i make d _ table s x Parameters w l (Shaped (abstract_params k (table l.place) (table l.place).phase)) _ d old none e (untouched d w l e) (shapes (eqb w s.framed) i k (table l.place) s.transfer x) refl
    (ap (λ (p : Params). replies.GetParameters code.Good p) (sym (ap (λ (dev : AbstractDevice). abstract_params k dev dev.phase) shown.device ∙ params_are k (Some i) l.device shown.made.in_scan)))

pub parameters_agree : ParametersAgree
parameters_agree i make d table s x w place shows none =
    subst (λ (p : Option ℕ). AgreesOn i make d w (requests.GetParameters w) (word_call i make table s (x place) Parameters w p) (params_reply d w)) (sym (shows.words w))
    (params_answer i make d table s (x place) w (held_by d.session.held w) shows none refl)

-- ---- CONTROL_OPTION: GET

-- what a control gives and leaves, by what the word stands for
abbrev pub controlled : RequestContext → ℕ → ℕ → ControlAction → Kind → WireValue → Option (Lease DeviceState) → ContextOutcome
controlled d w n action kind value h = (One (control_lease d.session.strings h n action kind value).0, with_held d (on_word (λ _. (control_lease d.session.strings h n action kind value).1) d.session.held w))

-- of a word that stands for nothing
pub control_unknown : (i : ℕ) (make : ℕ → Make) (d : RequestContext) (table : ℕ → AbstractDevice) (s : AbstractSession) (w n : ℕ) (action : ControlAction) (kind : Kind) (value : WireValue) (request : AbstractRequest) → ContextRefines i make d table s → held_by d.session.held w ≡ None → unknown_word_reply request ≡ Refused Inval →
    AgreesOn i make d w (requests.ControlOption w n action kind value) (reply_alone (unknown_word_reply request) table s) (controlled d w n action kind value None)
control_unknown i make d table s w n action kind value request old e refused =
    says_unknown i make (manner d w) _ table s (requests.ControlOption w n action kind value) request _ (same_held i make d table s (on_word (λ _. None) d.session.held w) old (on_nothing (λ _. None) d.session.held w refl e))
    (subst (λ (a : AbstractReply). Spells (manner d w) (requests.ControlOption w n action kind value) a (refused_control code.Inval kind value)) (sym refused) (code.Inval, refl, refl))

abbrev got_by : AbstractDevice → TransferState → Result Value Code → AnswerEffect
got_by dev c (Ok v) = reply_effect (Got v) dev c
got_by dev c (Err _) = reply_effect (Refused Inval) dev c

got_is : (k : Make) (dev : AbstractDevice) (c : TransferState) (n : ℕ) (r : Result Value Code) → option_got dev.options n ≡ r → get_reply k dev c n (told_there k dev.options n) ≡ got_by dev c r
unfolding told_there readable_value
got_is k dev c n (Ok v) e = ap (λ (b : Bool). get_reply k dev c n b) (ap is_answered_value e) ∙ ap (λ (y : Value). reply_effect (Got y) dev c) (ap value_or_false e)
got_is k dev c n (Err y) e = ap (λ (b : Bool). get_reply k dev c n b) (ap is_answered_value e)

get_by : (i : ℕ) (make : ℕ → Make) (d : RequestContext) (table : ℕ → AbstractDevice) (s : AbstractSession) (x : Environment) (w n : ℕ) (kind : Kind) (value : WireValue) (l : Lease DeviceState) (r : Result Value Code) → ContextRefines i make d table s → d.session.awaited ≡ None → held_by d.session.held w ≡ Some l → option_got l.device.setup n ≡ r →
    Agrees i make (manner d w) (requests.ControlOption w n GetValue kind value) (word_call i make table s x (Get n) w (Some l.place)) (One (got_reply d.session.strings l.device n kind value r)) (with_held d (on_word (λ _. Some l) d.session.held w))
get_by i make d table s x w n kind value l (Ok v) old none e is =
    let shown = old.devices.leases w l e in
    tells i make d _ table s x (Get n) w l (Got v) _ _ old none e (rewritten d w l e) (gets (eqb w s.framed) i (make l.place) (table l.place) s.transfer x n ∙ got_is (make l.place) (table l.place) s.transfer n (Ok v) (ap (λ (dev : AbstractDevice). option_got dev.options n) shown.device ∙ is)) refl
    (ap (λ (h : Option (Lease DeviceState)). replies.ControlOption code.Good (record { 0 = 0 }) (kind_of (slice_get (options_of_lease h) n) kind) (sent_as d.session.strings (size_of (slice_get (options_of_lease h) n)) v) []) (sym e))
get_by i make d table s x w n kind value l (Err y) old none e is =
    let shown = old.devices.leases w l e in
    tells i make d _ table s x (Get n) w l (Refused Inval) _ _ old none e (rewritten d w l e) (gets (eqb w s.framed) i (make l.place) (table l.place) s.transfer x n ∙ got_is (make l.place) (table l.place) s.transfer n (Err y) (ap (λ (dev : AbstractDevice). option_got dev.options n) shown.device ∙ is)) refl
    (code.Inval, refl, ap (λ (y : Code). refused_control y kind value) (got_refused l.device.setup n y is))

get_at : (i : ℕ) (make : ℕ → Make) (d : RequestContext) (table : ℕ → AbstractDevice) (s : AbstractSession) (x : Environment) (w n : ℕ) (kind : Kind) (value : WireValue) (h : Option (Lease DeviceState)) → ContextRefines i make d table s → d.session.awaited ≡ None → held_by d.session.held w ≡ h →
    AgreesOn i make d w (requests.ControlOption w n GetValue kind value) (word_call i make table s x (Get n) w (place_in h)) (controlled d w n GetValue kind value h)
get_at i make d table s x w n kind value None old none e = control_unknown i make d table s w n GetValue kind value (Get n) old e refl
get_at i make d table s x w n kind value (Some l) old none e = get_by i make d table s x w n kind value l (option_got l.device.setup n) old none e refl

pub get_agrees : GetAgrees
get_agrees n kind value i make d table s x w place shows none =
    subst (λ (p : Option ℕ). AgreesOn i make d w (requests.ControlOption w n GetValue kind value) (word_call i make table s (x place) (Get n) w p) (control d w n GetValue kind value)) (sym (shows.words w))
    (get_at i make d table s (x place) w n kind value (held_by d.session.held w) shows none refl)
