-- CONTROL_OPTION: SET.
use Rattle.std.proofs.Common.{◌≡◌, ◌∙◌, ℕ, Bool, true, false, [], Option, Some, None, refl, sym, ap, subst, eqb, slice_get}
use Rattle.std.specs.Prelude.{Result, Ok, Err, if◌then◌else◌}
use Rattle.sane_fixed.specs.declared.status.Status.TheVariants.{DeviceBusy, Inval}
use Rattle.sane_fixed.specs.declared.info.Info.{Info}
use Rattle.sane_fixed.specs.declared.kind.Kind.{Kind}
use Rattle.sane_fixed.specs.declared.status.Status.{Status as Code}
use Rattle.sane_fixed.specs.declared.status.Status.TheVariants as code
use Rattle.option_desc.specs.declared.descriptor.Descriptor.{Descriptor}
use Rattle.option_desc.specs.declared.value.Value.{Value}
use Rattle.device_api.specs.Options.{descriptors_of as table_options}
use Rattle.device_api.specs.State.{DeviceState, after_set, is_at_rest, set_answer}
use Rattle.device_api.specs.Values.{option_set}
use Rattle.device_api.proofs.SameLaws.{set_same}
use Rattle.dispatch.specs.declared.table.place.Lease.{Lease}
use Rattle.wire_message.specs.declared.message.ControlAction.TheVariants.{SetValue}
use Rattle.wire_message.specs.declared.message.Request.TheVariants as requests
use Rattle.wire_message.specs.declared.message.Reply.{Reply as Wire}
use Rattle.wire_message.specs.declared.message.Reply.TheVariants as replies
use Rattle.wire_message.specs.declared.message.WireValue.{WireValue}
use Rattle.saned_requests.specs.declared.request_answer.RequestAnswer.TheVariants.{One}
use Rattle.saned_requests.specs.Holding.{held_by, on_word, with_device}
use Rattle.saned_requests.specs.RequestAnswers.{RequestContext, ContextOutcome, asked_at, control, did_set, options_of_lease, refused_control, set_asked, with_held}
use Rattle.saned_requests.specs.OptionValues.{sent_as, size_of}
use Rattle.saned_requests.proofs.LeaseWords.{on_word-same}
use Rattle.system_model.specs.AbstractMessages.{Gave, Refused, Set}
use Rattle.system_model.specs.Devices.{Make, AbstractAcceptedSet, abstract_info, accept_value}
use Rattle.system_model.specs.AbstractDevices.{AbstractDevice, is_resting}
use Rattle.system_model.specs.Daemon.{Environment, TransferState, put_reply, reply_effect, serve, set_reply}
use Rattle.system_model.specs.AbstractSessions.{AbstractSession, serve_word, word_call}
use Rattle.daemon_refines.specs.ContextRefinement.{ContextRefines}
use Rattle.daemon_refines.specs.Agreeing.{AgreesOn, manner}
use Rattle.daemon_refines.specs.DeviceWords.{AsksFor, AsksNone, AsksOf, SetAgrees, SetRefuses}
use Rattle.daemon_refines.proofs.FramesAreRead.{frame_but}
use Rattle.daemon_refines.proofs.Changes.{Held}
use Rattle.daemon_refines.proofs.WordsAndPlaces.{on_length, on_other, on_same}
use Rattle.daemon_refines.proofs.Moved.{moved, place_in}
use Rattle.daemon_refines.proofs.Scanning.{made_set, put_is, rests, set_is, set_refusal}
use Rattle.daemon_refines.proofs.WordRequests.{answered, control_unknown, controlled, rewritten, same_carriage, tells}

sets : (b : Bool) (i : ℕ) (k : Make) (dev : AbstractDevice) (c : TransferState) (x : Environment) (n : ℕ) (v : Value) → serve_word b i k dev c x (Set n v) ≡ serve i k dev c x (Set n v)
sets true i k dev c x n v = refl
sets false i k dev c x n v = refl

-- what the device answers, and the request context behind it
abbrev given_by : RequestContext → ℕ → Lease DeviceState → Wire × DeviceState → ContextOutcome
given_by d w l answer = (One answer.0, with_held d (on_word (λ _. with_device l answer.1) d.session.held w))

-- the value is put in, or refused
put_by : (i : ℕ) (make : ℕ → Make) (d : RequestContext) (table : ℕ → AbstractDevice) (s : AbstractSession) (x : Environment) (w n : ℕ) (kind : Kind) (value : WireValue) (v : Value) (l : Lease DeviceState) (r : Result (Value × Info) Code) → ContextRefines i make d table s → d.session.awaited ≡ None → held_by d.session.held w ≡ Some l →
    is_at_rest l.device.phase ≡ true → option_set l.device.setup n v ≡ r → set_answer l.device n v ≡ r →
    AgreesOn i make d w (requests.ControlOption w n SetValue kind value) (word_call i make table s x (Set n v) w (Some l.place)) (given_by d w l (did_set d.session.strings l.device n kind value r))
put_by i make d table s x w n kind value v l (Err y) old none e still_there is answers =
    let shown = old.devices.leases w l e in
    let k = make l.place in
    let dev = table l.place in
    let at_rest : is_resting dev.phase ≡ true = ap (λ (t : AbstractDevice). is_resting t.phase) shown.device ∙ rests l.device shown.made.in_scan ∙ still_there in
    let put_none : accept_value k dev.options n v ≡ None = ap (λ (t : AbstractDevice). accept_value k t.options n v) shown.device ∙ put_is k l.device.setup n v (Err y) is in
    tells i make d _ table s x (Set n v) w l (Refused Inval) _ _ old none e (rewritten d w l e)
    (sets (eqb w s.framed) i k dev s.transfer x n v ∙ ap (λ (b : Bool). set_reply k dev s.transfer n v b) at_rest ∙ ap (λ (p : Option AbstractAcceptedSet). put_reply dev s.transfer p) put_none) refl
    (code.Inval, refl, ap (λ (y : Code). refused_control y kind value) (set_refusal l.device.setup n v y is))
put_by i make d table s x w n kind value v l (Ok given) old none e still_there is answers =
    let shown = old.devices.leases w l e in
    let k = make l.place in
    let dev = table l.place in
    let s2 = after_set l.device n given.0 in
    let at_rest : is_resting dev.phase ≡ true = ap (λ (t : AbstractDevice). is_resting t.phase) shown.device ∙ rests l.device shown.made.in_scan ∙ still_there in
    let put_some : accept_value k dev.options n v ≡ Some (record { given = given.0; info = abstract_info given.1; options = s2.setup }) = ap (λ (t : AbstractDevice). accept_value k t.options n v) shown.device ∙ put_is k l.device.setup n v (Ok given) is in
    let dev2 : AbstractDevice = record dev { options = s2.setup } in
    let new : RequestContext = with_held d (on_word (λ _. with_device l s2) d.session.held w) in
    answered i make (manner d w) _ table s x (Set n v) w l.place (Gave given.0 (abstract_info given.1)) _ new (reply_effect (Gave given.0 (abstract_info given.1)) dev2 s.transfer)
    (sets (eqb w s.framed) i k dev s.transfer x n v ∙ ap (λ (b : Bool). set_reply k dev s.transfer n v b) at_rest ∙ ap (λ (p : Option AbstractAcceptedSet). put_reply dev s.transfer p) put_some) refl refl refl
    (given.1, refl, ap (λ (h : Option (Lease DeviceState)). replies.ControlOption code.Good given.1 kind (sent_as d.session.strings (size_of (slice_get (options_of_lease h) n)) given.0) []) (sym e))
    (moved i make d table s w l old e new dev2 _
    (record {
      lease = record l { device = s2 };
      registry = refl;
      four = on_length (λ _. with_device l s2) d.session.held w;
      others = λ u m. on_other (λ _. with_device l s2) d.session.held w u m;
      is = on_same (λ _. with_device l s2) d.session.held w l e;
      place = refl;
      info = (set_same l.device n given.0).info;
      device = ap (λ (t : AbstractDevice). record t { options = s2.setup }) shown.device ∙ set_is (Some i) l.device n given.0 still_there;
      made = made_set k l.device n v given shown.made is answers;
    })
    (record { awaited = none; words = λ u. refl; transfer = same_carriage d.session.transfer s.transfer w s.framed old.transfer; frame = frame_but d.session.transfer d.session.held (on_word (λ _. with_device l s2) d.session.held w) w l e still_there (λ u m. on_other (λ _. with_device l s2) d.session.held w u m) old.frame; sent = refl }))

set_by : (i : ℕ) (make : ℕ → Make) (d : RequestContext) (table : ℕ → AbstractDevice) (s : AbstractSession) (x : Environment) (w n : ℕ) (kind : Kind) (value : WireValue) (v : Value) (l : Lease DeviceState) (b : Bool) → ContextRefines i make d table s → d.session.awaited ≡ None → held_by d.session.held w ≡ Some l →
    is_at_rest l.device.phase ≡ b →
    AgreesOn i make d w (requests.ControlOption w n SetValue kind value) (word_call i make table s x (Set n v) w (Some l.place)) (given_by d w l (did_set d.session.strings l.device n kind value (if b then option_set l.device.setup n v else Err code.DeviceBusy)))
set_by i make d table s x w n kind value v l true old none e is =
    put_by i make d table s x w n kind value v l (option_set l.device.setup n v) old none e is refl (ap (λ (b : Bool). if b then option_set l.device.setup n v else Err code.DeviceBusy) is)
set_by i make d table s x w n kind value v l false old none e is =
    let shown = old.devices.leases w l e in
    let k = make l.place in
    let dev = table l.place in
    let at_work : is_resting dev.phase ≡ false = ap (λ (t : AbstractDevice). is_resting t.phase) shown.device ∙ rests l.device shown.made.in_scan ∙ is in
    tells i make d _ table s x (Set n v) w l (Refused DeviceBusy) _ _ old none e (rewritten d w l e)
    (sets (eqb w s.framed) i k dev s.transfer x n v ∙ ap (λ (b : Bool). set_reply k dev s.transfer n v b) at_work) refl (code.DeviceBusy, refl, refl)

-- what the daemon hands to the device is what was asked for
handed : (desc : Option Descriptor) (kind : Kind) (value : WireValue) (v : Value) → AsksOf desc kind value v → asked_at desc kind value ≡ Some v
handed None kind value v h = ap (λ (y : Value). Some y) (sym h)
handed (Some desc) kind value v h = h

set_answered : (i : ℕ) (make : ℕ → Make) (d : RequestContext) (table : ℕ → AbstractDevice) (s : AbstractSession) (x : Environment) (w n : ℕ) (kind : Kind) (value : WireValue) (v : Value) (h : Option (Lease DeviceState)) → ContextRefines i make d table s → d.session.awaited ≡ None → AsksFor h n kind value v → held_by d.session.held w ≡ h →
    AgreesOn i make d w (requests.ControlOption w n SetValue kind value) (word_call i make table s x (Set n v) w (place_in h)) (controlled d w n SetValue kind value h)
set_answered i make d table s x w n kind value v None old none asks e = control_unknown i make d table s w n SetValue kind value (Set n v) old e refl
set_answered i make d table s x w n kind value v (Some l) old none asks e =
    subst (λ (o : Option Value). AgreesOn i make d w (requests.ControlOption w n SetValue kind value) (word_call i make table s x (Set n v) w (Some l.place)) (given_by d w l (set_asked d.session.strings l.device n kind value o)))
    (sym (handed (slice_get (table_options l.device.setup) n) kind value v asks))
    (set_by i make d table s x w n kind value v l (is_at_rest l.device.phase) old none e refl)

pub set_agrees : SetAgrees
set_agrees i make d table s x w place n kind value v shows none asks =
    subst (λ (p : Option ℕ). AgreesOn i make d w (requests.ControlOption w n SetValue kind value) (word_call i make table s (x place) (Set n v) w p) (control d w n SetValue kind value)) (sym (shows.words w))
    (set_answered i make d table s (x place) w n kind value v (held_by d.session.held w) shows none asks refl)

-- a value of another type
refused_at : (d : RequestContext) (w n : ℕ) (kind : Kind) (value : WireValue) (h : Option (Lease DeviceState)) → AsksNone h n kind value → held_by d.session.held w ≡ h → controlled d w n SetValue kind value h ≡ (One (refused_control code.Inval kind value), d)
refused_at d w n kind value None asks e = absurd asks
refused_at d w n kind value (Some l) asks e =
    let none : asked_at (slice_get (table_options l.device.setup) n) kind value ≡ None = ap (λ (o : Option Descriptor). asked_at o kind value) asks.1 ∙ asks.2 in
    ap (λ (o : Option Value). given_by d w l (set_asked d.session.strings l.device n kind value o)) none ∙ ap (λ (held : Held). (One (refused_control code.Inval kind value), with_held d held)) (on_word-same d.session.held w (Some l) e)

pub set_refuses : SetRefuses
set_refuses d w n kind value asks = refused_at d w n kind value (held_by d.session.held w) asks refl
