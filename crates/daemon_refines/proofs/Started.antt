-- START of a device word.
use Rattle.std.proofs.Common.{inl, inr, ◌⊎◌, ◌≡◌, ◌≢◌, ◌∙◌, ℕ, Bool, true, false, Option, Some, None, refl, sym, ap, subst, eqb}
use Rattle.std.specs.Prelude.{Result, Ok, Err}
use Rattle.sane_fixed.specs.declared.status.Status.TheVariants.{DeviceBusy, Inval}
use Rattle.sane_fixed.specs.declared.byte_order.ByteOrder.{ByteOrder}
use Rattle.sane_fixed.specs.declared.byte_order.ByteOrder.TheVariants.{Little}
use Rattle.sane_fixed.specs.declared.no_mem.NoMem.{NoMem as Starved}
use Rattle.sane_fixed.specs.declared.status.Status.{Status as Code}
use Rattle.sane_fixed.specs.declared.status.Status.TheVariants as code
use Rattle.device_api.specs.State.{DeviceState, Starts}
use Rattle.device_api.proofs.SameLaws.{start_same}
use Rattle.dispatch.specs.declared.table.place.Lease.{Lease}
use Rattle.wire_message.specs.declared.message.Request.TheVariants as requests
use Rattle.wire_message.specs.declared.message.Reply.{Reply as Wire}
use Rattle.saned_requests.specs.declared.session.DataPhase.{DataPhase as WordCarriage}
use Rattle.saned_requests.specs.declared.session.DataPhase.TheVariants as word
use Rattle.saned_requests.specs.declared.request_answer.RequestAnswer.{RequestAnswer}
use Rattle.saned_requests.specs.declared.request_answer.RequestAnswer.TheVariants.{One}
use Rattle.saned_requests.specs.Holding.{held_by, on_word, with_device}
use Rattle.saned_requests.specs.RequestAnswers.{RequestContext, StartsLease, start_reply as reply_of_start, start_answer, with_data_phase, with_held}
use Rattle.system_model.specs.AbstractMessages.{Refused, Start}
use Rattle.system_model.specs.Devices.{Make}
use Rattle.system_model.specs.AbstractDevices.{AbstractDevice}
use Rattle.system_model.specs.Daemon.{Environment, TransferState, Quiet, Waiting, Streaming, Ending, FailureCounts, reply_effect, start_or_fail, start_effect}
use Rattle.system_model.specs.AbstractSessions.{AbstractSession, framed_by, serve_word, word_call}
use Rattle.daemon_refines.specs.ContextRefinement.{TransferRefines, ContextRefines, abstract_device, FrameIsRead}
use Rattle.daemon_refines.specs.Spelling.{Spells, order_by}
use Rattle.daemon_refines.specs.Agreeing.{Agrees, manner}
use Rattle.daemon_refines.specs.DeviceWords.{MayFailAt, StartAgrees}
use Rattle.daemon_refines.proofs.FramesAreRead.{frame_still, all_same, frame_begun}
use Rattle.daemon_refines.specs.Failures.{IsCounted, IsFailureIn}
use Rattle.daemon_refines.proofs.Changes.{Held}
use Rattle.daemon_refines.proofs.WordsAndPlaces.{on_length, on_nothing, on_other, on_same}
use Rattle.daemon_refines.proofs.Moved.{moved, place_in}
use Rattle.daemon_refines.proofs.ScannerStarts.{answer_by, carriage_by, made_started, start_served}
use Rattle.daemon_refines.proofs.WordRequests.{answered, same_carriage, says_one}

abbrev pub Told : Type 0
Told = Wire × WordCarriage

told_is : (a b : Told) → ◌≡◌ {A = Result Told Starved} (Ok a) (Ok b) → a ≡ b
told_is a b e = cc

abbrev pub context_with : RequestContext → Option (Lease DeviceState) → ℕ → WordCarriage → RequestContext
context_with d lease w c = with_data_phase (with_held d (on_word (λ _. lease) d.session.held w)) c

refield : (i : ℕ) (make : ℕ → Make) (d : RequestContext) (table : ℕ → AbstractDevice) (s : AbstractSession) (held : Held) (c : WordCarriage) → ContextRefines i make d table s → d.session.held ≡ held → d.session.transfer ≡ c → ContextRefines i make (with_data_phase (with_held d held) c) table s
refield i make d table s held c old e f =
    subst (λ (h : Held). ContextRefines i make (with_data_phase (with_held d h) c) table s) e
    (subst (λ (x : WordCarriage). ContextRefines i make (with_data_phase (with_held d d.session.held) x) table s) f
    (record { words = old.words; four = old.four; transfer = old.transfer; frame = old.frame; awaited = old.awaited; devices = old.devices }))

-- what is to be shown of a start
abbrev pub StartBound : ℕ → (ℕ → Make) → RequestContext → (ℕ → AbstractDevice) → AbstractSession → ℕ → Option ℕ → Wire → RequestContext → Type 0
StartBound i make d table s w p reply new =
    (fault : Option FailureCounts) × MayFailAt make p fault × IsCounted d.session.held new.session.held w fault × ((x : Environment) → x.fault ≡ fault → Agrees i make (manner d w) (requests.Start w) (word_call i make table s x Start w p) (One reply) new)

starts : (b : Bool) (i : ℕ) (k : Make) (dev : AbstractDevice) (c : TransferState) (x : Environment) → serve_word b i k dev c x Start ≡ start_effect k dev x c
starts true i k dev c x = refl
starts false i k dev c x = refl

busy_is : (k : Make) (dev : AbstractDevice) (x : Environment) (c : TransferState) → c ≢ Quiet → start_effect k dev x c ≡ reply_effect (Refused DeviceBusy) dev c
busy_is k dev x Quiet n = absurd (n refl)
busy_is k dev x Waiting n = refl
busy_is k dev x Streaming n = refl
busy_is k dev x Ending n = refl

-- a frame stands
busy_at : (i : ℕ) (make : ℕ → Make) (d : RequestContext) (table : ℕ → AbstractDevice) (s : AbstractSession) (w : ℕ) (l : Lease DeviceState) (wc : WordCarriage) → ContextRefines i make d table s → d.session.awaited ≡ None → held_by d.session.held w ≡ Some l → d.session.transfer ≡ wc → s.transfer ≢ Quiet →
    StartBound i make d table s w (Some l.place) (reply_of_start code.DeviceBusy 0 l.device.setup.order) (context_with d (Some l) w wc)
busy_at i make d table s w l wc old none e is busy =
    let shown = old.devices.leases w l e in (
      None,
      tt,
      tt,
      λ x f.
          answered i make (manner d w) _ table s x Start w l.place (Refused DeviceBusy) _ (context_with d (Some l) w wc) (reply_effect (Refused DeviceBusy) (table l.place) s.transfer)
          (starts (eqb w s.framed) i (make l.place) (table l.place) s.transfer x ∙ busy_is (make l.place) (table l.place) x s.transfer busy) refl refl refl
          (code.DeviceBusy, refl, ap (λ (h : Option (Lease DeviceState)). reply_of_start code.DeviceBusy 0 (order_by h)) (sym e))
          (moved i make d table s w l old e (context_with d (Some l) w wc) (table l.place) _
          (record {
            lease = l;
            registry = refl;
            four = on_length (λ _. Some l) d.session.held w;
            others = λ v n. on_other (λ _. Some l) d.session.held w v n;
            is = on_same (λ _. Some l) d.session.held w l e;
            place = refl;
            info = refl;
            device = shown.device;
            made = shown.made;
          })
          (record {
            awaited = none;
            words = λ v. refl;
            transfer = same_carriage wc s.transfer w s.framed (subst (λ (c : WordCarriage). TransferRefines c s.transfer s.framed) is old.transfer);
            frame = subst (λ (c : WordCarriage). FrameIsRead c (on_word (λ _. Some l) d.session.held w)) is (frame_still d.session.transfer d.session.held (on_word (λ _. Some l) d.session.held w) (all_same d.session.held (on_word (λ _. Some l) d.session.held w) w l e (on_same (λ _. Some l) d.session.held w l e) (λ v n. on_other (λ _. Some l) d.session.held w v n)) old.frame);
            sent = refl;
          })),
    )

-- the device is asked
frame_by : (port w : ℕ) (order : ByteOrder) (answer : Result Unit Code) (old c : TransferState) (f : ℕ) → old ≡ Quiet → c ≡ carriage_by answer → TransferRefines (start_answer word.Quiet port w order answer).1 c (framed_by old c w f)
frame_by port w order (Ok u) old c f e is = (is, ap (λ (o : TransferState). framed_by o c w f) e)
frame_by port w order (Err y) old c f e is = is

spelled_by : (d : RequestContext) (w : ℕ) (l : Lease DeviceState) (answer : Result Unit Code) → held_by d.session.held w ≡ Some l → Spells (manner d w) (requests.Start w) (answer_by l.device.setup answer) (start_answer word.Quiet d.session.port w l.device.setup.order answer).0
spelled_by d w l (Ok u) e = refl
spelled_by d w l (Err y) e = (y, refl, ap (λ (h : Option (Lease DeviceState)). reply_of_start y 0 (order_by h)) (sym e))

-- the failure of the device is that of the word
counted_there : (held now : Held) (w : ℕ) (l : Lease DeviceState) (after : DeviceState) (fault : Option FailureCounts) → held_by held w ≡ Some l → held_by now w ≡ Some (record l { device = after }) → IsFailureIn l.device after fault → IsCounted held now w fault
counted_there held now w l after None stood stands h = tt
counted_there held now w l after (Some f) stood stands h = record { lease = l; stood = stood; after = after; stands = stands; failed = h }

device_at : (i : ℕ) (make : ℕ → Make) (d : RequestContext) (table : ℕ → AbstractDevice) (s : AbstractSession) (w : ℕ) (l : Lease DeviceState) (answer : Result Unit Code) (after : DeviceState) → ContextRefines i make d table s → d.session.awaited ≡ None → held_by d.session.held w ≡ Some l → s.transfer ≡ Quiet →
    Starts l.device answer after → answer ≢ Err code.NoMem →
    StartBound i make d table s w (Some l.place) (start_answer word.Quiet d.session.port w l.device.setup.order answer).0 (context_with d (with_device l after) w (start_answer word.Quiet d.session.port w l.device.setup.order answer).1)
device_at i make d table s w l answer after old none e quiet h n =
    let shown = old.devices.leases w l e in
    let k = make l.place in
    let done = start_served k l.device after (Some i) answer shown.made h n in
    let c2 = (start_answer word.Quiet d.session.port w l.device.setup.order answer).1 in
    let new = context_with d (with_device l after) w c2 in (
      done.fault,
      done.may,
      counted_there d.session.held new.session.held w l after done.fault e (on_same (λ _. with_device l after) d.session.held w l e) done.counted,
      λ x f.
          let v = start_or_fail k (abstract_device (Some i) l.device) Quiet x.again done.fault in
          let serves = done.serves x.again in
          answered i make (manner d w) _ table s x Start w l.place (answer_by l.device.setup answer) _ new v
          (starts (eqb w s.framed) i k (table l.place) s.transfer x ∙ ap (λ (c : TransferState). start_effect k (table l.place) x c) quiet ∙ ap (λ (t : AbstractDevice). start_or_fail k t Quiet x.again x.fault) shown.device ∙ ap (λ (y : Option FailureCounts). start_or_fail k (abstract_device (Some i) l.device) Quiet x.again y) f)
          refl serves.told serves.on (spelled_by d w l answer e)
          (moved i make d table s w l old e new v.device _
          (record {
            lease = record l { device = after };
            registry = refl;
            four = on_length (λ _. with_device l after) d.session.held w;
            others = λ u m. on_other (λ _. with_device l after) d.session.held w u m;
            is = on_same (λ _. with_device l after) d.session.held w l e;
            place = refl;
            info = (start_same l.device after answer h).info;
            device = serves.device;
            made = made_started k l.device after answer shown.made h;
          })
          (record { awaited = none; words = λ u. refl; transfer = frame_by d.session.port w l.device.setup.order answer s.transfer v.transfer s.framed quiet serves.transfer; frame = frame_begun d w l answer after (on_same (λ _. with_device l after) d.session.held w l e) h; sent = refl })),
    )

-- by the word and the frame
pub start_at_word : (i : ℕ) (make : ℕ → Make) (d : RequestContext) (table : ℕ → AbstractDevice) (s : AbstractSession) (w : ℕ) (h : Option (Lease DeviceState)) (wc : WordCarriage) (told : Told) (lease : Option (Lease DeviceState)) →
    ContextRefines i make d table s → d.session.awaited ≡ None → held_by d.session.held w ≡ h → d.session.transfer ≡ wc → TransferRefines wc s.transfer s.framed → StartsLease wc d.session.port w h (Ok told) lease →
    StartBound i make d table s w (place_in h) told.0 (context_with d lease w told.1)
start_at_word i make d table s w None wc told lease old none e is transfer h =
    let r = reply_of_start code.Inval 0 Little in
    let same = told_is told (r, wc) h.0 in (
      None,
      refl,
      tt,
      λ x f.
          subst (λ (t : Told). Agrees i make (manner d w) (requests.Start w) (word_call i make table s x Start w None) (One t.0) (context_with d lease w t.1)) (sym same)
          (subst (λ (n : Option (Lease DeviceState)). Agrees i make (manner d w) (requests.Start w) (word_call i make table s x Start w None) (One r) (context_with d n w wc)) (sym h.1)
          (says_one i make (manner d w) _ (word_call i make table s x Start w None) (Refused Inval) r (context_with d None w wc) refl refl
          (code.Inval, refl, ap (λ (n : Option (Lease DeviceState)). reply_of_start code.Inval 0 (order_by n)) (sym e))
          (refield i make d table s (on_word (λ _. None) d.session.held w) wc old (sym (on_nothing (λ _. None) d.session.held w refl e)) is))),
    )
start_at_word i make d table s w (Some l) word.Quiet told lease old none e is transfer h = by_told h.told_is
  where
    by_told : ((h.answer ≢ Err code.NoMem) × (◌≡◌ {A = Result Told Starved} (Ok told) (Ok (start_answer word.Quiet d.session.port w l.device.setup.order h.answer)))) ⊎ ((h.answer ≡ Err code.NoMem) × (◌≡◌ {A = Result Told Starved} (Ok told) (Err (record {})))) → StartBound i make d table s w (Some l.place) told.0 (context_with d lease w told.1)
    by_told (inl t) =
        subst (λ (y : Told). StartBound i make d table s w (Some l.place) y.0 (context_with d lease w y.1)) (sym (told_is told (start_answer word.Quiet d.session.port w l.device.setup.order h.answer) t.1))
        (subst (λ (n : Option (Lease DeviceState)). StartBound i make d table s w (Some l.place) (start_answer word.Quiet d.session.port w l.device.setup.order h.answer).0 (context_with d n w (start_answer word.Quiet d.session.port w l.device.setup.order h.answer).1)) (sym h.new_is)
        (device_at i make d table s w l h.answer h.after old none e transfer h.starts t.0))
    by_told (inr t) = absurd (let clash : ◌≡◌ {A = Result Told Starved} (Ok told) (Err (record {})) = t.1 in cc)
start_at_word i make d table s w (Some l) (word.Waiting v) told lease old none e is transfer h =
    subst (λ (y : Told). StartBound i make d table s w (Some l.place) y.0 (context_with d lease w y.1)) (sym (told_is told _ h.0))
    (subst (λ (n : Option (Lease DeviceState)). StartBound i make d table s w (Some l.place) (reply_of_start code.DeviceBusy 0 l.device.setup.order) (context_with d n w (word.Waiting v))) (sym h.1)
    (busy_at i make d table s w l (word.Waiting v) old none e is (λ q. let clash : Waiting ≡ Quiet = sym transfer.0 ∙ q in cc)))
start_at_word i make d table s w (Some l) (word.Streaming v) told lease old none e is transfer h =
    subst (λ (y : Told). StartBound i make d table s w (Some l.place) y.0 (context_with d lease w y.1)) (sym (told_is told _ h.0))
    (subst (λ (n : Option (Lease DeviceState)). StartBound i make d table s w (Some l.place) (reply_of_start code.DeviceBusy 0 l.device.setup.order) (context_with d n w (word.Streaming v))) (sym h.1)
    (busy_at i make d table s w l (word.Streaming v) old none e is (λ q. let clash : Streaming ≡ Quiet = sym transfer.0 ∙ q in cc)))
start_at_word i make d table s w (Some l) word.Ending told lease old none e is transfer h =
    subst (λ (y : Told). StartBound i make d table s w (Some l.place) y.0 (context_with d lease w y.1)) (sym (told_is told _ h.0))
    (subst (λ (n : Option (Lease DeviceState)). StartBound i make d table s w (Some l.place) (reply_of_start code.DeviceBusy 0 l.device.setup.order) (context_with d n w word.Ending)) (sym h.1)
    (busy_at i make d table s w l word.Ending old none e is (λ q. let clash : Ending ≡ Quiet = sym transfer ∙ q in cc)))

pub start_agrees : StartAgrees
start_agrees i make d table s w place said new shows none begins =
    let found = start_at_word i make d table s w (held_by d.session.held w) d.session.transfer (begins.reply, begins.transfer) begins.starts.lease shows none refl refl shows.transfer begins.starts.starts in
    let new_is : new ≡ context_with d begins.starts.lease w begins.transfer = begins.gives.1 ∙ ap (λ (t : RequestContext). with_data_phase t begins.transfer) begins.starts.new_is in (
      found.0,
      subst (λ (p : Option ℕ). MayFailAt make p found.0) (sym (shows.words w)) found.1,
      subst (λ (t : RequestContext). IsCounted d.session.held t.session.held w found.0) (sym new_is) found.2,
      λ x f.
          subst (λ (p : Option ℕ). Agrees i make (manner d w) (requests.Start w) (word_call i make table s (x place) Start w p) said new) (sym (shows.words w))
          (subst (λ (t : RequestAnswer). Agrees i make (manner d w) (requests.Start w) (word_call i make table s (x place) Start w (place_in (held_by d.session.held w))) t new) (sym begins.gives.0)
          (subst (λ (t : RequestContext). Agrees i make (manner d w) (requests.Start w) (word_call i make table s (x place) Start w (place_in (held_by d.session.held w))) (One begins.reply) t) (sym new_is) (found.3 (x place) f))),
    )
