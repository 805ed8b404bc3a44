-- CANCEL and CLOSE.
use Rattle.std.proofs.Common.{◌≡◌, ◌≢◌, ◌∙◌, ℕ, Bool, true, false, Option, Some, None, refl, sym, ap, subst, eqb, eqb-true, cond}
use Rattle.std.specs.Prelude.{if◌then◌else◌}
use Rattle.std.proofs.lemmas.Bool.{eqb-false}
use Rattle.sane_fixed.specs.declared.device_info.DeviceInfo.{DeviceInfo}
use Rattle.device_api.specs.State.{DeviceState, after_cancel}
use Rattle.device_api.proofs.SameLaws.{cancel_same}
use Rattle.dispatch.specs.declared.table.place.Slot.TheVariants.{In}
use Rattle.dispatch.specs.declared.table.place.Lease.{Lease}
use Rattle.dispatch.specs.Table.{Table, after_give_back, with_slot}
use Rattle.dispatch.proofs.Names.{lease_in_again}
use Rattle.wire_message.specs.declared.message.Request.TheVariants as requests
use Rattle.wire_message.specs.declared.message.Reply.TheVariants as replies
use Rattle.saned_requests.specs.declared.session.DataPhase.{DataPhase as WordCarriage}
use Rattle.saned_requests.specs.declared.session.DataPhase.TheVariants as word
use Rattle.saned_requests.specs.declared.request_answer.RequestAnswer.TheVariants.{One}
use Rattle.saned_requests.specs.Holding.{cancelled_lease, held_by, on_word}
use Rattle.saned_requests.specs.RequestAnswers.{RequestContext, cancel, cancel_held, data_phase_off, close, close_lease}
use Rattle.system_model.specs.AbstractMessages.{Acked, Cancel, Close}
use Rattle.system_model.specs.Devices.{Make}
use Rattle.system_model.specs.AbstractDevices.{AbstractDevice, put_back, put_down}
use Rattle.system_model.specs.Daemon.{Environment, TransferState, Quiet, Waiting, Streaming, Ending, AnswerEffect, cancelled_transfer, reply_effect}
use Rattle.system_model.specs.SystemStates.{with_entry}
use Rattle.system_model.specs.AbstractSessions.{AbstractSession, framed_by, serve_word, word_call}
use Rattle.daemon_refines.specs.ContextRefinement.{TransferRefines, ContextRefines, TableRefines, abstract_device}
use Rattle.daemon_refines.specs.Agreeing.{Agrees, AgreesOn, manner}
use Rattle.daemon_refines.specs.DeviceWords.{CancelAgrees, CloseAgrees}
use Rattle.daemon_refines.proofs.FramesAreRead.{frame_cut}
use Rattle.daemon_refines.proofs.Changes.{Held, changed, shown_as}
use Rattle.daemon_refines.proofs.WordsAndPlaces.{on_length, on_other, on_same, put_other, put_same, with_new}
use Rattle.daemon_refines.proofs.Moved.{moved, nothing_awaited, place_in, put_elsewhere, put_there, unsome}
use Rattle.daemon_refines.proofs.Scanning.{cancelled_is, given_back_is, made_cancelled}
use Rattle.daemon_refines.proofs.WordRequests.{answered, says_one, says_unknown}

-- the frame behind a cancel of word w: it ends where it is one of that word
abbrev off_by : Bool → TransferState → TransferState
off_by true c = cancelled_transfer c
off_by false c = c

if_same : (v w : ℕ) (a b : WordCarriage) → v ≡ w → (if eqb v w then a else b) ≡ a
if_same v w a b e = by_test (eqb v w) refl
  where
    by_test : (t : Bool) → eqb v w ≡ t → (if eqb v w then a else b) ≡ a
    by_test true h = ap (λ (t : Bool). if t then a else b) h
    by_test false h = absurd (eqb-false v w h e)

if_other : (v w : ℕ) (a b : WordCarriage) → v ≢ w → (if eqb v w then a else b) ≡ b
if_other v w a b n = by_test (eqb v w) refl
  where
    by_test : (t : Bool) → eqb v w ≡ t → (if eqb v w then a else b) ≡ b
    by_test true h = absurd (n (eqb-true v w h))
    by_test false h = ap (λ (t : Bool). if t then a else b) h

frame_off : (wc : WordCarriage) (c : TransferState) (w f : ℕ) (b : Bool) → eqb w f ≡ b → TransferRefines wc c f → TransferRefines (data_phase_off wc w) (off_by b c) (framed_by c (off_by b c) w f)
frame_off word.Quiet Quiet w f true e h = refl
frame_off word.Quiet Quiet w f false e h = refl
frame_off word.Quiet Waiting w f b e h = absurd (let clash : Waiting ≡ Quiet = h in cc)
frame_off word.Quiet Streaming w f b e h = absurd (let clash : Streaming ≡ Quiet = h in cc)
frame_off word.Quiet Ending w f b e h = absurd (let clash : Ending ≡ Quiet = h in cc)
frame_off word.Ending Ending w f true e h = refl
frame_off word.Ending Ending w f false e h = refl
frame_off word.Ending Quiet w f b e h = absurd (let clash : Quiet ≡ Ending = h in cc)
frame_off word.Ending Waiting w f b e h = absurd (let clash : Waiting ≡ Ending = h in cc)
frame_off word.Ending Streaming w f b e h = absurd (let clash : Streaming ≡ Ending = h in cc)
frame_off (word.Waiting v) Quiet w f b e h = absurd (let clash : Quiet ≡ Waiting = h.0 in cc)
frame_off (word.Waiting v) Streaming w f b e h = absurd (let clash : Streaming ≡ Waiting = h.0 in cc)
frame_off (word.Waiting v) Ending w f b e h = absurd (let clash : Ending ≡ Waiting = h.0 in cc)
frame_off (word.Waiting v) Waiting w f true e h = subst (λ (t : WordCarriage). TransferRefines t Quiet f) (sym (if_same v w word.Quiet (word.Waiting v) (sym h.1 ∙ sym (eqb-true w f e)))) refl
frame_off (word.Waiting v) Waiting w f false e h = subst (λ (t : WordCarriage). TransferRefines t Waiting f) (sym (if_other v w word.Quiet (word.Waiting v) (λ g. eqb-false w f e (sym g ∙ sym h.1)))) h
frame_off (word.Streaming v) Quiet w f b e h = absurd (let clash : Quiet ≡ Streaming = h.0 in cc)
frame_off (word.Streaming v) Waiting w f b e h = absurd (let clash : Waiting ≡ Streaming = h.0 in cc)
frame_off (word.Streaming v) Ending w f b e h = absurd (let clash : Ending ≡ Streaming = h.0 in cc)
frame_off (word.Streaming v) Streaming w f true e h = subst (λ (t : WordCarriage). TransferRefines t Ending f) (sym (if_same v w word.Ending (word.Streaming v) (sym h.1 ∙ sym (eqb-true w f e)))) refl
frame_off (word.Streaming v) Streaming w f false e h = subst (λ (t : WordCarriage). TransferRefines t Streaming f) (sym (if_other v w word.Ending (word.Streaming v) (λ g. eqb-false w f e (sym g ∙ sym h.1)))) h

cancels : (b : Bool) (i : ℕ) (k : Make) (dev : AbstractDevice) (c : TransferState) (x : Environment) → serve_word b i k dev c x Cancel ≡ reply_effect Acked (put_down dev) (off_by b c)
cancels true i k dev c x = refl
cancels false i k dev c x = refl

shuts : (b : Bool) (i : ℕ) (k : Make) (dev : AbstractDevice) (c : TransferState) (x : Environment) → serve_word b i k dev c x Close ≡ reply_effect Acked (put_back dev) (off_by b c)
shuts true i k dev c x = refl
shuts false i k dev c x = refl

-- CANCEL
cancel_at : (i : ℕ) (make : ℕ → Make) (d : RequestContext) (table : ℕ → AbstractDevice) (s : AbstractSession) (x : Environment) (w : ℕ) (h : Option (Lease DeviceState)) → ContextRefines i make d table s → d.session.awaited ≡ None → held_by d.session.held w ≡ h →
    Agrees i make (manner d w) (requests.Cancel w) (word_call i make table s x Cancel w (place_in h)) (One replies.Cancel) (cancel_held d w h)
cancel_at i make d table s x w None old none e = says_unknown i make (manner d w) d table s _ Cancel _ old refl
cancel_at i make d table s x w (Some l) old none e =
    let shown = old.devices.leases w l e in
    let dev : AbstractDevice = put_down (table l.place) in
    answered i make (manner d w) _ table s x Cancel w l.place Acked replies.Cancel (cancel_held d w (Some l)) (reply_effect Acked dev (off_by (eqb w s.framed) s.transfer)) (cancels (eqb w s.framed) i (make l.place) (table l.place) s.transfer x) refl refl refl refl
    (moved i make d table s w l old e (cancel_held d w (Some l)) dev _
    (record {
      lease = record l { device = after_cancel l.device };
      registry = refl;
      four = on_length cancelled_lease d.session.held w;
      others = λ v n. on_other cancelled_lease d.session.held w v n;
      is = on_same cancelled_lease d.session.held w l e;
      place = refl;
      info = (cancel_same l.device).info;
      device = ap put_down shown.device ∙ cancelled_is (Some i) l.device;
      made = made_cancelled (make l.place) l.device shown.made;
    })
    (record { awaited = none; words = λ v. refl; transfer = frame_off d.session.transfer s.transfer w s.framed (eqb w s.framed) refl old.transfer; frame = frame_cut d.session.transfer d.session.held (on_word cancelled_lease d.session.held w) w (λ v n. on_other cancelled_lease d.session.held w v n) old.frame; sent = refl }))

pub cancel_agrees : CancelAgrees
cancel_agrees i make d table s x w place shows none =
    subst (λ (p : Option ℕ). AgreesOn i make d w (requests.Cancel w) (word_call i make table s (x place) Cancel w p) (cancel d w)) (sym (shows.words w))
    (cancel_at i make d table s (x place) w (held_by d.session.held w) shows none refl)

-- CLOSE
without_word : (old new : Held) (words : ℕ → Option ℕ) (w : ℕ) → ((v : ℕ) → words v ≡ place_in (held_by old v)) → held_by new w ≡ None → ((v : ℕ) → v ≢ w → held_by new v ≡ held_by old v) →
    (v : ℕ) (b : Bool) → eqb v w ≡ b → cond b None (words v) ≡ place_in (held_by new v)
without_word old new words w seen_words gone others v true e = sym (ap (λ (x : ℕ). place_in (held_by new x)) (eqb-true v w e) ∙ ap place_in gone)
without_word old new words w seen_words gone others v false e = seen_words v ∙ ap place_in (sym (others v (eqb-false v w e)))

-- a word's device goes back to its place
pub given_back_table : (i : ℕ) (make : ℕ → Make) (held : Held) (registry : Table) (table : ℕ → AbstractDevice) (w : ℕ) (l : Lease DeviceState) (dev : AbstractDevice) (new_held : Held) → TableRefines i make held registry table → held_by held w ≡ Some l →
    ((v : ℕ) → v ≢ w → held_by new_held v ≡ held_by held v) → held_by new_held w ≡ None → dev ≡ abstract_device None (after_cancel l.device) → TableRefines i make new_held (after_give_back registry l) (with_entry table l.place dev)
given_back_table i make held registry table w l dev new_held old e others gone is =
    let shown = old.leases w l e in
    let back = after_cancel l.device in
    subst (λ (t : Table). TableRefines i make new_held t (with_entry table l.place dev)) (sym (lease_in_again registry l shown.own))
    (changed i make held registry table w l.place new_held (with_slot registry l.place (In back)) (with_entry table l.place dev) old (record {
      others = others;
      alone = λ v n away h same_place. away (old.apart v w n l h e same_place);
      was = λ n h. ap (λ (x : Lease DeviceState). x.place) (unsome n l (sym h ∙ e));
      tables = λ k away. put_elsewhere table l.place dev k away;
      slots = λ k away. put_other registry l.place k (In back) away;
      now = λ n h. absurd (let clash : None ≡ Some n = sym gone ∙ h in cc);
      here = shown_as i (make l.place) new_held l.place (with_entry table l.place dev l.place) _ (with_new shown.own.place (In back)) (In back) (put_same registry l.place shown.own.place (In back) shown.own.at) refl
          (put_there table l.place dev ∙ is, made_cancelled (make l.place) l.device shown.made, ap (λ (x : DeviceInfo). x.name) (cancel_same l.device).info ∙ shown.own.name);
    }))

closed : (i : ℕ) (make : ℕ → Make) (d : RequestContext) (table : ℕ → AbstractDevice) (s : AbstractSession) (w : ℕ) (l : Lease DeviceState) (dev : AbstractDevice) (c : TransferState) (f : ℕ) → ContextRefines i make d table s → d.session.awaited ≡ None → held_by d.session.held w ≡ Some l →
    dev ≡ abstract_device None (after_cancel l.device) → TransferRefines (data_phase_off d.session.transfer w) c f →
    ContextRefines i make (close_lease d w (Some l)) (with_entry table l.place dev) (record { words = with_entry s.words w None; transfer = c; framed = f; awaited = None })
closed i make d table s w l dev c f old none e is transfer =
    let held = on_word (λ _. None) d.session.held w in
    let gone : held_by held w ≡ None = on_same (λ _. None) d.session.held w l e in
    record {
      words = λ v. without_word d.session.held held s.words w old.words gone (λ v n. on_other (λ _. None) d.session.held w v n) v (eqb v w) refl;
      four = on_length (λ _. None) d.session.held w ∙ old.four;
      transfer = transfer;
      awaited = nothing_awaited held (after_give_back d.registry l) (with_entry table l.place dev) d.session.awaited None none refl;
      frame = frame_cut d.session.transfer d.session.held held w (λ v n. on_other (λ _. None) d.session.held w v n) old.frame;
      devices = given_back_table i make d.session.held d.registry table w l dev held old.devices e (λ v n. on_other (λ _. None) d.session.held w v n) gone is;
    }

close_at : (i : ℕ) (make : ℕ → Make) (d : RequestContext) (table : ℕ → AbstractDevice) (s : AbstractSession) (x : Environment) (w : ℕ) (h : Option (Lease DeviceState)) → ContextRefines i make d table s → d.session.awaited ≡ None → held_by d.session.held w ≡ h →
    Agrees i make (manner d w) (requests.Close w) (word_call i make table s x Close w (place_in h)) (One replies.Close) (close_lease d w h)
close_at i make d table s x w None old none e = says_unknown i make (manner d w) d table s _ Close _ old refl
close_at i make d table s x w (Some l) old none e =
    let shown = old.devices.leases w l e in
    let dev : AbstractDevice = put_back (table l.place) in
    let v : AnswerEffect = reply_effect Acked dev (off_by (eqb w s.framed) s.transfer) in
    let is = shuts (eqb w s.framed) i (make l.place) (table l.place) s.transfer x in
    says_one i make (manner d w) _ (word_call i make table s x Close w (Some l.place)) Acked replies.Close (close_lease d w (Some l)) (ap (λ (t : AnswerEffect). t.told) is) (ap (λ (t : AnswerEffect). t.goes_on) is) refl
    (subst (λ (t : AnswerEffect). ContextRefines i make (close_lease d w (Some l)) (with_entry table l.place t.device) (record { words = with_entry s.words w None; transfer = t.transfer; framed = framed_by s.transfer t.transfer w s.framed; awaited = None })) (sym is)
    (closed i make d table s w l dev (off_by (eqb w s.framed) s.transfer) _ old none e (ap put_back shown.device ∙ given_back_is (Some i) l.device) (frame_off d.session.transfer s.transfer w s.framed (eqb w s.framed) refl old.transfer)))

pub close_agrees : CloseAgrees
close_agrees i make d table s x w place shows none =
    subst (λ (p : Option ℕ). AgreesOn i make d w (requests.Close w) (word_call i make table s (x place) Close w p) (close d w)) (sym (shows.words w))
    (close_at i make d table s (x place) w (held_by d.session.held w) shows none refl)
