-- The data connection is made, or lost.
use Rattle.std.proofs.Common.{◌≡◌, ◌∙◌, ℕ, Bool, true, false, Option, Some, None, refl, sym, ap, subst, eqb, eqb-true, cond, length}
use Rattle.device_api.specs.State.{DeviceState, after_cancel}
use Rattle.device_api.proofs.SameLaws.{cancel_same}
use Rattle.dispatch.specs.declared.table.place.Lease.{Lease}
use Rattle.dispatch.specs.Table.{Table, find_name}
use Rattle.saned_requests.specs.declared.session.AwaitedAuthorization.{AwaitedAuthorization}
use Rattle.saned_requests.specs.declared.session.DataPhase.{DataPhase as WordCarriage}
use Rattle.saned_requests.specs.declared.session.DataPhase.TheVariants as word
use Rattle.saned_requests.specs.Holding.{cancelled_lease, free_word, held_by, on_word}
use Rattle.saned_requests.specs.RequestAnswers.{RequestContext}
use Rattle.saned_core.specs.DaemonStates.{data_phase_connected, lost_from}
use Rattle.system_model.specs.AbstractMessages.{Challenge}
use Rattle.system_model.specs.Devices.{Make}
use Rattle.system_model.specs.AbstractDevices.{AbstractDevice, is_held_by, put_down}
use Rattle.system_model.specs.Daemon.{TransferState, Quiet, Waiting, Streaming, Ending}
use Rattle.system_model.specs.SystemStates.{with_entry}
use Rattle.system_model.specs.AbstractSessions.{AbstractSession}
use Rattle.system_model.specs.Actions.{image_off, left_by_loss}
use Rattle.daemon_refines.specs.ContextRefinement.{IsAwaited, TransferRefines, NamesPlace, ContextRefines, abstract_device}
use Rattle.daemon_refines.specs.DataRefinement.{ConnectsAgree, LossAgrees, transfer_connected, off_at}
use Rattle.daemon_refines.proofs.FramesAreRead.{frame_dialled}
use Rattle.daemon_refines.proofs.Changes.{Held}
use Rattle.daemon_refines.proofs.SessionEndings.{same_tables}
use Rattle.daemon_refines.proofs.WordsAndPlaces.{on_length, on_nothing, on_other, on_same}
use Rattle.daemon_refines.proofs.Moved.{Stays, moved_table, moved_words, own, place_in}
use Rattle.daemon_refines.proofs.OpenSteps.{free_same, put_self}
use Rattle.daemon_refines.proofs.Scanning.{cancelled_is, made_cancelled}

-- ---- it is made

dials : (wc : WordCarriage) (c : TransferState) (f : ℕ) → TransferRefines wc c f → TransferRefines (data_phase_connected wc) (transfer_connected c) f
dials word.Quiet c f h = ap transfer_connected h
dials (word.Waiting w) c f h = (ap transfer_connected h.0, h.1)
dials (word.Streaming w) c f h = (ap transfer_connected h.0, h.1)
dials word.Ending c f h = ap transfer_connected h

pub connects_agree : ConnectsAgree
connects_agree i make d table s old =
    record { words = old.words; four = old.four; transfer = dials d.session.transfer s.transfer s.framed old.transfer; frame = frame_dialled d.session.transfer d.session.held old.frame; awaited = old.awaited; devices = old.devices }

-- ---- it is lost

-- what is awaited stands as long as the free words do, and the list
names_still : (found : Option ℕ) (table new : ℕ → AbstractDevice) (k : ℕ) → ((e : ℕ) → (new e).listed ≡ (table e).listed) → NamesPlace found table k → NamesPlace found new k
names_still None table new k same h = same k ∙ h
names_still (Some p) table new k same h = h

pub still_awaited : (held new_held : Held) (registry : Table) (table new : ℕ → AbstractDevice) (a : Option AwaitedAuthorization) (sent : Option (Challenge × ℕ)) → free_word new_held ≡ free_word held → ((e : ℕ) → (new e).listed ≡ (table e).listed) →
    IsAwaited held registry table a sent → IsAwaited new_held registry new a sent
still_awaited held new_held registry table new None sent free same h = h
still_awaited held new_held registry table new (Some a) None free same h = absurd h
still_awaited held new_held registry table new (Some a) (Some sent) free same h = (names_still (find_name a.name registry) table new sent.1 same h.0, λ e. h.1 (sym free ∙ e))

-- a frame that does not stream
off_same : (i : ℕ) (c : TransferState) (table : ℕ → AbstractDevice) (o : Option ℕ) → ((dev : AbstractDevice) → image_off i c dev ≡ dev) → (k : ℕ) → off_at i c table o k ≡ table k
off_same i c table None h k = refl
off_same i c table (Some p) h k = put_self table p k (image_off i c (table p)) (eqb k p) refl (h (table p))

resting_loss : (i : ℕ) (table : ℕ → AbstractDevice) (s : AbstractSession) (c : TransferState) → s.transfer ≡ c → ((dev : AbstractDevice) → image_off i c dev ≡ dev) → (k : ℕ) → off_at i s.transfer table (s.words s.framed) k ≡ table k
resting_loss i table s c e h k = ap (λ (x : TransferState). off_at i x table (s.words s.framed) k) e ∙ off_same i c table (s.words s.framed) h k

pub listed_by : (table : ℕ → AbstractDevice) (p : ℕ) (dev : AbstractDevice) (k : ℕ) (b : Bool) → eqb k p ≡ b → dev.listed ≡ (table p).listed → (cond b dev (table k)).listed ≡ (table k).listed
listed_by table p dev k true e same = same ∙ sym (ap (λ (j : ℕ). (table j).listed) (eqb-true k p e))
listed_by table p dev k false e same = refl

-- the frame that streams
lost_word : (i : ℕ) (make : ℕ → Make) (d : RequestContext) (table : ℕ → AbstractDevice) (s : AbstractSession) (w : ℕ) (h : Option (Lease DeviceState)) → ContextRefines i make d table s → held_by d.session.held w ≡ h → s.transfer ≡ Streaming →
    ContextRefines i make (record d { session = lost_from (word.Streaming w) d.session }) (off_at i s.transfer table (place_in h)) (record s { transfer = Quiet })
lost_word i make d table s w None old e streams =
    let same : on_word cancelled_lease d.session.held w ≡ d.session.held = on_nothing cancelled_lease d.session.held w refl e in
    subst (λ (held : Held). ContextRefines i make (record d { session = record d.session { held = held; transfer = word.Quiet } }) table (record s { transfer = Quiet })) (sym same)
    (record { words = old.words; four = old.four; transfer = refl; frame = tt; awaited = old.awaited; devices = old.devices })
lost_word i make d table s w (Some l) old e streams =
    let shown = old.devices.leases w l e in
    let dev = image_off i s.transfer (table l.place) in
    let off : dev ≡ put_down (table l.place) =
    ap (λ (c : TransferState). image_off i c (table l.place)) streams ∙ ap (λ (h : Option ℕ). cond (is_held_by i h) (put_down (table l.place)) (table l.place)) (ap (λ (t : AbstractDevice). t.holder) shown.device)
    ∙ ap (λ (b : Bool). cond b (put_down (table l.place)) (table l.place)) (own i) in
    let new : RequestContext = record d { session = lost_from (word.Streaming w) d.session } in
    let device : dev ≡ abstract_device (Some i) (after_cancel l.device) = off ∙ ap put_down shown.device ∙ cancelled_is (Some i) l.device in
    let stays : Stays i make d w l new dev = record {
      lease = record l { device = after_cancel l.device };
      registry = refl;
      four = on_length cancelled_lease d.session.held w;
      others = λ v n. on_other cancelled_lease d.session.held w v n;
      is = on_same cancelled_lease d.session.held w l e;
      place = refl;
      info = (cancel_same l.device).info;
      device = device;
      made = made_cancelled (make l.place) l.device shown.made;
    } in
    let four : length new.session.held ≡ 4 = on_length cancelled_lease d.session.held w ∙ old.four in
    let words : (v : ℕ) → s.words v ≡ place_in (held_by new.session.held v) = moved_words i make d table s w l old e new dev stays in
    let free : free_word new.session.held ≡ free_word d.session.held = sym (free_same new.session.held s.words four words) ∙ free_same d.session.held s.words old.four old.words in
    record {
      words = words;
      four = four;
      transfer = refl;
      awaited = still_awaited d.session.held new.session.held d.registry table (with_entry table l.place dev) d.session.awaited s.awaited free
          (λ k. listed_by table l.place dev k (eqb k l.place) refl (ap (λ (t : AbstractDevice). t.listed) device ∙ sym (ap (λ (t : AbstractDevice). t.listed) shown.device))) old.awaited;
      frame = tt;
      devices = moved_table i make d table s w l old e new dev stays;
    }

-- by the frame
loss_at : (i : ℕ) (make : ℕ → Make) (d : RequestContext) (table : ℕ → AbstractDevice) (s : AbstractSession) (wc : WordCarriage) → ContextRefines i make d table s → d.session.transfer ≡ wc → TransferRefines wc s.transfer s.framed →
    ContextRefines i make (record d { session = lost_from wc d.session }) (off_at i s.transfer table (s.words s.framed)) (record s { transfer = left_by_loss s.transfer })
loss_at i make d table s word.Quiet old is h =
    let same = resting_loss i table s Quiet h (λ dev. refl) in
    record {
      words = old.words;
      four = old.four;
      transfer = subst (λ (c : WordCarriage). TransferRefines c (left_by_loss s.transfer) s.framed) (sym is) (ap left_by_loss h);
      awaited = still_awaited d.session.held d.session.held d.registry table (off_at i s.transfer table (s.words s.framed)) d.session.awaited s.awaited refl (λ k. ap (λ (t : AbstractDevice). t.listed) (same k)) old.awaited;
      frame = old.frame;
      devices = same_tables i make d.session.held d.registry table (off_at i s.transfer table (s.words s.framed)) same old.devices;
    }
loss_at i make d table s (word.Waiting w) old is h =
    let same = resting_loss i table s Waiting h.0 (λ dev. refl) in
    record {
      words = old.words;
      four = old.four;
      transfer = subst (λ (c : WordCarriage). TransferRefines c (left_by_loss s.transfer) s.framed) (sym is) (ap left_by_loss h.0, h.1);
      awaited = still_awaited d.session.held d.session.held d.registry table (off_at i s.transfer table (s.words s.framed)) d.session.awaited s.awaited refl (λ k. ap (λ (t : AbstractDevice). t.listed) (same k)) old.awaited;
      frame = old.frame;
      devices = same_tables i make d.session.held d.registry table (off_at i s.transfer table (s.words s.framed)) same old.devices;
    }
loss_at i make d table s word.Ending old is h =
    let same = resting_loss i table s Ending h (λ dev. refl) in
    record {
      words = old.words;
      four = old.four;
      transfer = ap left_by_loss h;
      awaited = still_awaited d.session.held d.session.held d.registry table (off_at i s.transfer table (s.words s.framed)) d.session.awaited s.awaited refl (λ k. ap (λ (t : AbstractDevice). t.listed) (same k)) old.awaited;
      frame = tt;
      devices = same_tables i make d.session.held d.registry table (off_at i s.transfer table (s.words s.framed)) same old.devices;
    }
loss_at i make d table s (word.Streaming w) old is h =
    let new : RequestContext = record d { session = lost_from (word.Streaming w) d.session } in
    subst (λ (c : TransferState). ContextRefines i make new (off_at i s.transfer table (s.words s.framed)) (record s { transfer = c })) (sym (ap left_by_loss h.0))
    (subst (λ (o : Option ℕ). ContextRefines i make new (off_at i s.transfer table o) (record s { transfer = Quiet })) (sym (ap s.words h.1 ∙ old.words w))
    (lost_word i make d table s w (held_by d.session.held w) old refl h.0))

pub loss_agrees : LossAgrees
loss_agrees i make d table s old = loss_at i make d table s d.session.transfer old refl old.transfer
