-- A turn of a session's data connection.
use Rattle.std.proofs.Common.{◌≡◌, ◌∙◌, ◌+◌, ◌≤◌, ◌++◌, ℕ, List, Option, Some, None, refl, sym, ap, subst, eqb, take, length}
use Rattle.std.specs.Prelude.{Result, Ok, Err}
use Rattle.std.specs.Int.{w32, to_be_bytes}
use Rattle.std.proofs.lemmas.List.{length-take-le}
use Rattle.sane_fixed.specs.declared.status.Status.{Status as Code}
use Rattle.sane_fixed.specs.declared.status.Status.TheVariants as code
use Rattle.device_api.specs.State.{DeviceState, FrameReads, Phase as AnyPhase, Reads, ReadsIn, read_status_at}
use Rattle.device_api.specs.State.Phase.{Reading}
use Rattle.device_api.proofs.SameLaws.{read_same}
use Rattle.dispatch.specs.declared.table.place.Lease.{Lease}
use Rattle.saned_requests.specs.declared.session.DataPhase.{DataPhase as WordCarriage}
use Rattle.saned_requests.specs.declared.session.DataPhase.TheVariants as word
use Rattle.saned_requests.specs.declared.session.Session.{Session as RequestSession}
use Rattle.saned_requests.specs.Holding.{free_word, held_by, on_word, with_device}
use Rattle.saned_requests.specs.RequestAnswers.{RequestContext}
use Rattle.saned_core.specs.declared.session_slot.DataStep.{DataStep}
use Rattle.saned_core.specs.declared.session_slot.DataStep.TheVariants.{Bytes}
use Rattle.saned_core.specs.Turns.{WritesEndRecord, Records, StreamsFrom, StreamsIn, StreamsOn, data_phase_after}
use Rattle.system_model.specs.Devices.{Make}
use Rattle.system_model.specs.AbstractDevices.{AbstractDevice}
use Rattle.system_model.specs.Daemon.{Quiet, Streaming, Ending}
use Rattle.system_model.specs.SystemStates.{JobState, with_entry}
use Rattle.system_model.specs.AbstractSessions.{AbstractSession}
use Rattle.system_model.specs.Transitions.{IsActionEnabled}
use Rattle.system_model.specs.Actions as actions
use Rattle.system_model.specs.Actions.{Action, device_after, job_after_action}
use Rattle.daemon_refines.specs.ContextRefinement.{FrameIsRead, TransferRefines, IsReadBy, ContextRefines, abstract_device}
use Rattle.daemon_refines.specs.DataRefinement.{IsTurnOf}
use Rattle.daemon_refines.specs.Streams.{EndingsAgree, SendsAs, StreamServed, StreamsAgree}
use Rattle.daemon_refines.specs.Failures.{IsCountedAt, IsTurnCounted}
use Rattle.daemon_refines.proofs.Changes.{Held}
use Rattle.daemon_refines.proofs.FramesAreRead.{frame_behind}
use Rattle.daemon_refines.proofs.DataLinks.{listed_by, still_awaited}
use Rattle.daemon_refines.proofs.SessionEndings.{same_tables}
use Rattle.daemon_refines.proofs.WordsAndPlaces.{on_length, on_other, on_same}
use Rattle.daemon_refines.proofs.Moved.{Stays, moved_table, moved_words, place_in}
use Rattle.daemon_refines.proofs.OpenSteps.{free_same, put_self}
use Rattle.daemon_refines.proofs.DataTurns.{turns_agree}

-- ---- what is sent

room_in : (told : Option Code) (s after : DeviceState) (pass given n : ℕ) (window : List ℕ) → FrameReads told s pass given (Ok n) after window → n ≤ length window
room_in None s after pass given n window h = h.room
room_in (Some status) s after pass given n window h = absurd (let clash : Ok n ≡ Err status = h.0 in cc)

pub room : (s after : DeviceState) (pass given n : ℕ) (window : List ℕ) → s.phase ≡ Reading pass given → Reads s (Ok n) after window → n ≤ length window
room s after pass given n window at h = room_in (read_status_at s.setup.told given) s after pass given n window (subst (λ (q : AnyPhase). ReadsIn q s (Ok n) after window) at h)

taken_length : (n : ℕ) (window : List ℕ) → n ≤ length window → length (take n window) ≡ n
taken_length n window h = length-take-le n window h

sent_bytes : (n : ℕ) (window : List ℕ) (step : DataStep) (buf : List ℕ) → n ≤ length window → Records (Ok n) window step buf → SendsAs step buf (actions.Turns (take n window))
sent_bytes n window step buf h r =
    subst (λ (k : ℕ). (step ≡ Bytes (4 + k)) × (take (4 + k) buf ≡ to_be_bytes w32 k ++ take n window)) (sym (taken_length n window h)) r

sent_end : (status : Code) (window : List ℕ) (step : DataStep) (buf : List ℕ) (action : Action) → IsTurnOf (Err status) window action → WritesEndRecord status step buf → SendsAs step buf action
sent_end status window step buf actions.Connects is e = absurd is
sent_end status window step buf (actions.Answers challenge fault) is e = absurd is
sent_end status window step buf (actions.Hears r) is e = absurd is
sent_end status window step buf actions.Dials is e = absurd is
sent_end status window step buf (actions.Turns bytes) is e = absurd is
sent_end status window step buf actions.TurnsLast is e = subst (λ (c : Code). WritesEndRecord c step buf) is e
sent_end status window step buf (actions.TurnsNamed name) is e = (status, is, e)
sent_end status window step buf actions.TurnsShort is e = subst (λ (c : Code). WritesEndRecord c step buf) is e
sent_end status window step buf (actions.TurnsFault fault) is e = subst (λ (c : Code). WritesEndRecord c step buf) is e
sent_end status window step buf actions.TurnsOff is e = absurd is
sent_end status window step buf (actions.Reads bytes) is e = absurd is
sent_end status window step buf (actions.Finishes name) is e = absurd is
sent_end status window step buf (actions.Loses memory) is e = absurd is
sent_end status window step buf (actions.LosesImage memory) is e = absurd is
sent_end status window step buf (actions.Breaks memory) is e = absurd is
sent_end status window step buf actions.RunsOutOfMemory is e = absurd is
sent_end status window step buf actions.Stops is e = absurd is

sent : (answer : Result ℕ Code) (s after : DeviceState) (pass given : ℕ) (window : List ℕ) (step : DataStep) (buf : List ℕ) (action : Action) → s.phase ≡ Reading pass given → Reads s answer after window → IsTurnOf answer window action → Records answer window step buf → SendsAs step buf action
sent (Ok n) s after pass given window step buf action at r is e = subst (λ (x : Action). SendsAs step buf x) (sym is) (sent_bytes n window step buf (room s after pass given n window at r) e)
sent (Err status) s after pass given window step buf action at r is e = sent_end status window step buf action is e

-- ---- the frame behind it

end_quiet : (status : Code) (window : List ℕ) (i : ℕ) (k : Make) (listed : List ℕ) (p : JobState) (dev : AbstractDevice) (action : Action) → IsTurnOf (Err status) window action → (job_after_action i k listed p dev action).session.transfer ≡ Quiet
end_quiet status window i k listed p dev actions.Connects is = absurd is
end_quiet status window i k listed p dev (actions.Answers challenge fault) is = absurd is
end_quiet status window i k listed p dev (actions.Hears r) is = absurd is
end_quiet status window i k listed p dev actions.Dials is = absurd is
end_quiet status window i k listed p dev (actions.Turns bytes) is = absurd is
end_quiet status window i k listed p dev actions.TurnsLast is = refl
end_quiet status window i k listed p dev (actions.TurnsNamed name) is = refl
end_quiet status window i k listed p dev actions.TurnsShort is = refl
end_quiet status window i k listed p dev (actions.TurnsFault fault) is = refl
end_quiet status window i k listed p dev actions.TurnsOff is = absurd is
end_quiet status window i k listed p dev (actions.Reads bytes) is = absurd is
end_quiet status window i k listed p dev (actions.Finishes name) is = absurd is
end_quiet status window i k listed p dev (actions.Loses memory) is = absurd is
end_quiet status window i k listed p dev (actions.LosesImage memory) is = absurd is
end_quiet status window i k listed p dev (actions.Breaks memory) is = absurd is
end_quiet status window i k listed p dev actions.RunsOutOfMemory is = absurd is
end_quiet status window i k listed p dev actions.Stops is = absurd is

framed_behind : (answer : Result ℕ Code) (window : List ℕ) (i : ℕ) (k : Make) (listed : List ℕ) (p : JobState) (dev : AbstractDevice) (action : Action) (w f : ℕ) → IsTurnOf answer window action → p.session.transfer ≡ Streaming → f ≡ w →
    TransferRefines (data_phase_after (word.Streaming w) answer) (job_after_action i k listed p dev action).session.transfer f
framed_behind (Ok n) window i k listed p dev action w f is c e = subst (λ (x : Action). ((job_after_action i k listed p dev x).session.transfer ≡ Streaming) × (f ≡ w)) (sym is) (c, e)
framed_behind (Err status) window i k listed p dev action w f is c e = end_quiet status window i k listed p dev action is

-- ---- a frame that streams

-- the failure of the device that is read is that of its word
counted_at : (held now : Held) (words : ℕ → Option ℕ) (place w : ℕ) (l : Lease DeviceState) (after : DeviceState) (action : Action) → words w ≡ Some place → held_by held w ≡ Some l → held_by now w ≡ Some (record l { device = after }) → IsTurnCounted l.device after action → IsCountedAt held now words place action
counted_at held now words place w l after (actions.TurnsFault fault) named stood stands h = (w, named, record { lease = l; stood = stood; after = after; stands = stands; failed = h })
counted_at held now words place w l after action named stood stands h = tt

turn_served : (i : ℕ) (make : ℕ → Make) (d : RequestContext) (table : ℕ → AbstractDevice) (s : AbstractSession) (listed : List ℕ) (p : JobState) (w : ℕ) (l : Lease DeviceState) (pass given : ℕ) (step : DataStep) (buf : List ℕ) → ContextRefines i make d table s → p.session.transfer ≡ s.transfer → d.session.transfer ≡ word.Streaming w → held_by d.session.held w ≡ Some l → l.device.phase ≡ Reading pass given →
    (new : RequestSession DeviceState) → StreamsOn l w d.session step new buf → StreamServed i make d table s listed p l.place step new buf
turn_served i make d table s listed p w l pass given step buf old same is e at new g =
    let shown = old.devices.leases w l e in
    let k = make l.place in
    let transfer : (s.transfer ≡ Streaming) × (s.framed ≡ w) = subst (λ (c : WordCarriage). TransferRefines c s.transfer s.framed) is old.transfer in
    let streams : p.session.transfer ≡ Streaming = same ∙ transfer.0 in
    let t = turns_agree i k listed p l.device g.after pass given g.answer g.window shown.made at streams g.reads in
    let dev = device_after i k listed p (table l.place) t.action in
    let behind : RequestSession DeviceState = record d.session { held = on_word (λ _. with_device l g.after) d.session.held w; transfer = data_phase_after d.session.transfer g.answer } in
    let after : RequestContext = record d { session = behind } in
    let device : dev ≡ abstract_device (Some i) g.after = ap (λ (x : AbstractDevice). device_after i k listed p x t.action) shown.device ∙ t.device in
    let stays : Stays i make d w l after dev = record {
      lease = record l { device = g.after };
      registry = refl;
      four = on_length (λ _. with_device l g.after) d.session.held w;
      others = λ v n. on_other (λ _. with_device l g.after) d.session.held w v n;
      is = on_same (λ _. with_device l g.after) d.session.held w l e;
      place = refl;
      info = (read_same l.device g.after g.answer g.window g.reads).info;
      device = device;
      made = t.made;
    } in
    let four : length after.session.held ≡ 4 = on_length (λ _. with_device l g.after) d.session.held w ∙ old.four in
    let words : (v : ℕ) → s.words v ≡ place_in (held_by after.session.held v) = moved_words i make d table s w l old e after dev stays in
    let free : free_word after.session.held ≡ free_word d.session.held = sym (free_same after.session.held s.words four words) ∙ free_same d.session.held s.words old.four old.words in
    let job_state = job_after_action i k listed p (table l.place) t.action in
    record {
      action = t.action;
      may = subst (λ (x : AbstractDevice). IsActionEnabled i k p x t.action) (sym shown.device) t.may;
      sends = sent g.answer l.device g.after pass given g.window step buf t.action at g.reads t.is g.written;
      counted = subst (λ (x : RequestSession DeviceState). IsCountedAt d.session.held x.held s.words l.place t.action) (sym g.new_is)
          (counted_at d.session.held after.session.held s.words l.place w l g.after t.action (old.words w ∙ ap place_in e) e (on_same (λ _. with_device l g.after) d.session.held w l e) t.counted);
      shows = subst (λ (x : RequestSession DeviceState). ContextRefines i make (record d { session = x }) (with_entry table l.place dev) (record s { transfer = job_state.session.transfer })) (sym g.new_is) (record {
        words = words;
        four = four;
        transfer = subst (λ (c : WordCarriage). TransferRefines (data_phase_after c g.answer) job_state.session.transfer s.framed) (sym is) (framed_behind g.answer g.window i k listed p (table l.place) t.action w s.framed t.is streams transfer.1);
        awaited = still_awaited d.session.held after.session.held d.registry table (with_entry table l.place dev) d.session.awaited s.awaited free
            (λ j. listed_by table l.place dev j (eqb j l.place) refl (ap (λ (x : AbstractDevice). x.listed) device ∙ sym (ap (λ (x : AbstractDevice). x.listed) shown.device))) old.awaited;
        frame = subst (λ (c : WordCarriage). FrameIsRead (data_phase_after c g.answer) after.session.held) (sym is) (frame_behind g.answer d w l g.after pass given g.window (on_same (λ _. with_device l g.after) d.session.held w l e) at g.reads);
        devices = moved_table i make d table s w l old e after dev stays;
      });
    }

from_lease : (h : Option (Lease DeviceState)) (l : Lease DeviceState) (w : ℕ) (old : RequestSession DeviceState) (step : DataStep) (new : RequestSession DeviceState) (buf : List ℕ) → h ≡ Some l → StreamsFrom h w old step new buf → StreamsOn l w old step new buf
from_lease h l w old step new buf e g = subst (λ (o : Option (Lease DeviceState)). StreamsFrom o w old step new buf) e g

pub streams_agree : StreamsAgree
streams_agree i make d table s listed p w step new buf old same is g =
    let r : IsReadBy d.session.held w = subst (λ (c : WordCarriage). FrameIsRead c d.session.held) is old.frame in
    let l = r.lease in (
      l.place,
      old.words w ∙ ap place_in r.stands,
      turn_served i make d table s listed p w l r.pass r.given step buf old same is r.stands r.phase new
          (from_lease (held_by d.session.held w) l w d.session step new buf r.stands (subst (λ (c : WordCarriage). StreamsIn c d.session step new buf) is g)),
    )

-- ---- a frame that was cancelled

pub endings_agree : EndingsAgree
endings_agree i make d table s listed p place step new buf old same is g =
    let transfer : s.transfer ≡ Ending = subst (λ (c : WordCarriage). TransferRefines c s.transfer s.framed) is old.transfer in
    let ended : WritesEndRecord code.Cancelled step buf × (new ≡ record d.session { transfer = word.Quiet }) = subst (λ (c : WordCarriage). StreamsIn c d.session step new buf) is g in
    let there : (j : ℕ) → with_entry table place (table place) j ≡ table j = λ j. put_self table place j (table place) (eqb j place) refl refl in (
      record {
        action = actions.TurnsOff;
        may = same ∙ transfer;
        sends = ended.0;
        counted = tt;
        shows = subst (λ (x : RequestSession DeviceState). ContextRefines i make (record d { session = x }) (with_entry table place (table place)) (record s { transfer = Quiet })) (sym ended.1) (record {
          words = old.words;
          four = old.four;
          transfer = refl;
          awaited = still_awaited d.session.held d.session.held d.registry table (with_entry table place (table place)) d.session.awaited s.awaited refl (λ j. ap (λ (x : AbstractDevice). x.listed) (there j)) old.awaited;
          frame = tt;
          devices = same_tables i make d.session.held d.registry table (with_entry table place (table place)) there old.devices;
        });
      },
      refl,
    )
