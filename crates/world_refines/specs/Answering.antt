-- What a delivery of requests to the daemon does: each that is whole with it is answered, and the session goes on or is
-- over.
use Rattle.std.specs.Prelude.{ℕ, ◌≡◌, ◌++◌, Bool, true, false, Some, List, [], ◌∷◌, length, map, slice_get}
use Rattle.std.specs.Prelude.{if◌then◌else◌}
use Rattle.wire_format.specs.Limit.{NeedsMore}
use Rattle.wire_message.specs.Message.{message_limit, request as request_format}
use Rattle.system_model.specs.AbstractMessages.{AbstractRequest}
use Rattle.system_model.specs.Actions as actions
use Rattle.system_model.specs.Deliveries.{Chance, answers}
use Rattle.system_model.specs.Transitions.{By, Transition}
use Rattle.event_world.specs.JobEvents.{bytes_not_delivered, delivered_bytes}
use Rattle.world_refines.specs.GhostStates.{Ghost, job_state, wires}
use Rattle.world_refines.specs.Wires.{SpellsAsked}
use Rattle.world_refines.specs.GhostEvents.{GhostTakes}
use Rattle.md5_auth.specs.declared.users.Entry.{Entry}
use Rattle.device_api.specs.ScannerLimits.{IsAllowed}
use Rattle.device_api.specs.State.{DeviceState}
use Rattle.dispatch.specs.declared.table.place.Lease.{Lease}
use Rattle.dispatch.specs.declared.table.place.Place.{Place}
use Rattle.dispatch.specs.declared.table.place.Slot.TheVariants.{In}
use Rattle.sane_fixed.specs.declared.device_info.DeviceInfo.{DeviceInfo}
use Rattle.option_desc.specs.declared.descriptor.Descriptor.{Descriptor}
use Rattle.wire_message.specs.declared.message.Request.{Request}
use Rattle.wire_message.specs.declared.message.Reply.{Reply}
use Rattle.saned_requests.specs.declared.request_answer.RequestAnswer.{RequestAnswer}
use Rattle.saned_requests.specs.Holding.{held_by}
use Rattle.saned_requests.specs.RequestAnswers.{Answers, RequestContext}
use Rattle.saned_core.specs.Feeding.{IsUnsaid, replies_to}
use Rattle.scan_job.specs.declared.job.Job.{Job}
use Rattle.client_replies.specs.ProtocolStates.{target_of}
use Rattle.client_refines.specs.RequestRefinement.{IsRequest}
use Rattle.world_refines.specs.WorldRefinement.{info_at}

-- the requests that are whole with the piece, the first of those that were sent, and what is left behind them
pub record Completes (t : Ghost) (i n : ℕ) (asked : List AbstractRequest) (rest : List ℕ) : Type 0 where
  pub text : List ℕ
  pub whole : (wires t i).asking ++ delivered_bytes n (wires t i).up ≡ text ++ rest
  pub spelled : SpellsAsked (t.jobs i) (job_state t i).client asked text
  pub later : List AbstractRequest
  pub first : (job_state t i).todo ≡ asked ++ later

-- an answer to each of them, with what chance brings
pub record AnswersEach (i : ℕ) (asked : List AbstractRequest) (steps : List Transition) : Type 0 where
  pub chances : List Chance
  pub count : length chances ≡ length asked
  pub steps_are : steps ≡ answers i chances

-- each device in its place, and each that the session holds, has options within their limits
pub record HasAllowedOptions (context : RequestContext) : Type 0 where
  pub lying : (k : ℕ) (p : Place DeviceState) (s : DeviceState) → slice_get context.registry k ≡ Some p → p.slot ≡ In s
      → IsAllowed s.setup
  pub held : (w : ℕ) (l : Lease DeviceState) → held_by context.session.held w ≡ Some l → IsAllowed l.device.setup

-- The job asks these users something, among devices of these infos with options within their limits, and a reply to it
-- passes a limit of the wire, or has no spelling.
pub record HasUnsaidReply (users : List Entry) (infos : List DeviceInfo) (job : Job) : Type 0 where
  pub context : RequestContext
  pub devices : infos ≡ map info_at context.registry
  pub allowed : HasAllowedOptions context
  pub request : Request
  pub known : List Descriptor
  pub asked : AbstractRequest
  pub is : IsRequest (target_of job) 0 known request asked
  pub said : RequestAnswer
  pub then_is : RequestContext
  pub answers : Answers users context request said then_is
  pub before : List Reply
  pub reply : Reply
  pub behind : List Reply
  pub among : replies_to said ≡ before ++ reply ∷ behind
  pub unsaid : IsUnsaid reply

-- a session that was not out of memory broke off at such a reply
abbrev pub IsCutShort : Bool → List Entry → List DeviceInfo → Job → Type 0
IsCutShort true users infos job = Unit {0}
IsCutShort false users infos job = HasUnsaidReply users infos job

-- the replies that wait behind it; where memory ran out they are dropped
abbrev pub replies_kept : Bool → List ℕ → List ℕ
replies_kept memory replies = if memory then [] else replies

-- **a delivery to the daemon (`AnswersSome`, `Completes`, `AnswersEach`, `IsCutShort`, `HasUnsaidReply`,
-- `HasAllowedOptions`)**: the requests that are whole with the piece, the first of those that were sent, are answered
-- one after another. Then the session goes on, and what is left is no whole request; or the last of them ended it; or
-- it breaks off. It breaks off for lack of memory, or at a reply to something that its job asks, of devices whose
-- options are within their limits, which is past the limits of the wire or has no spelling. A session that was over
-- lets the piece go by.
pub data AnswersSome (n : ℕ) (t : Ghost) (i : ℕ) (steps : List Transition) (u : Ghost) : Type 0 where
  GoesOn : (asked : List AbstractRequest) (rest told : List ℕ) → Completes t i n asked rest
      → NeedsMore message_limit request_format rest → AnswersEach i asked steps →
      GhostTakes t i steps
      (record (wires t i)
      { up = bytes_not_delivered n (wires t i).up; asking = rest; down = (wires t i).down ++ told }) u
      → (job_state u i).served ≡ true → AnswersSome n t i steps u
  IsOver : (asked : List AbstractRequest) (rest told : List ℕ) → Completes t i n asked rest → AnswersEach i asked steps
      →
      GhostTakes t i steps
      (record (wires t i) { up = bytes_not_delivered n (wires t i).up; asking = []; down = (wires t i).down ++ told })
      u → (job_state t i).served ≡ true → (job_state u i).served ≡ false → AnswersSome n t i steps u
  BreaksOff : (memory : Bool) (asked : List AbstractRequest) (rest told : List ℕ) (before : List Transition)
      → Completes t i n asked rest → AnswersEach i asked before → IsCutShort memory t.users t.infos (t.jobs i)
      → steps ≡ before ++ By i (actions.Breaks memory) ∷ [] →
      GhostTakes t i steps
      (record (wires t i) {
        up = bytes_not_delivered n (wires t i).up;
        asking = [];
        down =
            replies_kept memory ((wires t i).down ++ told);
      }) u → AnswersSome n t i steps u
  WasOver : (job_state t i).served ≡ false → steps ≡ []
      → GhostTakes t i [] (record (wires t i) { up = bytes_not_delivered n (wires t i).up }) u
      → AnswersSome n t i steps u
