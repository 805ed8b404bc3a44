-- The model's requests and replies on the way, as the bytes of connections.
use Rattle.std.specs.Prelude.{ℕ, ◌≡◌, ◌++◌, IsSome, Option, Some, None, List, [], ◌∷◌}
use Rattle.sane_fixed.specs.declared.status.Status.{Status}
use Rattle.sane_fixed.specs.Status.{status_code}
use Rattle.sane_fixed.specs.declared.device_info.DeviceInfo.{DeviceInfo}
use Rattle.wire_message.specs.declared.message.Reply.{Reply as Answer}
use Rattle.wire_message.specs.declared.message.Reply.TheVariants as replies
use Rattle.data_records.specs.declared.records.RecordPhase.{RecordPhase}
use Rattle.data_records.specs.declared.records.RecordPhase.TheVariants as phases
use Rattle.data_records.specs.Records.{CarriesRecords, RecordsContinue}
use Rattle.scan_job.specs.declared.job.Job.{Job}
use Rattle.client_replies.specs.declared.progress.Progress.{Progress}
use Rattle.client_replies.specs.declared.progress.Progress.TheVariants as stages
use Rattle.client_replies.specs.ProtocolStates.{target_of, wanted_port}
use Rattle.net_client.specs.ReplyPieces.{IsReply}
use Rattle.system_model.specs.AbstractMessages.{AbstractReply, AbstractRequest}
use Rattle.system_model.specs.Client as model
use Rattle.system_model.specs.Daemon.{TransferState, Quiet, Waiting, Streaming, Ending}
use Rattle.client_refines.specs.DecodedReplies.{Says, decoded_reply_at}
use Rattle.client_refines.specs.RequestRefinement.{asks_of}
use Rattle.client_refines.specs.PieceRefinement.{SpellsSent}

-- ---- requests

-- **on the way (`SpellsAsked`, `SpellsReplies`, `FlightMatches`)**: bytes that spell the requests that are to be
-- answered; the one reply that is due, with AUTHORIZE's word before that of OPEN; whole records of the frame's data so
-- far, or all of them with their end, and none while the job waits for anything else.
--
-- the text spells these requests of the job's client, which has the device word 0 and knows what the client view knows
abbrev pub SpellsAsked : Job → model.ClientView → List AbstractRequest → List ℕ → Type 0
SpellsAsked job m asked text = SpellsSent (target_of job) text (asks_of 0 m.known asked)

-- ---- replies

-- a device that is opened gets the first word
abbrev pub HasFirstWord : Answer → Type 0
HasFirstWord (replies.Open status word resource) = word ≡ 0
HasFirstWord answer = Unit {0}

-- the text spells a reply to what is waited for, and that is this answer of the model
pub record SpellsReply (place : DeviceInfo → ℕ) (progress : Progress) (r : AbstractReply) (text : List ℕ) : Type 0 where
  pub answer : Answer
  pub is : IsReply progress text answer
  pub says : decoded_reply_at place progress answer ≡ Says r
  pub word : HasFirstWord answer

-- before the reply of OPEN comes AUTHORIZE's word, where that is waited for
pub record SpellsReplyBehind (place : DeviceInfo → ℕ) (progress : Progress) (r : AbstractReply)
    (text : List ℕ) : Type 0 where
  pub front : List ℕ
  pub back : List ℕ
  pub text_is : text ≡ front ++ back
  pub word : IsReply progress front replies.Authorize
  pub tells : SpellsReply place stages.Reopening r back

abbrev pub SpellsAwaitedReply : (DeviceInfo → ℕ) → Progress → AbstractReply → List ℕ → Type 0
SpellsAwaitedReply place (stages.Allowing resource answer) r text =
    SpellsReplyBehind place (stages.Allowing resource answer) r text
SpellsAwaitedReply place progress r text = SpellsReply place progress r text

-- the text of the replies that are due to a client that is under way: there is never more than one
abbrev pub SpellsReplies : (DeviceInfo → ℕ) → Progress → List AbstractReply → List ℕ → Type 0
SpellsReplies place progress [] text = text ≡ []
SpellsReplies place progress (r ∷ []) text = SpellsAwaitedReply place progress r text
SpellsReplies place progress (r ∷ s ∷ due) text = ⊥

-- ---- the data of a frame

-- the bytes on the way to a reader: whole records so far, or all of them with their end
abbrev pub CarriesFlight : RecordPhase → List ℕ → List ℕ → Option Status → Type 0
CarriesFlight phase text flight None = CarriesRecords phase phases.Head text flight
CarriesFlight phase text flight (Some status) = (code : Status) × (code ≡ status)
    × RecordsContinue phase text flight (status_code code)

-- no byte of a frame is on the way, and no end of one
pub record NothingFlows (image : Option (List ℕ)) (flight : List ℕ) (ending : Option Status) : Type 0 where
  pub image_is : image ≡ None
  pub flight_is : flight ≡ []
  pub ending_is : ending ≡ None

-- a frame that waits for its connection, which the client wants
pub record IsNotDialled (progress : Progress) (image : Option (List ℕ)) (flight : List ℕ)
    (ending : Option Status) : Type 0 where
  pub wants : IsSome (wanted_port progress)
  pub image_is : image ≡ None
  pub flight_is : flight ≡ []
  pub ending_is : ending ≡ None

-- the frame's data on its connection
pub record IsDialled (progress : Progress) (phase : RecordPhase) (image : Option (List ℕ)) (flight : List ℕ)
    (ending : Option Status) : Type 0 where
  pub wants : wanted_port progress ≡ None
  pub text : List ℕ
  pub image_is : image ≡ Some text
  pub carried : CarriesFlight phase text flight ending

abbrev pub FlowsAt : TransferState → Progress → RecordPhase → Option (List ℕ) → List ℕ → Option Status → Type 0
FlowsAt Waiting progress phase image flight ending = IsNotDialled progress image flight ending
FlowsAt Quiet progress phase image flight ending = IsDialled progress phase image flight ending
FlowsAt Streaming progress phase image flight ending = IsDialled progress phase image flight ending
FlowsAt Ending progress phase image flight ending = IsDialled progress phase image flight ending

abbrev pub FlowsBy : model.AbstractProgress → TransferState → Progress → RecordPhase → Option (List ℕ) → List ℕ
    → Option Status → Type 0
FlowsBy (model.Imaging params heard) c progress phase image flight ending = FlowsAt c progress phase image flight ending
FlowsBy g c progress phase image flight ending = NothingFlows image flight ending

-- a client that is under way has a data connection for the data of a frame alone
abbrev pub FlightMatches : model.JobStage → TransferState → Progress → RecordPhase → Option (List ℕ) → List ℕ
    → Option Status → Type 0
FlightMatches model.Idle c progress phase image flight ending = NothingFlows image flight ending
FlightMatches (model.Running g) c progress phase image flight ending = FlowsBy g c progress phase image flight ending
FlightMatches model.Done c progress phase image flight ending = Unit {0}
FlightMatches (model.Ended status why) c progress phase image flight ending = Unit {0}
