-- The words that clients and daemon speak of: settings, answers, requests and replies, without their bytes.
use Rattle.sane_fixed.specs.declared.byte_order.ByteOrder.{ByteOrder as Order}
use Rattle.sane_fixed.specs.declared.params.Params.{Params}
use Rattle.sane_fixed.specs.declared.status.Status.{Status}
use Rattle.option_desc.specs.declared.descriptor.Descriptor.{Descriptor}
use Rattle.option_desc.specs.declared.value.Value.{Value}
use Rattle.std.specs.Prelude.{ℕ, List, [], ◌∷◌, Bool, true, false, if◌then◌else◌, ◌==◌}

-- whether two texts are equal
abbrev pub same_text : List ℕ → List ℕ → Bool
same_text [] [] = true
same_text [] (y ∷ ys) = false
same_text (x ∷ xs) [] = false
same_text (x ∷ xs) (y ∷ ys) = if x == y then same_text xs ys else false

-- what a daemon asks a user to answer before it opens a device
abbrev pub Challenge : Type 0
Challenge = List ℕ

-- a setting of a job: the name of an option, and a text
pub record RequestedSetting : Type 0 where
  pub name : List ℕ
  pub text : List ℕ

pub record AbstractInfo : Type 0 where
  pub inexact : Bool
  pub reload_options : Bool
  pub reload_params : Bool

-- what became of a setting
pub record AbstractReport : Type 0 where
  pub setting : RequestedSetting
  pub asked : Value
  pub given : Value
  pub info : AbstractInfo

-- **words (`AbstractRequest`, `AbstractReply`, `AbstractReport`)**: what clients and daemon say to each other:
-- an answer, not its spelling.
--
-- the requests of the client's rules; those about a device are about the one that the session opened
pub data AbstractRequest : Type 0 where
  Init : AbstractRequest
  GetDevices : AbstractRequest
  Open : AbstractRequest
  Authorize : (challenge : Challenge) → AbstractRequest
  Describe : AbstractRequest
  Get : (n : ℕ) → AbstractRequest
  Set : (n : ℕ) → (value : Value) → AbstractRequest
  Parameters : AbstractRequest
  Start : AbstractRequest
  Cancel : AbstractRequest
  Close : AbstractRequest
  Exit : AbstractRequest

-- an answer: what a reply says of its procedure, or that it was refused; AUTHORIZE is answered by what its OPEN comes
-- to
pub data AbstractReply : Type 0 where
  Greeted : AbstractReply
  Listed : (devices : List ℕ) → AbstractReply
  Opened : AbstractReply
  Challenged : (challenge : Challenge) → AbstractReply
  Described : (descriptors : List Descriptor) → AbstractReply
  Got : (value : Value) → AbstractReply
  Gave : (value : Value) → (info : AbstractInfo) → AbstractReply
  Shaped : (params : Params) → AbstractReply
  Begun : (order : Order) → AbstractReply
  Acked : AbstractReply
  Refused : (status : Status) → AbstractReply
