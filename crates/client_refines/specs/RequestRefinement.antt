-- That both ask for the same.
use Rattle.std.specs.Prelude.{slice_get, ℕ, ◌≡◌, Option, Some, None, List, [], ◌∷◌}
use Rattle.frame_join.specs.FrameHistory.{JoinHistory}
use Rattle.wire_message.specs.declared.message.Request.{Request}
use Rattle.wire_message.specs.declared.message.Request.TheVariants as requests
use Rattle.wire_message.specs.declared.message.ControlAction.TheVariants as actions
use Rattle.md5_auth.specs.ChallengeReading.{answer_of}
use Rattle.client_replies.specs.Asking.{request_for, goodbye, farewell}
use Rattle.client_replies.specs.GivenValues.{blank_value}
use Rattle.wire_message.specs.WireValues.{wire_of}
use Rattle.client_replies.specs.declared.progress.JobTarget.{JobTarget}
use Rattle.client_replies.specs.declared.progress.Progress.{Progress}
use Rattle.client_replies.specs.declared.progress.Progress.TheVariants as stages
use Rattle.client_replies.specs.declared.progress.Notes.{Notes}
use Rattle.system_model.specs.AbstractMessages as words
use Rattle.system_model.specs.Client as model
use Rattle.client_refines.specs.ClientRefinement.{task_of, descs, WaitsAs, IsApt}
use Rattle.sane_fixed.specs.declared.kind.Kind.{Kind}
use Rattle.option_desc.specs.declared.descriptor.Descriptor.{Descriptor}
use Rattle.option_desc.specs.declared.value.Value.{Value}
use Rattle.option_desc.specs.Reads.{read_value}
use Rattle.wire_message.specs.declared.message.WireValue.{WireValue}

-- a GET, of an option as the descriptors tell it, and a SET, of a value that a text reads as there
pub record IsGet (word : ℕ) (known : List Descriptor) (n : ℕ) (device option : ℕ) (kind : Kind)
    (value : WireValue) : Type 0 where
  pub device_is : device ≡ word
  pub number : option ≡ n
  pub desc : Descriptor
  pub stands : slice_get known n ≡ Some desc
  pub kind_is : kind ≡ desc.kind
  pub value_is : value ≡ blank_value desc.kind desc.size

pub record IsSet (word : ℕ) (known : List Descriptor) (n : ℕ) (request_for : Value) (device option : ℕ) (kind : Kind)
    (value : WireValue) : Type 0 where
  pub device_is : device ≡ word
  pub number : option ≡ n
  pub desc : Descriptor
  pub stands : slice_get known n ≡ Some desc
  pub kind_is : kind ≡ desc.kind
  pub text : List ℕ
  pub reads : read_value desc text ≡ Some request_for
  pub value_is : value ≡ wire_of request_for

-- **the same requests (`IsRequest`, `AreRequests`, `AsksAt`)**: which request of the wire is which of the model, for a
-- client of that target and device word, with these descriptors. For each thing waited for: the request made as the
-- wait begins, or later.
abbrev pub IsRequest : JobTarget → ℕ → List Descriptor → Request → words.AbstractRequest → Type 0
IsRequest target word known (requests.Init version user) words.Init = (version ≡ 16777219) × (user ≡ target.user)
IsRequest target word known requests.GetDevices words.GetDevices = Unit {0}
IsRequest target word known (requests.Open name) words.Open = name ≡ target.device
IsRequest target word known (requests.Authorize resource user answer) (words.Authorize challenge) =
    (resource ≡ challenge) × (user ≡ target.user) × (answer_of resource target.password ≡ Some answer)
IsRequest target word known (requests.GetOptionDescriptors device) words.Describe = device ≡ word
IsRequest target word known (requests.ControlOption device option actions.GetValue kind value) (words.Get n) =
    IsGet word known n device option kind value
IsRequest target word known (requests.ControlOption device option actions.SetValue kind value)
    (words.Set n request_for) = IsSet word known n request_for device option kind value
IsRequest target word known (requests.GetParameters device) words.Parameters = device ≡ word
IsRequest target word known (requests.Start device) words.Start = device ≡ word
IsRequest target word known (requests.Cancel device) words.Cancel = device ≡ word
IsRequest target word known (requests.Close device) words.Close = device ≡ word
IsRequest target word known requests.Exit words.Exit = Unit {0}
IsRequest target word known q r = ⊥

-- **what a call spells (`ExpectedRequest`, `SpellsSent`, `SpellsSentAt`)**: the model's request, with the device word
-- and the descriptors of that time. The bytes sent spell such requests, one behind the other.
--
-- what the model asks for as the client has that device word and knows these descriptors
pub record ExpectedRequest : Type 0 where
  pub request : words.AbstractRequest
  pub word : ℕ
  pub known : List Descriptor

abbrev pub asks_of : ℕ → List Descriptor → List words.AbstractRequest → List ExpectedRequest
asks_of word known [] = []
asks_of word known (r ∷ rs) = record { request = r; word = word; known = known } ∷ asks_of word known rs

abbrev pub AreRequests : JobTarget → List Request → List ExpectedRequest → Type 0
AreRequests target [] [] = Unit {0}
AreRequests target (q ∷ qs) (a ∷ asks) = IsRequest target a.word a.known q a.request × AreRequests target qs asks
AreRequests target qs asks = ⊥

abbrev pub request_list : Option Request → List Request
request_list None = []
request_list (Some q) = q ∷ []

-- Both ask for the same. Two requests are made elsewhere: AUTHORIZE asks for the reply to OPEN that comes behind its
-- word, and the START of a further page goes out as the page's file is taken.
abbrev pub AsksAt : JobTarget → ℕ → List Descriptor → Progress → Option Request → List words.AbstractRequest → Type 0
AsksAt target word known stages.Reopening q rs = q ≡ None
AsksAt target word known stages.Turning q rs = (q ≡ None) × (rs ≡ words.Start ∷ [])
AsksAt target word known progress q rs = AreRequests target (request_list q) (asks_of word known rs)

pub record AsksAlike (target : JobTarget) (word : ℕ) (progress : Progress) (m : model.ClientView) : Type 0 where
  pub requests
      : AsksAt target word m.known progress (request_for target word progress)
      (model.requests_sent (task_of target.task) m.stage)
  pub farewells : AreRequests target (farewell word progress) (asks_of word m.known (model.abstract_farewell m.stage))

abbrev pub RequestsAreAlike : Type 0
RequestsAreAlike =
    ((target : JobTarget) (job : model.AbstractJob) (progress : Progress) (notes : Notes) (past : JoinHistory)
    (m : model.ClientView)
    → WaitsAs job progress notes past m → IsApt target progress notes → m.known ≡ descs notes.known
    → AsksAlike target notes.word progress m)
    × ((target : JobTarget) (word : ℕ) (known : List Descriptor)
    → AreRequests target (goodbye target.task word)
    (asks_of word known (model.abstract_goodbye (task_of target.task))))
