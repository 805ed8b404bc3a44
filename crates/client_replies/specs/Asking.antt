-- The client's requests.
use Rattle.std.specs.Prelude.{ℕ, Option, Some, None, List, [], ◌∷◌}
use Rattle.wire_message.specs.declared.message.ControlAction.TheVariants as actions
use Rattle.wire_message.specs.declared.message.Request.{Request}
use Rattle.wire_message.specs.declared.message.Request.TheVariants as requests
use Rattle.scan_job.specs.declared.job.Task.{Task}
use Rattle.scan_job.specs.declared.job.Task.TheVariants as tasks
use Rattle.client_replies.specs.declared.progress.JobTarget.{JobTarget}
use Rattle.client_replies.specs.declared.progress.Progress.{Progress}
use Rattle.client_replies.specs.declared.progress.Progress.TheVariants as stages
use Rattle.client_replies.specs.GivenValues.{blank_value}
use Rattle.wire_message.specs.WireValues.{wire_of}

-- **asked (`request_for`, `goodbye`, `farewell`)**: the request that begins a wait; what a job that is done, or
-- cancelled, sends last.
abbrev pub request_for : JobTarget → ℕ → Progress → Option Request
request_for target word stages.Greeting = Some (requests.Init 16777219 target.user)
request_for target word stages.Listing = Some requests.GetDevices
request_for target word stages.Opening = Some (requests.Open target.device)
request_for target word (stages.Allowing resource answer) = Some (requests.Authorize resource target.user answer)
request_for target word stages.Reopening = None
request_for target word stages.Describing = Some (requests.GetOptionDescriptors word)
request_for target word (stages.Putting n kind name value) =
    Some (requests.ControlOption word n actions.SetValue kind (wire_of value))
request_for target word (stages.Getting n kind size) =
    Some (requests.ControlOption word n actions.GetValue kind (blank_value kind size))
request_for target word (stages.Starting first) = Some (requests.Start word)
request_for target word (stages.Shaping port order) = Some (requests.GetParameters word)
request_for target word (stages.Imaging port opened) = None
request_for target word stages.Turning = None
request_for target word stages.Over = None

-- what a job that is done sends last
abbrev pub goodbye : Task → ℕ → List Request
goodbye tasks.List word = requests.Exit ∷ []
goodbye task word = requests.Close word ∷ requests.Exit ∷ []

-- what a job that is cancelled sends last: CANCEL from a frame's START reply to its end record
abbrev pub farewell : ℕ → Progress → List Request
farewell word (stages.Shaping port order) = requests.Cancel word ∷ requests.Exit ∷ []
farewell word (stages.Imaging port opened) = requests.Cancel word ∷ requests.Exit ∷ []
farewell word progress = requests.Exit ∷ []
