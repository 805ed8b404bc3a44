-- The client's rules: what a job comes to by each reply. Nothing here speaks of bytes.
use Rattle.std.specs.Prelude.{ℕ, ◌&&◌, nat_lt, Result, Ok, Err, Bool, true, false, if◌then◌else◌, Option, Some, None}
use Rattle.std.specs.Prelude.{is_none, List, [], ◌∷◌, ◌++◌, map, position, slice_get}
use Rattle.std.specs.Str.{bytes_eq}
use Rattle.sane_fixed.specs.declared.status.Status.{Status}
use Rattle.sane_fixed.specs.declared.status.Status.TheVariants as statuses
use Rattle.sane_fixed.specs.Status.{status_of}
use Rattle.sane_fixed.specs.declared.kind.Kind.{Kind}
use Rattle.sane_fixed.specs.declared.kind.Kind.TheVariants as kinds
use Rattle.sane_fixed.specs.declared.info.Info.{Info}
use Rattle.sane_fixed.specs.declared.byte_order.ByteOrder.{ByteOrder}
use Rattle.option_desc.specs.declared.descriptor.Descriptor.{Descriptor}
use Rattle.option_desc.specs.declared.value.Value.{Value}
use Rattle.option_desc.specs.Reads.{read_value}
use Rattle.sane_fixed.specs.Cap.{has_cap}
use Rattle.md5_auth.specs.ChallengeReading.{answer_of}
use Rattle.frame_join.specs.declared.join_stage.JoinFault.{JoinFault}
use Rattle.frame_join.specs.declared.join_stage.JoinFault.TheVariants as faults
use Rattle.frame_join.specs.FrameHistory.{JoinHistory, after_end, answer_of_end as joined_answer}
use Rattle.wire_message.specs.declared.message.Reply.{Reply}
use Rattle.wire_message.specs.declared.message.Reply.TheVariants as replies
use Rattle.wire_message.specs.declared.message.WireValue.{WireValue}
use Rattle.scan_job.specs.declared.job.Task.{Task}
use Rattle.scan_job.specs.declared.job.Task.TheVariants as tasks
use Rattle.scan_job.specs.declared.outcome.Why.TheVariants as whys
use Rattle.client_replies.specs.declared.progress.JobTarget.{JobTarget}
use Rattle.client_replies.specs.declared.progress.Progress.{Progress}
use Rattle.client_replies.specs.declared.progress.Progress.TheVariants as stages
use Rattle.client_replies.specs.declared.progress.Notes.{Notes}
use Rattle.client_replies.specs.declared.progress.Next.{Next}
use Rattle.client_replies.specs.declared.progress.Next.TheVariants.{Wait, Finish, Stop}
use Rattle.scan_job.specs.KnownValues.{tells_value, with_known_value}
use Rattle.client_replies.specs.GivenValues.{given_like, wire_value_in}

-- what a reply makes of a job
pub record Turn : Type 0 where
  pub next : Next
  pub notes : Notes

abbrev pub turn : Notes → Next → Turn
turn notes next = record { next = next; notes = notes }

-- ---- endings

abbrev pub stop_by_answer : Status → Next
stop_by_answer status = Stop status whys.Answer

abbrev pub stop_malformed : Next
stop_malformed = Stop statuses.IoError whys.Malformed

abbrev pub stop_bad_setting : Next
stop_bad_setting = Stop statuses.Inval whys.Setting

abbrev pub if_good : Status → Next → Next
if_good statuses.Good next = next
if_good status next = stop_by_answer status

-- ---- the replies to INIT and GET_DEVICES

abbrev pub after_greeting : Task → Progress
after_greeting tasks.List = stages.Listing
after_greeting task = stages.Opening

abbrev pub after_init_reply : Task → Reply → Next
after_init_reply task (replies.Init status version) = if_good status (Wait (after_greeting task))
after_init_reply task reply = stop_malformed

abbrev pub after_list_reply : Reply → Next
after_list_reply (replies.GetDevices status devices) = if_good status (Finish devices)
after_list_reply reply = stop_malformed

-- ---- the replies to OPEN and AUTHORIZE

abbrev pub after_challenge : List ℕ → Option (List ℕ) → Next
after_challenge resource (Some answer) = Wait (stages.Allowing resource answer)
after_challenge resource None = Stop statuses.AccessDenied whys.Plain

abbrev pub after_admission : Notes → Status → ℕ → Turn
after_admission notes statuses.Good word = turn (record notes { word = word }) (Wait stages.Describing)
after_admission notes status word = turn notes (stop_by_answer status)

-- a resource that is not empty asks for AUTHORIZE, whatever the status
abbrev pub opened_with : List ℕ → Notes → Status → ℕ → List ℕ → Turn
opened_with password notes status word [] = after_admission notes status word
opened_with password notes status word (b ∷ bytes) =
    turn notes (after_challenge (b ∷ bytes) (answer_of (b ∷ bytes) password))

abbrev pub after_open_reply : List ℕ → Notes → Reply → Turn
after_open_reply password notes (replies.Open status word resource) = opened_with password notes status word resource
after_open_reply password notes reply = turn notes stop_malformed

abbrev pub after_authorize_reply : Reply → Next
after_authorize_reply replies.Authorize = Wait stages.Reopening
after_authorize_reply reply = stop_malformed

-- ---- options shown and settings put

-- an option whose value is still to be asked for
abbrev pub wants_value : Descriptor × Option Value → Bool
wants_value option = tells_value option.0 && is_none option.1

-- an array has at most 1,024 elements
abbrev pub element_number : Option ℕ → Option ℕ
element_number None = None
element_number (Some n) = if nat_lt n 1024 then Some n else None

abbrev pub gets_at : Option (Descriptor × Option Value) → ℕ → Next
gets_at None n = Finish []
gets_at (Some option) n = Wait (stages.Getting n option.0.kind option.0.size)

abbrev pub gets : List (Descriptor × Option Value) → Option ℕ → Next
gets known None = Finish []
gets known (Some n) = gets_at (slice_get known n) n

-- the next value that is asked for, if there is one
abbrev pub next_shown : List (Descriptor × Option Value) → Next
next_shown known = gets known (element_number (position wants_value known))

abbrev pub after_settings : Task → List (Descriptor × Option Value) → Next
after_settings tasks.List known = Finish []
after_settings tasks.Show known = next_shown known
after_settings tasks.SetOnly known = Finish []
after_settings tasks.Scan known = Wait (stages.Starting true)
after_settings (tasks.Batch count) known = Wait (stages.Starting true)

-- the option of a setting's name
abbrev pub option_number_of : List ℕ → List (Descriptor × Option Value) → Option ℕ
option_number_of name known = element_number (position (λ option. bytes_eq option.0.name name) known)

abbrev pub puts : List ℕ → ℕ → Kind → Option Value → Next
puts name n kind None = stop_bad_setting
puts name n kind (Some asked) = Wait (stages.Putting n kind name asked)

abbrev pub puts_at : List ℕ → List ℕ → ℕ → Option (Descriptor × Option Value) → Next
puts_at name text n None = stop_bad_setting
puts_at name text n (Some option) = puts name n option.0.kind (read_value option.0 text)

abbrev pub puts_named : List ℕ → List ℕ → List (Descriptor × Option Value) → Option ℕ → Next
puts_named name text known None = stop_bad_setting
puts_named name text known (Some n) = puts_at name text n (slice_get known n)

abbrev pub next_of : Task → Notes → List (List ℕ × List ℕ) → Turn
next_of task notes [] = turn notes (after_settings task notes.known)
next_of task notes (setting ∷ left) =
    turn (record notes { left = left })
    (puts_named setting.0 setting.1 notes.known (option_number_of setting.0 notes.known))

-- the next setting, by the options as they were told, or what comes after them
unfoldable pub next_setting : Task → Notes → Turn
next_setting task notes = next_of task notes notes.left

-- the descriptors
abbrev pub with_no_value : Descriptor → Descriptor × Option Value
with_no_value desc = (desc, None)

abbrev pub after_describe_reply : Task → Notes → Reply → Turn
after_describe_reply task notes (replies.GetOptionDescriptors descriptors) =
    next_setting task (record notes { known = map with_no_value descriptors })
after_describe_reply task notes reply = turn notes stop_malformed

-- the descriptors are asked for again where they changed
abbrev pub after_put : Task → Notes → Bool → Turn
after_put task notes true = turn notes (Wait stages.Describing)
after_put task notes false = next_setting task notes

abbrev pub given_to : Task → Notes → Kind → List ℕ → Value → Info → Option Value → Turn
given_to task notes kind name asked info None = turn notes stop_malformed
given_to task notes kind name asked info (Some given) =
    after_put task
    (record notes {
      reports =
          notes.reports ++ record { name = name; kind = kind; asked = asked; given = given; info = info } ∷ [];
    })
    (has_cap info.0 2)

-- a value of a CONTROL_OPTION reply: no resource, a good status, and the kind that was sent, in that order
abbrev pub of_kind : Kind → Kind → Option Value → Option Value
of_kind kinds.Bool kinds.Bool value = value
of_kind kinds.Int kinds.Int value = value
of_kind kinds.Fixed kinds.Fixed value = value
of_kind kinds.String kinds.String value = value
of_kind sent given value = None

abbrev pub put_good : Task → Notes → Kind → List ℕ → Value → Status → Info → Kind → WireValue → Turn
put_good task notes kind name asked statuses.Good info given value =
    given_to task notes kind name asked info (of_kind kind given (given_like asked value))
put_good task notes kind name asked status info given value = turn notes (stop_by_answer status)

abbrev pub put_without_resource : Task → Notes → Kind → List ℕ → Value → Status → Info → Kind → WireValue → List ℕ
    → Turn
put_without_resource task notes kind name asked status info given value [] =
    put_good task notes kind name asked status info given value
put_without_resource task notes kind name asked status info given value (b ∷ bytes) = turn notes stop_malformed

abbrev pub was_put : Task → Notes → Kind → List ℕ → Value → Reply → Turn
was_put task notes kind name asked (replies.ControlOption status info given value resource) =
    put_without_resource task notes kind name asked status info given value resource
was_put task notes kind name asked reply = turn notes stop_malformed

abbrev pub after_get_value : Notes → ℕ → Option Value → Turn
after_get_value notes n None = turn notes stop_malformed
after_get_value notes n (Some value) =
    turn (record notes { known = with_known_value n value notes.known })
    (next_shown (with_known_value n value notes.known))

abbrev pub got_good : Notes → ℕ → Kind → Status → Kind → WireValue → Turn
got_good notes n kind statuses.Good given value =
    after_get_value notes n (of_kind kind given (wire_value_in kind value))
got_good notes n kind status given value = turn notes (stop_by_answer status)

abbrev pub got_without_resource : Notes → ℕ → Kind → Status → Kind → WireValue → List ℕ → Turn
got_without_resource notes n kind status given value [] = got_good notes n kind status given value
got_without_resource notes n kind status given value (b ∷ bytes) = turn notes stop_malformed

abbrev pub was_got : Notes → ℕ → Kind → Reply → Turn
was_got notes n kind (replies.ControlOption status info given value resource) =
    got_without_resource notes n kind status given value resource
was_got notes n kind reply = turn notes stop_malformed

-- ---- the replies to START and GET_PARAMETERS

-- no page is left for a batch that has one
abbrev pub is_all : Task → Bool → ℕ → Bool
is_all tasks.List first file = false
is_all tasks.Show first file = false
is_all tasks.SetOnly first file = false
is_all tasks.Scan first file = false
is_all (tasks.Batch count) first file = first && nat_lt 1 file

abbrev pub started_by : Bool → Status → ℕ → ByteOrder → Next
started_by all statuses.Good port order = Wait (stages.Shaping port order)
started_by all statuses.NoDocs port order = if all then Finish [] else stop_by_answer statuses.NoDocs
started_by all status port order = stop_by_answer status

abbrev pub started_with : Bool → Status → ℕ → ByteOrder → List ℕ → Next
started_with all status port order [] = started_by all status port order
started_with all status port order (b ∷ bytes) = stop_malformed

abbrev pub after_start_reply : Task → Bool → ℕ → Reply → Next
after_start_reply task first file (replies.Start status port order resource) =
    started_with (is_all task first file) status port order resource
after_start_reply task first file reply = stop_malformed

-- a frame that makes no picture
abbrev pub stop_unjoined : JoinFault → Next
stop_unjoined faults.Shape = stop_malformed
stop_unjoined faults.Long = Stop statuses.IoError whys.Long
stop_unjoined faults.Short = Stop statuses.IoError whys.Short
stop_unjoined faults.NoMem = Stop statuses.NoMem whys.Memory

abbrev pub begun_by : Option JoinFault → ℕ → Next
begun_by None port = Wait (stages.Imaging port false)
begun_by (Some fault) port = stop_unjoined fault

-- **heard (`turn_after_reply`)**: what a reply makes of a job, one function for each reply and each thing waited for.
-- The job waits on, is done, or ends with a status and why. The tests come in this order: a resource where none may be,
-- the status, the value's shape.
--
-- what a reply makes of a job that does not wait for the parameters of a frame
abbrev pub turn_after_reply : JobTarget → Progress → Notes → Reply → Turn
turn_after_reply target stages.Greeting notes reply = turn notes (after_init_reply target.task reply)
turn_after_reply target stages.Listing notes reply = turn notes (after_list_reply reply)
turn_after_reply target stages.Opening notes reply = after_open_reply target.password notes reply
turn_after_reply target (stages.Allowing resource answer) notes reply = turn notes (after_authorize_reply reply)
turn_after_reply target stages.Reopening notes reply = after_open_reply target.password notes reply
turn_after_reply target stages.Describing notes reply = after_describe_reply target.task notes reply
turn_after_reply target (stages.Putting n kind name asked) notes reply = was_put target.task notes kind name asked reply
turn_after_reply target (stages.Getting n kind size) notes reply = was_got notes n kind reply
turn_after_reply target (stages.Starting first) notes reply =
    turn notes (after_start_reply target.task first notes.file reply)
turn_after_reply target (stages.Shaping port order) notes reply = turn notes stop_malformed
turn_after_reply target (stages.Imaging port after_open_reply) notes reply = turn notes stop_malformed
turn_after_reply target stages.Turning notes reply = turn notes stop_malformed
turn_after_reply target stages.Over notes reply = turn notes stop_malformed

-- ---- the end of a frame

-- the picture of a page is whole
abbrev pub page_whole : Task → ℕ → Next
page_whole (tasks.Batch count) file = if nat_lt file count then Wait stages.Turning else Finish []
page_whole task file = Finish []

abbrev pub frame_joined : Task → ℕ → Result Bool JoinFault → Next
frame_joined task file (Ok true) = page_whole task file
frame_joined task file (Ok false) = Wait (stages.Starting false)
frame_joined task file (Err fault) = stop_unjoined fault

pub record FrameEnd : Type 0 where
  pub next : Next
  pub history : JoinHistory

abbrev pub frame_closed : Task → ℕ → JoinHistory → FrameEnd
frame_closed task file past =
    record { next = frame_joined task file (joined_answer (after_end past)); history = after_end past }

-- the status of an end record: 5 ends the frame, 0 and what is no status may not stand there, and any other ends the
-- job
abbrev pub frame_ended_by : Task → ℕ → JoinHistory → Option Status → FrameEnd
frame_ended_by task file past None = record { next = stop_malformed; history = past }
frame_ended_by task file past (Some statuses.Good) = record { next = stop_malformed; history = past }
frame_ended_by task file past (Some statuses.Eof) = frame_closed task file past
frame_ended_by task file past (Some status) = record { next = stop_by_answer status; history = past }

abbrev pub frame_ended : Task → ℕ → JoinHistory → ℕ → FrameEnd
frame_ended task file past status = frame_ended_by task file past (status_of status)
