-- What a turn of a client can be, in rows: by a reply, and by the record that ends a frame.
use Rattle.std.proofs.Common.{◌≡◌, ℕ, Option, Some, None, Bool, true, false, List, [], ◌∷◌, refl}
use Rattle.std.specs.Prelude.{Result, Ok, Err, if◌then◌else◌, nat_lt, position, slice_get}
use Rattle.sane_fixed.specs.declared.byte_order.ByteOrder.{ByteOrder}
use Rattle.sane_fixed.specs.declared.device_info.DeviceInfo.{DeviceInfo}
use Rattle.sane_fixed.specs.declared.info.Info.{Info}
use Rattle.sane_fixed.specs.declared.kind.Kind.{Kind}
use Rattle.sane_fixed.specs.declared.params.Params.{Params}
use Rattle.sane_fixed.specs.declared.status.Status.{Status}
use Rattle.sane_fixed.specs.declared.status.Status.TheVariants as statuses
use Rattle.sane_fixed.specs.Cap.{has_cap}
use Rattle.option_desc.specs.declared.descriptor.Descriptor.{Descriptor}
use Rattle.option_desc.specs.declared.value.Value.{Value}
use Rattle.option_desc.specs.Reads.{read_value}
use Rattle.md5_auth.specs.ChallengeReading.{answer_of as md5_answer}
use Rattle.frame_join.specs.declared.join_stage.JoinFault.{JoinFault}
use Rattle.frame_join.specs.declared.join_stage.JoinFault.TheVariants as faults
use Rattle.frame_join.specs.FrameHistory.{JoinHistory, IsJoined, after_begin, after_end, answer_of_end as joined_answer}
use Rattle.wire_message.specs.declared.message.Reply.{Reply}
use Rattle.wire_message.specs.declared.message.Reply.TheVariants as replies
use Rattle.wire_message.specs.declared.message.WireValue.{WireValue}
use Rattle.scan_job.specs.declared.job.Task.{Task}
use Rattle.scan_job.specs.declared.job.Task.TheVariants as tasks
use Rattle.scan_job.specs.declared.outcome.Why.{Why}
use Rattle.scan_job.specs.declared.outcome.Why.TheVariants as whys
use Rattle.scan_job.specs.KnownValues.{with_known_value}
use Rattle.client_replies.specs.declared.progress.JobTarget.{JobTarget}
use Rattle.client_replies.specs.declared.progress.Progress.{Progress}
use Rattle.client_replies.specs.declared.progress.Progress.TheVariants as stages
use Rattle.client_replies.specs.declared.progress.Notes.{Notes}
use Rattle.client_replies.specs.declared.progress.Next.{Next}
use Rattle.client_replies.specs.declared.progress.Next.TheVariants.{Wait, Finish, Stop}
use Rattle.client_replies.specs.GivenValues.{given_like, wire_value_in}
use Rattle.client_replies.specs.ReplyTurns.{Turn, turn, stop_malformed, after_greeting, after_init_reply, after_list_reply, after_challenge, opened_with, after_authorize_reply, wants_value, element_number, gets_at, gets, after_settings, option_number_of, puts, puts_at, puts_named, next_of, next_setting, after_describe_reply, after_put, given_to, of_kind, was_put, after_get_value, was_got, is_all, started_by, after_start_reply, stop_unjoined, begun_by, page_whole, frame_joined, FrameEnd, frame_ended_by}
use Rattle.client_replies.specs.ProtocolStates.{Answer, shows, scans, heard_at, is_turning, next_progress}

-- ---- the rows of a reply

-- so a job ends: with another status than GOOD, and not for its output
abbrev pub IsFailing : Status → Why → Type 0
IsFailing statuses.Good why = ⊥
IsFailing status whys.Sink = ⊥
IsFailing status why = Unit {0}

-- the device word and the number of the file stay
abbrev pub Stays : Notes → Notes → Type 0
Stays was now = (now.word ≡ was.word) × (now.file ≡ was.file)

-- a job that asks for values shows them; where one came that one was asked for
abbrev pub MayShow : Task → Progress → Type 0
MayShow task (stages.Getting n kind size) = Unit {0}
MayShow task progress = shows task ≡ true

-- the reply to OPEN, or one that tells of options, where it is awaited
pub data BeforeStart : Progress → Reply → Type 0 where
  AtOpening : {status : Status} {word : ℕ} {resource : List ℕ} → BeforeStart stages.Opening (replies.Open status word resource)
  AtReopening : {status : Status} {word : ℕ} {resource : List ℕ} → BeforeStart stages.Reopening (replies.Open status word resource)
  AtDescribing : {descriptors : List Descriptor} → BeforeStart stages.Describing (replies.GetOptionDescriptors descriptors)
  AtPutting : {n : ℕ} {kind : Kind} {name : List ℕ} {asked : Value} {status : Status} {info : Info} {given : Kind} {value : WireValue} {resource : List ℕ} → BeforeStart (stages.Putting n kind name asked) (replies.ControlOption status info given value resource)
  AtGetting : {n : ℕ} {kind : Kind} {size : ℕ} {status : Status} {info : Info} {given : Kind} {value : WireValue} {resource : List ℕ} → BeforeStart (stages.Getting n kind size) (replies.ControlOption status info given value resource)

abbrev pub heard : Notes → Next → JoinHistory → Answer
heard notes next past = record { turn = turn notes next; history = past }

-- What a reply makes of a job with these notes and this history of the join: what it waited for, the reply, and what comes of it.
pub data TurnRow (task : Task) (password : List ℕ) (notes : Notes) (past : JoinHistory) : Progress → Reply → Answer → Type 0 where
  -- the job ends: it is refused, or the reply is malformed, or a plain password is asked for, or no option takes a setting
  Stops : {progress : Progress} {r : Reply} (now : Notes) (status : Status) (why : Why) → IsFailing status why → Stays notes now → TurnRow task password notes past progress r (heard now (Stop status why) past)
  -- INIT and GET_DEVICES
  Greets : {version : ℕ} → TurnRow task password notes past stages.Greeting (replies.Init statuses.Good version) (heard notes (Wait (after_greeting task)) past)
  Lists : (devices : List DeviceInfo) → TurnRow task password notes past stages.Listing (replies.GetDevices statuses.Good devices) (heard notes (Finish devices) past)
  -- OPEN and AUTHORIZE
  Challenges : {progress : Progress} {status : Status} {word : ℕ} (b : ℕ) (bytes answer : List ℕ) → BeforeStart progress (replies.Open status word (b ∷ bytes)) → md5_answer (b ∷ bytes) password ≡ Some answer
      → TurnRow task password notes past progress (replies.Open status word (b ∷ bytes)) (heard notes (Wait (stages.Allowing (b ∷ bytes) answer)) past)
  Admits : {progress : Progress} (word : ℕ) → BeforeStart progress (replies.Open statuses.Good word []) → TurnRow task password notes past progress (replies.Open statuses.Good word []) (heard (record notes { word = word }) (Wait stages.Describing) past)
  Allows : {resource answer : List ℕ} → TurnRow task password notes past (stages.Allowing resource answer) replies.Authorize (heard notes (Wait stages.Reopening) past)
  -- the options: they are told anew, one is put or got, all were shown, all were put, and a scan begins
  Reloads : {progress : Progress} {r : Reply} (now : Notes) → BeforeStart progress r → Stays notes now → TurnRow task password notes past progress r (heard now (Wait stages.Describing) past)
  Puts : {progress : Progress} {r : Reply} (now : Notes) (n : ℕ) (option : Descriptor × Option Value) (name text : List ℕ) (asked : Value) → slice_get now.known n ≡ Some option → read_value option.0 text ≡ Some asked → BeforeStart progress r → Stays notes now
      → TurnRow task password notes past progress r (heard now (Wait (stages.Putting n option.0.kind name asked)) past)
  Gets : {progress : Progress} {r : Reply} (now : Notes) (n : ℕ) (option : Descriptor × Option Value) → slice_get now.known n ≡ Some option → MayShow task progress → BeforeStart progress r → Stays notes now
      → TurnRow task password notes past progress r (heard now (Wait (stages.Getting n option.0.kind option.0.size)) past)
  ShowsAll : {progress : Progress} {r : Reply} (now : Notes) → MayShow task progress → BeforeStart progress r → Stays notes now → TurnRow task password notes past progress r (heard now (Finish []) past)
  SetsAll : {progress : Progress} {r : Reply} (now : Notes) → scans task ≡ false → BeforeStart progress r → Stays notes now → TurnRow task password notes past progress r (heard now (Finish []) past)
  Starts : {progress : Progress} {r : Reply} (now : Notes) → scans task ≡ true → BeforeStart progress r → Stays notes now → TurnRow task password notes past progress r (heard now (Wait (stages.Starting true)) past)
  -- START and GET_PARAMETERS
  Begins : {first : Bool} {port : ℕ} {order : ByteOrder} → TurnRow task password notes past (stages.Starting first) (replies.Start statuses.Good port order []) (heard notes (Wait (stages.Shaping port order)) past)
  RunsOut : {first : Bool} {port : ℕ} {order : ByteOrder} → is_all task first notes.file ≡ true → TurnRow task password notes past (stages.Starting first) (replies.Start statuses.NoDocs port order []) (heard notes (Finish []) past)
  Images : {port : ℕ} {order : ByteOrder} {params : Params} → (after_begin params order false past).fault ≡ None
      → TurnRow task password notes past (stages.Shaping port order) (replies.GetParameters statuses.Good params) (heard notes (Wait (stages.Imaging port false)) (after_begin params order false past))
  Misfits : {port : ℕ} {order : ByteOrder} {params : Params} (fault : JoinFault) (status : Status) (why : Why) → IsFailing status why → (after_begin params order false past).fault ≡ Some fault
      → TurnRow task password notes past (stages.Shaping port order) (replies.GetParameters statuses.Good params) (heard notes (Stop status why) (after_begin params order false past))

-- ---- every turn is one of them

abbrev Row : Task → List ℕ → Notes → JoinHistory → Progress → Reply → Turn → Type 0
Row task password notes past progress r t = TurnRow task password notes past progress r (record { turn = t; history = past })

malformed : {task : Task} {password : List ℕ} {notes : Notes} {past : JoinHistory} {progress : Progress} {r : Reply} → Row task password notes past progress r (turn notes stop_malformed)
malformed = Stops _ statuses.IoError whys.Malformed tt (refl, refl)

greets : {task : Task} {password : List ℕ} {notes : Notes} {past : JoinHistory} (r : Reply) → Row task password notes past stages.Greeting r (turn notes (after_init_reply task r))
greets (replies.Init statuses.Good version) = Greets
greets (replies.Init status version) = Stops _ status whys.Answer tt (refl, refl)
greets r = malformed

lists : {task : Task} {password : List ℕ} {notes : Notes} {past : JoinHistory} (r : Reply) → Row task password notes past stages.Listing r (turn notes (after_list_reply r))
lists (replies.GetDevices statuses.Good devices) = Lists devices
lists (replies.GetDevices status devices) = Stops _ status whys.Answer tt (refl, refl)
lists r = malformed

challenges : {task : Task} {password : List ℕ} {notes : Notes} {past : JoinHistory} {progress : Progress} {status : Status} {word : ℕ} (b : ℕ) (bytes : List ℕ) (answer : Option (List ℕ)) → md5_answer (b ∷ bytes) password ≡ answer
    → BeforeStart progress (replies.Open status word (b ∷ bytes)) → Row task password notes past progress (replies.Open status word (b ∷ bytes)) (turn notes (after_challenge (b ∷ bytes) answer))
challenges b bytes None e q = Stops _ statuses.AccessDenied whys.Plain tt (refl, refl)
challenges b bytes (Some answer) e q = Challenges b bytes answer q e

opens : {task : Task} {notes : Notes} {past : JoinHistory} {progress : Progress} (password : List ℕ) (status : Status) (word : ℕ) (resource : List ℕ) → BeforeStart progress (replies.Open status word resource)
    → Row task password notes past progress (replies.Open status word resource) (opened_with password notes status word resource)
opens password statuses.Good word [] q = Admits word q
opens password status word [] q = Stops _ status whys.Answer tt (refl, refl)
opens password status word (b ∷ bytes) q = challenges b bytes (md5_answer (b ∷ bytes) password) refl q

allows : {task : Task} {password : List ℕ} {notes : Notes} {past : JoinHistory} {resource answer : List ℕ} (r : Reply) → Row task password notes past (stages.Allowing resource answer) r (turn notes (after_authorize_reply r))
allows replies.Authorize = Allows
allows r = malformed

-- the options, as they are known then
may_show : (task : Task) (progress : Progress) → shows task ≡ true → MayShow task progress
may_show task (stages.Getting n kind size) e = tt
may_show task progress e = e

asks_one : {task : Task} {password : List ℕ} {notes : Notes} {past : JoinHistory} {progress : Progress} {r : Reply} (now : Notes) (n : ℕ) (option : Option (Descriptor × Option Value)) → slice_get now.known n ≡ option → MayShow task progress → BeforeStart progress r → Stays notes now
    → Row task password notes past progress r (turn now (gets_at option n))
asks_one now n None e m q k = ShowsAll now m q k
asks_one now n (Some option) e m q k = Gets now n option e m q k

asks_next : {task : Task} {password : List ℕ} {notes : Notes} {past : JoinHistory} {progress : Progress} {r : Reply} (now : Notes) (place : Option ℕ) → MayShow task progress → BeforeStart progress r → Stays notes now
    → Row task password notes past progress r (turn now (gets now.known place))
asks_next now None m q k = ShowsAll now m q k
asks_next now (Some n) m q k = asks_one now n (slice_get now.known n) refl m q k

settles : {password : List ℕ} {notes : Notes} {past : JoinHistory} {r : Reply} (task : Task) (progress : Progress) (now : Notes) → BeforeStart progress r → Stays notes now → Row task password notes past progress r (turn now (after_settings task now.known))
settles tasks.List progress now q k = SetsAll now refl q k
settles tasks.Show progress now q k = asks_next now (element_number (position wants_value now.known)) (may_show tasks.Show progress refl) q k
settles tasks.SetOnly progress now q k = SetsAll now refl q k
settles tasks.Scan progress now q k = Starts now refl q k
settles (tasks.Batch count) progress now q k = Starts now refl q k

sets_value : {task : Task} {password : List ℕ} {notes : Notes} {past : JoinHistory} {progress : Progress} {r : Reply} (now : Notes) (name text : List ℕ) (n : ℕ) (option : Descriptor × Option Value) (value : Option Value) → slice_get now.known n ≡ Some option
    → read_value option.0 text ≡ value → BeforeStart progress r → Stays notes now → Row task password notes past progress r (turn now (puts name n option.0.kind value))
sets_value now name text n option None e reads q k = Stops now statuses.Inval whys.Setting tt k
sets_value now name text n option (Some asked) e reads q k = Puts now n option name text asked e reads q k

sets_option : {task : Task} {password : List ℕ} {notes : Notes} {past : JoinHistory} {progress : Progress} {r : Reply} (now : Notes) (name text : List ℕ) (n : ℕ) (option : Option (Descriptor × Option Value)) → slice_get now.known n ≡ option → BeforeStart progress r → Stays notes now
    → Row task password notes past progress r (turn now (puts_at name text n option))
sets_option now name text n None e q k = Stops now statuses.Inval whys.Setting tt k
sets_option now name text n (Some option) e q k = sets_value now name text n option (read_value option.0 text) e refl q k

sets_named : {task : Task} {password : List ℕ} {notes : Notes} {past : JoinHistory} {progress : Progress} {r : Reply} (now : Notes) (name text : List ℕ) (place : Option ℕ) → BeforeStart progress r → Stays notes now
    → Row task password notes past progress r (turn now (puts_named name text now.known place))
sets_named now name text None q k = Stops now statuses.Inval whys.Setting tt k
sets_named now name text (Some n) q k = sets_option now name text n (slice_get now.known n) refl q k

sets_of : {password : List ℕ} {notes : Notes} {past : JoinHistory} {r : Reply} (task : Task) (progress : Progress) (now : Notes) (left : List (List ℕ × List ℕ)) → BeforeStart progress r → Stays notes now → Row task password notes past progress r (next_of task now left)
sets_of task progress now [] q k = settles task progress now q k
sets_of task progress now (setting ∷ left) q k = sets_named (record now { left = left }) setting.0 setting.1 (option_number_of setting.0 now.known) q k

sets : {password : List ℕ} {notes : Notes} {past : JoinHistory} {r : Reply} (task : Task) (progress : Progress) (now : Notes) → BeforeStart progress r → Stays notes now → Row task password notes past progress r (next_setting task now)
unfolding next_setting
sets task progress now q k = sets_of task progress now now.left q k

describes : {password : List ℕ} {notes : Notes} {past : JoinHistory} (task : Task) (r : Reply) → Row task password notes past stages.Describing r (after_describe_reply task notes r)
describes task (replies.GetOptionDescriptors descriptors) = sets task stages.Describing _ AtDescribing (refl, refl)
describes task r = malformed

reloads : {password : List ℕ} {notes : Notes} {past : JoinHistory} {r : Reply} (task : Task) (progress : Progress) (now : Notes) (again : Bool) → BeforeStart progress r → Stays notes now → Row task password notes past progress r (after_put task now again)
reloads task progress now true q k = Reloads now q k
reloads task progress now false q k = sets task progress now q k

takes : {password : List ℕ} {notes : Notes} {past : JoinHistory} {r : Reply} (task : Task) (progress : Progress) (kind : Kind) (name : List ℕ) (asked : Value) (info : Info) (given : Option Value) → BeforeStart progress r
    → Row task password notes past progress r (given_to task notes kind name asked info given)
takes task progress kind name asked info None q = malformed
takes task progress kind name asked info (Some given) q = reloads task progress _ (has_cap info.0 2) q (refl, refl)

puts_by : {password : List ℕ} {notes : Notes} {past : JoinHistory} {n : ℕ} (task : Task) (kind : Kind) (name : List ℕ) (asked : Value) (r : Reply) → Row task password notes past (stages.Putting n kind name asked) r (was_put task notes kind name asked r)
puts_by task kind name asked (replies.ControlOption statuses.Good info given value []) = takes task _ kind name asked info (of_kind kind given (given_like asked value)) AtPutting
puts_by task kind name asked (replies.ControlOption status info given value []) = Stops _ status whys.Answer tt (refl, refl)
puts_by task kind name asked r = malformed

tells : {task : Task} {password : List ℕ} {past : JoinHistory} {kind : Kind} {size : ℕ} {r : Reply} (notes : Notes) (n : ℕ) (value : Option Value) → BeforeStart (stages.Getting n kind size) r → Row task password notes past (stages.Getting n kind size) r (after_get_value notes n value)
tells notes n None q = malformed
tells notes n (Some value) q = asks_next (record notes { known = with_known_value n value notes.known }) (element_number (position wants_value (with_known_value n value notes.known))) tt q (refl, refl)

gets_by : {task : Task} {password : List ℕ} {past : JoinHistory} {size : ℕ} (notes : Notes) (n : ℕ) (kind : Kind) (r : Reply) → Row task password notes past (stages.Getting n kind size) r (was_got notes n kind r)
gets_by notes n kind (replies.ControlOption statuses.Good info given value []) = tells notes n (of_kind kind given (wire_value_in kind value)) AtGetting
gets_by notes n kind (replies.ControlOption status info given value []) = Stops _ status whys.Answer tt (refl, refl)
gets_by notes n kind r = malformed

begins_by : {task : Task} {password : List ℕ} {notes : Notes} {past : JoinHistory} {first : Bool} (all : Bool) (status : Status) (port : ℕ) (order : ByteOrder) → is_all task first notes.file ≡ all
    → Row task password notes past (stages.Starting first) (replies.Start status port order []) (turn notes (started_by all status port order))
begins_by all statuses.Good port order e = Begins
begins_by true statuses.NoDocs port order e = RunsOut e
begins_by all status port order e = Stops _ status whys.Answer tt (refl, refl)

begins : {password : List ℕ} {past : JoinHistory} (task : Task) (notes : Notes) (first : Bool) (r : Reply) → Row task password notes past (stages.Starting first) r (turn notes (after_start_reply task first notes.file r))
begins task notes first (replies.Start status port order []) = begins_by (is_all task first notes.file) status port order refl
begins task notes first r = malformed

misfits : {task : Task} {password : List ℕ} {notes : Notes} {past : JoinHistory} {port : ℕ} {order : ByteOrder} {params : Params} (fault : JoinFault) → (after_begin params order false past).fault ≡ Some fault
    → TurnRow task password notes past (stages.Shaping port order) (replies.GetParameters statuses.Good params) (heard notes (stop_unjoined fault) (after_begin params order false past))
misfits faults.Shape e = Misfits faults.Shape statuses.IoError whys.Malformed tt e
misfits faults.Long e = Misfits faults.Long statuses.IoError whys.Long tt e
misfits faults.Short e = Misfits faults.Short statuses.IoError whys.Short tt e
misfits faults.NoMem e = Misfits faults.NoMem statuses.NoMem whys.Memory tt e

images : {task : Task} {password : List ℕ} {notes : Notes} {past : JoinHistory} {port : ℕ} {order : ByteOrder} {params : Params} (fault : Option JoinFault) → (after_begin params order false past).fault ≡ fault
    → TurnRow task password notes past (stages.Shaping port order) (replies.GetParameters statuses.Good params) (heard notes (begun_by fault port) (after_begin params order false past))
images None e = Images e
images (Some fault) e = misfits fault e

shapes : (target : JobTarget) (notes : Notes) (past : JoinHistory) (port : ℕ) (order : ByteOrder) (r : Reply) → TurnRow target.task target.password notes past (stages.Shaping port order) r (heard_at (stages.Shaping port order) target notes past r)
shapes target notes past port order (replies.GetParameters statuses.Good params) = images (after_begin params order false past).fault refl
shapes target notes past port order (replies.GetParameters status params) = Stops _ status whys.Answer tt (refl, refl)
shapes target notes past port order r = malformed

-- every turn of a client by a reply is one of the rows
pub turn_row : (progress : Progress) (target : JobTarget) (notes : Notes) (past : JoinHistory) (r : Reply) → TurnRow target.task target.password notes past progress r (heard_at progress target notes past r)
turn_row stages.Greeting target notes past r = greets r
turn_row stages.Listing target notes past r = lists r
turn_row stages.Opening target notes past (replies.Open status word resource) = opens target.password status word resource AtOpening
turn_row stages.Reopening target notes past (replies.Open status word resource) = opens target.password status word resource AtReopening
turn_row (stages.Allowing resource answer) target notes past r = allows r
turn_row stages.Describing target notes past r = describes target.task r
turn_row (stages.Putting n kind name asked) target notes past r = puts_by target.task kind name asked r
turn_row (stages.Getting n kind size) target notes past r = gets_by notes n kind r
turn_row (stages.Starting first) target notes past r = begins target.task notes first r
turn_row (stages.Shaping port order) target notes past r = shapes target notes past port order r
turn_row progress target notes past r = malformed

-- the number of the file stays, and it is not waited for that a page is taken
abbrev pub IsCalm : Notes → Turn → Type 0
IsCalm was t = (t.notes.file ≡ was.file) × (is_turning (next_progress t.next) ≡ false)

greeting_calm : (task : Task) → is_turning (after_greeting task) ≡ false
greeting_calm tasks.List = refl
greeting_calm task = refl

row_calm : (task : Task) (password : List ℕ) (notes : Notes) (past : JoinHistory) (progress : Progress) (r : Reply) (a : Answer) → TurnRow task password notes past progress r a → IsCalm notes a.turn
row_calm task password notes past progress r a (Stops now status why f k) = (k.1, refl)
row_calm task password notes past progress r a Greets = (refl, greeting_calm task)
row_calm task password notes past progress r a (Reloads now q k) = (k.1, refl)
row_calm task password notes past progress r a (Puts now n option name text asked e reads q k) = (k.1, refl)
row_calm task password notes past progress r a (Gets now n option e m q k) = (k.1, refl)
row_calm task password notes past progress r a (ShowsAll now m q k) = (k.1, refl)
row_calm task password notes past progress r a (SetsAll now none q k) = (k.1, refl)
row_calm task password notes past progress r a (Starts now scanned q k) = (k.1, refl)
row_calm task password notes past progress r a _ = (refl, refl)

-- no reply turns to a page, or changes the number of the file
pub turn_calm : (progress : Progress) (target : JobTarget) (notes : Notes) (past : JoinHistory) (r : Reply) → IsCalm notes (heard_at progress target notes past r).turn
turn_calm progress target notes past r = row_calm target.task target.password notes past progress r (heard_at progress target notes past r) (turn_row progress target notes past r)

-- ---- the rows of a frame's end

-- a further page of a batch is to come
abbrev pub more_pages : Task → ℕ → Bool
more_pages (tasks.Batch count) file = nat_lt file count
more_pages task file = false

-- What the record that ends a frame makes of a job.
pub data EndRow (task : Task) (file : ℕ) (past : JoinHistory) : FrameEnd → Type 0 where
  -- the job ends: the record's status says so, or the frame makes no picture
  EndStops : (status : Status) (why : Why) → IsFailing status why → EndRow task file past (record { next = Stop status why; history = past })
  EndMisfits : (fault : JoinFault) (status : Status) (why : Why) → IsFailing status why → joined_answer (after_end past) ≡ Err fault → EndRow task file past (record { next = Stop status why; history = after_end past })
  -- a further frame, a further page, and the last page
  NextFrame : joined_answer (after_end past) ≡ Ok false → EndRow task file past (record { next = Wait (stages.Starting false); history = after_end past })
  NextPage : IsJoined (after_end past) → more_pages task file ≡ true → EndRow task file past (record { next = Wait stages.Turning; history = after_end past })
  LastPage : IsJoined (after_end past) → more_pages task file ≡ false → EndRow task file past (record { next = Finish []; history = after_end past })

end_misfits : {task : Task} {file : ℕ} {past : JoinHistory} (fault : JoinFault) → joined_answer (after_end past) ≡ Err fault → EndRow task file past (record { next = stop_unjoined fault; history = after_end past })
end_misfits faults.Shape e = EndMisfits faults.Shape statuses.IoError whys.Malformed tt e
end_misfits faults.Long e = EndMisfits faults.Long statuses.IoError whys.Long tt e
end_misfits faults.Short e = EndMisfits faults.Short statuses.IoError whys.Short tt e
end_misfits faults.NoMem e = EndMisfits faults.NoMem statuses.NoMem whys.Memory tt e

batch_pages : {past : JoinHistory} {count file : ℕ} (more : Bool) → nat_lt file count ≡ more → IsJoined (after_end past) → EndRow (tasks.Batch count) file past (record { next = if more then Wait stages.Turning else Finish []; history = after_end past })
batch_pages true e joined = NextPage joined e
batch_pages false e joined = LastPage joined e

pages : {past : JoinHistory} (task : Task) (file : ℕ) → IsJoined (after_end past) → EndRow task file past (record { next = page_whole task file; history = after_end past })
pages (tasks.Batch count) file joined = batch_pages (nat_lt file count) refl joined
pages task file joined = LastPage joined refl

closes : {past : JoinHistory} (task : Task) (file : ℕ) (answer : Result Bool JoinFault) → joined_answer (after_end past) ≡ answer → EndRow task file past (record { next = frame_joined task file answer; history = after_end past })
closes task file (Ok true) e = pages task file e
closes task file (Ok false) e = NextFrame e
closes task file (Err fault) e = end_misfits fault e

-- every end of a frame is one of them
pub end_row : (task : Task) (file : ℕ) (past : JoinHistory) (status : Option Status) → EndRow task file past (frame_ended_by task file past status)
end_row task file past None = EndStops statuses.IoError whys.Malformed tt
end_row task file past (Some statuses.Good) = EndStops statuses.IoError whys.Malformed tt
end_row task file past (Some statuses.Eof) = closes task file (joined_answer (after_end past)) refl
end_row task file past (Some status) = EndStops status whys.Answer tt
