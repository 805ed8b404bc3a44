-- A job that has its device is past its opening, and stays so.
use Rattle.std.proofs.Common.{◌≡◌, ◌∙◌, ◌⊎◌, ℕ, List, [], ◌∷◌, ◌++◌, Bool, true, false, Option, Some, None, inl, inr, refl, sym, subst}
use Rattle.scan_job.specs.declared.outcome.Why.{Why}
use Rattle.sane_fixed.specs.declared.status.Status.{Status}
use Rattle.sane_fixed.specs.declared.status.Status.TheVariants as statuses
use Rattle.option_desc.specs.declared.value.Value.{Value}
use Rattle.option_desc.specs.declared.descriptor.Descriptor.{Descriptor}
use Rattle.sane_fixed.specs.declared.params.Params.{Params}
use Rattle.page_picture.specs.Shows.{Frame}
use Rattle.system_model.specs.AbstractMessages.{AbstractReply, AbstractRequest, Greeted, Listed, Opened, Challenged, Described, Got, Gave, Shaped, Begun, Acked, Refused, RequestedSetting, Describe, Get, Set, Parameters, Start}
use Rattle.system_model.specs.AbstractDevices.{AbstractDevice}
use Rattle.system_model.specs.Actions
use Rattle.system_model.specs.Actions.{Action, answer_next, job_after_action, job_after_reply}
use Rattle.system_model.specs.Client.{AbstractJob, AbstractProgress, ClientView, AbstractTask, List_, Show, SetOnly, Scan, Batch, Greeting, Listing, Opening, Allowing, Describing, Putting, Getting, Starting, Shaping, Imaging, JobStage, Idle, Running, Done, Ended, asks_setting, next_value, request_awaited, stage_after_put, stage_after_settings, stage_of_next_setting}
use Rattle.system_model.specs.ClientReplies.{after_page, begins_frame, client_after_bytes, close_frame, close_page, end_frame, finish_in, hear_at, hear_in, reads_on, stage_after_stop, start_refused}
use Rattle.system_model.specs.Daemon.{FailureCounts}
use Rattle.system_model.specs.Devices.{Make, accepts, frame_fills, frame_overflows, readable_options, resolve_setting}
use Rattle.system_model.specs.Invariants.{IsRight, StageInvariant}
use Rattle.system_model.specs.SystemStates.{JobState, SessionView}
use Rattle.system_model.specs.Sync.{InSync}
use Rattle.system_model.specs.Transitions.{IsActionEnabled, IsImaging, IsUnderWay}
use Rattle.scan_world.proofs.moments.Requests.{IsOpening}

-- its device was opened, or it is over
abbrev pub IsLateStage : JobStage → Type 0
IsLateStage Idle = ⊥
IsLateStage (Running Greeting) = ⊥
IsLateStage (Running Listing) = ⊥
IsLateStage (Running Opening) = ⊥
IsLateStage (Running (Allowing challenge)) = ⊥
IsLateStage stage = Unit {0}

pub record ToldLate (p : JobState) : Type 0 where
  pub g : AbstractProgress
  pub stage : p.client.stage ≡ Running g
  pub todo : p.todo ≡ []
  pub reply : AbstractReply
  pub due : p.due ≡ reply ∷ []
  pub late : IsLateStage (hear_at g p.session.job p.client reply).stage

pub record IsCutOff (p : JobState) : Type 0 where
  pub served : p.served ≡ false
  pub todo : p.todo ≡ []
  pub due : p.due ≡ []
  pub begun : p.client.stage ≡ Idle → ⊥

abbrev pub IsPast : JobState → Type 0
IsPast p = IsLateStage p.client.stage ⊎ (ToldLate p ⊎ IsCutOff p)

-- ---- what a reply makes of a late stage

value_late : (left : List ℕ) → IsLateStage (next_value left)
value_late [] = tt
value_late (n ∷ left) = tt

settings_late : (task : AbstractTask) (known : List Descriptor) → IsLateStage (stage_after_settings task known)
settings_late List_ known = tt
settings_late Show known = value_late (readable_options known)
settings_late SetOnly known = tt
settings_late Scan known = tt
settings_late (Batch n) known = tt

asks_late : (requested : RequestedSetting) (left : List RequestedSetting) (o : Option (ℕ × Value)) → IsLateStage (asks_setting requested left o)
asks_late requested left None = tt
asks_late requested left (Some (n, value)) = tt

next_late : (task : AbstractTask) (known : List Descriptor) (left : List RequestedSetting) → IsLateStage (stage_of_next_setting task known left)
next_late task known [] = settings_late task known
next_late task known (requested ∷ left) = asks_late requested left (resolve_setting known requested)

put_late : (task : AbstractTask) (known : List Descriptor) (left : List RequestedSetting) (reload : Bool) → IsLateStage (stage_after_put task known left reload)
put_late task known left true = tt
put_late task known left false = next_late task known left

refused_late : (status : Status) (frames : List Frame) (pages : List (List Frame)) (m : ClientView) → IsLateStage (start_refused status frames pages m).stage
refused_late statuses.Good frames pages m = tt
refused_late statuses.Unsupported frames pages m = tt
refused_late statuses.Cancelled frames pages m = tt
refused_late statuses.DeviceBusy frames pages m = tt
refused_late statuses.Inval frames pages m = tt
refused_late statuses.Eof frames pages m = tt
refused_late statuses.Jammed frames pages m = tt
refused_late statuses.NoDocs [] [] m = tt
refused_late statuses.NoDocs [] (page ∷ pages) m = tt
refused_late statuses.NoDocs (f ∷ frames) pages m = tt
refused_late statuses.CoverOpen frames pages m = tt
refused_late statuses.IoError frames pages m = tt
refused_late statuses.NoMem frames pages m = tt
refused_late statuses.AccessDenied frames pages m = tt

begins_late : (params : Params) (b : Bool) → IsLateStage (begins_frame params b)
begins_late params true = tt
begins_late params false = tt

hear_describing : (left : List RequestedSetting) (job : AbstractJob) (m : ClientView) (r : AbstractReply) → IsLateStage (hear_at (Describing left) job m r).stage
hear_describing left job m Greeted = tt
hear_describing left job m (Listed devices) = tt
hear_describing left job m Opened = tt
hear_describing left job m (Challenged challenge) = tt
hear_describing left job m (Described descriptors) = next_late job.task descriptors left
hear_describing left job m (Got got) = tt
hear_describing left job m (Gave given info) = tt
hear_describing left job m (Shaped shape) = tt
hear_describing left job m (Begun order) = tt
hear_describing left job m Acked = tt
hear_describing left job m (Refused status) = tt

hear_putting : (n : ℕ) (value : Value) (requested : RequestedSetting) (left : List RequestedSetting) (job : AbstractJob) (m : ClientView) (r : AbstractReply) → IsLateStage (hear_at (Putting n value requested left) job m r).stage
hear_putting n value requested left job m Greeted = tt
hear_putting n value requested left job m (Listed devices) = tt
hear_putting n value requested left job m Opened = tt
hear_putting n value requested left job m (Challenged challenge) = tt
hear_putting n value requested left job m (Described descriptors) = tt
hear_putting n value requested left job m (Got got) = tt
hear_putting n value requested left job m (Gave given info) = put_late job.task m.known left info.reload_options
hear_putting n value requested left job m (Shaped shape) = tt
hear_putting n value requested left job m (Begun order) = tt
hear_putting n value requested left job m Acked = tt
hear_putting n value requested left job m (Refused status) = tt

hear_getting : (n : ℕ) (left : List ℕ) (job : AbstractJob) (m : ClientView) (r : AbstractReply) → IsLateStage (hear_at (Getting n left) job m r).stage
hear_getting n left job m Greeted = tt
hear_getting n left job m (Listed devices) = tt
hear_getting n left job m Opened = tt
hear_getting n left job m (Challenged challenge) = tt
hear_getting n left job m (Described descriptors) = tt
hear_getting n left job m (Got got) = value_late left
hear_getting n left job m (Gave given info) = tt
hear_getting n left job m (Shaped shape) = tt
hear_getting n left job m (Begun order) = tt
hear_getting n left job m Acked = tt
hear_getting n left job m (Refused status) = tt

hear_starting : (job : AbstractJob) (m : ClientView) (r : AbstractReply) → IsLateStage (hear_at Starting job m r).stage
hear_starting job m Greeted = tt
hear_starting job m (Listed devices) = tt
hear_starting job m Opened = tt
hear_starting job m (Challenged challenge) = tt
hear_starting job m (Described descriptors) = tt
hear_starting job m (Got got) = tt
hear_starting job m (Gave given info) = tt
hear_starting job m (Shaped shape) = tt
hear_starting job m (Begun order) = tt
hear_starting job m Acked = tt
hear_starting job m (Refused status) = refused_late status m.frames m.pages m

hear_shaping : (job : AbstractJob) (m : ClientView) (r : AbstractReply) → IsLateStage (hear_at Shaping job m r).stage
hear_shaping job m Greeted = tt
hear_shaping job m (Listed devices) = tt
hear_shaping job m Opened = tt
hear_shaping job m (Challenged challenge) = tt
hear_shaping job m (Described descriptors) = tt
hear_shaping job m (Got got) = tt
hear_shaping job m (Gave given info) = tt
hear_shaping job m (Shaped shape) = begins_late shape (accepts m.frames shape m.order)
hear_shaping job m (Begun order) = tt
hear_shaping job m Acked = tt
hear_shaping job m (Refused status) = tt

hear_imaging : (params : Params) (heard : List ℕ) (job : AbstractJob) (m : ClientView) (r : AbstractReply) → IsLateStage (hear_at (Imaging params heard) job m r).stage
hear_imaging params heard job m Greeted = tt
hear_imaging params heard job m (Listed devices) = tt
hear_imaging params heard job m Opened = tt
hear_imaging params heard job m (Challenged challenge) = tt
hear_imaging params heard job m (Described descriptors) = tt
hear_imaging params heard job m (Got got) = tt
hear_imaging params heard job m (Gave given info) = tt
hear_imaging params heard job m (Shaped shape) = tt
hear_imaging params heard job m (Begun order) = tt
hear_imaging params heard job m Acked = tt
hear_imaging params heard job m (Refused status) = tt

hear_late : (g : AbstractProgress) (job : AbstractJob) (m : ClientView) (r : AbstractReply) → IsLateStage (Running g) → IsLateStage (hear_at g job m r).stage
hear_late Greeting job m r late = absurd late
hear_late Listing job m r late = absurd late
hear_late Opening job m r late = absurd late
hear_late (Allowing challenge) job m r late = absurd late
hear_late (Describing left) job m r late = hear_describing left job m r
hear_late (Putting n value requested left) job m r late = hear_putting n value requested left job m r
hear_late (Getting n left) job m r late = hear_getting n left job m r
hear_late Starting job m r late = hear_starting job m r
hear_late Shaping job m r late = hear_shaping job m r
hear_late (Imaging params heard) job m r late = hear_imaging params heard job m r

hear_in_late : (stage : JobStage) (job : AbstractJob) (m : ClientView) (r : AbstractReply) → m.stage ≡ stage → IsLateStage stage → IsLateStage (hear_in stage job m r).stage
hear_in_late Idle job m r at late = absurd late
hear_in_late (Running g) job m r at late = hear_late g job m r late
hear_in_late Done job m r at late = subst IsLateStage (sym at) late
hear_in_late (Ended status why) job m r at late = subst IsLateStage (sym at) late

-- ---- what the rest makes of it

overflow_late : (b : Bool) (params : Params) (heard : List ℕ) → IsLateStage (reads_on b params heard)
overflow_late true params heard = tt
overflow_late false params heard = tt

read_late : (stage : JobStage) (m : ClientView) (bytes : List ℕ) → m.stage ≡ stage → IsImaging stage → IsLateStage (client_after_bytes stage m bytes).stage
read_late Idle m bytes at (params, heard, is) = absurd (let clash : Idle ≡ Running (Imaging params heard) = is in cc)
read_late Done m bytes at (params, heard, is) = absurd (let clash : Done ≡ Running (Imaging params heard) = is in cc)
read_late (Ended status why) m bytes at (params, heard, is) = absurd (let clash : Ended status why ≡ Running (Imaging params heard) = is in cc)
read_late (Running (Imaging params heard)) m bytes at im = overflow_late (frame_overflows params (heard ++ bytes)) params (heard ++ bytes)
read_late (Running Greeting) m bytes at (params, heard, is) = absurd (let clash : Running Greeting ≡ Running (Imaging params heard) = is in cc)
read_late (Running Listing) m bytes at (params, heard, is) = absurd (let clash : Running Listing ≡ Running (Imaging params heard) = is in cc)
read_late (Running Opening) m bytes at (params, heard, is) = absurd (let clash : Running Opening ≡ Running (Imaging params heard) = is in cc)
read_late (Running (Allowing challenge)) m bytes at (params, heard, is) = absurd (let clash : Running (Allowing challenge) ≡ Running (Imaging params heard) = is in cc)
read_late (Running (Describing left)) m bytes at (params, heard, is) = absurd (let clash : Running (Describing left) ≡ Running (Imaging params heard) = is in cc)
read_late (Running (Putting n value requested left)) m bytes at (params, heard, is) = absurd (let clash : Running (Putting n value requested left) ≡ Running (Imaging params heard) = is in cc)
read_late (Running (Getting n left)) m bytes at (params, heard, is) = absurd (let clash : Running (Getting n left) ≡ Running (Imaging params heard) = is in cc)
read_late (Running Starting) m bytes at (params, heard, is) = absurd (let clash : Running Starting ≡ Running (Imaging params heard) = is in cc)
read_late (Running Shaping) m bytes at (params, heard, is) = absurd (let clash : Running Shaping ≡ Running (Imaging params heard) = is in cc)

page_late : (b : Bool) → IsLateStage (after_page b)
page_late true = tt
page_late false = tt

closed_late : (last : Bool) (task : AbstractTask) (frame : Frame) (m : ClientView) → IsLateStage (close_page last task frame m).stage
closed_late true task frame m = page_late _
closed_late false task frame m = tt

framed_late : (fills : Bool) (task : AbstractTask) (params : Params) (heard : List ℕ) (m : ClientView) → IsLateStage (close_frame fills task params heard m).stage
framed_late true task params heard m = closed_late params.last_frame task _ m
framed_late false task params heard m = tt

end_late : (status : Status) (task : AbstractTask) (params : Params) (heard : List ℕ) (m : ClientView) → IsLateStage (end_frame status task params heard m).stage
end_late statuses.Good task params heard m = tt
end_late statuses.Unsupported task params heard m = tt
end_late statuses.Cancelled task params heard m = tt
end_late statuses.DeviceBusy task params heard m = tt
end_late statuses.Inval task params heard m = tt
end_late statuses.Eof task params heard m = framed_late (frame_fills params heard) task params heard m
end_late statuses.Jammed task params heard m = tt
end_late statuses.NoDocs task params heard m = tt
end_late statuses.CoverOpen task params heard m = tt
end_late statuses.IoError task params heard m = tt
end_late statuses.NoMem task params heard m = tt
end_late statuses.AccessDenied task params heard m = tt

finish_late : (stage : JobStage) (task : AbstractTask) (m : ClientView) (status : Status) → m.stage ≡ stage → IsImaging stage → IsLateStage (finish_in stage task m status).stage
finish_late stage task m status at (params, heard, is) =
    subst (λ (st : JobStage). IsLateStage (finish_in st task m status).stage) (sym is) (end_late status task params heard m)

stop_late : (status : Status) (why : Why) (stage : JobStage) → IsLateStage (stage_after_stop status why stage)
stop_late status why Idle = tt
stop_late status why (Running g) = tt
stop_late status why Done = tt
stop_late status why (Ended earlier reason) = tt

-- ---- it stays so

answered_late : (i : ℕ) (k : Make) (ds : List ℕ) (p : JobState) (dev : AbstractDevice) (challenge : _) (fault : Option FailureCounts) (qs : List AbstractRequest) → IsLateStage p.client.stage → IsLateStage (answer_next i k ds p dev challenge fault qs).client.stage
answered_late i k ds p dev challenge fault [] late = late
answered_late i k ds p dev challenge fault (q ∷ rest) late = late

imaging_late : (stage : JobStage) → IsImaging stage → IsLateStage stage
imaging_late stage (params, heard, is) = subst IsLateStage (sym is) tt

beyond : (i : ℕ) (k : Make) (ds : List ℕ) (p : JobState) (dev : AbstractDevice) (x : Action) → IsActionEnabled i k p dev x → IsLateStage p.client.stage → IsLateStage (job_after_action i k ds p dev x).client.stage
beyond i k ds p dev Actions.Connects may late = absurd (subst IsLateStage may late)
beyond i k ds p dev (Actions.Answers challenge fault) may late = answered_late i k ds p dev challenge fault p.todo late
beyond i k ds p dev (Actions.Hears reply) may late = hear_in_late p.client.stage p.session.job p.client reply refl late
beyond i k ds p dev Actions.Dials may late = late
beyond i k ds p dev (Actions.Turns bytes) may late = late
beyond i k ds p dev Actions.TurnsLast may late = late
beyond i k ds p dev (Actions.TurnsNamed status) may late = late
beyond i k ds p dev Actions.TurnsShort may late = late
beyond i k ds p dev (Actions.TurnsFault fault) may late = late
beyond i k ds p dev Actions.TurnsOff may late = late
beyond i k ds p dev (Actions.Reads bytes) may late = read_late p.client.stage p.client bytes refl may.0
beyond i k ds p dev (Actions.Finishes status) may late = finish_late p.client.stage p.session.job.task p.client status refl may.0
beyond i k ds p dev (Actions.Loses memory) may late = stop_late _ _ p.client.stage
beyond i k ds p dev (Actions.LosesImage memory) may late = stop_late _ _ p.client.stage
beyond i k ds p dev (Actions.Breaks memory) may late = late
beyond i k ds p dev Actions.RunsOutOfMemory may late = stop_late _ _ p.client.stage
beyond i k ds p dev Actions.Stops may late = stop_late _ _ p.client.stage

none_is : {X : Type 0} (xs : List X) (x : X) (ys : List X) → xs ≡ [] → xs ≡ x ∷ ys → ⊥
none_is xs x ys none some = let clash : [] ≡ x ∷ ys = sym none ∙ some in cc

off : (b : Bool) → b ≡ true → b ≡ false → ⊥
off b on is = let clash : true ≡ false = sym on ∙ is in cc

idle_runs : (stage : JobStage) (g : AbstractProgress) → stage ≡ Idle → stage ≡ Running g → ⊥
idle_runs stage g a b = let clash : Idle ≡ Running g = sym a ∙ b in cc

first_of : {X : Type 0} (x y : X) (xs ys : List X) → x ∷ xs ≡ y ∷ ys → x ≡ y
first_of x y xs ys e = cc

told_hears : (p : JobState) (r : AbstractReply) (rest : List AbstractReply) → ToldLate p → p.due ≡ r ∷ rest → IsLateStage (hear_in p.client.stage p.session.job p.client r).stage
told_hears p r rest t due =
    let same : t.reply ≡ r = first_of t.reply r [] rest (sym t.due ∙ due) in
    subst (λ (st : JobStage). IsLateStage (hear_in st p.session.job p.client r).stage) (sym t.stage) (subst (λ (x : AbstractReply). IsLateStage (hear_at t.g p.session.job p.client x).stage) same t.late)

told : (i : ℕ) (k : Make) (ds : List ℕ) (p : JobState) (dev : AbstractDevice) (x : Action) → IsActionEnabled i k p dev x → ToldLate p → IsPast (job_after_action i k ds p dev x)
told i k ds p dev Actions.Connects may t = absurd (idle_runs p.client.stage t.g may t.stage)
told i k ds p dev (Actions.Answers challenge fault) may t = absurd (may.1 t.todo)
told i k ds p dev (Actions.Hears reply) may t = inl (told_hears p reply may.1.0 t may.1.1)
told i k ds p dev Actions.Dials may t = inl (imaging_late p.client.stage may.0)
told i k ds p dev (Actions.Turns bytes) may t = inr (inl (record { g = t.g; stage = t.stage; todo = t.todo; reply = t.reply; due = t.due; late = t.late }))
told i k ds p dev Actions.TurnsLast may t = inr (inl (record { g = t.g; stage = t.stage; todo = t.todo; reply = t.reply; due = t.due; late = t.late }))
told i k ds p dev (Actions.TurnsNamed status) may t = inr (inl (record { g = t.g; stage = t.stage; todo = t.todo; reply = t.reply; due = t.due; late = t.late }))
told i k ds p dev Actions.TurnsShort may t = inr (inl (record { g = t.g; stage = t.stage; todo = t.todo; reply = t.reply; due = t.due; late = t.late }))
told i k ds p dev (Actions.TurnsFault fault) may t = inr (inl (record { g = t.g; stage = t.stage; todo = t.todo; reply = t.reply; due = t.due; late = t.late }))
told i k ds p dev Actions.TurnsOff may t = inr (inl (record { g = t.g; stage = t.stage; todo = t.todo; reply = t.reply; due = t.due; late = t.late }))
told i k ds p dev (Actions.Reads bytes) may t = inl (read_late p.client.stage p.client bytes refl may.0)
told i k ds p dev (Actions.Finishes status) may t = inl (finish_late p.client.stage p.session.job.task p.client status refl may.0)
told i k ds p dev (Actions.Loses memory) may t = inl (stop_late _ _ p.client.stage)
told i k ds p dev (Actions.LosesImage memory) may t = inl (stop_late _ _ p.client.stage)
told i k ds p dev (Actions.Breaks memory) may t = inr (inr (record { served = refl; todo = refl; due = refl; begun = λ idle. idle_runs p.client.stage t.g idle t.stage }))
told i k ds p dev Actions.RunsOutOfMemory may t = inl (stop_late _ _ p.client.stage)
told i k ds p dev Actions.Stops may t = inl (stop_late _ _ p.client.stage)

cut : (i : ℕ) (k : Make) (ds : List ℕ) (p : JobState) (dev : AbstractDevice) (x : Action) → IsActionEnabled i k p dev x → IsCutOff p → IsPast (job_after_action i k ds p dev x)
cut i k ds p dev Actions.Connects may t = absurd (t.begun may)
cut i k ds p dev (Actions.Answers challenge fault) may t = absurd (off p.served may.0 t.served)
cut i k ds p dev (Actions.Hears reply) may t = absurd (none_is p.due reply may.1.0 t.due may.1.1)
cut i k ds p dev Actions.Dials may t = inl (imaging_late p.client.stage may.0)
cut i k ds p dev (Actions.Turns bytes) may t = inr (inr (record { served = t.served; todo = t.todo; due = t.due; begun = t.begun }))
cut i k ds p dev Actions.TurnsLast may t = inr (inr (record { served = t.served; todo = t.todo; due = t.due; begun = t.begun }))
cut i k ds p dev (Actions.TurnsNamed status) may t = inr (inr (record { served = t.served; todo = t.todo; due = t.due; begun = t.begun }))
cut i k ds p dev Actions.TurnsShort may t = inr (inr (record { served = t.served; todo = t.todo; due = t.due; begun = t.begun }))
cut i k ds p dev (Actions.TurnsFault fault) may t = inr (inr (record { served = t.served; todo = t.todo; due = t.due; begun = t.begun }))
cut i k ds p dev Actions.TurnsOff may t = inr (inr (record { served = t.served; todo = t.todo; due = t.due; begun = t.begun }))
cut i k ds p dev (Actions.Reads bytes) may t = inl (read_late p.client.stage p.client bytes refl may.0)
cut i k ds p dev (Actions.Finishes status) may t = inl (finish_late p.client.stage p.session.job.task p.client status refl may.0)
cut i k ds p dev (Actions.Loses memory) may t = inl (stop_late _ _ p.client.stage)
cut i k ds p dev (Actions.LosesImage memory) may t = inl (stop_late _ _ p.client.stage)
cut i k ds p dev (Actions.Breaks memory) may t = absurd (off p.served may.0 t.served)
cut i k ds p dev Actions.RunsOutOfMemory may t = inl (stop_late _ _ p.client.stage)
cut i k ds p dev Actions.Stops may t = inl (stop_late _ _ p.client.stage)

pub past_stays : (i : ℕ) (k : Make) (ds : List ℕ) (p : JobState) (dev : AbstractDevice) (x : Action) → IsActionEnabled i k p dev x → IsPast p → IsPast (job_after_action i k ds p dev x)
past_stays i k ds p dev x may (inl late) = inl (beyond i k ds p dev x may late)
past_stays i k ds p dev x may (inr (inl t)) = told i k ds p dev x may t
past_stays i k ds p dev x may (inr (inr t)) = cut i k ds p dev x may t

-- ---- who has the device is past its opening

synced_late : (i : ℕ) (k : Make) (b : SessionView) (m : ClientView) (dev : AbstractDevice) (g : AbstractProgress) → InSync i k b m dev g → dev.holder ≡ Some i → IsLateStage (Running g)
synced_late i k b m dev Greeting s held = absurd (s.free held)
synced_late i k b m dev Listing s held = absurd (s.0.free held)
synced_late i k b m dev Opening s held = absurd (s.0.free held)
synced_late i k b m dev (Allowing challenge) s held = absurd (s.0.free held)
synced_late i k b m dev (Describing left) s held = tt
synced_late i k b m dev (Putting n value requested left) s held = tt
synced_late i k b m dev (Getting n left) s held = tt
synced_late i k b m dev Starting s held = tt
synced_late i k b m dev Shaping s held = tt
synced_late i k b m dev (Imaging params heard) s held = tt

right_late : (i : ℕ) (k : Make) (b : SessionView) (m : ClientView) (dev : AbstractDevice) (stage : JobStage) → IsRight i k b m dev stage → dev.holder ≡ Some i → IsLateStage stage
right_late i k b m dev Idle r held = absurd r
right_late i k b m dev (Running g) r held = synced_late i k b m dev g r held
right_late i k b m dev Done r held = tt
right_late i k b m dev (Ended status why) r held = tt

held_at : (i : ℕ) (k : Make) (p : JobState) (dev : AbstractDevice) (stage : JobStage) → p.client.stage ≡ stage → StageInvariant i k p dev stage → dev.holder ≡ Some i → IsPast p
held_at i k p dev Idle at h held = absurd (h.3.free held)
held_at i k p dev (Running g) at (inl r) held = inl (subst IsLateStage (sym at) (synced_late i k p.session p.client dev g r.in_sync held))
held_at i k p dev (Running g) at (inr (inl r)) held = inr (inl (record { g = g; stage = at; todo = r.todo; reply = r.reply; due = r.due; late = right_late i k p.session (hear_at g p.session.job p.client r.reply) dev (hear_at g p.session.job p.client r.reply).stage r.right held }))
held_at i k p dev (Running g) at (inr (inr r)) held = inr (inr (record { served = r.served; todo = r.todo; due = r.due; begun = λ idle. idle_runs p.client.stage g idle at }))
held_at i k p dev Done at h held = inl (subst IsLateStage (sym at) tt)
held_at i k p dev (Ended status why) at h held = inl (subst IsLateStage (sym at) tt)

pub held_past : (i : ℕ) (k : Make) (p : JobState) (dev : AbstractDevice) → StageInvariant i k p dev p.client.stage → dev.holder ≡ Some i → IsPast p
held_past i k p dev h held = held_at i k p dev p.client.stage refl h held

-- ---- who is past it asks for no device

awaits_late : (g : AbstractProgress) (q : AbstractRequest) (rest : List AbstractRequest) → IsLateStage (Running g) → q ∷ rest ≡ request_awaited g → IsOpening q → ⊥
awaits_late Greeting q rest late e opening = late
awaits_late Listing q rest late e opening = late
awaits_late Opening q rest late e opening = late
awaits_late (Allowing challenge) q rest late e opening = late
awaits_late (Describing left) q rest late e opening = subst IsOpening (first_of q Describe rest [] e) opening
awaits_late (Putting n value requested left) q rest late e opening = subst IsOpening (first_of q (Set n value) rest [] e) opening
awaits_late (Getting n left) q rest late e opening = subst IsOpening (first_of q (Get n) rest [] e) opening
awaits_late Starting q rest late e opening = subst IsOpening (first_of q Start rest [] e) opening
awaits_late Shaping q rest late e opening = subst IsOpening (first_of q Parameters rest [] e) opening
awaits_late (Imaging params heard) q rest late e opening = none_is (q ∷ rest) q rest e refl

late_asks : (i : ℕ) (k : Make) (p : JobState) (dev : AbstractDevice) (q : AbstractRequest) (rest : List AbstractRequest) (stage : JobStage) → StageInvariant i k p dev stage → IsUnderWay stage → p.todo ≡ q ∷ rest → IsOpening q → IsLateStage stage → ⊥
late_asks i k p dev q rest Idle h on todo opening late = late
late_asks i k p dev q rest (Running g) (inl r) on todo opening late = awaits_late g q rest late (sym todo ∙ r.todo) opening
late_asks i k p dev q rest (Running g) (inr (inl r)) on todo opening late = none_is p.todo q rest r.todo todo
late_asks i k p dev q rest (Running g) (inr (inr r)) on todo opening late = none_is p.todo q rest r.todo todo
late_asks i k p dev q rest Done h on todo opening late = absurd on
late_asks i k p dev q rest (Ended status why) h on todo opening late = absurd on

pub past_asks : (i : ℕ) (k : Make) (p : JobState) (dev : AbstractDevice) (q : AbstractRequest) (rest : List AbstractRequest) → StageInvariant i k p dev p.client.stage → IsUnderWay p.client.stage → p.todo ≡ q ∷ rest → IsOpening q → IsPast p → ⊥
past_asks i k p dev q rest h on todo opening (inl late) = late_asks i k p dev q rest p.client.stage h on todo opening late
past_asks i k p dev q rest h on todo opening (inr (inl t)) = none_is p.todo q rest t.todo todo
past_asks i k p dev q rest h on todo opening (inr (inr t)) = none_is p.todo q rest t.todo todo
