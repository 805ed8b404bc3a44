-- The client's rules: what it makes of a reply, and of the data of a frame.
use Rattle.std.specs.Prelude.{ℕ, List, [], ◌∷◌, ◌++◌, Bool, true, false, length, ltb}
use Rattle.scan_job.specs.declared.outcome.Why.{Why}
use Rattle.scan_job.specs.declared.outcome.Why.TheVariants.{Answer, Malformed, Short, Long}
use Rattle.sane_fixed.specs.declared.status.Status.{Status}
use Rattle.sane_fixed.specs.declared.status.Status.TheVariants.{Good, Unsupported, Cancelled, DeviceBusy, Inval, Eof}
use Rattle.sane_fixed.specs.declared.status.Status.TheVariants.{Jammed, NoDocs, CoverOpen, IoError, NoMem}
use Rattle.sane_fixed.specs.declared.status.Status.TheVariants.{AccessDenied}
use Rattle.sane_fixed.specs.declared.params.Params.{Params}
use Rattle.page_picture.specs.Shows.{Frame}
use Rattle.system_model.specs.AbstractMessages.{AbstractReply, Greeted, Listed, Opened, Challenged, Described}
use Rattle.system_model.specs.AbstractMessages.{Got, Gave, Shaped, Begun, Refused}
use Rattle.system_model.specs.Devices.{accepts, frame_overflows, frame_fills}
use Rattle.system_model.specs.Client.{AbstractJob, AbstractTask, further_pages, AbstractProgress, Greeting, Listing}
use Rattle.system_model.specs.Client.{Opening}
use Rattle.system_model.specs.Client.{Allowing, Describing, Putting, Getting, Starting, Shaping, Imaging, JobStage}
use Rattle.system_model.specs.Client.{Idle, Running, Done, Ended, ClientView, with_ending, with_progress}
use Rattle.system_model.specs.Client.{with_malformed, progress_after_init, stage_of_next_setting, stage_after_put}
use Rattle.system_model.specs.Client.{next_value}

-- A START that is refused. Where a page of the batch is finished, and no frame of the next one, an empty tray ends the
-- batch well.
abbrev pub start_refused : Status → List Frame → List (List Frame) → ClientView → ClientView
start_refused NoDocs [] (page ∷ pages) m = record m { stage = Done }
start_refused status frames pages m = with_ending status Answer m

abbrev pub begins_frame : Params → Bool → JobStage
begins_frame params true = Running (Imaging params [])
begins_frame params false = Ended IoError Malformed

-- a reply to what is waited for
abbrev pub hear_at : AbstractProgress → AbstractJob → ClientView → AbstractReply → ClientView
hear_at Starting job m (Refused status) = start_refused status m.frames m.pages m
hear_at progress job m (Refused status) = with_ending status Answer m
hear_at Greeting job m Greeted = with_progress (progress_after_init job.task) m
hear_at Listing job m (Listed devices) = record m { stage = Done; devices = devices }
hear_at Opening job m Opened = with_progress (Describing job.settings) m
hear_at Opening job m (Challenged challenge) = with_progress (Allowing challenge) m
hear_at (Allowing answered) job m Opened = with_progress (Describing job.settings) m
hear_at (Allowing answered) job m (Challenged challenge) = with_progress (Allowing challenge) m
hear_at (Describing left) job m (Described descriptors) =
    record m { stage = stage_of_next_setting job.task descriptors left; known = descriptors }
hear_at (Putting n value requested left) job m (Gave given info) =
    record m {
      stage = stage_after_put job.task m.known left info.reload_options;
      reports = m.reports ++ record { setting = requested; asked = value; given = given; info = info } ∷ [];
    }
hear_at (Getting n left) job m (Got value) = record m { stage = next_value left; values = m.values ++ value ∷ [] }
hear_at Starting job m (Begun order) = record m { stage = Running Shaping; order = order }
hear_at Shaping job m (Shaped params) = record m { stage = begins_frame params (accepts m.frames params m.order) }
hear_at progress job m reply = with_malformed m

abbrev pub hear_in : JobStage → AbstractJob → ClientView → AbstractReply → ClientView
hear_in Idle job m reply = m
hear_in (Running progress) job m reply = hear_at progress job m reply
hear_in Done job m reply = m
hear_in (Ended status why) job m reply = m

-- bytes of a frame
abbrev pub reads_on : Bool → Params → List ℕ → JobStage
reads_on true params heard = Ended IoError Long
reads_on false params heard = Running (Imaging params heard)

abbrev pub client_after_bytes : JobStage → ClientView → List ℕ → ClientView
client_after_bytes (Running (Imaging params heard)) m bytes =
    record m { stage = reads_on (frame_overflows params (heard ++ bytes)) params (heard ++ bytes) }
client_after_bytes stage m bytes = m

-- a page is whole: the next one, where it is not the last of the job
abbrev pub after_page : Bool → JobStage
after_page true = Running Starting
after_page false = Done

abbrev pub close_page : Bool → AbstractTask → Frame → ClientView → ClientView
close_page true task frame m =
    record m {
      stage = after_page (ltb (length m.pages) (further_pages task));
      frames = [];
      pages =
          m.pages ++ (m.frames ++ frame ∷ []) ∷ [];
    }
close_page false task frame m = record m { stage = Running Starting; frames = m.frames ++ frame ∷ [] }

-- the end of a frame: it is whole, or too short
abbrev pub close_frame : Bool → AbstractTask → Params → List ℕ → ClientView → ClientView
close_frame true task params heard m =
    close_page params.last_frame task (record { params = params; order = m.order; payload = heard }) m
close_frame false task params heard m = with_ending IoError Short m

abbrev pub end_frame : Status → AbstractTask → Params → List ℕ → ClientView → ClientView
end_frame Eof task params heard m = close_frame (frame_fills params heard) task params heard m
end_frame Good task params heard m = with_malformed m
end_frame Unsupported task params heard m = with_ending Unsupported Answer m
end_frame Cancelled task params heard m = with_ending Cancelled Answer m
end_frame DeviceBusy task params heard m = with_ending DeviceBusy Answer m
end_frame Inval task params heard m = with_ending Inval Answer m
end_frame Jammed task params heard m = with_ending Jammed Answer m
end_frame NoDocs task params heard m = with_ending NoDocs Answer m
end_frame CoverOpen task params heard m = with_ending CoverOpen Answer m
end_frame IoError task params heard m = with_ending IoError Answer m
end_frame NoMem task params heard m = with_ending NoMem Answer m
end_frame AccessDenied task params heard m = with_ending AccessDenied Answer m

abbrev pub finish_in : JobStage → AbstractTask → ClientView → Status → ClientView
finish_in (Running (Imaging params heard)) task m status = end_frame status task params heard m
finish_in stage task m status = m

-- a job that runs, or is to run, ends so; another keeps its outcome
abbrev pub stage_after_stop : Status → Why → JobStage → JobStage
stage_after_stop status why Idle = Ended status why
stage_after_stop status why (Running progress) = Ended status why
stage_after_stop status why Done = Done
stage_after_stop status why (Ended earlier reason) = Ended earlier reason

abbrev pub client_after_stop : Status → Why → ClientView → ClientView
client_after_stop status why m = record m { stage = stage_after_stop status why m.stage }
