-- The number of the file under way is one more than the pages that were turned.
use Rattle.std.proofs.Common.{◌≡◌, ◌∙◌, ◌⊎◌, inl, inr, ◌+◌, ◌<◌, ℕ, Bool, true, false, List, [], ◌∷◌, ◌++◌, length, refl, sym, ap, subst, arith, length-append}
use Rattle.std.specs.Prelude.{◌&&◌, if◌then◌else◌, nat_lt}
use Rattle.std.proofs.lemmas.Bool.{ltb-true, ltb-false}
use Rattle.frame_join.specs.FrameHistory.{JoinHistory, IsJoined, after_pull}
use Rattle.wire_message.specs.declared.message.Reply.{Reply}
use Rattle.scan_job.specs.JobSize.{HasCount}
use Rattle.scan_job.specs.declared.job.Job.{Job}
use Rattle.scan_job.specs.declared.job.Task.{Task}
use Rattle.scan_job.specs.declared.job.Task.TheVariants as tasks
use Rattle.scan_job.specs.declared.report.Reports.{Reports}
use Rattle.scan_job.specs.declared.outcome.Outcome.{Outcome}
use Rattle.scan_job.specs.declared.outcome.Outcome.TheVariants.{Running, Done, Ended}
use Rattle.client_replies.specs.declared.progress.JobTarget.{JobTarget}
use Rattle.client_replies.specs.declared.progress.Progress.{Progress}
use Rattle.client_replies.specs.declared.progress.Progress.TheVariants as stages
use Rattle.client_replies.specs.declared.progress.Notes.{Notes}
use Rattle.client_replies.specs.declared.progress.Next.{Next}
use Rattle.client_replies.specs.declared.progress.Next.TheVariants.{Wait, Finish, Stop}
use Rattle.client_replies.proofs.TurnRows.{MayShow, TurnRow, Greets, Lists, Gets, ShowsAll, SetsAll, RunsOut, turn_row, turn_calm, more_pages, EndRow, NextFrame, NextPage, LastPage, end_row}
use Rattle.client_replies.specs.ReplyTurns.{FrameEnd, after_greeting, is_all}
use Rattle.sane_fixed.specs.Status.{status_of}
use Rattle.client_replies.specs.ProtocolStates.{Answer, is_turning, scans, is_running, lists, shows, next_outcome, target_of, next_notes, next_progress, answer_to, after_reply, progress_connected, turns, next_file}
use Rattle.net_jobs.specs.JobTraces.{TraceEvent, Replied, Opened, Came, Finished, Gave, Turned, JobTrace, EventsLead, EventLeads, initial_trace, frame_end_at}

-- ---- a reply leaves the number as it is, and turns to no page

-- only these jobs come to these replies
abbrev Apt : Task → Progress → Type 0
Apt task stages.Listing = lists task ≡ true
Apt task (stages.Getting n kind size) = shows task ≡ true
Apt task progress = Unit {0}

-- a batch that a reply ends well has had a page
abbrev pub HasSome : Task → ℕ → Type 0
HasSome (tasks.Batch count) file = 1 < file
HasSome task file = Unit {0}

abbrev Leads : Task → ℕ → Next → Type 0
Leads task file (Wait progress) = Apt task progress
Leads task file (Finish devices) = HasSome task file
Leads task file (Stop status why) = Unit {0}

some_unscanned : (task : Task) (file : ℕ) → scans task ≡ false → HasSome task file
some_unscanned (tasks.Batch count) file e = absurd (let clash : true ≡ false = e in cc)
some_unscanned task file e = tt

some_listed : (task : Task) (file : ℕ) → lists task ≡ true → HasSome task file
some_listed (tasks.Batch count) file e = absurd (let clash : false ≡ true = e in cc)
some_listed task file e = tt

some_shown : (task : Task) (file : ℕ) → shows task ≡ true → HasSome task file
some_shown (tasks.Batch count) file e = absurd (let clash : false ≡ true = e in cc)
some_shown task file e = tt

both_set : (first second : Bool) → (first && second) ≡ true → second ≡ true
both_set true second e = e
both_set false second e = absurd (let clash : false ≡ true = e in cc)

some_all : (task : Task) (first : Bool) (file : ℕ) → is_all task first file ≡ true → HasSome task file
some_all (tasks.Batch count) first file e = ltb-true 1 file (both_set first (nat_lt 1 file) e)
some_all task first file e = tt

greeting_apt : (task : Task) → Apt task (after_greeting task)
greeting_apt tasks.List = refl
greeting_apt task = tt

shown_at : (task : Task) (progress : Progress) → Apt task progress → MayShow task progress → shows task ≡ true
shown_at task (stages.Getting n kind size) s m = s
shown_at task progress s m = m

row_leads : (task : Task) (password : List ℕ) (notes : Notes) (past : JoinHistory) (progress : Progress) (r : Reply) (a : Answer) → TurnRow task password notes past progress r a → Apt task progress → Leads task notes.file a.turn.next
row_leads task password notes past progress r a Greets s = greeting_apt task
row_leads task password notes past progress r a (Lists devices) s = some_listed task notes.file s
row_leads task password notes past progress r a (Gets now n option e m q k) s = shown_at task progress s m
row_leads task password notes past progress r a (ShowsAll now m q k) s = some_shown task notes.file (shown_at task progress s m)
row_leads task password notes past progress r a (SetsAll now none q k) s = some_unscanned task notes.file none
row_leads task password notes past progress r a (RunsOut {first = first} e) s = some_all task first notes.file e
row_leads task password notes past progress r a _ s = tt

next_file_is : (notes : Notes) (next : Next) → (next_notes notes next).file ≡ notes.file
next_file_is notes (Wait progress) = refl
next_file_is notes (Finish devices) = refl
next_file_is notes (Stop status why) = refl

-- ---- what is known of a trace

-- a batch goes on to a further page only below its count
abbrev pub HasMore : Task → ℕ → Type 0
HasMore (tasks.Batch count) file = file < count
HasMore task file = ⊥

abbrev pub IsFew : Task → ℕ → Type 0
IsFew (tasks.Batch count) n = n < count
IsFew task n = n ≡ 0

pub record Counts (task : Task) (trace : JobTrace) : Type 0 where
  pub number : trace.protocol.notes.file ≡ length trace.pages + 1
  pub turning : trace.protocol.progress ≡ stages.Turning → HasMore task trace.protocol.notes.file
  pub few : IsFew task (length trace.pages)
  pub apt : Apt task trace.protocol.progress
  pub done : (reports : Reports) → trace.protocol.outcome ≡ Done reports → IsJoined trace.protocol.history ⊎ HasSome task trace.protocol.notes.file

none_few : (task : Task) → HasCount task → IsFew task 0
none_few tasks.List h = refl
none_few tasks.Show h = refl
none_few tasks.SetOnly h = refl
none_few tasks.Scan h = refl
none_few (tasks.Batch count) h = omega (arith, h.0)

counts_begun : (job : Job) → HasCount job.task → Counts job.task (initial_trace job)
counts_begun job h = record { number = refl; turning = λ e. absurd (let clash : stages.Greeting ≡ stages.Turning = e in cc); few = none_few job.task h; apt = tt; done = λ reports e. absurd (let clash : Running ≡ Done reports = e in cc) }

-- ---- a frame's end

more_come : (task : Task) (file : ℕ) → more_pages task file ≡ true → HasMore task file
more_come (tasks.Batch count) file e = ltb-true file count e
more_come task file e = absurd (let clash : false ≡ true = e in cc)

-- it turns to a further page only where one is to come, what is waited for then is apt, and a job is done with a whole picture
abbrev Closes : Task → ℕ → JoinHistory → Next → Type 0
Closes task file past (Wait progress) = (progress ≡ stages.Turning → HasMore task file) × Apt task progress
Closes task file past (Finish devices) = IsJoined past
Closes task file past (Stop status why) = Unit {0}

end_closes : (task : Task) (file : ℕ) (past : JoinHistory) (ending : FrameEnd) → EndRow task file past ending → Closes task file ending.history ending.next
end_closes task file past ending (NextFrame e) = (λ turning. absurd (let clash : stages.Starting false ≡ stages.Turning = turning in cc), tt)
end_closes task file past ending (NextPage joined more) = (λ turning. more_come task file more, tt)
end_closes task file past ending (LastPage joined last) = joined
end_closes task file past ending _ = tt

closes_more : (task : Task) (file : ℕ) (past : JoinHistory) (next : Next) → Closes task file past next → next_progress next ≡ stages.Turning → HasMore task file
closes_more task file past (Wait progress) c e = c.0 e
closes_more task file past (Finish devices) c e = absurd (let clash : stages.Over ≡ stages.Turning = e in cc)
closes_more task file past (Stop status why) c e = absurd (let clash : stages.Over ≡ stages.Turning = e in cc)

closes_apt : (task : Task) (file : ℕ) (past : JoinHistory) (next : Next) → Closes task file past next → Apt task (next_progress next)
closes_apt task file past (Wait progress) c = c.1
closes_apt task file past (Finish devices) c = tt
closes_apt task file past (Stop status why) c = tt

closes_joined : (task : Task) (notes : Notes) (file : ℕ) (past : JoinHistory) (next : Next) (reports : Reports) → Closes task file past next → next_outcome task notes next ≡ Done reports → IsJoined past
closes_joined task notes file past (Wait progress) reports c e = absurd (let clash : Running ≡ Done reports = e in cc)
closes_joined task notes file past (Finish devices) reports c e = c
closes_joined task notes file past (Stop status why) reports c e = absurd (let clash : Ended status why ≡ Done reports = e in cc)

-- ---- event by event

leads_apt : (task : Task) (file : ℕ) (next : Next) → Leads task file next → Apt task (next_progress next)
leads_apt task file (Wait progress) l = l
leads_apt task file (Finish devices) l = tt
leads_apt task file (Stop status why) l = tt

leads_some : (task : Task) (file : ℕ) (notes : Notes) (next : Next) (reports : Reports) → Leads task file next → next_outcome task notes next ≡ Done reports → HasSome task file
leads_some task file notes (Wait progress) reports l e = absurd (let clash : Running ≡ Done reports = e in cc)
leads_some task file notes (Finish devices) reports l e = l
leads_some task file notes (Stop status why) reports l e = absurd (let clash : Ended status why ≡ Done reports = e in cc)

counts_replied : (target : JobTarget) (was : JobTrace) (r : Reply) (text sent : List ℕ) → Counts target.task was → Counts target.task (record { text = text; streams = was.streams; pages = was.pages; sent = sent; protocol = after_reply target was.protocol r })
counts_replied target was r text sent c =
    let made = (answer_to target was.protocol r).turn in
    let calm = turn_calm was.protocol.progress target was.protocol.notes was.protocol.history r in
    let leads = row_leads target.task target.password was.protocol.notes was.protocol.history was.protocol.progress r _ (turn_row was.protocol.progress target was.protocol.notes was.protocol.history r) c.apt in
    let file = next_file_is made.notes made.next ∙ calm.0 in
    record {
      number = file ∙ c.number;
      turning = λ e. absurd (let clash : true ≡ false = ap is_turning (sym e) ∙ calm.1 in cc);
      few = c.few;
      apt = leads_apt target.task was.protocol.notes.file made.next leads;
      done = λ reports e. inr (subst (λ (i : ℕ). HasSome target.task i) (sym file) (leads_some target.task was.protocol.notes.file made.notes made.next reports leads e));
    }

stays_turning : (progress : Progress) → progress_connected progress ≡ stages.Turning → progress ≡ stages.Turning
stays_turning (stages.Imaging port true) e = e
stays_turning (stages.Imaging port false) e = absurd (let clash : stages.Imaging port true ≡ stages.Turning = e in cc)
stays_turning progress e = e

stays_apt : (task : Task) (progress : Progress) → Apt task progress → Apt task (progress_connected progress)
stays_apt task (stages.Imaging port true) a = tt
stays_apt task (stages.Imaging port false) a = tt
stays_apt task progress a = a

not_turning : (outcome : Outcome) (progress : Progress) (reports : Reports) → outcome ≡ Done reports → turns outcome progress ≡ true → ⊥
not_turning Running progress reports e t = let clash : Running ≡ Done reports = e in cc
not_turning (Done r) progress reports e t = let clash : false ≡ true = t in cc
not_turning (Ended status why) progress reports e t = let clash : false ≡ true = t in cc

pub is_turning_at : (outcome : Outcome) (progress : Progress) → turns outcome progress ≡ true → progress ≡ stages.Turning
is_turning_at outcome stages.Turning e = refl
is_turning_at Running progress e = absurd (let clash : false ≡ true = e in cc)
is_turning_at (Done reports) progress e = absurd (let clash : false ≡ true = e in cc)
is_turning_at (Ended status why) progress e = absurd (let clash : false ≡ true = e in cc)

grows_by : (below : Bool) (file : ℕ) → nat_lt file 4294967295 ≡ below → file < 4294967295 → (if below then file + 1 else file) ≡ file + 1
grows_by true file e less = refl
grows_by false file e less = absurd (omega (arith, ltb-false file 4294967295 e, less))

turned_more : (task : Task) (file n : ℕ) → HasCount task → HasMore task file → file ≡ n + 1 → (next_file file ≡ file + 1) × IsFew task (n + 1)
turned_more (tasks.Batch count) file n h more e = (grows_by (nat_lt file 4294967295) file refl (omega (arith, h.1, more)), omega (arith, more, e))
turned_more tasks.List file n h more e = absurd more
turned_more tasks.Show file n h more e = absurd more
turned_more tasks.SetOnly file n h more e = absurd more
turned_more tasks.Scan file n h more e = absurd more

one_longer : (pages : List JoinHistory) (page : JoinHistory) → length (pages ++ page ∷ []) ≡ length pages + 1
one_longer pages page = length-append pages (page ∷ [])

counts_on : (target : JobTarget) (was now : JobTrace) (event : TraceEvent) → HasCount target.task → Counts target.task was → EventLeads target was event now → Counts target.task now
counts_on target was now (Replied r) h c l = subst (λ (x : JobTrace). Counts target.task x) (sym l.5) (counts_replied target was r _ _ c)
counts_on target was now (Opened port) h c l =
    subst (λ (x : JobTrace). Counts target.task x) (sym l.2) (record { number = c.number; turning = λ e. c.turning (stays_turning was.protocol.progress e); few = c.few; apt = stays_apt target.task was.protocol.progress c.apt; done = c.done })
counts_on target was now (Came bytes) h c l = subst (λ (x : JobTrace). Counts target.task x) (sym l.3) (record { number = c.number; turning = c.turning; few = c.few; apt = c.apt; done = λ reports e. absurd (let clash : true ≡ false = sym l.1 ∙ ap is_running e in cc) })
counts_on target was now (Finished status) h c l =
    let next = (frame_end_at target was.protocol status).next in
    let past = (frame_end_at target was.protocol status).history in
    let file = was.protocol.notes.file in
    let closes = end_closes target.task file was.protocol.history _ (end_row target.task file was.protocol.history (status_of status)) in
    subst (λ (x : JobTrace). Counts target.task x) (sym l.7) (record {
      number = next_file_is was.protocol.notes next ∙ c.number;
      turning = λ e. subst (λ (i : ℕ). HasMore target.task i) (sym (next_file_is was.protocol.notes next)) (closes_more target.task file past next closes e);
      few = c.few;
      apt = closes_apt target.task file past next closes;
      done = λ reports e. inl (closes_joined target.task was.protocol.notes file past next reports closes e);
    })
counts_on target was now (Gave bytes) h c l = subst (λ (x : JobTrace). Counts target.task x) (sym l) (record { number = c.number; turning = c.turning; few = c.few; apt = c.apt; done = c.done })
counts_on target was now (Turned bytes) h c l =
    let more = turned_more target.task was.protocol.notes.file (length was.pages) h (c.turning (is_turning_at was.protocol.outcome was.protocol.progress l.1)) c.number in
    let longer = one_longer was.pages (after_pull bytes was.protocol.history) in
    subst (λ (x : JobTrace). Counts target.task x) (sym l.4) (record {
      number = more.0 ∙ ap (λ (i : ℕ). i + 1) (c.number ∙ sym longer);
      turning = λ e. absurd (let clash : stages.Starting true ≡ stages.Turning = e in cc);
      few = subst (λ (i : ℕ). IsFew target.task i) (sym longer) more.1;
      apt = tt;
      done = λ reports e. absurd (not_turning was.protocol.outcome was.protocol.progress reports e l.1);
    })

counts_by : (target : JobTarget) (first : JobTrace) (events : List TraceEvent) (trace : JobTrace) → HasCount target.task → Counts target.task first → EventsLead target first events trace → Counts target.task trace
counts_by target first [] trace h c r = subst (λ (x : JobTrace). Counts target.task x) (sym r) c
counts_by target first (event ∷ before) trace h c r = counts_on target r.0 trace event h (counts_by target first before r.0 h c r.1) r.2

pub counts : (job : Job) (events : List TraceEvent) (trace : JobTrace) → HasCount job.task → EventsLead (target_of job) (initial_trace job) events trace → Counts job.task trace
counts job events trace h r = counts_by (target_of job) (initial_trace job) events trace h (counts_begun job h) r
