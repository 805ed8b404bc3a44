-- The number of the file under way: replies leave it, and the end of a frame turns a page only where one more is to come.
use Rattle.std.proofs.Common.{◌≡◌, ◌∙◌, ℕ, ◌+◌, ◌<◌, ◌≤◌, Bool, true, false, Option, Some, None, List, [], ◌∷◌, refl, sym, subst, arith}
use Rattle.std.specs.Prelude.{nat_lt}
use Rattle.std.proofs.lemmas.Bool.Decides.{nat_tests}
use Rattle.sane_fixed.specs.declared.status.Status.{Status}
use Rattle.frame_join.specs.FrameHistory.{JoinHistory, IsJoined}
use Rattle.wire_message.specs.declared.message.Reply.{Reply}
use Rattle.wire_message.specs.declared.message.Procedure.{Procedure}
use Rattle.scan_job.specs.declared.job.Task.{Task}
use Rattle.scan_job.specs.declared.job.Task.TheVariants as tasks
use Rattle.scan_job.specs.declared.outcome.Outcome.{Outcome}
use Rattle.scan_job.specs.declared.outcome.Outcome.TheVariants.{Running, Done, Ended}
use Rattle.client_replies.specs.declared.progress.JobTarget.{JobTarget}
use Rattle.client_replies.specs.declared.progress.Progress.{Progress}
use Rattle.client_replies.specs.declared.progress.Notes.{Notes}
use Rattle.client_replies.specs.declared.progress.Next.{Next}
use Rattle.client_replies.specs.declared.progress.Next.TheVariants.{Wait, Finish, Stop}
use Rattle.client_replies.proofs.TurnRows.{turn_calm, more_pages, EndRow, NextFrame, NextPage, LastPage, end_row}
use Rattle.client_replies.specs.ReplyTurns.{FrameEnd, frame_ended_by}
use Rattle.client_replies.specs.ProtocolStates.{ProtocolState, after_reply, answer_to, is_running, is_turning, next_outcome, next_progress, next_notes}
use Rattle.net_client.specs.ReplyPieces.{HearsReplies, awaited_procedure}
use Rattle.event_world.specs.FileInvariant.{HasMore, HasNumber, IsAmong}

-- ---- a job that was running behind one reply, and behind several

still_numbered : (task : Task) (notes : Notes) (file pages : ℕ) (next : Next) → notes.file ≡ file → file ≡ pages + 1 → IsAmong task file → is_turning (next_progress next) ≡ false → HasNumber task (next_outcome task notes next) (next_progress next) (next_notes notes next).file pages
still_numbered task notes file pages (Wait progress) same number among none = (same ∙ number, subst (IsAmong task) (sym same) among, λ turns. absurd (let clash : true ≡ false = sym turns ∙ none in cc))
still_numbered task notes file pages (Finish devices) same number among none = tt
still_numbered task notes file pages (Stop status why) same number among none = tt

-- a protocol state that is over waits for nothing
abbrev IsQuiet : ProtocolState → Type 0
IsQuiet t = is_running t.outcome ≡ false → awaited_procedure t.progress ≡ None

quiet_by : (task : Task) (notes : Notes) (next : Next) → is_running (next_outcome task notes next) ≡ false → awaited_procedure (next_progress next) ≡ None
quiet_by task notes (Wait progress) e = absurd (let clash : true ≡ false = e in cc)
quiet_by task notes (Finish devices) e = refl
quiet_by task notes (Stop status why) e = refl

pub number_at : (task : Task) (outcome : Outcome) (progress : Progress) (file pages : ℕ) → is_running outcome ≡ true → HasNumber task outcome progress file pages
    → (file ≡ pages + 1) × IsAmong task file × (is_turning progress ≡ true → HasMore task file)
number_at task Running progress file pages running h = h
number_at task (Done reports) progress file pages running h = absurd (let clash : false ≡ true = running in cc)
number_at task (Ended status why) progress file pages running h = absurd (let clash : false ≡ true = running in cc)

runs_if : (b : Bool) (o : Option Procedure) (p : Procedure) → (b ≡ false → o ≡ None) → o ≡ Some p → b ≡ true
runs_if true o p quiet e = refl
runs_if false o p quiet e = absurd (let clash : Some p ≡ None = sym e ∙ quiet refl in cc)

reply_numbered : (target : JobTarget) (t : ProtocolState) (r : Reply) (pages : ℕ) → is_running t.outcome ≡ true → HasNumber target.task t.outcome t.progress t.notes.file pages
    → HasNumber target.task (after_reply target t r).outcome (after_reply target t r).progress (after_reply target t r).notes.file pages
reply_numbered target t r pages running h =
    let at = number_at target.task t.outcome t.progress t.notes.file pages running h in
    let calm = turn_calm t.progress target t.notes t.history r in
    still_numbered target.task (answer_to target t r).turn.notes t.notes.file pages (answer_to target t r).turn.next calm.0 at.0 at.1 calm.1

pub hears_numbered : (target : JobTarget) (t u : ProtocolState) (rs : List Reply) (text sent : List ℕ) (pages : ℕ) → HearsReplies target t rs text sent u → IsQuiet t → HasNumber target.task t.outcome t.progress t.notes.file pages
    → HasNumber target.task u.outcome u.progress u.notes.file pages
hears_numbered target t u [] text sent pages h quiet n = subst (λ (x : ProtocolState). HasNumber target.task x.outcome x.progress x.notes.file pages) (sym h.2) n
hears_numbered target t u (r ∷ rs) text sent pages h quiet n =
    let running : is_running t.outcome ≡ true = runs_if (is_running t.outcome) (awaited_procedure t.progress) h.6.procedure quiet h.6.awaited_is in
    hears_numbered target (after_reply target t r) u rs h.1 h.3 pages h.8 (λ e. quiet_by target.task (answer_to target t r).turn.notes (answer_to target t r).turn.next e) (reply_numbered target t r pages running n)

-- ---- the end of a frame

-- no file is behind this one
abbrev pub IsLast : Task → ℕ → Type 0
IsLast (tasks.Batch count) file = count ≤ file
IsLast task file = Unit {0}

-- a page is turned where one more is to come, and a job is done with the last page, whose picture is whole
abbrev pub EndsBy : Task → ℕ → JoinHistory → Next → Type 0
EndsBy task file past (Wait progress) = is_turning progress ≡ true → HasMore task file
EndsBy task file past (Finish devices) = IsJoined past × IsLast task file
EndsBy task file past (Stop status why) = Unit {0}

more_of : (file count : ℕ) → nat_lt file count ≡ true → file < count
more_of file count e = grind (arith, nat_tests)

last_of : (file count : ℕ) → nat_lt file count ≡ false → count ≤ file
last_of file count e = grind (arith, nat_tests)

more_come : (task : Task) (file : ℕ) → more_pages task file ≡ true → HasMore task file
more_come (tasks.Batch count) file e = more_of file count e
more_come task file e = absurd (let clash : false ≡ true = e in cc)

none_come : (task : Task) (file : ℕ) → more_pages task file ≡ false → IsLast task file
none_come (tasks.Batch count) file e = last_of file count e
none_come task file e = tt

row_ends : (task : Task) (file : ℕ) (past : JoinHistory) (ending : FrameEnd) → EndRow task file past ending → EndsBy task file ending.history ending.next
row_ends task file past ending (NextFrame e) = λ on. absurd (let clash : false ≡ true = on in cc)
row_ends task file past ending (NextPage joined more) = λ on. more_come task file more
row_ends task file past ending (LastPage joined last) = (joined, none_come task file last)
row_ends task file past ending _ = tt

pub frame_ends : (task : Task) (file : ℕ) (past : JoinHistory) (status : Option Status) → EndsBy task file (frame_ended_by task file past status).history (frame_ended_by task file past status).next
frame_ends task file past status = row_ends task file past (frame_ended_by task file past status) (end_row task file past status)

pub end_numbered : (task : Task) (notes : Notes) (past : JoinHistory) (pages : ℕ) (next : Next) → notes.file ≡ pages + 1 → IsAmong task notes.file → EndsBy task notes.file past next
    → HasNumber task (next_outcome task notes next) (next_progress next) (next_notes notes next).file pages
end_numbered task notes past pages (Wait progress) number among ends = (number, among, ends)
end_numbered task notes past pages (Finish devices) number among ends = tt
end_numbered task notes past pages (Stop status why) number among ends = tt
