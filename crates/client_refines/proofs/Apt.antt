-- What a client asks for is apt, and asked for as it begins to wait.
use Rattle.std.proofs.Common.{ℕ, Option, Some, None, List, [], ◌∷◌, refl}
use Rattle.sane_fixed.specs.declared.status.Status.{Status}
use Rattle.sane_fixed.specs.declared.status.Status.TheVariants as statuses
use Rattle.sane_fixed.specs.declared.device_info.DeviceInfo.{DeviceInfo}
use Rattle.frame_join.specs.FrameHistory.{JoinHistory}
use Rattle.wire_message.specs.declared.message.Reply.{Reply}
use Rattle.scan_job.specs.declared.job.Task.{Task}
use Rattle.scan_job.specs.declared.job.Task.TheVariants as tasks
use Rattle.scan_job.specs.declared.outcome.Why.{Why}
use Rattle.client_replies.specs.declared.progress.JobTarget.{JobTarget}
use Rattle.client_replies.specs.declared.progress.Progress.{Progress}
use Rattle.client_replies.specs.declared.progress.Progress.TheVariants as stages
use Rattle.client_replies.specs.declared.progress.Notes.{Notes}
use Rattle.client_replies.specs.declared.progress.Next.{Next}
use Rattle.client_replies.specs.declared.progress.Next.TheVariants.{Wait, Finish, Stop}
use Rattle.client_replies.specs.GivenValues.{given_like, wire_value_in}
use Rattle.client_replies.proofs.TurnRows.{BeforeStart, AtOpening, AtReopening, AtDescribing, AtPutting, AtGetting, TurnRow, Stops, Greets, Challenges, Admits, Reloads, Puts, Gets, ShowsAll, SetsAll, Starts, turn_row, EndRow, NextFrame, end_row}
use Rattle.client_replies.specs.ReplyTurns.{FrameEnd, after_greeting, of_kind, frame_ended_by, frame_ended}
use Rattle.sane_fixed.specs.Status.{status_of}
use Rattle.client_replies.specs.ProtocolStates.{Answer, heard_at}
use Rattle.system_model.specs.AbstractMessages as words
use Rattle.md5_auth.specs.ChallengeReading.{challenge_of}
use Rattle.client_refines.specs.DecodedReplies.{DecodedReply, Before, Says, Demands, reply_if_good, challenge_reply, opened_reply, reply_without_resource, gave_or_acked, got_or_acked as got_sense, decoded_reply_at}
use Rattle.client_refines.specs.ClientRefinement.{IsApt}

-- ---- what is waited for is apt, and asked for now

-- what a job waits for next is apt
abbrev pub NextApt : JobTarget → Next → Notes → Type 0
NextApt target (Wait progress) notes = IsApt target progress notes
NextApt target (Finish devices) notes = Unit {0}
NextApt target (Stop status why) notes = Unit {0}

-- and it is asked for as the wait begins
abbrev pub AsksNow : JobTarget → Progress → Notes → Type 0
AsksNow target stages.Reopening notes = ⊥
AsksNow target stages.Turning notes = ⊥
AsksNow target progress notes = IsApt target progress notes

abbrev pub IsAsked : JobTarget → Next → Notes → Type 0
IsAsked target (Wait progress) notes = AsksNow target progress notes
IsAsked target (Finish devices) notes = Unit {0}
IsAsked target (Stop status why) notes = Unit {0}

wait_apt : (target : JobTarget) (progress : Progress) (notes : Notes) → AsksNow target progress notes → IsApt target progress notes
wait_apt target stages.Reopening notes a = absurd a
wait_apt target stages.Turning notes a = absurd a
wait_apt target progress notes a = a

asked_apt : (target : JobTarget) (next : Next) (notes : Notes) → IsAsked target next notes → NextApt target next notes
asked_apt target (Wait progress) notes a = wait_apt target progress notes a
asked_apt target (Finish devices) notes a = tt
asked_apt target (Stop status why) notes a = tt

-- ---- by the decoded reply of a reply

-- behind AUTHORIZE's word nothing is asked for
abbrev pub AsksNothing : Next → Type 0
AsksNothing (Wait stages.Reopening) = Unit {0}
AsksNothing (Wait progress) = ⊥
AsksNothing (Finish devices) = ⊥
AsksNothing (Stop status why) = Unit {0}

-- and behind an answer what is waited for then
abbrev pub AskedAt : JobTarget → DecodedReply → Next → Notes → Type 0
AskedAt target Before next notes = AsksNothing next
AskedAt target (Says answer) next notes = IsAsked target next notes
AskedAt target Demands next notes = IsAsked target next notes

good_asked : (target : JobTarget) (status : Status) (answer : words.AbstractReply) (next : Next) (notes : Notes) → IsAsked target next notes → AskedAt target (reply_if_good status answer) next notes
good_asked target statuses.Good answer next notes a = a
good_asked target status answer next notes a = a

asks_asked : (target : JobTarget) (resource : List ℕ) (challenge : Option (List ℕ)) (next : Next) (notes : Notes) → IsAsked target next notes → AskedAt target (challenge_reply resource challenge) next notes
asks_asked target resource None next notes a = a
asks_asked target resource (Some challenge) next notes a = a

opens_asked : (target : JobTarget) (status : Status) (resource : List ℕ) (next : Next) (notes : Notes) → IsAsked target next notes → AskedAt target (opened_reply status resource) next notes
opens_asked target status [] next notes a = good_asked target status words.Opened next notes a
opens_asked target status (b ∷ bytes) next notes a = asks_asked target (b ∷ bytes) (challenge_of (b ∷ bytes)) next notes a

plain_asked : (target : JobTarget) (status : Status) (answer : words.AbstractReply) (resource : List ℕ) (next : Next) (notes : Notes) → IsAsked target next notes → AskedAt target (reply_without_resource resource (reply_if_good status answer)) next notes
plain_asked target status answer [] next notes a = good_asked target status answer next notes a
plain_asked target status answer (b ∷ bytes) next notes a = a

before_asked : {progress : Progress} {r : Reply} (place : DeviceInfo → ℕ) (target : JobTarget) (next : Next) (notes : Notes) → BeforeStart progress r → IsAsked target next notes → AskedAt target (decoded_reply_at place progress r) next notes
before_asked place target next notes (AtOpening {status = status} {resource = resource}) a = opens_asked target status resource next notes a
before_asked place target next notes (AtReopening {status = status} {resource = resource}) a = opens_asked target status resource next notes a
before_asked place target next notes AtDescribing a = a
before_asked place target next notes (AtPutting {kind = kind} {asked = asked} {status = status} {info = info} {given = given} {value = value} {resource = resource}) a = plain_asked target status (gave_or_acked (of_kind kind given (given_like asked value)) info) resource next notes a
before_asked place target next notes (AtGetting {kind = kind} {status = status} {given = given} {value = value} {resource = resource}) a = plain_asked target status (got_sense (of_kind kind given (wire_value_in kind value))) resource next notes a

stops_asked : (target : JobTarget) (decoded : DecodedReply) (status : Status) (why : Why) (notes : Notes) → AskedAt target decoded (Stop status why) notes
stops_asked target Before status why notes = tt
stops_asked target (Says answer) status why notes = tt
stops_asked target Demands status why notes = tt

greeting_asked : (target : JobTarget) (task : Task) (notes : Notes) → IsAsked target (Wait (after_greeting task)) notes
greeting_asked target tasks.List notes = tt
greeting_asked target task notes = tt

-- ---- what each reply comes to

row_asked : (place : DeviceInfo → ℕ) (target : JobTarget) (notes : Notes) (past : JoinHistory) (progress : Progress) (r : Reply) (a : Answer) → TurnRow target.task target.password notes past progress r a → AskedAt target (decoded_reply_at place progress r) a.turn.next a.turn.notes
row_asked place target notes past progress r a (Stops now status why f k) = stops_asked target (decoded_reply_at place progress r) status why now
row_asked place target notes past progress r a Greets = greeting_asked target target.task notes
row_asked place target notes past progress r a (Challenges b bytes answer q e) = before_asked place target a.turn.next a.turn.notes q e
row_asked place target notes past progress r a (Admits word q) = before_asked place target a.turn.next a.turn.notes q tt
row_asked place target notes past progress r a (Reloads now q k) = before_asked place target a.turn.next a.turn.notes q tt
row_asked place target notes past progress r a (Puts now n option name text asked e reads q k) = before_asked place target a.turn.next a.turn.notes q (record { option = option; stands = e; kind_is = refl; text = text; reads = reads })
row_asked place target notes past progress r a (Gets now n option e m q k) = before_asked place target a.turn.next a.turn.notes q (record { option = option; stands = e; kind_is = refl; size_is = refl })
row_asked place target notes past progress r a (ShowsAll now m q k) = before_asked place target a.turn.next a.turn.notes q tt
row_asked place target notes past progress r a (SetsAll now none q k) = before_asked place target a.turn.next a.turn.notes q tt
row_asked place target notes past progress r a (Starts now scanned q k) = before_asked place target a.turn.next a.turn.notes q tt
row_asked place target notes past progress r a _ = tt

-- any reply
abbrev ReplyAsked : (DeviceInfo → ℕ) → Progress → JobTarget → Notes → JoinHistory → Reply → Type 0
ReplyAsked place progress target notes past r = AskedAt target (decoded_reply_at place progress r) (heard_at progress target notes past r).turn.next (heard_at progress target notes past r).turn.notes

pub reply_asked : (place : DeviceInfo → ℕ) (progress : Progress) (target : JobTarget) (notes : Notes) (past : JoinHistory) (r : Reply) → ReplyAsked place progress target notes past r
reply_asked place progress target notes past r = row_asked place target notes past progress r _ (turn_row progress target notes past r)

nothing_apt : (target : JobTarget) (next : Next) (notes : Notes) → AsksNothing next → NextApt target next notes
nothing_apt target (Wait stages.Reopening) notes a = tt
nothing_apt target (Wait progress) notes a = absurd a
nothing_apt target (Finish devices) notes a = tt
nothing_apt target (Stop status why) notes a = tt

pub sense_apt : (target : JobTarget) (decoded : DecodedReply) (next : Next) (notes : Notes) → AskedAt target decoded next notes → NextApt target next notes
sense_apt target Before next notes a = nothing_apt target next notes a
sense_apt target (Says answer) next notes a = asked_apt target next notes a
sense_apt target Demands next notes a = asked_apt target next notes a

-- ---- by the end of a frame

-- what is waited for is asked for now, or, as the job turns to the next page, later
abbrev pub IsLater : JobTarget → Next → Notes → Type 0
IsLater target (Wait stages.Reopening) notes = ⊥
IsLater target next notes = NextApt target next notes

end_row_later : (target : JobTarget) (notes : Notes) (task : Task) (file : ℕ) (past : JoinHistory) (ending : FrameEnd) → EndRow task file past ending → IsLater target ending.next notes
end_row_later target notes task file past ending (NextFrame e) = tt
end_row_later target notes task file past ending _ = tt

pub end_later : (target : JobTarget) (notes : Notes) (task : Task) (file : ℕ) (past : JoinHistory) (status : Option Status) → IsLater target (frame_ended_by task file past status).next notes
end_later target notes task file past status = end_row_later target notes task file past _ (end_row task file past status)

pub end_is_later : (target : JobTarget) (notes : Notes) (past : JoinHistory) (n : ℕ) → IsLater target (frame_ended target.task notes.file past n).next notes
end_is_later target notes past n = end_later target notes target.task notes.file past (status_of n)

wait_later : (target : JobTarget) (progress : Progress) (notes : Notes) → IsLater target (Wait progress) notes → IsApt target progress notes
wait_later target stages.Reopening notes a = absurd a
wait_later target progress notes a = a

pub later_apt : (target : JobTarget) (next : Next) (notes : Notes) → IsLater target next notes → NextApt target next notes
later_apt target (Wait progress) notes a = wait_later target progress notes a
later_apt target (Finish devices) notes a = tt
later_apt target (Stop status why) notes a = tt
