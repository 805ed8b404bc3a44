-- A job reads a frame's data from where it made the data connection on, and hears no reply meanwhile.
use Rattle.std.specs.Prelude.{◌&&◌, if◌then◌else◌}
use Rattle.std.proofs.Common.{◌≡◌, ◌∙◌, ◌⊎◌, inl, inr, ℕ, Bool, true, false, List, [], ◌∷◌, refl, sym, ap, subst}
use Rattle.sane_fixed.specs.declared.status.Status.TheVariants as statuses
use Rattle.frame_join.specs.FrameHistory.{JoinHistory, after_pull, empty_history}
use Rattle.wire_message.specs.declared.message.Reply.{Reply}
use Rattle.scan_job.specs.declared.job.Job.{Job}
use Rattle.scan_job.specs.declared.job.Task.{Task}
use Rattle.scan_job.specs.declared.job.Task.TheVariants as tasks
use Rattle.scan_job.specs.declared.outcome.Outcome.{Outcome}
use Rattle.scan_job.specs.declared.outcome.Outcome.TheVariants.{Running}
use Rattle.scan_job.specs.declared.outcome.Why.TheVariants as whys
use Rattle.client_replies.specs.declared.progress.JobTarget.{JobTarget}
use Rattle.client_replies.specs.declared.progress.Link.{Link}
use Rattle.client_replies.specs.declared.progress.Link.TheVariants as links
use Rattle.client_replies.specs.declared.progress.Notes.{Notes}
use Rattle.client_replies.specs.declared.progress.Progress.{Progress}
use Rattle.client_replies.specs.ReplyTurns.{after_greeting}
use Rattle.client_replies.specs.ProtocolStates.{Answer, ProtocolState, after_reply, heard_at, is_ended, is_lost_by, is_receiving, is_running, is_turning, next_outcome, next_progress, scans, turns}
use Rattle.client_replies.proofs.TurnRows.{Greets, TurnRow, turn_row}
use Rattle.net_client.specs.ClientStates.{ClientRepresents, ClientState, IsNewClient, Stays, TakesPage, Turns, after_client_end, protocol_of}
use Rattle.net_client.specs.FramePieces.{Receives}
use Rattle.net_client.specs.Taking.{TakesFile}
use Rattle.net_client.specs.ReplyPieces.{Garbled, HasHeard, HearsReplies, Heeds, OutOfMemoryAtOnce, OutOfMemoryBehind, Whole}
use Rattle.net_jobs.specs.JobJournal.{AreGives, GivesFileBytes, HearsPiece, JobMove, MovesLead, after_loss}
use Rattle.net_jobs.specs.JobJournal.JobMove.{Writes, Fails, Hears, Resumes, Prepares, Dials, Takes, Gives, Loses}
use Rattle.net_jobs.specs.JobSteps.{GivesOut, JobStep, StepLeads, StepsLead}
use Rattle.programs_refine.proofs.Outgoing.{never_both, receiving_at}

abbrev pub Receiving : ClientState → Type 0
Receiving c = is_receiving c.outcome c.progress ≡ true

-- a client that runs stands for some history
abbrev pub Serves : ClientState → Type 0
Serves c = is_running c.outcome ≡ true → (past : JoinHistory) × ClientRepresents past c

pub serves_first : (job : Job) (c : ClientState) → IsNewClient job c → Serves c
serves_first job c new = λ runs. (empty_history, new.serves)

runs_receiving : (c : ClientState) → Receiving c → is_running c.outcome ≡ true
runs_receiving c r = (receiving_at c.outcome c.progress r).runs

-- ---- no reply leads to where the data of a frame are read

abbrev IsShut : Answer → Task → Type 0
IsShut a task = is_receiving (next_outcome task a.turn.notes a.turn.next) (next_progress a.turn.next) ≡ false

greeting_shut : (task : Task) → is_receiving Running (after_greeting task) ≡ false
greeting_shut tasks.List = refl
greeting_shut task = refl

row_shut : (task : Task) (password : List ℕ) (notes : Notes) (past : JoinHistory) (progress : Progress) (r : Reply) (a : Answer) → TurnRow task password notes past progress r a → IsShut a task
row_shut task password notes past progress r a Greets = greeting_shut task
row_shut task password notes past progress r a row = refl

reply_shut : (target : JobTarget) (t : ProtocolState) (r : Reply) → is_receiving (after_reply target t r).outcome (after_reply target t r).progress ≡ false
reply_shut target t r = row_shut target.task target.password t.notes t.history t.progress r (heard_at t.progress target t.notes t.history r) (turn_row t.progress target t.notes t.history r)

hears_shut : (target : JobTarget) (rs : List Reply) (t u : ProtocolState) (text sent : List ℕ) → is_receiving t.outcome t.progress ≡ false → HearsReplies target t rs text sent u → is_receiving u.outcome u.progress ≡ false
hears_shut target [] t u text sent off h = ap (λ (x : ProtocolState). is_receiving x.outcome x.progress) h.2 ∙ off
hears_shut target (r ∷ rs) t u text sent off h = hears_shut target rs (after_reply target t r) u h.1 h.3 (reply_shut target t r) h.8

-- where a client came to, which ran and did not read data
record IsQuietClient (c : ClientState) : Type 0 where
  serves : Serves c
  shut : is_receiving c.outcome c.progress ≡ false

over_quiet : (c : ClientState) → is_running c.outcome ≡ false → IsQuietClient c
over_quiet c over = record { serves = λ runs. never_both (is_running c.outcome) runs over; shut = by (is_receiving c.outcome c.progress) refl }
  where
    by : (b : Bool) → is_receiving c.outcome c.progress ≡ b → b ≡ false
    by true r = never_both (is_running c.outcome) (runs_receiving c r) over
    by false r = refl

heard_quiet : (old new : ClientState) (past : JoinHistory) (piece : List ℕ) → is_receiving old.outcome old.progress ≡ false → HasHeard old past piece new → IsQuietClient new
heard_quiet old new past piece off h = record { serves = λ runs. (h.history_then, h.serves); shut = hears_shut old.target h.told (protocol_of old past) (protocol_of new h.history_then) h.text h.sent off h.hears }

heeds_quiet : (old new : ClientState) (past : JoinHistory) (piece : List ℕ) → is_receiving old.outcome old.progress ≡ false → Heeds old past piece new → IsQuietClient new
heeds_quiet old new past piece off (Whole h wants) = heard_quiet old new past piece off h
heeds_quiet old new past piece off (Garbled was h runs g) = over_quiet new (ap (λ (v : ClientState). is_running v.outcome) g.ends)
heeds_quiet old new past piece off (OutOfMemoryBehind was h runs s) = over_quiet new (ap is_running s.starved.outcome)
heeds_quiet old new past piece off (OutOfMemoryAtOnce s) = over_quiet new (ap is_running s.starved.outcome)

hears_quiet : (old new : ClientState) (piece : List ℕ) → Serves old → HearsPiece old piece new → IsQuietClient new
hears_quiet old new piece serves h =
    let s = serves h.running in
    heeds_quiet old new s.0 piece h.quiet (h.heeds s.0 s.1)

-- ---- nor do bytes of a file that go out

page_serves : (old new : ClientState) (past : JoinHistory) (bytes : List ℕ) → TakesPage old past bytes new → (q : JoinHistory) × ClientRepresents q new
page_serves old new past bytes (Stays short rest s) = (after_pull bytes past, s)
page_serves old new past bytes (Turns whole shown t s) = (empty_history, s)

gave_serves : (old new : ClientState) (bytes : List ℕ) → Serves old → GivesFileBytes old bytes new → Serves new
gave_serves old new bytes serves g runs =
    let s = serves (sym (ap is_running g.outcome) ∙ runs) in
    let t = g.taken s.0 s.1 in
    by (turns old.outcome old.progress) refl s t
  where
    by : (b : Bool) → turns old.outcome old.progress ≡ b → (s : (past : JoinHistory) × ClientRepresents past old) → TakesFile old s.0 g.room bytes new → (q : JoinHistory) × ClientRepresents q new
    by true on s t = page_serves old new s.0 bytes (t.page on)
    by false off s t = (after_pull bytes s.0, t.carried off)

page_shut : (old new : ClientState) (past : JoinHistory) (bytes : List ℕ) → is_receiving old.outcome old.progress ≡ false → TakesPage old past bytes new → is_receiving new.outcome new.progress ≡ false
page_shut old new past bytes off (Stays short rest s) = ap (λ (v : ClientState). is_receiving v.outcome v.progress) rest ∙ off
page_shut old new past bytes off (Turns whole shown t s) = ap (λ (v : ClientState). is_receiving v.outcome v.progress) t.rest

turning_runs : (outcome : Outcome) (progress : Progress) → turns outcome progress ≡ true → is_running outcome ≡ true
turning_runs outcome progress e = by (is_running outcome) e
  where
    by : (b : Bool) → (b && is_turning progress) ≡ true → b ≡ true
    by true e = refl
    by false e = absurd (let clash : false ≡ true = e in cc)

gave_shut : (old new : ClientState) (bytes : List ℕ) → Serves old → is_receiving old.outcome old.progress ≡ false → GivesFileBytes old bytes new → is_receiving new.outcome new.progress ≡ false
gave_shut old new bytes serves off g = by (is_ended old.outcome) refl (turns old.outcome old.progress) refl
  where
    by : (e : Bool) → is_ended old.outcome ≡ e → (b : Bool) → turns old.outcome old.progress ≡ b → is_receiving new.outcome new.progress ≡ false
    by true over b at = ap (λ (v : ClientState). is_receiving v.outcome v.progress) (g.ended over).1 ∙ off
    by false runs false still = ap (λ (v : ClientState). is_receiving v.outcome v.progress) (g.same runs still) ∙ off
    by false runs true on =
        let s = serves (turning_runs old.outcome old.progress on) in
        page_shut old new s.0 bytes off ((g.taken s.0 s.1).page on)

gives_serve : (old new : ClientState) (gives : List JobMove) → Serves old → AreGives gives → MovesLead old gives new → Serves new
gives_serve old new [] serves are m = subst Serves (sym m) serves
gives_serve old new (Gives bytes ∷ gives) serves are m = gave_serves m.0 new bytes (gives_serve old m.0 gives serves are m.1) m.2
gives_serve old new (move ∷ gives) serves are m = absurd are

gives_shut : (old new : ClientState) (gives : List JobMove) → IsQuietClient old → AreGives gives → MovesLead old gives new → IsQuietClient new
gives_shut old new [] q are m = subst IsQuietClient (sym m) q
gives_shut old new (Gives bytes ∷ gives) q are m =
    let before = gives_shut old m.0 gives q are m.1 in
    record { serves = gave_serves m.0 new bytes before.serves m.2; shut = gave_shut m.0 new bytes before.serves before.shut m.2 }
gives_shut old new (move ∷ gives) q are m = absurd are

out_serves : (scanned turned : Bool) (old new : ClientState) (gives : List JobMove) → Serves old → GivesOut scanned turned old gives new → Serves new
out_serves true true old new gives serves o = gave_serves o.mid new o.bytes (gives_serve old o.mid o.before serves o.are o.leads) o.last
out_serves true false old new gives serves (inl o) = gives_serve old new gives serves o.runs_out.are o.runs_out.leads
out_serves true false old new gives serves (inr none) = subst Serves (sym none.1.1) serves
out_serves false turned old new gives serves none = subst Serves (sym none.1.1) serves

out_shut : (scanned turned : Bool) (old new : ClientState) (gives : List JobMove) → IsQuietClient old → GivesOut scanned turned old gives new → is_receiving new.outcome new.progress ≡ false
out_shut true true old new gives q o =
    let mid = gives_shut old o.mid o.before q o.are o.leads in
    gave_shut o.mid new o.bytes mid.serves mid.shut o.last
out_shut true false old new gives q (inl o) = (gives_shut old new gives q o.runs_out.are o.runs_out.leads).shut
out_shut true false old new gives q (inr none) = ap (λ (v : ClientState). is_receiving v.outcome v.progress) none.1.1 ∙ q.shut
out_shut false turned old new gives q none = ap (λ (v : ClientState). is_receiving v.outcome v.progress) none.1.1 ∙ q.shut

-- ---- a step

lost_serves : (link : Link) (c : ClientState) → Serves c → Serves (after_loss link c)
lost_serves link c serves = by (is_lost_by link c.outcome c.progress)
  where
    by : (b : Bool) → Serves (if b then after_client_end statuses.IoError whys.Lost c else c)
    by true = λ runs. absurd (let clash : false ≡ true = runs in cc)
    by false = serves

lost_receives : (link : Link) (c : ClientState) → Receiving (after_loss link c) → Receiving c
lost_receives link c = by (is_lost_by link c.outcome c.progress)
  where
    by : (b : Bool) → Receiving (if b then after_client_end statuses.IoError whys.Lost c else c) → Receiving c
    by true r = absurd (let clash : false ≡ true = r in cc)
    by false r = r

with_out_serves : (c : ClientState) (out : List ℕ) → Serves c → Serves (record c { out = out })
with_out_serves c out serves runs = let s = serves runs in (s.0, record { stands = s.1.stands; fits = s.1.fits })

received_serves : (old new : ClientState) (past : JoinHistory) (piece : List ℕ) → Receives old past piece new → (q : JoinHistory) × ClientRepresents q new
received_serves old new past piece (inl r) = (_, r.serves)
received_serves old new past piece (inr (inl r)) = (_, r.ends.serves)
received_serves old new past piece (inr (inr r)) = (_, r.serves)

step_serves : (old new : ClientState) (move : JobMove) (gives : List JobMove) (turned : Bool) → Serves old → StepLeads old (record { move = move; gives = gives; turned = turned }) new → Serves new
step_serves old new (Writes bytes) gives turned serves l = subst Serves (sym l.2.new_is) (with_out_serves old [] serves)
step_serves old new (Fails bytes) gives turned serves l = subst Serves (sym l.2.new_is) (lost_serves links.Control (record old { out = new.out }) (with_out_serves old new.out serves))
step_serves old new (Hears piece) gives turned serves l = out_serves (scans old.target.task) turned l.heard new gives (hears_quiet old l.heard piece serves l.hears).serves l.gives_out
step_serves old new Resumes gives turned serves l = out_serves (scans old.target.task) turned l.heard new gives (hears_quiet old l.heard [] serves l.hears).serves l.gives_out
step_serves old new (Prepares port) gives turned serves l = subst Serves (sym l.2.same) serves
step_serves old new (Dials port true) gives turned serves l = λ runs. (let s = serves l.2.running in (s.0, l.2.serves s.0 s.1))
step_serves old new (Dials port false) gives turned serves l = subst Serves (sym l.2.new_is) (lost_serves links.Image old serves)
step_serves old new (Takes piece) gives turned serves l =
    out_serves (scans old.target.task) turned l.taken new gives (λ runs. (let s = serves (runs_receiving old l.takes.receiving) in received_serves old l.taken s.0 piece (l.takes.receives s.0 s.1))) l.gives_out
step_serves old new (Gives bytes) gives turned serves l = absurd l
step_serves old new (Loses link reason) gives turned serves l = subst Serves (sym l.2.new_is) (λ runs. absurd (let clash : false ≡ true = runs in cc))

-- a move that reads no reply and makes no data connection
abbrev pub IsApart : JobMove → Type 0
IsApart (Hears piece) = ⊥
IsApart Resumes = ⊥
IsApart (Dials port made) = made ≡ false
IsApart move = Unit {0}

-- a job that reads data made its data connection just before, or read data before too
pub step_receives : (old new : ClientState) (move : JobMove) (gives : List JobMove) (turned : Bool) → Serves old → StepLeads old (record { move = move; gives = gives; turned = turned }) new → Receiving new → ((port : ℕ) × (move ≡ Dials port true)) ⊎ (Receiving old × IsApart move)
step_receives old new (Writes bytes) gives turned serves l r = inr (sym (ap (λ (v : ClientState). is_receiving v.outcome v.progress) l.2.new_is) ∙ r, tt)
step_receives old new (Fails bytes) gives turned serves l r = inr (lost_receives links.Control (record old { out = new.out }) (subst Receiving l.2.new_is r), tt)
step_receives old new (Hears piece) gives turned serves l r =
    never_both (is_receiving new.outcome new.progress) r (out_shut (scans old.target.task) turned l.heard new gives (hears_quiet old l.heard piece serves l.hears) l.gives_out)
step_receives old new Resumes gives turned serves l r =
    never_both (is_receiving new.outcome new.progress) r (out_shut (scans old.target.task) turned l.heard new gives (hears_quiet old l.heard [] serves l.hears) l.gives_out)
step_receives old new (Prepares port) gives turned serves l r = inr (subst Receiving l.2.same r, tt)
step_receives old new (Dials port true) gives turned serves l r = inl (port, refl)
step_receives old new (Dials port false) gives turned serves l r = inr (lost_receives links.Image old (subst Receiving l.2.new_is r), refl)
step_receives old new (Takes piece) gives turned serves l r = inr (l.takes.receiving, tt)
step_receives old new (Gives bytes) gives turned serves l r = absurd l
step_receives old new (Loses link reason) gives turned serves l r = absurd (let clash : false ≡ true = subst Receiving l.2.new_is r in cc)

-- ---- steps

pub steps_serve : (first : ClientState) (steps : List JobStep) (last : ClientState) → Serves first → StepsLead first steps last → Serves last
steps_serve first [] last serves l = subst Serves (sym l) serves
steps_serve first (step ∷ steps) last serves l = step_serves l.0 last step.move step.gives step.turned (steps_serve first steps l.0 serves l.1) l.3
