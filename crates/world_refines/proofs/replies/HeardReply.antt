-- What a reply makes of a client: the device word that it has then, and what it waits for.
use Rattle.std.proofs.Common.{◌≡◌, ◌∙◌, ℕ, List, Option, Some, None, true, false, refl, sym, ap}
use Rattle.std.specs.Prelude.{Err, IsSome, Ok}
use Rattle.page_picture.specs.Shows.{Frame}
use Rattle.wire_message.specs.declared.message.Procedure.{Procedure}
use Rattle.wire_message.specs.declared.message.Reply.{Reply}
use Rattle.frame_join.specs.FrameHistory.{JoinHistory, answer_by, is_joined}
use Rattle.frame_join.specs.declared.join_stage.JoinFault.{JoinFault}
use Rattle.scan_job.specs.declared.job.Task.{Task}
use Rattle.scan_job.specs.declared.job.Task.TheVariants as tasks
use Rattle.scan_job.specs.declared.outcome.Outcome.{Outcome}
use Rattle.scan_job.specs.declared.outcome.Outcome.TheVariants as outcomes
use Rattle.client_replies.specs.declared.progress.JobTarget.{JobTarget}
use Rattle.client_replies.specs.declared.progress.Next.{Next}
use Rattle.client_replies.specs.declared.progress.Next.TheVariants.{Finish, Stop, Wait}
use Rattle.client_replies.specs.declared.progress.Notes.{Notes}
use Rattle.client_replies.specs.declared.progress.Progress.{Progress}
use Rattle.client_replies.specs.declared.progress.Progress.TheVariants as stages
use Rattle.client_replies.proofs.TurnRows.{TurnRow, Stops, Greets, Admits, Reloads, Puts, Gets, ShowsAll, SetsAll, Starts, turn_row}
use Rattle.client_replies.specs.ReplyTurns.{after_open_reply}
use Rattle.client_replies.specs.ProtocolStates.{Answer, HistoryFits, FitsAt, IsBetweenFrames, ProtocolState, after_reply, heard_at, is_imaging, is_running, next_outcome, next_progress, turns, wanted_port}
use Rattle.net_client.specs.ReplyPieces.{awaited_procedure}
use Rattle.client_refines.proofs.Said.{next_word}
use Rattle.world_refines.specs.Wires.{HasFirstWord}

-- ---- the device word

row_word : (task : Task) (password : List ℕ) (notes : Notes) (past : JoinHistory) (progress : Progress) (r : Reply) (a : Answer) → TurnRow task password notes past progress r a → HasFirstWord r → notes.word ≡ 0 → a.turn.notes.word ≡ 0
row_word task password notes past progress r a (Stops now status why f k) first was = k.0 ∙ was
row_word task password notes past progress r a (Admits word q) first was = first
row_word task password notes past progress r a (Reloads now q k) first was = k.0 ∙ was
row_word task password notes past progress r a (Puts now n option name text asked e reads q k) first was = k.0 ∙ was
row_word task password notes past progress r a (Gets now n option e m q k) first was = k.0 ∙ was
row_word task password notes past progress r a (ShowsAll now m q k) first was = k.0 ∙ was
row_word task password notes past progress r a (SetsAll now none q k) first was = k.0 ∙ was
row_word task password notes past progress r a (Starts now scanned q k) first was = k.0 ∙ was
row_word task password notes past progress r a _ first was = was

-- a device that is opened by the first word is known by it
pub reply_word : (target : JobTarget) (t : ProtocolState) (r : Reply) → HasFirstWord r → t.notes.word ≡ 0 → (after_reply target t r).notes.word ≡ 0
reply_word target t r first was =
    next_word (heard_at t.progress target t.notes t.history r).turn.notes (heard_at t.progress target t.notes t.history r).turn.next
    ∙ row_word target.task target.password t.notes t.history t.progress r _ (turn_row t.progress target t.notes t.history r) first was

-- ---- how it stands

next_over : (task : Task) (notes : Notes) (next : Next) → is_running (next_outcome task notes next) ≡ false → next_progress next ≡ stages.Over
next_over task notes (Wait progress) e = absurd (let clash : true ≡ false = e in cc)
next_over task notes (Finish devices) e = refl
next_over task notes (Stop status why) e = refl

pub reply_over : (target : JobTarget) (t : ProtocolState) (r : Reply) → is_running (after_reply target t r).outcome ≡ false → (after_reply target t r).progress ≡ stages.Over
reply_over target t r e = next_over target.task (heard_at t.progress target t.notes t.history r).turn.notes (heard_at t.progress target t.notes t.history r).turn.next e

-- what waits for a reply is between frames
pub between_at : (progress : Progress) (p : Procedure) (past : JoinHistory) → awaited_procedure progress ≡ Some p → FitsAt progress past → IsBetweenFrames past
between_at (stages.Imaging port after_open_reply) p past e f = absurd (let clash : None ≡ Some p = e in cc)
between_at stages.Turning p past e f = absurd (let clash : None ≡ Some p = e in cc)
between_at stages.Over p past e f = absurd (let clash : None ≡ Some p = e in cc)
between_at progress p past e f = f

joined_ended : (fault : Option JoinFault) (under : Option Frame) (ended : List Frame) → answer_by fault under ended ≡ Ok true → is_joined ended ≡ true
joined_ended (Some f) under ended e = absurd (let clash : Err f ≡ Ok true = e in cc)
joined_ended None (Some f) ended e = absurd (let clash : Ok false ≡ Ok true = e in cc)
joined_ended None None ended e = let same : Ok (is_joined ended) ≡ Ok true = e in cc

-- a client whose page is not whole waits for no turn
pub unturned : (task : Task) (o : Outcome) (progress : Progress) (past : JoinHistory) → is_joined past.ended ≡ false → HistoryFits task o progress past → turns o progress ≡ false
unturned task outcomes.Running stages.Turning past part f = absurd (let clash : true ≡ false = sym (joined_ended past.fault past.under past.ended f.1.0) ∙ part in cc)
unturned task outcomes.Running progress past part f = refl
unturned task (outcomes.Done reports) progress past part f = refl
unturned task (outcomes.Ended status why) progress past part f = refl

-- ---- the data connection of a frame that was begun is still wanted

row_unmade : (task : Task) (password : List ℕ) (notes : Notes) (past : JoinHistory) (progress : Progress) (r : Reply) (a : Answer) (port : ℕ) → TurnRow task password notes past progress r a → a.turn.next ≡ Wait (stages.Imaging port true) → ⊥
row_unmade tasks.List password notes past progress r a port Greets e = let clash : Wait stages.Listing ≡ Wait (stages.Imaging port true) = e in absurd (cc)
row_unmade task password notes past progress r a port Greets e = let clash : Wait stages.Opening ≡ Wait (stages.Imaging port true) = e in absurd (cc)
row_unmade task password notes past progress r a port _ e = absurd (cc)

waits_at : (next : Next) (port : ℕ) → next_progress next ≡ stages.Imaging port true → next ≡ Wait (stages.Imaging port true)
waits_at (Wait progress) port e = ap Wait e
waits_at (Finish devices) port e = absurd (let clash : stages.Over ≡ stages.Imaging port true = e in cc)
waits_at (Stop status why) port e = absurd (let clash : stages.Over ≡ stages.Imaging port true = e in cc)

wanted_by : (progress : Progress) → is_imaging progress ≡ true → ((port : ℕ) → progress ≡ stages.Imaging port true → ⊥) → IsSome (wanted_port progress)
wanted_by (stages.Imaging port false) e n = refl
wanted_by (stages.Imaging port true) e n = absurd (n port refl)
wanted_by progress e n = absurd (let clash : false ≡ true = e in cc)

pub reply_wants : (target : JobTarget) (t : ProtocolState) (r : Reply) → IsBetweenFrames t.history → HistoryFits target.task (after_reply target t r).outcome (after_reply target t r).progress (after_reply target t r).history → is_imaging (after_reply target t r).progress ≡ true → IsSome (wanted_port (after_reply target t r).progress)
reply_wants target t r b f imaging =
    wanted_by (after_reply target t r).progress imaging (λ port e. row_unmade target.task target.password t.notes t.history t.progress r _ port (turn_row t.progress target t.notes t.history r) (waits_at (heard_at t.progress target t.notes t.history r).turn.next port e))
