-- Behind the reply that was due no client waits for the reply that follows AUTHORIZE's word, or for the file of a page to be taken.
use Rattle.std.proofs.Common.{◌≡◌, inl, inr, ◌∙◌, ℕ, subst, List, true, false, sym, ap}
use Rattle.sane_fixed.specs.declared.device_info.DeviceInfo.{DeviceInfo}
use Rattle.wire_message.specs.declared.message.Reply.{Reply}
use Rattle.frame_join.specs.FrameHistory.{JoinHistory}
use Rattle.scan_job.specs.declared.outcome.Outcome.{Outcome}
use Rattle.client_replies.specs.declared.progress.JobTarget.{JobTarget}
use Rattle.client_replies.specs.declared.progress.Next.{Next}
use Rattle.client_replies.specs.declared.progress.Next.TheVariants.{Finish, Stop, Wait}
use Rattle.client_replies.specs.declared.progress.Notes.{Notes}
use Rattle.client_replies.specs.declared.progress.Progress.{Progress}
use Rattle.client_replies.specs.declared.progress.Progress.TheVariants as stages
use Rattle.sane_fixed.specs.Status.{status_of}
use Rattle.client_replies.specs.ProtocolStates.{ProtocolState, after_reply, heard_at, is_receiving, next_progress}
use Rattle.net_client.specs.FramePieces.{Receives}
use Rattle.net_client.specs.ClientStates.{ClientState}
use Rattle.system_model.specs.AbstractMessages as words
use Rattle.client_refines.specs.DecodedReplies.{DecodedReply, Says, decoded_reply_at}
use Rattle.client_refines.proofs.Apt.{AsksNow, IsAsked, AskedAt, IsLater, reply_asked, end_later}
use Rattle.world_refines.specs.Speaks.{WaitsQuietly}

-- ---- behind a reply that the model has

progress_quiet : (target : JobTarget) (progress : Progress) (notes : Notes) (todo : List words.AbstractRequest) → AsksNow target progress notes → WaitsQuietly progress todo
progress_quiet target stages.Reopening notes todo a = absurd a
progress_quiet target stages.Turning notes todo a = absurd a
progress_quiet target progress notes todo a = record { unturned = λ e. let clash : progress ≡ stages.Turning = e in absurd (cc); silent = λ e. absurd (let clash : progress ≡ stages.Reopening = e in cc) }

over_quiet : (todo : List words.AbstractRequest) → WaitsQuietly stages.Over todo
over_quiet todo = record { unturned = λ e. let clash : stages.Over ≡ stages.Turning = e in absurd (cc); silent = λ e. absurd (let clash : stages.Over ≡ stages.Reopening = e in cc) }

next_quiet : (target : JobTarget) (next : Next) (notes : Notes) (todo : List words.AbstractRequest) → IsAsked target next notes → WaitsQuietly (next_progress next) todo
next_quiet target (Wait progress) notes todo a = progress_quiet target progress notes todo a
next_quiet target (Finish devices) notes todo a = over_quiet todo
next_quiet target (Stop status why) notes todo a = over_quiet todo

pub reply_elsewhere : (place : DeviceInfo → ℕ) (target : JobTarget) (t : ProtocolState) (a : Reply) (r : words.AbstractReply) (todo : List words.AbstractRequest) → decoded_reply_at place t.progress a ≡ Says r → WaitsQuietly (after_reply target t a).progress todo
reply_elsewhere place target t a r todo says =
    let turn = (heard_at t.progress target t.notes t.history a).turn in
    next_quiet target turn.next turn.notes todo (subst (λ (decoded : DecodedReply). AskedAt target decoded turn.next turn.notes) says (reply_asked place t.progress target t.notes t.history a))

-- ---- behind a piece of a frame's data

unopened : (target : JobTarget) (next : Next) (notes : Notes) → IsLater target next notes → next_progress next ≡ stages.Reopening → ⊥
unopened target (Wait stages.Reopening) notes l e = l
unopened target (Wait progress) notes l e = let clash : progress ≡ stages.Reopening = e in absurd (cc)
unopened target (Finish devices) notes l e = let clash : stages.Over ≡ stages.Reopening = e in absurd (cc)
unopened target (Stop status why) notes l e = let clash : stages.Over ≡ stages.Reopening = e in absurd (cc)

receiving_else : (o : Outcome) (progress : Progress) → is_receiving o progress ≡ true → progress ≡ stages.Reopening → ⊥
receiving_else o progress h e = let clash : false ≡ true = ap (is_receiving o) (sym e) ∙ h in absurd (cc)

pub received_unopened : (old : ClientState) (past : JoinHistory) (piece : List ℕ) (new : ClientState) → is_receiving old.outcome old.progress ≡ true → Receives old past piece new → new.progress ≡ stages.Reopening → ⊥
received_unopened old past piece new h (inl g) e = receiving_else old.outcome old.progress h (sym (ap (λ (v : ClientState). v.progress) g.rest) ∙ e)
received_unopened old past piece new h (inr (inl g)) e = unopened old.target _ old.notes (end_later old.target old.notes old.target.task old.notes.file _ (status_of g.status)) (sym (ap (λ (x : ProtocolState). x.progress) g.ends.protocol) ∙ e)
received_unopened old past piece new h (inr (inr g)) e = let clash : stages.Over ≡ stages.Reopening = sym (ap (λ (v : ClientState). v.progress) g.rest) ∙ e in absurd (cc)
