-- How a job goes on by both, and how it ends.
use Rattle.std.proofs.Common.{◌≡◌, ◌∙◌, ℕ, Some, Bool, false, List, [], ◌∷◌, ◌++◌, refl, sym, ap, subst, append-nil}
use Rattle.std.specs.Prelude.{if◌then◌else◌}
use Rattle.sane_fixed.specs.declared.status.Status.{Status}
use Rattle.sane_fixed.specs.declared.status.Status.TheVariants as statuses
use Rattle.sane_fixed.specs.declared.device_info.DeviceInfo.{DeviceInfo}
use Rattle.page_picture.specs.Shows.{Frame}
use Rattle.frame_join.specs.FrameHistory.{JoinHistory, is_joined}
use Rattle.scan_job.specs.declared.job.Task.{Task}
use Rattle.scan_job.specs.declared.outcome.Why.{Why}
use Rattle.scan_job.specs.declared.outcome.Why.TheVariants as whys
use Rattle.client_replies.specs.declared.progress.Notes.{Notes}
use Rattle.client_replies.specs.declared.progress.Next.{Next}
use Rattle.client_replies.specs.declared.progress.Next.TheVariants.{Wait, Finish, Stop}
use Rattle.client_replies.specs.ReplyTurns.{Turn, turn, stop_by_answer, stop_malformed, if_good}
use Rattle.client_replies.specs.ProtocolStates.{reports_of, next_outcome, next_progress, next_notes, protocol_after_turn}
use Rattle.system_model.specs.AbstractMessages as words
use Rattle.system_model.specs.Client as model
use Rattle.system_model.specs.ClientReplies.{hear_at}
use Rattle.client_refines.specs.DecodedReplies.{DecodedReply, Before, Says, Demands, reply_if_good}
use Rattle.client_refines.specs.ClientRefinement.{parts, wholes, Files, KnowsAs, WaitsAs, DoneAs, EndedAs, OutcomeRefines, ClientRefines}
use Rattle.client_replies.specs.declared.progress.JobTarget.{JobTarget}
use Rattle.client_refines.proofs.Apt.{NextApt}
use Rattle.client_refines.specs.Replies.{client_refusing}

-- ---- how a job goes on, by both

pub record Side : Type 0 where
  pub place : DeviceInfo → ℕ
  pub job : model.AbstractJob
  pub pages : List (List Frame)
  pub history : JoinHistory

-- the same with another history of the join
abbrev pub onto : Side → JoinHistory → Side
onto x past = record { place = x.place; job = x.job; pages = x.pages; history = past }

abbrev pub NextAs : Side → Task → Next → Notes → model.ClientView → Type 0
NextAs x task (Wait progress) notes m = KnowsAs task x.pages notes m × WaitsAs x.job progress notes x.history m
NextAs x task (Finish devices) notes m = DoneAs x.place task (reports_of task notes devices) m
NextAs x task (Stop status why) notes m = EndedAs status why m

abbrev pub FilesAs : Side → model.ClientView → Type 0
FilesAs x m = Files x.pages x.history m.frames m.pages

abbrev pub Goes : Side → Task → Turn → model.ClientView → Type 0
Goes x task t m = FilesAs x m × NextAs x task t.next t.notes m

abbrev pub Hears : Side → Task → Turn → model.ClientView → model.AbstractProgress → DecodedReply → Type 0
Hears x task t m g Before = Goes x task t m
Hears x task t m g (Says answer) = Goes x task t (hear_at g x.job m answer)
Hears x task t m g Demands = Goes x task t (client_refusing m)

next_stands : (x : Side) (target : JobTarget) (next : Next) (notes : Notes) (m : model.ClientView) → NextAs x target.task next notes m → NextApt target next notes
    → OutcomeRefines x.place target x.job x.pages (next_outcome target.task notes next) (next_progress next) (next_notes notes next) x.history m
next_stands x target (Wait progress) notes m n a = (n.0, n.1, a)
next_stands x target (Finish devices) notes m n a = n
next_stands x target (Stop status why) notes m n a = n

pub settled_reads : (x : Side) (target : JobTarget) (t : Turn) (m : model.ClientView) → Goes x target.task t m → NextApt target t.next t.notes → ClientRefines x.place target x.job x.pages (protocol_after_turn target.task t x.history) m
settled_reads x target t m g a = record { files = g.0; stands = next_stands x target t.next t.notes m g.1 a }

-- ---- endings

pub ends : (x : Side) (task : Task) (notes : Notes) (m : model.ClientView) (status : Status) (why : Why) → FilesAs x m
    → Goes x task (turn notes (Stop status why)) (model.with_ending status why m)
ends x task notes m status why f = (f, refl)

pub awry_ends : (x : Side) (task : Task) (notes : Notes) (m : model.ClientView) → FilesAs x m → Goes x task (turn notes stop_malformed) (model.with_malformed m)
awry_ends x task notes m f = ends x task notes m statuses.IoError whys.Malformed f

abbrev pub Refuses : model.AbstractProgress → model.AbstractJob → model.ClientView → Type 0
Refuses g job m = (s : Status) → hear_at g job m (words.Refused s) ≡ model.with_ending s whys.Answer m

pub refused : (x : Side) (task : Task) (notes : Notes) (m : model.ClientView) (g : model.AbstractProgress) (status : Status) → Refuses g x.job m → FilesAs x m
    → Goes x task (turn notes (stop_by_answer status)) (hear_at g x.job m (words.Refused status))
refused x task notes m g status r f =
    subst (λ (n : model.ClientView). Goes x task (turn notes (stop_by_answer status)) n) (sym (r status)) (ends x task notes m status whys.Answer f)

pub good_hears : (x : Side) (task : Task) (notes : Notes) (m : model.ClientView) (g : model.AbstractProgress) (status : Status) (next : Next) (answer : words.AbstractReply) → Refuses g x.job m → FilesAs x m
    → Goes x task (turn notes next) (hear_at g x.job m answer) → Hears x task (turn notes (if_good status next)) m g (reply_if_good status answer)
good_hears x task notes m g statuses.Good next answer r f h = h
good_hears x task notes m g status next answer r f h = refused x task notes m g status r f

-- ---- the files

pub part_is : (ended : List Frame) → is_joined ended ≡ false → parts ended ≡ ended
part_is ended e = ap (λ (b : Bool). if b then [] else ended) e

pub no_whole : (ended : List Frame) → is_joined ended ≡ false → wholes ended ≡ []
no_whole ended e = ap (λ (b : Bool). if b then ended ∷ [] else []) e

pub pages_are : (x : Side) (m : model.ClientView) → is_joined x.history.ended ≡ false → FilesAs x m → m.pages ≡ x.pages
pages_are x m e f = f.all ∙ ap (λ (ps : List (List Frame)). x.pages ++ ps) (no_whole x.history.ended e) ∙ append-nil x.pages
