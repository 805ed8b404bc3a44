-- Any reply, by what a client waits for.
use Rattle.std.proofs.Common.{ℕ, ◌≡◌, true, sym, subst, List, map}
use Rattle.sane_fixed.specs.declared.device_info.DeviceInfo.{DeviceInfo}
use Rattle.page_picture.specs.Shows.{Frame}
use Rattle.wire_message.specs.declared.message.Reply.{Reply}
use Rattle.scan_job.specs.declared.job.Task.{Task}
use Rattle.scan_job.specs.declared.outcome.Outcome.{Outcome}
use Rattle.scan_job.specs.declared.outcome.Outcome.TheVariants.{Running}
use Rattle.client_replies.specs.declared.progress.JobTarget.{JobTarget}
use Rattle.client_replies.specs.declared.progress.Progress.{Progress}
use Rattle.client_replies.specs.declared.progress.Progress.TheVariants as stages
use Rattle.client_replies.specs.declared.progress.Notes.{Notes}
use Rattle.client_replies.specs.ReplyTurns.{Turn, turn, stop_malformed}
use Rattle.client_replies.specs.ProtocolStates.{ProtocolState, HistoryFits, suits, FitsAt, protocol_after_turn, after_params_reply, heard_at}
use Rattle.system_model.specs.AbstractMessages as words
use Rattle.system_model.specs.Client as model
use Rattle.system_model.specs.ClientReplies.{hear_in}
use Rattle.client_refines.specs.DecodedReplies.{DecodedReply, Before, Says, Demands, decoded_reply_at, IsShortAt}
use Rattle.client_refines.specs.ClientRefinement.{task_of, requested_setting, KnowsAs, WaitsAs, OutcomeRefines, ClientRefines}
use Rattle.client_refines.specs.Replies.{HeardAs, RepliesAreHeardAlike}
use Rattle.client_refines.proofs.Sides.{awry_ends, Side, FilesAs, Goes, Hears, onto, settled_reads}
use Rattle.client_refines.proofs.Openings.{greets, lists_all, opens_one, reopens, allows}
use Rattle.client_refines.proofs.Showing.{gets_reply}
use Rattle.client_refines.proofs.Settings.{describes, puts_reply}
use Rattle.client_refines.proofs.FrameStarts.{starts, shapes}
use Rattle.client_refines.proofs.Apt.{NextApt, sense_apt, reply_asked}
use Rattle.client_refines.specs.Replies.{client_refusing}

-- ---- any reply

abbrev pub HearsIn : Side → Task → Turn → model.ClientView → model.JobStage → DecodedReply → Type 0
HearsIn x task t m stage Before = Goes x task t m
HearsIn x task t m stage (Says answer) = Goes x task t (hear_in stage x.job m answer)
HearsIn x task t m stage Demands = Goes x task t (client_refusing m)

at_stage : (x : Side) (task : Task) (t : Turn) (m : model.ClientView) (g : model.AbstractProgress) (decoded : DecodedReply) → m.stage ≡ model.Running g → Hears x task t m g decoded → HearsIn x task t m m.stage decoded
at_stage x task t m g Before e h = h
at_stage x task t m g (Says answer) e h = subst (λ (s : model.JobStage). Goes x task t (hear_in s x.job m answer)) (sym e) h
at_stage x task t m g Demands e h = h

abbrev pub AnswerAs : Side → JobTarget → Notes → model.ClientView → Progress → Reply → Type 0
AnswerAs x target notes m progress r = HearsIn (onto x (heard_at progress target notes x.history r).history) target.task (heard_at progress target notes x.history r).turn m m.stage (decoded_reply_at x.place progress r)

files_onto : (x : Side) (m : model.ClientView) → FilesAs x m → FilesAs (onto x x.history) m
files_onto x m f = record { part = f.part; all = f.all }

heard_in : (x : Side) (target : JobTarget) (notes : Notes) (m : model.ClientView) (progress : Progress) (r : Reply) → x.job.task ≡ task_of target.task → IsShortAt progress r → suits target.task progress ≡ true → FitsAt progress x.history
    → FilesAs x m → KnowsAs target.task x.pages notes m → WaitsAs x.job progress notes x.history m → AnswerAs x target notes m progress r
heard_in x target notes m stages.Greeting r t short s b f k w = at_stage (onto x x.history) target.task _ m model.Greeting _ w.0 (greets (onto x x.history) target.task notes m r t (files_onto x m f) k w.1)
heard_in x target notes m stages.Listing r t short s b f k w = at_stage (onto x x.history) target.task _ m model.Listing _ w.0 (lists_all (onto x x.history) target.task notes m r s (files_onto x m f) k)
heard_in x target notes m stages.Opening r t short s b f k w = at_stage (onto x x.history) target.task _ m model.Opening _ w.0 (opens_one (onto x x.history) target.task notes m target.password r (files_onto x m f) k w.1)
heard_in x target notes m (stages.Allowing resource answer) r t short s b f k w =
    at_stage (onto x x.history) target.task _ m (model.Allowing w.0.0) _ w.0.1.0 (allows (onto x x.history) target.task notes m w.0.0 resource answer r w.0.1.0 (files_onto x m f) k w.1)
heard_in x target notes m stages.Reopening r t short s b f k w =
    at_stage (onto x x.history) target.task _ m (model.Allowing w.0.0) _ w.0.1 (reopens (onto x x.history) target.task notes m w.0.0 target.password r (files_onto x m f) k w.1)
heard_in x target notes m stages.Describing r t short s b f k w =
    at_stage (onto x x.history) target.task _ m (model.Describing (map requested_setting notes.left)) _ w.0 (describes (onto x x.history) target.task notes m r short t (files_onto x m f) k w.1)
heard_in x target notes m (stages.Putting n kind name asked) r t short s b f k w =
    at_stage (onto x x.history) target.task _ m (model.Putting n asked w.0.0 (map requested_setting notes.left)) _ w.0.1.0 (puts_reply (onto x x.history) target.task notes m n kind name asked w.0.0 r w.0.1.1 t (files_onto x m f) k w.1)
heard_in x target notes m (stages.Getting n kind size) r t short s b f k w =
    at_stage (onto x x.history) target.task _ m (model.Getting n w.0.0) _ w.0.1.0 (gets_reply (onto x x.history) target.task notes m n w.0.0 kind size r s w.0.1.1 w.1 (files_onto x m f) k)
heard_in x target notes m (stages.Starting first) r t short s b f k w =
    at_stage (onto x x.history) target.task _ m model.Starting _ w.0 (starts (onto x x.history) target.task notes m first r b.2 w.1 s (files_onto x m f) k)
heard_in x target notes m (stages.Shaping port order) r t short s b f k w =
    at_stage (onto x (after_params_reply port order x.history r).history) target.task _ m model.Shaping _ w.0 (shapes x target.task notes m port order r w.1 b f k)
heard_in x target notes m (stages.Imaging port made) r t short s b f k w =
    at_stage (onto x x.history) target.task (turn notes stop_malformed) m (model.Imaging w.params w.payload) (Says words.Acked) w.stage (awry_ends (onto x x.history) target.task notes m (files_onto x m f))
heard_in x target notes m stages.Turning r t short s b f k w = at_stage (onto x x.history) target.task (turn notes stop_malformed) m model.Starting (Says words.Acked) w.0 (awry_ends (onto x x.history) target.task notes m (files_onto x m f))
heard_in x target notes m stages.Over r t short s b f k w = absurd w

reply_reads : (x : Side) (target : JobTarget) (t : Turn) (m : model.ClientView) (decoded : DecodedReply) → HearsIn x target.task t m m.stage decoded → NextApt target t.next t.notes
    → HeardAs x.place target x.job x.pages (protocol_after_turn target.task t x.history) m decoded
reply_reads x target t m Before h a = settled_reads x target t m h a
reply_reads x target t m (Says answer) h a = settled_reads x target t (hear_in m.stage x.job m answer) h a
reply_reads x target t m Demands h a = settled_reads x target t (client_refusing m) h a

abbrev pub side_of : (DeviceInfo → ℕ) → model.AbstractJob → List (List Frame) → ProtocolState → Side
side_of place job pages protocol = record { place = place; job = job; pages = pages; history = protocol.history }

pub exchange_hears : (place : DeviceInfo → ℕ) (target : JobTarget) (job : model.AbstractJob) (pages : List (List Frame)) (protocol : ProtocolState) (m : model.ClientView) (r : Reply) → job.task ≡ task_of target.task → IsShortAt protocol.progress r
    → protocol.outcome ≡ Running → HistoryFits target.task Running protocol.progress protocol.history → ClientRefines place target job pages protocol m → AnswerAs (side_of place job pages protocol) target protocol.notes m protocol.progress r
exchange_hears place target job pages protocol m r t short o fits reads =
    let stands : OutcomeRefines place target job pages Running protocol.progress protocol.notes protocol.history m =
    subst (λ (y : Outcome). OutcomeRefines place target job pages y protocol.progress protocol.notes protocol.history m) o reads.stands in
    heard_in (side_of place job pages protocol) target protocol.notes m protocol.progress r t short fits.0 fits.1 reads.files stands.0 stands.1

pub replies_alike : RepliesAreHeardAlike
replies_alike place target job pages protocol m r t short o fits reads =
    let heard = heard_at protocol.progress target protocol.notes protocol.history r in
    reply_reads (onto (side_of place job pages protocol) heard.history) target heard.turn m (decoded_reply_at place protocol.progress r) (exchange_hears place target job pages protocol m r t short o fits reads)
    (sense_apt target (decoded_reply_at place protocol.progress r) heard.turn.next heard.turn.notes (reply_asked place protocol.progress target protocol.notes protocol.history r))
