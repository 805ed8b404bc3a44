-- INIT, GET_DEVICES, OPEN and AUTHORIZE.
use Rattle.std.proofs.Common.{◌≡◌, ℕ, Option, Some, None, true, false, List, [], ◌∷◌, ◌++◌, refl, sym, ap, subst, map}
use Rattle.std.specs.Prelude.{option_map}
use Rattle.sane_fixed.specs.declared.status.Status.{Status}
use Rattle.sane_fixed.specs.declared.status.Status.TheVariants as statuses
use Rattle.sane_fixed.specs.declared.device_info.DeviceInfo.{DeviceInfo}
use Rattle.md5.specs.Md5.{md5}
use Rattle.md5_auth.specs.Allowed.{answer_text}
use Rattle.md5_auth.specs.ChallengeReading.{challenge_of, answer_of as md5_answer}
use Rattle.wire_message.specs.declared.message.Reply.{Reply}
use Rattle.wire_message.specs.declared.message.Reply.TheVariants as replies
use Rattle.scan_job.specs.declared.job.Task.{Task}
use Rattle.scan_job.specs.declared.job.Task.TheVariants as tasks
use Rattle.client_replies.specs.declared.progress.Progress.TheVariants as stages
use Rattle.client_replies.specs.declared.progress.Notes.{Notes}
use Rattle.client_replies.specs.declared.progress.Next.TheVariants.{Wait, Finish}
use Rattle.client_replies.specs.ReplyTurns.{turn, after_greeting, after_init_reply, after_list_reply, after_challenge, after_admission, opened_with, after_open_reply, after_authorize_reply}
use Rattle.client_replies.specs.ProtocolStates.{shows, suits, reports_of}
use Rattle.system_model.specs.AbstractMessages as words
use Rattle.system_model.specs.Client as model
use Rattle.system_model.specs.ClientReplies.{hear_at}
use Rattle.client_refines.specs.DecodedReplies.{reply_if_good, challenge_reply, opened_reply, decoded_reply_at}
use Rattle.client_refines.specs.ClientRefinement.{task_of, KnowsAs, NoSettingPut, WaitsAs, ShowRefines}
use Rattle.client_refines.proofs.Sides.{ends, Side, FilesAs, Goes, Hears, awry_ends, Refuses, refused, good_hears}
use Rattle.scan_job.specs.declared.outcome.Why.TheVariants as whys

-- ---- INIT, GET_DEVICES

greets_by : (x : Side) (task : Task) (notes : Notes) (m : model.ClientView) → NoSettingPut x.job notes m → WaitsAs x.job (after_greeting task) notes x.history (model.with_progress (model.progress_after_init (task_of task)) m)
greets_by x tasks.List notes m o = (refl, o)
greets_by x task notes m o = (refl, o)

pub greets : (x : Side) (task : Task) (notes : Notes) (m : model.ClientView) (r : Reply) → x.job.task ≡ task_of task → FilesAs x m → KnowsAs task x.pages notes m → NoSettingPut x.job notes m
    → Hears x task (turn notes (after_init_reply task r)) m model.Greeting (decoded_reply_at x.place stages.Greeting r)
greets x task notes m (replies.Init status version) t f k o =
    good_hears x task notes m model.Greeting status (Wait (after_greeting task)) words.Greeted (λ s. refl) f
    (f, (k, subst (λ (y : model.AbstractTask). WaitsAs x.job (after_greeting task) notes x.history (model.with_progress (model.progress_after_init y) m)) (sym t) (greets_by x task notes m o)))
greets x task notes m r t f k o = awry_ends x task notes m f

lists_none : (task : Task) (notes : Notes) (devices : List DeviceInfo) (m : model.ClientView) → suits task stages.Listing ≡ true → ShowRefines (shows task) (reports_of task notes devices).options m
lists_none tasks.Show notes devices m e = absurd (let clash : false ≡ true = e in cc)
lists_none task notes devices m e = tt

pub lists_all : (x : Side) (task : Task) (notes : Notes) (m : model.ClientView) (r : Reply) → suits task stages.Listing ≡ true → FilesAs x m → KnowsAs task x.pages notes m
    → Hears x task (turn notes (after_list_reply r)) m model.Listing (decoded_reply_at x.place stages.Listing r)
lists_all x task notes m (replies.GetDevices status devices) s f k =
    good_hears x task notes m model.Listing status (Finish devices) (words.Listed (map x.place devices)) (λ s. refl) f
    (f, record { stage = refl; settings = k.answers; devices = refl; options = lists_none task notes devices _ s })
lists_all x task notes m r s f k = awry_ends x task notes m f

-- ---- OPEN, AUTHORIZE

-- a stage in which OPEN or AUTHORIZE is awaited
abbrev Takes : model.AbstractProgress → model.AbstractJob → model.ClientView → Type 0
Takes g job m = (hear_at g job m words.Opened ≡ model.with_progress (model.Describing job.settings) m) × ((c : words.Challenge) → hear_at g job m (words.Challenged c) ≡ model.with_progress (model.Allowing c) m)

admits : (x : Side) (task : Task) (notes : Notes) (m : model.ClientView) (g : model.AbstractProgress) (status : Status) (word : ℕ) → Refuses g x.job m → Takes g x.job m → FilesAs x m → KnowsAs task x.pages notes m
    → NoSettingPut x.job notes m → Hears x task (after_admission notes status word) m g (reply_if_good status words.Opened)
admits x task notes m g statuses.Good word r t f k o =
    subst (λ (n : model.ClientView). Goes x task (turn (record notes { word = word }) (Wait stages.Describing)) n) (sym t.0)
    (f, (k, (ap (λ (ws : List words.RequestedSetting). model.Running (model.Describing ws)) (sym o.1), o.0)))
admits x task notes m g status word r t f k o = refused x task notes m g status r f

challenges : (x : Side) (task : Task) (notes : Notes) (m : model.ClientView) (g : model.AbstractProgress) (resource password : List ℕ) (c : Option (List ℕ)) → Takes g x.job m → FilesAs x m
    → KnowsAs task x.pages notes m → NoSettingPut x.job notes m → Hears x task (turn notes (after_challenge resource (option_map (λ challenge. answer_text (md5 (challenge ++ password))) c))) m g (challenge_reply resource c)
challenges x task notes m g resource password None t f k o = ends x task notes m statuses.AccessDenied whys.Plain f
challenges x task notes m g resource password (Some c) t f k o =
    subst (λ (n : model.ClientView). Goes x task (turn notes (Wait (stages.Allowing resource (answer_text (md5 (c ++ password)))))) n) (sym (t.1 resource)) (f, (k, ((resource, (refl, refl)), o)))

answers_by : (resource password : List ℕ) → md5_answer resource password ≡ option_map (λ challenge. answer_text (md5 (challenge ++ password))) (challenge_of resource)
unfolding md5_answer
answers_by resource password = refl

opens_with : (x : Side) (task : Task) (notes : Notes) (m : model.ClientView) (g : model.AbstractProgress) (password : List ℕ) (status : Status) (word : ℕ) (resource : List ℕ) → Refuses g x.job m → Takes g x.job m
    → FilesAs x m → KnowsAs task x.pages notes m → NoSettingPut x.job notes m → Hears x task (opened_with password notes status word resource) m g (opened_reply status resource)
opens_with x task notes m g password status word [] r t f k o = admits x task notes m g status word r t f k o
opens_with x task notes m g password status word (b ∷ bytes) r t f k o =
    subst (λ (a : Option (List ℕ)). Hears x task (turn notes (after_challenge (b ∷ bytes) a)) m g (challenge_reply (b ∷ bytes) (challenge_of (b ∷ bytes)))) (sym (answers_by (b ∷ bytes) password))
    (challenges x task notes m g (b ∷ bytes) password (challenge_of (b ∷ bytes)) t f k o)

pub opens_one : (x : Side) (task : Task) (notes : Notes) (m : model.ClientView) (password : List ℕ) (r : Reply) → FilesAs x m → KnowsAs task x.pages notes m → NoSettingPut x.job notes m
    → Hears x task (after_open_reply password notes r) m model.Opening (decoded_reply_at x.place stages.Opening r)
opens_one x task notes m password (replies.Open status word resource) f k o = opens_with x task notes m model.Opening password status word resource (λ s. refl) (refl, λ c. refl) f k o
opens_one x task notes m password r f k o = awry_ends x task notes m f

pub reopens : (x : Side) (task : Task) (notes : Notes) (m : model.ClientView) (c : words.Challenge) (password : List ℕ) (r : Reply) → FilesAs x m → KnowsAs task x.pages notes m → NoSettingPut x.job notes m
    → Hears x task (after_open_reply password notes r) m (model.Allowing c) (decoded_reply_at x.place stages.Reopening r)
reopens x task notes m c password (replies.Open status word resource) f k o = opens_with x task notes m (model.Allowing c) password status word resource (λ s. refl) (refl, λ c. refl) f k o
reopens x task notes m c password r f k o = awry_ends x task notes m f

pub allows : (x : Side) (task : Task) (notes : Notes) (m : model.ClientView) (c : words.Challenge) (resource answer : List ℕ) (r : Reply) → m.stage ≡ model.Running (model.Allowing c) → FilesAs x m
    → KnowsAs task x.pages notes m → NoSettingPut x.job notes m → Hears x task (turn notes (after_authorize_reply r)) m (model.Allowing c) (decoded_reply_at x.place (stages.Allowing resource answer) r)
allows x task notes m c resource answer replies.Authorize e f k o = (f, (k, ((c, e), o)))
allows x task notes m c resource answer r e f k o = awry_ends x task notes m f
