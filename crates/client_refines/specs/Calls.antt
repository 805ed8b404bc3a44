-- The calls of a client that hear nothing, as their contracts tell them: it is made, it is cancelled, a link is lost,
-- and the data connection is made.
use Rattle.std.specs.Prelude.{ℕ, ◌≡◌, true, Some, List, [], ◌∷◌, ◌++◌, map}
use Rattle.sane_fixed.specs.declared.status.Status.TheVariants as statuses
use Rattle.sane_fixed.specs.declared.device_info.DeviceInfo.{DeviceInfo}
use Rattle.page_picture.specs.Shows.{Frame}
use Rattle.frame_join.specs.FrameHistory.{JoinHistory, empty_history}
use Rattle.wire_format.specs.Writer.{behind}
use Rattle.scan_job.specs.declared.job.Job.{Job}
use Rattle.scan_job.specs.declared.outcome.Why.TheVariants as whys
use Rattle.client_replies.specs.declared.progress.Link.{Link}
use Rattle.client_replies.specs.Asking.{farewell}
use Rattle.client_replies.specs.ProtocolStates.{progress_connected, target_of, is_lost_by, is_running}
use Rattle.net_client.specs.Sending.{requests_text}
use Rattle.net_client.specs.ClientStates.{ClientState, protocol_of, IsNewClient, after_client_end, phase_connected}
use Rattle.system_model.specs.AbstractMessages as words
use Rattle.system_model.specs.Client as model
use Rattle.system_model.specs.ClientReplies.{client_after_stop}
use Rattle.client_refines.specs.ClientRefinement.{requested_setting, ClientRefines}
use Rattle.client_refines.specs.RequestRefinement.{asks_of}
use Rattle.client_refines.specs.PieceRefinement.{SpellsSent}

-- **calls that hear nothing (`NewClientsAreAlike`, `CancelsAreAlike`, `LossesAreAlike`)**: a client that is made,
-- cancelled, or loses a link, by its contracts.
--
-- a client that is made for a job asks for its greeting
abbrev pub NewClientsAreAlike : Type 0
NewClientsAreAlike =
    (place : DeviceInfo → ℕ) (wanted : Job) (job : model.AbstractJob) (new : ClientState)
    → map requested_setting wanted.settings.items ≡ job.settings → IsNewClient wanted new
    → ClientRefines place (target_of wanted) job [] (protocol_of new empty_history)
    (model.with_progress model.Greeting model.initial_client)
    × SpellsSent (target_of wanted) new.out (asks_of 0 [] (words.Init ∷ []))

-- a cancel ends a job that runs, and says farewell
abbrev pub CancelsAreAlike : Type 0
CancelsAreAlike =
    (place : DeviceInfo → ℕ) (job : model.AbstractJob) (pages : List (List Frame)) (old new : ClientState)
    (past : JoinHistory) (m : model.ClientView)
    → is_running old.outcome ≡ true
    → new ≡ record (after_client_end statuses.Cancelled whys.Cancelled old) { out = new.out }
    → behind old.out (requests_text (farewell old.notes.word old.progress)) ≡ Some new.out
    → ClientRefines place old.target job pages (protocol_of old past) m
    → (sent : List ℕ) × (new.out ≡ old.out ++ sent)
    × SpellsSent old.target sent (asks_of old.notes.word m.known (model.abstract_farewell m.stage))
    × ClientRefines place old.target job pages (protocol_of new past)
    (client_after_stop statuses.Cancelled whys.Cancelled m)

-- a link that counts is lost
abbrev pub LossesAreAlike : Type 0
LossesAreAlike =
    (place : DeviceInfo → ℕ) (job : model.AbstractJob) (pages : List (List Frame)) (old : ClientState) (link : Link)
    (past : JoinHistory) (m : model.ClientView)
    → is_lost_by link old.outcome old.progress ≡ true
    → ClientRefines place old.target job pages (protocol_of old past) m
    → ClientRefines place old.target job pages (protocol_of (after_client_end statuses.IoError whys.Lost old) past)
    (client_after_stop statuses.IoError whys.Lost m)

-- the data connection is made
abbrev pub ConnectionsAreUnseen : Type 0
ConnectionsAreUnseen =
    (place : DeviceInfo → ℕ) (job : model.AbstractJob) (pages : List (List Frame)) (old : ClientState)
    (past : JoinHistory) (m : model.ClientView) → ClientRefines place old.target job pages (protocol_of old past) m
    → ClientRefines place old.target job pages
    (protocol_of
    (record old { progress = progress_connected old.progress; phase = phase_connected old.progress old.phase }) past)
    m
