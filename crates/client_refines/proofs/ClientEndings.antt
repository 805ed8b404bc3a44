-- The beginning, the ends that no message brings, and what the model does not speak of.
use Rattle.std.proofs.Common.{◌≡◌, ℕ, Option, Some, Bool, true, false, List, refl, sym, ap, subst, arith}
use Rattle.sane_fixed.specs.declared.status.Status.{Status}
use Rattle.option_desc.specs.declared.descriptor.Descriptor.{Descriptor}
use Rattle.option_desc.specs.declared.value.Value.{Value}
use Rattle.sane_fixed.specs.declared.device_info.DeviceInfo.{DeviceInfo}
use Rattle.page_picture.specs.Shows.{Frame}
use Rattle.frame_join.specs.FrameHistory.{JoinHistory, after_pull}
use Rattle.scan_job.specs.declared.outcome.Outcome.{Outcome}
use Rattle.scan_job.specs.declared.outcome.Outcome.TheVariants.{Running, Done, Ended}
use Rattle.scan_job.specs.declared.outcome.Why.{Why}
use Rattle.client_replies.specs.declared.progress.Progress.{Progress}
use Rattle.client_replies.specs.declared.progress.Progress.TheVariants as stages
use Rattle.client_replies.specs.declared.progress.Notes.{Notes}
use Rattle.client_replies.specs.Asking.{request_for}
use Rattle.client_replies.specs.ProtocolStates.{ProtocolState, shows, progress_connected}
use Rattle.system_model.specs.Client as model
use Rattle.system_model.specs.ClientReplies.{stage_after_stop, client_after_stop}
use Rattle.client_refines.specs.ClientRefinement.{WaitsAs, ShowRefines, OutcomeRefines, Files, ClientRefines, IsApt}
use Rattle.client_refines.specs.ClientLives.{ClientsBeginAlike, JobsStopAlike, stopped_by, PullsAndLinksAreUnseen}
use Rattle.client_replies.specs.declared.progress.JobTarget.{JobTarget}

pub begins_alike : ClientsBeginAlike
begins_alike place target job settings e = record {
  files = record { part = refl; all = refl };
  stands = (record { answers = refl; none = refl; descriptors = refl; told = refl; only = tt; few = omega arith; number = refl; alone = λ e. refl }, (refl, ((tt, refl), e)), tt);
}

-- ---- ends

-- what a client waits for is waited for
pub runs : (job : model.AbstractJob) (progress : Progress) (notes : Notes) (past : JoinHistory) (m : model.ClientView) → WaitsAs job progress notes past m → (g : model.AbstractProgress) × (m.stage ≡ model.Running g)
runs job stages.Greeting notes past m w = (_, w.0)
runs job stages.Listing notes past m w = (_, w.0)
runs job stages.Opening notes past m w = (_, w.0)
runs job (stages.Allowing resource answer) notes past m w = (_, w.0.1.0)
runs job stages.Reopening notes past m w = (_, w.0.1)
runs job stages.Describing notes past m w = (_, w.0)
runs job (stages.Putting n kind name request_for) notes past m w = (_, w.0.1.0)
runs job (stages.Getting n kind size) notes past m w = (_, w.0.1.0)
runs job (stages.Starting first) notes past m w = (_, w.0)
runs job (stages.Shaping port order) notes past m w = (_, w.0)
runs job (stages.Imaging port made) notes past m w = (_, w.stage)
runs job stages.Turning notes past m w = (_, w.0)
runs job stages.Over notes past m w = absurd w

same_shown : (b : Bool) (options : List (Descriptor × Option Value)) (m : model.ClientView) (s : model.JobStage) → ShowRefines b options m → ShowRefines b options (record m { stage = s })
same_shown true options m s e = e
same_shown false options m s e = tt

stops_by : (place : DeviceInfo → ℕ) (target : JobTarget) (job : model.AbstractJob) (pages : List (List Frame)) (protocol : ProtocolState) (m : model.ClientView) (status : Status) (why : Why) (o : Outcome) → protocol.outcome ≡ o
    → Files pages protocol.history m.frames m.pages → OutcomeRefines place target job pages o protocol.progress protocol.notes protocol.history m
    → ClientRefines place target job pages (stopped_by status why protocol o) (client_after_stop status why m)
stops_by place target job pages protocol m status why Running o f s =
    let g = runs job protocol.progress protocol.notes protocol.history m s.1 in
    record { files = record { part = f.part; all = f.all }; stands = ap (λ (y : model.JobStage). stage_after_stop status why y) g.1 }
stops_by place target job pages protocol m status why (Done reports) o f s = record {
  files = record { part = f.part; all = f.all };
  stands = subst (λ (y : Outcome). OutcomeRefines place target job pages y protocol.progress protocol.notes protocol.history (client_after_stop status why m)) (sym o)
      (record { stage = ap (λ (y : model.JobStage). stage_after_stop status why y) s.stage; settings = s.settings; devices = s.devices; options = same_shown (shows target.task) reports.options m _ s.options });
}
stops_by place target job pages protocol m status why (Ended earlier reason) o f s = record {
  files = record { part = f.part; all = f.all };
  stands = subst (λ (y : Outcome). OutcomeRefines place target job pages y protocol.progress protocol.notes protocol.history (client_after_stop status why m)) (sym o)
      (ap (λ (y : model.JobStage). stage_after_stop status why y) s);
}

pub stops_alike : JobsStopAlike
stops_alike place target job pages protocol m status why r = stops_by place target job pages protocol m status why protocol.outcome refl r.files r.stands

-- ---- what no rule speaks of

pulled_waits : (job : model.AbstractJob) (progress : Progress) (notes : Notes) (past : JoinHistory) (m : model.ClientView) (bytes : List ℕ) → WaitsAs job progress notes past m → WaitsAs job progress notes (after_pull bytes past) m
pulled_waits job (stages.Imaging port made) notes past m bytes w = record { params = w.params; payload = w.payload; stage = w.stage; under = w.under; accepted = w.accepted; part = w.part }
pulled_waits job progress notes past m bytes w = w

linked_waits : (job : model.AbstractJob) (progress : Progress) (notes : Notes) (past : JoinHistory) (m : model.ClientView) → WaitsAs job progress notes past m → WaitsAs job (progress_connected progress) notes past m
linked_waits job (stages.Imaging port true) notes past m w = w
linked_waits job (stages.Imaging port false) notes past m w = w
linked_waits job progress notes past m w = w

linked_apt : (target : JobTarget) (progress : Progress) (notes : Notes) → IsApt target progress notes → IsApt target (progress_connected progress) notes
linked_apt target (stages.Imaging port true) notes a = tt
linked_apt target (stages.Imaging port false) notes a = tt
linked_apt target progress notes a = a

pulled_stands : (place : DeviceInfo → ℕ) (target : JobTarget) (job : model.AbstractJob) (pages : List (List Frame)) (o : Outcome) (progress : Progress) (notes : Notes) (past : JoinHistory) (m : model.ClientView) (bytes : List ℕ)
    → OutcomeRefines place target job pages o progress notes past m → OutcomeRefines place target job pages o progress notes (after_pull bytes past) m × OutcomeRefines place target job pages o (progress_connected progress) notes past m
pulled_stands place target job pages Running progress notes past m bytes s =
    ((s.0, pulled_waits job progress notes past m bytes s.1, s.2), (s.0, linked_waits job progress notes past m s.1, linked_apt target progress notes s.2))
pulled_stands place target job pages (Done reports) progress notes past m bytes s = (s, s)
pulled_stands place target job pages (Ended status why) progress notes past m bytes s = (s, s)

pub pulls_unseen : PullsAndLinksAreUnseen
pulls_unseen place target job pages protocol m bytes r =
    let s = pulled_stands place target job pages protocol.outcome protocol.progress protocol.notes protocol.history m bytes r.stands in (
      record { files = record { part = r.files.part; all = r.files.all }; stands = s.0 },
      record { files = record { part = r.files.part; all = r.files.all }; stands = s.1 },
    )
