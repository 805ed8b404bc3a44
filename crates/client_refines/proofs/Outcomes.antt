-- A job runs, is done or has ended for both.
use Rattle.std.proofs.Common.{◌≡◌, ◌∙◌, ℕ, Some, List, refl, sym, ap, subst}
use Rattle.sane_fixed.specs.declared.status.Status.{Status}
use Rattle.sane_fixed.specs.declared.device_info.DeviceInfo.{DeviceInfo}
use Rattle.page_picture.specs.Shows.{Frame}
use Rattle.frame_join.specs.FrameHistory.{JoinHistory}
use Rattle.scan_job.specs.declared.outcome.Outcome.{Outcome}
use Rattle.scan_job.specs.declared.outcome.Outcome.TheVariants.{Running, Done, Ended}
use Rattle.scan_job.specs.declared.outcome.Why.{Why}
use Rattle.scan_job.specs.declared.report.Reports.{Reports}
use Rattle.client_replies.specs.declared.progress.JobTarget.{JobTarget}
use Rattle.client_replies.specs.declared.progress.Progress.{Progress}
use Rattle.client_replies.specs.declared.progress.Notes.{Notes}
use Rattle.system_model.specs.Client as model
use Rattle.client_refines.specs.ClientRefinement.{OutcomeRefines, DoneAs, EndedAs}
use Rattle.client_refines.specs.ClientLives.{EndAlike, OutcomesAreAlike}
use Rattle.client_refines.proofs.ClientEndings.{runs}

ends_alike : (place : DeviceInfo → ℕ) (target : JobTarget) (job : model.AbstractJob) (pages : List (List Frame)) (o : Outcome) (progress : Progress) (notes : Notes) (past : JoinHistory) (m : model.ClientView)
    → OutcomeRefines place target job pages o progress notes past m → EndAlike place target.task o m
ends_alike place target job pages Running progress notes past m s =
    let g = runs job progress notes past m s.1 in
    record {
      runs = λ e. g;
      done = λ reports e. absurd (let clash : Running ≡ Done reports = e in cc);
      ended = λ status why e. absurd (let clash : Running ≡ Ended status why = e in cc);
      runs_by = λ p e. refl;
      done_by = λ e. absurd (let clash : model.Running g.0 ≡ model.Done = sym g.1 ∙ e in cc);
      ended_by = λ status why e. absurd (let clash : model.Running g.0 ≡ model.Ended status why = sym g.1 ∙ e in cc);
    }
ends_alike place target job pages (Done reports) progress notes past m s = record {
  runs = λ e. absurd (let clash : Done reports ≡ Running = e in cc);
  done = λ found e. let same : reports ≡ found = cc in subst (λ (r : Reports). DoneAs place target.task r m) same s;
  ended = λ status why e. absurd (let clash : Done reports ≡ Ended status why = e in cc);
  runs_by = λ p e. absurd (let clash : model.Done ≡ model.Running p = sym s.stage ∙ e in cc);
  done_by = λ e. (reports, refl);
  ended_by = λ status why e. absurd (let clash : model.Done ≡ model.Ended status why = sym s.stage ∙ e in cc);
}
ends_alike place target job pages (Ended status why) progress notes past m s = record {
  runs = λ e. absurd (let clash : Ended status why ≡ Running = e in cc);
  done = λ reports e. absurd (let clash : Ended status why ≡ Done reports = e in cc);
  ended = λ found reason e.
      let same_status : status ≡ found = cc in
      let same_why : why ≡ reason = cc in
      subst (λ (x : Status). EndedAs x reason m) same_status (subst (λ (x : Why). EndedAs status x m) same_why s);
  runs_by = λ p e. absurd (let clash : model.Ended status why ≡ model.Running p = sym s ∙ e in cc);
  done_by = λ e. absurd (let clash : model.Ended status why ≡ model.Done = sym s ∙ e in cc);
  ended_by = λ found reason e. (let same : model.Ended status why ≡ model.Ended found reason = sym s ∙ e in cc);
}

pub outcomes_alike : OutcomesAreAlike
outcomes_alike place target job pages protocol m r = ends_alike place target job pages protocol.outcome protocol.progress protocol.notes protocol.history m r.stands
