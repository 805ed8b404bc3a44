-- The calls of a client that hear nothing.
use Rattle.std.proofs.Common.{◌≡◌, ◌∙◌, Some, true, false, [], ◌∷◌, refl, sym, ap, subst}
use Rattle.sane_fixed.specs.declared.status.Status.TheVariants as statuses
use Rattle.wire_message.specs.declared.message.Request.TheVariants as requests
use Rattle.scan_job.specs.declared.outcome.Outcome.{Outcome}
use Rattle.scan_job.specs.declared.outcome.Outcome.TheVariants.{Running, Done, Ended}
use Rattle.scan_job.specs.declared.outcome.Why.TheVariants as whys
use Rattle.client_replies.specs.declared.progress.Link.{Link}
use Rattle.client_replies.specs.declared.progress.Link.TheVariants as links
use Rattle.client_replies.specs.declared.progress.Progress.{Progress}
use Rattle.client_replies.specs.Asking.{farewell}
use Rattle.client_replies.specs.ProtocolStates.{ProtocolState, target_of, is_lost_by}
use Rattle.net_client.specs.Sending.{requests_text}
use Rattle.net_client.specs.ClientStates.{ClientState, protocol_of, after_client_end}
use Rattle.frame_join.specs.FrameHistory.{empty_history}
use Rattle.system_model.specs.Client as model
use Rattle.client_refines.specs.ClientRefinement.{OutcomeRefines, ClientRefines}
use Rattle.client_refines.specs.Calls.{NewClientsAreAlike, CancelsAreAlike, LossesAreAlike, ConnectionsAreUnseen}
use Rattle.client_refines.proofs.Said.{one_text}
use Rattle.client_refines.proofs.Asking.{asks_alike}
use Rattle.client_refines.proofs.ClientEndings.{begins_alike, pulls_unseen}
use Rattle.client_refines.proofs.Replying.{runs_is, ends_so}
use Rattle.client_refines.proofs.PieceReceiving.{behind_some}

pub made_alike : NewClientsAreAlike
made_alike place wanted job new e fresh = (
  subst (λ (t : ProtocolState). ClientRefines place (target_of wanted) job [] t (model.with_progress model.Greeting model.initial_client)) (sym (ap (λ (v : ClientState). protocol_of v empty_history) fresh.value))
      (begins_alike place (target_of wanted) job wanted.settings.items e),
  record { requests = requests.Init 16777219 wanted.user ∷ []; text = one_text (Some (requests.Init 16777219 wanted.user)) ∙ fresh.text; same = ((refl, refl), tt) },
)

pub cancelled_alike : CancelsAreAlike
cancelled_alike place job pages old new past m runs e text r =
    let running = runs_is old.outcome runs in
    let s : OutcomeRefines place old.target job pages Running old.progress old.notes past m = subst (λ (o : Outcome). OutcomeRefines place old.target job pages o old.progress old.notes past m) running r.stands in
    let said = behind_some old.out new.out (requests_text (farewell old.notes.word old.progress)) text in (
      said.0,
      said.2,
      record {
        requests = farewell old.notes.word old.progress;
        text = said.1;
        same = (asks_alike old.target job old.progress old.notes past m s.1 s.2 s.0.descriptors).farewells;
      },
      ends_so place old.target job pages (protocol_of old past) new m statuses.Cancelled whys.Cancelled running (ap (λ (v : ClientState). v.outcome) e) r,
    )

lost_runs : (link : Link) (o : Outcome) (p : Progress) → is_lost_by link o p ≡ true → o ≡ Running
lost_runs links.Control o p e = runs_is o e
lost_runs links.Image Running p e = refl
lost_runs links.Image (Done reports) p e = absurd (let clash : false ≡ true = e in cc)
lost_runs links.Image (Ended status why) p e = absurd (let clash : false ≡ true = e in cc)

pub lost_alike : LossesAreAlike
lost_alike place job pages old link past m e r =
    ends_so place old.target job pages (protocol_of old past) (after_client_end statuses.IoError whys.Lost old) m statuses.IoError whys.Lost (lost_runs link old.outcome old.progress e) refl r

pub connected_unseen : ConnectionsAreUnseen
connected_unseen place job pages old past m r = (pulls_unseen place old.target job pages (protocol_of old past) m [] r).1
