-- As a job asks for a start, as many of its pages are finished as were started.
use Rattle.std.specs.Prelude.{cond, length, map, slice_get, if◌then◌else◌}
use Rattle.std.proofs.Common.{◌≡◌, ◌∙◌, ℕ, suc, List, [], ◌∷◌, ◌++◌, Bool, true, false, Option, Some, None, refl, sym, ap, subst}
use Rattle.std.proofs.lemmas.List.{append-nil}
use Rattle.frame_join.specs.FrameHistory.{JoinHistory, is_joined}
use Rattle.page_picture.specs.Shows.{Frame}
use Rattle.sane_fixed.specs.declared.device_info.DeviceInfo.{DeviceInfo}
use Rattle.scan_job.specs.declared.outcome.Outcome.{Outcome}
use Rattle.scan_job.specs.declared.outcome.Outcome.TheVariants as outcomes
use Rattle.client_replies.specs.ProtocolStates.{FitsAt, HistoryFits, IsBetweenFrames, target_of, is_batch}
use Rattle.client_replies.specs.declared.progress.JobTarget.{JobTarget}
use Rattle.client_replies.specs.declared.progress.Notes.{Notes}
use Rattle.client_replies.specs.declared.progress.Progress.{Progress}
use Rattle.client_replies.specs.declared.progress.Progress.TheVariants as stages
use Rattle.client_refines.specs.ClientRefinement.{OutcomeRefines, WaitsAs}
use Rattle.system_model.specs.AbstractDevices.{Begin}
use Rattle.system_model.specs.AbstractMessages.{AbstractRequest}
use Rattle.system_model.specs.Client.{AbstractJob, ClientView, Idle, Running, Done, Ended, Starting, Imaging}
use Rattle.system_model.specs.Devices.{Make}
use Rattle.system_model.specs.AbstractMessages.{RequestedSetting}
use Rattle.system_model.specs.Sync.{ArePictures, Ready}
use Rattle.system_model.specs.SystemStates.{device_for, make_for}
use Rattle.event_world.specs.declared.endpoint.Endpoint.{Endpoint}
use Rattle.event_world.specs.FileDraining.{HasFiles}
use Rattle.event_world.specs.JobEvents.{is_done}
use Rattle.event_world.specs.Worlds.{WorldCore}
use Rattle.world_refines.specs.GhostStates.{Ghost, place_of_info}
use Rattle.world_refines.specs.WorldRefinement.{KeepsFiles, WorldRefines, client_at_greeting, is_laid}
use Rattle.world_refines.proofs.frames.Paged.{woken_pages}
use Rattle.scan_world.proofs.Rows.{HasFinished}
use Rattle.scan_world.proofs.moments.Entries.{past_end}
use Rattle.world_refines.proofs.requests.Waiting.{woken}

-- ---- as it starts, as many pages are finished as were started

pub as_many : (k : Make) (settings : List RequestedSetting) (begins : List Begin) (pages : List (List Frame)) → ArePictures k settings begins pages → length begins ≡ length pages
as_many k settings [] [] h = refl
as_many k settings [] (page ∷ pages) h = absurd h
as_many k settings (b ∷ begins) [] h = absurd h
as_many k settings (b ∷ begins) (page ∷ pages) h = ap suc (as_many k settings begins pages h.1)

-- the join of a client that starts has no whole picture
between : (job : AbstractJob) (progress : Progress) (notes : Notes) (past : JoinHistory) (m : ClientView) → m.stage ≡ Running Starting → (progress ≡ stages.Turning → ⊥) → WaitsAs job progress notes past m → FitsAt progress past → IsBetweenFrames past
between job stages.Greeting notes past m at unturned h fits = fits
between job stages.Listing notes past m at unturned h fits = fits
between job stages.Opening notes past m at unturned h fits = fits
between job (stages.Allowing resource answer) notes past m at unturned h fits = fits
between job stages.Reopening notes past m at unturned h fits = fits
between job stages.Describing notes past m at unturned h fits = fits
between job (stages.Putting n kind name asked) notes past m at unturned h fits = fits
between job (stages.Getting n kind size) notes past m at unturned h fits = fits
between job (stages.Starting first) notes past m at unturned h fits = fits
between job (stages.Shaping port order) notes past m at unturned h fits = fits
between job (stages.Imaging port made) notes past m at unturned h fits = absurd (let clash : Running (Imaging h.params h.payload) ≡ Running Starting = sym h.stage ∙ at in cc)
between job stages.Turning notes past m at unturned h fits = absurd (unturned refl)
between job stages.Over notes past m at unturned h fits = absurd h

outcome_between : (place : DeviceInfo → ℕ) (target : JobTarget) (job : AbstractJob) (pages : List (List Frame)) (o : Outcome) (progress : Progress) (notes : Notes) (past : JoinHistory) (m : ClientView) → m.stage ≡ Running Starting → (progress ≡ stages.Turning → ⊥) → OutcomeRefines place target job pages o progress notes past m → HistoryFits target.task o progress past → (is_done o ≡ false) × IsBetweenFrames past
outcome_between place target job pages outcomes.Running progress notes past m at unturned h fits = (refl, between job progress notes past m at unturned h.1 fits.1)
outcome_between place target job pages (outcomes.Done reports) progress notes past m at unturned h fits = absurd (let clash : Done ≡ Running Starting = sym h.stage ∙ at in cc)
outcome_between place target job pages (outcomes.Ended status why) progress notes past m at unturned h fits = absurd (let clash : Ended status why ≡ Running Starting = sym h ∙ at in cc)

pub mapped_length : {X Y : Type 0} (f : X → Y) (xs : List X) → length (map f xs) ≡ length xs
mapped_length f [] = refl
mapped_length f (x ∷ xs) = ap suc (mapped_length f xs)

unlaid : (b c : Bool) → b ≡ false → cond b c false ≡ false
unlaid false c e = refl
unlaid true c e = absurd (let clash : true ≡ false = e in cc)

none_whole : (frames : List Frame) (b : Bool) → (b ≡ false) → (if b then frames ∷ [] else []) ≡ []
none_whole frames false e = refl
none_whole frames true e = absurd (let clash : true ≡ false = e in cc)

pub count_at : (t : Ghost) (w : WorldCore) (i : ℕ) (rest : List AbstractRequest) (o : Option Endpoint) → slice_get w.endpoints i ≡ o → WorldRefines t w → (t.system.job i).client.stage ≡ Running Starting → Ready i (make_for t.system i) (t.system.job i).session (t.system.job i).client (device_for t.system i) → HasFinished w i (length (t.system.job i).session.started)
count_at t w i rest None at h stage ready = absurd (let clash : Idle ≡ Running Starting = sym (h.beyond i (past_end w.endpoints i at)).stage ∙ stage in cc)
count_at t w i rest (Some p) at h stage ready =
    let s = h.endpoints i p at in
    let me = t.system.job i in
    let past = t.history i in
    let reads = s.exchanges.reads in
    let fits : HistoryFits (target_of (t.jobs i)).task p.client.outcome p.client.progress past = subst (λ (x : JobTarget). HistoryFits x.task p.client.outcome p.client.progress past) s.exchanges.target s.exchanges.serves.fits in
    let is = outcome_between (place_of_info t.infos) (target_of (t.jobs i)) me.session.job (map (λ (q : JoinHistory). q.ended) (t.pages i)) p.client.outcome p.client.progress p.client.notes past (client_at_greeting me.client.stage me.client) (woken me.client.stage me.client Starting stage refl) s.waits.unturned reads.stands fits in
    let laid : is_laid (t.jobs i).task p.client.outcome past ≡ false = unlaid (is_done p.client.outcome) (cond (is_batch (t.jobs i).task) (is_joined past.ended) false) is.0 in
    let files : HasFiles past.given (t.pages i) p = subst (λ (b : Bool). KeepsFiles b past (t.pages i) p) laid s.exchanges.files in
    let pages : me.client.pages ≡ map (λ (q : JoinHistory). q.ended) (t.pages i) =
    sym (woken_pages me.client.stage me.client) ∙ (reads.files.all ∙ (ap (λ (x : List (List Frame)). map (λ (q : JoinHistory). q.ended) (t.pages i) ++ x) (none_whole past.ended _ is.1.2) ∙ append-nil (map (λ (q : JoinHistory). q.ended) (t.pages i)))) in
    let started : length me.session.started ≡ length me.client.pages = as_many (make_for t.system i) me.session.job.settings me.session.started me.client.pages ready.pictures in
    (p, at, files.count ∙ (sym (mapped_length (λ (q : JoinHistory). q.ended) (t.pages i)) ∙ (ap length (sym pages) ∙ sym started)))
