-- What a loop gives of a file behind a piece is laid down in the world.
use Rattle.std.specs.Prelude.{◌<◌, ◌+◌, ◌&&◌, nat_lt, if◌then◌else◌}
use Rattle.std.proofs.Common.{◌≡◌, ◌∙◌, ◌⊎◌, inl, inr, ℕ, zero, suc, Bool, true, false, Option, Some, None, option_map, List, [], ◌∷◌, ◌++◌, length, slice_get, slice_set, append_assoc, append-nil, length-append, refl, sym, ap, subst, arith}
use Rattle.std.proofs.lemmas.List.{length-set}
use Rattle.std.proofs.lemmas.Option.{slice_get_within}
use Rattle.netpbm.specs.Picture.{Picture}
use Rattle.netpbm.specs.Pnm.{IsWhole}
use Rattle.page_picture.specs.Shows.{ShowsFrames}
use Rattle.frame_join.specs.FrameHistory.{IsJoined, JoinHistory, after_pull}
use Rattle.scan_job.specs.declared.job.Task.{Task}
use Rattle.scan_job.specs.declared.job.Task.TheVariants as tasks
use Rattle.scan_job.specs.declared.outcome.Outcome.{Outcome}
use Rattle.scan_job.specs.declared.outcome.Outcome.TheVariants.{Running, Done, Ended}
use Rattle.client_replies.specs.declared.progress.Progress.{Progress}
use Rattle.client_replies.specs.declared.progress.Progress.TheVariants as stages
use Rattle.client_replies.specs.ProtocolStates.{is_batch, is_ended, is_running, scans, turns}
use Rattle.net_client.specs.ClientStates.{ClientRepresents, ClientState, Stays, TakesPage, Turns, TurnsPage}
use Rattle.net_jobs.specs.JobJournal.{AreGives, GivesFileBytes, JobMove, MovesLead, given_by}
use Rattle.net_jobs.specs.JobJournal.JobMove.{Writes, Fails, Hears, Resumes, Prepares, Dials, Takes, Gives, Loses}
use Rattle.net_jobs.specs.JobSteps.{FileGoesOn, GivesNone, GivesOut, PageEnds}
use Rattle.in_flight.specs.Requests.{with_unheard}
use Rattle.in_flight.proofs.Requests.{histories_alike, pages_alike}
use Rattle.event_world.specs.declared.endpoint.Endpoint.{Endpoint}
use Rattle.event_world.specs.FileDraining.{Drains, HasDrained, HasFiles, HoldsHistory, KeepsFile, RunsDry}
use Rattle.event_world.specs.FileInvariant.{AllLaid, FilesRepresent, HasNumber, Underway}
use Rattle.event_world.specs.Endpoints.{laid_by}
use Rattle.event_world.specs.JobEvents.{is_done, with_last_page}
use Rattle.event_world.proofs.Pulls.{laid_always, laid_as, laid_starved, laid_then, page_turns, set_beyond, set_here}
use Rattle.programs_refine.specs.Programs.{HasFilesOf}
use Rattle.programs_refine.proofs.Tracks.{FilesTrack, KeepsFiles, done_is_over, has_files}
use Rattle.programs_refine.proofs.Tracks.FilesTrack.{UnderWay, AllFinished}
use Rattle.frame_join.specs.PictureText.{IsPictureFile}

abbrev pub more_of : List ℕ → Option (List ℕ) → Option (List ℕ)
more_of given file = option_map (λ (f : List ℕ). f ++ given) file

-- the endpoint with what the loop's client and file became
abbrev pub laid : Endpoint → ClientState → List ℕ → Endpoint
laid p c given = record p { client = c; file = more_of given p.file }

-- ---- bytes that go out one after another

record GivenOn (past : JoinHistory) (old : ClientState) (given : List ℕ) (new : ClientState) : Type 0 where
  rest : new ≡ record old { join = new.join }
  serves : ClientRepresents (after_pull given past) new

no_more_given : (past : JoinHistory) → past ≡ after_pull [] past
no_more_given past = ap (λ (x : List ℕ). record past { given = x }) (sym (append-nil past.given))

more_given : (past : JoinHistory) (a b : List ℕ) → after_pull b (after_pull a past) ≡ after_pull (a ++ b) past
more_given past a b = ap (λ (x : List ℕ). record past { given = x }) (append_assoc past.given a b)

no_length : (bytes : List ℕ) → length bytes ≡ 0 → bytes ≡ []
no_length [] e = refl
no_length (b ∷ bytes) e = absurd (let wrong : length (b ∷ bytes) ≡ 0 = e in cc)

gives_one : (past : JoinHistory) (old mid new : ClientState) (given bytes : List ℕ) (b : Bool) → turns old.outcome old.progress ≡ false → is_ended mid.outcome ≡ b → GivenOn past old given mid → GivesFileBytes mid bytes new → GivenOn past old (given ++ bytes) new
gives_one past old mid new given bytes true still e g one =
    let none = one.ended e in
    let nothing = no_length bytes none.0 in
    let was : GivenOn past old given new = subst (λ (x : ClientState). GivenOn past old given x) (sym none.1) g in
    subst (λ (x : List ℕ). GivenOn past old x new) (sym (append-nil given) ∙ ap (λ (x : List ℕ). given ++ x) (sym nothing)) was
gives_one past old mid new given bytes false still e g one =
    let still_mid : turns mid.outcome mid.progress ≡ false = ap (λ (x : ClientState). turns x.outcome x.progress) g.rest ∙ still in
    record {
      rest = one.same e still_mid ∙ ap (λ (x : ClientState). record x { join = new.join }) g.rest;
      serves = subst (λ (x : JoinHistory). ClientRepresents x new) (more_given past given bytes) ((one.taken (after_pull given past) g.serves).carried still_mid);
    }

gives_on : (past : JoinHistory) (old : ClientState) (gives : List JobMove) (new : ClientState) → turns old.outcome old.progress ≡ false → ClientRepresents past old → AreGives gives → MovesLead old gives new → GivenOn past old (given_by gives) new
gives_on past old [] new still serves are leads = subst (λ (x : ClientState). GivenOn past old [] x) (sym leads) (record { rest = refl; serves = subst (λ (x : JoinHistory). ClientRepresents x old) (no_more_given past) serves })
gives_on past old (Gives bytes ∷ gives) new still serves are leads = gives_one past old leads.0 new (given_by gives) bytes (is_ended leads.0.outcome) still refl (gives_on past old gives leads.0 still serves are leads.1) leads.2
gives_on past old (Writes bytes ∷ gives) new still serves are leads = absurd are
gives_on past old (Fails bytes ∷ gives) new still serves are leads = absurd are
gives_on past old (Hears piece ∷ gives) new still serves are leads = absurd are
gives_on past old (Resumes ∷ gives) new still serves are leads = absurd are
gives_on past old (Prepares port ∷ gives) new still serves are leads = absurd are
gives_on past old (Dials port made ∷ gives) new still serves are leads = absurd are
gives_on past old (Takes piece ∷ gives) new still serves are leads = absurd are
gives_on past old (Loses link reason ∷ gives) new still serves are leads = absurd are

-- once the client gives no more, all that was given of a whole picture denotes it
all_given : (past : JoinHistory) (old : ClientState) (gives before : List JobMove) (new : ClientState) → turns old.outcome old.progress ≡ false → ClientRepresents past old → AreGives gives → MovesLead old gives new → gives ≡ Gives [] ∷ before
    → is_ended old.outcome ≡ false → IsJoined past → (p : Picture) → ShowsFrames past.ended p → IsPictureFile (past.given ++ given_by gives) p
all_given past old gives before new still serves are leads e running joined p shows =
    let are_there : AreGives before = subst AreGives e are in
    let there : MovesLead old (Gives [] ∷ before) new = subst (λ (x : List JobMove). MovesLead old x new) e leads in
    let was = gives_on past old before there.0 still serves are_there there.1 in
    let last : GivesFileBytes there.0 [] new = there.2 in
    let denotes : IsPictureFile (past.given ++ given_by before) p =
    (last.taken (after_pull (given_by before) past) was.serves).denotes (ap (λ (x : ClientState). is_ended x.outcome) was.rest ∙ running) joined refl last.some_room p shows in
    let same : given_by gives ≡ given_by before = ap given_by e ∙ append-nil (given_by before) in
    subst (λ (x : List ℕ). IsPictureFile (past.given ++ x) p) (sym same) denotes

-- ---- the world's client and file

keeps_more : (starved : Bool) (given more : List ℕ) (file : Option (List ℕ)) → KeepsFile starved given file → KeepsFile starved (given ++ more) (more_of more file)
keeps_more starved given more None k = k
keeps_more starved given more (Some f) k = ap (λ (x : List ℕ). x ++ more) k

files_more : (given more : List ℕ) (pages : List JoinHistory) (old : Endpoint) (c d : ClientState) → HasFiles given pages (record old { client = d }) → HasFiles (given ++ more) pages (laid old c more)
files_more given more pages old c d h = record { file = keeps_more old.out_of_memory given more old.file h.file; each = h.each; count = h.count; room = h.room }

-- whatever of a whole picture these bytes denote
DenoteAll : (past : JoinHistory) (mid : ClientState) (gives : List JobMove) → Type 0
DenoteAll past mid gives = turns mid.outcome mid.progress ≡ false → ClientRepresents past mid → is_ended mid.outcome ≡ false → IsJoined past → (q : Picture) → ShowsFrames past.ended q → IsPictureFile (past.given ++ given_by gives) q

runs_dry : (p : Endpoint) (up : List ℕ) (mid c : ClientState) (gives : List JobMove) (past : JoinHistory) (pages : List JoinHistory) → turns mid.outcome mid.progress ≡ false → AreGives gives → MovesLead mid gives c → DenoteAll past mid gives → HoldsHistory past pages (record p { client = with_unheard up mid })
    → RunsDry past pages (record p { client = with_unheard up mid }) (laid p (with_unheard up c) (given_by gives))
unfolding DenoteAll
runs_dry p up mid c gives past pages still are leads denote h =
    let serves : ClientRepresents past mid = (histories_alike up past mid).1 h.serves in
    let on = gives_on past mid gives c still serves are leads in
    record {
      still = still;
      bytes = given_by gives;
      holds = record {
        task = h.task ∙ sym (ap (λ (x : ClientState). x.target.task) on.rest);
        serves = (histories_alike up (after_pull (given_by gives) past) c).0 on.serves;
        files = files_more past.given (given_by gives) pages p (with_unheard up c) (with_unheard up mid) h.files;
      };
      given = record { client = ap (with_unheard up) on.rest; rest = refl };
      denotes = λ running joined q shows. denote still serves running joined q shows;
    }

drains_by : (p : Endpoint) (up : List ℕ) (mid c : ClientState) (gives : List JobMove) → turns mid.outcome mid.progress ≡ false → scans p.task ≡ true → AreGives gives → MovesLead mid gives c → ((past : JoinHistory) → DenoteAll past mid gives)
    → Drains (record p { client = with_unheard up mid }) (laid p (with_unheard up c) (given_by gives))
drains_by p up mid c gives still scanning are leads denote = record {
  none = λ e. absurd (let wrong : true ≡ false = sym scanning ∙ e in cc);
  rest = refl;
  starved = λ s. s;
  drains = λ past pages s place h.
      let dry = runs_dry p up mid c gives past pages still are leads (denote past) h in
      subst (λ (t : Bool). HasDrained t past pages (record p { client = with_unheard up mid }) (laid p (with_unheard up c) (given_by gives))) (sym dry.still) dry;
}

ended_still : (outcome : Outcome) (progress : Progress) → is_ended outcome ≡ true → turns outcome progress ≡ false
ended_still Running progress e = absurd (let wrong : false ≡ true = e in cc)
ended_still (Done reports) progress e = refl
ended_still (Ended status why) progress e = refl

-- the file ran out, or the job has ended
drains_on : (p : Endpoint) (up : List ℕ) (mid c : ClientState) (gives : List JobMove) → scans p.task ≡ true → FileGoesOn mid gives c ⊎ ((is_ended mid.outcome ≡ true) × GivesNone mid gives c) → Drains (record p { client = with_unheard up mid }) (laid p (with_unheard up c) (given_by gives))
unfolding DenoteAll
drains_on p up mid c gives scanning (inl g) =
    let out = g.runs_out in
    drains_by p up mid c gives g.still scanning out.are out.leads (λ past still serves running joined q shows. all_given past mid gives out.before c still serves out.are out.leads out.dry running joined q shows)
drains_on p up mid c gives scanning (inr (ended, (none, same))) =
    drains_by p up mid c gives (ended_still mid.outcome mid.progress ended) scanning (subst AreGives (sym none) tt) (subst (λ (l : List JobMove). MovesLead mid l c) (sym none) same) (λ past still serves running joined q shows. absurd (let wrong : true ≡ false = sym ended ∙ running in cc))

no_more : (file : Option (List ℕ)) (given : List ℕ) → given ≡ [] → more_of given file ≡ file
no_more None given e = refl
no_more (Some f) given e = ap (λ (x : List ℕ). Some (f ++ x)) e ∙ ap (λ (x : List ℕ). Some x) (append-nil f)

drains_none : (p : Endpoint) (up : List ℕ) (mid c : ClientState) (gives : List JobMove) → scans p.task ≡ false → gives ≡ [] → c ≡ mid → Drains (record p { client = with_unheard up mid }) (laid p (with_unheard up c) (given_by gives))
drains_none p up mid c gives none nothing same = record {
  none = λ e. ap (λ (x : ClientState). laid p (with_unheard up x) (given_by gives)) same ∙ ap (λ (f : Option (List ℕ)). record p { client = with_unheard up mid; file = f }) (no_more p.file (given_by gives) (ap given_by nothing));
  rest = refl;
  starved = λ s. s;
  drains = λ past pages s place h. absurd (let wrong : true ≡ false = sym s ∙ none in cc);
}

-- ---- the last bytes of a page

gives_ended : (b : Bool) (was now : ClientState) (bytes : List ℕ) → is_ended was.outcome ≡ b → GivesFileBytes was bytes now → turns was.outcome was.progress ≡ false → turns now.outcome now.progress ≡ false
gives_ended true was now bytes e g still = ap (λ (x : ClientState). turns x.outcome x.progress) (g.ended e).1 ∙ still
gives_ended false was now bytes e g still = ap (λ (x : ClientState). turns x.outcome x.progress) (g.same e still) ∙ still

turned_page : (was now : ClientState) → TurnsPage was now → turns now.outcome now.progress ≡ false
turned_page was now t = ap (λ (v : ClientState). turns v.outcome v.progress) t.rest ∙ starts was.outcome
  where
    starts : (outcome : Outcome) → turns outcome (stages.Starting true) ≡ false
    starts Running = refl
    starts (Done reports) = refl
    starts (Ended status why) = refl

-- a client that still waits for its page's file to be taken gave bytes of it alone
stays_one : (past : JoinHistory) (old was now : ClientState) (given bytes : List ℕ) → turns now.outcome now.progress ≡ true → GivenOn past old given was → TakesPage was (after_pull given past) bytes now → GivenOn past old (given ++ bytes) now
stays_one past old was now given bytes on g (Stays partial rest serves) = record {
  rest = rest ∙ ap (λ (x : ClientState). record x { join = now.join }) g.rest;
  serves = subst (λ (x : JoinHistory). ClientRepresents x now) (more_given past given bytes) serves;
}
stays_one past old was now given bytes on g (Turns whole denotes turned serves) = absurd (let wrong : true ≡ false = sym on ∙ turned_page was now turned in cc)

stays_by : (b : Bool) (past : JoinHistory) (old was now : ClientState) (given bytes : List ℕ) → turns was.outcome was.progress ≡ b → turns now.outcome now.progress ≡ true → GivenOn past old given was → GivesFileBytes was bytes now → GivenOn past old (given ++ bytes) now
stays_by true past old was now given bytes e on g one = stays_one past old was now given bytes on g ((one.taken (after_pull given past) g.serves).page e)
stays_by false past old was now given bytes e on g one = absurd (let wrong : true ≡ false = sym on ∙ gives_ended (is_ended was.outcome) was now bytes refl one e in cc)

turning_before : (b : Bool) (was now : ClientState) (bytes : List ℕ) → turns was.outcome was.progress ≡ b → turns now.outcome now.progress ≡ true → GivesFileBytes was bytes now → turns was.outcome was.progress ≡ true
turning_before true was now bytes e on one = e
turning_before false was now bytes e on one = absurd (let wrong : true ≡ false = sym on ∙ gives_ended (is_ended was.outcome) was now bytes refl one e in cc)

gives_turning : (past : JoinHistory) (old : ClientState) (gives : List JobMove) (new : ClientState) → turns new.outcome new.progress ≡ true → ClientRepresents past old → AreGives gives → MovesLead old gives new → GivenOn past old (given_by gives) new
gives_turning past old [] new on serves are leads = subst (λ (x : ClientState). GivenOn past old [] x) (sym leads) (record { rest = refl; serves = subst (λ (x : JoinHistory). ClientRepresents x old) (no_more_given past) serves })
gives_turning past old (Gives bytes ∷ gives) new on serves are leads =
    let before = turning_before (turns leads.0.outcome leads.0.progress) leads.0 new bytes refl on leads.2 in
    stays_by true past old leads.0 new (given_by gives) bytes before on (gives_turning past old gives leads.0 before serves are leads.1) leads.2
gives_turning past old (Writes bytes ∷ gives) new on serves are leads = absurd are
gives_turning past old (Fails bytes ∷ gives) new on serves are leads = absurd are
gives_turning past old (Hears piece ∷ gives) new on serves are leads = absurd are
gives_turning past old (Resumes ∷ gives) new on serves are leads = absurd are
gives_turning past old (Prepares port ∷ gives) new on serves are leads = absurd are
gives_turning past old (Dials port made ∷ gives) new on serves are leads = absurd are
gives_turning past old (Takes piece ∷ gives) new on serves are leads = absurd are
gives_turning past old (Loses link reason ∷ gives) new on serves are leads = absurd are

-- all of them at once
page_taken : (past : JoinHistory) (old mid new : ClientState) (given bytes : List ℕ) → GivenOn past old given mid → turns new.outcome new.progress ≡ false → turns mid.outcome mid.progress ≡ true → TakesPage mid (after_pull given past) bytes new → TakesPage old past (given ++ bytes) new
page_taken past old mid new given bytes g off on (Stays partial rest serves) = absurd (let wrong : true ≡ false = sym (ap (λ (x : ClientState). turns x.outcome x.progress) rest ∙ on) ∙ off in cc)
page_taken past old mid new given bytes g off on (Turns whole denotes turned serves) =
    let text : (past.given ++ given) ++ bytes ≡ past.given ++ (given ++ bytes) = append_assoc past.given given bytes in
    let from_old : TurnsPage (record old { join = mid.join }) new = subst (λ (x : ClientState). TurnsPage x new) g.rest turned in
    Turns (subst IsWhole text whole) (λ p shows. subst (λ (l : List ℕ). IsPictureFile l p) text (denotes p shows)) (record { rest = from_old.rest; text = from_old.text; stands = from_old.stands }) serves

page_ends : (past : JoinHistory) (old : ClientState) (gives : List JobMove) (new : ClientState) → PageEnds old gives new → ClientRepresents past old → TakesPage old past (given_by gives) new
page_ends past old gives new e serves =
    let g = gives_turning past old e.before e.mid e.turning serves e.are e.leads in
    let all = page_taken past old e.mid new (given_by e.before) e.bytes g e.turned e.turning ((e.last.taken (after_pull (given_by e.before) past) g.serves).page e.turning) in
    subst (λ (l : List JobMove). TakesPage old past (given_by l) new) (sym e.gives_are) all

-- the endpoint with the page's file laid by
abbrev pub turned_to : Endpoint → ClientState → List ℕ → Endpoint
turned_to p c given = laid_by (laid p c given)

drains_turned : (p : Endpoint) (up : List ℕ) (mid c : ClientState) (gives : List JobMove) → scans p.task ≡ true → PageEnds mid gives c → Drains (record p { client = with_unheard up mid }) (turned_to p (with_unheard up c) (given_by gives))
drains_turned p up mid c gives scanning ends = record {
  none = λ e. absurd (let wrong : true ≡ false = sym scanning ∙ e in cc);
  rest = laid_then (record p { client = with_unheard up mid }) (laid p (with_unheard up c) (given_by gives)) (turned_to p (with_unheard up c) (given_by gives)) refl (laid_always (laid p (with_unheard up c) (given_by gives)));
  starved = λ s. laid_starved (laid p (with_unheard up c) (given_by gives)) ∙ s;
  drains = λ past pages s place h.
      let serves : ClientRepresents past mid = (histories_alike up past mid).1 h.serves in
      let page = pages_alike up mid past (given_by gives) c (page_ends past mid gives c ends serves) in
      subst (λ (t : Bool). HasDrained t past pages (record p { client = with_unheard up mid }) (turned_to p (with_unheard up c) (given_by gives))) (sym ends.begins)
      (page_turns true past pages (given_by gives) (record p { client = with_unheard up mid }) (laid p (with_unheard up c) (given_by gives)) (with_unheard up c) page refl ends.turned ends.begins (place ends.begins) h);
}

-- ---- what a step makes of the files

-- the endpoint behind it
abbrev pub filed : Bool → Endpoint → ClientState → List ℕ → Endpoint
filed true p c given = turned_to p c given
filed false p c given = laid p c given

pub drains_to : (b turned : Bool) (p : Endpoint) (up : List ℕ) (mid c : ClientState) (gives : List JobMove) → scans p.task ≡ b → GivesOut b turned mid gives c → Drains (record p { client = with_unheard up mid }) (filed turned p (with_unheard up c) (given_by gives))
drains_to true true p up mid c gives e g = drains_turned p up mid c gives e g
drains_to true false p up mid c gives e g = drains_on p up mid c gives e g
drains_to false true p up mid c gives e g = absurd (let wrong : true ≡ false = g.0 in cc)
drains_to false false p up mid c gives e g = drains_none p up mid c gives e g.1.0 g.1.1

-- what of the endpoint stays
pub record IsFiledAs (c : ClientState) (p q : Endpoint) : Type 0 where
  pub client : q.client ≡ c
  pub link : q.link ≡ p.link
  pub image : q.image ≡ p.image
  pub task : q.task ≡ p.task

laid_as_filed : (b : Bool) (p : Endpoint) → IsFiledAs p.client p (if b then record p { file = Some []; pages = slice_set p.pages p.finished p.file; finished = p.finished + 1 } else record p { file = Some [] })
laid_as_filed true p = record { client = refl; link = refl; image = refl; task = refl }
laid_as_filed false p = record { client = refl; link = refl; image = refl; task = refl }

pub filed_as : (turned : Bool) (p : Endpoint) (c : ClientState) (given : List ℕ) → IsFiledAs c p (filed turned p c given)
filed_as true p c given = let x = laid_as_filed (nat_lt p.finished 16) (laid p c given) in record { client = x.client; link = x.link; image = x.image; task = x.task }
filed_as false p c given = record { client = refl; link = refl; image = refl; task = refl }

last_filed : (b : Bool) (c : ClientState) (p q : Endpoint) → IsFiledAs c p q → IsFiledAs c p (if b then laid_by q else q)
last_filed true c p q f = let x = laid_as_filed (nat_lt q.finished 16) q in record { client = x.client ∙ f.client; link = x.link ∙ f.link; image = x.image ∙ f.image; task = x.task ∙ f.task }
last_filed false c p q f = f

pub last_as : (c : ClientState) (p q : Endpoint) → IsFiledAs c p q → IsFiledAs c p (with_last_page q)
last_as c p q f = last_filed (is_done q.client.outcome && is_batch q.task) c p q f

-- a client that turned to its next page runs
turned_runs : (old : ClientState) (gives : List JobMove) (new : ClientState) → PageEnds old gives new → is_running new.outcome ≡ true
turned_runs old gives new e = ap is_running e.last.outcome ∙ turning_runs e.mid.outcome e.mid.progress e.turning
  where
    turning_runs : (outcome : Outcome) (progress : Progress) → turns outcome progress ≡ true → is_running outcome ≡ true
    turning_runs Running progress on = refl
    turning_runs (Done reports) progress on = absurd (let wrong : false ≡ true = on in cc)
    turning_runs (Ended status why) progress on = absurd (let wrong : false ≡ true = on in cc)

pub never_turned : (b turned : Bool) (mid : ClientState) (gives : List JobMove) (c : ClientState) → GivesOut b turned mid gives c → is_done c.outcome ≡ true → turned ≡ true → ⊥
never_turned true true mid gives c g done on = done_is_over c.outcome done (turned_runs mid gives c g)
never_turned true false mid gives c g done on = let wrong : false ≡ true = on in cc
never_turned false turned mid gives c g done on = let wrong : true ≡ false = sym on ∙ g.0 in cc

pub low_by : (turned : Bool) (p : Endpoint) (c : ClientState) (given : List ℕ) → (turned ≡ true → ⊥) → p.finished < 16 → (filed turned p c given).finished < 16
low_by true p c given never low = absurd (never refl)
low_by false p c given never low = low

-- ---- a job that runs stands for some history

pub record Holds (p : Endpoint) : Type 0 where
  pub past : JoinHistory
  pub pages : List JoinHistory
  pub holds : HoldsHistory past pages p
  -- a batch has room for one page more
  pub room : is_batch p.task ≡ true → p.finished < 16

batch_room : (task : Task) (outcome : Outcome) (progress : Progress) (file pages finished : ℕ) → HasNumber task outcome progress file pages → is_running outcome ≡ true → is_batch task ≡ true → finished ≡ pages → finished < 16
batch_room (tasks.Batch count) Running progress file pages finished n runs batch same = omega (arith, n.0, n.1.0, n.1.1, same)
batch_room task (Done reports) progress file pages finished n runs batch same = absurd (let wrong : false ≡ true = runs in cc)
batch_room task (Ended status why) progress file pages finished n runs batch same = absurd (let wrong : false ≡ true = runs in cc)
batch_room tasks.List Running progress file pages finished n runs batch same = absurd (let wrong : false ≡ true = batch in cc)
batch_room tasks.Show Running progress file pages finished n runs batch same = absurd (let wrong : false ≡ true = batch in cc)
batch_room tasks.SetOnly Running progress file pages finished n runs batch same = absurd (let wrong : false ≡ true = batch in cc)
batch_room tasks.Scan Running progress file pages finished n runs batch same = absurd (let wrong : false ≡ true = batch in cc)

pub holds_some : (p : Endpoint) → FilesRepresent p → is_running p.client.outcome ≡ true → Holds p
holds_some p (Underway past pages u) runs = record { past = past; pages = pages; holds = u.holds; room = λ batch. batch_room p.task p.client.outcome p.client.progress p.client.notes.file (length pages) p.finished u.number runs batch u.holds.files.count }
holds_some p (AllLaid pages a) runs = absurd (done_is_over p.client.outcome a.done runs)

-- ---- the files that went out

snoc_text : (texts : List (List ℕ)) (x q : List ℕ) (k : ℕ) → slice_get (texts ++ x ∷ []) k ≡ Some q → (slice_get texts k ≡ Some q) ⊎ ((k ≡ length texts) × (q ≡ x))
snoc_text [] x q zero e = inr (refl, cc)
snoc_text [] x q (suc k) e = absurd (let wrong : None ≡ Some q = e in cc)
snoc_text (p ∷ texts) x q zero e = inl e
snoc_text (p ∷ texts) x q (suc k) e = next (snoc_text texts x q k e)
  where
    next : (slice_get texts k ≡ Some q) ⊎ ((k ≡ length texts) × (q ≡ x)) → (slice_get (p ∷ texts) (suc k) ≡ Some q) ⊎ ((suc k ≡ length (p ∷ texts)) × (q ≡ x))
    next (inl a) = inl a
    next (inr a) = inr (ap suc a.0, a.1)

-- a file that is laid by stands behind those before it
pub laid_files : (texts : List (List ℕ)) (text : List ℕ) (p : Endpoint) → p.finished < 16 → HasFilesOf texts text p → HasFilesOf (texts ++ text ∷ []) [] (laid_by p)
laid_files texts text p low h = subst (λ (q : Endpoint). HasFilesOf (texts ++ text ∷ []) [] q) (sym (laid_as p low)) (record {
  file = refl;
  count = (let more = length-append texts (text ∷ []) in omega (arith, h.count, more));
  room = length-set p.pages p.finished p.file ∙ h.room;
  each = λ k bytes at. by k bytes (snoc_text texts text bytes k at);
})
  where
    by : (k : ℕ) (bytes : List ℕ) → (slice_get texts k ≡ Some bytes) ⊎ ((k ≡ length texts) × (bytes ≡ text)) → slice_get (slice_set p.pages p.finished p.file) k ≡ Some (Some bytes)
    by k bytes (inl at) = set_beyond p.pages p.finished k p.file (let within = slice_get_within texts k bytes at in omega (arith, h.count, within)) ∙ h.each k bytes at
    by k bytes (inr last) =
        let there : slice_get (slice_set p.pages p.finished p.file) p.finished ≡ Some p.file = set_here p.pages p.finished p.file (omega (arith, h.room, low)) in
        ap (slice_get (slice_set p.pages p.finished p.file)) (last.0 ∙ sym h.count) ∙ there ∙ ap (λ (f : Option (List ℕ)). Some f) (h.file ∙ ap (λ (t : List ℕ). Some t) (sym last.1))

-- bytes more of the file under way
files_given : (texts : List (List ℕ)) (text given : List ℕ) (p : Endpoint) (c : ClientState) → HasFilesOf texts text p → HasFilesOf texts (text ++ given) (laid p c given)
files_given texts text given p c h = record { file = ap (more_of given) h.file; count = h.count; room = h.room; each = h.each }

pub files_filed : (turned : Bool) (texts : List (List ℕ)) (text given : List ℕ) (p : Endpoint) (c : ClientState) → (turned ≡ true → p.finished < 16) → HasFilesOf texts text p
    → HasFilesOf (if turned then texts ++ (text ++ given) ∷ [] else texts) (if turned then [] else text ++ given) (filed turned p c given)
files_filed true texts text given p c low h = laid_files texts (text ++ given) (laid p c given) (low refl) (files_given texts text given p c h)
files_filed false texts text given p c low h = files_given texts text given p c h

and_true : (a b : Bool) → (a && b) ≡ true → (a ≡ true) × (b ≡ true)
and_true true b e = (refl, e)
and_true false b e = absurd (let wrong : false ≡ true = e in cc)

last_by : (b : Bool) (texts : List (List ℕ)) (text : List ℕ) (p : Endpoint) → (is_done p.client.outcome && is_batch p.task) ≡ b → (is_done p.client.outcome ≡ true → is_batch p.task ≡ true → p.finished < 16) → HasFilesOf texts text p → FilesTrack texts text (if b then laid_by p else p)
last_by false texts text p e low h = UnderWay h
last_by true texts text p e low h =
    let both = and_true (is_done p.client.outcome) (is_batch p.task) e in
    let kept = laid_as_filed (nat_lt p.finished 16) p in
    AllFinished (ap is_batch kept.task ∙ both.1) (ap (λ (v : ClientState). is_done v.outcome) kept.client ∙ both.0) (laid_files texts text p (low both.0 both.1) h)

pub last_files : (texts : List (List ℕ)) (text : List ℕ) (p : Endpoint) → (is_done p.client.outcome ≡ true → is_batch p.task ≡ true → p.finished < 16) → HasFilesOf texts text p → FilesTrack texts text (with_last_page p)
last_files texts text p low h = last_by (is_done p.client.outcome && is_batch p.task) texts text p refl low h

-- a job that runs has its file under way
pub running_files : (texts : List (List ℕ)) (text : List ℕ) (p q : Endpoint) → KeepsFiles p q → is_running p.client.outcome ≡ true → FilesTrack texts text p → HasFilesOf texts text q
running_files texts text p q k runs (UnderWay h) = has_files texts text p q k h
running_files texts text p q k runs (AllFinished batch done h) = absurd (done_is_over p.client.outcome done runs)
