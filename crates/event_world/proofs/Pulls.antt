-- A file is laid down pull by pull.
use Rattle.std.proofs.Common.{◌≡◌, ◌≢◌, ◌∙◌, ℕ, zero, suc, inl, inr, ◌⊎◌, ◌+◌, ◌<◌, Ok, Err, Bool, true, false, List, [], ◌∷◌, ◌++◌, Option, Some, None, option_map, length, slice_get, slice_set, nat_lt, if◌then◌else◌, refl, sym, ap, subst, arith, length-append}
use Rattle.std.proofs.lemmas.List.{append-nil, length-set}
use Rattle.std.proofs.lemmas.Option.{slice_get_within}
use Rattle.netpbm.specs.Picture.{Picture}
use Rattle.page_picture.specs.Shows.{ShowsFrames, Frame}
use Rattle.frame_join.specs.declared.join_stage.JoinFault.{JoinFault}
use Rattle.frame_join.specs.FrameHistory.{JoinHistory, IsJoined, empty_history, after_pull, answer_by}
use Rattle.frame_join.specs.JoinStates.{JoinState, Represents}
use Rattle.scan_job.specs.declared.job.Task.{Task}
use Rattle.scan_job.specs.declared.job.Task.TheVariants as tasks
use Rattle.scan_job.specs.declared.outcome.Outcome.{Outcome}
use Rattle.scan_job.specs.declared.outcome.Outcome.TheVariants.{Running, Done, Ended}
use Rattle.client_replies.specs.declared.progress.JobTarget.{JobTarget}
use Rattle.client_replies.specs.declared.progress.Progress.{Progress}
use Rattle.client_replies.specs.declared.progress.Progress.TheVariants as stages
use Rattle.client_replies.specs.ProtocolStates.{HistoryFits, is_ended, scans, turns}
use Rattle.net_client.specs.ClientStates.{ClientState, ClientRepresents, TakesPage, Stays, Turns, TurnsPage}
use Rattle.net_client.proofs.Hearings.{calm_at}
use Rattle.event_world.specs.declared.endpoint.Endpoint.{Endpoint}
use Rattle.event_world.specs.Endpoints.{IsKept, laid_by}
use Rattle.event_world.specs.FileDraining.{KeepsFile, HasFiles, HoldsHistory, IsGiven, IsLaid, TurnsTo, RunsDry}
use Rattle.netpbm.specs.Pnm.{Denotes}
use Rattle.frame_join.specs.PictureText.{IsPictureFile}

-- ---- no fault stands in a scan that has not ended otherwise

joined_calm : (fault : Option JoinFault) (under : Option Frame) (ended : List Frame) → answer_by fault under ended ≡ Ok true → fault ≡ None
joined_calm (Some f) under ended e = absurd (let clash : Err f ≡ Ok true = e in cc)
joined_calm None under ended e = refl

pub calm_by : (task : Task) (outcome : Outcome) (progress : Progress) (past : JoinHistory) → scans task ≡ true → HistoryFits task outcome progress past → is_ended outcome ≡ false → past.fault ≡ None
calm_by task Running progress past s f e = calm_at progress past f.1
calm_by tasks.Scan (Done reports) progress past s f e = joined_calm past.fault past.under past.ended f
calm_by (tasks.Batch count) (Done reports) progress past s (inl f) e = joined_calm past.fault past.under past.ended f
calm_by (tasks.Batch count) (Done reports) progress past s (inr f) e = f.0
calm_by tasks.List (Done reports) progress past s f e = absurd (let clash : false ≡ true = s in cc)
calm_by tasks.Show (Done reports) progress past s f e = absurd (let clash : false ≡ true = s in cc)
calm_by tasks.SetOnly (Done reports) progress past s f e = absurd (let clash : false ≡ true = s in cc)
calm_by task (Ended status why) progress past s f e = absurd (let clash : true ≡ false = e in cc)

-- ---- what an endpoint keeps

more_starved : (was now : Bool) (given : List ℕ) (file : Option (List ℕ)) → (was ≡ true → now ≡ true) → KeepsFile was given file → KeepsFile now given file
more_starved was now given None up k = up k
more_starved was now given (Some file) up k = k

-- the file under way, once bytes came to it
file_grown : (starved : Bool) (bytes given : List ℕ) (file : Option (List ℕ)) → KeepsFile starved given file → KeepsFile starved (given ++ bytes) (option_map (λ f. f ++ bytes) file)
file_grown starved bytes given None k = k
file_grown starved bytes given (Some file) k = ap (λ (l : List ℕ). l ++ bytes) k

kept_file : (b : Bool) (bytes given : List ℕ) (old new : Endpoint) → IsKept b bytes old new → KeepsFile old.out_of_memory given old.file → KeepsFile new.out_of_memory (given ++ bytes) new.file
kept_file true bytes given old new e k = subst (λ (p : Endpoint). KeepsFile p.out_of_memory (given ++ bytes) p.file) (sym e) (file_grown old.out_of_memory bytes given old.file k)
kept_file false bytes given old new e k = subst (λ (p : Endpoint). KeepsFile p.out_of_memory (given ++ bytes) p.file) (sym e) refl

pub kept_starved : (b : Bool) (bytes : List ℕ) (old new : Endpoint) → IsKept b bytes old new → old.out_of_memory ≡ true → new.out_of_memory ≡ true
kept_starved true bytes old new e s = ap (λ (p : Endpoint). p.out_of_memory) e ∙ s
kept_starved false bytes old new e s = ap (λ (p : Endpoint). p.out_of_memory) e

-- the rest of it stays
kept_rest : (b : Bool) (bytes : List ℕ) (old new : Endpoint) → IsKept b bytes old new → new ≡ record old { file = new.file; out_of_memory = new.out_of_memory }
kept_rest true bytes old new e = subst (λ (p : Endpoint). p ≡ record old { file = p.file; out_of_memory = p.out_of_memory }) (sym e) refl
kept_rest false bytes old new e = subst (λ (p : Endpoint). p ≡ record old { file = p.file; out_of_memory = p.out_of_memory }) (sym e) refl

files_more : (b : Bool) (pages : List JoinHistory) (bytes given : List ℕ) (old new : Endpoint) → IsKept b bytes old new → HasFiles given pages old → HasFiles (given ++ bytes) pages new
files_more b pages bytes given old new kept h =
    let rest = kept_rest b bytes old new kept in
    record {
      file = kept_file b bytes given old new kept h.file;
      each = λ k q at. let f = h.each k q at in (f.0, ap (λ (p : Endpoint). slice_get p.pages k) rest ∙ f.1, more_starved old.out_of_memory new.out_of_memory q.given f.0 (kept_starved b bytes old new kept) f.2);
      count = ap (λ (p : Endpoint). p.finished) rest ∙ h.count;
      room = ap (λ (p : Endpoint). length p.pages) rest ∙ h.room;
    }

kept_client : (b : Bool) (bytes : List ℕ) (old new : Endpoint) (c : ClientState) → IsKept b bytes (record old { client = c }) new → new.client ≡ c
kept_client b bytes old new c kept = ap (λ (p : Endpoint). p.client) (kept_rest b bytes (record old { client = c }) new kept)

task_kept : (b : Bool) (bytes : List ℕ) (old new : Endpoint) (c : ClientState) → IsKept b bytes (record old { client = c }) new → c.target ≡ old.client.target → old.task ≡ old.client.target.task → new.task ≡ new.client.target.task
task_kept b bytes old new c kept target task =
    ap (λ (p : Endpoint). p.task) (kept_rest b bytes (record old { client = c }) new kept) ∙ task ∙ sym (ap (λ (e : JobTarget). e.task) target) ∙ sym (ap (λ (v : ClientState). v.target.task) (kept_client b bytes old new c kept))

-- a client, and bytes of its file that were laid down
pub holds_more : (b : Bool) (past : JoinHistory) (pages : List JoinHistory) (bytes : List ℕ) (old new : Endpoint) (c : ClientState) → IsKept b bytes (record old { client = c }) new → c.target ≡ old.client.target → ClientRepresents (after_pull bytes past) c → HoldsHistory past pages old → HoldsHistory (after_pull bytes past) pages new
holds_more b past pages bytes old new c kept target serves h = record {
  task = task_kept b bytes old new c kept target h.task;
  serves = subst (λ (v : ClientState). ClientRepresents (after_pull bytes past) v) (sym (kept_client b bytes old new c kept)) serves;
  files = files_more b pages bytes past.given (record old { client = c }) new kept (record { file = h.files.file; each = h.files.each; count = h.files.count; room = h.files.room });
}

pub given_more : (b : Bool) (bytes : List ℕ) (old new : Endpoint) (c : ClientState) → IsKept b bytes (record old { client = c }) new → c ≡ record old.client { join = c.join } → IsGiven old new
given_more b bytes old new c kept same =
    let rest = kept_rest b bytes (record old { client = c }) new kept in
    let client : new.client ≡ c = ap (λ (p : Endpoint). p.client) rest in
    record {
      client = client ∙ same ∙ ap (λ (v : ClientState). record old.client { join = v.join }) (sym client);
      rest = rest ∙ ap (λ (v : ClientState). record old { client = v; file = new.file; out_of_memory = new.out_of_memory }) (sym client);
    }

-- ---- a finished page's file is laid by

snoc_suc : (pages : List JoinHistory) (p x q : JoinHistory) (k : ℕ) → ((slice_get pages k ≡ Some q) ⊎ ((k ≡ length pages) × (q ≡ x))) → ((slice_get (p ∷ pages) (suc k) ≡ Some q) ⊎ ((suc k ≡ length (p ∷ pages)) × (q ≡ x)))
snoc_suc pages p x q k (inl e) = inl e
snoc_suc pages p x q k (inr e) = inr (ap suc e.0, e.1)

pub snoc_at : (pages : List JoinHistory) (x q : JoinHistory) (k : ℕ) → slice_get (pages ++ x ∷ []) k ≡ Some q → ((slice_get pages k ≡ Some q) ⊎ ((k ≡ length pages) × (q ≡ x)))
snoc_at [] x q zero e = inr (refl, cc)
snoc_at [] x q (suc k) e = absurd (let clash : None ≡ Some q = e in cc)
snoc_at (p ∷ pages) x q zero e = inl e
snoc_at (p ∷ pages) x q (suc k) e = snoc_suc pages p x q k (snoc_at pages x q k e)

pub set_beyond : (xs : List (Option (List ℕ))) (n k : ℕ) (a : Option (List ℕ)) → k < n → slice_get (slice_set xs n a) k ≡ slice_get xs k
set_beyond [] n k a h = refl
set_beyond (x ∷ xs) zero k a h = absurd (omega (arith, h))
set_beyond (x ∷ xs) (suc n) zero a h = refl
set_beyond (x ∷ xs) (suc n) (suc k) a h = set_beyond xs n k a (omega (arith, h))

pub set_here : (xs : List (Option (List ℕ))) (n : ℕ) (a : Option (List ℕ)) → n < length xs → slice_get (slice_set xs n a) n ≡ Some a
set_here [] n a h = absurd (omega (arith, h))
set_here (x ∷ xs) zero a h = refl
set_here (x ∷ xs) (suc n) a h = set_here xs n a (omega (arith, h))

-- the endpoint behind it
abbrev with_page : Endpoint → Endpoint
with_page p = record p { file = Some []; pages = slice_set p.pages p.finished p.file; finished = p.finished + 1 }

laid_within : (b : Bool) (p : Endpoint) → b ≡ true → (if b then with_page p else record p { file = Some [] }) ≡ with_page p
laid_within true p e = refl
laid_within false p e = absurd (let clash : false ≡ true = e in cc)

pub laid_as : (p : Endpoint) → p.finished < 16 → laid_by p ≡ with_page p
laid_as p h = laid_within (nat_lt p.finished 16) p (grind (arith, h))

each_laid : (pages : List JoinHistory) (q x : JoinHistory) (p : Endpoint) (k : ℕ) → p.finished ≡ length pages → length p.pages ≡ 16 → length pages < 16 → KeepsFile p.out_of_memory x.given p.file
    → ((j : ℕ) (r : JoinHistory) → slice_get pages j ≡ Some r → (file : Option (List ℕ)) × (slice_get p.pages j ≡ Some file) × KeepsFile p.out_of_memory r.given file)
    → ((slice_get pages k ≡ Some q) ⊎ ((k ≡ length pages) × (q ≡ x))) → (file : Option (List ℕ)) × (slice_get (slice_set p.pages p.finished p.file) k ≡ Some file) × KeepsFile p.out_of_memory q.given file
each_laid pages q x p k count room less file each (inl at) =
    let f = each k q at in
    (f.0, set_beyond p.pages p.finished k p.file (omega (arith, count, slice_get_within pages k q at)) ∙ f.1, f.2)
each_laid pages q x p k count room less file each (inr e) =
    (p.file, subst (λ (n : ℕ). slice_get (slice_set p.pages p.finished p.file) n ≡ Some p.file) (count ∙ sym e.0) (set_here p.pages p.finished p.file (omega (arith, count, room, less))), subst (λ (r : JoinHistory). KeepsFile p.out_of_memory r.given p.file) (sym e.1) file)

pub files_laid : (x : JoinHistory) (pages : List JoinHistory) (p : Endpoint) → length pages < 16 → HasFiles x.given pages p → HasFiles [] (pages ++ x ∷ []) (laid_by p)
files_laid x pages p less h =
    subst (λ (q : Endpoint). HasFiles [] (pages ++ x ∷ []) q) (sym (laid_as p (omega (arith, h.count, less))))
    (record {
      file = refl;
      each = λ k q at. each_laid pages q x p k h.count h.room less h.file h.each (snoc_at pages x q k at);
      count = omega (arith, h.count, length-append pages (x ∷ []));
      room = length-set p.pages p.finished p.file ∙ h.room;
    })

laid_client : (p : Endpoint) → length p.pages ≡ 16 → p.finished < 16 → (laid_by p).client ≡ p.client
laid_client p room h = ap (λ (q : Endpoint). q.client) (laid_as p h)

-- ---- what comes of a pull

pub unmoved : (b : Bool) (was now : ClientState) → (b ≡ true → now ≡ was) → (b ≡ false → now ≡ record was { join = now.join }) → now ≡ record was { join = now.join }
unmoved true was now stopped same = stopped refl ∙ ap (λ (j : JoinState). record was { join = j }) (sym (ap (λ (v : ClientState). v.join) (stopped refl)))
unmoved false was now stopped same = same refl

pub not_ended : (b : Bool) (n : ℕ) → n ≢ 0 → (b ≡ true → n ≡ 0) → b ≡ false
not_ended true n some none = absurd (some (none refl))
not_ended false n some none = refl

pub errand_kept : (was now : ClientState) → now ≡ record was { join = now.join } → now.target ≡ was.target
errand_kept was now e = ap (λ (v : ClientState). v.target) e

pub dry : (b : Bool) (past : JoinHistory) (pages : List JoinHistory) (bytes : List ℕ) (old new : Endpoint) (c : ClientState) → bytes ≡ [] → IsKept b bytes (record old { client = c }) new → c ≡ record old.client { join = c.join } → ClientRepresents (after_pull bytes past) c
    → turns old.client.outcome old.client.progress ≡ false
    → (is_ended old.client.outcome ≡ false → IsJoined past → (p : Picture) → ShowsFrames past.ended p → IsPictureFile past.given p) → HoldsHistory past pages old → RunsDry past pages old new
dry b past pages bytes old new c none kept same serves still denotes h = record {
  bytes = bytes;
  still = still;
  holds = holds_more b past pages bytes old new c kept (errand_kept old.client c same) serves h;
  given = given_more b bytes old new c kept same;
  denotes = λ alive joined p shows. subst (λ (l : List ℕ). IsPictureFile l p) (sym (append-nil past.given) ∙ ap (λ (l : List ℕ). past.given ++ l) (sym none)) (denotes alive joined p shows);
}

-- ---- the page of a batch

abbrev IsStill : ClientState → Type 0
IsStill v = turns v.outcome v.progress ≡ true

still_same : (was now : ClientState) → now ≡ record was { join = now.join } → IsStill was → IsStill now
still_same was now e t = ap (λ (v : ClientState). turns v.outcome v.progress) e ∙ t

no_still : (a b : Bool) → a ≡ true → a ≡ false → ⊥
no_still true b t f = let clash : true ≡ false = f in cc
no_still false b t f = let clash : false ≡ true = t in cc

-- behind the last byte of a page the client waits for START's reply
turned_off : (was now : ClientState) → TurnsPage was now → turns now.outcome now.progress ≡ false
turned_off was now t = ap (λ (v : ClientState). turns v.outcome v.progress) t.rest ∙ starts was.outcome
  where
    starts : (outcome : Outcome) → turns outcome (stages.Starting true) ≡ false
    starts Running = refl
    starts (Done reports) = refl
    starts (Ended status why) = refl

turns_alive : (outcome : Outcome) (progress : Progress) → turns outcome progress ≡ true → is_ended outcome ≡ false
turns_alive Running progress t = refl
turns_alive (Done reports) progress t = refl
turns_alive (Ended status why) progress t = absurd (let clash : false ≡ true = t in cc)

turns_joined : (task : Task) (outcome : Outcome) (progress : Progress) (past : JoinHistory) → turns outcome progress ≡ true → HistoryFits task outcome progress past → IsJoined past
turns_joined task Running stages.Turning past t f = f.1.0
turns_joined task Running progress past t f = absurd (let clash : false ≡ true = t in cc)
turns_joined task (Done reports) progress past t f = absurd (let clash : false ≡ true = t in cc)
turns_joined task (Ended status why) progress past t f = absurd (let clash : false ≡ true = t in cc)

pub page_turns : (b : Bool) (past : JoinHistory) (pages : List JoinHistory) (bytes : List ℕ) (old new : Endpoint) (c : ClientState) → TakesPage old.client past bytes c → IsKept b bytes (record old { client = c }) new → turns new.client.outcome new.client.progress ≡ false
    → IsStill old.client → length pages < 16 → HoldsHistory past pages old → TurnsTo past pages old (laid_by new)
page_turns b past pages bytes old new c (Stays short same serves) kept off on less h =
    let still : IsStill new.client = subst IsStill (sym (kept_client b bytes old new c kept)) (still_same old.client c same on) in
    absurd (no_still (turns new.client.outcome new.client.progress) true still off)
page_turns b past pages bytes old new c (Turns whole shows turned serves) kept off on less h =
    let files = files_more b pages bytes past.given (record old { client = c }) new kept (record { file = h.files.file; each = h.files.each; count = h.files.count; room = h.files.room }) in
    let within : new.finished < 16 = omega (arith, files.count, less) in
    let client : (laid_by new).client ≡ c = laid_client new files.room within ∙ kept_client b bytes old new c kept in
    let target : c.target ≡ old.client.target = ap (λ (v : ClientState). v.target) turned.rest in
    record {
      turned = on;
      bytes = bytes;
      whole = whole;
      denotes = shows;
      join = old.client.join;
      client = subst (λ (v : ClientState). TurnsPage old.client v) (sym client) turned;
      holds = record {
        task = ap (λ (p : Endpoint). p.task) (laid_as new within) ∙ task_kept b bytes old new c kept target h.task ∙ sym (ap (λ (p : Endpoint). p.client.target.task) (laid_as new within));
        serves = subst (λ (v : ClientState). ClientRepresents empty_history v) (sym client) serves;
        files = files_laid (after_pull bytes past) pages new less files;
      };
      rest = subst (λ (q : Endpoint). q ≡ record old { client = q.client; file = q.file; pages = q.pages; finished = q.finished; out_of_memory = q.out_of_memory }) (sym (laid_as new within))
          (ap (λ (q : Endpoint). record q { file = Some []; pages = slice_set new.pages new.finished new.file; finished = new.finished + 1 })
          (kept_rest b bytes (record old { client = c }) new kept ∙ ap (λ (v : ClientState). record old { client = v; file = new.file; out_of_memory = new.out_of_memory }) (sym (kept_client b bytes old new c kept))));
    }

-- a page that is whole is not dry
pub page_dry : (b : Bool) (past : JoinHistory) (bytes : List ℕ) (old new : Endpoint) (c : ClientState) → TakesPage old.client past bytes c → IsKept b bytes (record old { client = c }) new → IsStill new.client → IsStill old.client → bytes ≡ []
    → ((q : JoinHistory) (join : JoinState) → Represents q join → IsJoined q → (p : Picture) × ShowsFrames q.ended p) → ((p : Picture) → IsJoined past → is_ended old.client.outcome ≡ false → ShowsFrames past.ended p → IsPictureFile past.given p) → ClientRepresents past old.client → ⊥
page_dry b past bytes old new c (Stays short same serves) kept still on none law denotes at =
    let joined = turns_joined old.client.target.task old.client.outcome old.client.progress past on at.fits in
    let shown = law past old.client.join at.stands joined in
    let text : IsPictureFile past.given shown.0 = denotes shown.0 joined (turns_alive old.client.outcome old.client.progress on) shown.1 in
    short (shown.0, subst (λ (l : List ℕ). Denotes l shown.0) (sym (append-nil past.given) ∙ ap (λ (l : List ℕ). past.given ++ l) (sym none)) text.denotes)
page_dry b past bytes old new c (Turns whole shows turned serves) kept still on none law denotes at =
    no_still (turns new.client.outcome new.client.progress) true still (ap (λ (v : ClientState). turns v.outcome v.progress) (kept_client b bytes old new c kept) ∙ turned_off old.client c turned)

-- some bytes of it
pub page_more : (b : Bool) (past : JoinHistory) (pages : List JoinHistory) (bytes : List ℕ) (old new : Endpoint) (c : ClientState) → TakesPage old.client past bytes c → IsKept b bytes (record old { client = c }) new → IsStill new.client → IsStill old.client → HoldsHistory past pages old
    → HoldsHistory (after_pull bytes past) pages new × IsGiven old new
page_more b past pages bytes old new c (Stays short same serves) kept still on h = (holds_more b past pages bytes old new c kept (errand_kept old.client c same) serves h, given_more b bytes old new c kept same)
page_more b past pages bytes old new c (Turns whole shows turned serves) kept still on h =
    absurd (no_still (turns new.client.outcome new.client.progress) true still (ap (λ (v : ClientState). turns v.outcome v.progress) (kept_client b bytes old new c kept) ∙ turned_off old.client c turned))

pub still_alive : (v : ClientState) → IsStill v → is_ended v.outcome ≡ false
still_alive v t = turns_alive v.outcome v.progress t

-- ---- what else of the endpoint changes

pub laid_kept : (b : Bool) (bytes : List ℕ) (old new : Endpoint) (c : ClientState) → IsKept b bytes (record old { client = c }) new → IsLaid old new
laid_kept b bytes old new c kept = subst (λ (p : Endpoint). IsLaid old p) (sym (kept_rest b bytes (record old { client = c }) new kept)) refl

laid_either : (b : Bool) (p : Endpoint) → IsLaid p (if b then with_page p else record p { file = Some [] })
laid_either true p = refl
laid_either false p = refl

pub laid_always : (p : Endpoint) → IsLaid p (laid_by p)
laid_always p = laid_either (nat_lt p.finished 16) p

starved_either : (b : Bool) (p : Endpoint) → (if b then with_page p else record p { file = Some [] }).out_of_memory ≡ p.out_of_memory
starved_either true p = refl
starved_either false p = refl

pub laid_starved : (p : Endpoint) → (laid_by p).out_of_memory ≡ p.out_of_memory
laid_starved p = starved_either (nat_lt p.finished 16) p

pub laid_then : (a b c : Endpoint) → IsLaid a b → IsLaid b c → IsLaid a c
laid_then a b c x y = y ∙ ap (λ (p : Endpoint). record p { client = c.client; file = c.file; pages = c.pages; finished = c.finished; out_of_memory = c.out_of_memory }) x
