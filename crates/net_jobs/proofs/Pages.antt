-- The files of a job go out piece by piece, one page after another.
use Rattle.std.proofs.Common.{◌≡◌, ◌≢◌, ◌∙◌, ◌⊎◌, ℕ, ◌+◌, ◌<◌, ◌≤◌, ◌^◌, Bool, true, false, List, [], ◌∷◌, ◌++◌, None, length, take, drop, refl, sym, ap, subst, inl, inr, arith, length-append, append_assoc}
use Rattle.std.specs.Prelude.{◌&&◌}
use Rattle.std.proofs.lemmas.List.{append-nil, nil_from_length, take-append-drop, length-drop}
use Rattle.netpbm.specs.Picture.{Picture}
use Rattle.netpbm.specs.Pnm.{IsWhole}
use Rattle.netpbm.specs.NoFile.{HoldsNoFile}
use Rattle.page_picture.specs.Shows.{ShowsFrames}
use Rattle.frame_join.specs.FrameHistory.{JoinHistory, IsJoined, after_pull}
use Rattle.frame_join.specs.JoinStates.{JoinState, Represents}
use Rattle.scan_job.specs.Shelves.{ReturnedOutput}
use Rattle.scan_job.specs.declared.job.Task.{Task}
use Rattle.scan_job.specs.declared.job.Task.TheVariants as tasks
use Rattle.scan_job.specs.declared.outcome.Outcome.{Outcome}
use Rattle.scan_job.specs.declared.outcome.Outcome.TheVariants.{Running, Done, Ended}
use Rattle.client_replies.specs.declared.progress.Progress.{Progress}
use Rattle.client_replies.specs.declared.progress.Progress.TheVariants as stages
use Rattle.client_replies.specs.ProtocolStates.{HistoryFits, FitsDone, IsBetweenFrames, scans, is_running, is_ended, turns}
use Rattle.net_client.specs.ClientStates.{ClientState, ClientRepresents, TakesPage, Stays, Turns, TurnsPage}
use Rattle.net_client.proofs.Hearings.{calm_at}
use Rattle.net_jobs.specs.Inside.{EndsFile, HasTaken, HasTakenBack, OutputIsUnderWay, PageGoesOn, SinkState, TurnsOn, FallsShort}
use Rattle.scan_job.specs.FileOutputs.{returned_output}
use Rattle.net_jobs.proofs.NetDrains.{joined_calm, pulled_none, pulled_twice, join_only, not_ended, unmoved}
use Rattle.frame_join.specs.PictureText.{IsPictureFile}

-- ---- no fault stands in a job that scans and has not ended otherwise

done_calm : (past : JoinHistory) → IsJoined past ⊎ IsBetweenFrames past → past.fault ≡ None
done_calm past (inl joined) = joined_calm past.fault past.under past.ended joined
done_calm past (inr between) = between.0

calm_done : (task : Task) (past : JoinHistory) → scans task ≡ true → FitsDone task past → past.fault ≡ None
calm_done tasks.List past e f = absurd (let clash : false ≡ true = e in cc)
calm_done tasks.Show past e f = absurd (let clash : false ≡ true = e in cc)
calm_done tasks.SetOnly past e f = absurd (let clash : false ≡ true = e in cc)
calm_done tasks.Scan past e f = joined_calm past.fault past.under past.ended f
calm_done (tasks.Batch count) past e f = done_calm past f

calm_by : (task : Task) (outcome : Outcome) (progress : Progress) (past : JoinHistory) → scans task ≡ true → HistoryFits task outcome progress past → is_ended outcome ≡ false → past.fault ≡ None
calm_by task Running progress past s f e = calm_at progress past f.1
calm_by task (Done reports) progress past s f e = calm_done task past s f
calm_by task (Ended status why) progress past s f e = absurd (let clash : true ≡ false = e in cc)

pub calm : (v : ClientState) (past : JoinHistory) → scans v.target.task ≡ true → is_ended v.outcome ≡ false → ClientRepresents past v → past.fault ≡ None
calm v past scanning e s = calm_by v.target.task v.outcome v.progress past scanning s.fits e

-- ---- a job that waits for its page's file to be taken

pub turning_fits : (task : Task) (outcome : Outcome) (progress : Progress) (past : JoinHistory) → turns outcome progress ≡ true → HistoryFits task outcome progress past → IsJoined past × (IsWhole past.given → ⊥)
turning_fits task Running stages.Turning past e f = f.1
turning_fits task Running progress past e f = absurd (let clash : false ≡ true = e in cc)
turning_fits task (Done reports) progress past e f = absurd (let clash : false ≡ true = e in cc)
turning_fits task (Ended status why) progress past e f = absurd (let clash : false ≡ true = e in cc)

shut : (b : Bool) → (b && false) ≡ false
shut true = refl
shut false = refl

pub has_turned : (was now : ClientState) → TurnsPage was now → turns now.outcome now.progress ≡ false
has_turned was now t = ap (λ (v : ClientState). turns v.outcome v.progress) t.rest ∙ shut (is_running was.outcome)

-- ---- after so many pulls

pub record IsPulled (past : JoinHistory) (old : ClientState) (k : ℕ) (before : SinkState) (outputs : List ReturnedOutput) (bytes : List ℕ) (pulls : ℕ) (now : ClientState) (stock : SinkState) : Type 0 where
  pub serves : ClientRepresents (after_pull bytes past) now
  pub rest : now ≡ record old { join = now.join }
  pub under_way : OutputIsUnderWay before outputs stock k (past.given ++ bytes)
  pub some : pulls ≤ length bytes
  pub alive : 0 < pulls → is_ended old.outcome ≡ false

pub begun : (past : JoinHistory) (old : ClientState) (k : ℕ) (before : SinkState) (outputs : List ReturnedOutput) (stock : SinkState) → ClientRepresents past old → OutputIsUnderWay before outputs stock k past.given
    → IsPulled past old k before outputs [] 0 old stock
begun past old k before outputs stock serves under_way = record {
  serves = subst (λ (q : JoinHistory). ClientRepresents q old) (sym (pulled_none past)) serves;
  rest = refl;
  under_way = subst (λ (l : List ℕ). OutputIsUnderWay before outputs stock k l) (sym (append-nil past.given)) under_way;
  some = omega arith;
  alive = λ positive. absurd (omega (arith, positive));
}

-- what a pull makes of a client, as the contract of `take_file` tells it
pub record Pulls (was : ClientState) (piece : List ℕ) (n : ℕ) (now : ClientState) : Type 0 where
  pub carried : (q : JoinHistory) → ClientRepresents q was → turns was.outcome was.progress ≡ false → ClientRepresents (after_pull piece q) now
  pub ended : is_ended was.outcome ≡ true → (n ≡ 0) × (now ≡ was)
  pub same : is_ended was.outcome ≡ false → turns was.outcome was.progress ≡ false → now ≡ record was { join = now.join }
  pub page : turns was.outcome was.progress ≡ true → (q : JoinHistory) → ClientRepresents q was → TakesPage was q piece now
  pub size : length piece ≡ n

pulls_alive : (was now : ClientState) (piece : List ℕ) (n : ℕ) → Pulls was piece n now → n ≢ 0 → is_ended was.outcome ≡ false
pulls_alive was now piece n p some = not_ended (is_ended was.outcome) n some (λ e. (p.ended e).0)

some_piece : (had piece : List ℕ) (n : ℕ) → n ≢ 0 → length piece ≡ n → had ++ piece ≢ []
some_piece had piece n some size e = some (omega (arith, sym size, ap (λ (l : List ℕ). length l) e, length-append had piece))

-- one that turns no page
stays_by : (was now : ClientState) (q : JoinHistory) (piece : List ℕ) → (turns now.outcome now.progress ≡ true) → TakesPage was q piece now → ClientRepresents (after_pull piece q) now × (now ≡ record was { join = now.join })
stays_by was now q piece still (Stays not_whole rest serves) = (serves, rest)
stays_by was now q piece still (Turns whole denotes client serves) = absurd (let clash : true ≡ false = sym still ∙ has_turned was now client in cc)

goes_by : (turning : Bool) (was now : ClientState) (q : JoinHistory) (piece : List ℕ) (n : ℕ) → turns was.outcome was.progress ≡ turning → Pulls was piece n now → is_ended was.outcome ≡ false → (turns was.outcome was.progress ≡ true → turns now.outcome now.progress ≡ true)
    → ClientRepresents q was → ClientRepresents (after_pull piece q) now × (now ≡ record was { join = now.join })
goes_by true was now q piece n e p alive still serves = stays_by was now q piece (still e) (p.page e q serves)
goes_by false was now q piece n e p alive still serves = (p.carried q serves e, p.same alive e)

was_file : (old was : ClientState) (k file : ℕ) → file ≡ was.notes.file → was ≡ record old { join = was.join } → (is_ended old.outcome ≡ false → old.notes.file ≡ k) → is_ended was.outcome ≡ false → file ≡ k
was_file old was k file e rest number alive = e ∙ ap (λ (v : ClientState). v.notes.file) rest ∙ number (sym (ap (λ (v : ClientState). is_ended v.outcome) rest) ∙ alive)

-- what an output took of a piece under the number that the client tells
took_as : (k file : ℕ) (before : SinkState) (outputs : List ReturnedOutput) (was now : SinkState) (had piece : List ℕ) → file ≡ k
    → (HasTaken before outputs was file had → HasTaken before outputs now file (had ++ piece)) → HasTaken before outputs was k had → HasTaken before outputs now k (had ++ piece)
took_as k file before outputs was now had piece e took h =
    subst (λ (i : ℕ). HasTaken before outputs now i (had ++ piece)) e (took (subst (λ (i : ℕ). HasTaken before outputs was i had) (sym e) h))

pub one_more : (past : JoinHistory) (old was now : ClientState) (k i n file : ℕ) (before : SinkState) (outputs : List ReturnedOutput) (stock then_ : SinkState) (bytes piece : List ℕ) → n ≢ 0 → Pulls was piece n now
    → (turns was.outcome was.progress ≡ true → turns now.outcome now.progress ≡ true) → file ≡ was.notes.file → (is_ended old.outcome ≡ false → old.notes.file ≡ k)
    → ((had : List ℕ) → HasTaken before outputs stock file had → HasTaken before outputs then_ file (had ++ piece))
    → IsPulled past old k before outputs bytes i was stock → IsPulled past old k before outputs (bytes ++ piece) (i + 1) now then_
one_more past old was now k i n file before outputs stock then_ bytes piece some p still file_is number took u =
    let alive = pulls_alive was now piece n p some in
    let goes = goes_by (turns was.outcome was.progress) was now (after_pull bytes past) piece n refl p alive still u.serves in
    record {
      serves = subst (λ (q : JoinHistory). ClientRepresents q now) (pulled_twice past bytes piece) goes.0;
      rest = join_only old was now u.rest goes.1;
      under_way = subst (λ (l : List ℕ). OutputIsUnderWay before outputs then_ k l) (append_assoc past.given bytes piece) (record {
        taken = took_as k file before outputs stock then_ (past.given ++ bytes) piece (was_file old was k file file_is u.rest number alive) (took (past.given ++ bytes)) u.under_way.taken;
        asked = λ none. absurd (some_piece (past.given ++ bytes) piece n some p.size none);
      });
      some = omega (arith, length-append bytes piece, p.size, u.some, λ (e : n ≡ 0). some e);
      alive = λ positive. sym (ap (λ (v : ClientState). is_ended v.outcome) u.rest) ∙ alive;
    }

-- nothing more comes
dry_page : (was now : ClientState) (q : JoinHistory) (piece : List ℕ) → piece ≡ [] → (IsWhole q.given → ⊥) → TakesPage was q piece now → ClientRepresents (after_pull piece q) now × (now ≡ record was { join = now.join })
dry_page was now q piece none not_whole (Stays part rest serves) = (serves, rest)
dry_page was now q piece none not_whole (Turns whole denotes client serves) = absurd (not_whole (subst (λ (l : List ℕ). IsWhole l) (ap (λ (l : List ℕ). q.given ++ l) none ∙ append-nil q.given) whole))

dry_by : (turning : Bool) (was now : ClientState) (q : JoinHistory) (piece : List ℕ) (n : ℕ) → turns was.outcome was.progress ≡ turning → piece ≡ [] → Pulls was piece n now → ClientRepresents q was
    → ClientRepresents (after_pull piece q) now × (now ≡ record was { join = now.join })
dry_by true was now q piece n e none p serves = dry_page was now q piece none (turning_fits was.target.task was.outcome was.progress q e serves.fits).1 (p.page e q serves)
dry_by false was now q piece n e none p serves = (p.carried q serves e, unmoved (is_ended was.outcome) was now refl (λ x. (p.ended x).1) (λ x. p.same x e))

pub at_end : (past : JoinHistory) (old was now : ClientState) (k i n : ℕ) (before : SinkState) (outputs : List ReturnedOutput) (stock : SinkState) (bytes piece : List ℕ) → piece ≡ [] → Pulls was piece n now
    → ((q : JoinHistory) → ClientRepresents q was → is_ended was.outcome ≡ false → IsJoined q → (p : Picture) → ShowsFrames q.ended p → IsPictureFile q.given p)
    → IsPulled past old k before outputs bytes i was stock → PageGoesOn past old k before outputs bytes now stock
at_end past old was now k i n before outputs stock bytes piece none p denotes u =
    let goes = dry_by (turns was.outcome was.progress) was now (after_pull bytes past) piece n refl none p u.serves in
    record {
      serves = subst (λ (q : JoinHistory). ClientRepresents q now) (ap (λ (l : List ℕ). after_pull l (after_pull bytes past)) none ∙ pulled_none (after_pull bytes past)) goes.0;
      rest = join_only old was now u.rest goes.1;
      under_way = u.under_way;
      denotes = λ e joined p shows. denotes (after_pull bytes past) u.serves (ap (λ (v : ClientState). is_ended v.outcome) u.rest ∙ e) joined p shows;
    }

-- ---- the last bytes of a page

turned_by : (past : JoinHistory) (old was now : ClientState) (k n : ℕ) (before : SinkState) (outputs : List ReturnedOutput) (stock then_ : SinkState) (kept : Bool) (bytes piece : List ℕ) → was ≡ record old { join = was.join }
    → turns was.outcome was.progress ≡ true → turns now.outcome now.progress ≡ false → HasTaken before outputs stock k ((past.given ++ bytes) ++ piece) → (past.given ++ bytes) ++ piece ≢ [] → EndsFile stock kept then_
    → TakesPage was (after_pull bytes past) piece now → TurnsOn past old k before outputs (bytes ++ piece) kept now then_
turned_by past old was now k n before outputs stock then_ kept bytes piece rest turning turned taken some back (Stays not_whole same serves) =
    absurd (let clash : true ≡ false = sym (ap (λ (v : ClientState). turns v.outcome v.progress) same ∙ turning) ∙ turned in cc)
turned_by past old was now k n before outputs stock then_ kept bytes piece rest turning turned taken some back (Turns whole denotes client serves) =
    let text : (past.given ++ bytes) ++ piece ≡ past.given ++ (bytes ++ piece) = append_assoc past.given bytes piece in
    let ends = back before outputs k ((past.given ++ bytes) ++ piece) some taken in
    record {
      turning = sym (ap (λ (v : ClientState). turns v.outcome v.progress) rest) ∙ turning;
      whole = subst (λ (l : List ℕ). IsWhole l) text whole;
      denotes = λ p shows. subst (λ (l : List ℕ). IsPictureFile l p) text (denotes p shows);
      join = was.join;
      client = subst (λ (v : ClientState). TurnsPage v now) rest client;
      serves = serves;
      taken = subst (λ (l : List ℕ). HasTakenBack before (outputs ++ returned_output k l kept ∷ []) then_) text ends.0;
      none = ends.1;
    }

pub turned : (past : JoinHistory) (old was now : ClientState) (k i n file : ℕ) (before : SinkState) (outputs : List ReturnedOutput) (first stock then_ : SinkState) (kept : Bool) (bytes piece : List ℕ) → n ≢ 0 → Pulls was piece n now
    → turns was.outcome was.progress ≡ true → turns now.outcome now.progress ≡ false → file ≡ was.notes.file → (is_ended old.outcome ≡ false → old.notes.file ≡ k)
    → ((had : List ℕ) → HasTaken before outputs first file had → HasTaken before outputs stock file (had ++ piece)) → EndsFile stock kept then_
    → IsPulled past old k before outputs bytes i was first → TurnsOn past old k before outputs (bytes ++ piece) kept now then_
turned past old was now k i n file before outputs first stock then_ kept bytes piece some p turning has file_is number took back u =
    let alive = pulls_alive was now piece n p some in
    let taken = took_as k file before outputs first stock (past.given ++ bytes) piece (was_file old was k file file_is u.rest number alive) (took (past.given ++ bytes)) u.under_way.taken in
    turned_by past old was now k n before outputs stock then_ kept bytes piece u.rest turning has taken (some_piece (past.given ++ bytes) piece n some p.size) back (p.page turning (after_pull bytes past) u.serves)

-- ---- an output that did not take all bytes

-- what is left to give of a file is more than nothing, so no front of it is whole
abbrev pub NoFrontIsWhole : Type 0
NoFrontIsWhole = (q : JoinHistory) (join : JoinState) (front more : List ℕ) → Represents q join → q.fault ≡ None → q.given ≡ front ++ more → more ≢ [] → HoldsNoFile front

abbrev pub NoWholePrefix : Type 0
NoWholePrefix = (front more : List ℕ) → IsWhole front → IsWhole (front ++ more) → more ≡ []

cut_at : (given piece : List ℕ) (m : ℕ) → given ++ piece ≡ (given ++ take m piece) ++ drop m piece
cut_at given piece m = ap (λ (l : List ℕ). given ++ l) (sym (take-append-drop m piece)) ∙ sym (append_assoc given (take m piece) (drop m piece))

some_dropped : (piece : List ℕ) (m : ℕ) → m < length piece → drop m piece ≢ []
some_dropped piece m less e = omega (arith, ap (λ (l : List ℕ). length l) e, length-drop m piece, less)

-- behind nothing stands nothing
behind_nothing : (front more : List ℕ) → front ++ more ≡ [] → more ≡ []
behind_nothing front more e = nil_from_length more (omega (arith, length-append front more, ap (λ (l : List ℕ). length l) e))

short_by : (now : ClientState) (q : JoinHistory) (piece : List ℕ) (m : ℕ) → NoFrontIsWhole
    → q.fault ≡ None → m < length piece → ClientRepresents (after_pull piece q) now → HoldsNoFile (q.given ++ take m piece)
short_by now q piece m law calm less serves = law (after_pull piece q) now.join (q.given ++ take m piece) (drop m piece) serves.stands calm (cut_at q.given piece m) (some_dropped piece m less)

short_page : (was now : ClientState) (q : JoinHistory) (piece : List ℕ) (m : ℕ) → NoFrontIsWhole → NoWholePrefix
    → q.fault ≡ None → m < length piece → TakesPage was q piece now → HoldsNoFile (q.given ++ take m piece)
short_page was now q piece m law prefix calm less (Stays not_whole rest serves) = short_by now q piece m law calm less serves
short_page was now q piece m law prefix calm less (Turns whole denotes client serves) = λ n w.
    let front = q.given ++ take m piece in
    let cut : q.given ++ piece ≡ take n front ++ (drop n front ++ drop m piece) =
    cut_at q.given piece m ∙ (ap (λ (l : List ℕ). l ++ drop m piece) (sym (take-append-drop n front)) ∙ append_assoc (take n front) (drop n front) (drop m piece)) in
    let none : drop n front ++ drop m piece ≡ [] = prefix (take n front) (drop n front ++ drop m piece) w (subst (λ (l : List ℕ). IsWhole l) cut whole) in
    some_dropped piece m less (behind_nothing (drop n front) (drop m piece) none)

short_at : (turning : Bool) (was now : ClientState) (q : JoinHistory) (piece : List ℕ) (n m : ℕ) → turns was.outcome was.progress ≡ turning
    → NoFrontIsWhole → NoWholePrefix
    → q.fault ≡ None → m < length piece → Pulls was piece n now → ClientRepresents q was → HoldsNoFile (q.given ++ take m piece)
short_at true was now q piece n m e law prefix calm less p serves = short_page was now q piece m law prefix calm less (p.page e q serves)
short_at false was now q piece n m e law prefix calm less p serves = short_by now q piece m law calm less (p.carried q serves e)

pub stopped : (past : JoinHistory) (old was now : ClientState) (k i n file : ℕ) (before : SinkState) (outputs : List ReturnedOutput) (stock then_ : SinkState) (bytes piece : List ℕ) → n ≢ 0 → Pulls was piece n now
    → NoFrontIsWhole → NoWholePrefix
    → scans old.target.task ≡ true → file ≡ was.notes.file → (is_ended old.outcome ≡ false → old.notes.file ≡ k)
    → ((had : List ℕ) → HasTaken before outputs stock file had → (m : ℕ) × (m < length piece) × HasTaken before outputs then_ file (had ++ take m piece))
    → IsPulled past old k before outputs bytes i was stock → FallsShort past.given k before outputs then_
stopped past old was now k i n file before outputs stock then_ bytes piece some p law prefix scanning file_is number took u =
    let alive = pulls_alive was now piece n p some in
    let number_is = was_file old was k file file_is u.rest number alive in
    let q = after_pull bytes past in
    let short = took (past.given ++ bytes) (subst (λ (j : ℕ). HasTaken before outputs stock j (past.given ++ bytes)) (sym number_is) u.under_way.taken) in
    let calm = calm was q (ap (λ (v : ClientState). scans v.target.task) u.rest ∙ scanning) alive u.serves in
    let text : (past.given ++ bytes) ++ take short.0 piece ≡ past.given ++ (bytes ++ take short.0 piece) = append_assoc past.given bytes (take short.0 piece) in
    record {
      behind = bytes ++ take short.0 piece;
      taken = subst (λ (l : List ℕ). HasTaken before outputs then_ k l) text (subst (λ (j : ℕ). HasTaken before outputs then_ j ((past.given ++ bytes) ++ take short.0 piece)) number_is short.2);
      none = subst HoldsNoFile text (short_at (turns was.outcome was.progress) was now q piece n short.0 refl law prefix calm short.1 p u.serves);
    }

pub never : (past : JoinHistory) (old now : ClientState) (k i : ℕ) (before : SinkState) (outputs : List ReturnedOutput) (stock : SinkState) (bytes : List ℕ) → scans old.target.task ≡ true → 2 ^ 40 ≤ i
    → ((q : JoinHistory) (join : JoinState) → Represents q join → q.fault ≡ None → length q.given < 2 ^ 40) → IsPulled past old k before outputs bytes i now stock → ⊥
never past old now k i before outputs stock bytes scanning many law u =
    let no_fault : past.fault ≡ None = calm now (after_pull bytes past) (ap (λ (v : ClientState). scans v.target.task) u.rest ∙ scanning) (ap (λ (v : ClientState). is_ended v.outcome) u.rest ∙ u.alive (omega (arith, many))) u.serves in
    omega (arith, law (after_pull bytes past) now.join u.serves.stands no_fault, length-append past.given bytes, u.some, many)
