-- What each call promises, and what all of them do.
use Rattle.std.specs.Prelude.{◌^◌, cond, if◌then◌else◌, ◌<◌, ◌≤◌, ◌≢◌, All, IfSome, IsSome, min, map, option_map, option_and_then, slice_get}
use Rattle.std.proofs.Common.{arith, ◌≡◌, ◌∙◌, ℕ, zero, suc, List, [], ◌∷◌, Option, Some, None, Bool, true, false, refl, sym, ap, subst, ◌⊎◌, inl, inr}
use Rattle.std.proofs.lemmas.List.Elements.{All-map}
use Rattle.std.specs.List.{AllByRecursion}
use Rattle.page_sources.specs.SourceView.{source_state}
use Rattle.md5_auth.specs.declared.users.Entry.{Entry}
use Rattle.device_api.specs.ScannerLimits.{HasLimits}
use Rattle.device_api.specs.State.{DeviceState}
use Rattle.dispatch.specs.RegistryFault.{AreRegistrable}
use Rattle.scan_job.specs.declared.job.Job.{Job}
use Rattle.scan_job.specs.declared.outcome.Outcome.{Outcome}
use Rattle.scan_job.specs.declared.outcome.Outcome.TheVariants.{Running}
use Rattle.scan_job.specs.declared.job.Task.{Task}
use Rattle.scan_job.specs.declared.job.Task.TheVariants as tasks
use Rattle.client_replies.specs.ProtocolStates.{is_batch, is_running}
use Rattle.saned_core.specs.DaemonStates.{Core}
use Rattle.event_world.specs.declared.event.Event.{Event}
use Rattle.event_world.specs.declared.endpoint.Endpoint.{Endpoint}
use Rattle.event_world.specs.Endpoints.{budget_of, finished_page}
use Rattle.event_world.specs.JobMoves.{IsNextMove, moves_left_of}
use Rattle.event_world.specs.Rounds.{RoundsRunOut, all_made}
use Rattle.event_world.specs.Worlds.{AreNew, IsInitialWorld, MayRun, WorldCore}
use Rattle.world_refines.specs.MainTheorem.{AreTrueLoads, IsTrueLoad}
use Rattle.scan_world.specs.Histories.{History, LedTo, and_then, begun}
use Rattle.scan_world.specs.Promise.{CountIsKept, FileIsKept, MoveIsKept, MovesAreKept, OutcomeIsKept, PageIsKept}
use Rattle.scan_world.specs.Calls.{ForEach, IsGoodMove, IsMoveAt, MovesNext, RunsOut, file_answered, finished_at, finished_by, is_starved, left_at, moves_answered, outcome_at, page_answered, starved_at}
use Rattle.scan_world.specs.Laws.{AllFollow, Below}
use Rattle.scan_world.proofs.Led.{led_then}
use Rattle.scan_world.proofs.NextMoves.{quiet_loads, quiet_moves, rounds_moves}
use Rattle.scan_world.proofs.Scanned.{kept_by}
use Rattle.scan_world.proofs.AllKept.{count_kept, file_kept, move_kept, moves_kept, outcome_kept, page_kept}
use Rattle.scan_world.proofs.Ended.{loss_kept}
use Rattle.scan_world.proofs.There.{endpoint_there, outcome_there}

-- ---- what the calls were handed

true_each : (es : List Event) → AllByRecursion (IsTrueLoad source_state) es → AreTrueLoads source_state es
true_each [] h = tt
true_each (e ∷ es) h = (h.0, true_each es h.1)

each_is : {X : Type 0} (P : X → Type 0) (xs : List X) → All P xs → AllByRecursion P xs
each_is P [] h = tt
each_is P (x ∷ xs) h = (h 0 x (omega arith), each_is P xs (λ k d low. h (suc k) d (omega (arith, low))))

pub asked_true : (asked es : List Event) → asked ≡ es → All (IsTrueLoad source_state) asked → AreTrueLoads source_state es
asked_true asked es same h = subst (AreTrueLoads source_state) same (true_each asked (each_is (IsTrueLoad source_state) asked h))

pub new_led : {D : Type 0} (state : D → DeviceState) (devices asked : List D) (users : List Entry) (seed : List ℕ) (jobs : List Job) (w : WorldCore) → IsInitialWorld (map state devices) users seed jobs w → AreRegistrable (map state devices) → MayRun jobs → asked ≡ devices → All (λ (device : D). HasLimits (state device)) asked → LedTo (begun (map state devices) users seed jobs) w
new_led {D = D} state devices asked users seed jobs w is named fit same limits =
    let own : All (λ (device : D). HasLimits (state device)) devices = subst (λ (xs : List D). All (λ (device : D). HasLimits (state device)) xs) same limits in
    record { first = w; endpoints = is.endpoints; daemon = record { registry = is.registry; slots = is.sessions; opened = is.opened }; users_are = is.users_are; seeded = is.challenges; names = named.names; limits = All-map HasLimits state devices own; fit = fit.1; loads = tt; runs = refl }

budget_is : (task : Task) → budget_of task ≡ (if is_batch task then 2 ^ 36 else 2 ^ 34)
budget_is tasks.List = refl
budget_is tasks.Show = refl
budget_is tasks.SetOnly = refl
budget_is tasks.Scan = refl
budget_is (tasks.Batch count) = refl

at_most : (b : Bool) (n : ℕ) → cond b n 0 ≤ n
at_most true n = omega arith
at_most false n = omega arith

pub few_in : (jobs : List Job) (endpoints : List Endpoint) → AreNew jobs endpoints → (i : ℕ) (job : Job) → slice_get jobs i ≡ Some job → moves_answered (slice_get endpoints i) ≤ (if is_batch job.task then 2 ^ 36 else 2 ^ 34)
few_in [] [] new i job at = absurd (let clash : None ≡ Some job = at in cc)
few_in [] (p ∷ endpoints) new i job at = absurd new
few_in (j ∷ jobs) [] new i job at = absurd new
few_in (j ∷ jobs) (p ∷ endpoints) new zero job at =
    let same : j ≡ job = (let both : Some j ≡ Some job = at in cc) in
    let budget : p.budget ≡ (if is_batch job.task then 2 ^ 36 else 2 ^ 34) = ap (λ (q : Endpoint). q.budget) new.0.rest ∙ (budget_is j.task ∙ ap (λ (k : Job). if is_batch k.task then 2 ^ 36 else 2 ^ 34) same) in
    subst (λ (n : ℕ). moves_left_of p ≤ n) budget (at_most (is_running p.client.outcome) p.budget)
few_in (j ∷ jobs) (p ∷ endpoints) new (suc i) job at = few_in jobs endpoints new.1 i job at

pub none_starved : (jobs : List Job) (endpoints : List Endpoint) → AreNew jobs endpoints → (i : ℕ) → is_starved (slice_get endpoints i) ≡ false
none_starved [] [] new i = refl
none_starved [] (p ∷ endpoints) new i = absurd new
none_starved (j ∷ jobs) [] new i = absurd new
none_starved (j ∷ jobs) (p ∷ endpoints) new zero = ap (λ (q : Endpoint). q.out_of_memory) new.0.rest
none_starved (j ∷ jobs) (p ∷ endpoints) new (suc i) = none_starved jobs endpoints new.1 i

-- ---- what the calls answer

pub finished_is : (o at : Option Endpoint) (n : ℕ) → at ≡ o → ((p : Endpoint) → at ≡ Some p → n ≡ min p.finished 16) → (at ≡ None → n ≡ 0) → n ≡ finished_by o
finished_is None at n e some none = none e
finished_is (Some p) at n e some none = some p e

pub starved_is : (o at : Option Endpoint) (b : Bool) → at ≡ o → ((p : Endpoint) → at ≡ Some p → b ≡ p.out_of_memory) → (at ≡ None → b ≡ false) → b ≡ is_starved o
starved_is None at b e some none = none e
starved_is (Some p) at b e some none = some p e

pub left_is : (o at : Option Endpoint) (n : ℕ) → at ≡ o → ((p : Endpoint) → at ≡ Some p → n ≡ moves_left_of p) → (at ≡ None → n ≡ 0) → n ≡ moves_answered o
left_is None at n e some none = none e
left_is (Some p) at n e some none = some p e

pub move_is : (d : Core) (i : ℕ) (o at : Option Endpoint) (event : Option Event) → at ≡ o → ((p : Endpoint) → at ≡ Some p → IsNextMove d i p event) → (at ≡ None → event ≡ None) → MovesNext d i o event
move_is d i None at event e some none = none e
move_is d i (Some p) at event e some none = some p e

-- ---- what they promise

-- there is one, and it is right
pub outcome_call : Below → (w : WorldCore) (i : ℕ) → ForEach w i (λ h job. (o : Outcome) × (outcome_at w i ≡ Some o) × OutcomeIsKept h w i job (starved_at w i) o)
outcome_call below w i h job at =
    let p = endpoint_there below h w i job at in (
      p.0.client.outcome,
      ap (option_map (λ (x : Endpoint). x.client.outcome)) p.1.endpoint_at,
      subst (λ (b : Bool). OutcomeIsKept h w i job b p.0.client.outcome) (sym (ap is_starved p.1.endpoint_at)) (outcome_kept below h w i job p.0 p.1),
    )

pub outcome_given : {X : Type 0} (read : X → Outcome) (given : Option X) → Below → (w : WorldCore) (i : ℕ) → option_map read given ≡ outcome_at w i → IfSome given (λ (x : X). ForEach w i (λ h job. OutcomeIsKept h w i job (starved_at w i) (read x)))
outcome_given read None below w i is = tt
outcome_given read (Some x) below w i is = λ h job at.
    let o = outcome_call below w i h job at in
    let same : o.0 ≡ read x = (let both : Some (read x) ≡ Some o.0 = is ∙ o.1 in cc) in
    subst (OutcomeIsKept h w i job (starved_at w i)) same o.2

pub outcome_there_is : {X : Type 0} (read : X → Outcome) (given : Option X) → Below → (w : WorldCore) (i : ℕ) → option_map read given ≡ outcome_at w i → ForEach w i (λ h job. IsSome given)
outcome_there_is read None below w i is h job at = let o = outcome_call below w i h job at in let clash : None ≡ Some o.0 = is ∙ o.1 in absurd (cc)
outcome_there_is read (Some x) below w i is h job at = refl

pub file_call : Below → (w : WorldCore) (i : ℕ) (given : Option (List ℕ)) → given ≡ file_answered w i → ForEach w i (λ h job. (o : Outcome) → outcome_at w i ≡ Some o → FileIsKept h w i job (starved_at w i) o given)
file_call below w i given is h job at outcome there =
    let p = endpoint_there below h w i job at in
    let as_file : FileIsKept h w i job p.0.out_of_memory p.0.client.outcome given =
    subst (FileIsKept h w i job p.0.out_of_memory p.0.client.outcome) (sym (is ∙ ap (option_and_then (λ (x : Endpoint). x.file)) p.1.endpoint_at)) (file_kept below h w i job p.0 p.1) in
    let as_starved : FileIsKept h w i job (starved_at w i) p.0.client.outcome given =
    subst (λ (b : Bool). FileIsKept h w i job b p.0.client.outcome given) (sym (ap is_starved p.1.endpoint_at)) as_file in
    subst (λ (o : Outcome). FileIsKept h w i job (starved_at w i) o given) (outcome_there w.endpoints i p.0 outcome p.1.endpoint_at there) as_starved

pub page_call : Below → (w : WorldCore) (i k : ℕ) (given : Option (List ℕ)) → given ≡ page_answered w i k → ForEach w i (λ h job. PageIsKept h w i job (starved_at w i) (finished_at w i) k given)
page_call below w i k given is h job at =
    let p = endpoint_there below h w i job at in
    let as_file : PageIsKept h w i job p.0.out_of_memory (min p.0.finished 16) k given =
    subst (PageIsKept h w i job p.0.out_of_memory (min p.0.finished 16) k) (sym (is ∙ ap (option_and_then (λ (x : Endpoint). finished_page x k)) p.1.endpoint_at)) (page_kept below h w i k job p.0 p.1) in
    let as_starved : PageIsKept h w i job (starved_at w i) (min p.0.finished 16) k given =
    subst (λ (b : Bool). PageIsKept h w i job b (min p.0.finished 16) k given) (sym (ap is_starved p.1.endpoint_at)) as_file in
    subst (λ (n : ℕ). PageIsKept h w i job (starved_at w i) n k given) (sym (ap finished_by p.1.endpoint_at)) as_starved

pub count_call : Below → (w : WorldCore) (i : ℕ) (given : ℕ) → given ≡ finished_at w i → ForEach w i (λ h job. (o : Outcome) → outcome_at w i ≡ Some o → CountIsKept h w i job o given)
count_call below w i given is h job at outcome there =
    let p = endpoint_there below h w i job at in
    let own : CountIsKept h w i job outcome (min p.0.finished 16) = subst (λ (o : Outcome). CountIsKept h w i job o (min p.0.finished 16)) (outcome_there w.endpoints i p.0 outcome p.1.endpoint_at there) (count_kept below h w i job p.0 p.1) in
    subst (CountIsKept h w i job outcome) (sym (is ∙ ap finished_by p.1.endpoint_at)) own

-- where it is told as none that is out of memory, no file is missing
pub file_there : Below → (w : WorldCore) (i : ℕ) (given : Bool) → given ≡ starved_at w i → ForEach w i (λ h job. given ≡ false → file_answered w i ≢ None)
file_there below w i given is h job at enough none =
    let p = endpoint_there below h w i job at in
    let had : p.0.out_of_memory ≡ false = sym (is ∙ ap is_starved p.1.endpoint_at) ∙ enough in
    let file = file_kept below h w i job p.0 p.1 in
    let clash : true ≡ false = sym (file.missing (ap (option_and_then (λ (x : Endpoint). x.file)) (sym p.1.endpoint_at) ∙ none)) ∙ had in absurd (cc)

pub pages_there : Below → (w : WorldCore) (i : ℕ) (given : Bool) → given ≡ starved_at w i → ForEach w i (λ h job. given ≡ false → (k : ℕ) → 0 < k → k ≤ finished_at w i → page_answered w i k ≢ None)
pages_there below w i given is h job at enough k some within none =
    let p = endpoint_there below h w i job at in
    let had : p.0.out_of_memory ≡ false = sym (is ∙ ap is_starved p.1.endpoint_at) ∙ enough in
    let page = page_kept below h w i k job p.0 p.1 in
    let most : k ≤ min p.0.finished 16 = subst (λ (n : ℕ). k ≤ n) (ap finished_by p.1.endpoint_at) within in
    let clash : true ≡ false = sym (page.missing some most (ap (option_and_then (λ (x : Endpoint). finished_page x k)) (sym p.1.endpoint_at) ∙ none)) ∙ had in absurd (cc)

pub move_call : Below → (w : WorldCore) (i : ℕ) (given : Option Event) → IsMoveAt w i given → ForEach w i (λ h job. IsGoodMove h w i job given)
move_call below w i given is h job at =
    let p = endpoint_there below h w i job at in
    let next : IsNextMove w.daemon i p.0 given = subst (λ (o : Option Endpoint). MovesNext w.daemon i o given) p.1.endpoint_at is in
    record {
      move = λ outcome there. subst (λ (o : Outcome). MoveIsKept o given) (outcome_there w.endpoints i p.0 outcome p.1.endpoint_at there) (move_kept below h w i job p.0 given p.1 next);
      loss = λ e. by_loss (starved_at w i) (p.0.out_of_memory) (ap is_starved p.1.endpoint_at) (loss_kept below h w i job p.0 p.1 (subst (IsNextMove w.daemon i p.0) e next));
    }
  where
    by_loss : {A : Type 0} (a b : Bool) → a ≡ b → (b ≡ true) ⊎ A → (a ≡ true) ⊎ A
    by_loss a b same (inl out) = inl (same ∙ out)
    by_loss a b same (inr unsaid) = inr unsaid

pub moves_call : Below → (w : WorldCore) (i : ℕ) (given : ℕ) → given ≡ left_at w i → ForEach w i (λ h job. (o : Outcome) → outcome_at w i ≡ Some o → MovesAreKept o given)
moves_call below w i given is h job at outcome there =
    let p = endpoint_there below h w i job at in
    let own : MovesAreKept outcome (moves_left_of p.0) = subst (λ (o : Outcome). MovesAreKept o (moves_left_of p.0)) (outcome_there w.endpoints i p.0 outcome p.1.endpoint_at there) (moves_kept below h w i job p.0 p.1) in
    subst (MovesAreKept outcome) (sym (is ∙ ap moves_answered p.1.endpoint_at)) own

-- ---- moves until no job runs

runs_no_more : (o : Outcome) → is_running o ≡ false → o ≢ Running
runs_no_more o off e = absurd (let clash : true ≡ false = sym (ap is_running e) ∙ off in cc)

pub ran_out : Below → (w v : WorldCore) → RoundsRunOut source_state w v → (h : History) → LedTo h w → RunsOut h w v
ran_out below w v out h l =
    let moves = all_made out.rounds in
    let next = rounds_moves out.rounds w v out.goes in
    let led = led_then h moves w v l (quiet_loads moves (quiet_moves moves w v next)) out.events in
    record {
      moves = moves;
      few = out.few;
      next = next;
      led = led;
      over = λ i job outcome job_at there.
          let p = endpoint_there below (and_then h moves) v i job (record { led = led; job_at = job_at }) in
          let off = (kept_by below.kept (and_then h moves) v job led).promises.rests i p.0 p.1.endpoint_at (out.rest i) in
          runs_no_more outcome (subst (λ (o : Outcome). is_running o ≡ false) (outcome_there v.endpoints i p.0 outcome p.1.endpoint_at there) off);
    }

-- ---- all of them

pub all_follow : AllFollow
all_follow below h w i job a at is =
    let p = endpoint_there below h w i job at in
    let outcome : p.0.client.outcome ≡ a.outcome = outcome_there w.endpoints i p.0 a.outcome p.1.endpoint_at is.outcome in
    let starved : p.0.out_of_memory ≡ a.starved = sym (ap is_starved p.1.endpoint_at) ∙ is.starved in
    let finished : min p.0.finished 16 ≡ a.finished = sym (ap finished_by p.1.endpoint_at) ∙ is.finished in
    let file : FileIsKept h w i job (starved_at w i) a.outcome a.file = file_call below w i a.file (sym is.file) h job at a.outcome is.outcome in
    record {
      outcome = subst (λ (b : Bool). OutcomeIsKept h w i job b a.outcome) starved (subst (OutcomeIsKept h w i job p.0.out_of_memory) outcome (outcome_kept below h w i job p.0 p.1));
      file = subst (λ (b : Bool). FileIsKept h w i job b a.outcome a.file) is.starved file;
      pages = λ k. subst (λ (b : Bool). PageIsKept h w i job b a.finished k (a.file_at k)) is.starved (subst (λ (n : ℕ). PageIsKept h w i job (starved_at w i) n k (a.file_at k)) is.finished (page_call below w i k (a.file_at k) (sym (is.pages k)) h job at));
      count = count_call below w i a.finished (sym is.finished) h job at a.outcome is.outcome;
      move = (move_call below w i a.next_move is.next_move h job at).move a.outcome is.outcome;
      moves = moves_call below w i a.moves_left (sym is.moves_left) h job at a.outcome is.outcome;
    }
