-- The moves that jobs may still take suffice.
use Rattle.std.specs.Prelude.{◌-◌, ◌^◌, slice_index_or}
use Rattle.std.proofs.lemmas.List.{length-map}
use Rattle.std.proofs.Common.{◌≡◌, ◌≢◌, ◌⊎◌, inl, inr, ◌∙◌, ℕ, ◌+◌, ◌≤◌, ◌<◌, List, [], ◌∷◌, Bool, true, false, cond, Some, None, refl, sym, ap, subst, map, length, slice_get, slice_set, arith}
use Rattle.frame_join.specs.FrameHistory.{JoinHistory}
use Rattle.scan_job.specs.JobSize.{HasCount, HasJobSize}
use Rattle.scan_job.specs.declared.job.Job.{Job}
use Rattle.scan_job.specs.declared.job.Task.{Task}
use Rattle.scan_job.specs.declared.job.Task.TheVariants as tasks
use Rattle.net_client.specs.ClientStates.{protocol_of}
use Rattle.client_replies.specs.ProtocolStates.{target_of, is_running}
use Rattle.client_refines.specs.ClientRefinement.{task_of, requested_setting}
use Rattle.system_model.specs.Client.{further_pages}
use Rattle.system_model.specs.Variant.{control_variant, job_variant}
use Rattle.system_model.specs.SystemStates.{device_for}
use Rattle.system_model.specs.Transitions.{IsUnderWay, Loads, Transition, Unplugs, IsEnabled, after_transition, after_all}
use Rattle.system_model.proofs.VariantSteps.{numbers_bounded, others_raise_none}
use Rattle.system_model.proofs.StageVariants.{at_least}
use Rattle.event_world.specs.declared.event.JobEvent.{JobEvent as Event}
use Rattle.event_world.specs.declared.endpoint.Endpoint.{Endpoint}
use Rattle.event_world.specs.JobEvents as world
use Rattle.event_world.specs.JobMoves.{IsNextMove, moves_left_of}
use Rattle.event_world.specs.Endpoints.{budget_of}
use Rattle.event_world.specs.Rounds.{RestsAt}
use Rattle.event_world.specs.Worlds.{AtEndpoint, WorldCore}
use Rattle.event_world.proofs.Falling.{spends}
use Rattle.world_refines.specs.GhostStates.{Ghost, job_state, place_of_info, abstract_job}
use Rattle.world_refines.specs.WorldRefinement.{WorldRefines}
use Rattle.world_refines.specs.Costs.{Pays, cost}
use Rattle.world_refines.specs.GhostEvents.{GhostCan, GhostLeads}
use Rattle.world_refines.specs.NewWorlds.{NewWorldsPay, initial_ghost}
use Rattle.world_refines.proofs.job_events.Beginnings.{at_index, new_at}
use Rattle.world_refines.proofs.state.ListEntries.{is_same, set_elsewhere, set_there, there, within}
use Rattle.world_refines.proofs.state.GhostClients.{runs_under}
use Rattle.world_refines.proofs.moves.Paying.{Own, other_cost, other_party, own_falls, was_own}
use Rattle.world_refines.proofs.moves.Stuck.{nobody_is_stuck}
use Rattle.world_refines.proofs.state.Taking.{DecidesAt, nobody_can, set_same}

-- ---- an event

-- it takes one from the moves of its job, whose cost falls by one at least
pays_own : (t u : Ghost) (i : ℕ) (w v : WorldCore) (p q : Endpoint) (steps : List Transition) → WorldRefines t w → slice_get w.endpoints i ≡ Some p → v.endpoints ≡ slice_set w.endpoints i q → q.budget ≡ p.budget - 1 → Own t i steps u → Pays t w → Pays u v
pays_own t u i w v p q steps h at endpoints spent o pays = λ j endpoint there under. by_job j endpoint there under (is_same j i)
  where
    by_sum : (a b m n : ℕ) → a + 1 ≤ b → b ≤ m → n ≡ m - 1 → a ≤ n
    by_sum a b m n less few is = omega (arith, less, few, is)

    by_job : (j : ℕ) (endpoint : Endpoint) → slice_get v.endpoints j ≡ Some endpoint → IsUnderWay (job_state u j).client.stage → (j ≡ i) ⊎ (j ≢ i) → cost u j ≤ endpoint.budget
    by_job j endpoint there under (inl same) =
        let own : IsUnderWay (job_state u i).client.stage = subst (λ (k : ℕ). IsUnderWay (job_state u k).client.stage) same under in
        let fall = own_falls t u i steps h.sound o own in
        let few : cost t i ≤ p.budget = pays i p at (was_own t u i steps o own) in
        let less : cost u i ≤ q.budget = by_sum (cost u i) (cost t i) p.budget q.budget fall few spent in
        let is : Some q ≡ Some endpoint = sym (set_there w.endpoints i q p at) ∙ (ap (λ (l : List Endpoint). slice_get l i) (sym endpoints) ∙ subst (λ (k : ℕ). slice_get v.endpoints k ≡ Some endpoint) same there) in
        let q_is : q ≡ endpoint = cc in
        subst (λ (k : ℕ). cost u k ≤ endpoint.budget) (sym same) (subst (λ (x : Endpoint). cost u i ≤ x.budget) q_is less)
    by_job j endpoint there under (inr other) =
        let at_j : slice_get w.endpoints j ≡ Some endpoint = sym (set_elsewhere w.endpoints i j q other) ∙ (ap (λ (l : List Endpoint). slice_get l j) (sym endpoints) ∙ there) in
        let still = subst (λ (x : _). IsUnderWay x.client.stage) (other_party t u i j steps o other) under in
        subst (λ (n : ℕ). n ≤ endpoint.budget) (sym (other_cost t u i j steps h.sound o other)) (pays j endpoint at_j still)

abbrev pub Owns : Event → (Ghost → ℕ → List Transition → Ghost → Type 0) → Type 0
Owns action Does = (t u : Ghost) (w v : WorldCore) (i : ℕ) (p q : Endpoint) (steps : List Transition) → WorldRefines t w → WorldRefines u v → slice_get w.endpoints i ≡ Some p → slice_get v.endpoints i ≡ Some q → GhostCan t i action → Does t i steps u → Own t i steps u

pub same_pays : (t u : Ghost) (w v : WorldCore) → u ≡ t → v.endpoints ≡ w.endpoints → Pays t w → Pays u v
same_pays t u w v is endpoints pays = λ j endpoint at under.
    subst (λ (x : Ghost). cost x j ≤ endpoint.budget) (sym is) (pays j endpoint (ap (λ (l : List Endpoint). slice_get l j) (sym endpoints) ∙ at) (subst (λ (x : Ghost). IsUnderWay (job_state x j).client.stage) is under))

pub pays_at : (action : Event) (Does : Ghost → ℕ → List Transition → Ghost → Type 0) → DecidesAt action Does → Owns action Does → (t : Ghost) (i : ℕ) (w v : WorldCore) → WorldRefines t w → AtEndpoint w i action v → (l : GhostLeads action Does t i v) → Pays t w → Pays l.ghost_then v
pays_at action Does decides owns t i w v h at l pays = by_place (there w.endpoints i)
  where
    none : (GhostCan t i action → ⊥) → v.endpoints ≡ w.endpoints → Pays l.ghost_then v
    none never endpoints = same_pays t l.ghost_then w v (l.happens.cannot never).1 endpoints pays

    by_place : ((p : Endpoint) × (slice_get w.endpoints i ≡ Some p)) ⊎ (length w.endpoints ≤ i) → Pays l.ghost_then v
    by_place (inr high) =
        none (λ can. nobody_can t i action (h.beyond i high) (subst (λ (n : ℕ). n ≤ i) (sym h.is_of.count) high) can) (ap (λ (x : WorldCore). x.endpoints) (at.beyond high))
    by_place (inl (p, is)) = by_can (decides t w i p h is (subst (λ (n : ℕ). i < n) (sym h.is_of.count) (within w.endpoints i p is))).either
      where
        low : i < t.count
        low = subst (λ (n : ℕ). i < n) (sym h.is_of.count) (within w.endpoints i p is)

        q : Endpoint
        q = (at.happens p is).0

        endpoints : v.endpoints ≡ slice_set w.endpoints i q
        endpoints = (at.happens p is).2

        by_can : world.Can w.daemon p action ⊎ (world.Can w.daemon p action → ⊥) → Pays l.ghost_then v
        by_can (inl can) =
            let may : GhostCan t i action = (decides t w i p h is low).back can in
            let then : slice_get v.endpoints i ≡ Some q = ap (λ (x : List Endpoint). slice_get x i) endpoints ∙ set_there w.endpoints i q p is in
            pays_own t l.ghost_then i w v p q l.steps h is endpoints (spends w.daemon v.daemon p q action can (at.happens p is).1) (owns t l.ghost_then w v i p q l.steps h l.stands is then may (l.happens.does may)) pays
        by_can (inr never) = none (λ can. never ((decides t w i p h is low).can can)) (endpoints ∙ (ap (slice_set w.endpoints i) ((at.happens p is).1.cannot never).1 ∙ set_same w.endpoints i p is))

-- what comes to a device costs nobody
pub pays_beside : (t u : Ghost) (w v : WorldCore) (step : Transition) → WorldRefines t w → IsEnabled t.system step → ((j : ℕ) → control_variant (after_transition t.system step) j ≡ control_variant t.system j) → ((j : ℕ) → (after_transition t.system step).job j ≡ t.system.job j) → u ≡ record t { system = after_all t.system (step ∷ []) } → v.endpoints ≡ w.endpoints → Pays t w → Pays u v
pays_beside t u w v step h legal same job_states is endpoints pays = λ j endpoint at under.
    let then = record t { system = after_transition t.system step } in
    let still = subst (λ (x : _). IsUnderWay x.client.stage) (job_states j) (subst (λ (x : Ghost). IsUnderWay (job_state x j).client.stage) is under) in
    let before = pays j endpoint (ap (λ (l : List Endpoint). slice_get l j) (sym endpoints) ∙ at) still in
    let costs : cost then j ≡ cost t j = by_both j (same j) (job_states j) in
    subst (λ (x : Ghost). cost x j ≤ endpoint.budget) (sym is) (subst (λ (n : ℕ). n ≤ endpoint.budget) (sym costs) before)
  where
    by_both : (j : ℕ) → control_variant (after_transition t.system step) j ≡ control_variant t.system j → (after_transition t.system step).job j ≡ t.system.job j → cost (record t { system = after_transition t.system step }) j ≡ cost t j
    by_both j moves_are party_is = cc

pub pays_loads : (t u : Ghost) (w v : WorldCore) (d : ℕ) (page : _) → WorldRefines t w → IsEnabled t.system (Loads d page) → u ≡ record t { system = after_all t.system (Loads d page ∷ []) } → v.endpoints ≡ w.endpoints → Pays t w → Pays u v
pays_loads t u w v d page h legal is endpoints pays = pays_beside t u w v (Loads d page) h legal (λ j. (others_raise_none t.system j (Loads d page) h.sound legal tt).1) (λ j. refl) is endpoints pays

pub pays_unplugs : (t u : Ghost) (w v : WorldCore) (d : ℕ) → WorldRefines t w → IsEnabled t.system (Unplugs d) → u ≡ record t { system = after_all t.system (Unplugs d ∷ []) } → v.endpoints ≡ w.endpoints → Pays t w → Pays u v
pays_unplugs t u w v d h legal is endpoints pays = pays_beside t u w v (Unplugs d) h legal (λ j. (others_raise_none t.system j (Unplugs d) h.sound legal tt).1) (λ j. refl) is endpoints pays

-- ---- a new world

enough : (task : Task) (n : ℕ) → HasCount task → (further_pages (task_of task) ≡ 0 → n ≤ 2 ^ 34) × (further_pages (task_of task) ≤ 15 → n ≤ 2 ^ 36) → n ≤ budget_of task
enough tasks.List n count few = few.0 refl
enough tasks.Show n count few = few.0 refl
enough tasks.SetOnly n count few = few.0 refl
enough tasks.Scan n count few = few.0 refl
enough (tasks.Batch count) n (some, most) few = few.1 (omega (arith, some, most))

pub new_worlds_pay : NewWorldsPay
new_worlds_pay sources jobs other devices w new fit i endpoint at under =
    let t = initial_ghost sources jobs other devices w.daemon.users w.endpoints in
    let is = new_at jobs w.endpoints i endpoint new at in
    let job = slice_index_or jobs i other in
    let size : HasJobSize job × HasCount job.task = fit i other (within jobs i is.job is.at) in
    let few : length (map requested_setting job.settings.items) ≤ 64 = subst (λ (n : ℕ). n ≤ 64) (sym (length-map job.settings.items requested_setting)) size.0.few in
    let bounds = numbers_bounded t.system.make t.system.device (λ k. abstract_job w.daemon.users t.infos (slice_index_or jobs k other)) t.system.places i few in
    let costs : cost t i ≤ budget_of job.task = enough job.task (job_variant t.system i) size.1 bounds in
    let task : job.task ≡ is.job.task = ap (λ (j : Job). j.task) (at_index jobs i is.job other is.at) in
    let budget : endpoint.budget ≡ budget_of is.job.task = ap (λ (p : Endpoint). p.budget) is.new.rest in
    subst (λ (n : ℕ). cost t i ≤ n) (ap budget_of task ∙ sym budget) costs

-- ---- behind any events

pub left_runs : (t : Ghost) (w : WorldCore) (i : ℕ) (endpoint : Endpoint) → WorldRefines t w → Pays t w → slice_get w.endpoints i ≡ Some endpoint → is_running endpoint.client.outcome ≡ true → 0 < moves_left_of endpoint
left_runs t w i endpoint h pays at runs =
    let s = h.endpoints i endpoint at in
    let me = job_state t i in
    let under = runs_under (place_of_info t.infos) (target_of (t.jobs i)) me.session.job (map (λ (x : JoinHistory). x.ended) (t.pages i)) (protocol_of endpoint.client (t.history i)) me.client s.exchanges.reads runs in
    let few : cost t i ≤ endpoint.budget = pays i endpoint at under in
    let one : 1 ≤ control_variant t.system i = at_least me.client.stage me (device_for t.system i) under in
    let budget : 0 < endpoint.budget = by_sum (control_variant t.system i) _ endpoint.budget few one in
    subst (λ (b : Bool). 0 < cond b endpoint.budget 0) (sym runs) budget
  where
    by_sum : (a b n : ℕ) → a + b ≤ n → 1 ≤ a → 0 < n
    by_sum a b n few one = omega (arith, few, one)

-- a job that has none left is over
pub none_left : (t : Ghost) (w : WorldCore) (i : ℕ) (endpoint : Endpoint) → WorldRefines t w → Pays t w → slice_get w.endpoints i ≡ Some endpoint → moves_left_of endpoint ≡ 0 → is_running endpoint.client.outcome ≡ false
none_left t w i endpoint h pays at none = by_runs (is_running endpoint.client.outcome) refl
  where
    by_runs : (b : Bool) → is_running endpoint.client.outcome ≡ b → is_running endpoint.client.outcome ≡ false
    by_runs false e = e
    by_runs true e = let some = left_runs t w i endpoint h pays at e in absurd (omega (arith, some, none))

-- and so is one that rests
pub rests_over : (t : Ghost) (w : WorldCore) (i : ℕ) (endpoint : Endpoint) → WorldRefines t w → Pays t w → slice_get w.endpoints i ≡ Some endpoint → RestsAt w i → is_running endpoint.client.outcome ≡ false
rests_over t w i endpoint h pays at rests = by_rest (rests endpoint at)
  where
    by_none : IsNextMove w.daemon i endpoint None → (b : Bool) → is_running endpoint.client.outcome ≡ b → is_running endpoint.client.outcome ≡ false
    by_none next false e = e
    by_none next true e = let some = (nobody_is_stuck t w i endpoint None h at next).0 e in absurd (let clash : false ≡ true = some in cc)

    by_rest : IsNextMove w.daemon i endpoint None ⊎ (moves_left_of endpoint ≡ 0) → is_running endpoint.client.outcome ≡ false
    by_rest (inl next) = by_none next (is_running endpoint.client.outcome) refl
    by_rest (inr none) = none_left t w i endpoint h pays at none
