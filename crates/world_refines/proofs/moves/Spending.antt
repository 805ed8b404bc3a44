-- What each event does to its job is paid before.
use Rattle.std.specs.Prelude.{IsSome, option_map, is_some}
use Rattle.std.proofs.Common.{◌≡◌, ◌≢◌, ◌⊎◌, inl, inr, ◌∙◌, ℕ, ◌+◌, ◌≤◌, List, [], ◌∷◌, ◌++◌, Bool, true, false, Option, Some, None, refl, sym, ap, subst, length, length-append, slice_get, arith}
use Rattle.sane_fixed.specs.declared.status.Status.{Status}
use Rattle.frame_join.specs.FrameHistory.{JoinHistory}
use Rattle.system_model.specs.Client as model
use Rattle.system_model.specs.Client.{Done, Ended, Idle, ClientView, Running, JobStage}
use Rattle.system_model.specs.Actions as actions
use Rattle.system_model.specs.Actions.{Action}
use Rattle.system_model.specs.Deliveries.{Chance, answers}
use Rattle.system_model.specs.Devices.{Make}
use Rattle.system_model.specs.Variant.{exchange_cost, action_cost}
use Rattle.system_model.specs.AbstractDevices.{AbstractDevice}
use Rattle.system_model.specs.Invariants.{StageInvariant}
use Rattle.system_model.specs.SystemStates.{JobState, SystemState, make_for, device_for}
use Rattle.system_model.specs.Transitions.{By, IsHistory, IsImaging, IsUnderWay, Transition, after_transition, after_all}
use Rattle.system_model.proofs.Over.{ends_end}
use Rattle.daemon_refines.proofs.Moved.{put_there}
use Rattle.event_world.specs.declared.event.JobEvent.TheVariants as events
use Rattle.event_world.specs.declared.endpoint.Endpoint.{Endpoint}
use Rattle.event_world.specs.JobEvents.{bytes_not_delivered, delivered_bytes}
use Rattle.event_world.specs.Worlds.{WorldCore}
use Rattle.world_refines.specs.GhostStates.{Ghost, Wires, job_state, place_of_info, ghost_after, wires}
use Rattle.world_refines.specs.Wires.{FlightMatches}
use Rattle.world_refines.specs.WorldRefinement.{WorldRefines}
use Rattle.world_refines.specs.Costs.{counted_at, on_its_way, bytes_undelivered}
use Rattle.world_refines.specs.GhostEvents.{GhostCan, GhostConnects, Dials, GivesUp, HasSomeBytes, IsRecordOf, LosesControl, LosesImage, GhostTakes, GhostTurns, wires_without_down, wires_with_image, with_record}
use Rattle.world_refines.specs.Answering.{AnswersSome, BreaksOff, GoesOn, IsOver, WasOver}
use Rattle.world_refines.specs.ClientDeliveries.{GhostHears, wires_after_delivery}
use Rattle.world_refines.specs.DataDeliveries.{ReadsBytes, GhostReadsEnd, GhostReadsOn, ReadsShort, GhostSees, by_all, open_still, read_actions, wires_after_data}
use Rattle.world_refines.proofs.requests.FedEvent.{asks_some}
use Rattle.world_refines.proofs.requests.Folding.{no_reply}
use Rattle.world_refines.proofs.moves.Lengths.{counted_long, first_within, less_left, none_told, sends_within, told_within}
use Rattle.world_refines.proofs.moves.Paying.{Own, counted_all, prices, was_all}

-- ---- an event and its steps

by_steps : (t : Ghost) (i : ℕ) (steps : List Transition) (u : Ghost) (come : List Action) (bytes : Wires) (past : JoinHistory) (pages : List JoinHistory) → steps ≡ by_all i come → IsHistory t.system steps → u ≡ ghost_after t i steps bytes past pages →
    (IsHistory t.system (by_all i come) → IsUnderWay ((after_all t.system (by_all i come)).job i).client.stage → bytes_undelivered bytes + 1 ≤ counted_at (job_state t i).client.stage (wires t i) + prices come) → Own t i steps u
by_steps t i steps u come bytes past pages is legal then_is less =
    let history = subst (IsHistory t.system) is legal in
    record { come = come; steps_are = is; legal = history; bytes = bytes; history = past; pages = pages; then_is = then_is ∙ ap (λ (xs : List Transition). ghost_after t i xs bytes past pages) is; less = less history }

by_takes : (t : Ghost) (i : ℕ) (steps : List Transition) (u : Ghost) (come : List Action) (bytes : Wires) → steps ≡ by_all i come → GhostTakes t i steps bytes u →
    (IsHistory t.system (by_all i come) → IsUnderWay ((after_all t.system (by_all i come)).job i).client.stage → bytes_undelivered bytes + 1 ≤ counted_at (job_state t i).client.stage (wires t i) + prices come) → Own t i steps u
by_takes t i steps u come bytes is h less = by_steps t i steps u come bytes (t.history i) (t.pages i) is h.legal h.then_is less

-- ---- a job that is connected

unlinked : (t : Ghost) (w : WorldCore) (i : ℕ) (p : Endpoint) → WorldRefines t w → slice_get w.endpoints i ≡ Some p → (job_state t i).linked ≡ true → (job_state t i).client.stage ≡ Idle → ⊥
unlinked t w i p h at on idle =
    let s = h.endpoints i p at in
    let link = (s.means.before (s.exchanges.idle idle)).0 in
    let clash : false ≡ true = sym (ap is_some link) ∙ (sym s.means.linked ∙ on) in
    absurd (cc)

unimaged : (t : Ghost) (w : WorldCore) (i : ℕ) (p : Endpoint) → WorldRefines t w → slice_get w.endpoints i ≡ Some p → IsSome (wires t i).image → (job_state t i).client.stage ≡ Idle → ⊥
unimaged t w i p h at some idle =
    let m = (h.endpoints i p at).means in
    let flow = subst (λ (st : JobStage). FlightMatches st (job_state t i).session.transfer p.client.progress p.client.phase (wires t i).image (job_state t i).session.flight (job_state t i).session.ending) idle m.flow in
    let clash : false ≡ true = sym (ap is_some flow.image_is) ∙ some in
    absurd (cc)

-- all its bytes are counted
connected : (t : Ghost) (i : ℕ) → ((job_state t i).client.stage ≡ Idle → ⊥) → counted_at (job_state t i).client.stage (wires t i) ≡ bytes_undelivered (wires t i)
connected t i n = counted_all (job_state t i).client.stage (wires t i) n

-- ---- Connect

no_due : (i : ℕ) (k : Make) (p : JobState) (dev : AbstractDevice) (st : JobStage) → st ≡ Idle → StageInvariant i k p dev st → p.due ≡ []
no_due i k p dev Idle e h = h.2
no_due i k p dev (Running g) e h = absurd (cc)
no_due i k p dev Done e h = absurd (cc)
no_due i k p dev (Ended status why) e h = absurd (cc)

greeting_within : (t : Ghost) (w : WorldCore) (i : ℕ) (p : Endpoint) → WorldRefines t w → slice_get w.endpoints i ≡ Some p → (job_state t i).client.stage ≡ Idle → bytes_undelivered (wires t i) ≤ exchange_cost
greeting_within t w i p h at idle =
    let m = (h.endpoints i p at).means in
    let x = wires t i in
    let up : length x.up ≤ exchange_cost = first_within (t.jobs i) (job_state t i).client _ x.up (m.first idle) in
    let due = no_due i (make_for t.system i) (job_state t i) (device_for t.system i) (job_state t i).client.stage idle (h.sound.exchanges i) in
    let none : length (x.telling ++ x.down) ≡ 0 = none_told (place_of_info t.infos) p.client.progress (job_state t i).due (x.telling ++ x.down) due (m.down (subst IsUnderWay (sym idle) tt)) in
    let both : length (x.telling ++ x.down) ≡ length x.telling + length x.down = length-append x.telling x.down in
    let flow = subst (λ (st : JobStage). FlightMatches st (job_state t i).session.transfer p.client.progress p.client.phase x.image (job_state t i).session.flight (job_state t i).session.ending) idle m.flow in
    let image : on_its_way x.image ≡ 0 = ap on_its_way flow.image_is in
    by_sum (length x.up) (length x.telling) (length x.down) (on_its_way x.image) (length (x.telling ++ x.down)) up none both image
  where
    by_sum : (a b c d e : ℕ) → a ≤ exchange_cost → e ≡ 0 → e ≡ b + c → d ≡ 0 → a + (c + d) ≤ exchange_cost
    by_sum a b c d e up none both image = omega (arith, up, none, both, image)

pub connects_own : (t : Ghost) (w : WorldCore) (i : ℕ) (p : Endpoint) (steps : List Transition) (u : Ghost) → WorldRefines t w → slice_get w.endpoints i ≡ Some p → GhostCan t i events.Connect → GhostConnects t i steps u → Own t i steps u
connects_own t w i p steps u h at can (inl c) =
    by_takes t i steps u (actions.Connects ∷ []) (wires t i) c.0 c.1 (λ _ _. by_sum (bytes_undelivered (wires t i)) (counted_at (job_state t i).client.stage (wires t i)) (greeting_within t w i p h at can.1))
  where
    by_sum : (a b : ℕ) → a ≤ exchange_cost → a + 1 ≤ b + ((exchange_cost + 1) + 0)
    by_sum a b few = omega (arith, few)
connects_own t w i p steps u h at can (inr c) = by_takes t i steps u (actions.Connects ∷ actions.Loses true ∷ []) (wires_without_down (wires t i)) c.0 c.1 (λ _ under. absurd (ends_end (after_transition t.system (By i actions.Connects)) i (actions.Loses true) tt under))

-- ---- what ends the job

pub loses_own : (t : Ghost) (i : ℕ) (steps : List Transition) (u : Ghost) → LosesControl t i steps u → Own t i steps u
loses_own t i steps u c = by_takes t i steps u (actions.Loses false ∷ []) (wires_without_down (wires t i)) c.0 c.1 (λ _ under. absurd (ends_end t.system i (actions.Loses false) tt under))

pub image_own : (t : Ghost) (i : ℕ) (steps : List Transition) (u : Ghost) → LosesImage t i steps u → Own t i steps u
image_own t i steps u c = by_takes t i steps u (actions.LosesImage false ∷ []) (wires_with_image None (wires t i)) c.0 c.1 (λ _ under. absurd (ends_end t.system i (actions.LosesImage false) tt under))

pub stops_own : (t : Ghost) (i : ℕ) (steps : List Transition) (u : Ghost) → GivesUp t i steps u → Own t i steps u
stops_own t i steps u g = by_takes t i steps u (actions.Stops ∷ []) _ g.steps_are g.takes (λ _ under. absurd (ends_end t.system i actions.Stops tt under))

-- ---- DataConnect

pub dials_own : (t : Ghost) (i : ℕ) (steps : List Transition) (u : Ghost) → GhostCan t i events.DataConnect → Dials t i steps u → Own t i steps u
dials_own t i steps u can c =
    by_takes t i steps u (actions.Dials ∷ []) (wires_with_image (Some []) (wires t i)) c.0 c.1
    (λ _ _. by_sum (length (wires t i).up) (length (wires t i).down) (on_its_way (wires t i).image) (counted_at (job_state t i).client.stage (wires t i)) (connected t i (not_idle (job_state t i).client.stage can.1)))
  where
    not_idle : (st : JobStage) → IsImaging st → st ≡ Idle → ⊥
    not_idle st is idle = let clash : Idle ≡ Running (model.Imaging is.0 is.1) = sym idle ∙ is.2 in absurd (cc)

    by_sum : (a b c d : ℕ) → d ≡ a + (b + c) → (a + (b + 0)) + 1 ≤ d + (1 + 0)
    by_sum a b c d all = omega (arith, all)

-- ---- DataTurn

-- a record is paid with one more
record_paid : (action : Action) (text : List ℕ) → IsRecordOf action text → length text + 1 ≤ action_cost action
record_paid (actions.Turns bytes) text is = let long : length text ≡ 4 + length bytes = ap (λ (l : List ℕ). length l) is ∙ counted_long bytes in omega (arith, long)
record_paid actions.TurnsLast text is = let long : length text ≡ 5 = ap (λ (l : List ℕ). length l) is in omega (arith, long)
record_paid actions.TurnsShort text is = let long : length text ≡ 5 = ap (λ (l : List ℕ). length l) is in omega (arith, long)
record_paid (actions.TurnsNamed status) text is = let long : length text ≡ 5 = ap (λ (l : List ℕ). length l) is.2 in omega (arith, long)
record_paid (actions.TurnsFault fault) text is = let long : length text ≡ 5 = ap (λ (l : List ℕ). length l) is in omega (arith, long)
record_paid actions.TurnsOff text is = let long : length text ≡ 5 = ap (λ (l : List ℕ). length l) is in omega (arith, long)
record_paid action text is = absurd is

comes_behind : (image : Option (List ℕ)) (text : List ℕ) → on_its_way (option_map (λ (bytes : List ℕ). bytes ++ text) image) ≤ on_its_way image + length text
comes_behind None text = omega arith
comes_behind (Some bytes) text = let both : length (bytes ++ text) ≡ length bytes + length text = length-append bytes text in omega (arith, both)

pub turns_own : (t : Ghost) (w : WorldCore) (i : ℕ) (p : Endpoint) (steps : List Transition) (u : Ghost) → WorldRefines t w → slice_get w.endpoints i ≡ Some p → GhostCan t i events.DataTurn → GhostTurns t i steps u → Own t i steps u
turns_own t w i p steps u h at can d = by_sent d.action d.text d.is d.sends
  where
    by_sum : (a b c d e n r : ℕ) → d ≡ a + (b + c) → e ≤ c + r → r + 1 ≤ n → (a + (b + e)) + 1 ≤ d + (n + 0)
    by_sum a b c d e n r all more paid = omega (arith, all, more, paid)

    by_sent : (action : Action) (text : List ℕ) → IsRecordOf action text → ((steps ≡ By i action ∷ []) × GhostTakes t i steps (with_record text (wires t i)) u) ⊎ ((steps ≡ By i action ∷ By i (actions.LosesImage true) ∷ []) × GhostTakes t i steps (wires_with_image None (wires t i)) u) → Own t i steps u
    by_sent action text is (inl c) =
        by_takes t i steps u (action ∷ []) (with_record text (wires t i)) c.0 c.1
        (λ _ _. by_sum (length (wires t i).up) (length (wires t i).down) (on_its_way (wires t i).image) (counted_at (job_state t i).client.stage (wires t i)) (on_its_way (option_map (λ (bytes : List ℕ). bytes ++ text) (wires t i).image)) (action_cost action) (length text)
        (connected t i (unimaged t w i p h at can.0)) (comes_behind (wires t i).image text) (record_paid action text is))
    by_sent action text is (inr c) = by_takes t i steps u (action ∷ actions.LosesImage true ∷ []) (wires_with_image None (wires t i)) c.0 c.1 (λ _ under. absurd (ends_end (after_transition t.system (By i action)) i (actions.LosesImage true) tt under))

-- ---- ToClient

no_more : (a : List ℕ) → length (a ++ []) ≡ length a
no_more a = length-append a [] ∙ let zero_more : length a + 0 ≡ length a = omega arith in zero_more

pub hears_own : (t : Ghost) (w : WorldCore) (i n : ℕ) (p : Endpoint) (steps : List Transition) (u : Ghost) → WorldRefines t w → slice_get w.endpoints i ≡ Some p → GhostCan t i (events.ToClient n) → GhostHears n t i steps u → Own t i steps u
hears_own t w i n p steps u h at can c = by_hears c
  where
    x : Wires
    x = wires t i

    all : counted_at (job_state t i).client.stage x ≡ bytes_undelivered x
    all = connected t i (unlinked t w i p h at can.0)

    less : length (bytes_not_delivered n x.down) + 1 ≤ length x.down
    less = less_left n x.down can.1 can.2

    by_sum : (a b c d e f : ℕ) → d ≡ a + (b + c) → e + 1 ≤ b → f ≡ a → (f + (e + c)) + 1 ≤ d + 0
    by_sum a b c d e f whole fewer same = omega (arith, whole, fewer, same)

    by_more : (a b c d e f r : ℕ) → d ≡ a + (b + c) → e + 1 ≤ b → f ≡ a + r → r ≤ exchange_cost → (f + (e + c)) + 1 ≤ d + (exchange_cost + 0)
    by_more a b c d e f r whole fewer same few = omega (arith, whole, fewer, same, few)

    by_hears : GhostHears n t i steps u → Own t i steps u
    by_hears (inl g) = by_takes t i steps u [] (wires_after_delivery (job_state t i).served n x.telling [] x) g.steps_are g.takes (λ _ under. absurd (g.over under))
    by_hears (inr (under, inl g)) =
        by_steps t i steps u [] (wires_after_delivery (job_state t i).served n g.telling [] x) g.delivers.history (t.pages i) g.steps_are (subst (IsHistory t.system) (sym g.steps_are) tt) (g.delivers.then_is)
        (λ _ _. by_sum (length x.up) (length x.down) (on_its_way x.image) (counted_at (job_state t i).client.stage x) (length (bytes_not_delivered n x.down)) (length (x.up ++ [])) all less (no_more x.up))
    by_hears (inr (under, inr (inl g))) =
        by_steps t i steps u (actions.Hears g.reply ∷ []) (wires_after_delivery (job_state t i).served n [] g.text x) g.delivers.history (t.pages i) g.steps_are g.delivers.legal g.delivers.then_is
        (λ _ _. by_more (length x.up) (length x.down) (on_its_way x.image) (counted_at (job_state t i).client.stage x) (length (bytes_not_delivered n x.down)) (length (x.up ++ g.text)) (length g.text) all less (length-append x.up g.text)
        (sends_within (t.jobs i) g.client (job_state t i).session.job.task g.client.stage g.text g.hears.spells))
    by_hears (inr (under, inr (inr (inl g)))) =
        by_steps t i steps u (actions.RunsOutOfMemory ∷ []) (wires_after_delivery (job_state t i).served n g.telling [] x) g.delivers.history (t.pages i) g.steps_are g.delivers.legal g.delivers.then_is (λ _ under. absurd (ends_end t.system i actions.RunsOutOfMemory tt under))
    by_hears (inr (under, inr (inr (inr g)))) =
        by_steps t i steps u (actions.Hears g.reply ∷ actions.RunsOutOfMemory ∷ []) (wires_after_delivery (job_state t i).served n g.telling g.text x) g.delivers.history (t.pages i) g.steps_are g.delivers.legal g.delivers.then_is
        (λ _ under. absurd (ends_end (after_transition t.system (By i (actions.Hears g.reply))) i actions.RunsOutOfMemory tt under))

-- ---- DataToClient

reads_paid : (given : List ℕ) (more : List Action) → prices (read_actions given ++ more) ≡ prices more
reads_paid [] more = refl
reads_paid (b ∷ given) more = omega arith

chokes_last : (s : SystemState) (i : ℕ) (given : List ℕ) → IsUnderWay ((after_all s (by_all i (read_actions given ++ actions.RunsOutOfMemory ∷ []))).job i).client.stage → ⊥
chokes_last s i [] under = ends_end s i actions.RunsOutOfMemory tt under
chokes_last s i (b ∷ given) under = ends_end (after_transition s (By i (actions.Reads (b ∷ given)))) i actions.RunsOutOfMemory tt under

still_less : (ending : Option Status) (bytes : List ℕ) → on_its_way (open_still ending bytes) ≤ length bytes
still_less None bytes = omega arith
still_less (Some status) [] = omega arith
still_less (Some status) (b ∷ bytes) = omega arith

some_bytes : (o : Option (List ℕ)) → HasSomeBytes o → IsSome o
some_bytes None h = absurd h
some_bytes (Some bytes) h = refl

pub sees_own : (t : Ghost) (w : WorldCore) (i n : ℕ) (p : Endpoint) (steps : List Transition) (u : Ghost) → WorldRefines t w → slice_get w.endpoints i ≡ Some p → GhostCan t i (events.DataToClient n) → GhostSees n t i steps u → Own t i steps u
sees_own t w i n p steps u h at can g =
    by_steps t i steps u g.come (wires_after_data n g.text g.sent (job_state t i).session.ending (wires t i)) g.history g.pages g.steps_are g.legal g.then_is
    (λ legal under. by_reads g.come refl under (g.reads_on (was_all t.system i g.come legal under)))
  where
    x : Wires
    x = wires t i

    all : counted_at (job_state t i).client.stage x ≡ bytes_undelivered x
    all = connected t i (unimaged t w i p h at (some_bytes x.image can.0))

    some : g.text ≢ []
    some = subst HasSomeBytes g.image_is can.0

    less : length (bytes_not_delivered n g.text) + 1 ≤ length g.text
    less = less_left n g.text some can.1

    image : on_its_way x.image ≡ length g.text
    image = ap on_its_way g.image_is

    still : on_its_way (open_still (job_state t i).session.ending (bytes_not_delivered n g.text)) ≤ length (bytes_not_delivered n g.text)
    still = still_less (job_state t i).session.ending (bytes_not_delivered n g.text)

    by_sum : (a b c d e f k l m r : ℕ) → d ≡ a + (b + c) → c ≡ k → l + 1 ≤ k → e ≤ l → f ≡ a + r → r ≤ m → (f + (b + e)) + 1 ≤ d + m
    by_sum a b c d e f k l m r whole text_is fewer kept same few = omega (arith, whole, text_is, fewer, kept, same, few)

    by_prices : (come : List Action) (m : ℕ) → prices come ≡ m → length g.sent ≤ m → bytes_undelivered (wires_after_data n g.text g.sent (job_state t i).session.ending x) + 1 ≤ counted_at (job_state t i).client.stage x + prices come
    by_prices come m is few =
        subst (λ (k : ℕ). bytes_undelivered (wires_after_data n g.text g.sent (job_state t i).session.ending x) + 1 ≤ counted_at (job_state t i).client.stage x + k) (sym is)
        (by_sum (length x.up) (length x.down) (on_its_way x.image) (counted_at (job_state t i).client.stage x) (on_its_way (open_still (job_state t i).session.ending (bytes_not_delivered n g.text))) (length (x.up ++ g.sent)) (length g.text) (length (bytes_not_delivered n g.text)) m (length g.sent) all image less still
        (length-append x.up g.sent) few)

    by_reads : (come : List Action) → come ≡ g.come → IsUnderWay ((after_all t.system (by_all i come)).job i).client.stage → GhostReadsOn t i g.text (delivered_bytes n g.text) come u g.sent → bytes_undelivered (wires_after_data n g.text g.sent (job_state t i).session.ending x) + 1 ≤ counted_at (job_state t i).client.stage x + prices come
    by_reads come is under r = by_comes r.comes
      where
        by_comes : ReadsBytes r.phase (delivered_bytes n g.text) come g.sent ⊎ (GhostReadsEnd r.phase (delivered_bytes n g.text) come t i u g.sent ⊎ ReadsShort r.phase (delivered_bytes n g.text) come g.sent) → bytes_undelivered (wires_after_data n g.text g.sent (job_state t i).session.ending x) + 1 ≤ counted_at (job_state t i).client.stage x + prices come
        by_comes (inl c) =
            by_prices come 0 (ap prices c.steps_are ∙ only_reads c.given) (let none : length g.sent ≡ 0 = ap (λ (l : List ℕ). length l) c.silent in omega (arith, none))
          where
            only_reads : (given : List ℕ) → prices (read_actions given) ≡ 0
            only_reads [] = refl
            only_reads (b ∷ given) = refl
        by_comes (inr (inl c)) =
            by_prices come (exchange_cost + 0) (ap prices c.steps_are ∙ reads_paid c.given (actions.Finishes _ ∷ []))
            (let few : length g.sent ≤ exchange_cost = sends_within (t.jobs i) (job_state u i).client (job_state t i).session.job.task (job_state u i).client.stage g.sent c.spells in omega (arith, few))
        by_comes (inr (inr c)) = absurd (chokes_last t.system i c.given (subst (λ (xs : List Action). IsUnderWay ((after_all t.system (by_all i xs)).job i).client.stage) c.steps_are under))

-- ---- ToDaemon

abbrev chance_actions : List Chance → List Action
chance_actions [] = []
chance_actions (c ∷ cs) = actions.Answers c.0 c.1 ∷ chance_actions cs

answers_are : (i : ℕ) (cs : List Chance) → answers i cs ≡ by_all i (chance_actions cs)
answers_are i [] = refl
answers_are i (c ∷ cs) = ap (λ (xs : List Transition). By i (actions.Answers c.0 c.1) ∷ xs) (answers_are i cs)

all_then : (i : ℕ) (xs ys : List Action) → by_all i (xs ++ ys) ≡ by_all i xs ++ by_all i ys
all_then i [] ys = refl
all_then i (x ∷ xs) ys = ap (λ (zs : List Transition). By i x ∷ zs) (all_then i xs ys)

-- what waits for the client behind it
record Waiting (u : Ghost) (i : ℕ) : Type 0 where
  few : length (wires u i).down ≤ exchange_cost
  none : (job_state u i).due ≡ [] → length (wires u i).down ≡ 0

waiting : (u : Ghost) (v : WorldCore) (i : ℕ) (q : Endpoint) → WorldRefines u v → slice_get v.endpoints i ≡ Some q → IsUnderWay (job_state u i).client.stage → Waiting u i
waiting u v i q h at under =
    let x = wires u i in
    let spelled = (h.endpoints i q at).means.down under in
    let both : length (x.telling ++ x.down) ≡ length x.telling + length x.down = length-append x.telling x.down in
    let most : length (x.telling ++ x.down) ≤ exchange_cost = told_within (place_of_info u.infos) q.client.progress (job_state u i).due (x.telling ++ x.down) spelled in
    record {
      few = by_sum (length x.telling) (length x.down) (length (x.telling ++ x.down)) exchange_cost both most;
      none = λ due. let zero_long : length (x.telling ++ x.down) ≡ 0 = none_told (place_of_info u.infos) q.client.progress (job_state u i).due (x.telling ++ x.down) due spelled in omega (arith, both, zero_long);
    }
  where
    by_sum : (a b c m : ℕ) → c ≡ a + b → c ≤ m → b ≤ m
    by_sum a b c m both most = omega (arith, both, most)

-- nothing is due to a client whose request is on the way
nothing_due : (t : Ghost) (w : WorldCore) (i : ℕ) (p : Endpoint) → WorldRefines t w → slice_get w.endpoints i ≡ Some p → IsUnderWay (job_state t i).client.stage → (job_state t i).served ≡ true → (wires t i).up ≢ [] → (job_state t i).due ≡ []
nothing_due t w i p h at under on some =
    let s = h.endpoints i p at in
    let me = job_state t i in
    let asks = asks_some (t.jobs i) me.client me.todo (wires t i).asking (wires t i).up some (s.means.up on) in
    no_reply i (make_for t.system i) me (device_for t.system i) me.client.stage asks.0 asks.1 under asks.2 (h.sound.exchanges i)

breaks_due : (s : SystemState) (i : ℕ) (memory : Bool) (xs : List Action) → ((after_all s (by_all i (xs ++ actions.Breaks memory ∷ []))).job i).due ≡ []
breaks_due s i memory [] = ap (λ (p : JobState). p.due) (put_there s.job i _)
breaks_due s i memory (x ∷ xs) = breaks_due (after_transition s (By i x)) i memory xs

served_before : (t : Ghost) (i : ℕ) (cs : List Chance) → IsHistory t.system (by_all i (chance_actions cs)) → ((after_all t.system (by_all i (chance_actions cs))).job i).served ≡ true → (job_state t i).served ≡ true
served_before t i [] l on = on
served_before t i (c ∷ cs) l on = l.0.0

served_in : (t u : Ghost) (i : ℕ) (steps : List Transition) (bytes : Wires) (cs : List Chance) → GhostTakes t i steps bytes u → steps ≡ answers i cs → (job_state u i).served ≡ true → ((after_all t.system (by_all i (chance_actions cs))).job i).served ≡ true
served_in t u i steps bytes cs takes is on = subst (λ (xs : List Transition). ((after_all t.system xs).job i).served ≡ true) (is ∙ answers_are i cs) (sym (ap (λ (y : Ghost). (job_state y i).served) takes.then_is) ∙ on)

-- where nothing is answered nothing is due
answered_paid : (t u : Ghost) (i : ℕ) (cs : List Chance) → (job_state u i).due ≡ ((after_all t.system (by_all i (chance_actions cs))).job i).due → Waiting u i → (job_state t i).due ≡ [] → length (wires u i).down ≤ prices (chance_actions cs)
answered_paid t u i [] same h none = let zero_long : length (wires u i).down ≡ 0 = h.none (same ∙ none) in omega (arith, zero_long)
answered_paid t u i (c ∷ cs) same h none = let few : length (wires u i).down ≤ exchange_cost = h.few in omega (arith, few)

pub answers_own : (t u : Ghost) (w v : WorldCore) (i n : ℕ) (p q : Endpoint) (steps : List Transition) → WorldRefines t w → WorldRefines u v → slice_get w.endpoints i ≡ Some p → slice_get v.endpoints i ≡ Some q → GhostCan t i (events.ToDaemon n) → AnswersSome n t i steps u → Own t i steps u
answers_own t u w v i n p q steps h k at there can a = by_answers a
  where
    x : Wires
    x = wires t i

    all : counted_at (job_state t i).client.stage x ≡ bytes_undelivered x
    all = connected t i (unlinked t w i p h at can.0)

    less : length (bytes_not_delivered n x.up) + 1 ≤ length x.up
    less = less_left n x.up can.1 can.2

    by_sum : (a b c d e f m : ℕ) → d ≡ a + (b + c) → e + 1 ≤ a → f ≤ m → (e + (f + c)) + 1 ≤ d + m
    by_sum a b c d e f m whole fewer few = omega (arith, whole, fewer, few)

    -- the bytes then: the replies that wait are paid
    paid : (come : List Action) (bytes : Wires) → bytes.up ≡ bytes_not_delivered n x.up → bytes.image ≡ x.image → length bytes.down ≤ prices come → bytes_undelivered bytes + 1 ≤ counted_at (job_state t i).client.stage x + prices come
    paid come bytes up image few =
        by_sum (length x.up) (length x.down) (on_its_way bytes.image) (counted_at (job_state t i).client.stage x) (length bytes.up) (length bytes.down) (prices come)
        (subst (λ (o : Option (List ℕ)). counted_at (job_state t i).client.stage x ≡ length x.up + (length x.down + on_its_way o)) (sym image) all) (subst (λ (l : List ℕ). length l + 1 ≤ length x.up) (sym up) less) few

    waits : (come : List Action) (bytes : Wires) → u ≡ ghost_after t i (by_all i come) bytes (t.history i) (t.pages i) → IsUnderWay ((after_all t.system (by_all i come)).job i).client.stage → Waiting u i
    waits come bytes is under = waiting u v i q k there (subst (λ (y : Ghost). IsUnderWay (job_state y i).client.stage) (sym is) under)

    down_is : (come : List Action) (bytes : Wires) → u ≡ ghost_after t i (by_all i come) bytes (t.history i) (t.pages i) → (wires u i).down ≡ bytes.down
    down_is come bytes is = ap (λ (y : Ghost). (wires y i).down) is ∙ ap (λ (y : Wires). y.down) (put_there t.wires i bytes)

    answered : (cs : List Chance) (bytes : Wires) → bytes.up ≡ bytes_not_delivered n x.up → bytes.image ≡ x.image → steps ≡ answers i cs → GhostTakes t i steps bytes u → (IsHistory t.system (by_all i (chance_actions cs)) → (job_state t i).served ≡ true) → Own t i steps u
    answered cs bytes up image is takes served =
        let come = chance_actions cs in
        let steps_are = is ∙ answers_are i cs in
        let then_is : u ≡ ghost_after t i (by_all i come) bytes (t.history i) (t.pages i) = takes.then_is ∙ ap (λ (xs : List Transition). ghost_after t i xs bytes (t.history i) (t.pages i)) steps_are in
        by_takes t i steps u come bytes steps_are takes
        (λ legal under.
        paid come bytes up image
        (subst (λ (l : List ℕ). length l ≤ prices come) (down_is come bytes then_is)
        (answered_paid t u i cs (ap (λ (y : Ghost). (job_state y i).due) then_is) (waits come bytes then_is under) (nothing_due t w i p h at (was_all t.system i come legal under) (served legal) can.1))))

    broken : (cs : List Chance) (memory : Bool) (bytes : Wires) → bytes.up ≡ bytes_not_delivered n x.up → bytes.image ≡ x.image → steps ≡ answers i cs ++ By i (actions.Breaks memory) ∷ [] → GhostTakes t i steps bytes u → Own t i steps u
    broken cs memory bytes up image is takes =
        let come = chance_actions cs ++ actions.Breaks memory ∷ [] in
        let steps_are : steps ≡ by_all i come = is ∙ (ap (λ (xs : List Transition). xs ++ By i (actions.Breaks memory) ∷ []) (answers_are i cs) ∙ sym (all_then i (chance_actions cs) (actions.Breaks memory ∷ []))) in
        let then_is : u ≡ ghost_after t i (by_all i come) bytes (t.history i) (t.pages i) = takes.then_is ∙ ap (λ (xs : List Transition). ghost_after t i xs bytes (t.history i) (t.pages i)) steps_are in
        by_takes t i steps u come bytes steps_are takes
        (λ legal under.
        let none : length (wires u i).down ≡ 0 = (waits come bytes then_is under).none (ap (λ (y : Ghost). (job_state y i).due) then_is ∙ breaks_due t.system i memory (chance_actions cs)) in
        let same : length (wires u i).down ≡ length bytes.down = ap (λ (l : List ℕ). length l) (down_is come bytes then_is) in
        paid come bytes up image (omega (arith, none, same)))

    by_answers : AnswersSome n t i steps u → Own t i steps u
    by_answers (GoesOn asked rest told c more e takes on) = answered e.chances _ refl refl e.steps_are takes (λ legal. served_before t i e.chances legal (served_in t u i steps _ e.chances takes e.steps_are on))
    by_answers (IsOver asked rest told c e takes was off) = answered e.chances _ refl refl e.steps_are takes (λ _. was)
    by_answers (BreaksOff memory asked rest told before c e cut is takes) = broken e.chances memory _ refl refl (is ∙ ap (λ (xs : List Transition). xs ++ By i (actions.Breaks memory) ∷ []) e.steps_are) takes
    by_answers (WasOver off none takes) =
        by_takes t i steps u [] (record x { up = bytes_not_delivered n x.up }) none (subst (λ (xs : List Transition). GhostTakes t i xs (record x { up = bytes_not_delivered n x.up }) u) (sym none) takes)
        (λ _ _. by_less (length x.up) (length x.down) (on_its_way x.image) (counted_at (job_state t i).client.stage x) (length (bytes_not_delivered n x.up)) all less)
      where
        by_less : (a b c d e : ℕ) → d ≡ a + (b + c) → e + 1 ≤ a → (e + (b + c)) + 1 ≤ d + 0
        by_less a b c d e whole fewer = omega (arith, whole, fewer)
