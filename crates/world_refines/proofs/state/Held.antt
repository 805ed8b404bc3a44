-- A SET on the way is of an option as the device has it, whatever steps come.
use Rattle.std.proofs.Common.{◌≡◌, ◌≢◌, ◌⊎◌, inl, inr, ◌∙◌, ℕ, List, [], ◌∷◌, ◌++◌, Option, Bool, true, false, cond, eqb, eqb-true, refl, sym, ap, subst}
use Rattle.std.proofs.lemmas.Bool.{eqb-false}
use Rattle.option_desc.specs.declared.descriptor.Descriptor.{Descriptor}
use Rattle.system_model.specs.AbstractMessages.{Challenge, AbstractReply, AbstractRequest, Set, Start}
use Rattle.system_model.specs.Devices.{Make, descriptors_in_force}
use Rattle.system_model.specs.Client.{AbstractJob, Idle, Running, Done, Ended, JobStage, AbstractTask, List_, Show, SetOnly, Scan, Batch, AbstractProgress, Greeting, Listing, Opening, Allowing, Describing, Putting, Getting, Starting, Shaping, Imaging, request_awaited, requests_sent, abstract_goodbye, abstract_farewell}
use Rattle.system_model.specs.AbstractDevices.{AbstractDevice, put_down, is_held_by, without_first}
use Rattle.system_model.specs.Daemon.{TransferState, Quiet, Waiting, Streaming, Ending, FailureCounts}
use Rattle.system_model.specs.Actions as actions
use Rattle.system_model.specs.Actions.{Action, job_after_action, device_after, answer_next, device_after_answer, image_off}
use Rattle.system_model.specs.SystemStates.{JobState, SystemState, with_entry, listed_devices, make_for, device_for, wanted_place}
use Rattle.system_model.specs.Transitions.{Transition, By, Loads, Unplugs, Uses, IsHistory, IsEnabled, IsUnderWay, IsActionEnabled, after_transition, after_all, state_with_job, with_page_laid_in, without_listing}
use Rattle.system_model.specs.Sync.{InSync}
use Rattle.system_model.specs.Invariants.{Invariant, StageInvariant}
use Rattle.system_model.proofs.Kept.{images}
use Rattle.system_model.proofs.OtherJobs.{Same, put_same}
use Rattle.system_model.proofs.InvariantAfter.{kept, same_job, sound_after}
use Rattle.system_model.proofs.Treats.{treats, same_treated}
use Rattle.system_model.proofs.Using.{used_same}
use Rattle.world_refines.specs.Speaks.{AsksAsHeld, SetsAsHeld, SetsNothing}

-- ---- requests

-- no SET is of no option
nothing_held : (i : ℕ) (k : Make) (known : List Descriptor) (dev : AbstractDevice) (todo : List AbstractRequest) → SetsNothing todo → SetsAsHeld i k known dev todo
nothing_held i k known dev [] h = tt
nothing_held i k known dev (Set n value ∷ todo) h = absurd h
nothing_held i k known dev (Start ∷ todo) h = absurd h
nothing_held i k known dev (q ∷ todo) h = h

pub behind : (i : ℕ) (k : Make) (known : List Descriptor) (dev : AbstractDevice) (q : AbstractRequest) (todo : List AbstractRequest) → SetsAsHeld i k known dev (q ∷ todo) → SetsNothing todo
behind i k known dev (Set n value) todo h = h.2
behind i k known dev q todo h = h

nothing_more : (todo more : List AbstractRequest) → SetsNothing todo → SetsNothing more → SetsNothing (todo ++ more)
nothing_more [] more h m = m
nothing_more (Set n value ∷ todo) more h m = absurd h
nothing_more (Start ∷ todo) more h m = absurd h
nothing_more (q ∷ todo) more h m = nothing_more todo more h m

held_more : (i : ℕ) (k : Make) (known : List Descriptor) (dev : AbstractDevice) (todo more : List AbstractRequest) → SetsAsHeld i k known dev todo → SetsNothing more → SetsAsHeld i k known dev (todo ++ more)
held_more i k known dev [] more h m = nothing_held i k known dev more m
held_more i k known dev (Set n value ∷ todo) more h m = (h.0, h.1, nothing_more todo more h.2 m)
held_more i k known dev (q ∷ todo) more h m = nothing_more todo more h m

held_none : (i : ℕ) (k : Make) (known : List Descriptor) (dev : AbstractDevice) (todo : List AbstractRequest) → todo ≡ [] → SetsAsHeld i k known dev todo
held_none i k known dev todo e = subst (SetsAsHeld i k known dev) (sym e) tt

-- what another does to the device
held_same : (i : ℕ) (k : Make) (known : List Descriptor) (dev new : AbstractDevice) (todo : List AbstractRequest) → Same i dev new → SetsAsHeld i k known dev todo → SetsAsHeld i k known new todo
held_same i k known dev new [] s h = tt
held_same i k known dev new (Set n value ∷ todo) s h = let e = s.held h.0 in (e.0, h.1 ∙ ap (descriptors_in_force k) (sym e.1), h.2)
held_same i k known dev new (q ∷ todo) s h = h

-- what does not come to its holder, nor to its options
held_still : (i : ℕ) (k : Make) (known : List Descriptor) (dev new : AbstractDevice) (todo : List AbstractRequest) → new.holder ≡ dev.holder → new.options ≡ dev.options → SetsAsHeld i k known dev todo → SetsAsHeld i k known new todo
held_still i k known dev new [] e f h = tt
held_still i k known dev new (Set n value ∷ todo) e f h = (e ∙ h.0, h.1 ∙ ap (descriptors_in_force k) (sym f), h.2)
held_still i k known dev new (q ∷ todo) e f h = h

-- ---- a job that is under way

asked_held : (i : ℕ) (k : Make) (p : JobState) (dev : AbstractDevice) (g : AbstractProgress) → InSync i k p.session p.client dev g → SetsAsHeld i k p.client.known dev (request_awaited g)
asked_held i k p dev (Putting n value requested left) h = (h.settles.held.mine, h.known ∙ ap (descriptors_in_force k) (sym h.settles.held.options_are), tt)
asked_held i k p dev g h = tt

under_held : (i : ℕ) (k : Make) (p : JobState) (dev : AbstractDevice) (st : JobStage) → StageInvariant i k p dev st → IsUnderWay st → SetsAsHeld i k p.client.known dev p.todo
under_held i k p dev Idle h u = held_none i k p.client.known dev p.todo h.1
under_held i k p dev (Running g) (inl h) u = subst (SetsAsHeld i k p.client.known dev) (sym h.todo) (asked_held i k p dev g h.in_sync)
under_held i k p dev (Running g) (inr (inl h)) u = held_none i k p.client.known dev p.todo h.todo
under_held i k p dev (Running g) (inr (inr h)) u = held_none i k p.client.known dev p.todo h.todo
under_held i k p dev Done h u = absurd u
under_held i k p dev (Ended status why) h u = absurd u

under_or : (st : JobStage) → IsUnderWay st ⊎ (IsUnderWay st → ⊥)
under_or Idle = inl tt
under_or (Running g) = inl tt
under_or Done = inr (λ x. x)
under_or (Ended status why) = inr (λ x. x)

-- ---- a job that is over then

goodbye_sets : (task : AbstractTask) → SetsNothing (abstract_goodbye task)
goodbye_sets List_ = tt
goodbye_sets Show = tt
goodbye_sets SetOnly = tt
goodbye_sets Scan = tt
goodbye_sets (Batch n) = tt

sends_sets : (task : AbstractTask) (st : JobStage) → (IsUnderWay st → ⊥) → SetsNothing (requests_sent task st)
sends_sets task Idle n = tt
sends_sets task (Running g) n = absurd (n tt)
sends_sets task Done n = goodbye_sets task
sends_sets task (Ended status why) n = tt

farewell_at : (g : AbstractProgress) → SetsNothing (abstract_farewell (Running g))
farewell_at Greeting = tt
farewell_at Listing = tt
farewell_at Opening = tt
farewell_at (Allowing challenge) = tt
farewell_at (Describing left) = tt
farewell_at (Putting n value requested left) = tt
farewell_at (Getting n left) = tt
farewell_at Starting = tt
farewell_at Shaping = tt
farewell_at (Imaging params heard) = tt

farewell_sets : (st : JobStage) → SetsNothing (abstract_farewell st)
farewell_sets Idle = tt
farewell_sets (Running g) = farewell_at g
farewell_sets Done = tt
farewell_sets (Ended status why) = tt

-- it has nothing on the way as it hears, or takes the data of a frame
hears_empty : (i : ℕ) (k : Make) (p : JobState) (dev : AbstractDevice) (g : AbstractProgress) (r : AbstractReply) (rest : List AbstractReply) (st : JobStage) → st ≡ Running g → p.due ≡ r ∷ rest → StageInvariant i k p dev st → p.todo ≡ []
hears_empty i k p dev g r rest st e due h = by_stage (subst (StageInvariant i k p dev) e h)
  where
    by_stage : StageInvariant i k p dev (Running g) → p.todo ≡ []
    by_stage (inl asks) = absurd (let clash : [] ≡ r ∷ rest = sym asks.due ∙ due in cc)
    by_stage (inr (inl told)) = told.todo
    by_stage (inr (inr dead)) = dead.todo

images_empty : (i : ℕ) (k : Make) (p : JobState) (dev : AbstractDevice) (params : _) (heard : List ℕ) (st : JobStage) → st ≡ Running (Imaging params heard) → StageInvariant i k p dev st → p.todo ≡ []
images_empty i k p dev params heard st e h = (images i k p dev params heard (subst (StageInvariant i k p dev) e h)).todo

sends_held : (i : ℕ) (k : Make) (known : List Descriptor) (dev : AbstractDevice) (task : AbstractTask) (st : JobStage) (todo : List AbstractRequest) → todo ≡ [] → (IsUnderWay st → ⊥) → SetsAsHeld i k known dev (todo ++ requests_sent task st)
sends_held i k known dev task st todo e n = subst (λ (x : List AbstractRequest). SetsAsHeld i k known dev (x ++ requests_sent task st)) (sym e) (nothing_held i k known dev (requests_sent task st) (sends_sets task st n))

next_held : (i : ℕ) (k : Make) (ds : List ℕ) (p : JobState) (dev : AbstractDevice) (c : Challenge) (f : Option FailureCounts) (todo : List AbstractRequest) → p.todo ≡ todo → SetsAsHeld i k p.client.known dev todo →
    SetsAsHeld i k (answer_next i k ds p dev c f todo).client.known (device_after_answer i k ds p dev c f todo) (answer_next i k ds p dev c f todo).todo
next_held i k ds p dev c f [] e h = held_none i k p.client.known dev p.todo e
next_held i k ds p dev c f (q ∷ rest) e h =
    subst (SetsAsHeld i k p.client.known (device_after_answer i k ds p dev c f (q ∷ rest))) (sym (ap (λ (x : List AbstractRequest). without_first x) e)) (nothing_held i k p.client.known (device_after_answer i k ds p dev c f (q ∷ rest)) rest (behind i k p.client.known dev q rest h))

off_at : (i : ℕ) (dev : AbstractDevice) (b : Bool) → ((cond b (put_down dev) dev).holder ≡ dev.holder) × ((cond b (put_down dev) dev).options ≡ dev.options)
off_at i dev true = (refl, refl)
off_at i dev false = (refl, refl)

off_same : (i : ℕ) (c : TransferState) (dev : AbstractDevice) → ((image_off i c dev).holder ≡ dev.holder) × ((image_off i c dev).options ≡ dev.options)
off_same i Quiet dev = (refl, refl)
off_same i Waiting dev = (refl, refl)
off_same i Streaming dev = off_at i dev (is_held_by i dev.holder)
off_same i Ending dev = (refl, refl)

over_held : (i : ℕ) (k : Make) (ds : List ℕ) (p : JobState) (dev : AbstractDevice) (x : Action) → IsActionEnabled i k p dev x → StageInvariant i k p dev p.client.stage → SetsAsHeld i k p.client.known dev p.todo → (IsUnderWay (job_after_action i k ds p dev x).client.stage → ⊥) →
    SetsAsHeld i k (job_after_action i k ds p dev x).client.known (device_after i k ds p dev x) (job_after_action i k ds p dev x).todo
over_held i k ds p dev actions.Connects may t h n = absurd (n tt)
over_held i k ds p dev (actions.Answers challenge fault) may t h n = next_held i k ds p dev challenge fault p.todo refl h
over_held i k ds p dev (actions.Hears r) may t h n = sends_held i k _ dev p.session.job.task _ p.todo (hears_empty i k p dev may.0.0 r may.1.0 p.client.stage may.0.1 may.1.1 t) n
over_held i k ds p dev actions.Dials may t h n = h
over_held i k ds p dev (actions.Turns bytes) may t h n = held_still i k p.client.known dev (device_after i k ds p dev (actions.Turns bytes)) p.todo refl refl h
over_held i k ds p dev actions.TurnsLast may t h n = held_still i k p.client.known dev (device_after i k ds p dev actions.TurnsLast) p.todo refl refl h
over_held i k ds p dev (actions.TurnsNamed status) may t h n = held_still i k p.client.known dev (device_after i k ds p dev (actions.TurnsNamed status)) p.todo refl refl h
over_held i k ds p dev actions.TurnsShort may t h n = held_still i k p.client.known dev (device_after i k ds p dev actions.TurnsShort) p.todo refl refl h
over_held i k ds p dev (actions.TurnsFault fault) may t h n = held_still i k p.client.known dev (device_after i k ds p dev (actions.TurnsFault fault)) p.todo refl refl h
over_held i k ds p dev actions.TurnsOff may t h n = h
over_held i k ds p dev (actions.Reads bytes) may t h n = held_none i k _ dev p.todo (images_empty i k p dev may.0.0 may.0.1 p.client.stage may.0.2 t)
over_held i k ds p dev (actions.Finishes status) may t h n = sends_held i k _ dev p.session.job.task _ p.todo (images_empty i k p dev may.0.0 may.0.1 p.client.stage may.0.2 t) n
over_held i k ds p dev (actions.Loses memory) may t h n = tt
over_held i k ds p dev (actions.LosesImage memory) may t h n = let e = off_same i p.session.transfer dev in held_still i k p.client.known dev (image_off i p.session.transfer dev) p.todo e.0 e.1 h
over_held i k ds p dev (actions.Breaks memory) may t h n = tt
over_held i k ds p dev actions.RunsOutOfMemory may t h n = h
over_held i k ds p dev actions.Stops may t h n = held_more i k p.client.known dev p.todo (abstract_farewell p.client.stage) h (farewell_sets p.client.stage)

-- ---- whatever step comes

at_device : (j : ℕ) (k : Make) (p : JobState) (dev new : AbstractDevice) (x : Bool) → (x ≡ true → SetsAsHeld j k p.client.known new p.todo) → SetsAsHeld j k p.client.known dev p.todo → SetsAsHeld j k p.client.known (cond x new dev) p.todo
at_device j k p dev new true one all = one refl
at_device j k p dev new false one all = all

-- a device that another comes to
seen_by : (s : SystemState) (w j : ℕ) (dev : AbstractDevice) → ((l : ℕ) → AsksAsHeld s l) → (wanted_place s j ≡ w → Same j (s.device w) dev) → SetsAsHeld j (make_for s j) (s.job j).client.known (with_entry s.device w dev (wanted_place s j)) (s.job j).todo
seen_by s w j dev h same =
    at_device j (make_for s j) (s.job j) (device_for s j) dev (eqb (wanted_place s j) w)
    (λ e. let q : wanted_place s j ≡ w = eqb-true (wanted_place s j) w e in held_same j (make_for s j) (s.job j).client.known (device_for s j) dev (s.job j).todo (subst (λ (n : ℕ). Same j (s.device n) dev) (sym q) (same q)) (h j))
    (h j)

at_party : (s : SystemState) (i j w : ℕ) (p : JobState) (dev : AbstractDevice) (x : Bool) → (x ≡ true → j ≡ i) → (x ≡ false → j ≢ i) → p.session.job.wants ≡ w → SetsAsHeld i (s.make w) p.client.known dev p.todo → ((l : ℕ) → AsksAsHeld s l) → ((l : ℕ) → l ≢ i → Same l (s.device w) dev) →
    SetsAsHeld j (s.make (cond x p (s.job j)).session.job.wants) (cond x p (s.job j)).client.known (with_entry s.device w dev (cond x p (s.job j)).session.job.wants) (cond x p (s.job j)).todo
at_party s i j w p dev true here there e own h others =
    rw (here refl) (subst (λ (n : ℕ). SetsAsHeld i (s.make n) p.client.known (with_entry s.device w dev n) p.todo) (sym e) (rw (put_same s.device w dev) own))
at_party s i j w p dev false here there e own h others = seen_by s w j dev h (λ named. others j (there refl))

change_held : (s : SystemState) (i : ℕ) (p : JobState) (dev : AbstractDevice) → p.session.job.wants ≡ wanted_place s i → SetsAsHeld i (make_for s i) p.client.known dev p.todo → ((l : ℕ) → AsksAsHeld s l) → ((l : ℕ) → l ≢ i → Same l (device_for s i) dev) → (j : ℕ) → AsksAsHeld (state_with_job s i p dev) j
change_held s i p dev e own h others j = at_party s i j (wanted_place s i) p dev (eqb j i) (eqb-true j i) (eqb-false j i) e own h others

-- its own, where it is under way then, or is over
own_by : (i : ℕ) (k : Make) (ds : List ℕ) (p : JobState) (dev : AbstractDevice) (x : Action) → IsActionEnabled i k p dev x → StageInvariant i k p dev p.client.stage → SetsAsHeld i k p.client.known dev p.todo → StageInvariant i k (job_after_action i k ds p dev x) (device_after i k ds p dev x) (job_after_action i k ds p dev x).client.stage →
    IsUnderWay (job_after_action i k ds p dev x).client.stage ⊎ (IsUnderWay (job_after_action i k ds p dev x).client.stage → ⊥) → SetsAsHeld i k (job_after_action i k ds p dev x).client.known (device_after i k ds p dev x) (job_after_action i k ds p dev x).todo
own_by i k ds p dev x may t h after_transition (inl u) = under_held i k (job_after_action i k ds p dev x) (device_after i k ds p dev x) (job_after_action i k ds p dev x).client.stage after_transition u
own_by i k ds p dev x may t h after_transition (inr n) = over_held i k ds p dev x may t h n

held_after : (s : SystemState) (x : Transition) → Invariant s → ((l : ℕ) → AsksAsHeld s l) → IsEnabled s x → (j : ℕ) → AsksAsHeld (after_transition s x) j
held_after s (By i x) sound h may =
    let k = make_for s i in
    let p = s.job i in
    let dev = device_for s i in
    let t = treats i k (listed_devices s) p dev x may in
    let stands = kept i k (listed_devices s) p dev x may (sound.fit (wanted_place s i)) (sound.exchanges i) (sound.pages i) in
    let own = own_by i k (listed_devices s) p dev x may (sound.exchanges i) (h i) stands.0 (under_or (job_after_action i k (listed_devices s) p dev x).client.stage) in
    change_held s i (job_after_action i k (listed_devices s) p dev x) (device_after i k (listed_devices s) p dev x) (ap (λ (job : AbstractJob). job.wants) (same_job i k (listed_devices s) p dev x)) own h (λ l n. same_treated i l k dev _ n t)
held_after s (Loads d page) sound h may = λ j. seen_by s d j (with_page_laid_in (s.make d) page (s.device d)) h (λ named. record { held = λ x. (x, refl, refl); free = λ x. x })
held_after s (Unplugs d) sound h may = λ j. seen_by s d j (without_listing (s.device d)) h (λ named. record { held = λ x. (x, refl, refl); free = λ x. x })
held_after s (Uses i d shown left) sound h may = λ j. seen_by s d j left h (used_same s i d shown left sound may.0 may.1 j)

pub held_after_all : (s : SystemState) (xs : List Transition) → Invariant s → ((l : ℕ) → AsksAsHeld s l) → IsHistory s xs → (j : ℕ) → AsksAsHeld (after_all s xs) j
held_after_all s [] sound h may = h
held_after_all s (x ∷ xs) sound h may = held_after_all (after_transition s x) xs (sound_after s x sound may.0) (held_after s x sound h may.0) may.1
