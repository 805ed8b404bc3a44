-- What a step leaves to the jobs that it does not come to.
use Rattle.std.proofs.Common.{◌≡◌, ◌∙◌, ◌≢◌, ℕ, List, Bool, true, false, Some, refl, sym, subst, inl, inr, eqb, cond, eqb-true}
use Rattle.std.proofs.lemmas.Bool.{eqb-false, eq-eqb}
use Rattle.page_picture.specs.Shows.{Frame}
use Rattle.system_model.specs.Devices.{Make, OptionsInForce}
use Rattle.system_model.specs.Client.{ClientView, JobStage, Idle, Running, Done, Ended, AbstractProgress, Greeting, Listing, Opening, Allowing, Describing, Putting, Getting, Starting, Shaping, Imaging}
use Rattle.system_model.specs.AbstractDevices.{AbstractDevice, ScanPhase, DeviceInvariant}
use Rattle.system_model.specs.SystemStates.{SessionView, JobState, SystemState, with_entry, wanted_place, make_for, device_for}
use Rattle.system_model.specs.Transitions.{state_with_job, with_device_at}
use Rattle.system_model.specs.Sync.{HoldsDevice, NotYet, SettingsInForce, DataUnderWay, InSync}
use Rattle.system_model.specs.Invariants.{IsRight, StageInvariant, PagesAreOfStarts, Invariant}

-- what client i sees of a device is as it was
pub record Same (i : ℕ) (dev new : AbstractDevice) : Type 0 where
  pub held : dev.holder ≡ Some i → (new.holder ≡ Some i) × (new.options ≡ dev.options) × (new.phase ≡ dev.phase)
  pub free : dev.holder ≢ Some i → new.holder ≢ Some i

pub same_self : (i : ℕ) (dev : AbstractDevice) → Same i dev dev
same_self i dev = record { held = λ h. (h, refl, refl); free = λ h. h }

kept_held : (i : ℕ) (dev new : AbstractDevice) (o : OptionsInForce) (ph : ScanPhase) → Same i dev new → HoldsDevice i dev o ph → HoldsDevice i new o ph
kept_held i dev new o ph s h =
    let e = s.held h.mine in
    record { mine = e.0; options_are = e.1 ∙ h.options_are; phase_is = e.2 ∙ h.phase_is }

kept_free : (i : ℕ) (b : SessionView) (m : ClientView) (dev new : AbstractDevice) (a : _) → Same i dev new → NotYet i b m dev a → NotYet i b m new a
kept_free i b m dev new a s h =
    record {
      free = s.free h.free;
      transfer = h.transfer;
      flight = h.flight;
      ending = h.ending;
      awaits = h.awaits;
      sent = h.sent;
      started = h.started;
      shown = h.shown;
      reports = h.reports;
      values = h.values;
      frames = h.frames;
      pages = h.pages;
    }

kept_settles : (i : ℕ) (k : Make) (b : SessionView) (m : ClientView) (dev new : AbstractDevice) (left : List _) (o : OptionsInForce) → Same i dev new → SettingsInForce i k b m dev left o → SettingsInForce i k b m new left o
kept_settles i k b m dev new left o s h =
    record {
      held = kept_held i dev new _ _ s h.held;
      still = h.still;
      so_far = h.so_far;
      permitted = h.permitted;
      opens = h.opens;
      started = h.started;
      values = h.values;
      frames = h.frames;
      pages = h.pages;
    }

kept_carries : (i : ℕ) (k : Make) (b : SessionView) (dev new : AbstractDevice) (o : OptionsInForce) (more : List Frame) (heard rest : List ℕ) → Same i dev new → DataUnderWay i k b dev o more heard rest → DataUnderWay i k b new o more heard rest
kept_carries i k b dev new o more heard rest s (inl h) =
    inl (record { meant = h.meant; held = kept_held i dev new _ _ s h.held; ending = h.ending; transfer = h.transfer; unread = h.unread })
kept_carries i k b dev new o more heard rest s (inr (inl h)) =
    inr (inl (record { meant = h.meant; held = kept_held i dev new _ _ s h.held; nothing = h.nothing; ending = h.ending; transfer = h.transfer }))
kept_carries i k b dev new o more heard rest s (inr (inr (inl h))) =
    inr (inr (inl (record { mine = (s.held h.mine).0; ending = h.ending; flight = h.flight; heard_none = h.heard_none; cause = h.cause; transfer = h.transfer })))
kept_carries i k b dev new o more heard rest s (inr (inr (inr h))) =
    inr (inr (inr (record { mine = (s.held h.mine).0; status = h.status; ending = h.ending; not_eof = h.not_eof; not_good = h.not_good; cause = h.cause; transfer = h.transfer })))

pub kept_sync : (i : ℕ) (k : Make) (b : SessionView) (m : ClientView) (dev new : AbstractDevice) (g : AbstractProgress) → Same i dev new → InSync i k b m dev g → InSync i k b m new g
kept_sync i k b m dev new Greeting s h = kept_free i b m dev new _ s h
kept_sync i k b m dev new Listing s h = (kept_free i b m dev new _ s h.0, h.1)
kept_sync i k b m dev new Opening s h = (kept_free i b m dev new _ s h.0, h.1)
kept_sync i k b m dev new (Allowing c) s h = (kept_free i b m dev new _ s h.0, h.1)
kept_sync i k b m dev new (Describing left) s h = (h.0, kept_settles i k b m dev new left h.0 s h.1)
kept_sync i k b m dev new (Putting n value requested left) s h =
    record { options = h.options; settles = kept_settles i k b m dev new _ _ s h.settles; known = h.known; resolved = h.resolved }
kept_sync i k b m dev new (Getting n left) s h =
    record {
      options = h.options;
      held = kept_held i dev new _ _ s h.held;
      still = h.still;
      settled = h.settled;
      task = h.task;
      known = h.known;
      so_far = h.so_far;
      told = h.told;
      few = h.few;
    }
kept_sync i k b m dev new Starting s (inl h) =
    inl (record {
      options = h.options;
      held = kept_held i dev new _ _ s h.held;
      still = h.still;
      settled = h.settled;
      scans = h.scans;
      frames = h.frames;
      pictures = h.pictures;
      fewer = h.fewer;
    })
kept_sync i k b m dev new Starting s (inr h) =
    inr (record { last = h.last; frame = h.frame; more = h.more; continues = h.continues; held = kept_held i dev new _ _ s h.held; still = h.still })
kept_sync i k b m dev new Shaping s h =
    record {
      frame = h.frame;
      more = h.more;
      continues = h.continues;
      held = kept_held i dev new _ _ s h.held;
      order = h.order;
      transfer = h.transfer;
      flight = h.flight;
      ending = h.ending;
      awaited = h.awaited;
    }
kept_sync i k b m dev new (Imaging params heard) s h =
    record {
      frame = h.frame;
      more = h.more;
      continues = h.continues;
      params_are = h.params_are;
      order = h.order;
      awaited = h.awaited;
      rest = h.rest;
      payload = h.payload;
      carries = kept_carries i k b dev new _ h.more heard h.rest s h.carries;
    }

pub kept_right : (i : ℕ) (k : Make) (b : SessionView) (m : ClientView) (dev new : AbstractDevice) (st : JobStage) → Same i dev new → IsRight i k b m dev st → IsRight i k b m new st
kept_right i k b m dev new Idle s h = h
kept_right i k b m dev new (Running g) s h = kept_sync i k b m dev new g s h
kept_right i k b m dev new Done s h = h
kept_right i k b m dev new (Ended status why) s h = h

pub kept_exchanges : (i : ℕ) (k : Make) (p : JobState) (dev new : AbstractDevice) (st : JobStage) → Same i dev new → StageInvariant i k p dev st → StageInvariant i k p new st
kept_exchanges i k p dev new Idle s h = (h.0, h.1, h.2, kept_free i p.session p.client dev new _ s h.3)
kept_exchanges i k p dev new (Running g) s (inl h) =
    inl (record { linked = h.linked; served = h.served; todo = h.todo; due = h.due; in_sync = kept_sync i k p.session p.client dev new g s h.in_sync })
kept_exchanges i k p dev new (Running g) s (inr (inl h)) =
    inr (inl (record { linked = h.linked; served = h.served; todo = h.todo; reply = h.reply; due = h.due; waits = h.waits; calm = h.calm; right = kept_right i k p.session _ dev new _ s h.right }))
kept_exchanges i k p dev new (Running g) s (inr (inr h)) = inr (inr h)
kept_exchanges i k p dev new Done s h = h
kept_exchanges i k p dev new (Ended status why) s h = h

pub put_same : {X : Type 0} (f : ℕ → X) (i : ℕ) (x : X) → with_entry f i x i ≡ x
put_same f i x = let e : eqb i i ≡ true = eq-eqb i i refl in rw e refl

-- one device put in another's place
at_device : (i : ℕ) (k : Make) (p : JobState) (dev new : AbstractDevice) (x : Bool) → (x ≡ true → StageInvariant i k p new p.client.stage) → StageInvariant i k p dev p.client.stage → StageInvariant i k p (cond x new dev) p.client.stage
at_device i k p dev new true one all = one refl
at_device i k p dev new false one all = all

fit_at : (k : ℕ → Make) (f : ℕ → AbstractDevice) (w d : ℕ) (dev : AbstractDevice) (x : Bool) → (x ≡ true → d ≡ w) → DeviceInvariant (k w) dev → DeviceInvariant (k d) (f d) → DeviceInvariant (k d) (cond x dev (f d))
fit_at k f w d dev true here one all = rw (here refl) one
fit_at k f w d dev false here one all = all

-- a device that another comes to, seen by j where j names it
seen_where : (s : SystemState) (w j : ℕ) (dev : AbstractDevice) → Invariant s → (wanted_place s j ≡ w → Same j (s.device w) dev) → StageInvariant j (make_for s j) (s.job j) (with_entry s.device w dev (wanted_place s j)) (s.job j).client.stage
seen_where s w j dev h same =
    at_device j _ (s.job j) (device_for s j) dev (eqb (wanted_place s j) w)
    (λ e. let q : wanted_place s j ≡ w = eqb-true _ _ e in kept_exchanges j (make_for s j) (s.job j) (device_for s j) dev (s.job j).client.stage (subst (λ (n : ℕ). Same j (s.device n) dev) (sym q) (same q)) (h.exchanges j))
    (h.exchanges j)

seen_by : (s : SystemState) (w j : ℕ) (dev : AbstractDevice) → Invariant s → Same j (s.device w) dev → StageInvariant j (make_for s j) (s.job j) (with_entry s.device w dev (wanted_place s j)) (s.job j).client.stage
seen_by s w j dev h same = seen_where s w j dev h (λ q. same)

-- one job state put in another's place
at_party : (s : SystemState) (i j w : ℕ) (p : JobState) (dev : AbstractDevice) (x : Bool) → (x ≡ true → j ≡ i) → (x ≡ false → j ≢ i) → p.session.job.wants ≡ w →
    StageInvariant i (s.make w) p dev p.client.stage → Invariant s → ((l : ℕ) → l ≢ i → Same l (s.device w) dev) →
    StageInvariant j (s.make (cond x p (s.job j)).session.job.wants) (cond x p (s.job j)) (with_entry s.device w dev (cond x p (s.job j)).session.job.wants) (cond x p (s.job j)).client.stage
at_party s i j w p dev true here there e t h others =
    rw (here refl) (subst (λ (n : ℕ). StageInvariant i (s.make n) p (with_entry s.device w dev n) p.client.stage) (sym e) (rw (put_same s.device w dev) t))
at_party s i j w p dev false here there e t h others = seen_by s w j dev h (others j (there refl))

pages_at : (s : SystemState) (i j : ℕ) (p : JobState) (x : Bool) → (x ≡ true → j ≡ i) → p.session.job.wants ≡ wanted_place s i → PagesAreOfStarts (make_for s i) p.session p.client → Invariant s →
    PagesAreOfStarts (s.make (cond x p (s.job j)).session.job.wants) (cond x p (s.job j)).session (cond x p (s.job j)).client
pages_at s i j p true here e f h = subst (λ (n : ℕ). PagesAreOfStarts (s.make n) p.session p.client) (sym e) f
pages_at s i j p false here e f h = h.pages j

-- one job state, and the device that it wants
pub sound_change : (s : SystemState) (i : ℕ) (p : JobState) (dev : AbstractDevice) → Invariant s → p.session.job.wants ≡ wanted_place s i → StageInvariant i (make_for s i) p dev p.client.stage →
    PagesAreOfStarts (make_for s i) p.session p.client → DeviceInvariant (make_for s i) dev → ((l : ℕ) → l ≢ i → Same l (device_for s i) dev) → Invariant (state_with_job s i p dev)
sound_change s i p dev h e t f fit others =
    record {
      exchanges = λ j. at_party s i j (wanted_place s i) p dev (eqb j i) (eqb-true j i) (eqb-false j i) e t h others;
      pages = λ j. pages_at s i j p (eqb j i) (eqb-true j i) e f h;
      fit = λ d. fit_at s.make s.device (wanted_place s i) d dev (eqb d (wanted_place s i)) (eqb-true d (wanted_place s i)) fit (h.fit d);
    }

-- a device alone
pub sound_device : (s : SystemState) (d : ℕ) (dev : AbstractDevice) → Invariant s → DeviceInvariant (s.make d) dev → ((l : ℕ) → wanted_place s l ≡ d → Same l (s.device d) dev) → Invariant (with_device_at s d dev)
sound_device s d dev h fit same =
    record {
      exchanges = λ j. seen_where s d j dev h (same j);
      pages = λ j. h.pages j;
      fit = λ e. fit_at s.make s.device d e dev (eqb e d) (eqb-true e d) fit (h.fit e);
    }
