-- Worlds that what came led to.
use Rattle.std.proofs.Common.{List, [], ◌∷◌, ◌++◌, refl, subst}
use Rattle.page_sources.specs.SourceView.{source_state}
use Rattle.event_world.specs.declared.event.Event.{Event}
use Rattle.event_world.specs.Worlds.{Leads, Runs, WorldCore}
use Rattle.world_refines.specs.MainTheorem.{AreTrueLoads}
use Rattle.strangers.specs.Together.{JointEvent, RunsAmong, events_among}
use Rattle.strangers.specs.Together.JointEvent.{OfJobs, OfStranger}
use Rattle.scan_world.specs.Histories.{History, LedTo, EachStep, and_then, history_up_to, of_jobs}

pub runs_then : (es fs : List JointEvent) (u v w : WorldCore) → RunsAmong source_state es u v → RunsAmong source_state fs v w → RunsAmong source_state (es ++ fs) u w
runs_then [] fs u v w a b = subst (λ (x : WorldCore). RunsAmong source_state fs x w) a b
runs_then (OfJobs e ∷ es) fs u v w (x, first, rest) b = (x, first, runs_then es fs x v w rest b)
runs_then (OfStranger a ∷ es) fs u v w (x, first, rest) b = (x, first, runs_then es fs x v w rest b)

loads_then : (es fs : List JointEvent) → AreTrueLoads source_state (events_among es) → AreTrueLoads source_state (events_among fs) → AreTrueLoads source_state (events_among (es ++ fs))
loads_then [] fs a b = b
loads_then (OfJobs e ∷ es) fs a b = (a.0, loads_then es fs a.1 b)
loads_then (OfStranger x ∷ es) fs a b = loads_then es fs a b

-- events of jobs alone
pub runs_jointly : (es : List Event) (u v : WorldCore) → Runs source_state es u v → RunsAmong source_state (of_jobs es) u v
runs_jointly [] u v run = run
runs_jointly (e ∷ es) u v (x, first, rest) = (x, first, runs_jointly es x v rest)

pub loads_jointly : (es : List Event) → AreTrueLoads source_state es → AreTrueLoads source_state (events_among (of_jobs es))
loads_jointly [] a = a
loads_jointly (e ∷ es) a = (a.0, loads_jointly es a.1)

pub led_on : (h : History) (xs : List JointEvent) (v w : WorldCore) → LedTo h v → AreTrueLoads source_state (events_among xs) → RunsAmong source_state xs v w → LedTo (history_up_to h (h.events ++ xs)) w
led_on h xs v w l loads run = record { first = l.first; endpoints = l.endpoints; daemon = l.daemon; users_are = l.users_are; seeded = l.seeded; names = l.names; limits = l.limits; fit = l.fit; loads = loads_then h.events xs l.loads loads; runs = runs_then h.events xs l.first v w l.runs run }

pub led_then : (h : History) (es : List Event) (v w : WorldCore) → LedTo h v → AreTrueLoads source_state es → Runs source_state es v w → LedTo (and_then h es) w
led_then h es v w l loads run = led_on h (of_jobs es) v w l (loads_jointly es loads) (runs_jointly es v w run)

pub loads_front : (xs ys : List Event) → AreTrueLoads source_state (xs ++ ys) → AreTrueLoads source_state xs
loads_front [] ys a = tt
loads_front (x ∷ xs) ys a = (a.0, loads_front xs ys a.1)

-- each event of a run, one after another
pub steps_of : {Did : Event → WorldCore → WorldCore → Type 0} → ((e : Event) (w v : WorldCore) → Leads source_state e w v → Did e w v) → (es : List Event) (w v : WorldCore) → Runs source_state es w v → EachStep Did es w v
steps_of did [] w v run = run
steps_of did (e ∷ es) w v (u, leads, rest) = (u, leads, did e w u leads, steps_of did es u v rest)

-- so it is where that takes the history that led to the world in front of it
pub steps_led : {Did : Event → WorldCore → WorldCore → Type 0} → ((h : History) (e : Event) (w v : WorldCore) → LedTo h w → LedTo (and_then h (e ∷ [])) v → Leads source_state e w v → Did e w v)
    → (h : History) (es : List Event) (w v : WorldCore) → LedTo h w → AreTrueLoads source_state es → Runs source_state es w v → EachStep Did es w v
steps_led did h [] w v l loads run = run
steps_led did h (e ∷ es) w v l loads (u, leads, rest) =
    let led = led_then h (e ∷ []) w u l (loads.0, tt) (u, leads, refl) in
    (u, leads, did h e w u l led leads, steps_led did (and_then h (e ∷ [])) es u v led loads.1 rest)

pub steps_run : (Did : Event → WorldCore → WorldCore → Type 0) → (es : List Event) (w v : WorldCore) → EachStep Did es w v → Runs source_state es w v
steps_run Did [] w v steps = steps
steps_run Did (e ∷ es) w v (u, leads, did, rest) = (u, leads, steps_run Did es u v rest)

-- the world between two lists of events
pub runs_split : (es fs : List Event) (u w : WorldCore) → Runs source_state (es ++ fs) u w → (v : WorldCore) × Runs source_state es u v × Runs source_state fs v w
runs_split [] fs u w run = (u, refl, run)
runs_split (e ∷ es) fs u w (x, first, rest) = let r = runs_split es fs x w rest in (r.0, (x, first, r.1), r.2)

-- what the first of some events made, and what the others made of that
pub first_runs : (P : WorldCore → Type 0) (e : Event) (es : List Event) (u w : WorldCore) → Runs source_state (e ∷ es) u w → ((x : WorldCore) → Leads source_state e u x → Runs source_state es x w → P w) → P w
first_runs P e es u w (x, leads, rest) then_is = then_is x leads rest
