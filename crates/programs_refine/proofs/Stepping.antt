-- Each step of a job leads on: the world stands behind it as before.
use Rattle.std.specs.Prelude.{◌<◌}
use Rattle.std.proofs.Common.{◌≡◌, ◌≢◌, ◌∙◌, inl, inr, ℕ, Bool, true, false, Some, List, [], ◌++◌, length, slice_get, refl, sym, ap, subst, arith}
use Rattle.scan_job.specs.declared.job.Job.{Job}
use Rattle.client_replies.specs.ProtocolStates.{is_receiving, is_running}
use Rattle.net_client.specs.ClientStates.{ClientState, HasEarlyReply}
use Rattle.net_jobs.specs.JobJournal.{JobMove, MoveLeads}
use Rattle.net_jobs.specs.JobJournal.JobMove.{Writes, Fails, Hears, Resumes, Prepares, Dials, Takes, Gives, Loses}
use Rattle.net_jobs.specs.JobSteps.{HearsAndGives, JobStep, StepLeads, TakesAndGives}
use Rattle.saned_core.specs.DaemonStates.{Core}
use Rattle.saned_serve.specs.Journal.{IsFront}
use Rattle.in_flight.specs.InFlight.{undelivered_with}
use Rattle.in_flight.proofs.Calls.{frames_alike, other_flying, own_flying}
use Rattle.interleaving.specs.Interleavings.{Traffic}
use Rattle.interleaving.specs.Interleavings.Traffic.{Reads as ReadsBytes, Takes as TakesBytes}
use Rattle.interleaving.specs.HandingOn.{HaveOneSession, Owner}
use Rattle.event_world.specs.declared.event.JobEvent.TheVariants as events
use Rattle.event_world.specs.declared.endpoint.Endpoint.{Endpoint}
use Rattle.event_world.specs.Endpoints.{IsNew}
use Rattle.event_world.specs.FileInvariant.{AllFilesRepresent}
use Rattle.event_world.specs.JobEvents.{IsFlowing}
use Rattle.world_refines.proofs.state.ListEntries.{nil_both}
use Rattle.programs_refine.specs.WorldHistory.{HearsInTurn}
use Rattle.programs_refine.specs.StepTraffic.{traffic_of}
use Rattle.programs_refine.proofs.Delivered.{hears, takes}
use Rattle.programs_refine.proofs.Lists.{front_of_none}
use Rattle.programs_refine.proofs.Outgoing.{dialled_receives, never_both, not_over}
use Rattle.programs_refine.proofs.Passed.{Passed, Traffics, traffics_after}
use Rattle.programs_refine.proofs.Quiet.{IsQuiet, IsTimely, gave_none, quiet_move}
use Rattle.programs_refine.proofs.Acted.{comes}
use Rattle.programs_refine.proofs.Tracks.{AlwaysIn, Course, Follows, IsLinked, IsUnlinked, JobTracks, OutTracks, Tracks, goes_on, not_moved, with_out}
use Rattle.programs_refine.proofs.Tracks.Follows.{Alike, Dialled, Lost, Cut}
use Rattle.programs_refine.proofs.Tracks.JobTracks.{Unlinked, Linked, Left}

-- what connections that hand on allow a step
abbrev pub MayStep : Owner → (ℕ → Passed) → Traffics → ℕ → Traffic → Type 0
MayStep owner passed x i (ReadsBytes bytes) = (k : ℕ) × (owner k ≡ Some i) × IsFront (x.heard ++ bytes) (passed k).said
MayStep owner passed x i (TakesBytes bytes) = (k : ℕ) × (owner k ≡ Some i) × ((passed k).accepted ≡ x.made) × IsFront (x.taken ++ bytes) (passed k).shown
MayStep owner passed x i other = Unit {0}

-- and what a data connection that is lost brings
abbrev pub Standing : Owner → (ℕ → Passed) → ℕ → Traffic → Type 0
Standing owner passed i (TakesBytes bytes) = (k : ℕ) → owner k ≡ Some i → (passed k).dropped ≡ false
Standing owner passed i other = Unit {0}

-- no session of it ended for lack of memory
abbrev pub HasMemoryFor : Owner → (ℕ → Passed) → ℕ → Type 0
HasMemoryFor owner passed i = (k : ℕ) → owner k ≡ Some i → (passed k).starved ≡ false

-- one job makes a step, and the others none
pub record OneSteps (done done_new : ℕ → Traffics) (c c_new : ℕ → ClientState) (i : ℕ) (step : JobStep) : Type 0 where
  pub own : done_new i ≡ traffics_after step (done i)
  pub others : (j : ℕ) → j ≢ i → (done_new j ≡ done j) × (c_new j ≡ c j)

abbrev Behind : (course : Course) (passed : ℕ → Passed) (done : ℕ → Traffics) (d : Core) (c : ℕ → ClientState) → Type 0
Behind course passed done d c = Tracks course passed done d c

-- nothing happens in the world
quietly : (course : Course) (passed : ℕ → Passed) (done done_new : ℕ → Traffics) (d : Core) (c c_new : ℕ → ClientState) (t : Behind course passed done d c) (i : ℕ) (job : Job) (step : JobStep) → slice_get course.jobs i ≡ Some job → OneSteps done done_new c c_new i step
    → ((p : Endpoint) → JobTracks course.owner d.opened t.flying passed (done i) i job (c i) p → JobTracks course.owner d.opened t.flying passed (traffics_after step (done i)) i job (c_new i) p) → Behind course passed done_new d c_new
quietly course passed done done_new d c c_new t i job step at one leads =
    let e = t.each i job at in
    goes_on course passed passed done done_new d d c c_new t i e.0 t.w.daemon (not_moved course t.events t.w i e.0 t.leads e.1) t.flying t.differs t.slots t.owned t.calm (omega arith)
    (λ j off k own. (λ high. high, refl, refl)) one.others
    (λ other there. subst (λ (x : Job). JobTracks course.owner d.opened t.flying passed (done_new i) i x (c_new i) e.0) (let same : Some job ≡ Some other = sym at ∙ there in cc)
    (subst (λ (x : Traffics). JobTracks course.owner d.opened t.flying passed x i job (c_new i) e.0) (sym one.own) (leads e.0 e.2)))

by_quiet_move : (course : Course) (passed : ℕ → Passed) (done done_new : ℕ → Traffics) (d : Core) (c c_new : ℕ → ClientState) (t : Behind course passed done d c) (i : ℕ) (job : Job) (move : JobMove) (gives : List JobMove) (turned : Bool) → slice_get course.jobs i ≡ Some job
    → OneSteps done done_new c c_new i (record { move = move; gives = gives; turned = turned }) → IsQuiet move → IsTimely course.owner d.opened passed i → (done i).failed ≡ false → gives ≡ [] → turned ≡ false → MoveLeads (c i) move (c_new i) → Behind course passed done_new d c_new
by_quiet_move course passed done done_new d c c_new t i job move gives turned at one is timely ok none still m =
    quietly course passed done done_new d c c_new t i job (record { move = move; gives = gives; turned = turned }) at one
    (λ p tracks. subst (λ (x : Traffics). JobTracks course.owner d.opened t.flying passed x i job (c_new i) p) (sym (gave_none move gives turned (done i) none still))
    (quiet_move course.owner d.opened t.flying passed i job (done i) (c i) (c_new i) p move is timely ok m tracks))

-- a job that no session was opened for hears nothing
nothing_heard : (owner : Owner) (opened : ℕ) (passed : ℕ → Passed) (x : Traffics) (i : ℕ) (job : Job) (c : ClientState) (p : Endpoint) (piece : List ℕ) → IsUnlinked owner opened passed x i job c p → (k : ℕ) → owner k ≡ Some i → IsFront (x.heard ++ piece) (passed k).said → piece ≡ []
nothing_heard owner opened passed x i job c p piece u k own front =
    let said : (passed k).said ≡ [] = ap (λ (y : Passed). y.said) (u.silent k own) in
    let heard : x.heard ≡ [] = ap (λ (y : Traffics). y.heard) u.rest in
    let none : x.heard ++ piece ≡ [] = front_of_none (x.heard ++ piece) (subst (λ (z : List ℕ). IsFront (x.heard ++ piece) z) said front) in
    sym (ap (λ (z : List ℕ). z ++ piece) heard) ∙ none

nothing_taken : (owner : Owner) (opened : ℕ) (passed : ℕ → Passed) (x : Traffics) (i : ℕ) (job : Job) (c : ClientState) (p : Endpoint) (piece : List ℕ) → IsUnlinked owner opened passed x i job c p → (k : ℕ) → owner k ≡ Some i → IsFront (x.taken ++ piece) (passed k).shown → piece ≡ []
nothing_taken owner opened passed x i job c p piece u k own front =
    let shown : (passed k).shown ≡ [] = ap (λ (y : Passed). y.shown) (u.silent k own) in
    let taken : x.taken ≡ [] = ap (λ (y : Traffics). y.taken) u.rest in
    let none : x.taken ++ piece ≡ [] = front_of_none (x.taken ++ piece) (subst (λ (z : List ℕ). IsFront (x.taken ++ piece) z) shown front) in
    sym (ap (λ (z : List ℕ). z ++ piece) taken) ∙ none

-- ---- a piece of the control connection

hears_step : (course : Course) (passed : ℕ → Passed) (done done_new : ℕ → Traffics) (d : Core) (c c_new : ℕ → ClientState) (t : Behind course passed done d c) (i : ℕ) (job : Job) (piece : List ℕ) (gives : List JobMove) (turned : Bool) → HaveOneSession course.owner → HasMemoryFor course.owner passed i → AllFilesRepresent t.w.endpoints
    → slice_get course.jobs i ≡ Some job → OneSteps done done_new c c_new i (record { move = Hears piece; gives = gives; turned = turned }) → IsTimely course.owner d.opened passed i → (done i).failed ≡ false → MayStep course.owner passed (done i) i (ReadsBytes piece) → HearsAndGives (c i) piece (record { move = Hears piece; gives = gives; turned = turned }) (c_new i) → Behind course passed done_new d c_new
hears_step course passed done done_new d c c_new t i job piece gives turned only memory files at one timely ok may h =
    let e = t.each i job at in by e.0 e.1 e.2
  where
    same_job : (other : Job) → slice_get course.jobs i ≡ Some other → job ≡ other
    same_job other there = let same : Some job ≡ Some other = sym at ∙ there in cc

    linked : (p : Endpoint) → slice_get t.w.endpoints i ≡ Some p → (k : ℕ) → course.owner k ≡ Some i → k < d.opened → IsFront ((done i).heard ++ piece) (passed k).said → IsLinked (passed k) (t.flying k) (done i) k (c i) p → Behind course passed done_new d c_new
    linked p there k own low front l =
        let x = hears t.w.daemon t.flying d k (passed k) (done i) (c i) (c_new i) p piece (record { move = Hears piece; gives = gives; turned = turned }) t.differs (files i p there) l ok (memory k own) front h in
        let m = comes course t.events t.w i p x.q (events.ToClient (length piece)) x.e t.leads there tt x.can x.does in
        let flying = undelivered_with k x.left t.flying in
        goes_on course passed passed done done_new d d c c_new t i x.q x.e m flying x.differs (λ n some. t.slots n (x.is_slot n some)) t.owned
        (λ n told flows. t.calm n told (subst IsFlowing (frames_alike flying d x.e n x.differs ∙ sym (frames_alike t.flying d t.w.daemon n t.differs)) flows)) (omega arith)
        (λ j off n theirs. (λ high. high, refl, other_flying k n x.left t.flying (λ same. off (let both : Some j ≡ Some i = sym theirs ∙ ap course.owner same ∙ own in cc)))) one.others
        (λ other here. subst (λ (y : Job). JobTracks course.owner d.opened flying passed (done_new i) i y (c_new i) x.q) (same_job other here)
        (subst (λ (y : Traffics). JobTracks course.owner d.opened flying passed y i job (c_new i) x.q) (sym one.own)
        (Linked k own low (subst (λ (z : List ℕ). IsLinked (passed k) z (traffics_after (record { move = Hears piece; gives = gives; turned = turned }) (done i)) k (c_new i) x.q) (sym (own_flying k k x.left t.flying refl)) x.tracks))))

    by : (p : Endpoint) → slice_get t.w.endpoints i ≡ Some p → JobTracks course.owner d.opened t.flying passed (done i) i job (c i) p → Behind course passed done_new d c_new
    by p there (Unlinked u) = absurd (h.is_piece.0 (nothing_heard course.owner d.opened passed (done i) i job (c i) p piece u may.0 may.1 may.2))
    by p there (Linked k own low l) = linked p there k own low (subst (λ (n : ℕ). IsFront ((done i).heard ++ piece) (passed n).said) (only may.0 k i may.1 own) may.2) l
    by p there (Left k own low shut l) = never_both (passed k).is_open (timely k own low) shut

-- ---- a piece of the data connection

takes_step : (course : Course) (passed : ℕ → Passed) (done done_new : ℕ → Traffics) (d : Core) (c c_new : ℕ → ClientState) (t : Behind course passed done d c) (i : ℕ) (job : Job) (piece : List ℕ) (gives : List JobMove) (turned : Bool) → HaveOneSession course.owner → AllFilesRepresent t.w.endpoints
    → slice_get course.jobs i ≡ Some job → OneSteps done done_new c c_new i (record { move = Takes piece; gives = gives; turned = turned }) → IsTimely course.owner d.opened passed i → (done i).failed ≡ false → MayStep course.owner passed (done i) i (TakesBytes piece) → Standing course.owner passed i (TakesBytes piece) → TakesAndGives (c i) piece (record { move = Takes piece; gives = gives; turned = turned }) (c_new i)
    → Behind course passed done_new d c_new
takes_step course passed done done_new d c c_new t i job piece gives turned only files at one timely ok may stands h =
    let e = t.each i job at in by e.0 e.1 e.2
  where
    same_job : (other : Job) → slice_get course.jobs i ≡ Some other → job ≡ other
    same_job other there = let same : Some job ≡ Some other = sym at ∙ there in cc

    linked : (p : Endpoint) → slice_get t.w.endpoints i ≡ Some p → (k : ℕ) → course.owner k ≡ Some i → k < d.opened → (passed k).accepted ≡ (done i).made → IsFront ((done i).taken ++ piece) (passed k).shown → IsLinked (passed k) (t.flying k) (done i) k (c i) p → Behind course passed done_new d c_new
    linked p there k own low count front l =
        let x = takes t.w.daemon (t.flying k) k (passed k) (done i) (c i) (c_new i) p piece (record { move = Takes piece; gives = gives; turned = turned }) (files i p there) l ok (stands k own) count front h in
        let m = comes course t.events t.w i p x.q (events.DataToClient (length piece)) t.w.daemon t.leads there tt x.can x.does in
        goes_on course passed passed done done_new d d c c_new t i x.q t.w.daemon m t.flying t.differs t.slots t.owned t.calm (omega arith)
        (λ j off n theirs. (λ high. high, refl, refl)) one.others
        (λ other here. subst (λ (y : Job). JobTracks course.owner d.opened t.flying passed (done_new i) i y (c_new i) x.q) (same_job other here)
        (subst (λ (y : Traffics). JobTracks course.owner d.opened t.flying passed y i job (c_new i) x.q) (sym one.own) (Linked k own low x.tracks)))

    by : (p : Endpoint) → slice_get t.w.endpoints i ≡ Some p → JobTracks course.owner d.opened t.flying passed (done i) i job (c i) p → Behind course passed done_new d c_new
    by p there (Unlinked u) = absurd (h.is_piece.0 (nothing_taken course.owner d.opened passed (done i) i job (c i) p piece u may.0 may.1 may.3))
    by p there (Linked k own low l) =
        let same = only may.0 k i may.1 own in
        linked p there k own low (subst (λ (n : ℕ). (passed n).accepted ≡ (done i).made) same may.2) (subst (λ (n : ℕ). IsFront ((done i).taken ++ piece) (passed n).shown) same may.3) l
    by p there (Left k own low shut l) = never_both (passed k).is_open (timely k own low) shut

-- ---- no reply comes before its request was taken

-- the client waits, and a reply came before its request was written
abbrev IsEarly : ClientState → Type 0
IsEarly c = HasEarlyReply c × (is_running c.outcome ≡ true) × (is_receiving c.outcome c.progress ≡ false)

-- nor does it in a world
early_there : (c q : ClientState) (failed : Bool) (sent heard : List ℕ) → OutTracks failed sent heard q.out c.out → q ≡ with_out q.out c → failed ≡ false → HasEarlyReply c → HasEarlyReply q
early_there c q failed sent heard o same ok early = (
  λ none. early.0 (nil_both o.up c.out (ap (λ (l : List ℕ). o.up ++ l) (sym (o.rest_is ok)) ∙ sym o.out_is ∙ none)).1,
  λ none. early.1 (sym (ap (λ (v : ClientState). v.input.rest) same) ∙ none),
)

new_hears : (job : Job) (c : ClientState) (p : Endpoint) → IsNew job p → Follows false false c p.client → IsEarly c → ⊥
new_hears job c p n (Alike off same) early = early.0.1 (sym (ap (λ (v : ClientState). v.input.rest) same) ∙ ap (λ (v : ClientState). v.input.rest) n.client.value)
new_hears job c p n (Dialled on wants runs same) early = never_both false on refl
new_hears job c p n (Lost runs over wants) early = not_over c.outcome over early.1
new_hears job c p n (Cut off told over either) early = never_both false told refl

never_early : (course : Course) (passed : ℕ → Passed) (done : ℕ → Traffics) (d : Core) (c : ℕ → ClientState) (t : Behind course passed done d c) (i : ℕ) (job : Job) → AlwaysIn course HearsInTurn → slice_get course.jobs i ≡ Some job → IsTimely course.owner d.opened passed i
    → (done i).failed ≡ false → IsEarly (c i) → ⊥
never_early course passed done d c t i job hears at timely ok early = let e = t.each i job at in by e.0 e.1 e.2
  where
    linked : (k : ℕ) (p : Endpoint) → slice_get t.w.endpoints i ≡ Some p → (l : IsLinked (passed k) (t.flying k) (done i) k (c i) p) → Follows l.pending (passed k).dropped (c i) p.client → ⊥
    linked k p there l (Alike off same) =
        hears t.events t.w t.leads i p l.id there l.link (ap (λ (v : ClientState). is_running v.outcome) same ∙ early.1) (early_there (c i) p.client (done i).failed (done i).sent (passed k).heard l.out same ok early.0)
    linked k p there l (Dialled on wants runs same) = never_both (is_receiving (c i).outcome (c i).progress) (ap (λ (v : ClientState). is_receiving v.outcome v.progress) same ∙ dialled_receives p.client runs wants) early.2
    linked k p there l (Lost runs over wants) = not_over (c i).outcome over early.1
    linked k p there l (Cut off told over (inl receives)) = never_both (is_receiving (c i).outcome (c i).progress) receives early.2
    linked k p there l (Cut off told over (inr lost)) = not_over (c i).outcome lost early.1

    by : (p : Endpoint) → slice_get t.w.endpoints i ≡ Some p → JobTracks course.owner d.opened t.flying passed (done i) i job (c i) p → ⊥
    by p there (Unlinked u) = new_hears job (c i) p u.new u.follows early
    by p there (Linked k own low l) = linked k p there l l.follows
    by p there (Left k own low shut l) = never_both (passed k).is_open (timely k own low) shut

-- ---- every step

pub steps_on : (course : Course) (passed : ℕ → Passed) (done done_new : ℕ → Traffics) (d : Core) (c c_new : ℕ → ClientState) (t : Behind course passed done d c) (i : ℕ) (job : Job) (move : JobMove) (gives : List JobMove) (turned : Bool) → HaveOneSession course.owner → AlwaysIn course HearsInTurn → HasMemoryFor course.owner passed i → AllFilesRepresent t.w.endpoints
    → slice_get course.jobs i ≡ Some job → OneSteps done done_new c c_new i (record { move = move; gives = gives; turned = turned }) → IsTimely course.owner d.opened passed i → (done i).failed ≡ false → MayStep course.owner passed (done i) i (traffic_of (record { move = move; gives = gives; turned = turned })) → Standing course.owner passed i (traffic_of (record { move = move; gives = gives; turned = turned }))
    → StepLeads (c i) (record { move = move; gives = gives; turned = turned }) (c_new i) → Behind course passed done_new d c_new
steps_on course passed done done_new d c c_new t i job (Writes bytes) gives turned only hears memory files at one timely ok may stands s = by_quiet_move course passed done done_new d c c_new t i job (Writes bytes) gives turned at one tt timely ok s.0 s.1 s.2
steps_on course passed done done_new d c c_new t i job (Fails bytes) gives turned only hears memory files at one timely ok may stands s = by_quiet_move course passed done done_new d c c_new t i job (Fails bytes) gives turned at one tt timely ok s.0 s.1 s.2
steps_on course passed done done_new d c c_new t i job (Prepares port) gives turned only hears memory files at one timely ok may stands s = by_quiet_move course passed done done_new d c c_new t i job (Prepares port) gives turned at one tt timely ok s.0 s.1 s.2
steps_on course passed done done_new d c c_new t i job (Dials port true) gives turned only hears memory files at one timely ok may stands s = by_quiet_move course passed done done_new d c c_new t i job (Dials port true) gives turned at one tt timely ok s.0 s.1 s.2
steps_on course passed done done_new d c c_new t i job (Dials port false) gives turned only hears memory files at one timely ok may stands s = by_quiet_move course passed done done_new d c c_new t i job (Dials port false) gives turned at one tt timely ok s.0 s.1 s.2
steps_on course passed done done_new d c c_new t i job (Loses link reason) gives turned only hears memory files at one timely ok may stands s = by_quiet_move course passed done done_new d c c_new t i job (Loses link reason) gives turned at one tt timely ok s.0 s.1 s.2
steps_on course passed done done_new d c c_new t i job (Hears piece) gives turned only hears memory files at one timely ok may stands s = hears_step course passed done done_new d c c_new t i job piece gives turned only memory files at one timely ok may s
steps_on course passed done done_new d c c_new t i job (Takes piece) gives turned only hears memory files at one timely ok may stands s = takes_step course passed done done_new d c c_new t i job piece gives turned only files at one timely ok may stands s
steps_on course passed done done_new d c c_new t i job (Gives bytes) gives turned only hears memory files at one timely ok may stands s = absurd s
steps_on course passed done done_new d c c_new t i job Resumes gives turned only hears memory files at one timely ok may stands s = absurd (never_early course passed done d c t i job hears at timely ok (s.early, s.hears.running, s.hears.quiet))
