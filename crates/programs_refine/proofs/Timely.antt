-- All acts may come in an order in which no job makes a step behind the end of its session, and none takes bytes of a data connection
-- behind its loss: the one in which each job moves as soon as connections allow.
use Rattle.std.specs.Prelude.{◌<◌, ◌≤◌, ◌&&◌}
use Rattle.std.proofs.Common.{◌≡◌, ◌≢◌, ◌∙◌, ◌⊎◌, inl, inr, ℕ, ◌+◌, Bool, true, false, Some, List, [], ◌∷◌, length, slice_get, refl, sym, ap, subst, arith}
use Rattle.saned_core.specs.declared.session_slot.Fed.{Fed}
use Rattle.saned_core.specs.DaemonLimits.{HasDaemonLimits}
use Rattle.saned_core.specs.DaemonStates.{Core}
use Rattle.saned_core.specs.Feeding.{Feeds}
use Rattle.scan_job.specs.declared.job.Job.{Job}
use Rattle.net_client.specs.ClientStates.{ClientState, IsNewClient}
use Rattle.net_jobs.specs.JobJournal.{JobMove}
use Rattle.net_jobs.specs.JobJournal.JobMove.{Writes, Fails, Hears as HearsReplies, Resumes, Prepares, Dials, Takes, Gives, Loses}
use Rattle.net_jobs.specs.JobSteps.{JobStep, StepLeads, StepsLead}
use Rattle.saned_serve.specs.SessionActions.{ActsOn, SessionAction}
use Rattle.saned_serve.specs.SessionActions.SessionAction.{Opens, Feed, Connect, Turn, Leaves}
use Rattle.saned_serve.specs.Journal.{DaemonRuns, IsJournal, LoopAction, MayDo, SessionProjection, has_stopped, projection_of}
use Rattle.saned_serve.specs.Journal.LoopAction.{Of}
use Rattle.saned_serve.specs.JournalSummary.{IsInJournal}
use Rattle.saned_serve.proofs.ActionSteps.{stands_for}
use Rattle.saned_serve.proofs.Openings.{below_count}
use Rattle.in_flight.proofs.Slots.{decide}
use Rattle.interleaving.specs.Interleavings.{Traffic, connections_accepted, connections_made, job_journal, made_with, server_journal}
use Rattle.interleaving.specs.Interleavings.JointAction.{OfJob, OfServer}
use Rattle.interleaving.specs.Interleavings.Traffic.{Reads as ReadsBytes, Dials as MakesConnection, Takes as TakesBytes, NoTraffic}
use Rattle.interleaving.specs.AtOnce.{AreHeldUp, IsHeldUp, gives_records, is_owned, waits_for, waits_for_action}
use Rattle.interleaving.specs.HandingOn.{HandsOnAmong, HaveOneSession, MayMove, Owner}
use Rattle.interleaving.specs.Orders.{HaveSameJournals}
use Rattle.interleaving.proofs.Earliest.{at_once}
use Rattle.interleaving.proofs.Fronts.{reads_written}
use Rattle.interleaving.proofs.Sooner.{free_unheld, of_other, of_server, owned_is}
use Rattle.programs_refine.specs.StepTraffic.{traffic_of, traffic_of_move}
use Rattle.programs_refine.specs.Programs.{Acts}
use Rattle.programs_refine.proofs.Dropped.{no_bytes_behind}
use Rattle.programs_refine.proofs.Lists.{there}
use Rattle.programs_refine.proofs.Outgoing.{never_both}
use Rattle.programs_refine.proofs.Passed.{Passed, own_journal, passed_after, passed_first, passed_of, passes_own}
use Rattle.programs_refine.proofs.Receiving.{IsApart, Receiving, Serves, serves_first, step_receives, steps_serve}
use Rattle.programs_refine.proofs.Simulation.{AreTimely, IsEnding, IsTimelyFor, TakeWhatStands}
use Rattle.programs_refine.proofs.Stepping.{Standing}
use Rattle.programs_refine.proofs.Starving.{IsGone, gone_gives_job, gone_steps, left_gone, limits_behind, starved_gone}

-- ---- what a session gave behind its end, and what holds a move up

held_by : (owner : Owner) (i n : ℕ) (t : Traffic) (act : SessionAction) → waits_for_action owner i t (Of n act) ≡ true → (owner n ≡ Some i) × (waits_for t act ≡ true)
held_by owner i n t act e = by (is_owned (owner n) i) refl e
  where
    by : (b : Bool) → is_owned (owner n) i ≡ b → (b && waits_for t act) ≡ true → (owner n ≡ Some i) × (waits_for t act ≡ true)
    by true on w = (owned_is (owner n) i on, w)
    by false on w = absurd (let wrong : false ≡ true = w in cc)

-- an act that ends a session is waited for by none
ending_holds : (t : Traffic) (act : SessionAction) → IsEnding act → waits_for t act ≡ true → ⊥
ending_holds (ReadsBytes bytes) (Feed piece fed begins) ends w = never_both false w refl
ending_holds (ReadsBytes bytes) (Leaves port trace) ends w = never_both false w refl
ending_holds (ReadsBytes bytes) act ends w = absurd ends
ending_holds (TakesBytes bytes) (Feed piece fed begins) ends w = never_both false w refl
ending_holds (TakesBytes bytes) (Leaves port trace) ends w = never_both false w refl
ending_holds (TakesBytes bytes) act ends w = absurd ends
ending_holds t act ends w = never_both false w refl

-- a session that stands was opened
open_low : (journal : List LoopAction) (k : ℕ) (first d : Core) → DaemonRuns first journal d → (projection_of k journal).is_open ≡ true → k < d.opened
open_low journal k first d runs on = below_count journal k first d runs on

ends_open : (act : SessionAction) (projection : SessionProjection) (stopped : Bool) → IsEnding act → MayDo act projection stopped → projection.is_open ≡ true
ends_open (Feed piece fed begins) projection stopped ends may = may.0
ends_open (Leaves port trace) projection stopped ends may = stands_for (Leaves port trace) projection stopped refl may
ends_open act projection stopped ends may = absurd ends

gone_then : (k : ℕ) (act : SessionAction) (d e : Core) → IsEnding act → HasDaemonLimits d → k < d.opened → ActsOn k d act e → IsGone e k
gone_then k (Feed piece fed begins) d e ends l low a = starved_gone k d e piece l low (subst (λ (v : Fed). Feeds k d piece v e) ends a.0)
gone_then k (Leaves port trace) d e ends l low a = left_gone k d e l low a
gone_then k act d e ends l low a = absurd ends

gone_at : (k : ℕ) (act : SessionAction) (past : List LoopAction) (first mid d : Core) → HasDaemonLimits first → IsEnding act → MayDo act (projection_of k past) (has_stopped past) → DaemonRuns first past mid → ActsOn k mid act d → IsGone d k
gone_at k act past first mid d l ends may runs a = gone_then k act mid d ends (limits_behind past first mid l runs) (open_low past k first mid runs (ends_open act (projection_of k past) (has_stopped past) ends may)) a

same_number : (n k : ℕ) (a b : SessionAction) → Of n a ≡ Of k b → n ≡ k
same_number n k a b e = cc

same_action : (n k : ℕ) (a b : SessionAction) → Of n a ≡ Of k b → a ≡ b
same_action n k a b e = cc

-- behind an act that ended it a session is gone
gone_behind : (journal : List LoopAction) (first d : Core) (k : ℕ) (act : SessionAction) → HasDaemonLimits first → IsJournal journal → DaemonRuns first journal d → IsEnding act → IsInJournal (Of k act) journal → IsGone d k
gone_behind [] first d k act l legal runs ends held = absurd held
gone_behind (action ∷ past) first d k act l legal runs ends (inr before) = gone_steps k action runs.0 d runs.2 (gone_behind past first runs.0 k act l legal.0 runs.1 ends before)
gone_behind (Of n other ∷ past) first d k act l legal runs ends (inl same) =
    let number = same_number n k other act same in
    let ending : IsEnding other = subst IsEnding (sym (same_action n k other act same)) ends in
    subst (IsGone d) number (gone_at n other past first runs.0 d l ending legal.1.0 runs.1 runs.2)
gone_behind (action ∷ past) first d k act l legal runs ends (inl same) = absurd (cc)

-- ---- no step comes behind the end of its session

not_gone : (owner : Owner) (i n : ℕ) (t : Traffic) (act : SessionAction) (past : List LoopAction) (first mid d : Core) → HasDaemonLimits first → HaveOneSession owner → IsJournal past → DaemonRuns first past mid → ActsOn n mid act d → waits_for_action owner i t (Of n act) ≡ true → IsTimelyFor owner i (Of n act ∷ past)
not_gone owner i n t act past first mid d l one legal runs acts held k own other ends (inl same) = ending_holds t act (subst IsEnding (sym (same_action n k act other same)) ends) (held_by owner i n t act held).1
not_gone owner i n t act past first mid d l one legal runs acts held k own other ends (inr before) =
    let gone = gone_behind past first mid k other l legal runs ends before in
    let nothing = gone_gives_job owner i k (Of n act) mid d one own acts gone in
    never_both (waits_for_action owner i t (Of n act)) held (free_unheld {M = JobStep} owner i t (OfServer (Of n act)) nothing)

timely_here : (owner : Owner) (i : ℕ) (t : Traffic) (past : Acts) (first d : Core) → HasDaemonLimits first → HaveOneSession owner → IsJournal (server_journal past) → DaemonRuns first (server_journal past) d → AreTimely owner past → IsHeldUp owner i t past → IsTimelyFor owner i (server_journal past)
unfolding server_journal
timely_here owner i t [] first d l one legal runs before h = λ k own act ends held. held
timely_here owner i t (OfServer (Of n act) ∷ past) first d l one legal runs before h = not_gone owner i n t act (server_journal past) first runs.0 d l one legal.0 runs.1 runs.2 h
timely_here owner i t (OfServer action ∷ past) first d l one legal runs before h = absurd (let wrong : false ≡ true = h in cc)
timely_here owner i t (OfJob j step ∷ past) first d l one legal runs before (inl same) = subst (λ (x : ℕ). IsTimelyFor owner x (server_journal past)) same before.1
timely_here owner i t (OfJob j step ∷ past) first d l one legal runs before (inr x) = timely_here owner i t past first d l one legal runs before.0 x.1

all_timely : (owner : Owner) (acts : Acts) (first d : Core) → HasDaemonLimits first → HaveOneSession owner → IsJournal (server_journal acts) → DaemonRuns first (server_journal acts) d → AreHeldUp traffic_of owner acts → AreTimely owner acts
unfolding server_journal
all_timely owner [] first d l one legal runs held = tt
all_timely owner (OfServer action ∷ past) first d l one legal runs held = all_timely owner past first runs.0 l one legal.0 runs.1 held
all_timely owner (OfJob i step ∷ past) first d l one legal runs held =
    let before = all_timely owner past first d l one legal runs held.0 in
    (before, timely_here owner i (traffic_of step) past first d l one legal runs before held.1)

-- ---- none takes bytes of a data connection behind its loss

-- no reply is read
abbrev ReadsNone : Traffic → Type 0
ReadsNone (ReadsBytes bytes) = ⊥
ReadsNone t = Unit {0}

-- what such a move waits for gives bytes of a data connection that is not lost, or a new one
given_undropped : (journal : List LoopAction) (first d e : Core) (n : ℕ) (act : SessionAction) → HasDaemonLimits first → DaemonRuns first journal d → ActsOn n d act e → gives_records act ≡ true → (passed_after act (passed_of journal n)).dropped ≡ false
given_undropped journal first d e n (Opens port) l runs a gives = refl
given_undropped journal first d e n (Connect port) l runs a gives = refl
given_undropped journal first d e n (Turn room step []) l runs a gives = absurd (let wrong : false ≡ true = gives in cc)
given_undropped journal first d e n (Turn room step (b ∷ bytes)) l runs a gives = by (passed_of journal n).dropped refl
  where
    by : (v : Bool) → (passed_of journal n).dropped ≡ v → v ≡ false
    by true told = absurd (let wrong : b ∷ bytes ≡ [] = no_bytes_behind journal first d e n room step (b ∷ bytes) l runs told a in cc)
    by false told = refl
given_undropped journal first d e n act l runs a gives = absurd (let wrong : false ≡ true = gives in cc)

gives_by : (t : Traffic) (act : SessionAction) → ReadsNone t → waits_for t act ≡ true → gives_records act ≡ true
gives_by (ReadsBytes bytes) act none w = absurd none
gives_by (TakesBytes bytes) act none w = w
gives_by t act none w = absurd (let wrong : false ≡ true = w in cc)

apart_reads : (move : JobMove) → IsApart move → ReadsNone (traffic_of_move move)
apart_reads (HearsReplies piece) a = absurd a
apart_reads Resumes a = tt
apart_reads (Dials port true) a = tt
apart_reads (Dials port false) a = tt
apart_reads (Takes piece) a = tt
apart_reads (Writes bytes) a = tt
apart_reads (Fails bytes) a = tt
apart_reads (Prepares port) a = tt
apart_reads (Gives bytes) a = tt
apart_reads (Loses link reason) a = tt

apart_made : (move : JobMove) (count : ℕ) → IsApart move → made_with (traffic_of_move move) count ≡ count
apart_made (HearsReplies piece) count a = refl
apart_made Resumes count a = refl
apart_made (Dials port true) count a = absurd (let wrong : true ≡ false = a in cc)
apart_made (Dials port false) count a = refl
apart_made (Takes piece) count a = refl
apart_made (Writes bytes) count a = refl
apart_made (Fails bytes) count a = refl
apart_made (Prepares port) count a = refl
apart_made (Gives bytes) count a = refl
apart_made (Loses link reason) count a = refl

-- a job and its one session, in a run of the server
record OfJobIn (owner : Owner) (first : Core) (i k : ℕ) (begun : ClientState) : Type 0 where
  limits : HasDaemonLimits first
  one : HaveOneSession owner
  own : owner k ≡ Some i
  serves : Serves begun

-- all that was done so far, in the order in which each job moves as soon as it may
record SoFar (owner : Owner) (first : Core) (acts : Acts) (d : Core) : Type 0 where
  legal : IsJournal (server_journal acts)
  runs : DaemonRuns first (server_journal acts) d
  hands : HandsOnAmong traffic_of owner acts
  held : AreHeldUp traffic_of owner acts

job_back : (owner : Owner) (first : Core) (j : ℕ) (step : JobStep) (past : Acts) (d : Core) → SoFar owner first (OfJob j step ∷ past) d → SoFar owner first past d
unfolding server_journal HandsOnAmong
job_back owner first j step past d s = record { legal = s.legal; runs = s.runs; hands = s.hands.0; held = s.held.0 }

made_by : (step : JobStep) (steps : List JobStep) → connections_made traffic_of (step ∷ steps) ≡ made_with (traffic_of step) (connections_made traffic_of steps)
unfolding connections_made
made_by step steps = refl

-- where a client reads the data of the connection that its session was given last, that one is not lost
undropped : (owner : Owner) (first : Core) (i k : ℕ) (begun : ClientState) (w : OfJobIn owner first i k begun) (t : Traffic) (past : Acts) (d : Core) (c : ClientState) → SoFar owner first past d → ReadsNone t → IsHeldUp owner i t past → StepsLead begun (job_journal i past) c → Receiving c
    → connections_accepted k (server_journal past) ≡ connections_made traffic_of (job_journal i past) → (passed_of (server_journal past) k).dropped ≡ false
unfolding server_journal
undropped owner first i k begun w t [] d c s none h l r same = ap (λ (x : Passed). x.dropped) (passed_first k)
undropped owner first i k begun w t (OfServer (Of n act) ∷ past) d c s none h l r same =
    let held = held_by owner i n t act h in
    let is : n ≡ k = w.one n k i held.0 w.own in
    let there_now : (passed_of (Of n act ∷ server_journal past) n).dropped ≡ false = ap (λ (x : Passed). x.dropped) (passes_own n act (server_journal past)) ∙ given_undropped (server_journal past) first s.runs.0 d n act w.limits s.runs.1 s.runs.2 (gives_by t act none held.1) in
    subst (λ (m : ℕ). (passed_of (Of n act ∷ server_journal past) m).dropped ≡ false) is there_now
undropped owner first i k begun w t (OfServer action ∷ past) d c s none h l r same = absurd (let wrong : false ≡ true = h in cc)
undropped owner first i k begun w t (OfJob j step ∷ past) d c s none (inr x) l r same =
    let journal = of_other i j step past x.0 in
    undropped owner first i k begun w t past d c (job_back owner first j step past d s) none x.1 (subst (λ (m : List JobStep). StepsLead begun m c) journal l) r (same ∙ ap (connections_made traffic_of) journal)
undropped owner first i k begun w t (OfJob j step ∷ past) d c s none (inl is) l r same =
    let back = job_back owner first j step past d s in
    let journal : job_journal i (OfJob j step ∷ past) ≡ step ∷ job_journal i past = subst (λ (x : ℕ). job_journal i (OfJob x step ∷ past) ≡ step ∷ job_journal i past) (sym is) (own_journal i step past) in
    let led : StepsLead begun (step ∷ job_journal i past) c = subst (λ (m : List JobStep). StepsLead begun m c) journal l in
    let made : connections_accepted k (server_journal past) ≡ made_with (traffic_of step) (connections_made traffic_of (job_journal i past)) = same ∙ ap (connections_made traffic_of) journal ∙ made_by step (job_journal i past) in
    let fronts = reads_written traffic_of owner past k i w.one back.legal back.hands w.own in
    by led.0 led.1 made fronts.accepted (step_receives led.0 c step.move step.gives step.turned (steps_serve begun (job_journal i past) led.0 w.serves led.1) led.3 r)
    (λ mid none_read before reads count. undropped owner first i k begun w (traffic_of step) past d mid back none_read (subst (λ (x : ℕ). IsHeldUp owner x (traffic_of step) past) is s.held.1) before reads count)
  where
    by : (mid : ClientState) → StepsLead begun (job_journal i past) mid → connections_accepted k (server_journal past) ≡ made_with (traffic_of step) (connections_made traffic_of (job_journal i past)) → connections_accepted k (server_journal past) ≤ connections_made traffic_of (job_journal i past)
        → ((port : ℕ) × (step.move ≡ Dials port true)) ⊎ (Receiving mid × IsApart step.move)
        → ((old : ClientState) → ReadsNone (traffic_of step) → StepsLead begun (job_journal i past) old → Receiving old → connections_accepted k (server_journal past) ≡ connections_made traffic_of (job_journal i past) → (passed_of (server_journal past) k).dropped ≡ false) → (passed_of (server_journal past) k).dropped ≡ false
    by mid before made low (inl dials) more =
        let one_more : connections_accepted k (server_journal past) ≡ connections_made traffic_of (job_journal i past) + 1 = made ∙ ap (λ (m : JobMove). made_with (traffic_of_move m) (connections_made traffic_of (job_journal i past))) dials.1 in
        absurd (omega (arith, one_more, low))
    by mid before made low (inr reads) more = more mid (apart_reads step.move reads.1) before reads.0 (made ∙ apart_made step.move (connections_made traffic_of (job_journal i past)) reads.1)

-- ---- of all acts

-- the loop of each job, up to some client
abbrev pub Loops : List Job → (ℕ → ClientState) → Acts → Type 0
Loops jobs begun acts = (i : ℕ) (job : Job) → slice_get jobs i ≡ Some job → (c : ClientState) × StepsLead (begun i) (job_journal i acts) c

loops_back : (jobs : List Job) (begun : ℕ → ClientState) (j : ℕ) (step : JobStep) (past : Acts) → Loops jobs begun (OfJob j step ∷ past) → Loops jobs begun past
loops_back jobs begun j step past loops i job at = by (decide j i) (loops i job at)
  where
    by : (j ≡ i) ⊎ (j ≢ i) → (c : ClientState) × StepsLead (begun i) (job_journal i (OfJob j step ∷ past)) c → (c : ClientState) × StepsLead (begun i) (job_journal i past) c
    by (inl is) l =
        let journal : job_journal i (OfJob j step ∷ past) ≡ step ∷ job_journal i past = subst (λ (x : ℕ). job_journal i (OfJob x step ∷ past) ≡ step ∷ job_journal i past) (sym is) (own_journal i step past) in
        let led : StepsLead (begun i) (step ∷ job_journal i past) l.0 = subst (λ (m : List JobStep). StepsLead (begun i) m l.0) journal l.1 in
        (led.0, led.1)
    by (inr off) l = (l.0, subst (λ (m : List JobStep). StepsLead (begun i) m l.0) (of_other i j step past off) l.1)

server_back : (owner : Owner) (first : Core) (action : LoopAction) (past : Acts) (d : Core) (s : SoFar owner first (OfServer action ∷ past) d) → (mid : Core) × SoFar owner first past mid
unfolding server_journal HandsOnAmong
server_back owner first action past d s = (s.runs.0, record { legal = s.legal.0; runs = s.runs.1; hands = s.hands.0; held = s.held })

-- what a step takes it takes of a data connection that stands
takes_standing : (owner : Owner) (first : Core) (i k : ℕ) (begun : ClientState) (w : OfJobIn owner first i k begun) (past : Acts) (d : Core) (mid c : ClientState) (move : JobMove) (gives : List JobMove) (turned : Bool) → SoFar owner first past d → StepsLead begun (job_journal i past) mid
    → StepLeads mid (record { move = move; gives = gives; turned = turned }) c → IsHeldUp owner i (traffic_of_move move) past → MayMove traffic_of owner i (traffic_of_move move) past → (bytes : List ℕ) → traffic_of_move move ≡ TakesBytes bytes → (passed_of (server_journal past) k).dropped ≡ false
takes_standing owner first i k begun w past d mid c (Takes piece) gives turned s led l held may bytes is =
    undropped owner first i k begun w (TakesBytes piece) past d mid s tt held led l.takes.receiving (subst (λ (m : ℕ). connections_accepted m (server_journal past) ≡ connections_made traffic_of (job_journal i past)) (w.one may.0 k i may.1 w.own) may.2)
takes_standing owner first i k begun w past d mid c (Dials port true) gives turned s led l held may bytes is = absurd (let wrong : MakesConnection ≡ TakesBytes bytes = is in cc)
takes_standing owner first i k begun w past d mid c (Dials port false) gives turned s led l held may bytes is = absurd (let wrong : NoTraffic ≡ TakesBytes bytes = is in cc)
takes_standing owner first i k begun w past d mid c move gives turned s led l held may bytes is = absurd (cc)

-- all that is taken is taken of data connections that stand, of sessions whose jobs are among these
all_standing : (owner : Owner) (first : Core) (jobs : List Job) (begun : ℕ → ClientState) (acts : Acts) (d : Core) → HasDaemonLimits first → HaveOneSession owner → ((k i : ℕ) → owner k ≡ Some i → i < length jobs) → ((i : ℕ) (job : Job) → slice_get jobs i ≡ Some job → IsNewClient job (begun i))
    → SoFar owner first acts d → Loops jobs begun acts → TakeWhatStands owner acts
unfolding server_journal HandsOnAmong
all_standing owner first jobs begun [] d l one within fresh s loops = tt
all_standing owner first jobs begun (OfServer action ∷ past) d l one within fresh s loops =
    let back = server_back owner first action past d s in
    all_standing owner first jobs begun past back.0 l one within fresh back.1 (λ i job at. (let x = loops i job at in (x.0, subst (λ (m : List JobStep). StepsLead (begun i) m x.0) (of_server i action past) x.1)))
all_standing owner first jobs begun (OfJob i step ∷ past) d l one within fresh s loops =
    let back = job_back owner first i step past d s in
    (all_standing owner first jobs begun past d l one within fresh back (loops_back jobs begun i step past loops), stands (traffic_of step) refl)
  where
    stands : (t : Traffic) → traffic_of step ≡ t → Standing owner (passed_of (server_journal past)) i t
    stands (TakesBytes bytes) is = λ k own.
        let job = there jobs i (within k i own) in
        let loop = loops i job.0 job.1 in
        let led : StepsLead (begun i) (step ∷ job_journal i past) loop.0 = subst (λ (m : List JobStep). StepsLead (begun i) m loop.0) (own_journal i step past) loop.1 in
        let w : OfJobIn owner first i k (begun i) = record { limits = l; one = one; own = own; serves = serves_first job.0 (begun i) (fresh i job.0 job.1) } in
        takes_standing owner first i k (begun i) w past d led.0 loop.0 step.move step.gives step.turned (job_back owner first i step past d s) led.1 led.3 s.held.1 s.hands.1 bytes is
    stands t is = tt

-- ---- all acts, in that order

pub record InTime (owner : Owner) (acts : Acts) : Type 0 where
  pub new : Acts
  pub same : HaveSameJournals new acts
  pub hands : HandsOnAmong traffic_of owner new
  pub timely : AreTimely owner new
  pub standing : TakeWhatStands owner new

pub arrange : (owner : Owner) (jobs : List Job) (begun last : ℕ → ClientState) (acts : Acts) (first d : Core) → HasDaemonLimits first → HaveOneSession owner → ((k i : ℕ) → owner k ≡ Some i → i < length jobs) → ((i : ℕ) (job : Job) → slice_get jobs i ≡ Some job → IsNewClient job (begun i))
    → ((i : ℕ) (job : Job) → slice_get jobs i ≡ Some job → StepsLead (begun i) (job_journal i acts) (last i)) → IsJournal (server_journal acts) → DaemonRuns first (server_journal acts) d → HandsOnAmong traffic_of owner acts → InTime owner acts
arrange owner jobs begun last acts first d l one within fresh loops legal runs hands =
    let order = at_once traffic_of owner acts hands in
    let new = order.new in
    let s : SoFar owner first new d = record {
      legal = subst IsJournal (sym order.same.server) legal;
      runs = subst (λ (x : List LoopAction). DaemonRuns first x d) (sym order.same.server) runs;
      hands = order.hands;
      held = order.held;
    } in
    record {
      new = new;
      same = order.same;
      hands = order.hands;
      timely = all_timely owner new first d l one s.legal s.runs s.held;
      standing = all_standing owner first jobs begun new d l one within fresh s (λ i job at. (last i, subst (λ (x : List JobStep). StepsLead (begun i) x (last i)) (sym (order.same.jobs i)) (loops i job at)));
    }
