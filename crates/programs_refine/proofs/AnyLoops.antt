-- Whatever some loops did, to all others their sessions are strangers': their own acts are left out.
use Rattle.std.specs.Prelude.{◌<◌}
use Rattle.std.proofs.Common.{◌≡◌, ◌≢◌, ◌∙◌, ◌⊎◌, inl, inr, ℕ, Bool, true, false, cond, Option, Some, None, List, [], ◌∷◌, ◌++◌, slice_get, refl, sym, ap, subst}
use Rattle.std.proofs.lemmas.List.Elements.{All-from_recursion}
use Rattle.scan_job.specs.declared.job.Job.{Job}
use Rattle.scan_job.specs.JobSize.{HasCount}
use Rattle.client_replies.specs.ProtocolStates.{is_running}
use Rattle.net_client.specs.ClientStates.{ClientState, IsNewClient}
use Rattle.net_jobs.specs.JobSteps.{IsDelivery, JobStep, StepsLead}
use Rattle.saned_core.specs.DaemonStates.{Core}
use Rattle.saned_serve.specs.SessionActions.{SessionAction}
use Rattle.saned_serve.specs.SessionActions.SessionAction.{Opens, Hears as HearsOfServer, Feed, Forgets, Take, Says, Looks, Misses, Connect, Turn, Shows, Lose, HangsUp, Leaves}
use Rattle.saned_serve.specs.Journal.{IsFront, JournalLeads, LoopAction, projection_of}
use Rattle.saned_serve.specs.Journal.LoopAction.{Of, Full, Waits, Refuses, Turned, Stops}
use Rattle.in_flight.proofs.Slots.{decide}
use Rattle.interleaving.specs.Interleavings.{Traffic, bytes_heard, bytes_sent, bytes_taken, connections_accepted, connections_made, job_journal, server_journal}
use Rattle.interleaving.specs.Interleavings.JointAction.{OfJob, OfServer}
use Rattle.interleaving.specs.Interleavings.Traffic.{Writes as WritesBytes, Reads as ReadsBytes, Dials as MakesConnection, Takes as TakesBytes, NoTraffic}
use Rattle.interleaving.specs.HandingOn.{HandsOnAmong, IsHandedOnAmong, MayMove, MayServe, Owner}
use Rattle.interleaving.specs.Parts.{ControlHandsOnAmong, DataIsFromDaemon}
use Rattle.interleaving.proofs.Parts.{in_parts_among}
use Rattle.interleaving.proofs.Sooner.{of_other}
use Rattle.programs_refine.specs.StepTraffic.{traffic_of}
use Rattle.programs_refine.specs.Programs.{Acts, OwnersAreJobs}
use Rattle.programs_refine.specs.AmongStrangers.{RunAmongStrangers}
use Rattle.programs_refine.specs.BesideAnyLoops.{ProgramsTellEachBesideAny, RunBesideAnyLoops, WildIsARun, owned_by_whole, owner_if, wild_acts}
use Rattle.programs_refine.specs.StoppedAmong.{but_the_second, lost_or_killed}
use Rattle.programs_refine.specs.Keeping.{LoopIsKept}
use Rattle.programs_refine.specs.ToldAmong.{ProgramsKeepAllAmongStrangers, joint_history}
use Rattle.programs_refine.specs.StoppedLoops.{StopsWithin}
use Rattle.programs_refine.specs.WorkedRuns.{lost_client, writes}
use Rattle.programs_refine.proofs.KilledAmong.{first_of, two_jobs}
use Rattle.programs_refine.proofs.Outgoing.{never_both}
use Rattle.programs_refine.proofs.Passed.{own_journal}
use Rattle.programs_refine.proofs.StoppedLoops.{ends_same, stops_same}
use Rattle.programs_refine.proofs.WorkedRuns.{loses_leads, lost_at_once, none_owned}

-- ---- the acts of the server and of whole loops

abbrev kept_acts : (ℕ → Bool) → Acts → Acts
kept_acts whole [] = []
kept_acts whole (OfServer action ∷ past) = OfServer action ∷ kept_acts whole past
kept_acts whole (OfJob j step ∷ past) = cond (whole j) (OfJob j step ∷ kept_acts whole past) (kept_acts whole past)

server_if : (j : ℕ) (step : JobStep) (b : Bool) (left : Acts) (journal : List LoopAction) → server_journal left ≡ journal → server_journal (cond b (OfJob j step ∷ left) left) ≡ journal
unfolding server_journal
server_if j step true left journal e = e
server_if j step false left journal e = e

kept_server : (whole : ℕ → Bool) (acts : Acts) → server_journal (kept_acts whole acts) ≡ server_journal acts
unfolding server_journal
kept_server whole [] = refl
kept_server whole (OfServer action ∷ past) = ap (λ (l : List LoopAction). action ∷ l) (kept_server whole past)
kept_server whole (OfJob j step ∷ past) = server_if j step (whole j) (kept_acts whole past) (server_journal past) (kept_server whole past)

own_at : (i j : ℕ) (step : JobStep) (past : Acts) → j ≡ i → job_journal i (OfJob j step ∷ past) ≡ step ∷ job_journal i past
own_at i j step past same = subst (λ (x : ℕ). job_journal i (OfJob x step ∷ past) ≡ step ∷ job_journal i past) (sym same) (own_journal i step past)

own_if : (i j : ℕ) (step : JobStep) (whole : ℕ → Bool) (past : Acts) (b : Bool) → whole i ≡ true → whole j ≡ b → (j ≡ i) ⊎ (j ≢ i) → job_journal i (kept_acts whole past) ≡ job_journal i past
    → job_journal i (cond b (OfJob j step ∷ kept_acts whole past) (kept_acts whole past)) ≡ job_journal i (OfJob j step ∷ past)
own_if i j step whole past true on is (inl same) rest = own_at i j step (kept_acts whole past) same ∙ ap (λ (l : List JobStep). step ∷ l) rest ∙ sym (own_at i j step past same)
own_if i j step whole past true on is (inr off) rest = of_other i j step (kept_acts whole past) off ∙ rest ∙ sym (of_other i j step past off)
own_if i j step whole past false on is (inl same) rest = absurd (never_both (whole i) on (ap whole (sym same) ∙ is))
own_if i j step whole past false on is (inr off) rest = rest ∙ sym (of_other i j step past off)

kept_own : (i : ℕ) (whole : ℕ → Bool) (acts : Acts) → whole i ≡ true → job_journal i (kept_acts whole acts) ≡ job_journal i acts
unfolding job_journal
kept_own i whole [] on = refl
kept_own i whole (OfServer action ∷ past) on = kept_own i whole past on
kept_own i whole (OfJob j step ∷ past) on = own_if i j step whole past (whole j) on refl (decide j i) (kept_own i whole past on)

-- the others did nothing
none_if : (i j : ℕ) (step : JobStep) (whole : ℕ → Bool) (past : Acts) (b : Bool) → whole i ≡ false → whole j ≡ b → (j ≡ i) ⊎ (j ≢ i) → job_journal i (kept_acts whole past) ≡ []
    → job_journal i (cond b (OfJob j step ∷ kept_acts whole past) (kept_acts whole past)) ≡ []
none_if i j step whole past true out is (inl same) rest = absurd (never_both (whole i) (ap whole (sym same) ∙ is) out)
none_if i j step whole past true out is (inr off) rest = of_other i j step (kept_acts whole past) off ∙ rest
none_if i j step whole past false out is same rest = rest

kept_none : (i : ℕ) (whole : ℕ → Bool) (acts : Acts) → whole i ≡ false → job_journal i (kept_acts whole acts) ≡ []
unfolding job_journal
kept_none i whole [] out = refl
kept_none i whole (OfServer action ∷ past) out = kept_none i whole past out
kept_none i whole (OfJob j step ∷ past) out = none_if i j step whole past (whole j) out refl (decide j i) (kept_none i whole past out)

-- ---- whose sessions

still_owned : (whole : ℕ → Bool) (owner : Owner) (k i : ℕ) → owner k ≡ Some i → whole i ≡ true → owned_by_whole whole owner k ≡ Some i
still_owned whole owner k i own on = ap (owner_if whole) own ∙ ap (λ (b : Bool). cond b (Some i) None) on

not_owned : (whole : ℕ → Bool) (owner : Owner) (k i : ℕ) → owner k ≡ Some i → whole i ≡ false → owned_by_whole whole owner k ≡ None
not_owned whole owner k i own out = ap (owner_if whole) own ∙ ap (λ (b : Bool). cond b (Some i) None) out

owned_by : (whole : ℕ → Bool) (o : Option ℕ) (i : ℕ) → owner_if whole o ≡ Some i → o ≡ Some i
owned_by whole None i e = absurd (let clash : None ≡ Some i = e in cc)
owned_by whole (Some j) i e = by (whole j) e
  where
    by : (b : Bool) → cond b (Some j) None ≡ Some i → Some j ≡ Some i
    by true e = e
    by false e = absurd (let clash : None ≡ Some i = e in cc)

whole_owners : (jobs : List Job) (whole : ℕ → Bool) (owner : Owner) → OwnersAreJobs owner jobs → OwnersAreJobs (owned_by_whole whole owner) jobs
whole_owners jobs whole owner owns = record {
  within = λ k i e. owns.within k i (owned_by whole (owner k) i e);
  one = λ j k i e f. owns.one j k i (owned_by whole (owner j) i e) (owned_by whole (owner k) i f);
}

-- ---- connections hand on to them as before

serves_whole : (owner : Owner) (whole : ℕ → Bool) (k : ℕ) (act : SessionAction) (past : Acts) → MayServe traffic_of owner k act past → (owned_by_whole whole owner k ≡ None) ⊎ MayServe traffic_of (owned_by_whole whole owner) k act (kept_acts whole past)
serves_whole owner whole k (Opens port) past m = by (whole m.0) refl
  where
    by : (b : Bool) → whole m.0 ≡ b → (owned_by_whole whole owner k ≡ None) ⊎ MayServe traffic_of (owned_by_whole whole owner) k (Opens port) (kept_acts whole past)
    by true on = inr (m.0, still_owned whole owner k m.0 m.1 on)
    by false out = inl (not_owned whole owner k m.0 m.1 out)
serves_whole owner whole k (HearsOfServer got room bytes) past m = inr tt
serves_whole owner whole k (Feed piece fed begins) past m = by (whole m.0) refl
  where
    by : (b : Bool) → whole m.0 ≡ b → (owned_by_whole whole owner k ≡ None) ⊎ MayServe traffic_of (owned_by_whole whole owner) k (Feed piece fed begins) (kept_acts whole past)
    by true on = inr (m.0, still_owned whole owner k m.0 m.1 on, subst (λ (l : List JobStep). IsFront ((projection_of k (server_journal (kept_acts whole past))).heard ++ piece) (bytes_sent traffic_of l)) (sym (kept_own m.0 whole past on)) (subst (λ (l : List LoopAction). IsFront ((projection_of k l).heard ++ piece) (bytes_sent traffic_of (job_journal m.0 past))) (sym (kept_server whole past)) m.2))
    by false out = inl (not_owned whole owner k m.0 m.1 out)
serves_whole owner whole k (Forgets told port) past m = inr tt
serves_whole owner whole k (Take room bytes) past m = inr tt
serves_whole owner whole k (Says got bytes) past m = inr tt
serves_whole owner whole k (Looks frame) past m = inr tt
serves_whole owner whole k (Misses port) past m = inr tt
serves_whole owner whole k (Connect port) past m = by (whole m.0) refl
  where
    by : (b : Bool) → whole m.0 ≡ b → (owned_by_whole whole owner k ≡ None) ⊎ MayServe traffic_of (owned_by_whole whole owner) k (Connect port) (kept_acts whole past)
    by true on = inr (m.0, still_owned whole owner k m.0 m.1 on, subst (λ (l : List JobStep). connections_accepted k (server_journal (kept_acts whole past)) < connections_made traffic_of l) (sym (kept_own m.0 whole past on)) (subst (λ (l : List LoopAction). connections_accepted k l < connections_made traffic_of (job_journal m.0 past)) (sym (kept_server whole past)) m.2))
    by false out = inl (not_owned whole owner k m.0 m.1 out)
serves_whole owner whole k (Turn room step bytes) past m = inr tt
serves_whole owner whole k (Shows got bytes) past m = inr tt
serves_whole owner whole k Lose past m = inr tt
serves_whole owner whole k (HangsUp trace) past m = inr tt
serves_whole owner whole k (Leaves port trace) past m = inr tt

moves_whole : (owner : Owner) (whole : ℕ → Bool) (i : ℕ) (t : Traffic) (past : Acts) → whole i ≡ true → MayMove traffic_of owner i t past → MayMove traffic_of (owned_by_whole whole owner) i t (kept_acts whole past)
moves_whole owner whole i (WritesBytes bytes) past on m = tt
moves_whole owner whole i (ReadsBytes bytes) past on m =
    let server = kept_server whole past in
    let own = kept_own i whole past on in
    (m.0, still_owned whole owner m.0 i m.1 on, subst (λ (l : List LoopAction). IsFront (bytes_heard traffic_of (job_journal i (kept_acts whole past)) ++ bytes) (projection_of m.0 l).said) (sym server) (subst (λ (l : List JobStep). IsFront (bytes_heard traffic_of l ++ bytes) (projection_of m.0 (server_journal past)).said) (sym own) m.2))
moves_whole owner whole i MakesConnection past on m = tt
moves_whole owner whole i (TakesBytes bytes) past on m =
    let server = kept_server whole past in
    let own = kept_own i whole past on in (
      m.0,
      still_owned whole owner m.0 i m.1 on,
      ap (connections_accepted m.0) server ∙ m.2 ∙ sym (ap (connections_made traffic_of) own),
      subst (λ (l : List LoopAction). IsFront (bytes_taken traffic_of (job_journal i (kept_acts whole past)) ++ bytes) (projection_of m.0 l).shown) (sym server) (subst (λ (l : List JobStep). IsFront (bytes_taken traffic_of l ++ bytes) (projection_of m.0 (server_journal past)).shown) (sym own) m.3),
    )
moves_whole owner whole i NoTraffic past on m = tt

acts_whole : (owner : Owner) (whole : ℕ → Bool) (action : LoopAction) (past : Acts) → IsHandedOnAmong traffic_of owner (OfServer action) past → IsHandedOnAmong traffic_of (owned_by_whole whole owner) (OfServer action) (kept_acts whole past)
acts_whole owner whole (Of k act) past (inl none) = inl (ap (owner_if whole) none)
acts_whole owner whole (Of k act) past (inr h) = serves_whole owner whole k act past h
acts_whole owner whole Full past h = tt
acts_whole owner whole Waits past h = tt
acts_whole owner whole (Refuses port trace) past h = tt
acts_whole owner whole Turned past h = tt
acts_whole owner whole Stops past h = tt

hands_if : (owner : Owner) (j : ℕ) (step : JobStep) (whole : ℕ → Bool) (past : Acts) (b : Bool) → whole j ≡ b → MayMove traffic_of owner j (traffic_of step) past → HandsOnAmong traffic_of (owned_by_whole whole owner) (kept_acts whole past)
    → HandsOnAmong traffic_of (owned_by_whole whole owner) (cond b (OfJob j step ∷ kept_acts whole past) (kept_acts whole past))
unfolding HandsOnAmong
hands_if owner j step whole past true on may rest = (rest, moves_whole owner whole j (traffic_of step) past on may)
hands_if owner j step whole past false out may rest = rest

kept_hands : (owner : Owner) (whole : ℕ → Bool) (acts : Acts) → HandsOnAmong traffic_of owner acts → HandsOnAmong traffic_of (owned_by_whole whole owner) (kept_acts whole acts)
unfolding HandsOnAmong
kept_hands owner whole [] h = tt
kept_hands owner whole (OfServer action ∷ past) h = (kept_hands owner whole past h.0, acts_whole owner whole action past h.1)
kept_hands owner whole (OfJob j step ∷ past) h = hands_if owner j step whole past (whole j) refl h.1 (kept_hands owner whole past h.0)

-- ---- the run that is left

-- where a loop is left out its client stands as it began
abbrev left_at : (whole : ℕ → Bool) (first last : ℕ → ClientState) → ℕ → ClientState
left_at whole first last i = cond (whole i) (last i) (first i)

left_leads : (jobs : List Job) (owner : Owner) (d : Core) (whole : ℕ → Bool) (acts : Acts) (last : ℕ → ClientState) (r : RunBesideAnyLoops jobs owner d whole acts last) (i : ℕ) (job : Job) → slice_get jobs i ≡ Some job → (b : Bool) → whole i ≡ b → StepsLead (r.loops.first i) (job_journal i (kept_acts whole acts)) (cond b (last i) (r.loops.first i))
left_leads jobs owner d whole acts last r i job at true on = subst (λ (x : List JobStep). StepsLead (r.loops.first i) x (last i)) (sym (kept_own i whole acts on)) (r.loops.loops i job at on)
left_leads jobs owner d whole acts last r i job at false out = subst (λ (x : List JobStep). StepsLead (r.loops.first i) x (r.loops.first i)) (sym (kept_none i whole acts out)) refl

left_run : (jobs : List Job) (owner : Owner) (d : Core) (whole : ℕ → Bool) (acts : Acts) (last : ℕ → ClientState) (r : RunBesideAnyLoops jobs owner d whole acts last) → RunAmongStrangers jobs (owned_by_whole whole owner) d (kept_acts whole acts) (left_at whole r.loops.first last)
left_run jobs owner d whole acts last r =
    let hands = kept_hands owner whole acts ((in_parts_among traffic_of owner acts).1 r.hands_on r.from_daemon) in
    let left = (in_parts_among traffic_of (owned_by_whole whole owner) (kept_acts whole acts)).0 hands in
    record {
      new = r.new;
      owns = whole_owners jobs whole owner r.owns;
      counts = r.counts;
      loops = record { first = r.loops.first; fresh = r.loops.fresh; loops = λ i job at. left_leads jobs owner d whole acts last r i job at (whole i) refl };
      end = r.end;
      before = r.before;
      after = r.after;
      serves = subst (λ (l : List LoopAction). JournalLeads d r.before l r.end r.after) (sym (kept_server whole acts)) r.serves;
      hands_on = left.0;
      from_daemon = left.1;
    }

pub tells_each_beside : ProgramsKeepAllAmongStrangers → ProgramsTellEachBesideAny
tells_each_beside all devices jobs owner d whole acts last fit r =
    let left = kept_acts whole acts in
    let at_end = left_at whole r.loops.first last in
    let k = all devices jobs (owned_by_whole whole owner) d left at_end fit (left_run jobs owner d whole acts last r) in
    let h = joint_history devices k.seed jobs d k.events in
    let own : (i : ℕ) → whole i ≡ true → at_end i ≡ last i = λ i on. ap (λ (b : Bool). cond b (last i) (r.loops.first i)) on in
    record {
      seed = k.seed;
      events = k.events;
      are = k.are;
      strangers = k.strangers;
      v = k.v;
      led = k.led;
      each = λ i job at on over. ends_same h k.v i job acts left (last i) (kept_own i whole acts on) (subst (LoopIsKept h k.v i job left) (own i on) (k.each i job at (ap (λ (c : ClientState). is_running c.outcome) (own i on) ∙ over)));
      stopped = λ i job at on runs. stops_same h k.v i job acts left (kept_own i whole acts on) (k.stopped i job at (ap (λ (c : ClientState). is_running c.outcome) (own i on) ∙ runs));
    }

-- ---- such a run

first_leads : (one : Job) (c : ClientState) (byte : ℕ) → IsNewClient one c → StepsLead c (job_journal 0 (wild_acts byte)) (lost_client c)
unfolding job_journal
first_leads one c byte new = loses_leads one c new

-- a write is no piece that came
head_is : (x y : JobStep) (xs ys : List JobStep) → x ∷ xs ≡ y ∷ ys → y ≡ x
head_is x y xs ys e = cc

never_came : {first last : ClientState} (byte : ℕ) → StopsWithin first (job_journal 1 (wild_acts byte)) last → ⊥
unfolding job_journal
never_came byte s = subst (λ (step : JobStep). IsDelivery step.move) (head_is (writes (byte ∷ [])) s.step [] s.before s.steps_are) s.came

pub wild_run : WildIsARun
unfolding server_journal job_journal ControlHandsOnAmong DataIsFromDaemon
wild_run one two c b registry users strings stream byte new newer count more =
    let alone = lost_at_once one c registry users strings stream new count in (
      record {
        new = alone.new;
        owns = none_owned (one ∷ two ∷ []);
        counts = All-from_recursion (λ (j : Job). HasCount j.task) (one ∷ two ∷ []) (count, (more, tt));
        loops = record {
          first = first_of c b;
          fresh = λ i job at. two_jobs one two job i (λ k j. IsNewClient j (first_of c b k)) at new newer;
          loops = λ i job at. two_jobs one two job i (λ k j. but_the_second k ≡ true → StepsLead (first_of c b k) (job_journal k (wild_acts byte)) (lost_or_killed c b k)) at (λ on. first_leads one c byte new) (λ on. absurd (let clash : false ≡ true = on in cc));
        };
        end = alone.end;
        before = alone.before;
        after = alone.after;
        serves = alone.serves;
        hands_on = ((tt, tt), tt);
        from_daemon = ((tt, tt), tt);
      },
      λ last r. never_came byte (r.loops.stops 1 refl),
    )
