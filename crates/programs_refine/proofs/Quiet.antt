-- Steps of a job by which nothing happens in the world: what it writes is on its way, and what it loses the daemon does not know.
use Rattle.std.specs.Prelude.{◌<◌, ◌||◌}
use Rattle.std.proofs.Common.{◌≡◌, ◌∙◌, ℕ, ◌+◌, Bool, true, false, cond, Some, None, List, [], ◌++◌, append-nil, refl, sym, ap, subst, arith}
use Rattle.scan_job.specs.declared.job.Job.{Job}
use Rattle.client_replies.specs.declared.progress.Link.{Link}
use Rattle.client_replies.specs.declared.progress.Link.TheVariants as links
use Rattle.client_replies.specs.declared.progress.Progress.TheVariants as stages
use Rattle.client_replies.specs.ProtocolStates.{is_lost_by, wanted_port}
use Rattle.net_client.specs.ClientStates.{ClientState}
use Rattle.net_jobs.specs.JobJournal.{DialsPort, JobMove, LosesLink, MissesPort, MoveLeads, WritesAll, WritesShort, after_loss}
use Rattle.net_jobs.specs.JobJournal.JobMove.{Writes, Fails, Hears, Resumes, Prepares, Dials, Takes, Gives, Loses}
use Rattle.net_jobs.specs.JobSteps.{is_failed_write}
use Rattle.interleaving.specs.Interleavings.{heard_with, made_with, sent_with, taken_with}
use Rattle.interleaving.specs.HandingOn.{Owner}
use Rattle.event_world.specs.declared.endpoint.Endpoint.{Endpoint}
use Rattle.event_world.specs.Endpoints.{IsNew}
use Rattle.programs_refine.specs.StepTraffic.{traffic_of_move}
use Rattle.programs_refine.proofs.Outgoing.{dials_once, follows_dialled, follows_loss, follows_lost, follows_out, loss_out, never_both, not_over, out_failed, out_written, runs_by}
use Rattle.programs_refine.proofs.Passed.{Passed, Traffics, traffics_after}
use Rattle.programs_refine.proofs.Tracks.{Follows, ImageTracks, JobTracks, OutTracks, with_out}
use Rattle.programs_refine.proofs.Tracks.Follows.{Alike, Dialled, Lost, Cut}
use Rattle.programs_refine.proofs.Tracks.JobTracks.{Unlinked, Linked, Left}

-- what passed behind a move behind which nothing goes out of the file
abbrev pub traffics_moved : JobMove → Traffics → Traffics
traffics_moved move x = record {
  sent = sent_with (traffic_of_move move) x.sent;
  heard = heard_with (traffic_of_move move) x.heard;
  taken = taken_with (traffic_of_move move) x.taken;
  made = made_with (traffic_of_move move) x.made;
  failed = is_failed_write move || x.failed;
  turned = x.turned;
  given = x.given;
}

pub gave_none : (move : JobMove) (gives : List JobMove) (turned : Bool) (x : Traffics) → gives ≡ [] → turned ≡ false → traffics_after (record { move = move; gives = gives; turned = turned }) x ≡ traffics_moved move x
gave_none move gives turned x e still =
    ap (λ (g : List JobMove). traffics_after (record { move = move; gives = g; turned = turned }) x) e ∙ ap (λ (b : Bool). traffics_after (record { move = move; gives = []; turned = b }) x) still
    ∙ ap (λ (f : List ℕ). record (traffics_moved move x) { given = f }) (append-nil x.given)

-- what all these have in common
record Here : Type 0 where
  owner : Owner
  opened : ℕ
  flying : ℕ → List ℕ
  passed : ℕ → Passed
  i : ℕ
  job : Job

abbrev TracksHere : Here → Traffics → ClientState → Endpoint → Type 0
TracksHere h x c p = JobTracks h.owner h.opened h.flying h.passed x h.i h.job c p

-- no step is made behind the end of the session
abbrev pub IsTimely : Owner → ℕ → (ℕ → Passed) → ℕ → Type 0
IsTimely owner opened passed i = (k : ℕ) → owner k ≡ Some i → k < opened → (passed k).is_open ≡ true

-- ---- a client that only says more, or less

-- the traffic that was, but for what was sent
abbrev only_sent : Traffics → Traffics → Type 0
only_sent x y = (y.heard ≡ x.heard) × (y.taken ≡ x.taken) × (y.made ≡ x.made) × (y.turned ≡ x.turned) × (y.given ≡ x.given)

says : (h : Here) (x : Traffics) (sent : List ℕ) (failed : Bool) (c new : ClientState) (p : Endpoint) → IsTimely h.owner h.opened h.passed h.i
    → ((pending dropped : Bool) → Follows pending dropped c p.client → Follows pending dropped new p.client)
    → ((heard : List ℕ) → OutTracks x.failed x.sent heard p.client.out c.out → OutTracks failed sent heard p.client.out new.out)
    → TracksHere h x c p → TracksHere h (record x { sent = sent; failed = failed }) new p
says h x sent failed c new p timely follows out (Unlinked u) = Unlinked (record {
  new = u.new;
  none = u.none;
  silent = u.silent;
  follows = follows false false u.follows;
  out = out [] u.out;
  rest = ap (λ (y : Traffics). record y { sent = sent; failed = failed }) u.rest;
})
says h x sent failed c new p timely follows out (Linked k own low l) = Linked k own low (record {
  id = l.id;
  link = l.link;
  number = l.number;
  is_open = l.is_open;
  pending = l.pending;
  made = l.made;
  follows = follows l.pending (h.passed k).dropped l.follows;
  out = out (h.passed k).heard l.out;
  said = l.said;
  image = l.image;
  files = l.files;
})
says h x sent failed c new p timely follows out (Left k own low shut l) = never_both (h.passed k).is_open (timely k own low) shut

-- ---- each move

writes : (h : Here) (x : Traffics) (c new : ClientState) (p : Endpoint) (bytes : List ℕ) → IsTimely h.owner h.opened h.passed h.i → x.failed ≡ false → WritesAll c bytes new → TracksHere h x c p → TracksHere h (record x { sent = x.sent ++ bytes }) new p
writes h x c new p bytes timely ok w t =
    subst (λ (z : ClientState). TracksHere h (record x { sent = x.sent ++ bytes }) z p) (sym w.new_is)
    (says h x (x.sent ++ bytes) x.failed c (with_out [] c) p timely (λ pending dropped f. follows_out pending dropped c p.client [] f) (λ heard o. out_written x.failed x.sent heard p.client.out c.out bytes ok o w.all) t)

fails : (h : Here) (x : Traffics) (c new : ClientState) (p : Endpoint) (bytes : List ℕ) → IsTimely h.owner h.opened h.passed h.i → x.failed ≡ false → WritesShort c bytes new → TracksHere h x c p → TracksHere h (record x { sent = x.sent ++ bytes; failed = true }) new p
fails h x c new p bytes timely ok w t =
    let cut : ClientState = with_out new.out c in
    subst (λ (z : ClientState). TracksHere h (record x { sent = x.sent ++ bytes; failed = true }) z p) (sym w.new_is)
    (says h x (x.sent ++ bytes) true c (after_loss links.Control cut) p timely
    (λ pending dropped f. follows_loss links.Control pending dropped cut p.client (is_lost_by links.Control cut.outcome cut.progress) refl (follows_out pending dropped c p.client new.out f))
    (λ heard o. out_failed x.failed x.sent heard p.client.out c.out bytes w.rest (after_loss links.Control cut).out ok o w.front) t)

loses : (h : Here) (x : Traffics) (c new : ClientState) (p : Endpoint) (link : Link) → IsTimely h.owner h.opened h.passed h.i → LosesLink c link new → TracksHere h x c p → TracksHere h x new p
loses h x c new p link timely l t =
    says h x x.sent x.failed c new p timely (λ pending dropped f. follows_lost pending dropped c new p.client (runs_by link c.outcome c.progress l.lost) (ap (λ (z : ClientState). z.outcome) l.new_is) f)
    (λ heard o. subst (λ (z : List ℕ). OutTracks x.failed x.sent heard p.client.out z) (sym (ap (λ (z : ClientState). z.out) l.new_is)) o) t

misses : (h : Here) (x : Traffics) (c new : ClientState) (p : Endpoint) (port : ℕ) → IsTimely h.owner h.opened h.passed h.i → MissesPort c port new → TracksHere h x c p → TracksHere h x new p
misses h x c new p port timely m t =
    subst (λ (z : ClientState). TracksHere h x z p) (sym m.new_is)
    (says h x x.sent x.failed c (after_loss links.Image c) p timely (λ pending dropped f. follows_loss links.Image pending dropped c p.client (is_lost_by links.Image c.outcome c.progress) refl f)
    (λ heard o. subst (λ (z : List ℕ). OutTracks x.failed x.sent heard p.client.out z) (sym (loss_out links.Image c (is_lost_by links.Image c.outcome c.progress) refl)) o) t)

-- nothing was heard yet of a session, so no data connection is wanted
greets : (job : Job) (c new : ClientState) (p : Endpoint) (port : ℕ) → DialsPort c port new → IsNew job p → Follows false false c p.client → ⊥
greets job c new p port d n (Alike off same) =
    let at : p.client.progress ≡ stages.Greeting = ap (λ (z : ClientState). z.progress) n.client.value in
    let none : None ≡ wanted_port c.progress = sym (ap wanted_port (sym (ap (λ (z : ClientState). z.progress) same) ∙ at)) in
    let wrong : None ≡ Some port = none ∙ d.wanted in cc
greets job c new p port d n (Dialled on wants runs same) = never_both false on refl
greets job c new p port d n (Lost runs over wants) = not_over c.outcome over d.running
greets job c new p port d n (Cut off told over either) = never_both false told refl

image_dialled : (own : Passed) (taken : List ℕ) (pending : Bool) (p : Endpoint) → ImageTracks pending own taken p.image → ImageTracks true own [] p.image
image_dialled own taken pending p m = record { way = λ off. never_both true refl off; stands = m.stands; last_is = m.last_is }

dials : (h : Here) (x : Traffics) (c new : ClientState) (p : Endpoint) (port : ℕ) → IsTimely h.owner h.opened h.passed h.i → DialsPort c port new → TracksHere h x c p → TracksHere h (record x { taken = []; made = x.made + 1 }) new p
dials h x c new p port timely d (Unlinked u) = absurd (greets h.job c new p port d u.new u.follows)
dials h x c new p port timely d (Linked k own low l) =
    let none = dials_once (h.passed k).dropped c p.client port new d l.pending l.follows in
    let made : x.made ≡ (h.passed k).accepted + cond l.pending 1 0 = l.made in
    let follows : Follows false (h.passed k).dropped c p.client = subst (λ (b : Bool). Follows b (h.passed k).dropped c p.client) none l.follows in
    let count : x.made ≡ (h.passed k).accepted + 0 = made ∙ ap (λ (b : Bool). (h.passed k).accepted + cond b 1 0) none in
    Linked k own low (record {
      id = l.id;
      link = l.link;
      number = l.number;
      is_open = l.is_open;
      pending = true;
      made = (omega (arith, count));
      follows = follows_dialled (h.passed k).dropped c p.client port new d follows;
      out = subst (λ (z : List ℕ). OutTracks x.failed x.sent (h.passed k).heard p.client.out z) (sym (ap (λ (z : ClientState). z.out) d.new_is)) l.out;
      said = l.said;
      image = image_dialled (h.passed k) x.taken l.pending p l.image;
      files = l.files;
    })
dials h x c new p port timely d (Left k own low shut l) = never_both (h.passed k).is_open (timely k own low) shut

-- ---- all of them

-- a move that is no delivery of a piece
abbrev pub IsQuiet : JobMove → Type 0
IsQuiet (Hears piece) = ⊥
IsQuiet (Takes piece) = ⊥
IsQuiet (Gives bytes) = ⊥
IsQuiet Resumes = ⊥
IsQuiet move = Unit {0}

pub quiet_move : (owner : Owner) (opened : ℕ) (flying : ℕ → List ℕ) (passed : ℕ → Passed) (i : ℕ) (job : Job) (x : Traffics) (c new : ClientState) (p : Endpoint) (move : JobMove) → IsQuiet move → IsTimely owner opened passed i → x.failed ≡ false → MoveLeads c move new
    → JobTracks owner opened flying passed x i job c p → JobTracks owner opened flying passed (traffics_moved move x) i job new p
quiet_move owner opened flying passed i job x c new p (Writes bytes) is timely ok m t = writes (record { owner = owner; opened = opened; flying = flying; passed = passed; i = i; job = job }) x c new p bytes timely ok m t
quiet_move owner opened flying passed i job x c new p (Fails bytes) is timely ok m t = fails (record { owner = owner; opened = opened; flying = flying; passed = passed; i = i; job = job }) x c new p bytes timely ok m t
quiet_move owner opened flying passed i job x c new p (Prepares port) is timely ok m t = subst (λ (z : ClientState). JobTracks owner opened flying passed x i job z p) (sym m.same) t
quiet_move owner opened flying passed i job x c new p (Dials port true) is timely ok m t = dials (record { owner = owner; opened = opened; flying = flying; passed = passed; i = i; job = job }) x c new p port timely m t
quiet_move owner opened flying passed i job x c new p (Dials port false) is timely ok m t = misses (record { owner = owner; opened = opened; flying = flying; passed = passed; i = i; job = job }) x c new p port timely m t
quiet_move owner opened flying passed i job x c new p (Loses link reason) is timely ok m t = loses (record { owner = owner; opened = opened; flying = flying; passed = passed; i = i; job = job }) x c new p link timely m t
quiet_move owner opened flying passed i job x c new p (Hears piece) is timely ok m t = absurd is
quiet_move owner opened flying passed i job x c new p (Takes piece) is timely ok m t = absurd is
quiet_move owner opened flying passed i job x c new p (Gives bytes) is timely ok m t = absurd is
quiet_move owner opened flying passed i job x c new p Resumes is timely ok m t = absurd is
