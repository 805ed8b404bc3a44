-- All pulls of a file, one after another.
use Rattle.std.proofs.Common.{◌≡◌, ◌≢◌, ◌∙◌, ℕ, ◌+◌, ◌<◌, ◌≤◌, ◌^◌, Bool, true, false, List, [], ◌∷◌, ◌++◌, None, length, refl, sym, ap, subst, arith, length-append, append_assoc}
use Rattle.std.proofs.lemmas.List.{append-nil}
use Rattle.netpbm.specs.Pnm.{IsWhole}
use Rattle.frame_join.specs.FrameHistory.{JoinHistory, empty_history, after_pull}
use Rattle.frame_join.specs.JoinStates.{JoinState, Represents}
use Rattle.client_replies.specs.ProtocolStates.{is_ended, scans, turns}
use Rattle.net_client.specs.ClientStates.{ClientState, TurnsPage}
use Rattle.event_world.specs.declared.endpoint.Endpoint.{Endpoint}
use Rattle.event_world.specs.declared.draining.Pull.TheVariants.{More}
use Rattle.event_world.specs.FileDraining.{HasPlace, HoldsHistory, IsGiven, TurnsTo, RunsDry, Pulls, HasDrained}
use Rattle.event_world.proofs.Pulls.{calm_by}
use Rattle.frame_join.specs.PictureText.{IsPictureFile}

-- after so many pulls that gave bytes
pub record IsUnderway (past : JoinHistory) (pages : List JoinHistory) (old : Endpoint) (pulls : ℕ) (now : Endpoint) : Type 0 where
  pub bytes : List ℕ
  pub holds : HoldsHistory (after_pull bytes past) pages now
  pub given : IsGiven old now
  pub some : pulls ≤ length bytes
  pub alive : 0 < pulls → is_ended old.client.outcome ≡ false

pulled_none : (past : JoinHistory) → after_pull [] past ≡ past
pulled_none past = ap (λ (l : List ℕ). record past { given = l }) (append-nil past.given)

pulled_twice : (past : JoinHistory) (xs ys : List ℕ) → after_pull ys (after_pull xs past) ≡ after_pull (xs ++ ys) past
pulled_twice past xs ys = ap (λ (l : List ℕ). record past { given = l }) (append_assoc past.given xs ys)

pub begun : (past : JoinHistory) (pages : List JoinHistory) (old : Endpoint) → HoldsHistory past pages old → IsUnderway past pages old 0 old
begun past pages old h = record {
  bytes = [];
  holds = subst (λ (q : JoinHistory). HoldsHistory q pages old) (sym (pulled_none past)) h;
  given = record { client = refl; rest = refl };
  some = omega arith;
  alive = λ positive. absurd (omega (arith, positive));
}

given_then : (a b c : Endpoint) → IsGiven a b → IsGiven b c → IsGiven a c
given_then a b c x y = record {
  client = y.client ∙ ap (λ (v : ClientState). record v { join = c.client.join }) x.client;
  rest = y.rest ∙ ap (λ (p : Endpoint). record p { client = c.client; file = c.file; out_of_memory = c.out_of_memory }) x.rest;
}

ended_as : (a b : Endpoint) → IsGiven a b → is_ended b.client.outcome ≡ is_ended a.client.outcome
ended_as a b x = ap (λ (v : ClientState). is_ended v.outcome) x.client

pub turns_as : (a b : Endpoint) → IsGiven a b → turns b.client.outcome b.client.progress ≡ turns a.client.outcome a.client.progress
turns_as a b x = ap (λ (v : ClientState). turns v.outcome v.progress) x.client

pub scans_then : (a b : Endpoint) → IsGiven a b → scans a.task ≡ true → scans b.task ≡ true
scans_then a b x scan = ap (λ (p : Endpoint). scans p.task) x.rest ∙ scan

pub place_then : (a b : Endpoint) (pages : List JoinHistory) → IsGiven a b → HasPlace a pages → HasPlace b pages
place_then a b pages x less on = less (sym (turns_as a b x) ∙ on)

some_bytes : (xs : List ℕ) → xs ≢ [] → 1 ≤ length xs
some_bytes [] ne = absurd (ne refl)
some_bytes (x ∷ xs) ne = omega arith

pub went_on : (past : JoinHistory) (pages : List JoinHistory) (i : ℕ) (old was now : Endpoint) (u : IsUnderway past pages old i was) → Pulls (after_pull u.bytes past) pages was More now → IsUnderway past pages old (i + 1) now
went_on past pages i old was now u m = record {
  bytes = u.bytes ++ m.0;
  holds = subst (λ (q : JoinHistory). HoldsHistory q pages now) (pulled_twice past u.bytes m.0) m.2;
  given = given_then old was now u.given m.3;
  some = omega (arith, length-append u.bytes m.0, some_bytes m.0 m.1, u.some);
  alive = λ positive. sym (ended_as old was u.given) ∙ m.4;
}

pub ran_dry : (past : JoinHistory) (pages : List JoinHistory) (i : ℕ) (old was new : Endpoint) (u : IsUnderway past pages old i was) → RunsDry (after_pull u.bytes past) pages was new → RunsDry past pages old new
ran_dry past pages i old was new u d = record {
  still = sym (turns_as old was u.given) ∙ d.still;
  bytes = u.bytes ++ d.bytes;
  holds = subst (λ (q : JoinHistory). HoldsHistory q pages new) (pulled_twice past u.bytes d.bytes) d.holds;
  given = given_then old was new u.given d.given;
  denotes = λ alive joined p shows. subst (λ (l : List ℕ). IsPictureFile l p) (append_assoc past.given u.bytes d.bytes) (d.denotes (ended_as old was u.given ∙ alive) joined p shows);
}

pub turned_on : (past : JoinHistory) (pages : List JoinHistory) (i : ℕ) (old was new : Endpoint) (u : IsUnderway past pages old i was) → TurnsTo (after_pull u.bytes past) pages was new → TurnsTo past pages old new
turned_on past pages i old was new u t = record {
  turned = sym (turns_as old was u.given) ∙ t.turned;
  bytes = u.bytes ++ t.bytes;
  whole = subst IsWhole (append_assoc past.given u.bytes t.bytes) t.whole;
  denotes = λ p shows. subst (λ (l : List ℕ). IsPictureFile l p) (append_assoc past.given u.bytes t.bytes) (t.denotes p shows);
  join = t.join;
  client = subst (λ (v : ClientState). TurnsPage v new.client) (ap (λ (v : ClientState). record v { join = t.join }) u.given.client) t.client;
  holds = subst (λ (q : JoinHistory). HoldsHistory empty_history (pages ++ q ∷ []) new) (pulled_twice past u.bytes t.bytes) t.holds;
  rest = t.rest ∙ ap (λ (p : Endpoint). record p { client = new.client; file = new.file; pages = new.pages; finished = new.finished; out_of_memory = new.out_of_memory }) u.given.rest;
}

pub as_dry : (past : JoinHistory) (pages : List JoinHistory) (old new : Endpoint) → RunsDry past pages old new → HasDrained (turns old.client.outcome old.client.progress) past pages old new
as_dry past pages old new d = subst (λ (b : Bool). HasDrained b past pages old new) (sym d.still) d

pub as_turned : (past : JoinHistory) (pages : List JoinHistory) (old new : Endpoint) → TurnsTo past pages old new → HasDrained (turns old.client.outcome old.client.progress) past pages old new
as_turned past pages old new t = subst (λ (b : Bool). HasDrained b past pages old new) (sym t.turned) t

pub never : (past : JoinHistory) (pages : List JoinHistory) (i : ℕ) (old now : Endpoint) → scans old.task ≡ true → 2 ^ 40 ≤ i → ((q : JoinHistory) (join : JoinState) → Represents q join → q.fault ≡ None → length q.given < 2 ^ 40) → IsUnderway past pages old i now → ⊥
never past pages i old now scan many law u =
    let task : scans now.client.target.task ≡ true = sym (ap scans u.holds.task) ∙ ap (λ (p : Endpoint). scans p.task) u.given.rest ∙ scan in
    let calm : past.fault ≡ None = calm_by now.client.target.task now.client.outcome now.client.progress (after_pull u.bytes past) task u.holds.serves.fits (ended_as old now u.given ∙ u.alive (omega (arith, many))) in
    omega (arith, law (after_pull u.bytes past) now.client.join u.holds.serves.stands calm, length-append past.given u.bytes, u.some, many)
