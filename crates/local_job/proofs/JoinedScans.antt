-- A scan, pass after pass.
use Rattle.std.proofs.Common.{◌≡◌, ℕ, suc, ◌+◌, ◌<◌, ◌≤◌, List, [], ◌∷◌, Option, Bool, true, false, refl, sym, ap, ◌∙◌, subst, arith}
use Rattle.std.specs.Io.KnownBytes.{Appends}
use Rattle.frame_join.proofs.GivenKept.{NoneBefore}
use Rattle.scan_frames.specs.Frames.{has_picture}
use Rattle.device_api.specs.State.{DeviceState, Phase, AtRest, Between, Reading, goes_to, is_at_rest, is_reading, next_pass, state_at_rest, with_phase, page_of}
use Rattle.frame_join.specs.FrameHistory.{JoinHistory, empty_history, IsJoined}
use Rattle.frame_join.specs.JoinStates.{JoinState, Represents}
use Rattle.scan_job.specs.FileOutputs.{StopsShort}
use Rattle.local_job.specs.FrameReading.{IsScanned, KeepsDevice}
use Rattle.local_job.specs.Inside.{AreOfPasses, HasJoined, HasScannedPass}
use Rattle.std.proofs.KnownBytes.{Appends-nil}
use Rattle.std.specs.Prelude.{◌≢◌}
use Rattle.local_job.proofs.Lets.{of_phase}
use Rattle.local_job.proofs.JoinedPasses.{few_passes}
use Rattle.local_job.proofs.Pictures.{on_device, stops, with_old}

-- so many passes of a scan are behind
pub record HasGone (old now : DeviceState) (pass : ℕ) (before : Option (List ℕ)) (join : JoinState) (contents : Option (List ℕ)) : Type 0 where
  pub well : now ≡ with_phase old now.phase
  pub rest : is_reading now.phase ≡ false
  pub picture : 0 < pass → has_picture old.setup (page_of old) ≡ true
  pub some : 0 < pass → old.pages ≢ []
  pub joined : (first : Option (List ℕ)) → Appends first before [] → (next_pass now.phase ≡ pass) × HasJoined old pass first join contents

-- so only the phase changed, again and again
pub phases : (first now next : DeviceState) → now ≡ with_phase first now.phase → next ≡ with_phase now next.phase → next ≡ with_phase first next.phase
phases first now next a b = b ∙ ap (λ (s : DeviceState). with_phase s next.phase) a

pub gone_same : (old now : DeviceState) (pass : ℕ) (before contents : Option (List ℕ)) (join : JoinState) → HasGone old now pass before join contents → KeepsDevice old now
gone_same old now pass before contents join gone = of_phase old now now.phase gone.well

-- what was joined does not hang on the phase
pub on_same : (old new : DeviceState) (pass : ℕ) (first contents : Option (List ℕ)) (join : JoinState) (p : Phase) → new ≡ with_phase old p → HasJoined old pass first join contents → HasJoined new pass first join contents
on_same old new pass first contents join p is j = on_device old new p pass first contents join is j

back : (old new : DeviceState) (p : Phase) → new ≡ with_phase old p → old ≡ with_phase new old.phase
back old new p is = with_old old new p is

pub picture_same : (old new : DeviceState) (there : Bool) (p : Phase) → new ≡ with_phase old p → has_picture old.setup (page_of old) ≡ there → has_picture new.setup (page_of new) ≡ there
picture_same old new there p same is = subst (λ (s : DeviceState). has_picture s.setup (page_of s) ≡ there) (sym same) is

pub pages_same : (old new : DeviceState) (p : Phase) → new ≡ with_phase old p → new.pages ≡ old.pages
pages_same old new p is = ap (λ (s : DeviceState). s.pages) is

not_reading : (phase : Phase) → is_at_rest phase ≡ true → (is_reading phase ≡ false) × (next_pass phase ≡ 0)
not_reading (AtRest c) rest = (refl, refl)
not_reading (Between n) rest = absurd (let clash : false ≡ true = rest in cc)
not_reading (Reading p n) rest = absurd (let clash : false ≡ true = rest in cc)

pub none_gone : (old : DeviceState) (before : Option (List ℕ)) (join : JoinState) → is_at_rest old.phase ≡ true → Represents empty_history join → HasGone old old 0 before join before
none_gone old before join rest stands = record {
  well = refl;
  rest = (not_reading old.phase rest).0;
  picture = λ none. absurd (omega (arith, none));
  some = λ none. absurd (omega (arith, none));
  joined = λ first taken. (
    (not_reading old.phase rest).1,
    record { passes = []; count = refl; more = omega arith; right = tt; given = []; stands = stands; taken = taken },
  );
}

-- the passes so far, as the next one finds them
pub so_joined : (old now : DeviceState) (pass : ℕ) (before first contents : Option (List ℕ)) (join : JoinState) → HasGone old now pass before join contents → Appends first before []
    → HasJoined now (next_pass now.phase) first join contents
so_joined old now pass before first contents join gone taken =
    let j = gone.joined first taken in
    subst (λ (n : ℕ). HasJoined now n first join contents) (sym j.0) (on_same old now pass first contents join now.phase gone.well j.1)

-- between two passes only the phase changed
between_only : (old new : DeviceState) (n : ℕ) → new ≡ goes_to old new.phase → new.phase ≡ Between n → new ≡ with_phase old new.phase
between_only old new n well at = well ∙ ap (λ (p : Phase). goes_to old p) at ∙ ap (λ (p : Phase). with_phase old p) (sym at)

pub one_gone : (old now new : DeviceState) (pass : ℕ) (before contents after : Option (List ℕ)) (join more : JoinState) → HasGone old now pass before join contents → new ≡ goes_to now new.phase → is_reading new.phase ≡ false
    → now.pages ≢ [] → has_picture now.setup (page_of now) ≡ true
    → (is_whole : Bool) → is_whole ≡ false → ((first : Option (List ℕ)) → HasJoined now (next_pass now.phase) first join contents → HasScannedPass now (next_pass now.phase) is_whole first (record { device = new; join = more; contents = after })) → HasGone old new (pass + 1) before more after
one_gone old now new pass before contents after join more gone well rest some there is_whole is scanned =
    let at : new.phase ≡ Between (next_pass now.phase + 1) = (subst (λ (b : Bool). HasScannedPass now (next_pass now.phase) b before (record { device = new; join = more; contents = after })) is (scanned before (so_joined old now pass before before contents join gone (Appends-nil before)))).0 in
    record {
      well = phases old now new gone.well (between_only now new _ well at);
      rest = rest;
      picture = λ _. picture_same now old true old.phase (back old now now.phase gone.well) there;
      some = λ _ none. some (pages_same old now now.phase gone.well ∙ none);
      joined = λ first taken.
          let s = subst (λ (b : Bool). HasScannedPass now (next_pass now.phase) b first (record { device = new; join = more; contents = after })) is (scanned first (so_joined old now pass before first contents join gone taken)) in
          let count : next_pass now.phase ≡ pass = (gone.joined first taken).0 in
          let next : next_pass new.phase ≡ pass + 1 = ap next_pass s.0 ∙ ap (λ (n : ℕ). n + 1) count in
          (next, on_same now old (pass + 1) first after more old.phase (back old now now.phase gone.well) (subst (λ (n : ℕ). HasJoined now (n + 1) first more after) count s.1));
    }

pub all_gone : (old now new : DeviceState) (pass : ℕ) (before contents after first : Option (List ℕ)) (join more : JoinState) → HasGone old now pass before join contents
    → (is_whole : Bool) → is_whole ≡ true → ((first : Option (List ℕ)) → HasJoined now (next_pass now.phase) first join contents → HasScannedPass now (next_pass now.phase) is_whole first (record { device = new; join = more; contents = after }))
    → Appends first before [] → (new.phase ≡ AtRest false) × IsScanned old first after
all_gone old now new pass before contents after first join more gone is_whole is scanned taken =
    let s = subst (λ (b : Bool). HasScannedPass now (next_pass now.phase) b first (record { device = new; join = more; contents = after })) is (scanned first (so_joined old now pass before first contents join gone taken)) in
    let here : IsScanned (with_phase old now.phase) first after = subst (λ (x : DeviceState). IsScanned x first after) gone.well s.1 in
    (s.0, record { text = here.text; taken = here.taken; whole = here.whole; picture = here.picture })

-- the scanner is at rest where the picture is whole
pub at_rest : (old now new : DeviceState) (pass : ℕ) (before contents after : Option (List ℕ)) (join more : JoinState) → HasGone old now pass before join contents
    → (is_whole : Bool) → is_whole ≡ true → ((first : Option (List ℕ)) → HasJoined now (next_pass now.phase) first join contents → HasScannedPass now (next_pass now.phase) is_whole first (record { device = new; join = more; contents = after }))
    → new ≡ goes_to now new.phase → new ≡ state_at_rest old false
at_rest old now new pass before contents after join more gone is_whole is scanned well =
    let at : new.phase ≡ AtRest false = (all_gone old now new pass before contents after before join more gone is_whole is scanned (Appends-nil before)).0 in
    well ∙ ap (λ (p : Phase). goes_to now p) at ∙ ap (λ (s : DeviceState). state_at_rest s false) gone.well

-- there is no fourth pass
pub no_more : (old now : DeviceState) (pass : ℕ) (before contents : Option (List ℕ)) (join : JoinState) → HasGone old now pass before join contents → 3 ≤ pass → ⊥
no_more old now pass before contents join gone many =
    omega (arith, many, (gone.joined before (Appends-nil before)).1.more, few_passes old.setup)

pub stops_gone : (old now : DeviceState) (pass : ℕ) (before contents first : Option (List ℕ)) (join : JoinState) → NoneBefore
    → HasGone old now pass before join contents → Appends first before [] → StopsShort first contents
stops_gone old now pass before contents first join law gone taken = stops old pass first contents join law (gone.joined first taken).1
