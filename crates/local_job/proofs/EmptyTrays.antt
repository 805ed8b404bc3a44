-- A start where no page is left, and what a frame that ends tells of `read-return-value`.
use Rattle.std.proofs.Common.{◌≡◌, ◌∙◌, ◌<◌, ◌+◌, ℕ, zero, suc, arith, refl, sym, ap, subst, Bool, true, false, List, [], ◌∷◌, Result, Ok, Err, Option, Some, None}
use Rattle.std.specs.Prelude.{◌≢◌}
use Rattle.sane_fixed.specs.declared.status.Status.{Status}
use Rattle.sane_fixed.specs.declared.status.Status.TheVariants.{Eof, NoDocs}
use Rattle.device_api.specs.State.{DeviceState, HeldPage, Phase, AtRest, Between, Reading, FrameReads, Reads, ReadsIn, Starts, StartsIn, StartsOn, feeds, is_reading, left_behind, state_at_rest, after_stop, stopped_in, read_status_at, with_phase}
use Rattle.frame_join.specs.JoinStates.{JoinState}
use Rattle.local_job.proofs.JoinedScans.{HasGone}

-- ---- no page is left

none_left : (b : Bool) (pages : List HeldPage) → pages ≡ [] → left_behind b pages ≡ pages
none_left false pages none = refl
none_left true [] none = refl
none_left true (held ∷ pages) none = absurd (let clash : held ∷ pages ≡ [] = none in cc)

rests_so : (s : DeviceState) → s.pages ≡ [] → state_at_rest s false ≡ with_phase s (AtRest false)
rests_so s none = ap (λ (ps : List HeldPage). record s { pages = ps; phase = AtRest false }) (none_left (feeds s) s.pages none)

stopped_so : (phase : Phase) (s : DeviceState) → s.pages ≡ [] → stopped_in phase s ≡ with_phase s (AtRest false)
stopped_so (AtRest c) s none = refl
stopped_so (Between n) s none = rests_so s none
stopped_so (Reading p n) s none = rests_so s none

on_none : (pages : List HeldPage) (status : Status) (old new : DeviceState) → pages ≡ [] → StartsOn pages old (Err status) new → new ≡ after_stop old
on_none [] status old new none starts = starts.1
on_none (held ∷ pages) status old new none starts = absurd (let clash : held ∷ pages ≡ [] = none in cc)

stays_by : (phase : Phase) (status : Status) (old new : DeviceState) → is_reading phase ≡ false → old.pages ≡ [] → StartsIn phase old (Err status) new → new ≡ after_stop old
stays_by (AtRest c) status old new rest none starts = on_none old.pages status old new none starts
stays_by (Between n) status old new rest none starts = on_none old.pages status old new none starts
stays_by (Reading p n) status old new rest none starts = absurd (let clash : true ≡ false = rest in cc)

pub start_stays : (status : Status) (old new : DeviceState) → is_reading old.phase ≡ false → Starts old (Err status) new → old.pages ≡ [] → new ≡ with_phase old (AtRest false)
start_stays status old new rest starts none = stays_by old.phase status old new rest none starts ∙ stopped_so old.phase old none

pub stays_before : (old now new : DeviceState) (phase : Phase) → now ≡ with_phase old phase → new ≡ with_phase now (AtRest false) → new ≡ with_phase old (AtRest false)
stays_before old now new phase is stays = stays ∙ ap (λ (s : DeviceState). with_phase s (AtRest false)) is

-- so no pass was read
pub none_behind : (old now : DeviceState) (pass : ℕ) (before contents : Option (List ℕ)) (join : JoinState) → HasGone old now pass before join contents → old.pages ≡ [] → pass ≡ 0
none_behind old now zero before contents join gone none = refl
none_behind old now (suc pass) before contents join gone none = absurd (gone.some (omega arith) none)

-- ---- what is told in the place of a frame's first byte

told_first : (told : Option Status) (old now new : DeviceState) (pass given : ℕ) (result : Result ℕ Status) (buf : List ℕ) (status : Status) → given ≡ 0 → told ≡ Some status → FrameReads (read_status_at told given) now pass given result new buf → result ≡ Err status
told_first told old now new pass zero result buf status first (is) reads =
    (subst (λ (t : Option Status). FrameReads t now pass 0 result new buf) is reads).0
told_first told old now new pass (suc given) result buf status first is reads = absurd (let clash : suc given ≡ 0 = first in omega (arith, clash))

-- so a read that answers otherwise is not the first, or no such status is told
pub not_told : (old now new : DeviceState) (pass given : ℕ) (result : Result ℕ Status) (buf : List ℕ) (status : Status) → now ≡ with_phase old (Reading pass given) → Reads now result new buf → (result ≡ Err status → ⊥)
    → (0 < given → old.setup.told ≢ Some status) → old.setup.told ≢ Some status
not_told old now new pass zero result buf status is reads other later told =
    other (told_first old.setup.told old now new pass 0 result buf status refl told
    (subst (λ (t : Option Status). FrameReads (read_status_at t 0) now pass 0 result new buf) (ap (λ (s : DeviceState). s.setup.told) is)
    (subst (λ (p : Phase). ReadsIn p now result new buf) (ap (λ (s : DeviceState). s.phase) is) reads)))
not_told old now new pass (suc given) result buf status is reads other later told = later (omega arith) told
