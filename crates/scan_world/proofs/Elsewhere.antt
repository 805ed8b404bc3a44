-- A job that stands for those that there are not: it names no device that there is.
use Rattle.std.specs.Prelude.{length, map, ◌<◌, ◌≢◌}
use Rattle.std.proofs.Common.{◌≡◌, ℕ, zero, suc, ◌+◌, List, [], ◌∷◌, ◌++◌, Some, None, refl, subst, arith}
use Rattle.device_api.specs.State.{DeviceState}
use Rattle.scan_job.specs.declared.job.Job.{Job}
use Rattle.world_refines.specs.GhostStates.{name_at}
use Rattle.world_refines.specs.NewWorlds.{info_of_state}

-- a name that is longer than each of theirs
long : List DeviceState → List ℕ
long [] = 0 ∷ []
long (d ∷ devices) = d.info.name ++ long devices

pub elsewhere : List DeviceState → Job → Job
elsewhere devices job = record job { device = long devices }

joined_length : (xs ys : List ℕ) → length (xs ++ ys) ≡ length xs + length ys
joined_length [] ys = omega arith
joined_length (x ∷ xs) ys = let more = joined_length xs ys in omega (arith, more)

some_long : (devices : List DeviceState) → 0 < length (long devices)
unfolding long
some_long [] = omega arith
some_long (d ∷ devices) = let more = some_long devices in let whole = joined_length d.info.name (long devices) in omega (arith, more, whole)

shorter : (devices : List DeviceState) (k : ℕ) (name : List ℕ) → name_at (map info_of_state devices) k ≡ Some name → length name < length (long devices)
unfolding long
shorter [] k name e = absurd (let clash : None ≡ Some name = e in cc)
shorter (d ∷ devices) zero name e =
    let same : d.info.name ≡ name = (let both : Some d.info.name ≡ Some name = e in cc) in
    let whole = joined_length d.info.name (long devices) in
    let some = some_long devices in
    subst (λ (x : List ℕ). length x < length (d.info.name ++ long devices)) same (omega (arith, whole, some))
shorter (d ∷ devices) (suc k) name e = let more = shorter devices k name e in let whole = joined_length d.info.name (long devices) in omega (arith, more, whole)

pub unnamed : (devices : List DeviceState) (job : Job) (k : ℕ) → name_at (map info_of_state devices) k ≢ Some (elsewhere devices job).device
unfolding elsewhere
unnamed devices job k e = let less = shorter devices k (long devices) e in omega (arith, less)

pub same_elsewhere : (devices : List DeviceState) (a b : Job) → (elsewhere devices a).device ≡ (elsewhere devices b).device
unfolding elsewhere
same_elsewhere devices a b = refl
