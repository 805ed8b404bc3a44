-- A line, of which an output took all or a front.
use Rattle.std.proofs.Common.{◌≡◌, ℕ, ◌+◌, ◌<◌, Bool, true, false, List, ◌++◌, Option, refl, sym, subst, arith, ◌⊎◌, inl, inr, take, length}
use Rattle.std.specs.Io.KnownBytes.{Appends}
use Rattle.std.proofs.KnownBytes.{Appends-trans}
use Rattle.std.proofs.lemmas.List.{length-append, take-append-le}
use Rattle.std.proofs.Math.Seq.{take-append-add}
use Rattle.saned_cli.specs.Binding.{TellsLine}

pub told_by_put : (text : List ℕ) (result failed : Bool) (was now : Option (List ℕ)) → (result ≡ true → Appends was now text) → (result ≡ false → (n : ℕ) × (n < length text) × Appends was now (take n text))
    → (result ≡ false → failed ≡ true) → TellsLine text failed was now
told_by_put text true failed was now whole front noted = inl (whole refl)
told_by_put text false failed was now whole front noted = let it = front refl in inr (noted refl, it.0, it.1, it.2)

pub front_alone : (text more : List ℕ) (failed : Bool) (was now : Option (List ℕ)) → (n : ℕ) × (n < length text) × Appends was now (take n text) → failed ≡ true → TellsLine (text ++ more) failed was now
front_alone text more failed was now front noted =
    inr (noted, front.0, omega (arith, front.1, length-append text more), subst (Appends was now) (sym (take-append-le front.0 text more (omega (arith, front.1)))) front.2)

pub then_told : (text more : List ℕ) (failed : Bool) (was mid now : Option (List ℕ)) → Appends was mid text → TellsLine more failed mid now → TellsLine (text ++ more) failed was now
then_told text more failed was mid now first (inl rest) = inl (Appends-trans was mid now text more first rest)
then_told text more failed was mid now first (inr rest) =
    inr (rest.0, length text + rest.1, omega (arith, rest.2, length-append text more), subst (Appends was now) (sym (take-append-add text more rest.1)) (Appends-trans was mid now text (take rest.1 more) first rest.3))

pub told_as : (text same : List ℕ) (failed : Bool) (was now : Option (List ℕ)) → text ≡ same → TellsLine text failed was now → TellsLine same failed was now
told_as text same failed was now is told = subst (λ (t : List ℕ). TellsLine t failed was now) is told
