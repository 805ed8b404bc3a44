-- What a call answers, from what computing gives.
use Rattle.std.proofs.Common.{◌≡◌, ◌↔◌, MatchResult, refl, sym}
use Rattle.std.specs.Prelude.{Result, Ok, Err, Option, Some, None, IsNone, IfOk}
use Rattle.std.proofs.lemmas.Bool.{false≢true}
use Rattle.sane_fixed.specs.declared.status.Status.{Status}
use Rattle.sane_fixed.specs.declared.status.Status.TheVariants.{Inval, NoMem}
use Rattle.option_desc.specs.Refuses.{Refuses}

no_some : {B : Type 0} (b : B) → ◌≡◌ {A = Option B} None (Some b) → ⊥
no_some b e = (cc)

ok_no_err : {A : Type 0} (p : A) → ◌≡◌ {A = Result A Status} (Ok p) (Err Inval) → ⊥
ok_no_err p e = (cc)

two_faults : {A : Type 0} → ◌≡◌ {A = Result A Status} (Err NoMem) (Err Inval) → ⊥
two_faults e = (cc)

pub refused : {A B : Type 0} (r : Result A Status) (value : A → B) (o : Option B) (P : B → Type 0) → MatchResult r (λ p. o ≡ Some (value p)) (λ s. Refuses s o) → ((b : B) → o ≡ Some b → P b) → (o ≡ None → (b : B) → P b → ⊥) → (r ≡ Err Inval) ↔ ((b : B) → P b → ⊥)
refused (Ok p) value o P m found none = (λ e. absurd (ok_no_err p e), λ f. absurd (f (value p) (found (value p) m)))
refused (Err Inval) value None P m found none = (λ e. none refl, λ f. refl)
refused (Err Inval) value (Some b) P m found none = absurd (false≢true (sym m))
refused (Err NoMem) value None P m found none = absurd (false≢true m)
refused (Err NoMem) value (Some b) P m found none = (λ e. absurd (two_faults e), λ f. absurd (f b (found b refl)))
refused (Err _) value o P m found none = absurd m

pub answered : {A B : Type 0} (r : Result A Status) (value : A → B) (o : Option B) (P : B → Type 0) → MatchResult r (λ p. o ≡ Some (value p)) (λ s. Refuses s o) → ((b : B) → o ≡ Some b → P b) → IfOk r (λ p. P (value p))
answered (Ok p) value o P m found = found (value p) m
answered (Err _) value o P m found = tt

pub none_is : {B : Type 0} (o : Option B) → o ≡ None → IsNone o
none_is None e = refl
none_is (Some b) e = absurd (no_some b (sym e))
