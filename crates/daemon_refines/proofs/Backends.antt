-- A name has one backend.
use Rattle.std.proofs.Common.{◌≡◌, ◌∙◌, ◌++◌, inl, inr, ℕ, List, [], ◌∷◌, refl, sym, ap, subst, drop, get_or, arith}
use Rattle.std.specs.Prelude.{Contains}
use Rattle.std.proofs.lemmas.List.Elements.{Contains-append_right}
use Rattle.dispatch.specs.Backend.{IsBackendOf}

one_split : (b c i j : List ℕ) → b ++ 58 ∷ i ≡ c ++ 58 ∷ j → ¬ Contains b 58 → ¬ Contains c 58 → b ≡ c
one_split [] [] i j e m n = refl
one_split [] (y ∷ c) i j e m n = absurd (n (0, omega arith, sym (ap (λ (l : List ℕ). get_or l 0 58) e)))
one_split (x ∷ b) [] i j e m n = absurd (m (0, omega arith, ap (λ (l : List ℕ). get_or l 0 58) e))
one_split (x ∷ b) (y ∷ c) i j e m n =
    let head : x ≡ y = ap (λ (l : List ℕ). get_or l 0 58) e in
    let tail : b ≡ c = one_split b c i j (ap (λ (l : List ℕ). drop 1 l) e) (λ z. m (Contains-append_right (x ∷ []) b 58 z)) (λ z. n (Contains-append_right (y ∷ []) c 58 z)) in
    ap (λ (z : ℕ). z ∷ b) head ∙ ap (λ (l : List ℕ). y ∷ l) tail

has_colon : (b i : List ℕ) → Contains (b ++ 58 ∷ i) 58
has_colon b i = Contains-append_right b (58 ∷ i) 58 (0, omega arith, refl)

pub one_backend : (name b c : List ℕ) → IsBackendOf name b → IsBackendOf name c → b ≡ c
one_backend name b c (inl s) (inl t) = one_split b c s.0 t.0 (sym s.1.bytes_are ∙ t.1.bytes_are) s.1.first t.1.first
one_backend name b c (inl s) (inr t) = absurd (t.0 (subst (λ (l : List ℕ). Contains l 58) (sym s.1.bytes_are) (has_colon b s.0)))
one_backend name b c (inr s) (inl t) = absurd (s.0 (subst (λ (l : List ℕ). Contains l 58) (sym t.1.bytes_are) (has_colon c t.0)))
one_backend name b c (inr s) (inr t) = s.1 ∙ sym t.1
