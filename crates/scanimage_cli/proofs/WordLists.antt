-- The words of a command line, one after another.
use Rattle.std.proofs.Common.{ℕ, ◌≡◌, ◌∙◌, ◌<◌, ◌≤◌, ◌+◌, ◌-◌, arith, List, [], ◌∷◌, ◌++◌, Option, Some, None, ap, subst, sym, take, drop, length}
use Rattle.std.specs.Prelude.{⊤, IfSome, get_or}
use Rattle.std.proofs.lemmas.List.{get_or-drop, length-drop, take_all, take_more}
use Rattle.std.proofs.lemmas.Option.{get_or_from_slice_get, slice_get_within}
use Rattle.scanimage_cli.specs.Words.{AreWordsOf, IsWordAt}

-- the first words behind the program's name, as many
abbrev pub AreFirstWords : Option (List (List ℕ)) → ℕ → List (List ℕ) → Type 0
AreFirstWords None count words = ⊤
AreFirstWords (Some all) count words = words ≡ take count (drop 1 all)

pub none_yet : (told : Option (List (List ℕ))) (words : List (List ℕ)) → words ≡ [] → AreFirstWords told (1 - 1) words
none_yet None words none = tt
none_yet (Some all) words none = none

pub word_more : (told : Option (List (List ℕ))) (i : ℕ) (text : List ℕ) (words : List (List ℕ)) → 1 ≤ i
    → AreFirstWords told (i - 1) words → IfSome told (λ all. IsWordAt all i (Some text)) → AreFirstWords told ((i + 1) - 1) (words ++ text ∷ [])
word_more None i text words from before there = tt
word_more (Some all) i text words from before there =
    let inside : i < length all = slice_get_within all i text there in
    let long : length (drop 1 all) ≡ length all - 1 = length-drop 1 all in
    let within : i - 1 < length (drop 1 all) = omega (arith, from, inside, long) in
    let place : 1 + (i - 1) ≡ i = omega (arith, from) in
    let at : get_or (drop 1 all) (i - 1) text ≡ text = get_or-drop 1 all (i - 1) text ∙ (ap (λ k. get_or all k text) place ∙ get_or_from_slice_get all i text text there) in
    let count : (i - 1) + 1 ≡ (i + 1) - 1 = omega (arith, from) in
    subst (λ k. words ++ text ∷ [] ≡ take k (drop 1 all)) count
    (ap (λ w. w ++ text ∷ []) before ∙ (ap (λ x. take (i - 1) (drop 1 all) ++ x ∷ []) (sym at) ∙ sym (take_more (drop 1 all) (i - 1) text within)))

pub words_end : (told : Option (List (List ℕ))) (i : ℕ) (words : List (List ℕ)) → 1 ≤ i → AreFirstWords told (i - 1) words → IfSome told (λ all. IsWordAt all i None) → AreWordsOf told words
words_end None i words from before past = tt
words_end (Some all) i words from before past =
    let long : length (drop 1 all) ≡ length all - 1 = length-drop 1 all in
    before ∙ take_all (i - 1) (drop 1 all) (omega (arith, from, past, long))
