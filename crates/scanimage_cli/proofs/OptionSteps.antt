-- The words and the options of a command line, one after another.
use Rattle.std.proofs.Common.{arith, ℕ, ◌≡◌, ◌∙◌, ◌<◌, ◌+◌, suc, List, [], ◌∷◌, ◌++◌, All, map, take, drop, length, get_or, sym, ap, subst, refl, zero}
use Rattle.std.specs.Prelude.{codes}
use Rattle.std.specs.Borrow.{Bor}
use Rattle.std.specs.Str.{IsUtf8}
use Rattle.std.proofs.Math.Seq.{drop-cons}
use Rattle.std.proofs.lemmas.List.{length-map, map-append, take_more}
use Rattle.std.proofs.lemmas.List.Elements.{All-push}
use Rattle.clap.specs.Words.{App, with_rule}
use Rattle.scanimage_cli.specs.KnownOptions.{rule_named, seen_option, with_options}
use Rattle.scanimage_cli.specs.declared.options.OptionValue.{OptionValue}

abbrev Option13 : Type 0
Option13 = Bor (List ℕ) × OptionValue

seen_at : (table : List Option13) (i : ℕ) (option : Option13) → get_or (map seen_option table) i (seen_option option) ≡ seen_option (get_or table i option)
seen_at [] i option = refl
seen_at (first ∷ table) zero option = refl
seen_at (first ∷ table) (suc i) option = seen_at table i option

-- one option more
pub next_at : (table : List Option13) (i : ℕ) (other : Option13) (old new first : App) → i < length table
    → new ≡ with_rule old (rule_named (get_or table i other).0.now (get_or table i other).1)
    → with_options old (drop i (map seen_option table)) ≡ with_options first (map seen_option table)
    → with_options new (drop (i + 1) (map seen_option table)) ≡ with_options first (map seen_option table)
next_at table i other old new first within made before =
    let all = map seen_option table in
    let long : i < length all = subst (λ n. i < n) (sym (length-map table seen_option)) within in
    let here : get_or all i (seen_option other) ≡ seen_option (get_or table i other) = seen_at table i other in
    let cut : drop i all ≡ seen_option (get_or table i other) ∷ drop (suc i) all = drop-cons all i (seen_option other) long
    ∙ ap (λ option. option ∷ drop (suc i) all) here in
    let one : i + 1 ≡ suc i = omega arith in
    ap (λ app. with_options app (drop (i + 1) all)) made
    ∙ (ap (λ k. with_options (with_rule old (rule_named (get_or table i other).0.now (get_or table i other).1)) (drop k all)) one
    ∙ (sym (ap (with_options old) cut) ∙ before))

pub utf8_at : (words : List (List ℕ)) (i : ℕ) (word : List ℕ) → i < length words → word ≡ get_or words i word → All IsUtf8 words → IsUtf8 word
utf8_at words i word within is all = subst IsUtf8 (sym is) (all i word within)

pub utf8_more : (words : List (List ℕ)) (i : ℕ) (word : List ℕ) → i < length words → word ≡ get_or words i word → IsUtf8 word → All IsUtf8 (take i words)
    → All IsUtf8 (take (i + 1) words)
utf8_more words i word within is one all =
    let more : take (i + 1) words ≡ take i words ++ word ∷ [] = take_more words i word within ∙ ap (λ w. take i words ++ w ∷ []) (sym is) in
    subst (All IsUtf8) (sym more) (All-push IsUtf8 (take i words) word all one)

pub strs_more : (words : List (List ℕ)) (i : ℕ) (word : List ℕ) (strs more : List (Bor (List ℕ))) (str : Bor (List ℕ)) → i < length words
    → word ≡ get_or words i word → str.now ≡ word → more ≡ strs ++ str ∷ []
    → map (λ (s : Bor (List ℕ)). s.now) strs ≡ codes "scanimage" ∷ take i words
    → map (λ (s : Bor (List ℕ)). s.now) more ≡ codes "scanimage" ∷ take (i + 1) words
strs_more words i word strs more str within is same pushed before =
    let longer : take (i + 1) words ≡ take i words ++ word ∷ [] = take_more words i word within ∙ ap (λ w. take i words ++ w ∷ []) (sym is) in
    ap (map (λ (s : Bor (List ℕ)). s.now)) pushed ∙ (map-append (λ (s : Bor (List ℕ)). s.now) strs (str ∷ []) ∙ (ap (λ all. all ++ str.now ∷ []) before
    ∙ (ap (λ w. codes "scanimage" ∷ (take i words ++ w ∷ [])) same ∙ ap (λ all. codes "scanimage" ∷ all) (sym longer))))
