-- Calls on inputs, one behind another.
use Rattle.std.proofs.Common.{◌≡◌, ◌∙◌, ◌<◌, ◌+◌, ℕ, List, [], ◌∷◌, ◌++◌, Option, Some, None, ap, refl, sym, take, drop, length}
use Rattle.std.specs.Prelude.{get_or}
use Rattle.std.proofs.lemmas.List.{append-nil, append_assoc, take_more, take-append-drop}
use Rattle.config_pages.specs.InputTexts.{InputCall, SeenInputs, calls_behind, with_calls}
use Rattle.config_pages.specs.Pages.{calls_of_page, calls_of_pages}
use Rattle.config_pages.specs.Devices.{calls_of_lines, pages_of_line}
use Rattle.dispatch.specs.declared.config_line.ConfigLine.{ConfigLine}

none_behind : (calls : Option (List InputCall)) → calls_behind [] calls ≡ calls
none_behind None = refl
none_behind (Some all) = ap Some (append-nil all)

both_behind : (a b : List InputCall) (calls : Option (List InputCall)) → calls_behind b (calls_behind a calls) ≡ calls_behind (a ++ b) calls
both_behind a b None = refl
both_behind a b (Some all) = ap Some (append_assoc all a b)

pub no_calls : (was : SeenInputs) → with_calls [] was ≡ was
no_calls was = ap (λ (c : Option (List InputCall)). record was { calls = c }) (none_behind was.calls)

pub more_calls : (a b : List InputCall) (was : SeenInputs) → with_calls b (with_calls a was) ≡ with_calls (a ++ b) was
more_calls a b was = ap (λ (c : Option (List InputCall)). record was { calls = c }) (both_behind a b was.calls)

pages_behind : (texts : List (List ℕ)) (text : List ℕ) → calls_of_pages (texts ++ text ∷ []) ≡ calls_of_pages texts ++ calls_of_page text
pages_behind [] text = append-nil (calls_of_page text)
pages_behind (first ∷ more) text = ap (λ (calls : List InputCall). calls_of_page first ++ calls) (pages_behind more text) ∙ sym (append_assoc (calls_of_page first) (calls_of_pages more) (calls_of_page text))

lines_behind : (lines : List ConfigLine) (line : ConfigLine) → calls_of_lines (lines ++ line ∷ []) ≡ calls_of_lines lines ++ calls_of_pages (pages_of_line line)
lines_behind [] line = append-nil (calls_of_pages (pages_of_line line))
lines_behind (first ∷ more) line = ap (λ (calls : List InputCall). calls_of_pages (pages_of_line first) ++ calls) (lines_behind more line) ∙ sym (append_assoc (calls_of_pages (pages_of_line first)) (calls_of_lines more) (calls_of_pages (pages_of_line line)))

-- one element more of a list that is gone through
pub one_taken : {A : Type 0} (xs : List A) (i : ℕ) (x : A) → i < length xs → x ≡ get_or xs i x → take (i + 1) xs ≡ take i xs ++ x ∷ []
one_taken xs i x within at = take_more xs i x within ∙ ap (λ z. take i xs ++ z ∷ []) (sym at)

pub cut_there : {A : Type 0} (xs : List A) (i : ℕ) (x : A) → i < length xs → x ≡ get_or xs i x → xs ≡ take i xs ++ x ∷ drop (i + 1) xs
cut_there {A = A} xs i x within at =
    sym (take-append-drop (i + 1) xs) ∙ ap (λ (front : List A). front ++ drop (i + 1) xs) (one_taken xs i x within at) ∙ append_assoc (take i xs) (x ∷ []) (drop (i + 1) xs)

pub page_more : (first old new : SeenInputs) (texts : List (List ℕ)) (i : ℕ) (text : List ℕ) → i < length texts → text ≡ get_or texts i text → old ≡ with_calls (calls_of_pages (take i texts)) first
    → new ≡ with_calls (calls_of_page text) old → new ≡ with_calls (calls_of_pages (take (i + 1) texts)) first
page_more first old new texts i text within at before is =
    is ∙ ap (with_calls (calls_of_page text)) before ∙ more_calls (calls_of_pages (take i texts)) (calls_of_page text) first
    ∙ ap (λ (calls : List InputCall). with_calls calls first) (sym (pages_behind (take i texts) text) ∙ ap calls_of_pages (sym (one_taken texts i text within at)))

pub line_more : (first old new : SeenInputs) (lines : List ConfigLine) (i : ℕ) (line : ConfigLine) → i < length lines → line ≡ get_or lines i line → old ≡ with_calls (calls_of_lines (take i lines)) first
    → new ≡ with_calls (calls_of_pages (pages_of_line line)) old → new ≡ with_calls (calls_of_lines (take (i + 1) lines)) first
line_more first old new lines i line within at before is =
    is ∙ ap (with_calls (calls_of_pages (pages_of_line line))) before ∙ more_calls (calls_of_lines (take i lines)) (calls_of_pages (pages_of_line line)) first
    ∙ ap (λ (calls : List InputCall). with_calls calls first) (sym (lines_behind (take i lines) line) ∙ ap calls_of_lines (sym (one_taken lines i line within at)))
