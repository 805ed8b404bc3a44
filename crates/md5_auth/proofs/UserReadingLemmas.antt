-- A users file read line by line.
use Rattle.std.proofs.Common.{◌≡◌, ◌≢◌, ℕ, ◌+◌, ◌≤◌, List, [], ◌∷◌, ◌++◌, length, arith, refl, sym, ap, ◌∙◌, subst, inl, inr}
use Rattle.std.specs.Prelude.{filter}
use Rattle.std.specs.List.{AllZip}
use Rattle.std.proofs.lemmas.List.{append-nil, append_assoc, length_push}
use Rattle.std.proofs.lemmas.List.Elements.{filter-append}
use Rattle.text_lines.specs.Lines.{lines_of, AllAfter}
use Rattle.text_lines.proofs.LineLemmas.{AllAfter-push}
use Rattle.md5_auth.specs.declared.users.Entry.{Entry}
use Rattle.md5_auth.specs.declared.line_fault.LineReason.{LineReason}
use Rattle.md5_auth.specs.UserLines.{IsGood, IsEntryLine, AddsEntry, HasReason, HasLineFault, TellsUsers, is_some_line}
use Rattle.md5_auth.proofs.UserFieldLemmas.{entry_line_some}

-- what stands before the rest of a text: so many good lines, and their entries
pub record IsReadTo (text rest : List ℕ) (number : ℕ) (entries : List Entry) : Type 0 where
  pub done : List (List ℕ)
  pub lines_are : lines_of text ≡ done ++ lines_of rest
  pub number_is : number ≡ length done
  pub few : number ≤ 256
  pub good : AllAfter (λ before line. IsGood (length before + 1) line) [] done
  pub entries_are : AllZip IsEntryLine (filter is_some_line done) entries

pub read_none : (text : List ℕ) → IsReadTo text text 0 []
read_none text = record { done = []; lines_are = refl; number_is = refl; few = omega arith; good = tt; entries_are = tt }

some_line : (line : List ℕ) → line ≢ [] → filter is_some_line (line ∷ []) ≡ line ∷ []
some_line [] some = absurd (some refl)
some_line (b ∷ bs) some = refl

zip_push : (R : List ℕ → Entry → Type 0) (xs : List (List ℕ)) (ys : List Entry) (x : List ℕ) (y : Entry) → AllZip R xs ys → R x y → AllZip R (xs ++ x ∷ []) (ys ++ y ∷ [])
zip_push R [] [] x y all last = (last, tt)
zip_push R [] (b ∷ bs) x y all last = absurd all
zip_push R (a ∷ more) [] x y all last = absurd all
zip_push R (a ∷ more) (b ∷ bs) x y all last = (all.0, zip_push R more bs x y all.1 last)

entries_more : (done : List (List ℕ)) (line : List ℕ) (old new : List Entry) → AllZip IsEntryLine (filter is_some_line done) old → AddsEntry line old new → AllZip IsEntryLine (filter is_some_line (done ++ line ∷ [])) new
entries_more done line old new all (inl none) =
    let same : filter is_some_line (done ++ line ∷ []) ≡ filter is_some_line done =
    filter-append is_some_line done (line ∷ []) ∙ ap (λ (l : List ℕ). filter is_some_line done ++ filter is_some_line (l ∷ [])) none.0 ∙ append-nil (filter is_some_line done) in
    rw (same, none.1) all
entries_more done line old new all (inr some) =
    let fields = some.1 in
    let more : filter is_some_line (done ++ line ∷ []) ≡ filter is_some_line done ++ line ∷ [] =
    filter-append is_some_line done (line ∷ []) ∙ ap (λ (l : List (List ℕ)). filter is_some_line done ++ l) (some_line line (entry_line_some line _ _ _ fields)) in
    rw (more, some.2) (zip_push IsEntryLine (filter is_some_line done) old line some.0 all fields)

pub read_more : (text rest line after : List ℕ) (number : ℕ) (old new : List Entry) → IsReadTo text rest number old → lines_of rest ≡ line ∷ lines_of after
    → IsGood (number + 1) line → AddsEntry line old new → IsReadTo text after (number + 1) new
read_more text rest line after number old new r cut good adds = record {
  done = r.done ++ line ∷ [];
  lines_are = r.lines_are ∙ ap (λ (l : List (List ℕ)). r.done ++ l) cut ∙ sym (append_assoc r.done (line ∷ []) (lines_of after));
  number_is = omega (arith, length_push r.done line, r.number_is);
  few = good.within.count;
  good = AllAfter-push (λ before line. IsGood (length before + 1) line) [] r.done line r.good (subst (λ (n : ℕ). IsGood (n + 1) line) r.number_is good);
  entries_are = entries_more r.done line old new r.entries_are adds;
}

pub read_all : (text rest : List ℕ) (number : ℕ) (entries : List Entry) → IsReadTo text rest number entries → rest ≡ [] → lines_of rest ≡ [] → TellsUsers text entries
read_all text rest number entries r end none =
    let all : lines_of text ≡ r.done = r.lines_are ∙ ap (λ (l : List (List ℕ)). r.done ++ l) none ∙ append-nil r.done in
    record { good = rw all r.good; entries_are = rw all r.entries_are }

pub read_fault : (text rest line after : List ℕ) (number : ℕ) (entries : List Entry) (reason : LineReason) → IsReadTo text rest number entries → lines_of rest ≡ line ∷ lines_of after
    → HasReason reason (number + 1) line → HasLineFault text (number + 1) reason
read_fault text rest line after number entries reason r cut bad = record {
  before = r.done;
  line = line;
  after = lines_of after;
  lines_are = r.lines_are ∙ ap (λ (l : List (List ℕ)). r.done ++ l) cut;
  number_is = ap (λ (n : ℕ). n + 1) r.number_is;
  good = r.good;
  bad = subst (λ (n : ℕ). HasReason reason (n + 1) line) r.number_is bad;
}
