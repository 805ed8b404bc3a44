-- Words that are read piece by piece.
use Rattle.std.proofs.Common.{◌≡◌, ◌<◌, ◌≤◌, ◌+◌, ℕ, ℤ, zero, suc, true, false, List, [], ◌∷◌, ◌++◌, length, take, get_or, arith, refl, sym, ap, ◌∙◌, subst}
use Rattle.std.specs.Prelude.{Option, Some, None, is_some}
use Rattle.std.proofs.lemmas.Bool.{false≢true}
use Rattle.std.proofs.lemmas.List.{take_more, take_all}
use Rattle.sane_fixed.specs.declared.kind.Kind.{Kind}
use Rattle.option_desc.specs.Reads.{SpellsWord, SpellsEach, word_in, words_in}
use Rattle.option_desc.proofs.ReadsLaws.{no_some, word_found, word_is, words_found, words_are}

-- the first n pieces spell words
pub record ReadBelow (k : Kind) (pieces : List (List ℕ)) (n : ℕ) : Type 0 where
  pub words : List ℤ
  pub are : words_in k (take n pieces) ≡ Some words

pub ReadBelow-none : (k : Kind) (pieces : List (List ℕ)) → ReadBelow k pieces 0
ReadBelow-none k pieces = record { words = []; are = refl }

SpellsEach-push : (k : Kind) (pieces : List (List ℕ)) (words : List ℤ) (piece : List ℕ) (word : ℤ) → SpellsEach k pieces words → SpellsWord k piece word → SpellsEach k (pieces ++ piece ∷ []) (words ++ word ∷ [])
SpellsEach-push k [] [] piece word each s = (s, tt)
SpellsEach-push k [] (w ∷ ws) piece word each s = absurd each
SpellsEach-push k (p ∷ ps) [] piece word each s = absurd each
SpellsEach-push k (p ∷ ps) (w ∷ ws) piece word each s = (each.0, SpellsEach-push k ps ws piece word each.1 s)

pub words_in-more : (k : Kind) (pieces : List (List ℕ)) (n : ℕ) (piece : List ℕ) (words : List ℤ) (word : ℤ) → n < length pieces → piece ≡ get_or pieces n piece → words_in k (take n pieces) ≡ Some words → word_in k piece ≡ Some word → words_in k (take (n + 1) pieces) ≡ Some (words ++ word ∷ [])
words_in-more k pieces n piece words word within at so_far read =
    let more : take (n + 1) pieces ≡ take n pieces ++ piece ∷ [] = take_more pieces n piece within ∙ ap (λ p. take n pieces ++ p ∷ []) (sym at) in
    ap (words_in k) more ∙ words_are k (take n pieces ++ piece ∷ []) (words ++ word ∷ []) (SpellsEach-push k (take n pieces) words piece word (words_found k (take n pieces) words so_far) (word_found k piece word read))

pub ReadBelow-more : (k : Kind) (pieces : List (List ℕ)) (n : ℕ) (piece : List ℕ) (word : ℤ) → n < length pieces → piece ≡ get_or pieces n piece → ReadBelow k pieces n → word_in k piece ≡ Some word → ReadBelow k pieces (n + 1)
ReadBelow-more k pieces n piece word within at r read = record { words = r.words ++ word ∷ []; are = words_in-more k pieces n piece r.words word within at r.are read }

SpellsEach-at : (k : Kind) (pieces : List (List ℕ)) (words : List ℤ) (n : ℕ) (d : List ℕ) → n < length pieces → SpellsEach k pieces words → (word : ℤ) × SpellsWord k (get_or pieces n d) word
SpellsEach-at k [] words n d within each = absurd (let h : n < 0 = within in omega arith)
SpellsEach-at k (p ∷ ps) [] n d within each = absurd each
SpellsEach-at k (p ∷ ps) (w ∷ ws) zero d within each = (w, each.0)
SpellsEach-at k (p ∷ ps) (w ∷ ws) (suc n) d within each = SpellsEach-at k ps ws n d (omega arith) each.1

-- a piece that spells no word
unread_at : (k : Kind) (pieces : List (List ℕ)) (n : ℕ) (piece : List ℕ) (o : Option (List ℤ)) → n < length pieces → piece ≡ get_or pieces n piece → word_in k piece ≡ None → words_in k pieces ≡ o → o ≡ None
unread_at k pieces n piece None within at read e = refl
unread_at k pieces n piece (Some words) within at read e =
    let s = SpellsEach-at k pieces words n piece within (words_found k pieces words e) in
    absurd (no_some s.0 (sym read ∙ word_is k piece s.0 (subst (λ p. SpellsWord k p s.0) (sym at) s.1)))

pub unread : (k : Kind) (pieces : List (List ℕ)) (n : ℕ) (piece : List ℕ) → n < length pieces → piece ≡ get_or pieces n piece → word_in k piece ≡ None → words_in k pieces ≡ None
unread k pieces n piece within at read = unread_at k pieces n piece (words_in k pieces) within at read refl

pub all_below : (k : Kind) (pieces : List (List ℕ)) (n : ℕ) (words : List ℤ) → length pieces ≤ n → words_in k (take n pieces) ≡ Some words → words_in k pieces ≡ Some words
all_below k pieces n words all e = ap (words_in k) (sym (take_all n pieces all)) ∙ e

-- ---- as a test

pub unread_piece : (k : Kind) (pieces : List (List ℕ)) (n : ℕ) (piece : List ℕ) (found : Option ℤ) → n < length pieces → piece ≡ get_or pieces n piece → found ≡ word_in k piece → is_some found ≡ false → false ≡ is_some (words_in k pieces)
unread_piece k pieces n piece None within at is none = sym (ap is_some (unread k pieces n piece within at (sym is)))
unread_piece k pieces n piece (Some word) within at is none = absurd (false≢true (sym none))

pub ReadBelow-read : (k : Kind) (pieces : List (List ℕ)) (n : ℕ) (piece : List ℕ) (found : Option ℤ) → n < length pieces → piece ≡ get_or pieces n piece → ReadBelow k pieces n → found ≡ word_in k piece → is_some found ≡ true → ReadBelow k pieces (n + 1)
ReadBelow-read k pieces n piece None within at r is some = absurd (false≢true some)
ReadBelow-read k pieces n piece (Some word) within at r is some = ReadBelow-more k pieces n piece word within at r (sym is)

pub all_read_below : (k : Kind) (pieces : List (List ℕ)) (n : ℕ) → length pieces ≡ n → ReadBelow k pieces n → true ≡ is_some (words_in k pieces)
all_read_below k pieces n all r = sym (ap is_some (all_below k pieces n r.words (let h : length pieces ≤ n = omega arith in h) r.are))
