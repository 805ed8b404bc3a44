-- The lines of the system's table of sockets, taken off from the left.
use Rattle.std.proofs.Common.{◌≡◌, ℕ, zero, suc, ◌+◌, ◌<◌, ◌≤◌, ◌^◌, true, false, List, [], ◌∷◌, ◌++◌, append_assoc, Option, Some, None, Result, Ok, Err, drop, arith, refl, sym, ap, ◌∙◌, subst}
use Rattle.std.specs.Prelude.{decimal, IfNone, OkIff}
use Rattle.std.specs.Result.{result_ok}
use Rattle.std.specs.List.{slice_get}
use Rattle.std.proofs.lemmas.List.{append-nil}
use Rattle.std.proofs.lemmas.Fmt.{decimal_injective}
use Rattle.std.specs.declared.net.socket_addr.SocketAddrV4.{SocketAddrV4}
use Rattle.text_lines.specs.Lines.{lines_of}
use Rattle.dispatch.specs.ConfigLines.{fields_of}
use Rattle.saned_cli.specs.SocketTable.{IsOwnedBy, IsOwner, end_text, held_lines, is_socket_to, is_socket_between, sockets_between}

-- ---- places in a list

pub none_at : {X : Type 0} (xs : List X) (i place : ℕ) → drop i xs ≡ [] → i ≤ place → slice_get xs place ≡ None
none_at [] i place e le = refl
none_at (x ∷ xs) zero place e le = absurd cc
none_at (x ∷ xs) (suc i) zero e le = absurd (omega arith)
none_at (x ∷ xs) (suc i) (suc place) e le = none_at xs i place e (omega arith)

pub some_at : {X : Type 0} (xs : List X) (i : ℕ) (x : X) (more : List X) → drop i xs ≡ x ∷ more → slice_get xs i ≡ Some x
some_at [] zero x more e = absurd cc
some_at [] (suc i) x more e = absurd cc
some_at (y ∷ xs) zero x more e = cc
some_at (y ∷ xs) (suc i) x more e = some_at xs i x more e

more_at_suc : {X : Type 0} (xs : List X) (i : ℕ) (x : X) (more : List X) → drop i xs ≡ x ∷ more → drop (suc i) xs ≡ more
more_at_suc [] zero x more e = absurd cc
more_at_suc [] (suc i) x more e = absurd cc
more_at_suc (y ∷ xs) zero x more e = cc
more_at_suc (y ∷ xs) (suc i) x more e = more_at_suc xs i x more e

pub more_at : {X : Type 0} (xs : List X) (i : ℕ) (x : X) (more : List X) → drop i xs ≡ x ∷ more → drop (i + 1) xs ≡ more
more_at xs i x more e = let same : i + 1 ≡ suc i = omega arith in ap (λ (k : ℕ). drop k xs) same ∙ more_at_suc xs i x more e

-- ---- lines

pub found : (own peer text line rest : List ℕ) → lines_of text ≡ line ∷ lines_of rest → is_socket_between own peer line ≡ true
    → sockets_between own peer text ≡ line ∷ sockets_between own peer rest
unfolding sockets_between
found own peer text line rest first is = rw (first, is) refl

pub passed : (own peer text line rest : List ℕ) → lines_of text ≡ line ∷ lines_of rest → is_socket_between own peer line ≡ false
    → sockets_between own peer text ≡ sockets_between own peer rest
unfolding sockets_between
passed own peer text line rest first is = rw (first, is) refl

pub none_found : (own peer text : List ℕ) → lines_of text ≡ [] → sockets_between own peer text ≡ []
unfolding sockets_between
none_found own peer text none = rw none refl

-- ---- owners

pub if_none_map : {A P Q : Type 0} (r : Option A) → IfNone r P → (P → Q) → IfNone r Q
if_none_map None p f = f p
if_none_map (Some a) p f = tt

pub too_large : {E : Type 0} (r : Result ℕ E) (n : ℕ) → OkIff r (n < 2 ^ 32) n → IfNone (result_ok r) (2 ^ 32 ≤ n)
too_large (Ok m) n h = tt
too_large (Err e) n h = omega (arith, h)

text_in : (field other : Option (List ℕ)) (text more : List ℕ) → field ≡ Some text → field ≡ Some more → text ≡ more
text_in field other text more a b = cc

-- a number that is none of 32 bits is no user
pub large_number : (line text : List ℕ) (n : ℕ) → slice_get (fields_of line) 7 ≡ Some text → text ≡ decimal n → n < 2 ^ 64 → 2 ^ 32 ≤ n
    → (user : ℕ) → user < 2 ^ 32 → ¬ IsOwnedBy line user
large_number line text n field spells few large user small owned =
    let same : decimal n ≡ decimal user = sym spells ∙ text_in (slice_get (fields_of line) 7) None text (decimal user) field owned.user_is in
    let equal : n ≡ user = decimal_injective n user few (omega arith) same in
    omega (arith, equal, small, large)

-- the one line decides
pub of_one_line : (table : List ℕ) (peer ours : SocketAddrV4) (line : List ℕ) (user : ℕ) → sockets_between (end_text peer) (end_text ours) table ≡ line ∷ []
    → ¬ IsOwnedBy line user → ¬ IsOwner table peer ours user
of_one_line table peer ours line user only not_owned owner =
    let same : owner.line ≡ line = cc (only, owner.only) in
    not_owned (subst (λ (l : List ℕ). IsOwnedBy l user) same owner.owned)

-- ---- a user's sockets

pub held : (peer user text line rest : List ℕ) → lines_of text ≡ line ∷ lines_of rest → is_socket_to peer user line ≡ true
    → held_lines peer user text ≡ line ∷ held_lines peer user rest
unfolding held_lines
held peer user text line rest first is = rw (first, is) refl

pub not_held : (peer user text line rest : List ℕ) → lines_of text ≡ line ∷ lines_of rest → is_socket_to peer user line ≡ false
    → held_lines peer user text ≡ held_lines peer user rest
unfolding held_lines
not_held peer user text line rest first is = rw (first, is) refl

pub none_held : (peer user text : List ℕ) → lines_of text ≡ [] → held_lines peer user text ≡ []
unfolding held_lines
none_held peer user text none = rw none refl

pub gone_on : (before after rest more all : List (List ℕ)) (line : List ℕ) → after ≡ before ++ (line ∷ []) → rest ≡ line ∷ more → before ++ rest ≡ all → after ++ more ≡ all
gone_on before after rest more all line pushed first whole = rw (pushed, append_assoc) (subst (λ (l : List (List ℕ)). before ++ l ≡ all) first whole)

pub ended : (peer user rest table : List ℕ) (found : List (List ℕ)) → lines_of rest ≡ [] → found ++ held_lines peer user rest ≡ held_lines peer user table → found ≡ held_lines peer user table
ended peer user rest table found none whole =
    sym (append-nil found) ∙ ap (λ (l : List (List ℕ)). found ++ l) (sym (none_held peer user rest none)) ∙ whole
