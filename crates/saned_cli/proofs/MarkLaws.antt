-- Newcomers, as line after line marks them.
use Rattle.std.proofs.Common.{◌≡◌, ℕ, zero, suc, Bool, true, false, ◌||◌, ◌&&◌, List, [], ◌∷◌, ◌++◌, refl, sym, ap, ◌∙◌, subst, drop, take, length, ◌<◌, ◌+◌, Option, arith, get_or, set}
use Rattle.std.specs.Prelude.{map, decimal}
use Rattle.std.specs.declared.net.socket_addr.SocketAddrV4.{SocketAddrV4}
use Rattle.saned_cli.specs.TableReadings.{is_line_among, is_line_of, is_of_peer, own_end_text}
use Rattle.saned_cli.specs.SocketTable.{is_socket_to}
use Rattle.saned_cli.specs.Inside.{marked, marked_by, marked_by_line}
use Rattle.saned_cli.specs.declared.table_reading.Newcomer.{Newcomer}

-- ---- tests

or_false : (b : Bool) → b || false ≡ b
or_false true = refl
or_false false = refl

or_assoc : (a b c : Bool) → (a || b) || c ≡ a || (b || c)
or_assoc true b c = refl
or_assoc false b c = refl

no_more : (b s p : Bool) → s ≡ false → b ≡ b || (s && p)
no_more b s p is = rw is (sym (or_false b))

just_that : (b s p : Bool) → s ≡ true → b || p ≡ b || (s && p)
just_that b s p is = rw is refl

-- ---- newcomers

as_marked : {W : Type 0} (it : Newcomer W) (a b : Bool) → a ≡ b → record it { is_his = a } ≡ record it { is_his = b }
as_marked {W} it a b e = ap (λ (x : Bool). let made : Newcomer W = record it { is_his = x } in made) e

both : {X : Type 0} (x y : X) (xs ys : List X) → x ≡ y → xs ≡ ys → x ∷ xs ≡ y ∷ ys
both x y xs ys e f = cc

pub not_by_line : {W : Type 0} (ours user line : List ℕ) (all : List (Newcomer W)) → is_socket_to ours user line ≡ false → all ≡ map (marked_by_line ours user line) all
not_by_line ours user line [] is = refl
not_by_line ours user line (it ∷ all) is =
    both it (marked_by_line ours user line it) all (map (marked_by_line ours user line) all) (as_marked it it.is_his _ (no_more it.is_his (is_socket_to ours user line) (is_of_peer it.peer line) is)) (not_by_line ours user line all is)

pub by_line : {W : Type 0} (ours user line : List ℕ) (all : List (Newcomer W)) → is_socket_to ours user line ≡ true → map (marked_by line) all ≡ map (marked_by_line ours user line) all
by_line ours user line [] is = refl
by_line ours user line (it ∷ all) is =
    both (marked_by line it) (marked_by_line ours user line it) (map (marked_by line) all) (map (marked_by_line ours user line) all) (as_marked it _ _ (just_that it.is_his (is_socket_to ours user line) (is_of_peer it.peer line) is)) (by_line ours user line all is)

-- ---- one line more

among_more : (port user : ℕ) (peer : Option SocketAddrV4) (lines : List (List ℕ)) (line : List ℕ)
    → is_line_among port user peer (lines ++ line ∷ []) ≡ is_line_among port user peer lines || is_line_of port user peer line
among_more port user peer [] line = or_false (is_line_of port user peer line)
among_more port user peer (one ∷ lines) line =
    ap (λ (b : Bool). is_line_of port user peer one || b) (among_more port user peer lines line) ∙ sym (or_assoc (is_line_of port user peer one) (is_line_among port user peer lines) (is_line_of port user peer line))

one_more : (b : Bool) (port user : ℕ) (peer : Option SocketAddrV4) (lines : List (List ℕ)) (line : List ℕ)
    → (b || is_line_among port user peer lines) || is_line_of port user peer line ≡ b || is_line_among port user peer (lines ++ line ∷ [])
one_more b port user peer lines line =
    or_assoc b (is_line_among port user peer lines) (is_line_of port user peer line) ∙ ap (λ (x : Bool). b || x) (sym (among_more port user peer lines line))

pub marked_more : {W : Type 0} (port user : ℕ) (lines : List (List ℕ)) (line : List ℕ) (all : List (Newcomer W))
    → map (marked_by_line (own_end_text port) (decimal user) line) (map (marked port user lines) all) ≡ map (marked port user (lines ++ line ∷ [])) all
marked_more port user lines line [] = refl
marked_more port user lines line (it ∷ all) =
    both (marked_by_line (own_end_text port) (decimal user) line (marked port user lines it)) (marked port user (lines ++ line ∷ []) it) (map (marked_by_line (own_end_text port) (decimal user) line) (map (marked port user lines) all))
    (map (marked port user (lines ++ line ∷ [])) all) (as_marked it _ _ (one_more it.is_his port user it.peer lines line)) (marked_more port user lines line all)

pub unmarked : {W : Type 0} (port user : ℕ) (all : List (Newcomer W)) → all ≡ map (marked port user []) all
unmarked port user [] = refl
unmarked port user (it ∷ all) = both it (marked port user [] it) all (map (marked port user []) all) (as_marked it it.is_his (it.is_his || false) (sym (or_false it.is_his))) (unmarked port user all)

-- ---- place by place

pub next_place : {X : Type 0} (f : X → X) (xs : List X) (i : ℕ) (d : X) → i < length xs
    → set (map f (take i xs) ++ drop i xs) i (f (get_or (map f (take i xs) ++ drop i xs) i d)) ≡ map f (take (suc i) xs) ++ drop (suc i) xs
next_place f [] i d lt = absurd (omega (arith, lt))
next_place f (x ∷ xs) zero d lt = refl
next_place f (x ∷ xs) (suc i) d lt = ap (λ l. f x ∷ l) (next_place f xs i d (omega (arith, lt)))

pub marked_next : {W : Type 0} (port user : ℕ) (lines : List (List ℕ)) (line ours text given : List ℕ) (all mid news : List (Newcomer W))
    → ours ≡ own_end_text port → text ≡ decimal user → given ≡ line → mid ≡ map (marked port user lines) all → news ≡ map (marked_by_line ours text given) mid
    → news ≡ map (marked port user (lines ++ line ∷ [])) all
marked_next {W} port user lines line ours text given all mid news own user_text same before now =
    let at_line : news ≡ map (marked_by_line (own_end_text port) (decimal user) line) (map (marked port user lines) all) =
    subst (λ (o : List ℕ). news ≡ map (marked_by_line o (decimal user) line) (map (marked port user lines) all)) own
    (subst (λ (t : List ℕ). news ≡ map (marked_by_line ours t line) (map (marked port user lines) all)) user_text
    (subst (λ (l : List ℕ). news ≡ map (marked_by_line ours text l) (map (marked port user lines) all)) same
    (subst (λ (m : List (Newcomer W)). news ≡ map (marked_by_line ours text given) m) before now))) in
    at_line ∙ marked_more port user lines line all
