-- Reading a resource from the left finds its challenge, and nothing else.
use Rattle.std.proofs.Common.{◌≡◌, ℕ, ◌+◌, ◌-◌, min, ◌<◌, ◌≤◌, Bool, true, false, cond, List, [], ◌∷◌, ◌++◌, length, take, drop, get_or, arith, refl, sym, ap, ◌∙◌, subst, inl, inr, ◌⊎◌}
use Rattle.std.specs.Prelude.{Option, Some, None, option_map, nat_eq}
use Rattle.std.specs.Cmp.Lexicographic.{pointwise}
use Rattle.std.proofs.lemmas.Slice.Eq.{bytes_eq-Decides}
use Rattle.std.proofs.lemmas.Bool.{both_ways}
use Rattle.std.proofs.lemmas.Option.{same_Some, none-some}
use Rattle.std.proofs.lemmas.List.{take-append-drop, drop_more, drop_at, append_cancel_left, drop_all, take_rest, take_min}
use Rattle.md5.specs.Md5.{md5}
use Rattle.md5_auth.specs.Allowed.{mark, IsChallenge, answer_text}
use Rattle.md5_auth.specs.ChallengeReading.{after_mark, challenge_of, answer_of}

abbrev marked : List ℕ → Bool
marked bytes = pointwise nat_eq (take 5 bytes) mark

-- ---- the code's steps

pub after_mark-yes : (bytes : List ℕ) → pointwise nat_eq (take 5 bytes) mark ≡ true → after_mark bytes ≡ Some (drop 5 bytes)
after_mark-yes [] h = absurd (both_ways (marked []) refl h)
after_mark-yes (b ∷ bs) h = rw h refl

pub after_mark-unmarked : (bytes : List ℕ) (i : ℕ) → i < length bytes → pointwise nat_eq (take 5 (drop i bytes)) mark ≡ false → after_mark (drop i bytes) ≡ after_mark (drop (i + 1) bytes)
after_mark-unmarked bytes i in_range h =
    let e = drop_more bytes i 0 in_range in
    let test : marked (get_or bytes i 0 ∷ drop (i + 1) bytes) ≡ false = subst (λ (l : List ℕ). marked l ≡ false) e h in
    ap after_mark e ∙ (rw test refl)

pub challenge_here : (resource after : List ℕ) (i n : ℕ) → after_mark (drop i resource) ≡ after_mark resource
    → pointwise nat_eq (take 5 (take (length resource - i) (drop i resource))) mark ≡ true
    → after ≡ drop 5 (take (length resource - i) (drop i resource)) → n ≡ min (length after) 128
    → Some (take n after) ≡ challenge_of resource
unfolding challenge_of
challenge_here resource after i n so_far test after_is count =
    let rest = take_rest resource i in
    let here : after_mark (drop i resource) ≡ Some (drop 5 (drop i resource)) = after_mark-yes (drop i resource) (subst (λ (l : List ℕ). pointwise nat_eq (take 5 l) mark ≡ true) rest test) in
    let found : after_mark resource ≡ Some after = sym so_far ∙ here ∙ ap (λ (l : List ℕ). Some (drop 5 l)) (sym rest) ∙ ap Some (sym after_is) in
    let least : n ≡ min 128 (length after) = omega arith in
    ap (λ (k : ℕ). Some (take k after)) least ∙ ap Some (take_min 128 after) ∙ sym (ap (option_map (take 128)) found)

pub not_here : (resource : List ℕ) (i : ℕ) → i < length resource → after_mark (drop i resource) ≡ after_mark resource
    → pointwise nat_eq (take 5 (take (length resource - i) (drop i resource))) mark ≡ false → after_mark (drop (i + 1) resource) ≡ after_mark resource
not_here resource i in_range so_far test =
    let rest = take_rest resource i in
    sym (after_mark-unmarked resource i in_range (subst (λ (l : List ℕ). pointwise nat_eq (take 5 l) mark ≡ false) rest test)) ∙ so_far

pub nowhere : (resource : List ℕ) (i : ℕ) → length resource ≤ i → after_mark (drop i resource) ≡ after_mark resource → None ≡ challenge_of resource
unfolding challenge_of
nowhere resource i past so_far = ap (option_map (take 128)) (sym (ap after_mark (drop_all i resource past)) ∙ so_far)

-- ---- what is found

pub record Follows (bytes after : List ℕ) : Type 0 where
  pub before : List ℕ
  pub bytes_are : bytes ≡ before ++ (mark ++ after)
  pub first : (earlier rest : List ℕ) → bytes ≡ earlier ++ (mark ++ rest) → length before ≤ length earlier

marked-front : (bytes : List ℕ) → marked bytes ≡ true → bytes ≡ mark ++ drop 5 bytes
marked-front bytes h = sym (take-append-drop 5 bytes) ∙ ap (λ l. l ++ drop 5 bytes) ((bytes_eq-Decides (take 5 bytes) mark).0 h)

follows_here : (bytes : List ℕ) → marked bytes ≡ true → Follows bytes (drop 5 bytes)
follows_here bytes h = record { before = []; bytes_are = marked-front bytes h; first = λ earlier rest e. omega arith }

later : (b : ℕ) (bs before : List ℕ) → marked (b ∷ bs) ≡ false → ((earlier rest : List ℕ) → bs ≡ earlier ++ (mark ++ rest) → length before ≤ length earlier)
    → (earlier rest : List ℕ) → b ∷ bs ≡ earlier ++ (mark ++ rest) → length (b ∷ before) ≤ length earlier
later b bs before plain first [] rest e = absurd (both_ways (marked (b ∷ bs)) plain (ap marked e))
later b bs before plain first (x ∷ xs) rest e =
    let tail : bs ≡ xs ++ (mark ++ rest) = (cc) in
    let h = first xs rest tail in
    omega arith

follows_later : (b : ℕ) (bs after : List ℕ) → marked (b ∷ bs) ≡ false → Follows bs after → Follows (b ∷ bs) after
follows_later b bs after plain f = record {
  before = b ∷ f.before;
  bytes_are = ap (λ l. b ∷ l) f.bytes_are;
  first = later b bs f.before plain f.first;
}

pub follows_found : (bytes after : List ℕ) → after_mark bytes ≡ Some after → Follows bytes after
follows_found [] after e = absurd (none-some after e)
follows_found (b ∷ bs) after e =
    let P : Bool → Type 0 = λ t. marked (b ∷ bs) ≡ t → cond t (Some (drop 5 (b ∷ bs))) (after_mark bs) ≡ Some after → Follows (b ∷ bs) after in
    elim (marked (b ∷ bs)) as P [
      | true ↦ λ t f. subst (λ (l : List ℕ). Follows (b ∷ bs) l) (same_Some _ _ f) (follows_here (b ∷ bs) t)
      | false ↦ λ t f. follows_later b bs after t (follows_found bs after f)
    ] refl e

none_later : (b : ℕ) (bs before after : List ℕ) → marked (b ∷ bs) ≡ false → ((before after : List ℕ) → bs ≡ before ++ (mark ++ after) → ⊥) → b ∷ bs ≡ before ++ (mark ++ after) → ⊥
none_later b bs [] after plain none h = both_ways (marked (b ∷ bs)) plain (ap marked h)
none_later b bs (x ∷ xs) after plain none h = let tail : bs ≡ xs ++ (mark ++ after) = (cc) in none xs after tail

pub none_found : (bytes : List ℕ) → after_mark bytes ≡ None → (before after : List ℕ) → bytes ≡ before ++ (mark ++ after) → ⊥
none_found [] e [] after h = absurd (cc)
none_found [] e (x ∷ xs) after h = absurd (cc)
none_found (b ∷ bs) e before after h =
    let P : Bool → Type 0 = λ t. marked (b ∷ bs) ≡ t → cond t (Some (drop 5 (b ∷ bs))) (after_mark bs) ≡ None → ⊥ in
    elim (marked (b ∷ bs)) as P [
      | true ↦ λ t f. none-some _ (sym f)
      | false ↦ λ t f. none_later b bs before after t (none_found bs f) h
    ] refl e

-- ---- one challenge

same_fronts : (a b x y : List ℕ) → length a ≡ length b → a ++ x ≡ b ++ y → x ≡ y
same_fronts a b x y n e = sym (drop_at a x (length a) refl) ∙ ap (drop (length a)) e ∙ drop_at b y (length a) (sym n)

pub one_follows : (bytes x y : List ℕ) → Follows bytes x → Follows bytes y → x ≡ y
one_follows bytes x y f g =
    let low = f.first g.before y g.bytes_are in
    let high = g.first f.before x f.bytes_are in
    append_cancel_left mark x y (same_fronts f.before g.before (mark ++ x) (mark ++ y) (omega arith) (sym f.bytes_are ∙ g.bytes_are))

found_or_none : (o : Option (List ℕ)) → ((x : List ℕ) × (o ≡ Some x)) ⊎ (o ≡ None)
found_or_none (Some x) = inl (x, refl)
found_or_none None = inr refl

pub after_mark-follows : (bytes after : List ℕ) → Follows bytes after → after_mark bytes ≡ Some after
after_mark-follows bytes after f =
    elim (found_or_none (after_mark bytes)) [
      | inl found ↦ found.1 ∙ ap Some (one_follows bytes found.0 after (follows_found bytes found.0 found.1) f)
      | inr none ↦ absurd (none_found bytes none f.before after f.bytes_are)
    ]

pub is_challenge_found : (resource challenge : List ℕ) → challenge_of resource ≡ Some challenge → IsChallenge resource challenge
unfolding challenge_of
is_challenge_found resource challenge e =
    elim (found_or_none (after_mark resource)) [
      | inl found ↦
          let f = follows_found resource found.0 found.1 in
          record {
            before = f.before;
            after = found.0;
            resource_is = f.bytes_are;
            first = f.first;
            challenge_is = sym (same_Some _ _ (sym (ap (option_map (take 128)) found.1) ∙ e));
          }
      | inr none ↦ absurd (none-some challenge (sym (ap (option_map (take 128)) none) ∙ e))
    ]

pub challenge_of-is : (resource challenge : List ℕ) → IsChallenge resource challenge → challenge_of resource ≡ Some challenge
unfolding challenge_of
challenge_of-is resource challenge h =
    let f : Follows resource h.after = record { before = h.before; bytes_are = h.resource_is; first = h.first } in
    ap (option_map (take 128)) (after_mark-follows resource h.after f) ∙ ap Some (sym h.challenge_is)

pub same_challenge : (resource c d : List ℕ) → IsChallenge resource c → IsChallenge resource d → c ≡ d
same_challenge resource c d h g = same_Some c d (sym (challenge_of-is resource c h) ∙ challenge_of-is resource d g)

pub no_challenge : (resource : List ℕ) → None ≡ challenge_of resource → (challenge : List ℕ) → ¬ IsChallenge resource challenge
no_challenge resource none challenge h = none-some challenge (none ∙ challenge_of-is resource challenge h)

-- ---- the answer

pub answer_of-none : (resource password : List ℕ) → None ≡ challenge_of resource → None ≡ answer_of resource password
unfolding answer_of
answer_of-none resource password e = ap (option_map (λ (c : List ℕ). answer_text (md5 (c ++ password)))) e

pub answer_of-some : (resource password challenge text : List ℕ) → Some challenge ≡ challenge_of resource → text ≡ answer_text (md5 (challenge ++ password)) → Some text ≡ answer_of resource password
unfolding answer_of
answer_of-some resource password challenge text e is = ap Some is ∙ ap (option_map (λ (c : List ℕ). answer_text (md5 (c ++ password)))) e
