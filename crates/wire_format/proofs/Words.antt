-- The laws of a word of a kind.
use Rattle.std.proofs.Common.{◌≡◌, ℕ, zero, suc, ◌+◌, ◌-◌, ◌*◌, ◌^◌, ◌≤◌, ◌<◌, List, [], ◌∷◌, ◌++◌, length, get_or, take, Result, Ok, Err, Option, Some, None, refl, sym, ap, subst, ◌∙◌, append_assoc, arith, inl, inr}
use Rattle.std.specs.Int.{w32, to_be_bytes, from_be_bytes}
use Rattle.std.proofs.lemmas.Bool.{cases_lt}
use Rattle.std.proofs.lemmas.Bool.Decides.{nat_tests}
use Rattle.std.proofs.lemmas.List.{append-nil, length-append}
use Rattle.std.proofs.Math.Seq.{take-append-add}
use Rattle.std.proofs.lemmas.Nat.{be_bytes_4, from_be_bytes-to_be_bytes_4}
use Rattle.wire_format.specs.declared.fault.Fault.{Fault}
use Rattle.wire_format.specs.declared.fault.MissingBytes.{MissingBytes}
use Rattle.wire_format.specs.declared.fault.ReadStop.{ReadStop}
use Rattle.wire_format.specs.declared.fault.ReadStop.TheVariants.{More, Bad}
use Rattle.wire_format.specs.Format.{IsBytes, one_byte}
use Rattle.wire_format.specs.WordKinds.{WordKind, IsKind, Among, Whole, Part, split_at_word, judged_word, judged_whole, stop_of, IsWordOf, IsNoWordOf, word_of_kind, between}
use Rattle.wire_format.specs.Lawful.{SpellsFront, BeginsSpelling, HasSpoiledFront, IsStillWaiting, still_missing, Lawful}
use Rattle.wire_format.proofs.Combining.{IsBytes-front, read_as, ok_value, ok_rest, failed, err_is}

-- ---- the bytes of a word

cell : ℕ → ℕ → ℕ
cell n i = get_or (to_be_bytes w32 n) i 0

extends_1 : (a n : ℕ) → n < 2 ^ 32 → a < 256 → from_be_bytes w32 (a ∷ 0 ∷ 0 ∷ 0 ∷ []) ≤ n → n ≤ from_be_bytes w32 (a ∷ 255 ∷ 255 ∷ 255 ∷ []) → (behind : List ℕ) × (a ∷ behind ≡ to_be_bytes w32 n)
unfolding cell
extends_1 a n fits small least most =
    let e : a ≡ cell n 0 = omega (arith, from_be_bytes-to_be_bytes_4 n fits) in
    (cell n 1 ∷ cell n 2 ∷ cell n 3 ∷ [], ap (λ (x : ℕ). x ∷ cell n 1 ∷ cell n 2 ∷ cell n 3 ∷ []) e)

extends_2 : (a b n : ℕ) → n < 2 ^ 32 → a < 256 → b < 256 → from_be_bytes w32 (a ∷ b ∷ 0 ∷ 0 ∷ []) ≤ n → n ≤ from_be_bytes w32 (a ∷ b ∷ 255 ∷ 255 ∷ []) → (behind : List ℕ) × (a ∷ b ∷ behind ≡ to_be_bytes w32 n)
unfolding cell
extends_2 a b n fits small small2 least most =
    let e : a ≡ cell n 0 = omega (arith, from_be_bytes-to_be_bytes_4 n fits) in
    let f : b ≡ cell n 1 = omega (arith, from_be_bytes-to_be_bytes_4 n fits) in
    (cell n 2 ∷ cell n 3 ∷ [], ap (λ (x : ℕ). x ∷ b ∷ cell n 2 ∷ cell n 3 ∷ []) e ∙ ap (λ (x : ℕ). cell n 0 ∷ x ∷ cell n 2 ∷ cell n 3 ∷ []) f)

extends_3 : (a b c n : ℕ) → n < 2 ^ 32 → a < 256 → b < 256 → c < 256 → from_be_bytes w32 (a ∷ b ∷ c ∷ 0 ∷ []) ≤ n → n ≤ from_be_bytes w32 (a ∷ b ∷ c ∷ 255 ∷ []) → (behind : List ℕ) × (a ∷ b ∷ c ∷ behind ≡ to_be_bytes w32 n)
unfolding cell
extends_3 a b c n fits small small2 small3 least most =
    let e : a ≡ cell n 0 = omega (arith, from_be_bytes-to_be_bytes_4 n fits) in
    let f : b ≡ cell n 1 = omega (arith, from_be_bytes-to_be_bytes_4 n fits) in
    let g : c ≡ cell n 2 = omega (arith, from_be_bytes-to_be_bytes_4 n fits) in
    (cell n 3 ∷ [], ap (λ (x : ℕ). x ∷ b ∷ c ∷ cell n 3 ∷ []) e ∙ ap (λ (x : ℕ). cell n 0 ∷ x ∷ c ∷ cell n 3 ∷ []) f ∙ ap (λ (x : ℕ). cell n 0 ∷ cell n 1 ∷ x ∷ cell n 3 ∷ []) g)

pub word_bytes : (n : ℕ) → IsBytes (to_be_bytes w32 n)
word_bytes n zero = omega arith
word_bytes n (suc zero) = omega arith
word_bytes n (suc (suc zero)) = omega arith
word_bytes n (suc (suc (suc zero))) = omega arith
word_bytes n (suc (suc (suc (suc i)))) = omega arith

four : (a b c d : ℕ) → a < 256 → b < 256 → c < 256 → d < 256 → IsBytes (a ∷ b ∷ c ∷ d ∷ [])
four a b c d fa fb fc fd zero = fa
four a b c d fa fb fc fd (suc zero) = fb
four a b c d fa fb fc fd (suc (suc zero)) = fc
four a b c d fa fb fc fd (suc (suc (suc zero))) = fd
four a b c d fa fb fc fd (suc (suc (suc (suc i)))) = omega arith

-- the first four bytes, and zeros where there are fewer, are a word
some_word : (bytes : List ℕ) → IsBytes bytes → (behind : List ℕ) × (n : ℕ) × (n < 2 ^ 32) × (take 4 bytes ++ behind ≡ to_be_bytes w32 n)
some_word [] fits = (0 ∷ 0 ∷ 0 ∷ 0 ∷ [], 0, omega arith, refl)
some_word (a ∷ []) fits = (0 ∷ 0 ∷ 0 ∷ [], from_be_bytes w32 (a ∷ 0 ∷ 0 ∷ 0 ∷ []), omega (arith, fits 0), sym (be_bytes_4 (a ∷ 0 ∷ 0 ∷ 0 ∷ []) _ refl (four a 0 0 0 (fits 0) (omega arith) (omega arith) (omega arith)) refl))
some_word (a ∷ b ∷ []) fits = (0 ∷ 0 ∷ [], from_be_bytes w32 (a ∷ b ∷ 0 ∷ 0 ∷ []), omega (arith, fits 0, fits 1), sym (be_bytes_4 (a ∷ b ∷ 0 ∷ 0 ∷ []) _ refl (four a b 0 0 (fits 0) (fits 1) (omega arith) (omega arith)) refl))
some_word (a ∷ b ∷ c ∷ []) fits = (0 ∷ [], from_be_bytes w32 (a ∷ b ∷ c ∷ 0 ∷ []), omega (arith, fits 0, fits 1, fits 2), sym (be_bytes_4 (a ∷ b ∷ c ∷ 0 ∷ []) _ refl (four a b c 0 (fits 0) (fits 1) (fits 2) (omega arith)) refl))
some_word (a ∷ b ∷ c ∷ d ∷ bytes) fits = ([], from_be_bytes w32 (a ∷ b ∷ c ∷ d ∷ []), omega (arith, fits 0, fits 1, fits 2, fits 3), sym (be_bytes_4 (a ∷ b ∷ c ∷ d ∷ []) _ refl (four a b c d (fits 0) (fits 1) (fits 2) (fits 3)) refl))

-- ---- what judging says

abbrev judged_as : {A : Type 0} → A → Result A Fault
judged_as x = Ok x

abbrev fault_as : (A : Type 0) → Fault → Result A Fault
fault_as A g = Err g

fault_is : {A : Type 0} (g h : Fault) → fault_as A g ≡ fault_as A h → g ≡ h
fault_is g h e = cc

judge_ok : {A : Type 0} (r : Result A Fault) (bytes rest : List ℕ) (x : A) → judged_whole r bytes ≡ read_as x rest → (r ≡ Ok x) × (bytes ≡ rest)
judge_ok (Ok y) bytes rest x e = (ap judged_as (ok_value y x bytes rest e), ok_rest y x bytes rest e)
judge_ok (Err fault) bytes rest x e = absurd cc

bad_is : {A : Type 0} (g h : Fault) → failed A (Bad g) ≡ failed A (Bad h) → g ≡ h
bad_is g h e = cc

judge_err : {A : Type 0} (r : Result A Fault) (rest : List ℕ) (g : Fault) → judged_whole r rest ≡ failed (A × List ℕ) (Bad g) → r ≡ Err g
judge_err (Ok y) rest g e = absurd cc
judge_err {A = A} (Err h) rest g e = ap (fault_as A) (bad_is {A = A × List ℕ} h g e)

judge_no_more : {A : Type 0} (r : Result A Fault) (rest : List ℕ) (wanted : MissingBytes) → judged_whole r rest ≡ failed (A × List ℕ) (More wanted) → ⊥
judge_no_more (Ok y) rest wanted e = absurd cc
judge_no_more (Err h) rest wanted e = absurd cc

part_more : (p : Option Fault) (wanted : MissingBytes) → stop_of p ≡ More wanted → (p ≡ None) × (wanted ≡ one_byte)
part_more None wanted e = (refl, cc)
part_more (Some fault) wanted e = absurd cc

part_fault : (p : Option Fault) (g : Fault) → stop_of p ≡ Bad g → p ≡ Some g
part_fault None g e = absurd cc
part_fault (Some fault) g e = ap (λ (x : Fault). Some x) cc

whole_bad : {A : Type 0} (K : WordKind A) (n : ℕ) (rest : List ℕ) (g : Fault) → K.judge n ≡ fault_as A g → judged_word K (Whole n rest) ≡ failed (A × List ℕ) (Bad g)
whole_bad K n rest g e = rw e refl

part_bad : {A : Type 0} (K : WordKind A) (least most : ℕ) (g : Fault) → K.part least most ≡ Some g → judged_word K (Part least most) ≡ failed (A × List ℕ) (Bad g)
part_bad K least most g e = rw e refl

-- ---- the laws

begins : {A : Type 0} (K : WordKind A) (bytes : List ℕ) (n : ℕ) (x : A) (t : (behind : List ℕ) × (bytes ++ behind ≡ to_be_bytes w32 n)) → n < 2 ^ 32 → K.judge n ≡ Ok x → BeginsSpelling (word_of_kind K) bytes
begins K bytes n x t fits is = record { behind = t.0; value = x; spelled = record { n = n; text_is = t.1; fits = fits; is = is } }

kind_some : {A : Type 0} (K : WordKind A) → IsKind K → BeginsSpelling (word_of_kind K) []
kind_some K k = let m = k.more 0 0 4294967295 (omega arith) (omega arith) (omega arith) k.nothing in begins K [] m.n m.value (to_be_bytes w32 m.n, refl) (omega (arith, m.below)) m.is

kind_sound : {A : Type 0} (K : WordKind A) (bytes rest : List ℕ) (x : A) → IsBytes bytes → judged_word K (split_at_word bytes) ≡ Ok (x, rest) → SpellsFront (word_of_kind K) bytes rest x
kind_sound K [] rest x fits e = absurd cc
kind_sound K (a ∷ []) rest x fits e = absurd cc
kind_sound K (a ∷ b ∷ []) rest x fits e = absurd cc
kind_sound K (a ∷ b ∷ c ∷ []) rest x fits e = absurd cc
kind_sound {A = A} K (a ∷ b ∷ c ∷ d ∷ bytes) rest x fits e =
    let small : IsBytes (a ∷ b ∷ c ∷ d ∷ []) = IsBytes-front (a ∷ b ∷ c ∷ d ∷ []) bytes fits in
    let s = judge_ok (K.judge (from_be_bytes w32 (a ∷ b ∷ c ∷ d ∷ []))) bytes rest x e in
    record {
      text = a ∷ b ∷ c ∷ d ∷ [];
      whole = ap (λ (t : List ℕ). a ∷ b ∷ c ∷ d ∷ t) s.1;
      spelled = record { n = from_be_bytes w32 (a ∷ b ∷ c ∷ d ∷ []); text_is = sym (be_bytes_4 (a ∷ b ∷ c ∷ d ∷ []) _ refl small refl); fits = omega (arith, small 0, small 1, small 2, small 3); is = s.0 };
    }

kind_complete : {A : Type 0} (K : WordKind A) (text rest : List ℕ) (x : A) → IsWordOf K text x → judged_word K (split_at_word (text ++ rest)) ≡ Ok (x, rest)
kind_complete K text rest x s =
    ap (λ (t : List ℕ). judged_word K (split_at_word (t ++ rest))) s.text_is
    ∙ ap (λ (m : ℕ). judged_word K (Whole m rest)) (from_be_bytes-to_be_bytes_4 s.n s.fits)
    ∙ rw s.is refl

none_of : {A : Type 0} (K : WordKind A) (least most : ℕ) (wanted : MissingBytes) → judged_word K (Part least most) ≡ failed (A × List ℕ) (More wanted) → K.part least most ≡ None
none_of {A = A} K least most wanted e = (part_more (K.part least most) wanted (err_is {B = A × List ℕ} _ (More wanted) e)).0

some_of : {A : Type 0} (K : WordKind A) (least most : ℕ) (g : Fault) → judged_word K (Part least most) ≡ failed (A × List ℕ) (Bad g) → K.part least most ≡ Some g
some_of {A = A} K least most g e = part_fault (K.part least most) g (err_is {B = A × List ℕ} _ (Bad g) e)

kind_more : {A : Type 0} (K : WordKind A) → IsKind K → (bytes : List ℕ) (wanted : MissingBytes) → IsBytes bytes → judged_word K (split_at_word bytes) ≡ Err (More wanted) → BeginsSpelling (word_of_kind K) bytes
kind_more K k [] wanted fits e = kind_some K k
kind_more {A = A} K k (a ∷ []) wanted fits e =
    let m = k.more (a * 65536) _ _ (omega arith) (omega arith) (omega (arith, fits 0)) (none_of K _ _ wanted e) in
    begins K (a ∷ []) m.n m.value (extends_1 a m.n (omega (arith, m.below, fits 0)) (fits 0) m.above m.below) (omega (arith, m.below, fits 0)) m.is
kind_more {A = A} K k (a ∷ b ∷ []) wanted fits e =
    let m = k.more (a * 65536 + b * 256) _ _ (omega arith) (omega arith) (omega (arith, fits 0, fits 1)) (none_of K _ _ wanted e) in
    begins K (a ∷ b ∷ []) m.n m.value (extends_2 a b m.n (omega (arith, m.below, fits 0, fits 1)) (fits 0) (fits 1) m.above m.below) (omega (arith, m.below, fits 0, fits 1)) m.is
kind_more {A = A} K k (a ∷ b ∷ c ∷ []) wanted fits e =
    let m = k.more (a * 65536 + b * 256 + c) _ _ (omega arith) (omega arith) (omega (arith, fits 0, fits 1, fits 2)) (none_of K _ _ wanted e) in
    begins K (a ∷ b ∷ c ∷ []) m.n m.value (extends_3 a b c m.n (omega (arith, m.below, fits 0, fits 1, fits 2)) (fits 0) (fits 1) (fits 2) m.above m.below) (omega (arith, m.below, fits 0, fits 1, fits 2)) m.is
kind_more K k (a ∷ b ∷ c ∷ d ∷ bytes) wanted fits e = absurd (judge_no_more (K.judge _) bytes wanted e)

-- one byte is wanted, where the bytes are fewer than four
kind_wanted : {A : Type 0} (K : WordKind A) (bytes : List ℕ) (wanted : MissingBytes) → judged_word K (split_at_word bytes) ≡ Err (More wanted) → (length bytes < 4) × (wanted ≡ one_byte)
kind_wanted {A = A} K [] wanted e = (omega arith, (part_more (K.part _ _) wanted (err_is {B = A × List ℕ} _ (More wanted) e)).1)
kind_wanted {A = A} K (a ∷ []) wanted e = (omega arith, (part_more (K.part _ _) wanted (err_is {B = A × List ℕ} _ (More wanted) e)).1)
kind_wanted {A = A} K (a ∷ b ∷ []) wanted e = (omega arith, (part_more (K.part _ _) wanted (err_is {B = A × List ℕ} _ (More wanted) e)).1)
kind_wanted {A = A} K (a ∷ b ∷ c ∷ []) wanted e = (omega arith, (part_more (K.part _ _) wanted (err_is {B = A × List ℕ} _ (More wanted) e)).1)
kind_wanted K (a ∷ b ∷ c ∷ d ∷ bytes) wanted e = absurd (judge_no_more (K.judge _) bytes wanted e)

kind_wants : {A : Type 0} (K : WordKind A) (bytes behind : List ℕ) (wanted : MissingBytes) (x : A) → judged_word K (split_at_word bytes) ≡ Err (More wanted) → IsWordOf K (bytes ++ behind) x → wanted.count ≤ length behind
kind_wants K bytes behind wanted x e s =
    let w = kind_wanted K bytes wanted e in
    let count : wanted.count ≡ 1 = ap (λ (v : MissingBytes). v.count) w.1 in
    let long : length (bytes ++ behind) ≡ 4 = ap length s.text_is in
    omega (arith, w.0, count, long, length-append bytes behind)

no_more : (more : List ℕ) → length more < 1 → more ≡ []
no_more [] h = refl
no_more (b ∷ more) h = absurd (omega arith)

-- where one byte was wanted and none has come, one is wanted
pub one_waits : {A : Type 0} (read : List ℕ → Result (A × List ℕ) ReadStop) (bytes more : List ℕ) (wanted : MissingBytes) → read bytes ≡ Err (More wanted) → wanted ≡ one_byte → IsStillWaiting wanted more → read (bytes ++ more) ≡ Err (More (still_missing wanted (length more)))
one_waits {A = A} read bytes more wanted e is still =
    let count : wanted.count ≡ 1 = ap (λ (v : MissingBytes). v.count) is in
    let none : more ≡ [] = no_more more (omega (arith, still.fewer, count)) in
    rw (none, is) (ap read (append-nil bytes) ∙ e ∙ ap (λ (v : MissingBytes). failed (A × List ℕ) (More v)) is)

kind_stays : {A : Type 0} (K : WordKind A) → IsKind K → (bytes rest : List ℕ) (g : Fault) → IsBytes (bytes ++ rest) → judged_word K (split_at_word bytes) ≡ Err (Bad g) → judged_word K (split_at_word (bytes ++ rest)) ≡ Err (Bad g)
kind_stays {A = A} K k [] rest g fits e = let no : None ≡ Some g = sym k.nothing ∙ some_of K _ _ g e in absurd (cc no)
kind_stays K k (a ∷ []) [] g fits e = e
kind_stays {A = A} K k (a ∷ []) (b ∷ []) g fits e = part_bad K _ _ g (k.less _ _ _ _ g (some_of K _ _ g e) (omega arith) (omega arith) (omega (arith, fits 1)))
kind_stays {A = A} K k (a ∷ []) (b ∷ c ∷ []) g fits e = part_bad K _ _ g (k.less _ _ _ _ g (some_of K _ _ g e) (omega arith) (omega arith) (omega (arith, fits 1, fits 2)))
kind_stays {A = A} K k (a ∷ []) (b ∷ c ∷ d ∷ rest) g fits e = whole_bad K _ rest g (k.bad _ _ g (some_of K _ _ g e) _ (omega arith) (omega (arith, fits 1, fits 2, fits 3)))
kind_stays K k (a ∷ b ∷ []) [] g fits e = e
kind_stays {A = A} K k (a ∷ b ∷ []) (c ∷ []) g fits e = part_bad K _ _ g (k.less _ _ _ _ g (some_of K _ _ g e) (omega arith) (omega arith) (omega (arith, fits 2)))
kind_stays {A = A} K k (a ∷ b ∷ []) (c ∷ d ∷ rest) g fits e = whole_bad K _ rest g (k.bad _ _ g (some_of K _ _ g e) _ (omega arith) (omega (arith, fits 2, fits 3)))
kind_stays K k (a ∷ b ∷ c ∷ []) [] g fits e = e
kind_stays {A = A} K k (a ∷ b ∷ c ∷ []) (d ∷ rest) g fits e = whole_bad K _ rest g (k.bad _ _ g (some_of K _ _ g e) _ (omega arith) (omega (arith, fits 3)))
kind_stays K k (a ∷ b ∷ c ∷ d ∷ bytes) rest g fits e = whole_bad K _ (bytes ++ rest) g (judge_err (K.judge _) bytes g e)

past_four : (text r : List ℕ) → length text ≡ 4 → text ++ take (4 - length text) r ≡ text
past_four text r len = let k : 4 - length text ≡ 0 = omega arith in rw k (append-nil text)

-- a fault on at most a word's bytes
no_word : {A : Type 0} (K : WordKind A) → IsKind K → (text : List ℕ) (g : Fault) → length text ≤ 4 → judged_word K (split_at_word text) ≡ Err (Bad g) → IsNoWordOf K text g
no_word {A = A} K k text g short e = record {
  short = short;
  all = λ behind n is fits.
      let small : IsBytes (text ++ behind) = subst IsBytes (sym is) (word_bytes n) in
      let bad = kind_stays K k text behind g small e in
      let whole : judged_word K (Whole n []) ≡ failed (A × List ℕ) (Bad g) =
      ap (λ (m : ℕ). judged_word K (Whole m [])) (sym (from_be_bytes-to_be_bytes_4 n fits)) ∙ ap (λ (t : List ℕ). judged_word K (split_at_word t)) (sym is) ∙ bad in
      judge_err (K.judge n) [] g whole;
}

kind_bad : {A : Type 0} (K : WordKind A) → IsKind K → (bytes : List ℕ) (g : Fault) → IsBytes bytes → judged_word K (split_at_word bytes) ≡ Err (Bad g) → HasSpoiledFront (word_of_kind K) bytes g
kind_bad K k [] g fits e = record { front = []; rest = []; whole = refl; spoiled = no_word K k [] g (omega arith) e }
kind_bad K k (a ∷ []) g fits e = record { front = a ∷ []; rest = []; whole = refl; spoiled = no_word K k (a ∷ []) g (omega arith) e }
kind_bad K k (a ∷ b ∷ []) g fits e = record { front = a ∷ b ∷ []; rest = []; whole = refl; spoiled = no_word K k (a ∷ b ∷ []) g (omega arith) e }
kind_bad K k (a ∷ b ∷ c ∷ []) g fits e = record { front = a ∷ b ∷ c ∷ []; rest = []; whole = refl; spoiled = no_word K k (a ∷ b ∷ c ∷ []) g (omega arith) e }
kind_bad K k (a ∷ b ∷ c ∷ d ∷ bytes) g fits e =
    let four : judged_word K (split_at_word (a ∷ b ∷ c ∷ d ∷ [])) ≡ Err (Bad g) = whole_bad K _ [] g (judge_err (K.judge _) bytes g e) in
    record { front = a ∷ b ∷ c ∷ d ∷ []; rest = bytes; whole = refl; spoiled = no_word K k (a ∷ b ∷ c ∷ d ∷ []) g (omega arith) four }

-- a front of at most four bytes, in the first four
in_four : (text rest bytes : List ℕ) → bytes ≡ text ++ rest → length text ≤ 4 → take 4 bytes ≡ text ++ take (4 - length text) rest
in_four text rest bytes e short =
    let k : 4 ≡ length text + (4 - length text) = omega arith in
    ap (take 4) e ∙ ap (λ (m : ℕ). take m (text ++ rest)) k ∙ take-append-add text rest (4 - length text)

-- fronts of the same bytes have the same fault
same_fault : {A : Type 0} (K : WordKind A) (bytes text rest front other : List ℕ) (g h : Fault) → IsBytes bytes → bytes ≡ text ++ rest → bytes ≡ front ++ other → IsNoWordOf K text g → IsNoWordOf K front h → h ≡ g
same_fault {A = A} K bytes text rest front other g h fits e f s t =
    let w = some_word bytes fits in
    let a = s.all (take (4 - length text) rest ++ w.0) w.1 (sym (append_assoc text (take (4 - length text) rest) w.0) ∙ ap (λ (x : List ℕ). x ++ w.0) (sym (in_four text rest bytes e s.short)) ∙ w.3) w.2 in
    let b = t.all (take (4 - length front) other ++ w.0) w.1 (sym (append_assoc front (take (4 - length front) other) w.0) ∙ ap (λ (x : List ℕ). x ++ w.0) (sym (in_four front other bytes f t.short)) ∙ w.3) w.2 in
    fault_is {A = A} h g (sym b ∙ a)

-- what reading gives, where it gives neither a value nor the want of more
by_read : {A : Type 0} (r : Result (A × List ℕ) ReadStop) → ((a : A) (rest : List ℕ) → r ≡ Ok (a, rest) → ⊥) → ((wanted : MissingBytes) → r ≡ Err (More wanted) → ⊥) → (g : Fault) → ((h : Fault) → r ≡ Err (Bad h) → h ≡ g) → r ≡ Err (Bad g)
by_read (Ok x) no_value no_more g same = absurd (no_value x.0 x.1 refl)
by_read (Err (More wanted)) no_value no_more g same = absurd (no_more wanted refl)
by_read (Err (Bad h)) no_value no_more g same = rw (same h refl) refl

kind_spoiled : {A : Type 0} (K : WordKind A) → IsKind K → (text rest : List ℕ) (g : Fault) → IsBytes (text ++ rest) → IsNoWordOf K text g → judged_word K (split_at_word (text ++ rest)) ≡ Err (Bad g)
kind_spoiled {A = A} K k text rest g fits s =
    by_read (judged_word K (split_at_word (text ++ rest)))
    (λ x r e.
    let p = kind_sound K (text ++ rest) r x fits e in
    let len : length p.text ≡ 4 = ap length p.spelled.text_is in
    let four : take 4 (text ++ rest) ≡ p.text = in_four p.text r (text ++ rest) p.whole (omega arith) ∙ past_four p.text r len in
    let shown : text ++ take (4 - length text) rest ≡ to_be_bytes w32 p.spelled.n = sym (in_four text rest (text ++ rest) refl s.short) ∙ four ∙ p.spelled.text_is in
    let no : fault_as A g ≡ judged_as x = sym (s.all (take (4 - length text) rest) p.spelled.n shown p.spelled.fits) ∙ p.spelled.is in
    absurd (cc no))
    (λ wanted e.
    let p = kind_more K k (text ++ rest) wanted fits e in
    let shown : text ++ (rest ++ p.behind) ≡ to_be_bytes w32 p.spelled.n = sym (append_assoc text rest p.behind) ∙ p.spelled.text_is in
    let no : fault_as A g ≡ judged_as p.value = sym (s.all (rest ++ p.behind) p.spelled.n shown p.spelled.fits) ∙ p.spelled.is in
    absurd (cc no))
    g
    (λ h e. let p = kind_bad K k (text ++ rest) h fits e in same_fault K (text ++ rest) text rest p.front p.rest g h fits refl p.whole s p.spoiled)

pub kind-laws : {A : Type 0} (K : WordKind A) → IsKind K → Lawful (word_of_kind K)
kind-laws {A = A} K k = record {
  reads = record {
    sound = kind_sound K;
    complete = kind_complete K;
    more = kind_more K k;
    wants = λ bytes behind wanted x fits e s. kind_wants K bytes behind wanted x e s;
    waits = λ bytes more wanted fits e still. one_waits {A = A} (λ (t : List ℕ). judged_word K (split_at_word t)) bytes more wanted e (kind_wanted K bytes wanted e).1 still;
    bad = kind_bad K k;
    spoiled = kind_spoiled K k;
    bytes = λ text x s. subst IsBytes (sym s.text_is) (word_bytes s.n);
  };
  some = kind_some K k;
}

-- ---- the numbers from one to another

between_bad : (low high : ℕ) (given : Fault) (least most : ℕ) (fault : Fault) → (between low high given).part least most ≡ Some fault → (n : ℕ) → least ≤ n → n ≤ most → (between low high given).judge n ≡ Err fault
between_bad low high given least most fault h n from to = grind (arith, nat_tests)

between_less : (low high : ℕ) (given : Fault) (least most least' most' : ℕ) (fault : Fault) → (between low high given).part least most ≡ Some fault → least ≤ least' → least' ≤ most' → most' ≤ most → (between low high given).part least' most' ≡ Some fault
between_less low high given least most least' most' fault h p q r = grind (arith, nat_tests)

between_judge : (low high : ℕ) (given : Fault) (n : ℕ) → low ≤ n → n ≤ high → (between low high given).judge n ≡ Ok n
between_judge low high given n p q = grind (arith, nat_tests)

between_inside : (low high : ℕ) (given : Fault) (least most : ℕ) → (between low high given).part least most ≡ None → (low ≤ most) × (least ≤ high)
between_inside low high given least most h = (grind (arith, nat_tests), grind (arith, nat_tests))

between_more : (low high : ℕ) (given : Fault) → low ≤ high → (k least most : ℕ) → least ≡ 256 * k → least + 255 ≤ most → most < 2 ^ 32 → (between low high given).part least most ≡ None → Among (between low high given) least most
between_more low high given ordered k least most e wide fits h =
    let inside = between_inside low high given least most h in
    elim (cases_lt low least) [
      | inl lt ↦ record { n = least; value = least; above = omega arith; below = omega arith; is = between_judge low high given least (omega arith) inside.1 }
      | inr le ↦ record { n = low; value = low; above = le; below = inside.0; is = between_judge low high given low (omega arith) ordered }
    ]

between_nothing : (low high : ℕ) (given : Fault) → low < 2 ^ 32 → (between low high given).part 0 4294967295 ≡ None
between_nothing low high given fits = grind (arith, nat_tests)

pub between-kind : (low high : ℕ) (given : Fault) → low ≤ high → low < 2 ^ 32 → IsKind (between low high given)
between-kind low high given ordered fits = record {
  more = between_more low high given ordered;
  bad = between_bad low high given;
  less = between_less low high given;
  nothing = between_nothing low high given fits;
}
