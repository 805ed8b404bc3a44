-- A SESSION HAS FOUR WORDS AT MOST.
use Rattle.std.proofs.Common.{◌≡◌, ◌∙◌, ◌≤◌, ◌<◌, ℕ, Bool, true, false, Option, Some, None, refl, sym, ap, subst, cond, eqb, arith}
use Rattle.std.proofs.lemmas.Bool.{ne_eqb}
use Rattle.system_model.specs.AbstractMessages.{Challenge, AbstractRequest, Open, Authorize, Describe, Get, Set, Parameters, Start, Cancel, Close}
use Rattle.system_model.specs.Devices.{Make}
use Rattle.system_model.specs.AbstractDevices.{AbstractDevice}
use Rattle.system_model.specs.Daemon.{Environment}
use Rattle.system_model.specs.SystemStates.{with_entry}
use Rattle.system_model.specs.AbstractSessions.{AddressedRequest, AbstractSession, or_word, least_free_word, words_after, open_call, allow_call, words_left, closes, word_call, plain_call, awaited_call, WordsAreFour}

abbrev IsBelow : Option ℕ → Type 0
IsBelow None = Unit {0}
IsBelow (Some n) = n < 4

or_below : (o : Option ℕ) (n : ℕ) (later : Option ℕ) → n < 4 → IsBelow later → IsBelow (or_word o n later)
or_below None n later h l = h
or_below (Some d) n later h l = l

free_below : (words : ℕ → Option ℕ) → IsBelow (least_free_word words)
free_below words =
    or_below (words 0) 0 _ (omega arith) (or_below (words 1) 1 _ (omega arith) (or_below (words 2) 2 _ (omega arith) (or_below (words 3) 3 None (omega arith) tt)))

put_below : (words : ℕ → Option ℕ) (n w : ℕ) (x : Option ℕ) → n < 4 → 4 ≤ w → words w ≡ None → with_entry words n x w ≡ None
put_below words n w x h l e = ap (λ (b : Bool). cond b x (words w)) (ne_eqb w n (λ z. let f : w < 4 = subst (λ (y : ℕ). y < 4) (sym z) h in absurd (omega arith))) ∙ e

after_below : (b : Bool) (words : ℕ → Option ℕ) (n d w : ℕ) → n < 4 → 4 ≤ w → words w ≡ None → words_after b words n d w ≡ None
after_below true words n d w h l e = put_below words n w (Some d) h l e
after_below false words n d w h l e = e

left_none : (b : Bool) (words : ℕ → Option ℕ) (n w : ℕ) → words w ≡ None → words_left b words n w ≡ None
left_none true words n w e = by (eqb w n)
  where
    by : (x : Bool) → cond x None (words w) ≡ None
    by true = refl
    by false = e
left_none false words n w e = e

open_four : (i : ℕ) (make : ℕ → Make) (table : ℕ → AbstractDevice) (s : AbstractSession) (x : Environment) (d : ℕ) (o : Option ℕ) (w : ℕ) → IsBelow o → 4 ≤ w → s.words w ≡ None → (open_call i make table s x d o).session.words w ≡ None
open_four i make table s x d None w h l e = e
open_four i make table s x d (Some n) w h l e = after_below _ s.words n d w h l e

allow_four : (i : ℕ) (make : ℕ → Make) (table : ℕ → AbstractDevice) (s : AbstractSession) (x : Environment) (sent : Challenge) (d : ℕ) (c : Challenge) (o : Option ℕ) (w : ℕ) → IsBelow o → 4 ≤ w → s.words w ≡ None →
    (allow_call i make table s x sent d c o).session.words w ≡ None
allow_four i make table s x sent d c None w h l e = e
allow_four i make table s x sent d c (Some n) w h l e = after_below _ s.words n d w h l e

word_four : (i : ℕ) (make : ℕ → Make) (table : ℕ → AbstractDevice) (s : AbstractSession) (x : Environment) (q : AbstractRequest) (n : ℕ) (o : Option ℕ) (w : ℕ) → s.words w ≡ None → (word_call i make table s x q n o).session.words w ≡ None
word_four i make table s x q n None w e = e
word_four i make table s x q n (Some d) w e = left_none (closes q) s.words n w e

plain_four : (i : ℕ) (make : ℕ → Make) (table : ℕ → AbstractDevice) (s : AbstractSession) (x : ℕ → Environment) (call : AddressedRequest) (q : AbstractRequest) (w : ℕ) → 4 ≤ w → s.words w ≡ None → (plain_call i make table s x call q).session.words w ≡ None
plain_four i make table s x call Open w l e = open_four i make table s (x call.place) call.place (least_free_word s.words) w (free_below s.words) l e
plain_four i make table s x call Describe w l e = word_four i make table s (x call.place) Describe call.word (s.words call.word) w e
plain_four i make table s x call (Get n) w l e = word_four i make table s (x call.place) (Get n) call.word (s.words call.word) w e
plain_four i make table s x call (Set n v) w l e = word_four i make table s (x call.place) (Set n v) call.word (s.words call.word) w e
plain_four i make table s x call Parameters w l e = word_four i make table s (x call.place) Parameters call.word (s.words call.word) w e
plain_four i make table s x call Start w l e = word_four i make table s (x call.place) Start call.word (s.words call.word) w e
plain_four i make table s x call Cancel w l e = word_four i make table s (x call.place) Cancel call.word (s.words call.word) w e
plain_four i make table s x call Close w l e = word_four i make table s (x call.place) Close call.word (s.words call.word) w e
plain_four i make table s x call q w l e = e

awaited_four : (i : ℕ) (make : ℕ → Make) (table : ℕ → AbstractDevice) (s : AbstractSession) (x : ℕ → Environment) (sent : Challenge) (d : ℕ) (q : AbstractRequest) (w : ℕ) → 4 ≤ w → s.words w ≡ None → (awaited_call i make table s x sent d q).session.words w ≡ None
awaited_four i make table s x sent d (Authorize c) w l e = allow_four i make table s (x d) sent d c (least_free_word s.words) w (free_below s.words) l e
awaited_four i make table s x sent d q w l e = e

pub words_four : WordsAreFour
words_four i make table s x None call w l e = plain_four i make table s x call call.request w l e
words_four i make table s x (Some (sent, d)) call w l e = awaited_four i make table s x sent d call.request w l e
