-- Replies as texts: none begins another, what is a part of one is not garbled, and each procedure but EXIT has one.
use Rattle.std.proofs.Common.{◌≡◌, ◌≢◌, ◌⊎◌, inl, inr, ◌∙◌, ℕ, ◌<◌, ◌≤◌, List, [], ◌∷◌, ◌++◌, Some, None, Ok, length, refl, sym, ap, subst, append_assoc, append-nil, arith, length-append}
use Rattle.std.specs.Int.{to_be_bytes, w32}
use Rattle.sane_fixed.specs.declared.byte_order.ByteOrder.TheVariants.{Little}
use Rattle.sane_fixed.specs.declared.params.Params.{Params}
use Rattle.sane_fixed.specs.declared.status.Status.TheVariants as statuses
use Rattle.wire_format.specs.Format.{Format, Parts, map_format, places}
use Rattle.wire_format.specs.WordKinds.{WordKind, IsWordOf}
use Rattle.wire_format.specs.Lawful.{BeginsSpelling, ReaderIsExact}
use Rattle.wire_format.specs.Limit.{limited_format, IsNoStart, NeedsMore}
use Rattle.wire_format.proofs.Combining.{no_prefix, ok_rest, ok_value, read_as}
use Rattle.wire_message.specs.declared.message.Procedure.{Procedure}
use Rattle.wire_message.specs.declared.message.Procedure.TheVariants as procedures
use Rattle.wire_message.specs.declared.message.Reply.{Reply}
use Rattle.wire_message.specs.Kinds as kinds
use Rattle.wire_message.specs.declared.message.WireValue.TheVariants as values
use Rattle.wire_message.specs.Message.{descriptors, devices, devices_of, frame_at, is_set, lines_at, message_limit, params, reply, status, string, text_format_of, word, words_value}
use Rattle.wire_message.proofs.Messages.{reply_reads}
use Rattle.client_replies.specs.declared.progress.Progress.{Progress}
use Rattle.client_replies.specs.declared.progress.Progress.TheVariants as stages
use Rattle.net_client.specs.ReplyPieces.{IsReply, awaited_procedure}
use Rattle.net_client.proofs.Heeding.{takes_some}

abbrev pub Spells : Procedure → List ℕ → Reply → Type 0
Spells p text r = (limited_format message_limit (reply p)).spells text r

-- ---- one text at the front of another

-- of two texts at the front of the same bytes both are one, and so are their values
same_front : {A : Type 0} (F : Format A) → ReaderIsExact F → (a b c d : List ℕ) (x y : A) → a ++ b ≡ c ++ d → F.spells a x → F.spells c y → (x ≡ y) × (b ≡ d)
same_front F f a b c d x y e s t =
    let read : read_as x b ≡ read_as y d = sym (f.complete a b x s) ∙ (ap F.read e ∙ f.complete c d y t) in
    (ok_value x y b d read, ok_rest x y b d read)

pub one_front : (p : Procedure) (a b c d : List ℕ) (x y : Reply) → a ++ b ≡ c ++ d → Spells p a x → Spells p c y → (x ≡ y) × (b ≡ d)
unfolding limited_format
one_front p a b c d x y e s t = same_front (reply p) (reply_reads p) a b c d x y e s.1 t.1

uncons : (x y : ℕ) (a b : List ℕ) → x ∷ a ≡ y ∷ b → (x ≡ y) × (a ≡ b)
uncons x y a b e = (cc, cc)

-- of two fronts of the same bytes one is a front of the other
pub fronts : (a b c d : List ℕ) → a ++ b ≡ c ++ d → ((x : List ℕ) × (c ≡ a ++ x) × (b ≡ x ++ d)) ⊎ ((y : List ℕ) × (a ≡ c ++ y))
fronts [] b c d e = inl (c, refl, e)
fronts (x ∷ a) b [] d e = inr (x ∷ a, refl)
fronts (x ∷ a) b (y ∷ c) d e =
    let p = uncons x y (a ++ b) (c ++ d) e in
    elim (fronts a b c d p.1) [
      | inl t ↦ inl (t.0, ap (λ (k : ℕ). k ∷ c) (sym p.0) ∙ ap (λ (l : List ℕ). x ∷ l) t.1, t.2)
      | inr t ↦ inr (t.0, ap (λ (k : ℕ). k ∷ a) p.0 ∙ ap (λ (l : List ℕ). y ∷ l) t.1)
    ]

garbled_end : (p : Procedure) (rest more : List ℕ) (r : Reply) → length (rest ++ more) ≤ message_limit → (reply p).spells (rest ++ more) r → (message_limit < length rest) ⊎ ((behind : List ℕ) (a : Reply) → (reply p).spells (rest ++ behind) a → ⊥) → ⊥
garbled_end p rest more r within s (inl past) = omega (arith, within, past, length-append rest more)
garbled_end p rest more r within s (inr never) = never more r s

garbled_by : (p : Procedure) (rest left front back : List ℕ) (r : Reply) → Spells p front r → IsNoStart message_limit (reply p) rest → ((x : List ℕ) × (front ≡ rest ++ x) × (left ≡ x ++ back)) ⊎ ((y : List ℕ) × (rest ≡ front ++ y)) → ⊥
unfolding limited_format
garbled_by p rest left front back r s none (inl h) = garbled_end p rest h.0 r (subst (λ (l : List ℕ). length l ≤ message_limit) h.1 s.0) (subst (λ (l : List ℕ). (reply p).spells l r) h.1 s.1) none.1
garbled_by p rest left front back r s none (inr h) = none.0 front h.0 r h.1 s

-- what has a text at its front, or is a front of one, is not garbled
pub not_garbled : (p : Procedure) (rest left front back : List ℕ) (r : Reply) → rest ++ left ≡ front ++ back → Spells p front r → IsNoStart message_limit (reply p) rest → ⊥
not_garbled p rest left front back r e s none = garbled_by p rest left front back r s none (fronts rest left front back e)

none_left : (behind : List ℕ) (back : List ℕ) → back ++ behind ≡ [] → 0 < length behind → ⊥
none_left behind back e proper = let sum : length (back ++ behind) ≡ 0 = ap length e in omega (arith, sum, length-append back behind, proper)

-- where more of a reply is wanted it has not all come
pub more_left : (p : Procedure) (rest left front back : List ℕ) (r : Reply) → rest ++ left ≡ front ++ back → Spells p front r → NeedsMore message_limit (reply p) rest → left ≢ []
unfolding limited_format
more_left p rest left front back r e s wants none =
    let rest_is : rest ≡ front ++ back = sym (append-nil rest) ∙ (ap (λ (l : List ℕ). rest ++ l) (sym none) ∙ e) in
    let all : rest ++ wants.behind ≡ front ++ (back ++ wants.behind) = ap (λ (l : List ℕ). l ++ wants.behind) rest_is ∙ append_assoc front back wants.behind in
    none_left wants.behind back (no_prefix (reply p) (reply_reads p) front (back ++ wants.behind) r wants.value s.1 (subst (λ (l : List ℕ). (reply p).spells l wants.value) all wants.spelled)) wants.proper

-- ---- no bytes begin a reply

abbrev zeros : List ℕ
zeros = to_be_bytes w32 0

-- a word that is 0
zero_word : {A : Type 0} (K : WordKind A) (x : A) → K.judge 0 ≡ Ok x → IsWordOf K zeros x
zero_word K x e = record { n = 0; text_is = refl; fits = omega arith; is = e }

two : {A B : Type 0} (F : List ℕ → A → Type 0) (G : A → List ℕ → B → Type 0) (front back : List ℕ) (a : A) (b : B) → F front a → G a back b → Parts F G (front ++ back) b
two F G front back a b f g = record { first = a; front = front; back = back; whole = refl; in_front = f; behind = g }

begun : {A : Type 0} (F : Format A) (text : List ℕ) (a : A) → F.spells text a → BeginsSpelling F []
begun F text a s = record { behind = text; value = a; spelled = s }

abbrev nothing : List ℕ
nothing = zeros ++ []

empty_string : string.spells nothing []
unfolding string text_format_of
empty_string = two _ _ zeros [] 0 [] (zero_word _ 0 refl) (refl, refl)

no_devices : devices.spells nothing []
unfolding devices devices_of
no_devices = two _ _ zeros [] 0 [] (zero_word _ 0 refl) (refl, refl)

no_descriptors : descriptors.spells nothing []
unfolding descriptors places
no_descriptors = two _ _ zeros [] 0 [] (zero_word _ 0 refl) (refl, refl)

no_words : words_value.spells (zeros ++ (zeros ++ ([] ++ []))) (values.Words [])
unfolding words_value places
no_words = two _ _ zeros _ 0 _ (zero_word _ 0 refl) (two _ _ zeros _ 0 _ (zero_word _ 0 refl) (two _ _ [] [] [] _ (refl, refl) (refl, refl)))

good : status.spells nothing statuses.Good
good = two _ _ zeros [] 0 statuses.Good (zero_word _ 0 refl) (refl, refl)

gray : (p : Params) → (map_format {B = Params} (λ (d : ℕ). record { format = frame_at 0; last_frame = is_set 0; bytes_per_line = 0; pixels_per_line = 0; lines = lines_at 0; depth = d }) word).spells nothing p → params.spells (zeros ++ (zeros ++ (zeros ++ (zeros ++ (zeros ++ nothing))))) p
unfolding params
gray p s = two _ _ zeros _ 0 p (zero_word _ 0 refl) (two _ _ zeros _ 0 p (zero_word _ 0 refl) (two _ _ zeros _ 0 p (zero_word _ 0 refl) (two _ _ zeros _ 0 p (zero_word _ 0 refl) (two _ _ zeros _ 0 p (zero_word _ 0 refl) s))))

little : IsWordOf kinds.order (to_be_bytes w32 4660) Little
little = record { n = 4660; text_is = refl; fits = omega arith; is = refl }

begins : (p : Procedure) → (p ≡ procedures.Exit → ⊥) → BeginsSpelling (reply p) []
unfolding reply
begins procedures.Init n = begun _ (nothing ++ nothing) _ (two _ _ nothing nothing statuses.Good _ good (two _ _ zeros [] 0 _ (zero_word _ 0 refl) (refl, refl)))
begins procedures.GetDevices n = begun _ (nothing ++ (nothing ++ [])) _ (two _ _ nothing (nothing ++ []) statuses.Good _ good (two _ _ nothing [] [] _ no_devices (refl, refl)))
begins procedures.Open n = begun _ (nothing ++ (zeros ++ (nothing ++ []))) _ (two _ _ nothing _ statuses.Good _ good (two _ _ zeros _ 0 _ (zero_word _ 0 refl) (two _ _ nothing [] [] _ empty_string (refl, refl))))
begins procedures.GetOptionDescriptors n = begun _ (nothing ++ []) _ (two _ _ nothing [] [] _ no_descriptors (refl, refl))
begins procedures.ControlOption n =
    begun _ (nothing ++ (zeros ++ (zeros ++ ((zeros ++ (zeros ++ ([] ++ []))) ++ (nothing ++ []))))) _
    (two _ _ nothing _ statuses.Good _ good (two _ _ zeros _ 0 _ (zero_word _ 0 refl) (two _ _ zeros _ 0 _ (zero_word _ 0 refl) (two _ _ _ _ (values.Words []) _ no_words (two _ _ nothing [] [] _ empty_string (refl, refl))))))
begins procedures.GetParameters n =
    begun _ (nothing ++ ((zeros ++ (zeros ++ (zeros ++ (zeros ++ (zeros ++ nothing))))) ++ [])) _ (two _ _ nothing _ statuses.Good _ good (two _ _ _ [] _ _ (gray _ (two _ _ zeros [] 0 _ (zero_word _ 0 refl) (refl, refl))) (refl, refl)))
begins procedures.Start n =
    begun _ (nothing ++ (zeros ++ (to_be_bytes w32 4660 ++ (nothing ++ [])))) _
    (two _ _ nothing _ statuses.Good _ good (two _ _ zeros _ 0 _ (zero_word _ 0 refl) (two _ _ (to_be_bytes w32 4660) _ Little _ little (two _ _ nothing [] [] _ empty_string (refl, refl)))))
begins procedures.Exit n = absurd (n refl)
begins q n = begun _ nothing _ (two _ _ zeros [] 0 _ (zero_word _ 0 refl) (refl, refl))

-- no job waits for a reply to EXIT
awaits_some : (progress : Progress) (p : Procedure) → awaited_procedure progress ≡ Some p → p ≡ procedures.Exit → ⊥
awaits_some stages.Greeting p e x = absurd (let clash : Some procedures.Init ≡ Some procedures.Exit = e ∙ ap Some x in cc)
awaits_some stages.Listing p e x = absurd (let clash : Some procedures.GetDevices ≡ Some procedures.Exit = e ∙ ap Some x in cc)
awaits_some stages.Opening p e x = absurd (let clash : Some procedures.Open ≡ Some procedures.Exit = e ∙ ap Some x in cc)
awaits_some (stages.Allowing resource answer) p e x = absurd (let clash : Some procedures.Authorize ≡ Some procedures.Exit = e ∙ ap Some x in cc)
awaits_some stages.Reopening p e x = absurd (let clash : Some procedures.Open ≡ Some procedures.Exit = e ∙ ap Some x in cc)
awaits_some stages.Describing p e x = absurd (let clash : Some procedures.GetOptionDescriptors ≡ Some procedures.Exit = e ∙ ap Some x in cc)
awaits_some (stages.Putting n kind name value) p e x = absurd (let clash : Some procedures.ControlOption ≡ Some procedures.Exit = e ∙ ap Some x in cc)
awaits_some (stages.Getting n kind size) p e x = absurd (let clash : Some procedures.ControlOption ≡ Some procedures.Exit = e ∙ ap Some x in cc)
awaits_some (stages.Starting first) p e x = absurd (let clash : Some procedures.Start ≡ Some procedures.Exit = e ∙ ap Some x in cc)
awaits_some (stages.Shaping port order) p e x = absurd (let clash : Some procedures.GetParameters ≡ Some procedures.Exit = e ∙ ap Some x in cc)
awaits_some (stages.Imaging port opened) p e x = absurd (let clash : None ≡ Some p = e in cc)
awaits_some stages.Turning p e x = absurd (let clash : None ≡ Some p = e in cc)
awaits_some stages.Over p e x = absurd (let clash : None ≡ Some p = e in cc)

-- where nothing has come it is not garbled
pub none_garbled : (progress : Progress) (p : Procedure) → awaited_procedure progress ≡ Some p → IsNoStart message_limit (reply p) [] → ⊥
none_garbled progress p e none = by_start p (begins p (awaits_some progress p e)) none.1
  where
    by_start : (p : Procedure) → BeginsSpelling (reply p) [] → (message_limit < 0) ⊎ ((behind : List ℕ) (a : Reply) → (reply p).spells behind a → ⊥) → ⊥
    by_start p b (inl past) = omega (arith, past)
    by_start p b (inr never) = never b.behind b.value b.spelled

-- ---- replies to what is waited for

-- both are to the same procedure
pub one_reply : (progress : Progress) (a b c d : List ℕ) (x y : Reply) → a ++ b ≡ c ++ d → IsReply progress a x → IsReply progress c y → (x ≡ y) × (b ≡ d)
one_reply progress a b c d x y e s t =
    let same : t.procedure ≡ s.procedure = (let one : Some t.procedure ≡ Some s.procedure = sym t.awaited_is ∙ s.awaited_is in cc) in
    one_front s.procedure a b c d x y e s.spelled (subst (λ (p : Procedure). Spells p c y) same t.spelled)

pub reply_of : (progress : Progress) (p : Procedure) (text : List ℕ) (r : Reply) → awaited_procedure progress ≡ Some p → IsReply progress text r → Spells p text r
reply_of progress p text r e is =
    let same : is.procedure ≡ p = (let one : Some is.procedure ≡ Some p = sym is.awaited_is ∙ e in cc) in
    subst (λ (q : Procedure). Spells q text r) same is.spelled

-- none has no bytes
pub reply_some : (progress : Progress) (back : List ℕ) (text : List ℕ) (r : Reply) → text ++ back ≡ [] → IsReply progress text r → ⊥
reply_some progress back text r e is =
    let less : length back < 0 = takes_some is.procedure [] back r (record { text = text; whole = sym e; spelled = is.spelled }) in
    omega (arith, less)
