-- What a decoder's answer says of the bytes.
use Rattle.std.proofs.Common.{◌≡◌, ◌≢◌, ℕ, List, [], ◌∷◌, ◌++◌, Option, Some, None, Result, Ok, Err, refl, sym, ap, ◌∙◌, append_assoc}
use Rattle.std.specs.Prelude.{IfOk, IfErr, IfSome}
use Rattle.std.proofs.lemmas.List.{append-nil}
use Rattle.wire_format.specs.declared.fault.Fault.TheVariants as faults
use Rattle.wire_format.specs.Format.{Format, IsBytes}
use Rattle.wire_format.specs.Lawful.{SpellsFront, ReaderIsExact}
use Rattle.wire_format.specs.Limit.{limited_format, NeedsMore, IsNoStart}
use Rattle.wire_format.proofs.ReadLimits.{limited_sound, limited_more, limited_bad, limited_first}
use Rattle.wire_message.specs.declared.message_fault.WireFault.{WireFault}
use Rattle.wire_message.specs.declared.message_fault.WireFault.TheVariants as wire
use Rattle.wire_codec.specs.Decoders.{DecoderState, DecodesTo, IsFaultOf, TakenMessage, IsSpelled, AreSpelled, HasDecoded}

-- a kept fault is no message, nor the want of one
pub taken_always : {M : Type 0} (fault : Option WireFault) (result : Result M WireFault) (P : M → Type 0) (Q : WireFault → Type 0) → IfSome fault (λ f. (result ≡ Err f) × Q f) → (fault ≡ None → IfOk result P) → IfOk result P
taken_always None result P Q kept free = free refl
taken_always (Some f) result P Q kept free = rw kept.0 tt

pub none_always : {X : Type 0} (fault : Option WireFault) (result : Result (Option X) WireFault) (P : Type 0) (Q : WireFault → Type 0) → IfSome fault (λ f. (result ≡ Err f) × Q f) → (fault ≡ None → result ≡ Ok None → P) → result ≡ Ok None → P
none_always None result P Q kept free e = free refl e
none_always (Some f) result P Q kept free e = absurd (cc (kept.0))

pub tells_taken : {A : Type 0} (n : ℕ) (F : Format A) → ReaderIsExact F → (result : Result (Option A) WireFault) (old new : DecoderState) → IsBytes old.rest
    → DecodesTo result old new ((limited_format n F).read old.rest)
    → IfOk result (λ m. IfSome m (λ r. (new.fault ≡ None) × SpellsFront (limited_format n F) old.rest new.rest r))
tells_taken n F f (Ok (Some x)) old new fits t = (t.0, limited_sound n F f old.rest new.rest x fits t.1)
tells_taken n F f (Ok None) old new fits t = tt
tells_taken n F f (Err e) old new fits t = tt

pub tells_none : {A : Type 0} (n : ℕ) (F : Format A) → ReaderIsExact F → (result : Result (Option A) WireFault) (old new : DecoderState) → IsBytes old.rest
    → DecodesTo result old new ((limited_format n F).read old.rest) → result ≡ Ok None
    → (new ≡ old) × NeedsMore n F old.rest
tells_none n F f (Ok (Some x)) old new fits t e = absurd cc
tells_none n F f (Ok None) old new fits t e = (t.0, limited_more n F f old.rest t.1.0 fits t.1.1)
tells_none n F f (Err fault) old new fits t e = absurd cc

pub tells_first : {A : Type 0} (n : ℕ) (F : Format A) → ReaderIsExact F → (result : Result (Option A) WireFault) (old new : DecoderState)
    → DecodesTo result old new ((limited_format n F).read old.rest)
    → IfErr result (λ f. f ≢ wire.NoMem → IsNoStart n F old.rest)
tells_first n F f (Ok m) old new t = tt
tells_first n F f (Err wire.NoMem) old new t = λ other. absurd (other refl)
tells_first n F f (Err wire.BadCode) old new t = λ other. limited_bad n F f old.rest _ t.1
tells_first n F f (Err wire.BadValue) old new t = λ other. limited_bad n F f old.rest _ t.1
tells_first n F f (Err wire.TooLong) old new t = λ other. limited_bad n F f old.rest _ t.1

pub tells_which : {A : Type 0} (n : ℕ) (F : Format A) → ReaderIsExact F → (result : Result (Option A) WireFault) (old new : DecoderState) → IsBytes old.rest
    → DecodesTo result old new ((limited_format n F).read old.rest)
    → IfErr result (λ f. f ≢ wire.NoMem → IsFaultOf n F old.rest f)
tells_which n F f (Ok m) old new fits t = tt
tells_which n F f (Err wire.NoMem) old new fits t = λ other. absurd (other refl)
tells_which n F f (Err wire.BadCode) old new fits t = λ other. record { fault = faults.BadCode; given_is = refl; first = limited_first n F f old.rest _ fits t.1 }
tells_which n F f (Err wire.BadValue) old new fits t = λ other. record { fault = faults.BadValue; given_is = refl; first = limited_first n F f old.rest _ fits t.1 }
tells_which n F f (Err wire.TooLong) old new fits t = λ other. record { fault = faults.TooLong; given_is = refl; first = limited_first n F f old.rest _ fits t.1 }

-- ---- what was fed, and what was taken

spelled_more : (taken : List TakenMessage) (text front : List ℕ) (m : TakenMessage) → AreSpelled taken text → IsSpelled front m → AreSpelled (taken ++ m ∷ []) (text ++ front)
spelled_more [] text front m s t = (front, [], ap (λ (x : List ℕ). x ++ front) s ∙ sym (append-nil front), t, refl)
spelled_more (first ∷ taken) text front m s t =
    (s.0, s.1 ++ front, ap (λ (x : List ℕ). x ++ front) s.2 ∙ append_assoc s.0 s.1 front, s.3, spelled_more taken s.1 front m s.4 t)

fed_taken : (fed : List ℕ) (taken : List TakenMessage) (old new : DecoderState) (m : TakenMessage) (text : List ℕ) → HasDecoded fed taken old → old.rest ≡ text ++ new.rest → IsSpelled text m → HasDecoded fed (taken ++ m ∷ []) new
fed_taken fed taken old new m text h whole s = record {
  text = h.text ++ text;
  whole = h.whole ∙ ap (λ (x : List ℕ). h.text ++ x) whole ∙ sym (append_assoc h.text text new.rest);
  spelled = spelled_more taken h.text text m h.spelled s;
}

pub result_taken : {A : Type 0} (n : ℕ) (F : Format A) (message : A → TakenMessage) → ((text : List ℕ) (r : A) → (limited_format n F).spells text r → IsSpelled text (message r)) → (result : Result (Option A) WireFault)
    (fed : List ℕ) (taken : List TakenMessage) (old new : DecoderState) → HasDecoded fed taken old
    → IfOk result (λ m. IfSome m (λ r. (new.fault ≡ None) × SpellsFront (limited_format n F) old.rest new.rest r))
    → IfOk result (λ m. IfSome m (λ r. HasDecoded fed (taken ++ message r ∷ []) new))
result_taken n F message is (Ok (Some x)) fed taken old new h t = fed_taken fed taken old new (message x) t.1.text h t.1.whole (is t.1.text x t.1.spelled)
result_taken n F message is (Ok None) fed taken old new h t = tt
result_taken n F message is (Err e) fed taken old new h t = tt
