-- What an encoder's answer says of the message.
use Rattle.std.proofs.Common.{◌≡◌, ◌≢◌, ℕ, Bool, true, false, List, Result, Ok, Err, refl, sym, ◌∙◌}
use Rattle.std.specs.Prelude.{◌↔◌, IfOk, IfErr, Option, Some, None, if◌then◌else◌}
use Rattle.wire_format.specs.declared.fault.Fault.TheVariants as faults
use Rattle.wire_format.specs.Format.{Format}
use Rattle.wire_format.specs.Limit.{limited_format}
use Rattle.wire_format.specs.Writer.{Writer, WritesFormat, text_or_fault, encoding_or_fault, write_limited, IsLong}
use Rattle.wire_format.proofs.Writers.{limited-writes, answers_spelling, limited_bad_value, answers_no_code}
use Rattle.wire_message.specs.declared.message_fault.WireFault.{WireFault}
use Rattle.wire_message.specs.declared.message_fault.WireFault.TheVariants as wire
use Rattle.wire_writing.specs.RequestWriting.{EncodesAs}

pub answer_spelled : {V A : Type 0} (view : V → List ℕ) (n : ℕ) (F : Format A) (W : Writer A) (a : A) → WritesFormat F W a → (result : Result V WireFault) → EncodesAs view result (encoding_or_fault (write_limited n W) a)
    → IfOk result (λ v. (limited_format n F).spells (view v) a)
answer_spelled view n F W a f (Ok v) t = answers_spelling (limited_format n F) (write_limited n W) a (limited-writes n F W a f) (view v) t
answer_spelled view n F W a f (Err e) t = tt

-- what is answered of a text that passes a limit, or of one that does not
long_tells : (long : Bool) (text : Option (List ℕ)) (bytes : List ℕ) → (if long then Err faults.TooLong else text_or_fault text) ≡ Ok bytes → long ≡ false
long_tells true text bytes e = absurd (let clash : Err faults.TooLong ≡ Ok bytes = e in cc)
long_tells false text bytes e = refl

long_told : (long : Bool) (text : Option (List ℕ)) → (if long then Err faults.TooLong else text_or_fault text) ≡ Err faults.TooLong → long ≡ true
long_told true text e = refl
long_told false (Some bytes) e = absurd (let clash : Ok bytes ≡ Err faults.TooLong = e in cc)
long_told false None e = absurd (let clash : Err faults.BadValue ≡ Err faults.TooLong = e in cc)

no_longer : {B : Type 0} (b : Bool) → b ≡ false → b ≡ true → B
no_longer b e f = let clash : true ≡ false = sym f ∙ e in absurd (cc clash)

-- TooLong is answered just where a limit is passed
pub answer_long : {V A : Type 0} (view : V → List ℕ) (n : ℕ) (F : Format A) (W : Writer A) (a : A) (Past : Type 0) → WritesFormat F W a → (IsLong n W a ↔ Past) → (result : Result V WireFault) → EncodesAs view result (encoding_or_fault (write_limited n W) a)
    → result ≢ Err wire.NoMem → (result ≡ Err wire.TooLong) ↔ Past
answer_long view n F W a Past f same (Ok v) t = λ memory. ((λ e. absurd (let clash : Ok v ≡ Err wire.TooLong = e in cc)), (λ past. no_longer ((write_limited n W).long a) (long_tells _ _ (view v) t) (same.1 past)))
answer_long view n F W a Past f same (Err wire.BadCode) t = λ memory. absurd (answers_no_code (write_limited n W) a t)
answer_long view n F W a Past f same (Err wire.BadValue) t = λ memory. let b = limited_bad_value n F W a f t in ((λ e. absurd (let clash : Err wire.BadValue ≡ Err wire.TooLong = e in cc)), (λ past. no_longer ((write_limited n W).long a) b.0 (same.1 past)))
answer_long view n F W a Past f same (Err wire.TooLong) t = λ memory. ((λ e. same.0 (long_told _ _ t)), (λ past. refl))
answer_long view n F W a Past f same (Err wire.NoMem) t = λ memory. absurd (memory refl)

pub answer_bad : {V A : Type 0} (view : V → List ℕ) (n : ℕ) (F : Format A) (W : Writer A) (a : A) (Past : Type 0) → WritesFormat F W a → (IsLong n W a ↔ Past) → (result : Result V WireFault) → EncodesAs view result (encoding_or_fault (write_limited n W) a)
    → IfErr result (λ e. e ≢ wire.NoMem → e ≢ wire.TooLong → (e ≡ wire.BadValue) × (¬ Past) × ((text : List ℕ) → F.spells text a → ⊥))
answer_bad view n F W a Past f same (Ok v) t = tt
answer_bad view n F W a Past f same (Err wire.BadCode) t = λ memory long. absurd (answers_no_code (write_limited n W) a t)
answer_bad view n F W a Past f same (Err wire.BadValue) t = λ memory long. let b = limited_bad_value n F W a f t in (refl, (λ l. let x : true ≡ false = sym (same.1 l) ∙ b.0 in absurd (cc x)), b.1)
answer_bad view n F W a Past f same (Err wire.TooLong) t = λ memory long. absurd (long refl)
answer_bad view n F W a Past f same (Err wire.NoMem) t = λ memory long. absurd (memory refl)
