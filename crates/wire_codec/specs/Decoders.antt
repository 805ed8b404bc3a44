-- What a decoder holds, what it tells of a reading, and what it stands for.
use Rattle.std.specs.Prelude.{◌≡◌, ℕ, List, [], ◌∷◌, ◌++◌, Option, Some, None, Result, Ok, Err}
use Rattle.wire_format.specs.declared.fault.Fault.{Fault}
use Rattle.wire_format.specs.declared.fault.Fault.TheVariants as faults
use Rattle.wire_format.specs.declared.fault.MissingBytes.{MissingBytes}
use Rattle.wire_format.specs.declared.fault.ReadStop.{ReadStop}
use Rattle.wire_format.specs.declared.fault.ReadStop.TheVariants.{More, Bad}
use Rattle.wire_format.specs.declared.fault.ReadError.{ReadError}
use Rattle.wire_format.specs.declared.fault.ReadError.TheVariants as read_errors
use Rattle.wire_format.specs.Format.{Format}
use Rattle.wire_format.specs.Limit.{limited_format, IsFirstFault}
use Rattle.wire_message.specs.declared.message_fault.WireFault.{WireFault}
use Rattle.wire_message.specs.declared.message_fault.WireFault.TheVariants as wire
use Rattle.wire_message.specs.declared.message.Procedure.{Procedure}
use Rattle.wire_message.specs.declared.message.Request.{Request}
use Rattle.wire_message.specs.declared.message.Reply.{Reply}
use Rattle.wire_message.specs.Faults.{wire_fault}
use Rattle.wire_message.specs.Message.{message_limit, request, reply}

-- **what a decoder stands for (`DecoderState`, `HasDecoded`)**: the bytes no message was taken from and the fault; the
-- bytes fed are the spellings of the messages taken, and then these.
pub record DecoderState : Type 0 where
  pub rest : List ℕ
  pub fault : Option WireFault

-- the same bytes, and a fault from here on
abbrev pub with_decoder_fault : DecoderState → WireFault → DecoderState
with_decoder_fault old fault = record { rest = old.rest; fault = Some fault }

-- A call's result is what the reading gives, or that memory ran out. A fault is kept.
abbrev pub DecodesTo : {A : Type 0} → Result (Option A) WireFault → DecoderState → DecoderState
    → Result (A × List ℕ) ReadStop → Type 0
DecodesTo {A = A} (Ok (Some x)) old new read = (new.fault ≡ None) × (read ≡ Ok (x, new.rest))
DecodesTo {A = A} (Ok None) old new read = (new ≡ old) × ((wanted : MissingBytes) × (read ≡ Err (More wanted)))
DecodesTo {A = A} (Err wire.NoMem) old new read = new ≡ with_decoder_fault old wire.NoMem
DecodesTo {A = A} (Err wire.BadCode) old new read = (new ≡ with_decoder_fault old wire.BadCode)
    × (read ≡ Err (Bad faults.BadCode))
DecodesTo {A = A} (Err wire.BadValue) old new read = (new ≡ with_decoder_fault old wire.BadValue)
    × (read ≡ Err (Bad faults.BadValue))
DecodesTo {A = A} (Err wire.TooLong) old new read = (new ≡ with_decoder_fault old wire.TooLong)
    × (read ≡ Err (Bad faults.TooLong))

-- the fault is that of the first word or byte at which no spelling stands
pub record IsFaultOf {A : Type 0} (n : ℕ) (F : Format A) (bytes : List ℕ) (given : WireFault) : Type 0 where
  pub fault : Fault
  pub given_is : given ≡ wire_fault fault
  pub first : IsFirstFault n F bytes fault

-- ---- what was fed, and what was taken

pub data TakenMessage : Type 0 where
  TakenRequest : Request → TakenMessage
  TakenReply : Procedure → Reply → TakenMessage

abbrev pub IsSpelled : List ℕ → TakenMessage → Type 0
IsSpelled text (TakenRequest r) = (limited_format message_limit request).spells text r
IsSpelled text (TakenReply procedure r) = (limited_format message_limit (reply procedure)).spells text r

-- the text is spellings of the messages, one after the other
abbrev pub AreSpelled : List TakenMessage → List ℕ → Type 0
AreSpelled [] text = text ≡ []
AreSpelled (m ∷ ms) text = (front : List ℕ) × (back : List ℕ) × (text ≡ front ++ back) × IsSpelled front m
    × AreSpelled ms back

-- the bytes fed are the spellings of the messages taken, and then the rest
pub record HasDecoded (fed : List ℕ) (taken : List TakenMessage) (w : DecoderState) : Type 0 where
  pub text : List ℕ
  pub whole : fed ≡ text ++ w.rest
  pub spelled : AreSpelled taken text

-- what an error of reading makes of a decoder
abbrev pub Stops : {A : Type 0} → Result (Option A) WireFault → DecoderState → DecoderState → ReadError → Type 0
Stops result old new read_errors.Memory = (result ≡ Err wire.NoMem) × (new ≡ with_decoder_fault old wire.NoMem)
Stops result old new (read_errors.Stop (More wanted)) = (result ≡ Ok None) × (new ≡ old)
Stops result old new (read_errors.Stop (Bad fault)) = (result ≡ Err (wire_fault fault))
    × (new ≡ with_decoder_fault old (wire_fault fault))
