-- Data records: a payload and a status as bytes, and what stands behind each place of them.
use Rattle.std.specs.Prelude.{◌≡◌, ℕ, zero, suc, ◌<◌, ◌≤◌, ◌↔◌, ◌==◌, List, [], ◌∷◌, ◌++◌, length, take, slice_range}
use Rattle.std.specs.Prelude.{if◌then◌else◌}
use Rattle.std.specs.List.{AllByRecursion}
use Rattle.std.specs.Int.{w32, to_be_bytes}
use Rattle.data_records.specs.declared.records.RecordPhase.{RecordPhase}
use Rattle.data_records.specs.declared.records.RecordPhase.TheVariants as phases
use Rattle.data_records.specs.declared.records.Step.{Step}
use Rattle.data_records.specs.declared.records.Step.TheVariants as steps

-- a counted record
abbrev pub counted_record : List ℕ → List ℕ
counted_record body = to_be_bytes w32 (length body) ++ body

abbrev pub all_counted : List (List ℕ) → List ℕ
all_counted [] = []
all_counted (body ∷ bodies) = counted_record body ++ all_counted bodies

abbrev pub joined_bodies : List (List ℕ) → List ℕ
joined_bodies [] = []
joined_bodies (body ∷ bodies) = body ++ joined_bodies bodies

-- what ends the records
abbrev pub end_record : ℕ → List ℕ
end_record status = 255 ∷ 255 ∷ 255 ∷ 255 ∷ status ∷ []

-- **data records (`IsRecords`)**: counted records, whose bodies joined are the payload, then FFFFFFFF and the status.
pub record IsRecords (text payload : List ℕ) (status : ℕ) : Type 0 where
  pub bodies : List (List ℕ)
  pub short : AllByRecursion (λ body. length body < 4294967295) bodies
  pub text_is : text ≡ all_counted bodies ++ end_record status
  pub payload_is : payload ≡ joined_bodies bodies

-- inside a body of which so many bytes are left
pub record IsInBody (left : ℕ) (text payload : List ℕ) (status : ℕ) : Type 0 where
  pub body : List ℕ
  pub other : List ℕ
  pub rest : List ℕ
  pub long : length body ≡ left
  pub text_is : text ≡ body ++ rest
  pub payload_is : payload ≡ body ++ other
  pub behind : IsRecords rest other status

-- the text is what a reader that stands there has still to come, with that payload and status
abbrev pub RecordsContinue : RecordPhase → List ℕ → List ℕ → ℕ → Type 0
RecordsContinue phases.Head text payload status = IsRecords text payload status
RecordsContinue (phases.Head1 a) text payload status = IsRecords (a ∷ text) payload status
RecordsContinue (phases.Head2 a b) text payload status = IsRecords (a ∷ b ∷ text) payload status
RecordsContinue (phases.Head3 a b c) text payload status = IsRecords (a ∷ b ∷ c ∷ text) payload status
RecordsContinue (phases.Body left) text payload status = IsInBody left text payload status
RecordsContinue phases.Status text payload status = (text ≡ status ∷ []) × (payload ≡ [])
RecordsContinue (phases.Ended found) text payload status = (text ≡ []) × (payload ≡ []) × (status ≡ found)

abbrev pub HasEnded : RecordPhase → Type 0
HasEnded (phases.Ended found) = Unit {0}
HasEnded _ = ⊥

abbrev pub head_phase : ℕ → RecordPhase
head_phase zero = phases.Head
head_phase (suc n) = if suc n == 4294967295 then phases.Status else phases.Body (suc n)

abbrev pub rest_of_body : ℕ → RecordPhase
rest_of_body zero = phases.Head
rest_of_body (suc left) = phases.Body (suc left)

-- what was used is the text up to where the reader stands now, and what was given is the payload up to there
abbrev pub CarriesRecords : RecordPhase → RecordPhase → List ℕ → List ℕ → Type 0
CarriesRecords old new used given = (text payload : List ℕ) (status : ℕ) →
    RecordsContinue old (used ++ text) payload status ↔ ((more : List ℕ) × (payload ≡ given ++ more)
    × RecordsContinue new text more status)

abbrev pub ReaderSteps : RecordPhase → RecordPhase → List ℕ → ℕ → Step → Type 0
ReaderSteps old new piece used steps.More = CarriesRecords old new (take used piece) []
ReaderSteps old new piece used (steps.Bytes from to) = (from ≤ to) × (to ≤ used)
    × CarriesRecords old new (take used piece) (slice_range piece from to)
ReaderSteps old new piece used (steps.End status) = (new ≡ phases.Ended status)
    × CarriesRecords old new (take used piece) []

-- a reader that stands behind the status tells it
abbrev pub TellsEnd : RecordPhase → Step → Type 0
TellsEnd (phases.Ended status) step = step ≡ steps.End status
TellsEnd phases.Head step = Unit {0}
TellsEnd (phases.Head1 a) step = Unit {0}
TellsEnd (phases.Head2 a b) step = Unit {0}
TellsEnd (phases.Head3 a b c) step = Unit {0}
TellsEnd (phases.Body left) step = Unit {0}
TellsEnd phases.Status step = Unit {0}

-- in a body some of it is left
abbrev pub IsRecordPhase : RecordPhase → Type 0
IsRecordPhase (phases.Body left) = 0 < left
IsRecordPhase phases.Head = Unit {0}
IsRecordPhase (phases.Head1 a) = a < 256
IsRecordPhase (phases.Head2 a b) = (a < 256) × (b < 256)
IsRecordPhase (phases.Head3 a b c) = (a < 256) × (b < 256) × (c < 256)
IsRecordPhase phases.Status = Unit {0}
IsRecordPhase (phases.Ended found) = Unit {0}

-- ---- over any pieces

-- what a step used of the bytes, and what it gave out
pub record Piece : Type 0 where
  pub used : List ℕ
  pub given : List ℕ

-- steps, one from where the one before it stopped
abbrev pub AreSteps : RecordPhase → List Piece → RecordPhase → Type 0
AreSteps old [] new = old ≡ new
AreSteps old (piece ∷ pieces) new = (between : RecordPhase) × CarriesRecords old between piece.used piece.given
    × AreSteps between pieces new

abbrev pub all_used : List Piece → List ℕ
all_used [] = []
all_used (piece ∷ pieces) = piece.used ++ all_used pieces

abbrev pub all_given : List Piece → List ℕ
all_given [] = []
all_given (piece ∷ pieces) = piece.given ++ all_given pieces
