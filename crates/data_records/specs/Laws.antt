-- What laws of this crate say.
use Rattle.std.specs.Prelude.{◌≡◌, ℕ, List}
use Rattle.data_records.specs.declared.records.RecordPhase.{RecordPhase as AnyPhase}
use Rattle.data_records.specs.declared.records.RecordPhase.TheVariants.{Head, Ended}
use Rattle.data_records.specs.Records.{IsRecords, Piece, AreSteps, all_used, all_given}

-- steps that used records have ended with their status and gave their payload
abbrev pub RecordsEndSo : Type 0
RecordsEndSo = (pieces : List Piece) (new : AnyPhase) (payload : List ℕ) (status : ℕ) → AreSteps Head pieces new
    → IsRecords (all_used pieces) payload status → (new ≡ Ended status) × (all_given pieces ≡ payload)
