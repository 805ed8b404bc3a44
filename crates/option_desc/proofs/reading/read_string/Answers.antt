use Rattle.std.proofs.Common.{◌≡◌, List, ℕ}
use Rattle.std.specs.Prelude.{Result, Ok, Err}
use Rattle.sane_fixed.specs.declared.text.TextFault.{TextFault}
use Rattle.sane_fixed.specs.declared.text.TextFault.TheVariants.{Nul, NoMem}
use Rattle.option_desc.proofs.ReadLaws.{text_taken, text_some}
use Rattle.option_desc.proofs.reading.read_string.Goals as goal

no_fault : (own : List ℕ) → ◌≡◌ {A = Result (List ℕ) TextFault} (Ok own) (Err Nul) → ⊥
no_fault own e = (cc)

other_fault : (fault : TextFault) → fault ≡ NoMem → ◌≡◌ {A = Result (List ℕ) TextFault} (Err fault) (Err Nul) → ⊥
other_fault fault is e = (cc)

pub returns-in-Ok : goal.returns-in-Ok
returns-in-Ok c = text_taken c.args.text.now c.in-Ok.text c.in-Ok.ensures.ok (λ clean. no_fault c.in-Ok.text (c.in-Ok.ensures.nul.1 clean))

pub returns-in-Err-NoMem : goal.returns-in-Err-NoMem
returns-in-Err-NoMem c = text_some c.args.text.now (λ clean. other_fault c.in-Err-NoMem.field-0 c.in-Err-NoMem.field-0-is (c.in-Err-NoMem.ensures.nul.1 clean))
