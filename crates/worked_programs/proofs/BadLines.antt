-- A config whose second line has no dots per inch.
use Rattle.std.proofs.Common.{◌≡◌, ◌∙◌, ℕ, List, [], ◌∷◌, refl, sym, ap, subst, ◌≤◌, arith, inl, inr, ◌⊎◌, None}
use Rattle.std.specs.Prelude.{codes, decimal}
use Rattle.std.specs.Fmt.{digits}
use Rattle.std.specs.List.{AllZip}
use Rattle.std.proofs.lemmas.Fmt.{decimal_injective}
use Rattle.text_lines.specs.Lines.{lines_of}
use Rattle.page_picture.specs.declared.scene.DeviceKind.TheVariants.{Flatbed}
use Rattle.dispatch.specs.ConfigLines.{DeviceFields, HasConfigFault, HasConfigReason, HasItsPages, TellsConfig, TellsDevice, TellsFields, fields_of, kind_name}
use Rattle.dispatch.specs.ConfigReasons.{config_reason_text}
use Rattle.dispatch.specs.declared.config_fault.ConfigReason.{ConfigReason}
use Rattle.dispatch.specs.declared.config_fault.ConfigReason.TheVariants as reasons
use Rattle.dispatch.specs.declared.config_line.ConfigLine.{ConfigLine}
use Rattle.scan_job.specs.declared.job.Task.TheVariants.{Scan}
use Rattle.scanimage_cli.specs.Ending.{config_line_text, ending_line, exit_status}
use Rattle.scanimage_cli.specs.HowEnded.{before_telling}
use Rattle.scanimage_cli.specs.Inputs.{IsLineRefusal}
use Rattle.scanimage_cli.specs.Whole.{ProgramState}
use Rattle.scanimage_cli.specs.declared.ending.Ending.{Ending}
use Rattle.scanimage_cli.specs.declared.ending.Ending.TheVariants.{BadCommandLine, CannotRead, Config, Page, Ended}
use Rattle.scanimage_cli.specs.declared.planning.Destination.TheVariants.{StandardOutput}
use Rattle.worked_programs.specs.BadLine.{BadLineIsTold, IsNeverDone, bad_config, bad_line_told}
use Rattle.worked_programs.specs.Begun.{HoldsLine, no_first_line}
use Rattle.worked_programs.specs.DemoDot.{demo_words}
use Rattle.worked_programs.proofs.Basics.{head_is, tail_is, two_zip}
use Rattle.worked_programs.proofs.ConfigTexts.{line_bytes, telling_lines}
use Rattle.worked_programs.proofs.DemoDot.{demo_good, demo_line, demo_page}
use Rattle.worked_programs.proofs.DotPrinted.{demo_plans}
use Rattle.worked_programs.proofs.Flatbeds.{dot_options}
use Rattle.worked_programs.proofs.Steps.{ComesTo, comes_to, done_of}
use Rattle.worked_programs.proofs.Steps.ComesTo.{ByMemory, ByLine, ByPage, ByTask}
use Rattle.worked_programs.proofs.TwoLines.{fault_of_two}
use Rattle.worked_programs.proofs.Wants.{lacks_first, tells}

abbrev bad_second : List ℕ
bad_second = codes "flatbed 1 0 hex:50350a3220310a3235350a0ac8"

bad_lines : lines_of bad_config ≡ demo_line ∷ bad_second ∷ []
unfolding lines_of
bad_lines = refl

bad_telling : telling_lines bad_config ≡ (1, demo_line) ∷ (2, bad_second) ∷ []
unfolding lines_of
bad_telling = refl

bad_fields : fields_of bad_second ≡ kind_name Flatbed ∷ decimal 1 ∷ decimal 0 ∷ demo_page ∷ []
unfolding fields_of digits
bad_fields = refl

no_dots : (n : ℕ) → 1 ≤ n → n ≤ 1200 → decimal 0 ≡ decimal n → ⊥
no_dots n some most same = let zero_is : 0 ≡ n = decimal_injective 0 n (omega arith) (omega (arith, most)) same in omega (arith, zero_is, some)

untold : (number : ℕ) (told : DeviceFields) → TellsFields number bad_second told → ⊥
untold number told t =
    let both : kind_name told.kind ∷ t.index_field ∷ t.dpi_field ∷ told.pages ≡ kind_name Flatbed ∷ decimal 1 ∷ decimal 0 ∷ demo_page ∷ [] =
    sym t.fields.fields.fields ∙ bad_fields in
    let dots : t.dpi_field ≡ decimal 0 = head_is _ _ _ _ (tail_is _ _ _ _ (tail_is _ _ _ _ both)) in
    no_dots told.dpi t.dpi_is.1 t.dpi_is.2 (sym dots ∙ t.dpi_is.0)

no_config : (lines : List ConfigLine) → TellsConfig bad_config lines → ⊥
no_config lines told =
    let zipped = subst (λ (ls : List (ℕ × List ℕ)). AllZip (λ (l : ℕ × List ℕ)
    (device : ConfigLine). TellsDevice l.0 l.1 device) ls lines) bad_telling told.told in
    let two = two_zip (λ (l : ℕ × List ℕ) (device : ConfigLine). TellsDevice l.0 l.1 device) (1, demo_line) (2, bad_second) lines zipped in
    untold 2 _ two.4.tells

pub never_done : IsNeverDone demo_words bad_config
never_done was now given h =
    let d = done_of demo_words bad_config None dot_options Scan StandardOutput was now demo_plans refl given h in no_config d.lines d.tells

-- ---- why it is refused

fields_are : (fields : List (List ℕ)) → fields_of bad_second ≡ fields → fields ≡ kind_name Flatbed ∷ decimal 1 ∷ decimal 0 ∷ demo_page ∷ []
fields_are fields is = sym is ∙ bad_fields

only_dots : (devices : List ConfigLine) (reason : ConfigReason) → HasConfigReason reason devices 2 bad_second → reason ≡ reasons.BadDpi
only_dots devices reasons.TooManyLines bad = absurd (omega (arith, bad))
only_dots devices reasons.LineTooLong bad = absurd (omega (arith, bad.1))
only_dots devices reasons.BadByte bad = absurd (bad.2 (line_bytes bad_second refl))
only_dots devices reasons.WrongFields bad = absurd (bad.2 (subst HasItsPages (sym (fields_are bad.0 bad.1.fields))
    (record { some = omega arith; most = omega arith })))
only_dots devices reasons.UnknownKind bad = absurd (bad.5 Flatbed (head_is _ _ _ _ (fields_are _ bad.4.fields.fields)))
only_dots devices reasons.BadIndex bad = absurd (bad.5 1 (head_is _ _ _ _ (tail_is _ _ _ _ (fields_are _ bad.4.fields.fields)), omega arith, omega arith))
only_dots devices reasons.BadDpi bad = refl
only_dots devices reasons.SameName bad = absurd (untold 2 bad.0 bad.1)
only_dots devices reasons.TooManyDevices bad = absurd (untold 2 bad.0 bad.1)
only_dots devices reasons.NoMem bad = absurd (untold 2 bad.0 bad.1)

-- 65, and one of these two lines
abbrev BadTold : Ending → Type 0
BadTold ending = (exit_status ending ≡ 65) × ((ending_line ending ≡ bad_line_told) ⊎ (ending_line ending ≡ no_first_line))

second_told : (number : ℕ) (reason : ConfigReason) → number ≡ 2 → reason ≡ reasons.BadDpi
    → config_line_text number (config_reason_text reason) ≡ bad_line_told
unfolding digits
second_told number reason at why = ap (λ (n : ℕ). config_line_text n (config_reason_text reason)) at
    ∙ ap (λ (r : ConfigReason). config_line_text 2 (config_reason_text r)) why

by_fault : (number : ℕ) (reason : ConfigReason) → HasConfigFault bad_config number reason
    → (config_line_text number (config_reason_text reason) ≡ bad_line_told) ⊎ (config_line_text number (config_reason_text reason) ≡ no_first_line)
by_fault number reason fault = elim (fault_of_two bad_config demo_line bad_second Flatbed 0 26
    (demo_page ∷ []) bad_lines refl demo_good number reason fault) [
      | inl both ↦ inr (lacks_first number reason both)
      | inr of ↦ inl (second_told number reason of.at (only_dots (of.device ∷ []) reason of.bad))
    ]

by_refusal : (ending : Ending) → IsLineRefusal bad_config ending → BadTold ending
by_refusal BadCommandLine refusal = absurd refusal
by_refusal (CannotRead path) refusal = absurd refusal
by_refusal (Config fault) refusal = (refl, by_fault fault.line fault.reason refusal)
by_refusal (Page line why) refusal = absurd refusal
by_refusal (Ended s why) refusal = absurd refusal

bad_told : (was now : ProgramState) (ending : Ending) → ComesTo bad_config None dot_options Scan StandardOutput was now ending → BadTold ending
bad_told was now ending (ByMemory lines told memory) = absurd (no_config lines told)
bad_told was now ending (ByLine refusal) = by_refusal ending refusal
bad_told was now ending (ByPage lines told before behind why none is) = absurd (no_config lines told)
bad_told was now ending (ByTask plan p lines told texts devices made ends) = absurd (no_config lines told)

pub bad_line_is_told : BadLineIsTold
bad_line_is_told was now status errors begun read ended =
    let bad = bad_told was (before_telling was now) ended.ending
    (comes_to demo_words bad_config None dot_options Scan StandardOutput was (before_telling was now) ended.ending demo_plans read ended.cause) in
    let holds = tells was now (ending_line ended.ending) errors begun ended.told in (
      ended.status_is ∙ bad.0,
      elim bad.1 [
        | inl second ↦ inl (subst (λ (l : List ℕ). HoldsLine l now errors) second holds)
        | inr first ↦ inr (subst (λ (l : List ℕ). HoldsLine l now errors) first holds)
      ],
    )
