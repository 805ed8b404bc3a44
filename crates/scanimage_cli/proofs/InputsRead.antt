-- What was read of the inputs that a plan names.
use Rattle.std.proofs.Common.{arith, ℕ, ◌≡◌, List, [], Option, Some, None, Result, Ok, Err, IfErr, IfOk, refl, subst, sym, true≢false}
use Rattle.std.specs.Prelude.{Contains, IsErr, is_ok}
use Rattle.sane_fixed.specs.Text.{IsText}
use Rattle.dispatch.specs.declared.config_line.ConfigLine.{ConfigLine}
use Rattle.config_pages.specs.ConfigReading.{AreReadLines}
use Rattle.config_pages.specs.InputTexts.{InputName, ReadsText, SeenInputs, text_read}
use Rattle.config_pages.specs.InputTexts.InputName.{FileText}
use Rattle.scanimage_cli.specs.Inputs.{AreLinesOf, IsPasswordIn, IsReadPassword, RefusesConfigAt, RefusesNamedConfig, name_of_input, name_read}
use Rattle.scanimage_cli.specs.declared.ending.Ending.{Ending}
use Rattle.scanimage_cli.specs.declared.planning.Input.{Input}

pub lines_at : {A E : Type 0} (items : A → List ConfigLine) (config : Option Input) (input : Input) (at : InputName) (gave : Option (List ℕ)) (was now : SeenInputs) (result : Result A E) → config ≡ Some input → at ≡ name_read input
    → ReadsText (text_read at 4194433 gave) was now → IfOk result (λ lines. AreReadLines gave (items lines)) → IfOk result (λ lines. AreLinesOf config was now (items lines))
lines_at items config input at None was now (Ok lines) is named read tells = absurd tells
lines_at items config input at (Some text) was now (Ok lines) is named read tells =
    subst (λ c. AreLinesOf c was now (items lines)) (sym is) (record { text = text; read = subst (λ n. ReadsText (text_read n 4194433 (Some text)) was now) named read; tells = tells })
lines_at items config input at gave was now (Err ending) is named read tells = tt

pub refused_at : {A : Type 0} (config : Option Input) (input : Input) (at : InputName) (name : List ℕ) (gave : Option (List ℕ)) (was now : SeenInputs) (result : Result A Ending) → config ≡ Some input → at ≡ name_read input → name ≡ name_of_input input
    → ReadsText (text_read at 4194433 gave) was now → IfErr result (RefusesNamedConfig name gave) → IfErr result (RefusesConfigAt config was now)
refused_at config input at name gave was now (Ok lines) is named told read why = tt
refused_at config input at name gave was now (Err ending) is named told read why =
    subst (λ c. RefusesConfigAt c was now ending) (sym is)
    (record { gave = gave; read = subst (λ n. ReadsText (text_read n 4194433 gave) was now) named read; why = subst (λ n. RefusesNamedConfig n gave ending) told why })

pub password_at : {E : Type 0} (file : Option (List ℕ)) (path : List ℕ) (at : InputName) (gave : Option (List ℕ)) (was now : SeenInputs) (result : Result (List ℕ) E) → file ≡ Some path → at ≡ FileText path
    → ReadsText (text_read at 1026 gave) was now → IfOk result (IsReadPassword gave) → IfOk result (IsPasswordIn file was now)
password_at file path at None was now (Ok password) is named read line = absurd line
password_at file path at (Some text) was now (Ok password) is named read line =
    subst (λ f. IsPasswordIn f was now password) (sym is) (record { text = text; read = subst (λ n. ReadsText (text_read n 1026 (Some text)) was now) named read; line = line })
password_at file path at gave was now (Err ending) is named read line = tt

-- an empty text is taken
pub empty_is_taken : {T E A : Type 0} (P : A → Type 0) (bytes : List ℕ) (text : Result T E) (taken : Result T A) → bytes ≡ [] → (IsErr text → ¬ IsText bytes) → is_ok taken ≡ is_ok text → IfErr taken P
empty_is_taken P bytes (Err fault) taken none nul same =
    absurd (nul refl (λ has. let none_in : Contains [] 0 = subst (λ b. Contains b 0) none has in absurd (omega (arith, none_in.1))))
empty_is_taken P bytes (Ok text) (Ok value) none nul same = tt
empty_is_taken P bytes (Ok text) (Err fault) none nul same = absurd (true≢false (sym same))
