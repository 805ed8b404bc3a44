-- What is read by a program, and the record of it.
use Rattle.std.specs.Prelude.{ℕ, ◌≡◌, ⊤, Bool, true, IfSome, List, [], ◌∷◌, ◌++◌, Option, None, Some, option_map, take}
use Rattle.dispatch.specs.ConfigLines.{TellsConfig}
use Rattle.dispatch.specs.declared.config_line.ConfigLine.{ConfigLine}

-- ---- what is there

-- the text on standard input, and that in the file of each path, where they are told
pub record InputTexts : Type 0 where
  pub standard : Option (List ℕ)
  pub file : List ℕ → Option (List ℕ)

abbrev pub untold_texts : InputTexts
untold_texts = record { standard = None; file = λ _. None }

-- where a text is read: on standard input, or in the file of a path
pub data InputName : Type 0 where
  StandardText : InputName
  FileText : List ℕ → InputName

-- the text that is there, where it is told
abbrev pub told_text : InputTexts → InputName → Option (List ℕ)
told_text texts StandardText = texts.standard
told_text texts (FileText path) = texts.file path

-- ---- the calls on inputs

-- one reading of a text: where, how many bytes were wanted at most, and those that came; none where it failed
pub record TextRead : Type 0 where
  pub name : InputName
  pub most : ℕ
  pub gave : Option (List ℕ)

abbrev pub text_read : InputName → ℕ → Option (List ℕ) → TextRead
text_read name most gave = record { name = name; most = most; gave = gave }

-- one page file that was asked for, and whether it was opened
pub record PageAsked : Type 0 where
  pub path : List ℕ
  pub is_open : Bool

abbrev pub page_asked : List ℕ → Bool → PageAsked
page_asked path is_open = record { path = path; is_open = is_open }

-- one call on inputs
pub data InputCall : Type 0 where
  ReadText : TextRead → InputCall
  AskedPage : PageAsked → InputCall

-- **what is seen of inputs (`SeenInputs`, `with_calls`)**: which text is where, as far as the inputs tell it; and, if
-- they are recorded, the calls on them in their order, with what each gave. New calls stand behind those before.
pub record SeenInputs : Type 0 where
  pub texts : InputTexts
  pub calls : Option (List InputCall)

abbrev pub unseen_inputs : SeenInputs
unseen_inputs = record { texts = untold_texts; calls = None }

abbrev pub calls_behind : List InputCall → Option (List InputCall) → Option (List InputCall)
calls_behind more calls = option_map (λ all. all ++ more) calls

abbrev pub with_calls : List InputCall → SeenInputs → SeenInputs
with_calls more was = record { texts = was.texts; calls = calls_behind more was.calls }

-- of recorded inputs is seen what they tell by themselves, and all calls of the record
abbrev pub recorded_seen : List InputCall → SeenInputs → SeenInputs
recorded_seen calls inner = record { texts = inner.texts; calls = Some calls }

-- **one reading (`ReadsText`)**: it is recorded; and what came is the first bytes of the text that is there, where the
-- inputs tell that.
pub record ReadsText (read : TextRead) (was now : SeenInputs) : Type 0 where
  pub noted : now ≡ with_calls (ReadText read ∷ []) was
  pub told : IfSome read.gave (λ text. IfSome (told_text was.texts read.name) (λ all. text ≡ take read.most all))

-- the page file of that path was asked for
abbrev pub AsksPage : PageAsked → SeenInputs → SeenInputs → Type 0
AsksPage asked was now = now ≡ with_calls (AskedPage asked ∷ []) was

-- **a page's reader (`TellsPageFile`)**: where the text of its file is told, it keeps that one.
abbrev pub TellsPageFile : Option (List ℕ) → Bool → List ℕ → Type 0
TellsPageFile None kept text = ⊤
TellsPageFile (Some all) kept text = (kept ≡ true) × (text ≡ all)

-- ---- a config

-- **the lines of a config that is read (`IsConfigRead`)**: all that its text tells of, of which 4,194,433 bytes are
-- read at most.
pub record IsConfigRead (name : InputName) (was now : SeenInputs) (lines : List ConfigLine) : Type 0 where
  pub text : List ℕ
  pub read : ReadsText (text_read name 4194433 (Some text)) was now
  pub tells : TellsConfig text lines
