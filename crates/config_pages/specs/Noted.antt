-- What the notes of calls on inputs say.
use Rattle.std.specs.Prelude.{ℕ, Option, None, Some, List, option_map}
use Rattle.config_pages.specs.InputTexts.{InputCall, InputName, text_read, page_asked}
use Rattle.config_pages.specs.InputTexts.InputName.{StandardText, FileText}
use Rattle.config_pages.specs.InputTexts.InputCall.{ReadText, AskedPage}
use Rattle.config_pages.specs.declared.input_notes.TextNote.{TextNote}
use Rattle.config_pages.specs.declared.input_notes.PageNote.{PageNote}

-- standard input, where no path is named
abbrev pub name_of_path : Option (List ℕ) → InputName
name_of_path None = StandardText
name_of_path (Some path) = FileText path

abbrev pub text_noted : TextNote → InputCall
text_noted note = ReadText (text_read (name_of_path (option_map (λ path. path.now) note.path)) note.most
    (option_map (λ text. text.now) note.gave))

abbrev pub page_noted : PageNote → InputCall
page_noted note = AskedPage (page_asked note.path.now note.is_open)
