-- What saned tells of itself, in place of serving.
use Rattle.std.specs.Prelude.{ℕ, ◌++◌, if◌then◌else◌, List, [], ◌∷◌, Option, Some, None, codes}
use Rattle.std.specs.Str.{bytes_eq}
use Rattle.saned_cli.specs.declared.own_texts.OwnText.{OwnText}
use Rattle.saned_cli.specs.declared.own_texts.OwnText.TheVariants.{Help, Version}

-- the text that a word asks for
abbrev pub asked_text : List ℕ → Option OwnText
asked_text word =
    if bytes_eq word (codes "--help") then Some Help
    else if bytes_eq word (codes "--version") then Some Version else None

-- **texts of its own (`text_asked`, `own_text`)**: the words of a command line ask for one where they are the program's
-- name and just one word, --help or --version; how it is called, and its version.
abbrev pub text_asked : List (List ℕ) → Option OwnText
text_asked (name ∷ word ∷ []) = asked_text word
text_asked words = None

abbrev pub help_text : List ℕ
help_text =
    codes "usage: saned --config PATH [--users PATH --seed HEX64] [--port N] [--data-ports FROM-TO]\n"
    ++ (codes "             [--byte-order little|big] [--pad-strings] [--sessions N] [--idle-turns N]\n"
    ++ codes "Serves the scanners of a config to clients on 127.0.0.1; saned(8) tells each option.\n")

abbrev pub own_text : OwnText → List ℕ
own_text Help = help_text
own_text Version = codes "saned (Jufteard) 1.0.0\n"
