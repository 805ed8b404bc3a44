-- Words of the program that have options are taken, and read as these.
use Rattle.std.proofs.Common.{ℕ, ◌≡◌, ◌∙◌, Bool, true, false, List, [], ◌∷◌, Option, Some, None, refl, sym, ap, subst, true≢false}
use Rattle.std.specs.Prelude.{IfSome, codes, decimal, option_map}
use Rattle.std.specs.Str.{bytes_eq}
use Rattle.std.proofs.lemmas.Option.{none-some}
use Rattle.clap.specs.Lexer.{without_minus}
use Rattle.clap.specs.Takes.{takes, values_pass}
use Rattle.clap.specs.Walk.{Text, first_of, one_of, rows_of}
use Rattle.clap.specs.Words.{HasMatchesOf, found_of, matches_of}
use Rattle.clap.specs.declared.parser.matches.ArgMatches.{ArgMatches}
use Rattle.scanimage_cli.specs.CutOptions.{is_flag_given, value_given}
use Rattle.scanimage_cli.specs.KnownOptions.{IsFoundOf, flag_word, name_of, scanimage_app}
use Rattle.scanimage_cli.specs.ScanimageOptions.{AreScanimageOptions, IsPort, count_named, has_flag, program_option_value}
use Rattle.scanimage_cli.specs.WordCut.{is_flag, long_word, names_option, repeats_option}
use Rattle.scanimage_cli.specs.declared.options.Options.{Options}
use Rattle.scanimage_cli.specs.declared.program_option.ProgramOption.{ProgramOption}
use Rattle.scanimage_cli.specs.declared.program_option.ProgramOption.TheVariants.{ListDevices, AllOptions, DontScan, DeviceName, OutputFile, Config, Net, Port, DialFirst, User, PasswordFile, Batch, BatchCount}
use Rattle.scanimage_cli.specs.declared.word_cut.Item.{Item}
use Rattle.scanimage_cli.specs.declared.word_cut.Item.TheVariants.{Flag, Valued, Measured, Setting}
use Rattle.scanimage_cli.proofs.ClapItems.{AreTaken, all_words, program_matches, program_taken, same_option}
use Rattle.scanimage_cli.proofs.ClapNumbers.{count_is, count_passes, port_passes, same_some}
use Rattle.scanimage_cli.proofs.ClapRows.{all_rows, count_text, first_value_is, flag_text, one_text_is, port_text, swapped, value_text}
use Rattle.scanimage_cli.proofs.ClapWalk.{neither_of, rule_of_option}
use Rattle.scanimage_cli.proofs.CutLaw.{flags_same, values_same}
use Rattle.scanimage_cli.proofs.CutPieces.{AreSound, AreSplitPieces}

-- ---- the values of ports and counts

abbrev Passes : ProgramOption → Text → Type 0
Passes option value = values_pass (rule_of_option option) (value ∷ []) ≡ true

abbrev AllPass : ProgramOption → List Item → Type 0
AllPass option items = (value : Text) → value_given option items ≡ Some value → Passes option value

passes_as : (option : ProgramOption) (value : Text) → is_flag option ≡ false → (option ≡ Port → Passes Port value)
    → (option ≡ BatchCount → Passes BatchCount value) → Passes option value
passes_as ListDevices value none port count = absurd (true≢false none)
passes_as AllOptions value none port count = absurd (true≢false none)
passes_as DontScan value none port count = absurd (true≢false none)
passes_as DeviceName value none port count = refl
passes_as OutputFile value none port count = refl
passes_as Config value none port count = refl
passes_as Net value none port count = refl
passes_as Port value none port count = port refl
passes_as DialFirst value none port count = absurd (true≢false none)
passes_as User value none port count = refl
passes_as PasswordFile value none port count = refl
passes_as Batch value none port count = absurd (true≢false none)
passes_as BatchCount value none port count = count refl

none_given : (option : ProgramOption) (items : List Item) → names_option option items ≡ false → value_given option items ≡ None
none_given option [] named = refl
none_given option (Flag other ∷ items) named = none_given option items
    (neither_of (bytes_eq (long_word option) (long_word other)) (names_option option items) named).1
none_given option (Valued other value ∷ items) named =
    let p = neither_of (bytes_eq (long_word option) (long_word other)) (names_option option items) named in
    rw (swapped option other p.0 (bytes_eq (long_word other) (long_word option)) refl) (none_given option items p.1)
none_given option (Measured geometry value ∷ items) named = none_given option items named
none_given option (Setting name value ∷ items) named = none_given option items named

-- what stands behind a piece is given with it too
given_before : (option other : ProgramOption) (first value : Text) (items : List Item) → names_option other items ≡ false
    → value_given option items ≡ Some value → (b : Bool) → bytes_eq (long_word other) (long_word option) ≡ b
    → value_given option (Valued other first ∷ items) ≡ Some value
given_before option other first value items named given true same =
    let twice : names_option option items ≡ false = subst (λ (o : ProgramOption). names_option o items ≡ false) (same_option other option same) named in
    absurd (none-some value (sym (none_given option items twice) ∙ given))
given_before option other first value items named given false differs = rw differs given

all_taken : (items : List Item) → AreSound items → repeats_option items ≡ false → AllPass Port items → AllPass BatchCount items → AreTaken items
all_taken [] sound once ports counts = tt
all_taken (Flag option ∷ items) sound once ports counts =
    let p = neither_of (names_option option items) (repeats_option items) once in
    (sound.0, all_taken items sound.1 p.1 ports counts)
all_taken (Valued option value ∷ items) sound once ports counts =
    let p = neither_of (names_option option items) (repeats_option items) once in (
      (
        sound.0,
        passes_as option value sound.0 (λ is. ports value (subst (λ (o : ProgramOption). value_given Port (Valued o value ∷ items) ≡ Some value)
            (sym is) refl))
            (λ is. counts value (subst (λ (o : ProgramOption). value_given BatchCount (Valued o value ∷ items) ≡ Some value) (sym is) refl)),
      ),
      all_taken items sound.1 p.1 (λ v given. ports v (given_before Port option value v items p.0 given
          (bytes_eq (long_word option) (long_word Port)) refl))
          (λ v given. counts v (given_before BatchCount option value v items p.0 given (bytes_eq (long_word option) (long_word BatchCount)) refl)),
    )
all_taken (Measured geometry value ∷ items) sound once ports counts = (tt, all_taken items sound.1 once ports counts)
all_taken (Setting name value ∷ items) sound once ports counts = (tt, all_taken items sound.1 once ports counts)

port_of : (given : Option Text) (port : Option ℕ) (value : Text) → given ≡ option_map decimal port → IfSome port IsPort → given ≡ Some value
    → Passes Port value
port_of given None value is range some = absurd (none-some value (sym is ∙ some))
port_of given (Some n) value is range some = subst (Passes Port) (same_some _ _ (sym is ∙ some)) (port_passes n range)

count_of : (given : Option Text) (count : Option ℕ) (value : Text) → option_map count_named given ≡ option_map (λ n. Some n) count → given ≡ Some value
    → Passes BatchCount value
count_of given None value is some = absurd (none-some (count_named value) (sym (ap (option_map count_named) (sym some) ∙ is)))
count_of given (Some n) value is some =
    let named : count_named value ≡ Some n = same_some _ _ (ap (option_map count_named) (sym some) ∙ is) in
    let count = count_is value n named in
    subst (Passes BatchCount) (sym count.0) (count_passes n count.1 count.2)

-- ---- words that have options

module _ (program : List Text) (items : List Item) (options : Options) (pieces : AreSplitPieces program items)
    (read : AreScanimageOptions program options) where
  given : (option : ProgramOption) → program_option_value option program ≡ value_given option items
  given option = ap (program_option_value option) pieces.words ∙ values_same option items

  flagged : (option : ProgramOption) → has_flag option program ≡ is_flag_given option items
  flagged option = ap (has_flag option) pieces.words ∙ flags_same option items

  taken : AreTaken items
  taken = all_taken items pieces.sound pieces.once (λ value some. port_of (program_option_value Port program) options.port value read.port read.range
      (given Port ∙ some))
      (λ value some. count_of (program_option_value BatchCount program) options.batch_count value read.batch_count (given BatchCount ∙ some))

  abbrev their_words : List Text
  their_words = codes "scanimage" ∷ program

  words_are : their_words ≡ all_words items
  words_are = ap (λ words. codes "scanimage" ∷ words) pieces.words

  pub options_taken : takes scanimage_app their_words ≡ true
  options_taken = ap (takes scanimage_app) words_are ∙ program_taken items taken pieces.once

  pub options_are_found : (m : ArgMatches) → HasMatchesOf scanimage_app their_words m → IsFoundOf program (found_of m)
  options_are_found m has =
      let rows : rows_of (found_of m) ≡ all_rows items = (has refl).0
      ∙ (ap (matches_of scanimage_app) words_are ∙ program_matches items taken pieces.once) in
      record {
        flags = λ option is. one_text_is (found_of m) (name_of option)
            ∙ (ap (one_of (name_of option)) rows ∙ (flag_text option items taken is ∙ ap (λ b. Some (flag_word b)) (sym (flagged option))));
        values_are = λ option none. first_value_is (found_of m) (name_of option)
            ∙ (ap (first_of (name_of option)) rows ∙ (value_text option items taken none ∙ sym (given option)));
        port = one_text_is (found_of m) (name_of Port)
            ∙ (ap (one_of (name_of Port)) rows ∙ (port_text items taken ∙ ap (option_map without_minus) (sym (given Port))));
        count = one_text_is (found_of m) (name_of BatchCount)
            ∙ (ap (one_of (name_of BatchCount)) rows ∙ (count_text items taken ∙ ap (option_map without_minus) (sym (given BatchCount))));
      }
