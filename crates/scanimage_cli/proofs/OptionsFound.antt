-- What the getters read of what `clap` found.
use Rattle.std.proofs.Common.{arith, ℕ, ◌≡◌, ◌∙◌, ◌≤◌, ◌<◌, Bool, true, false, List, Option, Some, None, Result, Ok, Err, refl, sym, ap, subst}
use Rattle.std.specs.Prelude.{◌^◌, IfSome, codes, decimal, option_map}
use Rattle.std.specs.Result.{result_ok}
use Rattle.std.specs.Str.Parse.{ParsesUnsigned}
use Rattle.std.proofs.lemmas.Fmt.{parse-decimal}
use Rattle.std.proofs.lemmas.Option.{none-some}
use Rattle.clap.specs.Lexer.{without_minus}
use Rattle.clap.specs.Matches.{ReadsOne, one_text}
use Rattle.clap.specs.declared.parser.matches.Found.{Found}
use Rattle.scanimage_cli.specs.KnownOptions.{flag_word, name_of}
use Rattle.scanimage_cli.specs.ScanimageOptions.{IsPort, count_named, has_flag}
use Rattle.scanimage_cli.specs.declared.program_option.ProgramOption.{ProgramOption}
use Rattle.scanimage_cli.proofs.ClapNumbers.{count_is, decimal_unsigned, same_some}

flag_so : (got flag : Bool) (text : Option (List ℕ)) → text ≡ Some (flag_word flag) → (text ≡ Some (codes "true") → got ≡ true)
    → (text ≡ Some (codes "false") → got ≡ false) → got ≡ flag
flag_so got true text is set clear = set is
flag_so got false text is set clear = clear is

pub flag_read : (option : ProgramOption) (words : List (List ℕ)) (found : Found) (got : Bool)
    → one_text found (name_of option) ≡ Some (flag_word (has_flag option words))
    → (one_text found (name_of option) ≡ Some (codes "true") → got ≡ true) → (one_text found (name_of option) ≡ Some (codes "false") → got ≡ false)
    → got ≡ has_flag option words
flag_read option words found got is set clear = flag_so got (has_flag option words) (one_text found (name_of option)) is set clear

module _ {E : Type 0} (k : ℕ) (G : List ℕ → Result ℕ E → Type 0) (parses : (u : List ℕ) (x : Result ℕ E) → G u x → ParsesUnsigned k 10 u x) where
  reads : (n : ℕ) (got : Option ℕ) → n < 2 ^ k → n < 2 ^ 64 → ReadsOne G (decimal n) got → got ≡ Some n
  reads n (Some v) small most read =
      let is : ◌≡◌ {A = Result ℕ E} (Ok v) (Ok n) = parse-decimal k n (decimal n) (Ok v) small most refl (parses (decimal n) (Ok v) read) in
      ap result_ok is
  reads n None small most read =
      let is : ◌≡◌ {A = Result ℕ E} (Err read.0) (Ok n) = parse-decimal k n (decimal n) (Err read.0) small most refl
      (parses (decimal n) (Err read.0) read.1) in
      absurd (none-some n (ap result_ok is))

  number : (text value : Option (List ℕ)) (asked got : Option ℕ) → ((n : ℕ) → asked ≡ Some n → (n < 2 ^ k) × (n ≤ 65535)) → value ≡ option_map decimal asked
      → text ≡ option_map without_minus value
      → (text ≡ None → got ≡ None) → ((t : List ℕ) → text ≡ Some t → ReadsOne G t got) → got ≡ asked
  number text value None got small is read none some = none (read ∙ ap (option_map without_minus) is)
  number text value (Some n) got small is read none some =
      let bounds = small n refl in
      let told : text ≡ Some (decimal n) = read ∙ (ap (option_map without_minus) is ∙ ap (λ t. Some t) (decimal_unsigned n bounds.1)) in
      reads n got bounds.0 (omega (arith, bounds.1)) (some (decimal n) told)

port_small : (asked : Option ℕ) (n : ℕ) → IfSome asked IsPort → asked ≡ Some n → (n < 2 ^ 16) × (n ≤ 65535)
port_small None n range is = absurd (none-some n is)
port_small (Some m) n range is =
    let same : m ≡ n = same_some m n is in
    (omega (arith, range.1, same), omega (arith, range.1, same))

pub port_read : {E : Type 0} (G : List ℕ → Result ℕ E → Type 0) → ((u : List ℕ) (x : Result ℕ E) → G u x → ParsesUnsigned 16 10 u x)
    → (text value : Option (List ℕ)) (got asked : Option ℕ)
    → value ≡ option_map decimal asked → IfSome asked IsPort → text ≡ option_map without_minus value → (text ≡ None → got ≡ None)
    → ((t : List ℕ) → text ≡ Some t → ReadsOne G t got)
    → IfSome got IsPort × (value ≡ option_map decimal got)
port_read G parses text value got asked is range read none some =
    let same : got ≡ asked = number 16 G parses text value asked got (λ n has. port_small asked n range has) is read none some in
    (subst (λ p. IfSome p IsPort) (sym same) range, is ∙ ap (option_map decimal) (sym same))

counted : (value : Option (List ℕ)) (asked : Option ℕ) → option_map count_named value ≡ option_map (λ (n : ℕ). Some n) asked
    → value ≡ option_map decimal asked
counted None None is = refl
counted None (Some n) is = absurd (none-some _ is)
counted (Some text) None is = absurd (none-some _ (sym is))
counted (Some text) (Some n) is = ap (λ t. Some t) (count_is text n (same_some _ _ is)).0

count_small : (value : Option (List ℕ)) (asked : Option ℕ) (n : ℕ) → option_map count_named value ≡ option_map (λ (n : ℕ). Some n) asked → asked ≡ Some n
    → (n < 2 ^ 32) × (n ≤ 65535)
count_small None None n is has = absurd (none-some n has)
count_small (Some text) None n is has = absurd (none-some n has)
count_small None (Some m) n is has = absurd (none-some _ is)
count_small (Some text) (Some m) n is has =
    let count = count_is text m (same_some _ _ is) in
    let same : m ≡ n = same_some m n has in
    (omega (arith, count.2, same), omega (arith, count.2, same))

pub count_read : {E : Type 0} (G : List ℕ → Result ℕ E → Type 0) → ((u : List ℕ) (x : Result ℕ E) → G u x → ParsesUnsigned 32 10 u x)
    → (text value : Option (List ℕ)) (got asked : Option ℕ)
    → option_map count_named value ≡ option_map (λ (n : ℕ). Some n) asked → text ≡ option_map without_minus value → (text ≡ None → got ≡ None)
    → ((t : List ℕ) → text ≡ Some t → ReadsOne G t got)
    → option_map count_named value ≡ option_map (λ (n : ℕ). Some n) got
count_read G parses text value got asked is read none some =
    let same : got ≡ asked = number 32 G parses text value asked got (λ n has. count_small value asked n is has) (counted value asked is) read none some in
    is ∙ ap (option_map (λ (n : ℕ). Some n)) (sym same)
