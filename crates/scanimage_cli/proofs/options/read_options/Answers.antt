use Rattle.std.proofs.Common.{rules, ◌≡◌, ◌∙◌, ◌∷◌, ap, codes, map, subst, sym}
use Rattle.std.proofs.lemmas.Result.{IfErr-weaker, err_from_is_err_and}
use Rattle.clap.specs.Takes.{takes}
use Rattle.clap.specs.Words.{HasMatchesOf}
use Rattle.scanimage_cli.specs.KnownOptions.{scanimage_app}
use Rattle.scanimage_cli.specs.declared.options.OptionsFault.TheVariants.{Bad, NoMem}
use Rattle.scanimage_cli.proofs.CutPieces.{split_has_pieces}
use Rattle.scanimage_cli.proofs.OptionsRead.{options_are_found, options_taken}
use Rattle.scanimage_cli.proofs.options.read_options.Goals as goal

pub returns-in_err-found-clause-refused : goal.returns-in_err-found-clause-refused
returns-in_err-found-clause-refused c =
    let p = err_from_is_err_and c.from_residual-in_err-found.result c.from_residual-in_err-found.ensures.1 in
    let slice : map (λ word. word.now) c.as_slice.result.now ≡ codes "scanimage" ∷ c.args.words.now = ap (map (λ word. word.now)) (search rules)
    ∙ c.in_ok-strs.ensures.words in
    rw (p.1, p.2) (λ bad words settings options split read.
    let pieces = split_has_pieces words c.args.words.now settings split in
    let taken = options_taken c.args.words.now pieces.0 options pieces.1 read in
    let wanting = c.in_err-found.ensures.refused (ap (takes scanimage_app) slice ∙ taken) in
    absurd (let clash : NoMem ≡ Bad = sym wanting ∙ bad in cc))

pub returns-clause-refused : goal.returns-clause-refused
returns-clause-refused c =
    let slice : map (λ word. word.now) c.as_slice.result.now ≡ codes "scanimage" ∷ c.args.words.now = ap (map (λ word. word.now)) (search rules)
    ∙ c.in_ok-strs.ensures.words in
    IfErr-weaker c.options_found.result _ _ (λ fault so. λ bad words settings options split read.
    let pieces = split_has_pieces words c.args.words.now settings split in
    let has : HasMatchesOf scanimage_app (codes "scanimage" ∷ c.args.words.now) c.in_ok-found.found = subst
    (λ all. HasMatchesOf scanimage_app all c.in_ok-found.found) slice c.in_ok-found.ensures.found in
    so bad (options_are_found c.args.words.now pieces.0 options pieces.1 read c.in_ok-found.found has) options read) c.options_found.ensures.refused
