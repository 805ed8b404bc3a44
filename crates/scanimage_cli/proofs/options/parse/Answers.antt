use Rattle.std.proofs.Common.{◌∙◌, ap, map, subst}
use Rattle.std.proofs.lemmas.Result.{err_from_is_err_and}
use Rattle.clap.specs.Words.{HasMatchesOf, takes}
use Rattle.scanimage_cli.proofs.options.parse.Goals as goal

pub returns-in_err-found-clause-refused : goal.returns-in_err-found-clause-refused
returns-in_err-found-clause-refused c =
    let p = err_from_is_err_and c.from_residual-in_err-found.result c.from_residual-in_err-found.ensures.1 in
    rw p.1 (λ taken. p.2 (c.in_err-found.ensures.passes (ap (λ app. takes app (map (λ word. word.now) c.args.words.now)) c.in_ok-command.ensures ∙ taken)))

pub returns-clause-found : goal.returns-clause-found
returns-clause-found c = subst (λ app. HasMatchesOf app (map
    (λ word. word.now) c.args.words.now) c.in_ok-found.found) c.in_ok-command.ensures c.in_ok-found.ensures.matches
