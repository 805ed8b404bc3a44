use Rattle.std.proofs.Common.{◌+◌, ◌/◌, ◌%◌, ◌∷◌, [], ◌++◌, ap, sym, ◌∙◌, arith, List, ℕ, decimal}
use Rattle.std.proofs.lemmas.List.{append_assoc}
use Rattle.frame_join.proofs.HeaderLemmas.{more_digits}
use Rattle.frame_join.proofs.header_writing.+put_digits.Goals as goal

pub returns-else-n-lt10-clause-items : goal.returns-else-n-lt10-clause-items
returns-else-n-lt10-clause-items t c =
    let old = c.args.text.now.items in
    let front = decimal (c.args.n / 10) in
    let last = (48 + c.args.n % 10) ∷ [] in
    c.put_text-else-n-lt10.ensures.items
    ∙ (ap (λ (l : List ℕ). l ++ last) c.put_digits.ensures.items
    ∙ (append_assoc old front last ∙ ap (λ (l : List ℕ). old ++ l) (sym (more_digits c.args.n (omega arith) (omega (arith, c.ranges.n.fits))))))
