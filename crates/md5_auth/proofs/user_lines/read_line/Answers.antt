use Rattle.md5_auth.proofs.UserFieldLemmas.{password_text, backend_text}
use Rattle.md5_auth.proofs.user_lines.read_line.Goals as goal

pub copied-requires-clause-password : goal.copied-requires-clause-password
copied-requires-clause-password c =
    let read = rw c.in-Some.is at c.in_ok-fields.ensures.fields in
    password_text c.args.line.now _ _ _ c.in_ok-fields.ensures.good.printable read.fields

pub copied-requires-clause-backend : goal.copied-requires-clause-backend
copied-requires-clause-backend c =
    let read = rw c.in-Some.is at c.in_ok-fields.ensures.fields in
    backend_text c.args.line.now _ _ _ c.in_ok-fields.ensures.good.printable read.fields
