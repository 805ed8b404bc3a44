-- What laws of this crate say.
use Rattle.std.specs.Prelude.{◌↔◌, ℕ, List}
use Rattle.md5_auth.specs.declared.users.Entry.{Entry as AnEntry}
use Rattle.md5_auth.specs.Allowed.{IsAnswer, NamesBackend, LineAllows, UserIsAllowed, SentAllows}

-- an answer passes exactly where a line allows its password
abbrev pub AnswerAllowsByLine : Type 0
AnswerAllowsByLine = (users : List AnEntry) (user password backend resource answer : List ℕ)
    → IsAnswer answer resource password
    → SentAllows users user backend resource answer ↔ LineAllows users user password backend resource

-- an answer passes exactly where the user is allowed, where some line names the backend
abbrev pub AnswerAllowsTheUser : Type 0
AnswerAllowsTheUser = (users : List AnEntry) (user password backend resource answer : List ℕ)
    → IsAnswer answer resource password → NamesBackend users backend
    → SentAllows users user backend resource answer ↔ UserIsAllowed users user password backend resource
