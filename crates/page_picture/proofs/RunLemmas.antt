-- The columns of a picture that lie on the page one beside the other.
use Rattle.std.proofs.Common.{◌≡◌, ◌<◌, ◌+◌, ◌*◌, ◌/◌, ℕ, Bool, true, ap, ◌∙◌, arith}
use Rattle.std.proofs.lemmas.Bool.Decides.{nat_tests}
use Rattle.std.specs.Prelude.{nat_lt, if◌then◌else◌}
use Rattle.std.proofs.Math.Nat.{mul-div_cancel}
use Rattle.page_picture.specs.Columns.{Columns, IsRun, column_shown, place_at}

shown_in_run : (columns : Columns) → IsRun columns → (x : ℕ) → column_shown columns x ≡ columns.left + x
shown_in_run columns is x =
    let some = is.some in
    ap (λ d. (columns.left + x) * d / columns.resolution) is.same ∙ mul-div_cancel (columns.left + x) (omega (arith, some))

pub place_in_run : (columns : Columns) → IsRun columns → (x : ℕ) → x < columns.count → place_at columns x ≡ columns.left + x
place_in_run columns is x h =
    let at = shown_in_run columns is x in
    let inside = is.inside in
    let on : nat_lt (column_shown columns x) columns.width ≡ true = grind (arith, nat_tests, at, inside, h) in
    ap (λ (b : Bool). if b then column_shown columns x else columns.width) on ∙ at
