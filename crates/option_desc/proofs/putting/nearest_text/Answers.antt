use Rattle.std.proofs.Common.{◌≡◌, subst}
use Rattle.std.specs.Prelude.{Some}
use Rattle.constraint.specs.Nearest.{FlagsDifference}
use Rattle.option_desc.specs.Put.{nearest_text}
use Rattle.option_desc.proofs.PutLaws.{given_entry, given_text, given_differs}
use Rattle.option_desc.proofs.putting.nearest_text.Goals as goal

pub returns-in_ok-try_clone-in-Some-clause-value : goal.returns-in_ok-try_clone-in-Some-clause-value
returns-in_ok-try_clone-in-Some-clause-value c =
    let given = c.in_ok-try_clone-in-Some.field-0 in
    let at = given_entry c.in-Strings.list c.as_slice.result.now c.as_bytes.result.now c.in-Some.place c.index-as_slice-place.result given c.as_slice.ensures.value c.in-Some.ensures.nearest c.index-as_slice-place.is c.in_ok-try_clone-in-Some.ensures.equal in
    subst (λ asked. nearest_text c.args.constraint.now asked ≡ Some given) c.as_bytes.ensures.bytes
    (given_text c.args.constraint.now c.in-Strings.list c.as_bytes.result.now c.in-Some.place given c.in-Strings.is c.in-Some.ensures.value at)

pub returns-in_ok-try_clone-in-Some-clause-differs : goal.returns-in_ok-try_clone-in-Some-clause-differs
returns-in_ok-try_clone-in-Some-clause-differs c =
    let given = c.in_ok-try_clone-in-Some.field-0 in
    let at = given_entry c.in-Strings.list c.as_slice.result.now c.as_bytes.result.now c.in-Some.place c.index-as_slice-place.result given c.as_slice.ensures.value c.in-Some.ensures.nearest c.index-as_slice-place.is c.in_ok-try_clone-in-Some.ensures.equal in
    subst (λ asked. FlagsDifference c.in-Some.differs asked given) c.as_bytes.ensures.bytes
    (given_differs c.in-Strings.list c.as_bytes.result.now c.in-Some.place given c.in-Some.differs at c.in-Some.ensures.differs)
