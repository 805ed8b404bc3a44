-- What ends well, and what does not.
use Rattle.std.proofs.Common.{Result, Ok, Err, IfErr, OnOk}

pub on_ok_of : {A E P Q : Type 0} (result : Result A E) → (P → Q) → OnOk result P → OnOk result Q
on_ok_of (Ok value) so is = so is
on_ok_of (Err fault) so is = tt

pub if_err_of : {A E : Type 0} {P Q : E → Type 0} (result : Result A E) → ((fault : E) → P fault → Q fault) → IfErr result P → IfErr result Q
if_err_of (Ok value) so is = tt
if_err_of (Err fault) so is = so fault is
