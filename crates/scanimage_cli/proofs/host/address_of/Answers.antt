use Rattle.std.proofs.Common.{◌≡◌, None, ℕ, List, Result, Ok, Err, Some, inl, inr, false, sym, ◌∙◌, codes}
use lib.Dec.{eqb}
use lib.Pointwise.{pointwise}
use Rattle.std.specs.Result.{result_ok}
use Rattle.std.specs.Net.Grammar.{Parses, IsIpv4Text}
use Rattle.scanimage_cli.proofs.host.address_of.Goals as goal

-- a text that is read as nothing spells nothing
unread : {A E : Type 0} (Spells : List ℕ → A → Type 0) (text : List ℕ) (r : Result A E) → result_ok r ≡ None → Parses Spells text r → (a : A) → Spells text a → ⊥
unread {A} Spells text (Ok x) e p a s = absurd (let t : Some x ≡ None = e in cc)
unread Spells text (Err x) e p a s = p a s

pub returns-clause-unknown : goal.returns-clause-unknown
returns-clause-unknown c e address (inl is) = absurd (let same : false ≡ pointwise eqb (codes "localhost") (codes "localhost") = rw c.as_slice.ensures at (rw is.0 at c.if-eq.ensures) in cc)
returns-clause-unknown c e address (inr is) = unread IsIpv4Text c.args.host.now c.parse_ascii.result (sym c.ok.ensures.value ∙ e) c.parse_ascii.ensures address is
