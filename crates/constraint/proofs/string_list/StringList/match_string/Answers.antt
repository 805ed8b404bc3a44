use Rattle.std.proofs.Common.{◌≡◌, ◌∙◌, ap, sym, List, ℕ, subst}
use Rattle.std.specs.Prelude.{IfSome, IfNone}
use Rattle.constraint.specs.Nearest.{NearestEntry}
use Rattle.constraint.proofs.EntryLaws.{nearest_answer, no_answer}
use Rattle.constraint.proofs.string_list.StringList.match_string.Goals as goal

pub returns-clause-nearest : goal.returns-clause-nearest
returns-clause-nearest c =
    let list : c.as_slice.result.now ≡ c.args.self.now = c.as_slice.ensures.value ∙ c.self.view_is in
    subst (λ (l : List (List ℕ)). IfSome c.match_entry.result (λ found. NearestEntry l c.args.text.now found.0)) list (nearest_answer c.as_slice.result.now c.args.text.now c.match_entry.result c.match_entry.ensures.value)

pub returns-clause-none : goal.returns-clause-none
returns-clause-none c =
    let list : c.as_slice.result.now ≡ c.args.self.now = c.as_slice.ensures.value ∙ c.self.view_is in
    subst (λ (l : List (List ℕ)). IfNone c.match_entry.result ((place : ℕ) → NearestEntry l c.args.text.now place → ⊥)) list (no_answer c.as_slice.result.now c.args.text.now c.match_entry.result c.match_entry.ensures.value)
