-- What is said of a request, by what became of each reply.
use Rattle.std.proofs.Common.{◌≡◌, ℕ, List, [], ◌∷◌, ◌++◌, append_assoc, Some, None, refl, ap, ◌∙◌, sym}
use Rattle.std.proofs.lemmas.List.{append-nil}
use Rattle.wire_message.specs.declared.message.Reply.{Reply}
use Rattle.saned_requests.specs.declared.request_answer.RequestAnswer.TheVariants.{One, Two, Last}
use Rattle.saned_core.specs.declared.session_slot.Fed.{Fed as What}
use Rattle.saned_core.specs.declared.session_slot.Fed.TheVariants.{Standing, Over, Starved}
use Rattle.saned_core.specs.Feeding.{IsUnsaid}
use Rattle.saned_core.specs.Inside.{IsSaid, SaidAs}
use Rattle.saned_core.specs.Feeding.EndsWith.{Done, Cut}

abbrev pub Unsaid : Reply → List ℕ → List ℕ → Type 0
Unsaid reply before after = (after ≡ before) × IsUnsaid reply

pub one_said : (r : Reply) (before : List ℕ) (fed : What) (after : List ℕ) → (fed ≡ Standing → IsSaid r before after) → (fed ≡ Over → Unsaid r before after) → SaidAs (One r) before fed after
one_said r before Standing after s u = let k = s refl in record { told = r ∷ []; text = k.text; says = (k.text, [], sym (append-nil k.text), k.says, refl); after_is = k.after_is; whole = λ _. (refl, refl); ends = λ e. absurd (cc) }
one_said r before Over after s u = let k = u refl in record { told = []; text = []; says = refl; after_is = k.0 ∙ sym (append-nil before); whole = λ e. absurd (cc); ends = λ _. Cut [] [] r refl k.1 refl }
one_said r before Starved after s u = tt

pub two_said : (r q : Reply) (before mid : List ℕ) (fed : What) (after : List ℕ) → IsSaid r before mid → (fed ≡ Standing → IsSaid q mid after) → (fed ≡ Over → Unsaid q mid after) → SaidAs (Two r q) before fed after
two_said r q before mid Standing after k s u =
    let l = s refl in
    record { told = r ∷ q ∷ []; text = k.text ++ l.text; says = (k.text, l.text, refl, k.says, (l.text, [], sym (append-nil l.text), l.says, refl)); after_is = l.after_is ∙ ap (λ (x : List ℕ). x ++ l.text) k.after_is ∙ append_assoc before k.text l.text; whole = λ _. (refl, refl); ends = λ e. absurd (cc) }
two_said r q before mid Over after k s u =
    let l = u refl in
    record { told = r ∷ []; text = k.text; says = (k.text, [], sym (append-nil k.text), k.says, refl); after_is = l.0 ∙ k.after_is; whole = λ e. absurd (cc); ends = λ _. Cut (r ∷ []) [] q refl l.1 refl }
two_said r q before mid Starved after k s u = tt

pub two_cut : (r q : Reply) (before after : List ℕ) → Unsaid r before after → SaidAs (Two r q) before Over after
two_cut r q before after k = record { told = []; text = []; says = refl; after_is = k.0 ∙ sym (append-nil before); whole = λ e. absurd (cc); ends = λ _. Cut [] (q ∷ []) r refl k.1 refl }

pub last_none : (before : List ℕ) → SaidAs (Last None) before Over before
last_none before = record { told = []; text = []; says = refl; after_is = sym (append-nil before); whole = λ e. absurd (cc); ends = λ _. Done refl refl }

pub last_said : (r : Reply) (before after : List ℕ) → IsSaid r before after → SaidAs (Last (Some r)) before Over after
last_said r before after k = record { told = r ∷ []; text = k.text; says = (k.text, [], sym (append-nil k.text), k.says, refl); after_is = k.after_is; whole = λ e. absurd (cc); ends = λ _. Done refl refl }

pub last_cut : (r : Reply) (before after : List ℕ) → Unsaid r before after → SaidAs (Last (Some r)) before Over after
last_cut r before after k = record { told = []; text = []; says = refl; after_is = k.0 ∙ sym (append-nil before); whole = λ e. absurd (cc); ends = λ _. Cut [] [] r refl k.1 refl }
