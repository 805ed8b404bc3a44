-- The row that is seen at a height.
use Rattle.std.proofs.Common.{◌≡◌, ℕ, ◌<◌, ◌≤◌, ◌+◌, ◌*◌, inl, inr, Bool, true, false, List, arith, refl, sym, ap, ◌∙◌, subst}
use Rattle.std.specs.Prelude.{nat_lt, ◌&&◌, slice_index, if◌then◌else◌}
use Rattle.std.proofs.lemmas.Bool.{cases_lt}
use Rattle.std.proofs.lemmas.Bool.Decides.{nat_tests}
use Rattle.page_picture.specs.Page.{PageView, IsRow, page_sample_at}
use Rattle.page_picture.specs.Seen.{dot_at}
use Rattle.scan_frames.specs.Inside.{IsSeen}
use Rattle.scan_frames.specs.Rows.{IsWhiteBehind}

-- a dot of the page, or white
pub on_page : (p : PageView) (c height k : ℕ) → c < p.width → height < p.height → dot_at p c height k ≡ page_sample_at p c height k
on_page p c height k a b =
    let P : Bool → Bool → Type 0 = λ s t. (if s && t then page_sample_at p c height k else 65535) ≡ page_sample_at p c height k in
    let left : nat_lt c p.width ≡ true = grind (arith, nat_tests) in
    let right : nat_lt height p.height ≡ true = grind (arith, nat_tests) in
    subst (λ s. P s (nat_lt height p.height)) (sym left) (subst (λ t. P true t) (sym right) refl)

pub off_page : (p : PageView) (c height k : ℕ) → p.width ≤ c → dot_at p c height k ≡ 65535
off_page p c height k a =
    let left : nat_lt c p.width ≡ false = grind (arith, nat_tests) in
    subst (λ s. (if s && nat_lt height p.height then page_sample_at p c height k else 65535) ≡ 65535) (sym left) refl

pub sees_row : (p : PageView) (height : ℕ) (row : List ℕ) → height < p.height → IsRow p height row → IsWhiteBehind p.width row → IsSeen p height row
sees_row p height row inside is white = record {
  each = λ c k most less.
      elim (cases_lt c p.width) as (λ _. slice_index row (3 * c + k) ≡ dot_at p c height k) [
        | inl on ↦ is.each c k on less ∙ sym (on_page p c height k on inside)
        | inr off ↦
            let last : c ≡ p.width = omega arith in
            ap (λ (t : ℕ). slice_index row (3 * t + k)) last ∙ (white.white k less ∙ sym (off_page p c height k off))
      ];
}
