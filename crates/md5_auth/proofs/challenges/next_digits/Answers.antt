use Rattle.std.proofs.Common.{◌≡◌, ◌≤◌, ◌*◌, length, ◌+◌, ◌%◌, ◌^◌, ℕ, ap, sym, ◌∙◌, refl, arith}
use Rattle.std.proofs.lemmas.List.{take_all}
use Rattle.rand_chacha.specs.ChaCha.{ChaCha}
use Rattle.md5_auth.specs.Challenges.{digits_from}
use Rattle.md5_auth.proofs.StreamLemmas.{length-written, digits_from-none, digits_from-more, next_place, word_there}
use Rattle.md5_auth.proofs.challenges.next_digits.Goals as goal

pub loop-i-init : goal.loop-i-init
loop-i-init c =
    let g = c.args.words.now in
    let same : g.word_pos ≡ (g.word_pos + 0) % 2 ^ 68 = omega arith in
    record {
      size = refl;
      written = sym (digits_from-none _ _ _);
      words = ap (λ (p : ℕ). record g { word_pos = p }) same;
    }

pub loop-i-preserved : goal.loop-i-preserved
loop-i-preserved c =
    let g = c.args.words.now in
    let step = c.next_word-word.ensures in
    record {
      size = length-written c.loop-i.digits _ c.loop-i.i c.next_word-word.result c.loop-i.invariant.size c.loop-i-test.true (c.copy_from_slice.ensures.after ∙ c.word_digits.ensures);
      written = digits_from-more g.key c.loop-i.digits _ g.stream g.word_pos c.loop-i.i c.next_word-word.result c.loop-i.invariant.written (omega (arith, c.loop-i.invariant.size))
          (c.copy_from_slice.ensures.after ∙ c.word_digits.ensures) (word_there g c.loop-i.words c.loop-i.i _ c.loop-i.invariant.words (ap (λ (p : ℕ × ChaCha). p.0) step));
      words = next_place g c.loop-i.words _ c.loop-i.i c.loop-i.invariant.words (ap (λ (p : ℕ × ChaCha). p.1) step);
    }

pub returns-clause-value : goal.returns-clause-value
returns-clause-value c =
    let last : c.loop-i.i ≡ 4 = omega arith in
    let whole : length c.loop-i.digits ≤ 8 * c.loop-i.i = omega (arith, c.loop-i.invariant.size) in
    sym (take_all (8 * c.loop-i.i) c.loop-i.digits whole) ∙ c.loop-i.invariant.written ∙ ap (digits_from _ _ _) last
