use Rattle.std.proofs.Common.{◌≡◌, subst, rules, FitsSigned, w32}
use Rattle.std.specs.Prelude.{IfOk, OnOk, All, map}
use Rattle.std.specs.List.{join_with_byte}
use Rattle.std.proofs.lemmas.Int.{to_z-of_z}
use Rattle.sane_fixed.specs.declared.kind.Kind.TheVariants as kind
use Rattle.option_desc.specs.declared.value.Value.TheVariants.{Flag, Int, Fixed, Words, Text}
use Rattle.option_desc.specs.Representable.{IsRepresentable}
use Rattle.option_desc.specs.ShownText.{word_text}
use Rattle.option_desc.proofs.ShownLaws.{shown_reads, always_held, flag_held}
use Rattle.option_desc.proofs.showing.show_text.Goals as goal

pub returns-in-Flag-clause-reads : goal.returns-in-Flag-clause-reads
returns-in-Flag-clause-reads c =
    shown_reads c.args.desc.now c.args.value.now (Flag c.in-Flag.flag) c.show_flag.result c.in-Flag.is (flag_held c.show_flag.result c.args.desc.now c.in-Flag.flag c.show_flag.ensures) (always_held c.show_flag.result (IsRepresentable (Flag c.in-Flag.flag)) tt)

pub returns-in-Int-clause-reads : goal.returns-in-Int-clause-reads
returns-in-Int-clause-reads c =
    let fits : FitsSigned w32 c.in-Int.word = search rules in
    let value = subst (λ z. IfOk c.show_word.result (λ text. text ≡ word_text kind.Int z)) (to_z-of_z w32 c.in-Int.word fits) c.show_word.ensures in
    shown_reads c.args.desc.now c.args.value.now (Int c.in-Int.word) c.show_word.result c.in-Int.is value (always_held c.show_word.result (FitsSigned w32 c.in-Int.word) fits)

pub returns-in-Fixed-clause-reads : goal.returns-in-Fixed-clause-reads
returns-in-Fixed-clause-reads c =
    let fits : FitsSigned w32 c.in-Fixed.fixed.0 = search rules in
    let value = subst (λ z. IfOk c.show_word-in-Fixed.result (λ text. text ≡ word_text kind.Fixed z)) (to_z-of_z w32 c.in-Fixed.fixed.0 fits) c.show_word-in-Fixed.ensures in
    shown_reads c.args.desc.now c.args.value.now (Fixed c.in-Fixed.fixed) c.show_word-in-Fixed.result c.in-Fixed.is value (always_held c.show_word-in-Fixed.result (FitsSigned w32 c.in-Fixed.fixed.0) fits)

pub returns-in-Words-clause-reads : goal.returns-in-Words-clause-reads
returns-in-Words-clause-reads c =
    let value = subst (λ ws. IfOk c.show_words.result (λ text. text ≡ join_with_byte 44 (map (word_text c.args.desc.now.kind) ws))) c.as_slice.ensures c.show_words.ensures.value in
    let held = subst (λ ws. OnOk c.show_words.result (All (FitsSigned w32) ws)) c.as_slice.ensures c.show_words.ensures.held in
    shown_reads c.args.desc.now c.args.value.now (Words c.in-Words.words) c.show_words.result c.in-Words.is value held

pub returns-in-Text-clause-reads : goal.returns-in-Text-clause-reads
returns-in-Text-clause-reads c =
    shown_reads c.args.desc.now c.args.value.now (Text c.in-Text.text) c.try_clone.result c.in-Text.is c.try_clone.ensures.equal (always_held c.try_clone.result (IsRepresentable (Text c.in-Text.text)) c.try_clone.ensures.text)
