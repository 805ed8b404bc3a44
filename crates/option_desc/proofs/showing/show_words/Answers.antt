use Rattle.std.proofs.Common.{◌<◌, ◌≤◌, ◌∙◌, ◌++◌, ℤ, pos, length, get_or, sym, ap, subst, refl, rules, arith, FitsSigned, w32}
use Rattle.std.proofs.lemmas.Int.{to_z-of_z}
use Rattle.std.proofs.lemmas.List.{get_or_default}
use Rattle.option_desc.specs.ShownText.{word_text}
use Rattle.option_desc.proofs.ShownLaws.{ShownBelow, ShownBelow-none, ShownBelow-first, ShownBelow-next, ShownBelow-all}
use Rattle.option_desc.proofs.showing.show_words.Goals as goal
use Rattle.option_desc.proofs.showing.show_words.Goals.{then-i-gt0+in_ok-push, else-i-gt0}

pub loop-i-init : goal.loop-i-init
loop-i-init c = subst (ShownBelow c.args.kind c.args.words.now 0) (sym c.new-joined.ensures.items) (ShownBelow-none c.args.kind c.args.words.now)

pub loop-i-preserved : goal.loop-i-preserved
loop-i-preserved c =
    let word : ℤ = get_or c.args.words.now c.loop-i.i (pos 0) in
    let fits : FitsSigned w32 word = search rules in
    let within : c.loop-i.i < length c.args.words.now = c.loop-i-test.true in
    let at = get_or_default c.args.words.now c.loop-i.i (pos 0) word within in
    let shown = c.as_bytes.ensures.bytes ∙ c.in_ok-shown.ensures ∙ ap (word_text c.args.kind) (to_z-of_z w32 word fits) in
    let new = c.in_ok-extend_from_slice.ensures.items in
    elim c.if-i-gt0.branch [
      | then-i-gt0+in_ok-push w ↦
          ShownBelow-next c.args.kind c.args.words.now c.loop-i.i word c.loop-i.joined.items c.if-i-gt0.joined.items c.extend_from_slice.new.self.items c.as_bytes.result.now within at fits w.if-i-gt0.true c.loop-i.invariant shown c.as_bytes.ensures.text
          (ap (λ v. v.items) w.joined-is ∙ w.in_ok-push.ensures.items) new
      | else-i-gt0 w ↦
          ShownBelow-first c.args.kind c.args.words.now c.loop-i.i word c.loop-i.joined.items c.extend_from_slice.new.self.items c.as_bytes.result.now within at fits (omega arith) c.loop-i.invariant shown c.as_bytes.ensures.text
          (new ∙ ap (λ v. v.items ++ c.as_bytes.result.now) w.joined-is)
    ]

pub unreachable-requires : goal.unreachable-requires
unreachable-requires c = c.in-Err.ensures.nul.0 refl c.loop-i.invariant.clean

pub returns : goal.returns
returns c =
    let end : length c.args.words.now ≤ c.loop-i.i = c.loop-i-test.false in
    let all = ShownBelow-all c.args.kind c.args.words.now c.loop-i.i c.loop-i.joined.items end c.loop-i.invariant in
    record { value = c.in-Ok.ensures.ok ∙ all.0; held = all.1 }
