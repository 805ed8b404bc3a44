-- Words that have no plan.
use Rattle.std.proofs.Common.{◌≡◌, ◌∙◌, ℕ, List, refl, sym, ap, subst, inl, inr, ◌⊎◌, None}
use Rattle.sane_fixed.specs.declared.status.Status.TheVariants as statuses
use Rattle.scan_job.specs.declared.outcome.Why.TheVariants as whys
use Rattle.scanimage_cli.specs.Causes.IsCauseOf.{OfWords, OfConfig, OfPage, OfMemory, OfPassword, OfTask}
use Rattle.scanimage_cli.specs.Causes.{IsCauseOf}
use Rattle.scanimage_cli.specs.Ending.{ending_line, exit_status}
use Rattle.scanimage_cli.specs.HowEnded.{before_telling}
use Rattle.scanimage_cli.specs.Plans.{IsPlanOf}
use Rattle.scanimage_cli.specs.Whole.{ProgramState}
use Rattle.scanimage_cli.specs.WordCut.{cut_step, item_with, long_part, option_named, part_of_word, split_of, window_settings}
use Rattle.scanimage_cli.specs.declared.ending.Ending.{Ending}
use Rattle.scanimage_cli.specs.declared.ending.Ending.TheVariants.{BadCommandLine, Ended}
use Rattle.scanimage_cli.specs.declared.planning.Plan.{Plan}
use Rattle.worked_programs.specs.Begun.{HoldsLine}
use Rattle.worked_programs.specs.StrayWord.{StrayIsNeverDone, StrayIsRefused, stray_words}
use Rattle.worked_programs.proofs.Basics.{not_none}
use Rattle.worked_programs.proofs.Wants.{tells}

stray_split : split_of stray_words ≡ None
unfolding split_of cut_step item_with part_of_word option_named long_part window_settings
stray_split = refl

no_plan : (plan : Plan) → IsPlanOf stray_words plan → ⊥
no_plan plan is = not_none _ (sym stray_split ∙ is.split)

pub stray_never : StrayIsNeverDone
stray_never was now h = no_plan h.plan h.is_plan

-- there was no memory, or the command line is told as bad
abbrev IsRefused : Ending → Type 0
IsRefused ending = (ending ≡ Ended statuses.NoMem whys.Memory) ⊎ (ending ≡ BadCommandLine)

of_words : (was now : ProgramState) (ending : Ending) → IsCauseOf stray_words was now ending → IsRefused ending × (now ≡ was)
of_words was now ending (OfWords (inl memory) same) = (inl memory, same)
of_words was now ending (OfWords (inr bad) same) = (inr (assumption bad), same)
of_words was now ending (OfConfig plan is refuses reads) = absurd (no_plan plan is)
of_words was now ending (OfPage read why none told reads) = absurd (no_plan read.plan read.is_plan)
of_words was now ending (OfMemory read behind told reads) = absurd (no_plan read.plan read.is_plan)
of_words was now ending (OfPassword read unread reads) = absurd (no_plan read.plan read.is_plan)
of_words was now ending (OfTask ended) = absurd (no_plan ended.read.plan ended.read.is_plan)

pub stray_refused : StrayIsRefused
stray_refused was now status errors begun ended =
    let cause = of_words was (before_telling was now) ended.ending ended.cause in
    let holds = tells was now (ending_line ended.ending) errors begun ended.told in (
      elim cause.0 [
        | inl memory ↦ inr (ended.status_is ∙ ap exit_status memory, subst (λ (l : List ℕ). HoldsLine l now errors) (ap ending_line memory) holds)
        | inr bad ↦ inl (ended.status_is ∙ ap exit_status bad, subst (λ (l : List ℕ). HoldsLine l now errors) (ap ending_line bad) holds)
      ],
      ap (λ (s : ProgramState). s.inputs) cause.1,
      ap (λ (s : ProgramState). s.outputs.out) cause.1,
      ap (λ (s : ProgramState). s.outputs.files) cause.1,
    )
