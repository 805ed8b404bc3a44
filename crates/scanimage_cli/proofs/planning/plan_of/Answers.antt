use Rattle.std.proofs.Common.{rules, ◌≡◌, None, subst, sym}
use Rattle.scanimage_cli.specs.ScanimageOptions.{AreScanimageOptions, HasNoOptions}
use Rattle.scanimage_cli.specs.WordCut.{split_of}
use Rattle.scanimage_cli.specs.declared.options.OptionsFault.TheVariants as option_faults
use Rattle.scanimage_cli.specs.declared.word_cut.SplitFault.TheVariants as split_faults
use Rattle.scanimage_cli.specs.Plans.{IsPlanRefusal}
use Rattle.scanimage_cli.proofs.Carried.{plan_is}
use Rattle.scanimage_cli.proofs.PlansRefused.{no_options, no_plan, no_split}
use Rattle.scanimage_cli.proofs.planning.plan_of.Goals as goal

pub returns-clause-planned : goal.returns-clause-planned
returns-clause-planned c =
    let same : c.as_slice.result.now ≡ c.in-Ok.split.program.items = search rules in
    let read : AreScanimageOptions c.in-Ok.split.program.items c.in-Ok-read_options.options = subst (λ words. AreScanimageOptions words c.in-Ok-read_options.options) same c.in-Ok-read_options.ensures.read in
    plan_is c.args.words.now _ _ c.in-Ok-read_options.options c.plan_by_options.result c.in-Ok.ensures.found read c.plan_by_options.ensures.complete c.plan_by_options.ensures.planned

pub returns-in-Err-clause-refused : goal.returns-in-Err-clause-refused
returns-in-Err-clause-refused c =
    let bad : c.in-Err.fault ≡ split_faults.Bad → split_of c.args.words.now ≡ None = search rules in
    subst (IsPlanRefusal c.args.words.now) (sym c.of_split.ensures) (no_split c.args.words.now c.in-Err.fault bad)

pub returns-in-Err-read_options-clause-refused : goal.returns-in-Err-read_options-clause-refused
returns-in-Err-read_options-clause-refused c =
    let same : c.as_slice.result.now ≡ c.in-Ok.split.program.items = search rules in
    let bad : c.in-Err-read_options.fault ≡ option_faults.Bad → HasNoOptions c.in-Ok.split.program.items =
    λ is. subst HasNoOptions same (c.in-Err-read_options.ensures.refused is) in
    subst (IsPlanRefusal c.args.words.now) (sym c.of_options.ensures) (no_options c.args.words.now _ _ c.in-Err-read_options.fault c.in-Ok.ensures.found bad)

pub returns-clause-refused : goal.returns-clause-refused
returns-clause-refused c =
    let same : c.as_slice.result.now ≡ c.in-Ok.split.program.items = search rules in
    let read : AreScanimageOptions c.in-Ok.split.program.items c.in-Ok-read_options.options = subst (λ words. AreScanimageOptions words c.in-Ok-read_options.options) same c.in-Ok-read_options.ensures.read in
    no_plan c.args.words.now _ _ c.in-Ok-read_options.options c.plan_by_options.result c.in-Ok.ensures.found read c.plan_by_options.ensures.refused
