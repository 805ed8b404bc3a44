-- Words that have no options, or options with which there is no plan, have no plan.
use Rattle.std.proofs.Common.{arith, ℕ, ◌≡◌, ◌≤◌, ◌∙◌, inl, inr, List, Option, Some, None, Result, Ok, Err, IfErr, refl, sym, subst, true≢false}
use Rattle.std.specs.Prelude.{IsSome, IsTrue, IfSome, option_map}
use Rattle.std.proofs.lemmas.Option.{none-some, some_pair_parts}
use Rattle.scanimage_cli.specs.Asked.{IsLocal, IsNetName, port_or_default}
use Rattle.scanimage_cli.specs.Ending.{ended_by_options, ended_by_split}
use Rattle.scanimage_cli.specs.Plans.{IsComplete, IsLocationOf, IsPlanOf, IsPlanRefusal, RefusesOptions}
use Rattle.scanimage_cli.specs.ScanimageOptions.{AreScanimageOptions, HasNoOptions, IsPort}
use Rattle.scanimage_cli.specs.WordCut.{split_of}
use Rattle.scanimage_cli.specs.declared.ending.Ending.{Ending}
use Rattle.scanimage_cli.specs.declared.options.Options.{Options}
use Rattle.scanimage_cli.specs.declared.options.OptionsFault.{OptionsFault}
use Rattle.scanimage_cli.specs.declared.options.OptionsFault.TheVariants as option_faults
use Rattle.scanimage_cli.specs.declared.planning.Location.TheVariants.{There}
use Rattle.scanimage_cli.specs.declared.planning.Plan.{Plan}
use Rattle.scanimage_cli.specs.declared.planning.Remote.{Remote}
use Rattle.scanimage_cli.specs.declared.word_cut.SplitFault.{SplitFault}
use Rattle.scanimage_cli.specs.declared.word_cut.SplitFault.TheVariants as split_faults

pub no_split : (words : List (List ℕ)) (fault : SplitFault) → (fault ≡ split_faults.Bad → split_of words ≡ None) → IsPlanRefusal words (ended_by_split fault)
no_split words split_faults.Bad bad = inr (refl, λ plan is. absurd (none-some _ (sym (bad refl) ∙ is.split)))
no_split words split_faults.NoMem bad = inl refl

same_words : (words program other : List (List ℕ)) (settings more : List (List ℕ × List ℕ)) → split_of words ≡ Some (program, settings) → split_of words ≡ Some (other, more) → other ≡ program
same_words words program other settings more one two = (some_pair_parts _ _ _ _ (sym two ∙ one)).0

pub no_options : (words program : List (List ℕ)) (settings : List (List ℕ × List ℕ)) (fault : OptionsFault) → split_of words ≡ Some (program, settings) → (fault ≡ option_faults.Bad → HasNoOptions program)
    → IsPlanRefusal words (ended_by_options fault)
no_options words program settings option_faults.Bad split bad = inr (
  refl,
  λ plan is. bad refl words settings is.options split (subst (λ p. AreScanimageOptions p is.options) (same_words words program is.program settings is.settings split is.split) is.read),
)
no_options words program settings option_faults.NoMem split bad = inl refl

some_of : (a b : Option ℕ) → option_map (λ (n : ℕ). Some n) a ≡ option_map (λ (n : ℕ). Some n) b → IsSome a → IsSome b
some_of None b same is = absurd (true≢false (sym is))
some_of (Some n) None same is = absurd (none-some _ (sym same))
some_of (Some n) (Some m) same is = refl

-- options of the same words are complete alike
module _ (program : List (List ℕ)) (one two : Options) (a : AreScanimageOptions program one) (b : AreScanimageOptions program two) where
  lists : two.list_devices ≡ one.list_devices
  lists = b.list_devices ∙ sym a.list_devices

  local_as : IsLocal one → IsLocal two
  local_as local = record {
    list = λ is. b.net ∙ (sym a.net ∙ local.list (subst IsTrue lists is));
    device = λ not. subst (λ name. IfSome name (λ n. ¬ IsNetName n)) (a.device_name ∙ sym b.device_name) (local.device (sym lists ∙ not));
  }

  complete_as : IsComplete two → IsComplete one
  complete_as complete = record {
    config = λ local. subst IsSome (b.config ∙ sym a.config) (complete.config (local_as local));
    batch = record {
      own_files = λ is. a.output_file ∙ (sym b.output_file ∙ complete.batch.own_files (subst IsTrue (a.batch ∙ sym b.batch) is));
      counted = λ is. subst IsTrue (b.batch ∙ sym a.batch) (complete.batch.counted (some_of one.batch_count two.batch_count (sym a.batch_count ∙ b.batch_count) is));
    };
  }

refused_so : (words program : List (List ℕ)) (settings : List (List ℕ × List ℕ)) (options : Options) (ending : Ending) → split_of words ≡ Some (program, settings) → AreScanimageOptions program options
    → RefusesOptions options ending → IsPlanRefusal words ending
refused_so words program settings options ending split read (inl memory) = inl memory
refused_so words program settings options ending split read (inr bad) = inr (
  bad.0,
  λ plan is. bad.1 (complete_as program options is.options read
      (subst (λ p. AreScanimageOptions p is.options) (same_words words program is.program settings is.settings split is.split) is.read) is.complete),
)

pub no_plan : (words program : List (List ℕ)) (settings : List (List ℕ × List ℕ)) (options : Options) (result : Result Plan Ending) → split_of words ≡ Some (program, settings) → AreScanimageOptions program options
    → IfErr result (RefusesOptions options) → IfErr result (IsPlanRefusal words)
no_plan words program settings options (Ok plan) split read refused = tt
no_plan words program settings options (Err ending) split read refused = refused_so words program settings options ending split read refused

-- ---- the port of a plan

port_or_usual : (port : Option ℕ) → IfSome port IsPort → IsPort (port_or_default port)
port_or_usual None range = (omega arith, omega arith)
port_or_usual (Some port) range = range

pub asks_a_port : (words : List (List ℕ)) (plan : Plan) (remote : Remote) → IsPlanOf words plan → plan.location ≡ There remote → (1 ≤ remote.port) × (remote.port ≤ 65535)
asks_a_port words plan remote is at =
    let asked : IsLocationOf is.options (There remote) = subst (IsLocationOf is.options) at is.planned.location in
    subst IsPort (sym asked.1) (port_or_usual is.options.port is.read.range)
