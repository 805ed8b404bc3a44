-- The lines of settings that were given another value than they asked for.
use Rattle.std.specs.Prelude.{ℕ, ◌∷◌, [], if◌then◌else◌, List, map, codes}
use Rattle.std.specs.List.{concat}
use Rattle.sane_fixed.specs.declared.unit.Unit.TheVariants as units
use Rattle.option_desc.specs.declared.descriptor.Constraint.TheVariants.{Free}
use Rattle.option_desc.specs.declared.descriptor.Descriptor.{Descriptor}
use Rattle.option_desc.specs.ShownText.{shown_text}
use Rattle.scan_job.specs.declared.report.Report.{Report}
use Rattle.scanimage_cli.specs.Rounding.{is_rounded}

-- both values as an option shows them
abbrev pub rounded_line : Report → Descriptor → List ℕ
rounded_line report desc =
    concat (codes "scanimage: rounded value of " ∷ report.name ∷ codes " from " ∷ shown_text desc report.asked
    ∷ codes " to " ∷ shown_text desc report.given ∷ codes "\n" ∷ [])

-- an option that has the name and the kind of what a report is of, and no more
abbrev pub reported_option : Report → Descriptor
reported_option report =
    record {
      name = report.name;
      title = [];
      about = [];
      kind = report.kind;
      unit = units.None;
      size = 4;
      caps =
          record { 0 = 1 };
      constraint = Free;
    }

-- the line of a report; none where its setting was not rounded
abbrev pub report_line : Report → List ℕ
report_line report = if is_rounded report then rounded_line report (reported_option report) else []

-- **rounded values (`rounded_text`, `rounded_line`)**: for each report of a setting with INEXACT, in their order, a
-- line with the name and both values, as an option of the kind that the report keeps shows them.
--
-- the lines of all
abbrev pub rounded_text : List Report → List ℕ
rounded_text reports = concat (map report_line reports)
