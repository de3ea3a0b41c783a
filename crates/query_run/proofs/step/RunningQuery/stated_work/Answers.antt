use Rattle.std.proofs.Common.{ap, ◌∙◌, length}
use Rattle.cell_core.specs.declared.operator.Value.TheVariants.{Bat}
use Rattle.query_run.proofs.step.RunningQuery.stated_work.Goals as goal

pub load_of-requires : goal.load_of-requires
load_of-requires c = record {
  under = c.requires.under;
  at = (c.requires.at.0, c.requires.at.1.here, c.requires.at.2);
  value = (Bat c.args.value.now, c.requires.value, c.len.ensures.len ∙ ap (λ b. length b) c.bat.ensures);
}
