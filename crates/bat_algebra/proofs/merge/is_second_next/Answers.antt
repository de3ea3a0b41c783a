use Rattle.std.proofs.Common.{◌≡◌, false, nat_lt, sym, ◌∙◌, arith}
use Rattle.std.proofs.lemmas.Bool.Decides.{nat_tests}
use Rattle.cell_core.specs.declared.cell.Cell.{Cell}
use Rattle.cell_core.specs.declared.cell.Cell.TheVariants.{Nil}
use Rattle.bat_algebra.proofs.MergeLemmas.{next_is, none_left}
use Rattle.bat_algebra.proofs.merge.is_second_next.Goals as goal

abbrev none : Cell × Cell
none = (Nil, Nil)

pub returns-then-j-len-clause-next : goal.returns-then-j-len-clause-next
returns-then-j-len-clause-next c = c.is_head_before.ensures none none ∙ sym (next_is c.args.a.now c.args.b.now c.args.i c.args.j none none (omega arith) (omega arith))

pub returns-else-j-len-clause-next : goal.returns-else-j-len-clause-next
returns-else-j-len-clause-next c =
    let out : nat_lt c.args.j c.len-2.result ≡ false = grind (arith, nat_tests) in
    out ∙ sym (none_left c.args.a.now c.args.b.now c.args.i c.args.j (omega arith) (omega arith))
