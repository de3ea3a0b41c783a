use Rattle.std.proofs.Common.{length, ap, arith}
use Rattle.std.specs.List.{zip}
use Rattle.std.proofs.lemmas.List.{length-map}
use Rattle.std.proofs.lemmas.Slice.Zip.{length-zip}
use Rattle.cell_core.specs.declared.cell.Cell.TheVariants.{Oid}
use Rattle.cell_core.specs.Groups.{group_number, same_pair}
use Rattle.bat_group.proofs.GroupLemmas.{length-tails}
use Rattle.bat_group.proofs.grouping.group_derive.Goals as goal

pub beside_heads-requires : goal.beside_heads-requires
beside_heads-requires g c =
    let pairs = zip c.tails.result.now c.tails-2.result.now in
    omega (arith, ap length c.in_ok-numbers.ensures, length-map pairs (λ p. Oid (group_number same_pair pairs p)), length-zip c.tails.result.now c.tails-2.result.now, ap length c.tails.ensures, length-tails c.args.g.now)
