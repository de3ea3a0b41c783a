use Rattle.std.proofs.Common.{◌≡◌, ◌++◌, length, get_or, map, subst, ap, ◌∙◌, arith}
use Rattle.std.specs.List.{zip}
use Rattle.std.proofs.lemmas.List.{length-map, take_all}
use Rattle.std.proofs.lemmas.Slice.Zip.{length-zip}
use Rattle.cell_core.specs.declared.cell.Cell.TheVariants.{Nil, Oid}
use Rattle.chunk_core.specs.Parts.{part_cells}
use Rattle.chunk_core.proofs.PickLemmas.{get_default}
use Rattle.bat_group.specs.Keys.{AreMade, same_both, cells_of_both}
use Rattle.bat_group.proofs.GroupLemmas.{zip_read}
use Rattle.bat_group.proofs.KeyLemmas.{made_next}
use Rattle.bat_group.proofs.key_pairs.meet_part.Goals as goal

pub loop-i-preserved : goal.loop-i-preserved
loop-i-preserved g c = record {
  few = omega (arith, c.in_ok-meet.ensures.few);
  made = λ before old.
      let xs = map Oid c.args.oids.now in
      let ys = part_cells c.args.beside in
      let i = c.loop-i.i in
      let m = c.oid_at.result in
      let key = c.in-Some.key in
      let n = g.K.CellKey.cell_of key in
      let left : length xs ≡ length c.args.oids.now = length-map c.args.oids.now Oid in
      let first : Oid m ≡ get_or xs i (Oid m) = c.oid_at.ensures ∙ get_default xs i Nil (Oid m) (omega (arith, left)) in
      let second : n ≡ get_or ys i n = c.in-Some.ensures ∙ get_default ys i Nil n (omega (arith, c.requires.even)) in
      made_next (same_both g.K.PartialEq.eq) (cells_of_both g.K.CellKey.cell_of) c.loop-i.met c.meet.new.self before (zip xs ys) i (m, key) (omega (arith, left, c.requires.even, length-zip xs ys))
      (zip_read xs ys i (Oid m) n (omega (arith, left)) (omega (arith, c.requires.even)) first second)
      c.in_ok-meet.ensures.met (c.loop-i.invariant.made before old);
}

pub returns-clause-made : goal.returns-clause-made
returns-clause-made g c = λ yes before old.
    let pairs = zip (map Oid c.args.oids.now) (part_cells c.args.beside) in
    let long : length pairs ≡ length c.args.oids.now = omega (arith, length-zip (map Oid c.args.oids.now) (part_cells c.args.beside), length-map c.args.oids.now Oid, c.requires.even) in
    subst (AreMade (same_both g.K.PartialEq.eq) (cells_of_both g.K.CellKey.cell_of) c.loop-i.met) (ap (λ l. before ++ l) (take_all c.loop-i.i pairs (omega (arith, long)))) (c.loop-i.invariant.made before old)
