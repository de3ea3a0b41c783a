use Rattle.std.proofs.Common.{◌≡◌, ◌+◌, ◌++◌, ◌≤◌, ◌&&◌, length, take, map, nat_eq, sym, ap, subst, ◌∙◌, arith}
use Rattle.std.specs.List.{zip}
use Rattle.std.proofs.lemmas.List.{length-map, take_all}
use Rattle.std.proofs.lemmas.Slice.Zip.{length-zip}
use Rattle.cell_core.specs.declared.cell.Cell.TheVariants.{Oid}
use Rattle.cell_core.specs.Groups.{same_pair}
use Rattle.chunk_core.specs.Parts.{part_cells}
use Rattle.bat_group.specs.Keys.{AreMade, same_both, cells_of_both}
use Rattle.bat_group.proofs.KeyLemmas.{numbers_made, zip_run}
use Rattle.bat_group.proofs.key_pairs.number_key_pairs.Goals as goal

pub runs-preserved : goal.runs-preserved
runs-preserved g c =
    let left = c.args.left.now in
    let right = c.args.right.now in
    let from = c.runs.from in
    let oids = c.in-Oids.oids.now in
    let xs = map Oid oids in
    let ys = part_cells c.run_of_both.result.1 in
    let first : part_cells c.run_of_both.result.0 ≡ xs = ap part_cells c.in-Oids.is in
    let long : length (part_cells c.run_of_both.result.0) ≡ length oids = ap length first ∙ length-map oids Oid in
    let a : take (from + length oids) left ≡ take from left ++ xs = ap (λ m. take (from + m) left) (sym long) ∙ c.run_of_both.ensures.cells ∙ ap (λ l. take from left ++ l) first in
    let b : take (from + length oids) right ≡ take from right ++ ys = ap (λ m. take (from + m) right) (sym long) ∙ c.run_of_both.ensures.groups in
    let inside : from + length oids ≤ c.min-both.result = omega (arith, c.run_of_both.ensures.within, long) in
    record {
      within = inside;
      few = omega (arith, c.in_ok-meet_part.ensures.few, c.runs.invariant.few);
      made = subst (AreMade (same_both g.K.PartialEq.eq) (cells_of_both g.K.CellKey.cell_of) c.meet_part.new.met)
          (sym (zip_run left right xs ys from (length oids) (omega (arith, inside)) (omega (arith, inside)) a b))
          (c.in_ok-meet_part.ensures.made c.if-not-branch.false (take from (zip left right)) c.runs.invariant.made);
    }

pub returns : goal.returns
returns g c =
    let pairs = zip c.args.left.now c.args.right.now in
    let same = same_both g.K.PartialEq.eq in
    let made = cells_of_both g.K.CellKey.cell_of in
    let all : AreMade same made c.runs.met pairs = subst (AreMade same made c.runs.met) (take_all c.runs.from pairs (omega (arith, length-zip c.args.left.now c.args.right.now))) c.runs.invariant.made in
    c.in_ok-out.ensures ∙ all.numbered.out ∙ numbers_made same same_pair made (λ a b. ap (λ x. nat_eq a.0 b.0 && x) (g.met.K.CellKey.agrees a.1 b.1)) Oid pairs all.keys all.are
