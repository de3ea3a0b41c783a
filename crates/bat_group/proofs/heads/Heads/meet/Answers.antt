use Rattle.std.proofs.Common.{◌≡◌, ◌<◌, true, cond, List, [], ◌∷◌, ◌++◌, length, get_or, refl, sym, ap, subst, ◌∙◌, arith}
use Rattle.std.specs.List.{list_any, position_or_len}
use Rattle.cell_core.specs.declared.cell.Cell.{Cell}
use Rattle.cell_core.specs.declared.cell.Cell.TheVariants.{Nil}
use Rattle.cell_core.specs.Same.{same_cell, same_equivalence}
use Rattle.cell_core.specs.Pairs.{tails_of}
use Rattle.cell_core.specs.Groups.{distinct}
use Rattle.chunk_core.specs.Parts.{part_cells}
use Rattle.bat_group.specs.Numbers.{AreFirsts}
use Rattle.bat_group.proofs.NumberLemmas.{distinct_push, found_by_number}
use Rattle.bat_group.proofs.FirstLemmas.{firsts_counted}
use Rattle.bat_group.proofs.GroupLemmas.{heads_stay, tails_push, length-group_heads}
use Rattle.bat_group.proofs.heads.Heads.meet.Goals as goal

pub returns-then-has_met-clause-met : goal.returns-then-has_met-clause-met
returns-then-has_met-clause-met c = λ before is.
    let p : Cell × Cell = (get_or (part_cells c.args.heads) c.args.at Nil, get_or (part_cells c.args.tails) c.args.at Nil) in
    let ds : List Cell = distinct same_cell (tails_of before) in
    let small : position_or_len (λ y. same_cell y p.1) ds < c.args.self.now.count = c.has_met.ensures c.if-has_met.true ds is.known in
    let long : c.args.self.now.count ≡ length ds = firsts_counted _ _ _ is.known in
    let any : list_any (λ y. same_cell y p.1) ds ≡ true = found_by_number (λ y. same_cell y p.1) ds (omega (arith, small, long)) in
    let same : distinct same_cell (tails_of (before ++ p ∷ [])) ≡ ds =
    ap (distinct same_cell) (tails_push before p) ∙ distinct_push same_cell same_equivalence (tails_of before) p.1 ∙ ap (λ b. cond b ds (ds ++ p.1 ∷ [])) any in
    record {
      known = subst (AreFirsts _ _) (sym same) is.known;
      heads = is.heads ∙ sym (heads_stay before p (position_or_len (λ y. same_cell y p.1) ds) refl (λ e. omega (arith, small, long, e, length-group_heads before)));
    }
