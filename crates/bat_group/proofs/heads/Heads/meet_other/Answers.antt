use Rattle.std.proofs.Common.{◌≡◌, [], ◌∷◌, ◌++◌, length, get_or, sym, ap, subst, ◌∙◌}
use Rattle.std.proofs.lemmas.Result.{on_ok_weaker}
use Rattle.cell_core.specs.declared.cell.Cell.{Cell}
use Rattle.cell_core.specs.declared.cell.Cell.TheVariants.{Nil, Oid}
use Rattle.cell_core.specs.Same.{same_cell, same_equivalence}
use Rattle.cell_core.specs.Pairs.{tails_of}
use Rattle.cell_core.specs.Groups.{distinct, group_heads_of}
use Rattle.chunk_core.specs.Parts.{part_cells}
use Rattle.bat_group.specs.Numbers.{AreFirsts}
use Rattle.bat_group.proofs.NumberLemmas.{distinct_push}
use Rattle.bat_group.proofs.FirstLemmas.{firsts_counted}
use Rattle.bat_group.proofs.GroupLemmas.{heads_next, heads_stay, tails_push, length-group_heads}
use Rattle.bat_group.proofs.heads.Heads.meet_other.Goals as goal

pub returns-then-number-known-clause-met : goal.returns-then-number-known-clause-met
returns-then-number-known-clause-met c = λ before is.
    let p : Cell × Cell = (get_or (part_cells c.args.heads) c.args.at Nil, get_or (part_cells c.args.tails) c.args.at Nil) in
    let groups : c.args.self.now.count ≡ length (group_heads_of before) = firsts_counted _ _ _ is.known ∙ sym (length-group_heads before) in
    let met : distinct same_cell (tails_of (before ++ p ∷ [])) ≡ _ = ap (distinct same_cell) (tails_push before p) ∙ distinct_push same_cell same_equivalence (tails_of before) p.1 in
    record {
      known = subst (AreFirsts _ _) (sym met) (c.in_ok-number.ensures.numbered _ is.known);
      heads = is.heads ∙ sym (heads_stay before p c.in_ok-number.number (c.in_ok-number.ensures.place _ is.known) (λ e. c.if-number-known.true (e ∙ sym groups)));
    }

pub returns-clause-met : goal.returns-clause-met
returns-clause-met c = on_ok_weaker c.append.result (λ more before is.
    let p : Cell × Cell = (get_or (part_cells c.args.heads) c.args.at Nil, get_or (part_cells c.args.tails) c.args.at Nil) in
    let n = c.in_ok-number.number in
    let groups : c.args.self.now.count ≡ length (group_heads_of before) = firsts_counted _ _ _ is.known ∙ sym (length-group_heads before) in
    let met : distinct same_cell (tails_of (before ++ p ∷ [])) ≡ _ = ap (distinct same_cell) (tails_push before p) ∙ distinct_push same_cell same_equivalence (tails_of before) p.1 in
    record {
      known = subst (AreFirsts _ _) (sym met) (c.in_ok-number.ensures.numbered _ is.known);
      heads = more ∙ ap (λ l. l ++ (Oid n, c.in_ok-cell_at.field-0) ∷ []) is.heads ∙ ap (λ h. group_heads_of before ++ (Oid n, h) ∷ []) c.in_ok-cell_at.ensures
          ∙ sym (heads_next before p n (c.in_ok-number.ensures.place _ is.known) (c.if-number-known.false ∙ groups));
    }) c.append.ensures.ok
