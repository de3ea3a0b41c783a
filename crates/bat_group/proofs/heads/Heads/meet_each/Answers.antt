use Rattle.std.proofs.Common.{◌≡◌, ◌+◌, ◌<◌, [], ◌∷◌, ◌++◌, length, get_or, take, sym, ap, subst, ◌∙◌, arith, append_assoc}
use Rattle.std.specs.List.{zip}
use Rattle.std.proofs.lemmas.List.{take_more, take_all}
use Rattle.std.proofs.lemmas.Slice.Zip.{length-zip, get_or-zip}
use Rattle.cell_core.specs.declared.cell.Cell.{Cell}
use Rattle.cell_core.specs.declared.cell.Cell.TheVariants.{Nil}
use Rattle.cell_core.specs.Pairs.{Pairs}
use Rattle.chunk_core.specs.Parts.{part_cells}
use Rattle.bat_group.specs.Heads.{AreHeads}
use Rattle.bat_group.proofs.heads.Heads.meet_each.Goals as goal

pub loop-i-preserved : goal.loop-i-preserved
loop-i-preserved c =
    let hs = part_cells c.args.heads in
    let ts = part_cells c.args.tails in
    let i = c.loop-i.i in
    let none : Cell × Cell = (Nil, Nil) in
    let within : i < length (zip hs ts) = omega (arith, length-zip hs ts) in
    let pair : get_or (zip hs ts) i none ≡ (get_or hs i Nil, get_or ts i Nil) = get_or-zip hs ts i none (omega arith) (omega arith) in
    record {
      few = omega (arith, c.in_ok-meet.ensures.few);
      met = λ before is.
          let longer : before ++ take (i + 1) (zip hs ts) ≡ (before ++ take i (zip hs ts)) ++ (get_or hs i Nil, get_or ts i Nil) ∷ [] =
          ap (λ l. before ++ l) (take_more (zip hs ts) i none within ∙ ap (λ q. take i (zip hs ts) ++ q ∷ []) pair) ∙ sym (append_assoc before (take i (zip hs ts)) ((get_or hs i Nil, get_or ts i Nil) ∷ [])) in
          subst (λ (l : Pairs). AreHeads c.meet.new.self l) (sym longer) (c.in_ok-meet.ensures.met (before ++ take i (zip hs ts)) (c.loop-i.invariant.met before is));
    }

pub returns-clause-met : goal.returns-clause-met
returns-clause-met c = λ before is.
    let hs = part_cells c.args.heads in
    let ts = part_cells c.args.tails in
    let all : take c.loop-i.i (zip hs ts) ≡ zip hs ts = take_all c.loop-i.i (zip hs ts) (omega (arith, length-zip hs ts)) in
    subst (λ (l : Pairs). AreHeads c.loop-i.self (before ++ l)) all (c.loop-i.invariant.met before is)
