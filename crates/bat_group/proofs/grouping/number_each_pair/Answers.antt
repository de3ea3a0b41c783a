use Rattle.std.proofs.Common.{◌≡◌, ◌+◌, ◌++◌, [], ◌∷◌, take, get_or, sym, ap, subst, ◌∙◌, arith}
use Rattle.std.specs.List.{zip}
use Rattle.std.specs.Result.{IfOk}
use Rattle.std.proofs.lemmas.List.{take_more, take_all}
use Rattle.std.proofs.lemmas.Slice.Zip.{length-zip}
use Rattle.cell_core.specs.declared.cell.Cell.{Cell}
use Rattle.cell_core.specs.Groups.{same_pair}
use Rattle.bat_group.specs.Keys.{AreKeys}
use Rattle.bat_group.proofs.GroupLemmas.{zip_read}
use Rattle.bat_group.proofs.grouping.number_each_pair.Goals as goal

pub loop-i-preserved : goal.loop-i-preserved
loop-i-preserved c =
    let left = c.args.left.now in
    let right = c.args.right.now in
    let pairs = zip left right in
    let i = c.loop-i.i in
    let p : Cell × Cell = (c.in_ok-copy.field-0, c.in_ok-copy-2.field-0) in
    let is : p ≡ get_or pairs i p = zip_read left right i p.0 p.1 (omega arith) (omega arith) c.in_ok-copy.ensures c.in_ok-copy-2.ensures in
    let next : take i pairs ++ p ∷ [] ≡ take (i + 1) pairs = ap (λ q. take i pairs ++ q ∷ []) is ∙ sym (take_more pairs i p (omega (arith, length-zip left right))) in
    record {
      few = omega (arith, c.in_ok-meet.ensures.few);
      numbered = subst (AreKeys same_pair c.meet.new.self) next (c.in_ok-meet.ensures.met (take i pairs) c.loop-i.invariant.numbered);
    }

pub returns : goal.returns
returns c =
    let pairs = zip c.args.left.now c.args.right.now in
    let all : AreKeys same_pair c.loop-i.met pairs = subst (AreKeys same_pair c.loop-i.met) (take_all c.loop-i.i pairs (omega (arith, length-zip c.args.left.now c.args.right.now))) c.loop-i.invariant.numbered in
    subst (λ wanted. IfOk c.finish.result (λ out. out ≡ wanted)) all.out c.finish.ensures
