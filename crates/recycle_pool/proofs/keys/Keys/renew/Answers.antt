use Rattle.std.proofs.Common.{◌++◌, ◌∷◌, [], ◌∙◌, ap, arith, sym, subst, take}
use Rattle.std.proofs.lemmas.List.{take_all, take_more}
use Rattle.recycle_pool.specs.Named.{IsNamed}
use Rattle.recycle_pool.proofs.keys.Keys.renew.Goals as goal

pub entries-preserved : goal.entries-preserved
entries-preserved c = record {
  named = subst (IsNamed c.put.new.self) (ap (λ e. take c.entries.i c.args.entries.now ++ e ∷ []) c.index-entries-i.is ∙ sym (take_more c.args.entries.now c.entries.i c.index-entries-i.result (omega (arith, c.entries-test.true))))
      (c.put.ensures.named c.entries.invariant.named);
  count = omega (arith, c.put.ensures.count, c.entries.invariant.count);
  room = omega (arith, c.put.ensures.room, c.entries.invariant.room);
}

pub returns-clause-named : goal.returns-clause-named
returns-clause-named c = subst (IsNamed c.entries.self) (take_all c.entries.i c.args.entries.now (omega (arith, c.entries-test.false))) c.entries.invariant.named
