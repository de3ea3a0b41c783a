use Rattle.std.proofs.Common.{List, ap, sym, ◌∙◌, subst}
use Rattle.std.specs.Prelude.{get_or}
use Rattle.std.proofs.lemmas.Result.{IfOk-weaker}
use Rattle.pool_entries.specs.Usable.{HaveRisingIds}
use Rattle.pool_policy.specs.declared.entry.PoolEntry.{PoolEntry}
use Rattle.pool_policy.specs.Looks.{found_of}
use Rattle.pool_policy.specs.Keeps.{Rises, faces}
use Rattle.recycle_pool.specs.Answers.{HandsOut, IsPooledAs}
use Rattle.recycle_pool.specs.Indexed.{IsIndexed}
use Rattle.recycle_pool.specs.Named.{IsNamed}
use Rattle.recycle_pool.specs.Usable.{IsLookable}
use Rattle.recycle_pool.proofs.Chains.{pooled_read}
use Rattle.recycle_pool.proofs.Findings.{exact_is, none_is}
use Rattle.recycle_pool.proofs.entries.Entries.find.Goals as goal

pub place-requires-clause-named : goal.place-requires-clause-named
place-requires-clause-named c = subst (IsNamed c.args.self.now.keys) (sym c.as_slice-entries.ensures.value) c.requires.known.named

pub place-requires-clause-rising : goal.place-requires-clause-rising
place-requires-clause-rising c = subst HaveRisingIds (sym c.as_slice-entries.ensures.value) (c.requires.lookable.next, c.requires.lookable.rising)

pub find_range-requires-clause-indexed : goal.find_range-requires-clause-indexed
find_range-requires-clause-indexed c = subst (IsIndexed c.args.self.now.children) (sym c.as_slice-entries.ensures.value) c.requires.known.indexed

pub find_range-requires-clause-lookable : goal.find_range-requires-clause-lookable
find_range-requires-clause-lookable c = subst IsLookable (sym c.as_slice-entries.ensures.value) c.requires.lookable

pub returns-in_ok-value-in-Some-clause-found : goal.returns-in_ok-value-in-Some-clause-found
returns-in_ok-value-in-Some-clause-found c =
    exact_is c.as_slice-entries.result.now c.args.key.now c.names.result c.in-Some.place c.index-entries-place-in-Some.result c.if-names.false c.names.ensures c.in-Some.ensures.found c.in-Some.ensures.within
    ∙ ap (λ (es : List PoolEntry). found_of es c.args.key.now) c.as_slice-entries.ensures.value

pub returns-in_ok-value-in-Some-clause-values : goal.returns-in_ok-value-in-Some-clause-values
returns-in_ok-value-in-Some-clause-values c = (
  subst (λ (es : List PoolEntry). IsPooledAs es (get_or c.as_slice-entries.result.now c.in-Some.place c.index-entries-place-in-Some.result).id c.in_ok-value-in-Some.value) c.as_slice-entries.ensures.value
      (pooled_read c.requires.lookable.next c.as_slice-entries.result.now c.in-Some.place c.index-entries-place.result c.index-entries-place-in-Some.result c.in_ok-value-in-Some.value (subst (λ (es : List PoolEntry). Rises 1 c.requires.lookable.next (faces es)) (sym c.as_slice-entries.ensures.value) c.requires.lookable.rising) c.in-Some.ensures.within c.in_ok-value-in-Some.ensures),
  c.requires.empty,
)

pub returns-in-None-clause-found : goal.returns-in-None-clause-found
returns-in-None-clause-found c =
    IfOk-weaker c.find_range.result _ _ (λ found is. is ∙ none_is c.as_slice-entries.result.now c.args.self.now.all.items c.args.key.now c.names.result c.if-names.false c.names.ensures c.as_slice-entries.ensures.value c.in-None.ensures.found) c.find_range.ensures.found

pub returns-in-None-clause-values : goal.returns-in-None-clause-values
returns-in-None-clause-values c =
    IfOk-weaker c.find_range.result _ _ (λ found handed. subst (λ (es : List PoolEntry). HandsOut es found c.find_range.new.parts.items) c.as_slice-entries.ensures.value handed) c.find_range.ensures.values
