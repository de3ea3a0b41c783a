use Rattle.std.proofs.Common.{◌≡◌, ℕ, ap, sym, ◌∙◌, subst, length, List, take, arith}
use Rattle.std.specs.Prelude.{All}
use Rattle.std.proofs.lemmas.List.{length-take-le}
use Rattle.std.proofs.lemmas.Option.{same_Some}
use Rattle.lineage_key.specs.Keys.{key_for, IsNumbered}
use Rattle.query_keys.specs.Keys.{with_version}
use Rattle.query_run.specs.Queries.{versions_in}
use Rattle.query_run.proofs.ReadLemmas.{bind_named, with_its_version}
use Rattle.query_run.proofs.ResultLemmas.{instr_is}
use Rattle.query_run.proofs.step.RunningQuery.key_at.Goals as goal

pub key_of-requires : goal.key_of-requires
key_of-requires c =
    let own = instr_is c.instrs_run.ensures c.args.self.now c.requires.under c.args.n c.instr.result.now c.instr.ensures in
    let ids = c.requires.under.ids in
    let here = ap (λ (ns : List ℕ). length ns) c.as_slice.ensures.value in
    let inside = c.requires.inside in
    let long : length (take c.args.n c.as_slice.result.now) ≡ c.args.n = length-take-le c.args.n c.as_slice.result.now (omega (arith, ids, here, inside)) in
    subst (λ n. All (IsNumbered n) c.instr.result.now.args) (sym long) own.numbered

pub version_for-version-requires : goal.version_for-version-requires
version_for-version-requires c =
    bind_named c.args.self.now.snap.db c.args.self.now.plan c.args.n c.instr.result.now (take c.args.n c.as_slice.result.now) c.in_ok-key.key
    (instr_is c.instrs_run.ensures c.args.self.now c.requires.under c.args.n c.instr.result.now c.instr.ensures) c.in_ok-key.ensures

pub returns : goal.returns
returns c = λ instr here.
    with_its_version (versions_in c.args.self.now.snap) c.in_ok-key.key c.version_for-version.result c.version_for-version.ensures
    ∙ ap (with_version (versions_in c.args.self.now.snap)) (c.in_ok-key.ensures ∙ (λ i. key_for (same_Some c.instr.result.now instr (sym c.instr.ensures ∙ here) i) (take c.args.n (c.as_slice.ensures.value i)) 0))
