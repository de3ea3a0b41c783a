use Rattle.std.proofs.Common.{◌<◌, List, length, ap, sym, subst, ◌∙◌}
use Rattle.std.specs.Prelude.{slice_index_or}
use Rattle.table_columns.specs.Rows.{KeptTable}
use Rattle.table_store.specs.Kept.{kept_at}
use Rattle.table_store.proofs.PlaceLemmas.{beside_there, kept_there, place_within}
use Rattle.table_store.proofs.TableLemmas.{kept_long}
use Rattle.table_store.proofs.tables.StoredTables.kept.Goals as goal

pub kept_in-requires : goal.kept_in-requires
kept_in-requires c =
    subst (λ (ks : List KeptTable). c.args.place < length ks) (sym c.deref.ensures.value)
    (subst (λ n. c.args.place < n) (sym (kept_long c.self.inside.headings.items c.self.inside.kept.items c.self.invariant))
    (place_within c.self.inside.headings.items c.self.inside.kept.items c.args.self.now c.args.place c.self.invariant c.self.view_is c.requires))

pub returns-clause-kept : goal.returns-clause-kept
returns-clause-kept c =
    kept_there c.self.inside.headings.items c.self.inside.kept.items c.args.place c.kept_in.result.now c.self.invariant
    (place_within c.self.inside.headings.items c.self.inside.kept.items c.args.self.now c.args.place c.self.invariant c.self.view_is c.requires)
    (c.kept_in.ensures ∙ ap (λ (ks : List KeptTable). slice_index_or ks c.args.place c.kept_in.result.now) c.deref.ensures.value)
    ∙ ap (kept_at c.args.place) c.self.view_is

pub returns-clause-beside : goal.returns-clause-beside
returns-clause-beside c =
    beside_there c.self.inside.headings.items c.self.inside.kept.items c.args.place c.kept_in.result.now c.self.invariant
    (place_within c.self.inside.headings.items c.self.inside.kept.items c.args.self.now c.args.place c.self.invariant c.self.view_is c.requires)
    (c.kept_in.ensures ∙ ap (λ (ks : List KeptTable). slice_index_or ks c.args.place c.kept_in.result.now) c.deref.ensures.value)
