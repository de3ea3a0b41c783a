use Rattle.std.proofs.Common.{◌<◌, List, length, ap, sym, subst, ◌∙◌}
use Rattle.std.specs.Prelude.{slice_index_or}
use Rattle.table_store.specs.declared.heading.Heading.{Heading}
use Rattle.table_store.specs.Content.{Content}
use Rattle.table_store.specs.Kept.{heading_at}
use Rattle.table_store.proofs.PlaceLemmas.{heading_there, place_within}
use Rattle.table_store.proofs.tables.StoredTables.heading.Goals as goal

pub heading_in-requires : goal.heading_in-requires
heading_in-requires c =
    subst (λ (hs : List Heading). c.args.place < length hs) (sym c.deref.ensures.value)
    (place_within c.self.inside.headings.items c.self.inside.kept.items c.args.self.now c.args.place c.self.invariant c.self.view_is c.requires)

pub returns : goal.returns
returns c =
    heading_there c.self.inside.headings.items c.self.inside.kept.items c.args.place c.heading_in.result.now c.self.invariant
    (place_within c.self.inside.headings.items c.self.inside.kept.items c.args.self.now c.args.place c.self.invariant c.self.view_is c.requires)
    (c.heading_in.ensures ∙ ap (λ (hs : List Heading). slice_index_or hs c.args.place c.heading_in.result.now) c.deref.ensures.value)
    ∙ ap (λ (x : Content). heading_at c.args.place x.db) c.self.view_is
