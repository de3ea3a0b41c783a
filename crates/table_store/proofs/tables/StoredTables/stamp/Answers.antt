use Rattle.std.proofs.Common.{◌≡◌, ℕ, List, ◌++◌, length, take, drop, None, Some, true, ap, sym, subst, ◌∙◌, arith}
use Rattle.cell_core.specs.Tables.{has_column}
use Rattle.table_columns.specs.Rows.{KeptTable}
use Rattle.table_store.specs.declared.heading.Heading.{Heading}
use Rattle.table_store.specs.Content.{Content, version_of}
use Rattle.table_store.specs.Kept.{heading_place, stamped_at}
use Rattle.table_store.proofs.StampLemmas.{all_taken, are_stamped, db_is, none_stamped, others_is, touched_is}
use Rattle.table_store.proofs.tables.StoredTables.stamp.Goals as goal

pub returns-in_default-clause-touched : goal.returns-in_default-clause-touched
returns-in_default-clause-touched c =
    let none : heading_place c.args.touched.now.table c.self.inside.headings.items ≡ None =
    ap (heading_place c.args.touched.now.table) (sym c.deref.ensures.value) ∙ sym c.find_place.ensures.place ∙ c.in_default.is in
    λ table column one has.
    absurd (none_stamped c.args.touched.now c.args.version c.self.inside.headings.items c.self.inside.kept.items c.self.invariant none table column one (subst (λ (x : Content). has_column table column x.db ≡ true) (sym c.self.view_is) has))

pub invariant_of-self : goal.invariant_of-self
invariant_of-self c =
    let long : c.self.inside.kept.len ≡ length c.stamp_at.new.kept = omega (arith, c.self.inside.kept.ok.0, c.stamp_at.auto.kept, ap (λ (x : List KeptTable). length x) c.deref_mut.ensures.value) in
    let is : take c.self.inside.kept.len (c.stamp_at.new.kept ++ drop (length c.stamp_at.new.kept) c.self.inside.kept.items) ≡ stamped_at c.args.touched.now.columns c.args.version c.self.inside.headings.items c.in-Some.place c.self.inside.kept.items =
    all_taken c.self.inside.kept.len c.stamp_at.new.kept (drop (length c.stamp_at.new.kept) c.self.inside.kept.items) long
    ∙ c.stamp_at.ensures
    ∙ ap (λ (names : List (List ℕ)). stamped_at names c.args.version c.deref-2.result.now c.in-Some.place c.deref_mut.result.now) c.as_slice.ensures
    ∙ ap (λ (hs : List Heading). stamped_at c.args.touched.now.columns c.args.version hs c.in-Some.place c.deref_mut.result.now) c.deref-2.ensures.value
    ∙ ap (stamped_at c.args.touched.now.columns c.args.version c.self.inside.headings.items c.in-Some.place) c.deref_mut.ensures.value in
    are_stamped c.args.touched.now c.args.version c.self.inside.headings.items c.self.inside.kept.items c.self.invariant c.in-Some.place _ is

pub returns-clause-db : goal.returns-clause-db
returns-clause-db c =
    let long : c.self.inside.kept.len ≡ length c.stamp_at.new.kept = omega (arith, c.self.inside.kept.ok.0, c.stamp_at.auto.kept, ap (λ (x : List KeptTable). length x) c.deref_mut.ensures.value) in
    let is : take c.self.inside.kept.len (c.stamp_at.new.kept ++ drop (length c.stamp_at.new.kept) c.self.inside.kept.items) ≡ stamped_at c.args.touched.now.columns c.args.version c.self.inside.headings.items c.in-Some.place c.self.inside.kept.items =
    all_taken c.self.inside.kept.len c.stamp_at.new.kept (drop (length c.stamp_at.new.kept) c.self.inside.kept.items) long
    ∙ c.stamp_at.ensures
    ∙ ap (λ (names : List (List ℕ)). stamped_at names c.args.version c.deref-2.result.now c.in-Some.place c.deref_mut.result.now) c.as_slice.ensures
    ∙ ap (λ (hs : List Heading). stamped_at c.args.touched.now.columns c.args.version hs c.in-Some.place c.deref_mut.result.now) c.deref-2.ensures.value
    ∙ ap (stamped_at c.args.touched.now.columns c.args.version c.self.inside.headings.items c.in-Some.place) c.deref_mut.ensures.value in
    db_is c.args.touched.now c.args.version c.self.inside.headings.items c.self.inside.kept.items c.self.invariant c.in-Some.place _ is ∙ ap (λ (x : Content). x.db) c.self.view_is

pub returns-clause-touched : goal.returns-clause-touched
returns-clause-touched c =
    let long : c.self.inside.kept.len ≡ length c.stamp_at.new.kept = omega (arith, c.self.inside.kept.ok.0, c.stamp_at.auto.kept, ap (λ (x : List KeptTable). length x) c.deref_mut.ensures.value) in
    let is : take c.self.inside.kept.len (c.stamp_at.new.kept ++ drop (length c.stamp_at.new.kept) c.self.inside.kept.items) ≡ stamped_at c.args.touched.now.columns c.args.version c.self.inside.headings.items c.in-Some.place c.self.inside.kept.items =
    all_taken c.self.inside.kept.len c.stamp_at.new.kept (drop (length c.stamp_at.new.kept) c.self.inside.kept.items) long
    ∙ c.stamp_at.ensures
    ∙ ap (λ (names : List (List ℕ)). stamped_at names c.args.version c.deref-2.result.now c.in-Some.place c.deref_mut.result.now) c.as_slice.ensures
    ∙ ap (λ (hs : List Heading). stamped_at c.args.touched.now.columns c.args.version hs c.in-Some.place c.deref_mut.result.now) c.deref-2.ensures.value
    ∙ ap (stamped_at c.args.touched.now.columns c.args.version c.self.inside.headings.items c.in-Some.place) c.deref_mut.ensures.value in
    let at : heading_place c.args.touched.now.table c.self.inside.headings.items ≡ Some c.in-Some.place =
    ap (heading_place c.args.touched.now.table) (sym c.deref.ensures.value) ∙ sym c.find_place.ensures.place ∙ c.in-Some.is in
    λ table column one has. touched_is c.args.touched.now c.args.version c.self.inside.headings.items c.self.inside.kept.items c.self.invariant c.in-Some.place _ is at table column one has

pub returns-clause-others : goal.returns-clause-others
returns-clause-others c =
    let long : c.self.inside.kept.len ≡ length c.stamp_at.new.kept = omega (arith, c.self.inside.kept.ok.0, c.stamp_at.auto.kept, ap (λ (x : List KeptTable). length x) c.deref_mut.ensures.value) in
    let is : take c.self.inside.kept.len (c.stamp_at.new.kept ++ drop (length c.stamp_at.new.kept) c.self.inside.kept.items) ≡ stamped_at c.args.touched.now.columns c.args.version c.self.inside.headings.items c.in-Some.place c.self.inside.kept.items =
    all_taken c.self.inside.kept.len c.stamp_at.new.kept (drop (length c.stamp_at.new.kept) c.self.inside.kept.items) long
    ∙ c.stamp_at.ensures
    ∙ ap (λ (names : List (List ℕ)). stamped_at names c.args.version c.deref-2.result.now c.in-Some.place c.deref_mut.result.now) c.as_slice.ensures
    ∙ ap (λ (hs : List Heading). stamped_at c.args.touched.now.columns c.args.version hs c.in-Some.place c.deref_mut.result.now) c.deref-2.ensures.value
    ∙ ap (stamped_at c.args.touched.now.columns c.args.version c.self.inside.headings.items c.in-Some.place) c.deref_mut.ensures.value in
    let at : heading_place c.args.touched.now.table c.self.inside.headings.items ≡ Some c.in-Some.place =
    ap (heading_place c.args.touched.now.table) (sym c.deref.ensures.value) ∙ sym c.find_place.ensures.place ∙ c.in-Some.is in
    λ table column none.
    others_is c.args.touched.now c.args.version c.self.inside.headings.items c.self.inside.kept.items c.self.invariant c.in-Some.place _ is at table column none ∙ ap (λ (x : Content). version_of table column x) c.self.view_is
