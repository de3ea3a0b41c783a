-- What a look finds: an entry of the key, or selections from a parent that is pooled; and the heads of pieces rise.
use Rattle.std.proofs.Common.{◌≡◌, ℕ, ◌<◌, List, [], ◌∷◌, map, Bool, true, false, cond, Option, Some, None, refl, ap, sym, ◌∙◌, subst, arith}
use Rattle.std.specs.Prelude.{if◌then◌else◌, filter, slice_index, unwrap_or, IsSome}
use Rattle.std.specs.List.{AllByRecursion, filter_map}
use Rattle.std.specs.Option.{option_map, option_map_or}
use Rattle.std.proofs.lemmas.Bool.{and_from}
use Rattle.cell_core.specs.declared.cell.Cell.{Cell}
use Rattle.cell_core.specs.declared.cut.Span.{Span}
use Rattle.cell_core.specs.declared.operator.Op.{Op}
use Rattle.cell_core.specs.declared.operator.Op.TheVariants.{Select}
use Rattle.cell_core.specs.declared.operator.Value.TheVariants.{Bat}
use Rattle.cell_core.specs.Operators.{operate, of_range}
use Rattle.cell_core.specs.Pairs.{Pairs, heads_of, is_true}
use Rattle.cell_core.specs.Relations.{selected}
use Rattle.cell_core.specs.SameInstr.{same_op, same_op_decides}
use Rattle.chunk_core.specs.Facts.{rises}
use Rattle.lineage_key.specs.declared.key.Key.{Key}
use Rattle.lineage_key.specs.declared.key.KeyArg.{KeyArg}
use Rattle.lineage_key.specs.declared.key.KeyArg.TheVariants.{Const, Id}
use Rattle.lineage_key.specs.Parents.{id_in, parents_of}
use Rattle.lineage_key.specs.Same.{same_key_decides}
use Rattle.lineage_key.specs.Spans.{span_asked, span_between}
use Rattle.subsume.specs.Cutting.{Entry, IsOfEntry, is_contained}
use Rattle.subsume.proofs.Cuttings.{parts_within}
use Rattle.subsume.proofs.LeastFirst.{first_in}
use Rattle.subsume.proofs.Members.{In, in_from_contains, in_map, map_in, filter_in}
use Rattle.least_cover.specs.Chosen.{Selection, entry_of, cheapest_of}
use Rattle.least_cover.proofs.Pieces.{cheapest_cuts_up_holds}
use Rattle.evict_admit.specs.Runs.{is_one_of}
use Rattle.reuse_laws.specs.Reuse.{selected_in, Rises}
use Rattle.cell_core.specs.Merged.{by_head}
use Rattle.pool_policy.specs.declared.entry.PoolEntry.{PoolEntry}
use Rattle.pool_policy.specs.Pool.{PoolState}
use Rattle.pool_policy.specs.Keyed.{has_key, first_parent, entry_of_id, entry_of_key}
use Rattle.pool_policy.specs.Keeps.{Face, face_of, faces, arg_value, value_in, IsParentIn, IsPool}
use Rattle.pool_policy.specs.Laws.{value_of}
use Rattle.pool_policy.specs.Looks.{Finding, is_smaller, selection_from, selections_from, container_of, has_rising_heads, cover_of, across_found, within_found, exact_found, target_found, look_of}
use Rattle.pool_policy.specs.Looks.Finding.{Exact, Within, Across, Miss}
use Rattle.pool_policy.proofs.Ends.{found_in, filter_map_in}
use Rattle.pool_policy.proofs.Faces.{value_by_id, value_of_in, entry_rooted}
use Rattle.pool_policy.proofs.Lists.{all_filter}
use Rattle.pool_policy.proofs.Reuses.{from_entry, select_is_plain}
use Rattle.pool_policy.proofs.Rising.{rises_all}

-- ## Heads that rise

rises_kept : (p : Cell × Cell → Bool) (b : Pairs) → Rises b → Rises (filter p b)
rises_kept p [] up = tt
rises_kept p (x ∷ b) up = elim (p x) as (λ t. Rises (cond t (x ∷ filter p b) (filter p b))) [
  | true ↦ (all_filter (λ q. by_head x q ≡ true) p b up.0, rises_kept p b up.1)
  | false ↦ rises_kept p b up.1
]

rises_told : (b : Pairs) → Rises b → rises (heads_of b) ≡ true
rises_told [] up = refl
rises_told (x ∷ []) up = refl
rises_told (x ∷ y ∷ b) up = and_from (by_head x y) (rises (heads_of (y ∷ b))) up.0.0 (rises_told (y ∷ b) up.1)

-- ## Findings

-- what is found otherwise than as the key's own comes from selections from its first parent
pub record IsRanged (pool : PoolState) (key : Key) (found : Finding) : Type 0 where
  pub ids : is_one_of (parents_of key) 0 ≡ false
  pub target : Span
  pub asked : span_asked key ≡ Some target
  pub from : within_found (container_of (first_parent key) target pool.entries) (across_found (cover_of (first_parent key) target pool.entries)) ≡ found

module _ (pool : PoolState) (key : Key) where
  abbrev looked : Bool → Finding
  looked b = if b then Miss else exact_found (entry_of_key key pool.entries) (target_found (first_parent key) pool.entries (span_asked key))

  -- a finding is a miss, an entry of the key, or ranged
  pub exact_entry : (id : ℕ) → look_of pool key ≡ Exact id → (e : PoolEntry) × In e pool.entries × (e.key ≡ key) × (e.id ≡ id)
  exact_entry id found = elim (is_one_of (parents_of key) 0) as (λ b. looked b ≡ Exact id → (e : PoolEntry) × In e pool.entries × (e.key ≡ key) × (e.id ≡ id)) [
    | true ↦ λ h. cc
    | false ↦ λ h. go (entry_of_key key pool.entries) refl h
  ] found
    where
      never : (o : Option Span) → target_found (first_parent key) pool.entries o ≡ Exact id → ⊥
      never None h = cc
      never (Some target) h = inner (container_of (first_parent key) target pool.entries) (cover_of (first_parent key) target pool.entries) h
        where
          inner : (c : Option Selection) (o : Option (List Entry)) → within_found c (across_found o) ≡ Exact id → ⊥
          inner (Some s) o h = cc
          inner None None h = cc
          inner None (Some pieces) h = cc

      go : (o : Option PoolEntry) → entry_of_key key pool.entries ≡ o → exact_found o (target_found (first_parent key) pool.entries (span_asked key)) ≡ Exact id → (e : PoolEntry) × In e pool.entries × (e.key ≡ key) × (e.id ≡ id)
      go None e h = absurd (never (span_asked key) h)
      go (Some x) e h =
          let here = found_in (has_key key) pool.entries x e in
          (x, here.0, (same_key_decides x.key key).0 here.1, cc)

  pub ranged : (found : Finding) → ((id : ℕ) → found ≡ Exact id → ⊥) → (found ≡ Miss → ⊥) → look_of pool key ≡ found → IsRanged pool key found
  ranged found inexact some is = elim (is_one_of (parents_of key) 0) as (λ b. is_one_of (parents_of key) 0 ≡ b → looked b ≡ found → IsRanged pool key found) [
    | true ↦ λ _ h. absurd (some (sym h))
    | false ↦ λ ids h. go ids (entry_of_key key pool.entries) h
  ] refl is
    where
      asks : is_one_of (parents_of key) 0 ≡ false → (o : Option Span) → span_asked key ≡ o → target_found (first_parent key) pool.entries o ≡ found → IsRanged pool key found
      asks ids None e h = absurd (some (sym h))
      asks ids (Some target) e h = record { ids = ids; target = target; asked = e; from = h }

      go : is_one_of (parents_of key) 0 ≡ false → (o : Option PoolEntry) → exact_found o (target_found (first_parent key) pool.entries (span_asked key)) ≡ found → IsRanged pool key found
      go ids (Some e) h = absurd (inexact e.id (sym h))
      go ids None h = asks ids (span_asked key) refl h

-- ## Selections from a parent

-- a selection is one of its arguments' first, whose heads rise
range_rises : (fs : List Face) (args : List KeyArg) (v : Pairs) (s : Span) → of_range (map (arg_value fs) args) ≡ Some (Bat v) → span_between args ≡ Some s
    → Rises (unwrap_or (value_in fs (slice_index (filter_map id_in args) 0)) []) → Rises v
range_rises fs (Id p ∷ Const low ∷ Const high ∷ Const li ∷ Const hi ∷ []) v s e h up =
    let value : selected low high (is_true li) (is_true hi) (unwrap_or (value_in fs p) []) ≡ v = cc in
    subst Rises value (rises_kept _ (unwrap_or (value_in fs p) []) up)
range_rises fs _ v s e h up = cc

pub is_select : (key : Key) (s : Span) → span_asked key ≡ Some s → (key.op ≡ Select) × (span_between key.args ≡ Some s)
is_select key s e = elim (same_op key.op Select) as (λ b. same_op key.op Select ≡ b → (if b then span_between key.args else None) ≡ Some s → (key.op ≡ Select) × (span_between key.args ≡ Some s)) [
  | true ↦ λ is h. ((same_op_decides key.op Select).0 is, h)
  | false ↦ λ is h. cc
] refl e

module _ (pool : PoolState) (known : IsPool pool) where
  entry_value : (e : PoolEntry) → In e pool.entries → value_of pool e.id ≡ e.value
  entry_value e i = ap (λ o. unwrap_or o []) (value_of_in 1 pool.next (faces pool.entries) (face_of e) known.rising (in_map face_of pool.entries e i))

  -- the heads of a pooled selection rise where those of its parent do
  selection_rises : (parent : ℕ) (s : Selection) → In s (selections_from parent pool.entries) → Rises (value_of pool parent) → Rises (value_of pool s.0)
  selection_rises parent s i up =
      let from = filter_map_in (selection_from parent) pool.entries s i in
      let told = from_entry parent from.0 s from.2 in
      let two = is_select from.0.key s.1.1 told.1 in
      let rooted = entry_rooted pool.options.budget pool known from.0 from.1 in
      let computed = sym (ap (λ (o : Op). operate o (map (arg_value (faces pool.entries)) from.0.key.args)) two.0) ∙ rooted.computed (select_is_plain from.0.key s.1.1 told.1) in
      let value : value_of pool s.0 ≡ from.0.value = ap (value_of pool) (sym told.2) ∙ entry_value from.0 from.1 in
      subst Rises (sym value) (range_rises (faces pool.entries) from.0.key.args from.0.value s.1.1 computed two.1 (subst (λ p. Rises (value_of pool p)) (sym told.0) up))

  -- the parent of a pooled selection is pooled
  first_pooled : (id parent : ℕ) (parents : List ℕ) → AllByRecursion (IsParentIn (faces pool.entries) id) parents → slice_index parents 0 ≡ parent → 0 < parent → IsSome (value_in (faces pool.entries) parent)
  first_pooled id parent [] all e above = absurd (omega (arith, e, above))
  first_pooled id parent (p ∷ parents) all e above = subst (λ n. IsSome (value_in (faces pool.entries) n)) e all.0.2

  parent_pooled : (parent : ℕ) (s : Selection) → In s (selections_from parent pool.entries) → 0 < parent → IsSome (value_in (faces pool.entries) parent)
  parent_pooled parent s i above =
      let from = filter_map_in (selection_from parent) pool.entries s i in
      let told = from_entry parent from.0 s from.2 in
      first_pooled from.0.id parent (parents_of from.0.key) (entry_rooted pool.options.budget pool known from.0 from.1).parents told.0 above

  module _ (parent : ℕ) (target : Span) where
    pub within_pooled : (id : ℕ) → within_found (container_of parent target pool.entries) (across_found (cover_of parent target pool.entries)) ≡ Within id → 0 < parent → IsSome (value_in (faces pool.entries) parent)
    within_pooled id found above = go (container_of parent target pool.entries) refl (cover_of parent target pool.entries) found
      where
        go : (c : Option Selection) → container_of parent target pool.entries ≡ c → (o : Option (List Entry)) → within_found c (across_found o) ≡ Within id → IsSome (value_in (faces pool.entries) parent)
        go None e None h = cc
        go None e (Some pieces) h = cc
        go (Some s) e o h =
            let among = filter_in (λ (x : Selection). is_contained target x.1.1) (selections_from parent pool.entries) s (first_in is_smaller (filter (λ (x : Selection). is_contained target x.1.1) (selections_from parent pool.entries)) s e) in
            parent_pooled parent s among.0 above

    pub record IsCovered (pieces : List Entry) : Type 0 where
      pub rising : has_rising_heads parent pool.entries ≡ true
      pub cheapest : cheapest_of target (selections_from parent pool.entries) ≡ Some pieces

    pub across_covered : (pieces : List Entry) → within_found (container_of parent target pool.entries) (across_found (cover_of parent target pool.entries)) ≡ Across pieces → IsCovered pieces
    across_covered pieces found = go (container_of parent target pool.entries) found
      where
        covered : (b : Bool) → has_rising_heads parent pool.entries ≡ b → (if b then cheapest_of target (selections_from parent pool.entries) else None) ≡ Some pieces → IsCovered pieces
        covered true up h = record { rising = up; cheapest = h }
        covered false up h = cc

        inner : (o : Option (List Entry)) → cover_of parent target pool.entries ≡ o → across_found o ≡ Across pieces → IsCovered pieces
        inner None e h = cc
        inner (Some ps) e h = let same : ps ≡ pieces = cc in covered (has_rising_heads parent pool.entries) refl (e ∙ ap Some same)

        go : (c : Option Selection) → within_found c (across_found (cover_of parent target pool.entries)) ≡ Across pieces → IsCovered pieces
        go None h = inner (cover_of parent target pool.entries) refl h
        go (Some s) h = cc

    module _ (pieces : List Entry) (covered : IsCovered pieces) where
      -- the parent is pooled, and its heads rise
      risen : (o : Option PoolEntry) → entry_of_id parent pool.entries ≡ o → option_map_or (λ (e : PoolEntry). rises (heads_of e.value)) o false ≡ true → IsSome (value_in (faces pool.entries) parent) × Rises (value_of pool parent)
      risen None is h = cc
      risen (Some x) is h =
          let value = value_by_id pool.entries parent ∙ ap (option_map (λ (e : PoolEntry). e.value)) is in
          (subst (λ o. IsSome o) (sym value) refl, subst Rises (sym (ap (λ o. unwrap_or o []) value)) (rises_all x.value h))

      pub across_pooled : IsSome (value_in (faces pool.entries) parent)
      across_pooled = (risen (entry_of_id parent pool.entries) refl covered.rising).0

      pieces_rise : (ps : List Entry) → AllByRecursion (IsOfEntry (map entry_of (selections_from parent pool.entries))) ps → AllByRecursion (λ (piece : Entry). rises (heads_of (selected_in piece.1 (value_of pool piece.0))) ≡ true) ps
      pieces_rise [] all = tt
      pieces_rise (piece ∷ ps) all =
          let entry = all.0.0 in
          let from = map_in entry_of (selections_from parent pool.entries) entry (in_from_contains (map entry_of (selections_from parent pool.entries)) entry all.0.1) in
          let id : piece.0 ≡ from.0.0 = all.0.2 ∙ ap (λ (x : Entry). x.0) from.2 in
          let up = selection_rises parent from.0 from.1 (risen (entry_of_id parent pool.entries) refl covered.rising).1 in
          let here : Rises (selected_in piece.1 (value_of pool piece.0)) = rises_kept _ (value_of pool piece.0) (subst (λ n. Rises (value_of pool n)) (sym id) up) in
          (rises_told (selected_in piece.1 (value_of pool piece.0)) here, pieces_rise ps all.1)

      pub parts_rise : AllByRecursion (λ (piece : Entry). rises (heads_of (selected_in piece.1 (value_of pool piece.0))) ≡ true) pieces
      parts_rise =
          let selections = selections_from parent pool.entries in
          pieces_rise pieces (parts_within target (map entry_of selections) target.low pieces ((cheapest_cuts_up_holds target selections).0 pieces covered.cheapest))
