-- What is computed from what a look finds is the plain result.
use Rattle.std.proofs.Common.{◌≡◌, ℕ, List, [], ◌∷◌, true, false, Option, Some, None, refl, ap, sym, ◌∙◌, subst, length, map}
use Rattle.std.specs.Prelude.{◌==◌, filter, if◌then◌else◌, Contains, slice_index}
use Rattle.std.specs.List.{filter_map}
use Rattle.std.specs.Option.{option_map, option_map_or, unwrap_or}
use Rattle.std.proofs.lemmas.Bool.Decides.{Decides-eqb}
use Rattle.cell_core.specs.declared.cell.Cell.{Cell}
use Rattle.cell_core.specs.declared.cut.Span.{Span}
use Rattle.cell_core.specs.declared.operator.Op.TheVariants.{Select, Bind}
use Rattle.cell_core.specs.declared.operator.Value.TheVariants.{Bat}
use Rattle.cell_core.specs.Pairs.{Pairs, heads_of, is_true}
use Rattle.cell_core.specs.Relations.{selected}
use Rattle.cell_core.specs.Operators.{operate, of_range}
use Rattle.cell_core.specs.SameInstr.{same_op, same_op_decides}
use Rattle.chunk_core.specs.Facts.{rises}
use Rattle.lineage_key.specs.declared.key.Key.{Key}
use Rattle.lineage_key.specs.declared.key.KeyArg.{KeyArg}
use Rattle.lineage_key.specs.declared.key.KeyArg.TheVariants.{Const, Id}
use Rattle.lineage_key.specs.Parents.{id_in, parents_of, is_bind}
use Rattle.lineage_key.specs.Same.{same_key_decides}
use Rattle.lineage_key.specs.Spans.{span_asked, span_between}
use Rattle.subsume.specs.Cutting.{Entry, is_contained}
use Rattle.subsume.proofs.Members.{In, in_from_contains, in_map, map_in, filter_in}
use Rattle.least_cover.specs.Chosen.{Selection, entry_of, cheapest_of}
use Rattle.least_cover.proofs.Pieces.{cheapest_cuts_up_holds}
use Rattle.evict_admit.specs.Runs.{is_one_of}
use Rattle.reuse_laws.specs.Reuse.{picked, span_for, is_askable, selected_in, Rises}
use Rattle.cell_core.specs.Merged.{merged}
use Rattle.reuse_laws.proofs.Bridge.{selected_is, spans_ask}
use Rattle.reuse_laws.proofs.Within.{picked_within}
use Rattle.reuse_laws.proofs.Reused.{reused_across, pieces_serve}
use Rattle.pool_policy.specs.declared.entry.PoolEntry.{PoolEntry}
use Rattle.pool_policy.specs.Pool.{PoolState}
use Rattle.pool_policy.specs.Keyed.{has_key, first_parent, entry_of_id, entry_of_key}
use Rattle.pool_policy.specs.Looks.{Finding, is_smaller, selection_from, selections_from, container_of, has_rising_heads, cover_of, across_found, within_found, exact_found, target_found, look_of}
use Rattle.pool_policy.specs.Looks.Finding.{Exact, Within, Across, Miss}
use Rattle.pool_policy.specs.Keeps.{Face, face_of, faces, value_in, arg_value, IsRooted, IsPool}
use Rattle.pool_policy.specs.Laws.{value_of, selection_key, FindingsServe, ReuseIsPlain}
use Rattle.subsume.proofs.LeastFirst.{first_in}
use Rattle.pool_policy.proofs.Faces.{value_by_id, value_of_in, entry_rooted}
use Rattle.pool_policy.proofs.Rising.{rises_all}
use Rattle.pool_policy.proofs.Ends.{found_in, filter_map_in}

-- ## A pooled selection

-- a selection over some arguments keeps what its span keeps of its first parent's value
range_picked : (fs : List Face) (args : List KeyArg) (v : Pairs) (s : Span) → of_range (map (arg_value fs) args) ≡ Some (Bat v) → span_between args ≡ Some s
    → (v ≡ picked s (unwrap_or (value_in fs (slice_index (filter_map id_in args) 0)) [])) × (is_askable s ≡ true)
range_picked fs (Id p ∷ Const low ∷ Const high ∷ Const li ∷ Const hi ∷ []) v s e h =
    let value : selected low high (is_true li) (is_true hi) (unwrap_or (value_in fs p) []) ≡ v = cc in
    let span : span_for low high li hi ≡ s = cc in
    (sym value ∙ selected_is low high li hi (unwrap_or (value_in fs p) []) ∙ ap (λ s. picked s (unwrap_or (value_in fs p) [])) span, ap is_askable (sym span) ∙ spans_ask low high li hi)
range_picked fs _ v s e h = cc

is_select : (key : Key) (s : Span) → span_asked key ≡ Some s → (key.op ≡ Select) × (span_between key.args ≡ Some s)
is_select key s e = elim (same_op key.op Select) as (λ b. same_op key.op Select ≡ b → (if b then span_between key.args else None) ≡ Some s → (key.op ≡ Select) × (span_between key.args ≡ Some s)) [
  | true ↦ λ is h. ((same_op_decides key.op Select).0 is, h)
  | false ↦ λ is h. cc
] refl e

-- a key that asks for a span is no bind
pub select_is_plain : (key : Key) (s : Span) → span_asked key ≡ Some s → is_bind key ≡ false
select_is_plain key s asked = ap (λ o. same_op o Bind) (is_select key s asked).0

selection_picked : (fs : List Face) (f : Face) (s : Span) → IsRooted fs f → span_asked f.key ≡ Some s → (f.value ≡ picked s (unwrap_or (value_in fs (first_parent f.key)) [])) × (is_askable s ≡ true)
selection_picked fs f s rooted asked =
    let two = is_select f.key s asked in
    let plain : is_bind f.key ≡ false = ap (λ o. same_op o Bind) two.0 in
    range_picked fs f.key.args f.value s (sym (ap (λ o. operate o (map (arg_value fs) f.key.args)) two.0) ∙ rooted.computed plain) two.1

-- what a selection from a parent comes from
pub from_entry : (parent : ℕ) (e : PoolEntry) (s : Selection) → selection_from parent e ≡ Some s → (first_parent e.key ≡ parent) × (span_asked e.key ≡ Some s.1.1) × (e.id ≡ s.0) × (length e.value ≡ s.1.0)
from_entry parent e s is = elim (first_parent e.key == parent) as (λ b. (first_parent e.key == parent) ≡ b → (if b then option_map (λ span. (e.id, (length e.value, span))) (span_asked e.key) else None) ≡ Some s → (first_parent e.key ≡ parent) × (span_asked e.key ≡ Some s.1.1) × (e.id ≡ s.0) × (length e.value ≡ s.1.0)) [
  | true ↦ λ here h. go ((Decides-eqb (first_parent e.key) parent).0 here) (span_asked e.key) refl h
  | false ↦ λ _ h. cc
] refl is
  where
    go : first_parent e.key ≡ parent → (o : Option Span) → span_asked e.key ≡ o → option_map (λ span. (e.id, (length e.value, span))) o ≡ Some s → (first_parent e.key ≡ parent) × (span_asked e.key ≡ Some s.1.1) × (e.id ≡ s.0) × (length e.value ≡ s.1.0)
    go same None asked h = cc
    go same (Some span) asked h =
        let all : (e.id, (length e.value, span)) ≡ s = cc in
        (same, asked ∙ ap (λ (x : Selection). Some x.1.1) all, ap (λ (x : Selection). x.0) all, ap (λ (x : Selection). x.1.0) all)

module _ (pool : PoolState) (known : IsPool pool) where
  entry_value : (e : PoolEntry) → In e pool.entries → value_of pool e.id ≡ e.value
  entry_value e i = ap (λ o. unwrap_or o []) (value_of_in 1 pool.next (faces pool.entries) (face_of e) known.rising (in_map face_of pool.entries e i))

  -- a pooled selection keeps what its span keeps of its parent's value
  selection_known : (parent : ℕ) (s : Selection) → In s (selections_from parent pool.entries) → (value_of pool s.0 ≡ picked s.1.1 (value_of pool parent)) × (is_askable s.1.1 ≡ true)
  selection_known parent s i =
      let from = filter_map_in (selection_from parent) pool.entries s i in
      let told = from_entry parent from.0 s from.2 in
      let all = selection_picked (faces pool.entries) (face_of from.0) s.1.1 (entry_rooted pool.options.budget pool known from.0 from.1) told.1 in
      (ap (value_of pool) (sym told.2) ∙ entry_value from.0 from.1 ∙ all.0 ∙ ap (λ p. picked s.1.1 (value_of pool p)) told.0, all.1)

  -- ## Exact

  found_key : (key : Key) (e : PoolEntry) → entry_of_key key pool.entries ≡ Some e → In e pool.entries × (e.key ≡ key)
  found_key key e is = let h = found_in (has_key key) pool.entries e is in (h.0, (same_key_decides e.key key).0 h.1)

  exact_serves : (key : Key) (id : ℕ) → look_of pool key ≡ Exact id → is_bind key ≡ false → operate key.op (map (arg_value (faces pool.entries)) key.args) ≡ Some (Bat (value_of pool id))
  exact_serves key id found plain =
      elim (is_one_of (parents_of key) 0) as (λ b. (if b then Miss else exact_found (entry_of_key key pool.entries) (target_found (first_parent key) pool.entries (span_asked key))) ≡ Exact id → operate key.op (map (arg_value (faces pool.entries)) key.args) ≡ Some (Bat (value_of pool id))) [
        | true ↦ λ h. cc
        | false ↦ λ h. go (entry_of_key key pool.entries) refl h
      ] found
    where
      never : (o : Option Span) → target_found (first_parent key) pool.entries o ≡ Exact id → ⊥
      never None h = cc
      never (Some target) h = inner (container_of (first_parent key) target pool.entries) (cover_of (first_parent key) target pool.entries) h
        where
          inner : (c : Option Selection) (o : Option (List Entry)) → within_found c (across_found o) ≡ Exact id → ⊥
          inner (Some s) o h = cc
          inner None None h = cc
          inner None (Some pieces) h = cc

      go : (o : Option PoolEntry) → entry_of_key key pool.entries ≡ o → exact_found o (target_found (first_parent key) pool.entries (span_asked key)) ≡ Exact id → operate key.op (map (arg_value (faces pool.entries)) key.args) ≡ Some (Bat (value_of pool id))
      go None e h = absurd (never (span_asked key) h)
      go (Some x) e h =
          let same : x.id ≡ id = cc in
          let here = found_key key x e in
          let value = (entry_rooted pool.options.budget pool known x here.0).computed (ap is_bind here.1 ∙ plain) in
          subst (λ (k : Key). operate k.op (map (arg_value (faces pool.entries)) k.args) ≡ Some (Bat x.value)) here.1 value ∙ ap (λ v. Some (Bat v)) (sym (entry_value x here.0) ∙ ap (value_of pool) same)

  -- ## Ranges

  module _ (parent : ℕ) (low high li hi : Cell) (version : ℕ) where
    abbrev key : Key
    key = selection_key parent low high li hi version

    abbrev target : Span
    target = span_for low high li hi

    -- a finding that is no exact one comes from a range
    from_range : (found : Finding) → ((id : ℕ) → found ≡ Exact id → ⊥) → (found ≡ Miss → ⊥) → look_of pool key ≡ found
        → within_found (container_of parent target pool.entries) (across_found (cover_of parent target pool.entries)) ≡ found
    from_range found inexact some is =
        elim (is_one_of (parents_of key) 0) as (λ b. (if b then Miss else exact_found (entry_of_key key pool.entries) (target_found parent pool.entries (Some target))) ≡ found → within_found (container_of parent target pool.entries) (across_found (cover_of parent target pool.entries)) ≡ found) [
          | true ↦ λ h. absurd (some (sym h))
          | false ↦ λ h. go (entry_of_key key pool.entries) h
        ] is
      where
        go : (o : Option PoolEntry) → exact_found o (target_found parent pool.entries (Some target)) ≡ found → within_found (container_of parent target pool.entries) (across_found (cover_of parent target pool.entries)) ≡ found
        go None h = h
        go (Some e) h = absurd (inexact e.id (sym h))

    within_serves : (id : ℕ) → look_of pool key ≡ Within id → selected low high (is_true li) (is_true hi) (value_of pool id) ≡ selected low high (is_true li) (is_true hi) (value_of pool parent)
    within_serves id found = go (container_of parent target pool.entries) refl (cover_of parent target pool.entries) (from_range (Within id) (λ n e. cc) (λ e. cc) found)
      where
        go : (c : Option Selection) → container_of parent target pool.entries ≡ c → (o : Option (List Entry)) → within_found c (across_found o) ≡ Within id → selected low high (is_true li) (is_true hi) (value_of pool id) ≡ selected low high (is_true li) (is_true hi) (value_of pool parent)
        go None e None h = cc
        go None e (Some pieces) h = cc
        go (Some s) e o h =
            let same : s.0 ≡ id = cc in
            let among = filter_in (λ (x : Selection). is_contained target x.1.1) (selections_from parent pool.entries) s (first_in is_smaller (filter (λ (x : Selection). is_contained target x.1.1) (selections_from parent pool.entries)) s e) in
            let value = selection_known parent s among.0 in
            selected_is low high li hi (value_of pool id)
            ∙ ap (λ n. picked target (value_of pool n)) (sym same)
            ∙ ap (picked target) value.0
            ∙ picked_within target s.1.1 (value_of pool parent) among.1
            ∙ sym (selected_is low high li hi (value_of pool parent))

    parent_rises : has_rising_heads parent pool.entries ≡ true → Rises (value_of pool parent)
    parent_rises e = go (entry_of_id parent pool.entries) refl e
      where
        go : (o : Option PoolEntry) → entry_of_id parent pool.entries ≡ o → option_map_or (λ (e : PoolEntry). rises (heads_of e.value)) o false ≡ true → Rises (value_of pool parent)
        go None is h = cc
        go (Some x) is h = subst Rises (sym (ap (λ o. unwrap_or o []) (value_by_id pool.entries parent ∙ ap (option_map (λ (e : PoolEntry). e.value)) is))) (rises_all x.value h)

    across_serves : (pieces : List Entry) → look_of pool key ≡ Across pieces → merged (map (λ (piece : Entry). selected_in piece.1 (value_of pool piece.0)) pieces) ≡ selected low high (is_true li) (is_true hi) (value_of pool parent)
    across_serves pieces found = go (container_of parent target pool.entries) (from_range (Across pieces) (λ n e. cc) (λ e. cc) found)
      where
        covered : cover_of parent target pool.entries ≡ Some pieces → merged (map (λ (piece : Entry). selected_in piece.1 (value_of pool piece.0)) pieces) ≡ selected low high (is_true li) (is_true hi) (value_of pool parent)
        covered e = elim (has_rising_heads parent pool.entries) as (λ b. has_rising_heads parent pool.entries ≡ b → (if b then cheapest_of target (selections_from parent pool.entries) else None) ≡ Some pieces → merged (map (λ (piece : Entry). selected_in piece.1 (value_of pool piece.0)) pieces) ≡ selected low high (is_true li) (is_true hi) (value_of pool parent)) [
          | true ↦ λ up h.
              let selections = selections_from parent pool.entries in
              let cut = (cheapest_cuts_up_holds target selections).0 pieces h in
              let each : (x : Entry) → Contains (map entry_of selections) x → (value_of pool x.0 ≡ picked x.1 (value_of pool parent)) × (is_askable x.1 ≡ true) = λ x c.
              let s = map_in entry_of selections x (in_from_contains (map entry_of selections) x c) in
              subst (λ (y : Entry). (value_of pool y.0 ≡ picked y.1 (value_of pool parent)) × (is_askable y.1 ≡ true)) (sym s.2) (selection_known parent s.0 s.1) in
              let serve = pieces_serve target (map entry_of selections) pieces (spans_ask low high li hi) (λ x c. (each x c).1) cut in
              reused_across target (map entry_of selections) (value_of pool) (value_of pool parent) pieces (λ x c. (each x c).0) (parent_rises up) serve.0 serve.1 serve.2
              ∙ sym (selected_is low high li hi (value_of pool parent))
          | false ↦ λ _ h. cc
        ] refl e

        inner : (o : Option (List Entry)) → cover_of parent target pool.entries ≡ o → across_found o ≡ Across pieces → merged (map (λ (piece : Entry). selected_in piece.1 (value_of pool piece.0)) pieces) ≡ selected low high (is_true li) (is_true hi) (value_of pool parent)
        inner None e h = cc
        inner (Some ps) e h = let same : ps ≡ pieces = cc in covered (e ∙ ap Some same)

        go : (c : Option Selection) → within_found c (across_found (cover_of parent target pool.entries)) ≡ Across pieces → merged (map (λ (piece : Entry). selected_in piece.1 (value_of pool piece.0)) pieces) ≡ selected low high (is_true li) (is_true hi) (value_of pool parent)
        go None h = inner (cover_of parent target pool.entries) refl h
        go (Some s) h = cc

  findings_serve : FindingsServe pool
  findings_serve = record { exact = exact_serves; within = within_serves; across = across_serves }

pub reuse_is_plain_holds : ReuseIsPlain
reuse_is_plain_holds pool known = findings_serve pool known
