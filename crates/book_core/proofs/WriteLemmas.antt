-- What a write does, without a book: its code, its versions, and how many entries it moves.
use Rattle.std.proofs.Common.{◌≡◌, ℕ, ◌+◌, ◌-◌, ◌^◌, ◌≤◌, ◌<◌, List, [], ◌∷◌, ◌++◌, map, length, true, false, not, ◌||◌, cond, Option, Some, None, inl, inr, refl, sym, subst, arith, length-append}
use Rattle.std.specs.Prelude.{◌==◌, bytes_eq, fold, Contains}
use Rattle.std.specs.List.{AllByRecursion, list_any}
use Rattle.std.specs.Option.{option_map_or}
use Rattle.std.proofs.lemmas.List.{length-map}
use Rattle.std.proofs.lemmas.List.Sums.{count_by-le-length, length-filter}
use Rattle.cell_core.specs.declared.table.Column.{Column}
use Rattle.cell_core.specs.declared.table.Table.{Table}
use Rattle.cell_core.specs.Pairs.{Pairs}
use Rattle.cell_core.specs.Tables.{first_named, has_column}
use Rattle.lineage_key.specs.Parents.{parents_of}
use Rattle.subsume.proofs.Members.{In, in_from_contains}
use Rattle.evict_admit.specs.Runs.{is_one_of}
use Rattle.sql_tree.specs.Tree.{StmtTree}
use Rattle.sql_definitions.specs.Refusals.{refusal_number}
use Rattle.sql_definitions.specs.declared.refusal.Refusal.{Refusal}
use Rattle.sql_definitions.specs.declared.refusal.Refusal.TheVariants.{Syntax, Unsupported, NoTable, TableExists, NoColumn, Ambiguous, KindsDiffer, WrongCount, TextTooLong, Overflow, Limit, NameTwice, NullStored, NotGrouped}
use Rattle.sql_definitions.specs.declared.refusal.Reply.TheVariants.{Refused}
use Rattle.pool_policy.specs.declared.entry.PoolEntry.{PoolEntry}
use Rattle.pool_policy.specs.declared.touched.Touched.{Touched}
use Rattle.pool_policy.specs.Pool.{PoolState, pool_bytes, score_at}
use Rattle.pool_policy.specs.Admits.{left_without, row_of, rows_of}
use Rattle.pool_policy.specs.WriteLaws.{IsWrite}
use Rattle.pool_policy.specs.Writes.{Return, after_returns, and_returned, and_touched, backs_of, binds_one, come_back, delta_of, delta_work, evictions_after, growth_of, returned, touched_ids, write_of}
use Rattle.pool_policy.proofs.VersionLaws.{versions_hold_all}
use Rattle.run_log.specs.Fold.{LogState}
use Rattle.run_log.specs.Laws.{IsCommit, IsSound}
use Rattle.run_log.specs.Touches.{touched_by}
use Rattle.run_log.proofs.TouchLemmas.{touched_adds}
use Rattle.store_changes.specs.Outcomes.{reply_with}
use Rattle.table_store.specs.Content.{Content, column_version, version_in, version_of}
use Rattle.reply_layout.specs.Doings.{code_of, shown_reply}
use Rattle.book_core.proofs.GoneLemmas.{run_few}

-- ## Codes

-- no refusal has the number 0
pub refused_code : (refusal : Refusal) → (refusal_number refusal == 0) ≡ false
refused_code Syntax = refl
refused_code (Unsupported name) = refl
refused_code (NoTable name) = refl
refused_code (TableExists name) = refl
refused_code (NoColumn name) = refl
refused_code (Ambiguous name) = refl
refused_code KindsDiffer = refl
refused_code WrongCount = refl
refused_code TextTooLong = refl
refused_code Overflow = refl
refused_code (Limit which) = refl
refused_code (NameTwice name) = refl
refused_code NullStored = refl
refused_code (NotGrouped name) = refl

pub done_code : (rows : Option ℕ) → code_of (shown_reply (reply_with rows)) ≡ 0
done_code None = refl
done_code (Some rows) = refl

pub never_refused : (rows : Option ℕ) (refusal : Refusal) → reply_with rows ≡ Refused refusal → ⊥
never_refused None refusal e = cc
never_refused (Some rows) refusal e = cc

-- ## Versions

no_version : (column : List ℕ) (columns : List Column) (versions : List ℕ) → list_any (λ (c : Column). bytes_eq c.name column) columns ≡ false → column_version column columns versions ≡ 0
no_version column [] versions none = refl
no_version column (c ∷ columns) [] none = refl
no_version column (c ∷ columns) (v ∷ versions) none =
    elim (bytes_eq c.name column) as (λ b. (b || list_any (λ (c : Column). bytes_eq c.name column) columns) ≡ false → cond b v (column_version column columns versions) ≡ 0) [
      | true ↦ λ wrong. cc
      | false ↦ λ rest. no_version column columns versions rest
    ] none

none_in : (table column : List ℕ) (tables : List Table) (versions : List (List ℕ)) → option_map_or (λ (t : Table). list_any (λ (c : Column). bytes_eq c.name column) t.columns) (first_named table tables) false ≡ false
    → version_in table column tables versions ≡ 0
none_in table column [] versions none = refl
none_in table column (t ∷ tables) [] none = refl
none_in table column (t ∷ tables) (v ∷ versions) none =
    elim (bytes_eq t.name table) as (λ b. option_map_or (λ (t : Table). list_any (λ (c : Column). bytes_eq c.name column) t.columns) (cond b (Some t) (first_named table tables)) false ≡ false
    → cond b (column_version column t.columns v) (version_in table column tables versions) ≡ 0) [
      | true ↦ λ here. no_version column t.columns v here
      | false ↦ λ rest. none_in table column tables versions rest
    ] none

-- a column that isn't there has no version
pub absent_version : (table column : List ℕ) (content : Content) → has_column table column content.db ≡ false → version_of table column content ≡ 0
absent_version table column content none = none_in table column content.db.tables content.versions none

-- ## How many entries are touched, come back and go

touched_few : (table : List ℕ) (columns : List (List ℕ)) (ids : List ℕ) (es : List PoolEntry) → length (fold (and_touched table columns) ids es) ≤ length ids + length es
touched_few table columns ids [] = omega arith
touched_few table columns ids (e ∷ es) =
    let rest = touched_few table columns (and_touched table columns ids e) es in
    let long = length-append ids (e.id ∷ []) in
    let one : length (and_touched table columns ids e) ≤ length ids + 1 = elim (binds_one table columns e.key || list_any (is_one_of ids) (parents_of e.key)) as (λ b. length (cond b (ids ++ e.id ∷ []) ids) ≤ length ids + 1) [
      | true ↦ omega (arith, long)
      | false ↦ omega arith
    ] in
    omega (arith, rest, one)

module _ (write : Touched) (now : ℕ) (pool : PoolState) where
  abbrev ids : List ℕ
  ids = touched_ids write.table write.columns pool.entries

  abbrev backs : List Return
  backs = backs_of write now pool

  one_more : (rs : List Return) (e : PoolEntry) → length (come_back write now pool.next ids pool.entries rs e) ≤ length rs + 1
  one_more rs e = elim (is_one_of ids e.id) as (λ b. length (cond b (and_returned now pool.next rs e (growth_of write ids pool.entries rs e)) rs) ≤ length rs + 1) [
    | true ↦ by_delta (delta_of e.key.op (growth_of write ids pool.entries rs e))
    | false ↦ omega arith
  ]
    where
      back : Pairs → Return
      back delta = record { old = e; new = returned now (pool.next + length rs) rs e delta; delta = delta; work = delta_work e.key.op (growth_of write ids pool.entries rs e) }

      by_delta : (found : Option Pairs) → length (option_map_or (λ delta. rs ++ back delta ∷ []) found rs) ≤ length rs + 1
      by_delta None = omega arith
      by_delta (Some delta) = let long = length-append rs (back delta ∷ []) in omega (arith, long)

  run_back : (rs : List Return) (es : List PoolEntry) → length (fold (come_back write now pool.next ids pool.entries) rs es) ≤ length rs + length es
  run_back rs [] = omega arith
  run_back rs (e ∷ es) = let one = one_more rs e in let rest = run_back (come_back write now pool.next ids pool.entries rs e) es in omega (arith, one, rest)

  -- of few entries few are dropped, come back and go
  pub few_written : length pool.entries ≤ 1024 → ((write_of write now pool).dropped + (write_of write now pool).carried) + (write_of write now pool).evicted ≤ 3072
  few_written few =
      let touched = touched_few write.table write.columns [] pool.entries in
      let back = run_back [] pool.entries in
      let after = after_returns now ids backs pool in
      let left : length (left_without ids pool.entries) ≤ length pool.entries =
      (let is = length-filter (λ (e : PoolEntry). not (is_one_of ids e.id)) pool.entries in let less = count_by-le-length (λ (e : PoolEntry). not (is_one_of ids e.id)) pool.entries in omega (arith, is, less)) in
      let held : length after.entries ≡ length (left_without ids pool.entries) + length backs =
      (let both = length-append (left_without ids pool.entries) (map (λ (r : Return). r.new) backs) in let many = length-map backs (λ (r : Return). r.new) in omega (arith, both, many)) in
      let gone : length (evictions_after now after).0 ≤ length after.entries =
      subst (λ n. length (evictions_after now after).0 ≤ n) (length-map after.entries (row_of []))
      (run_few (length (rows_of [] after.entries)) (score_at after.options now) (rows_of [] after.entries) (pool_bytes after.entries - after.options.budget) 0) in
      omega (arith, few, touched, back, left, held, gone)

-- ## What comes back is short

pub short_back : (returns : List Return) → AllByRecursion (λ (e : PoolEntry). length e.value < 2 ^ 62) (map (λ (r : Return). r.new) returns) → (r : Return) → Contains returns r → length r.new.value < 2 ^ 62
short_back returns short r c = go returns short (in_from_contains returns r c)
  where
    go : (rs : List Return) → AllByRecursion (λ (e : PoolEntry). length e.value < 2 ^ 62) (map (λ (r : Return). r.new) rs) → In r rs → length r.new.value < 2 ^ 62
    go [] all i = absurd i
    go (x ∷ rs) all (inl is) = subst (λ (y : Return). length y.new.value < 2 ^ 62) (sym is) all.0
    go (x ∷ rs) all (inr i) = go rs all.1 i

-- an accepted write fits the pool
pub commit_fits : (s : LogState) (stmt : StmtTree) → IsSound s → IsCommit stmt s → IsWrite (touched_by stmt s.db) (s.at + 1) s.pool
commit_fits s stmt sound commit = record {
  rows = λ added is column c. (touched_adds stmt s.db commit.accepted added is column c).from;
  one_version = versions_hold_all.one s.versions s.pool sound.versions;
  short = commit.short;
}
