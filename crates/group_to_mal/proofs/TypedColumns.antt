-- The types of columns, over the machine that checks plans against a database.
use Rattle.std.proofs.Common.{◌≡◌, List, [], ◌∷◌, map, Bool, true, false, not, ◌||◌, Option, Some, refl}
use Rattle.std.specs.Prelude.{is_none, slice_get}
use Rattle.cell_core.specs.declared.cell.Cell.TheVariants.{Bit}
use Rattle.cell_core.specs.declared.cell.Kind.{Kind}
use Rattle.cell_core.specs.declared.cell.Kind.TheVariants as kind
use Rattle.cell_core.specs.declared.operator.Instr.{Instr}
use Rattle.cell_core.specs.declared.operator.Op.TheVariants as op
use Rattle.cell_core.specs.declared.operator.Arg.{Arg}
use Rattle.cell_core.specs.declared.table.Db.{Db}
use Rattle.cell_core.specs.Kinds.{ValueType, OneOf, BatOf}
use Rattle.mal_emit.specs.Emitters.{emits}
use Rattle.mal_emit.specs.Machines.{Holds, Gives, GivesAll, checking}
use Rattle.mal_emit.proofs.MachineLemmas.{At, Lit, step_to, rest_holds, first_holds, and_holds, stays, none_known, some_known}
use Rattle.mal_emit.proofs.GivesLemmas.{emits_gives, known_gives, then_all, behind_one}
use Rattle.mal_emit.proofs.TypeLemmas.{oids_type, bits_type, counted_typed}
use Rattle.group_to_mal.specs.Columns.{spread_by, any_bat, with_bat, spread_first, bats_of, gather_bats, keep_bats, finer, groups, heads, undoubled}

-- ## Types

-- whether a column is a BAT, and the kind of its cells
abbrev pub Column : Type 0
Column = Bool × Option Kind

-- cells of a kind beside oids
abbrev pub bat_type : Option Kind → ValueType
bat_type k = BatOf (Some kind.Oid) k

abbrev pub column_type : Bool → Option Kind → ValueType
column_type true k = bat_type k
column_type false k = OneOf k

abbrev pub types : List Column → List ValueType
types columns = map (λ (c : Column). column_type c.0 c.1) columns

abbrev pub bats : List Column → List Bool
bats columns = map (λ (c : Column). c.0) columns

-- the first is a BAT where no other is one
abbrev pub first_bat : List Column → List Column
first_bat [] = []
first_bat (c ∷ cs) = (c.0 || not (any_bat (bats cs)), c.1) ∷ cs

pub first_bats : (cs : List Column) → bats (first_bat cs) ≡ with_bat (bats cs)
first_bats [] = refl
first_bats (c ∷ cs) = refl

-- then there is a BAT
pub first_any : (c : Column) (cs : List Column) → any_bat (bats (first_bat (c ∷ cs))) ≡ true
first_any c cs = by_case c.0 (any_bat (bats cs))
  where
    by_case : (a b : Bool) → (a || not b) || b ≡ true
    by_case true b = refl
    by_case false true = refl
    by_case false false = refl

-- the kinds of those that are BATs
abbrev pub bat_kinds : List Column → List (Option Kind)
bat_kinds [] = []
bat_kinds ((true, k) ∷ cs) = k ∷ bat_kinds cs
bat_kinds ((false, k) ∷ cs) = bat_kinds cs

some_kind : (cs : List Column) → any_bat (bats cs) ≡ true → not (is_none (slice_get (bat_kinds cs) 0)) ≡ true
some_kind [] e = cc
some_kind ((true, k) ∷ cs) e = refl
some_kind ((false, k) ∷ cs) e = some_kind cs e

module _ (db : Db) where
  -- ## BATs gathered

  pub gather_typed : (n : Arg) (vs : List Arg) (cs : List Column) (before : List Instr) → Holds (checking db) before (n ∷ []) (oids_type ∷ []) → Holds (checking db) before vs (types cs)
      → Holds (checking db) ((gather_bats n (bats cs) vs).run before).0 ((gather_bats n (bats cs) vs).run before).1 (types cs)
  gather_typed n [] [] before h k = k
  gather_typed n [] (c ∷ cs) before h k = absurd (none_known (checking db) k)
  gather_typed n (v ∷ vs) [] before h k = absurd (some_known (checking db) k)
  gather_typed n (v ∷ vs) ((false, x) ∷ cs) before h k =
      let others = gather_typed n vs cs before h (rest_holds (checking db) k) in
      and_holds (checking db) (stays (checking db) ((gather_bats n (bats cs) vs).grows before) (first_holds (checking db) k) others) others
  gather_typed n (v ∷ vs) ((true, x) ∷ cs) before h k =
      let one = step_to (checking db) (and_holds (checking db) h k) op.Join (At 0 ∷ At 1 ∷ []) (Some (bat_type x)) refl in
      let grown = (emits op.Join (n ∷ v ∷ [])).grows before in
      let others = gather_typed n vs cs ((emits op.Join (n ∷ v ∷ [])).run before).0 (stays (checking db) grown h one) (stays (checking db) grown (rest_holds (checking db) k) one) in
      and_holds (checking db) (stays (checking db) ((gather_bats n (bats cs) vs).grows ((emits op.Join (n ∷ v ∷ [])).run before).0) (first_holds (checking db) one) others) others

  -- the columns where a test is true
  pub keep_typed : (v : Arg) (vs : List Arg) (cs : List Column) → GivesAll (checking db) (v ∷ vs) (bits_type ∷ types cs) (keep_bats v (bats cs) vs) (Some (types cs))
  keep_typed v vs cs =
      then_all {v = bits_type} (emits_gives op.Select (At 0 ∷ Lit (Bit true) ∷ Lit (Bit true) ∷ Lit (Bit true) ∷ Lit (Bit true) ∷ []) refl)
      (λ s. then_all {v = oids_type} (counted_typed db (At 0) (Some kind.Bit) refl) (λ n. last n s))
    where
      last : (n s : Arg) → GivesAll (checking db) (n ∷ s ∷ v ∷ vs) (oids_type ∷ bits_type ∷ bits_type ∷ types cs) (gather_bats n (bats cs) vs) (Some (types cs))
      last n s = record { told = λ before h. gather_typed n vs cs before (first_holds (checking db) h) (rest_holds (checking db) (rest_holds (checking db) (rest_holds (checking db) h))) }

  -- ## Scalars beside heads

  pub spread_typed : {h v : Arg} {args : List Arg} {are : List ValueType} (b : Bool) (k : Option Kind)
      → Gives (checking db) (h ∷ v ∷ args) (oids_type ∷ column_type b k ∷ are) (spread_by h b v) (Some (bat_type k))
  spread_typed true k = behind_one known_gives
  spread_typed false k = emits_gives op.Project (At 0 ∷ At 1 ∷ []) refl

  pub first_typed : (h : Arg) (vs : List Arg) (cs : List Column) (before : List Instr) → Holds (checking db) before (h ∷ []) (oids_type ∷ []) → Holds (checking db) before vs (types cs)
      → Holds (checking db) ((spread_first h (bats cs) vs).run before).0 ((spread_first h (bats cs) vs).run before).1 (types (first_bat cs))
  first_typed h [] [] before k j = j
  first_typed h [] (c ∷ cs) before k j = absurd (none_known (checking db) j)
  first_typed h (v ∷ vs) [] before k j = absurd (some_known (checking db) j)
  first_typed h (v ∷ vs) (c ∷ cs) before k j = by_case c.0 (any_bat (bats cs)) j
    where
      by_case : (b any : Bool) → Holds (checking db) before (v ∷ vs) (column_type b c.1 ∷ types cs)
          → Holds (checking db) ((spread_by h (b || any) v).run before).0 (((spread_by h (b || any) v).run before).1 ∷ vs) (column_type (b || not any) c.1 ∷ types cs)
      by_case true any j = j
      by_case false true j = j
      by_case false false j =
          let one = step_to (checking db) (and_holds (checking db) k j) op.Project (At 0 ∷ At 1 ∷ []) (Some (bat_type c.1)) refl in
          and_holds (checking db) one (rest_holds (checking db) (rest_holds (checking db) (rest_holds (checking db) one)))

  -- ## Groups

  bats_typed : (vs : List Arg) (cs : List Column) (before : List Instr) → Holds (checking db) before vs (types cs) → Holds (checking db) before (bats_of (bats cs) vs) (map bat_type (bat_kinds cs))
  bats_typed [] [] before h = h
  bats_typed [] (c ∷ cs) before h = absurd (none_known (checking db) h)
  bats_typed (v ∷ vs) [] before h = absurd (some_known (checking db) h)
  bats_typed (v ∷ vs) ((false, k) ∷ cs) before h = bats_typed vs cs before (rest_holds (checking db) h)
  bats_typed (v ∷ vs) ((true, k) ∷ cs) before h = and_holds (checking db) h (bats_typed vs cs before (rest_holds (checking db) h))

  finer_typed : (g : Arg) (vs : List Arg) (ks : List (Option Kind)) (before : List Instr) → Holds (checking db) before (g ∷ []) (oids_type ∷ []) → Holds (checking db) before vs (map bat_type ks)
      → Holds (checking db) ((finer g vs).run before).0 (((finer g vs).run before).1 ∷ []) (oids_type ∷ [])
  finer_typed g [] [] before h k = h
  finer_typed g [] (x ∷ ks) before h k = absurd (none_known (checking db) k)
  finer_typed g (v ∷ vs) [] before h k = absurd (some_known (checking db) k)
  finer_typed g (v ∷ vs) (x ∷ ks) before h k =
      let one = step_to (checking db) (and_holds (checking db) h k) op.GroupDerive (At 0 ∷ At 1 ∷ []) (Some oids_type) refl in
      finer_typed ((emits op.GroupDerive (g ∷ v ∷ [])).run before).1 vs ks ((emits op.GroupDerive (g ∷ v ∷ [])).run before).0
      (first_holds (checking db) one) (stays (checking db) ((emits op.GroupDerive (g ∷ v ∷ [])).grows before) (rest_holds (checking db) k) one)

  pub groups_typed : (vs : List Arg) (x : Option Kind) (ks : List (Option Kind)) (before : List Instr) → Holds (checking db) before vs (bat_type x ∷ map bat_type ks)
      → Holds (checking db) ((groups vs).run before).0 (((groups vs).run before).1 ∷ []) (oids_type ∷ [])
  groups_typed [] x ks before k = absurd (none_known (checking db) k)
  groups_typed (v ∷ vs) x ks before k =
      let one = step_to (checking db) k op.GroupNew (At 0 ∷ []) (Some oids_type) refl in
      finer_typed ((emits op.GroupNew (v ∷ [])).run before).1 vs ks ((emits op.GroupNew (v ∷ [])).run before).0
      (first_holds (checking db) one) (stays (checking db) ((emits op.GroupNew (v ∷ [])).grows before) (rest_holds (checking db) k) one)

  -- ## DISTINCT

  pub undoubled_typed : (distinct : Bool) (vs : List Arg) (cs : List Column) → any_bat (bats cs) ≡ true → (before : List Instr) → Holds (checking db) before vs (types cs)
      → Holds (checking db) ((undoubled distinct (bats cs) vs).run before).0 ((undoubled distinct (bats cs) vs).run before).1 (types cs)
  undoubled_typed false vs cs some before k = k
  undoubled_typed true vs cs some before k = by_kinds (bat_kinds cs) (some_kind cs some) (bats_typed vs cs before k)
    where
      by_kinds : (ks : List (Option Kind)) → not (is_none (slice_get ks 0)) ≡ true → Holds (checking db) before (bats_of (bats cs) vs) (map bat_type ks)
          → Holds (checking db) ((undoubled true (bats cs) vs).run before).0 ((undoubled true (bats cs) vs).run before).1 (types cs)
      by_kinds [] e h = cc
      by_kinds (x ∷ ks) e h =
          let g = groups (bats_of (bats cs) vs) in
          let one = groups_typed (bats_of (bats cs) vs) x ks before h in
          let two = step_to (checking db) one op.GroupHeads (At 0 ∷ []) (Some oids_type) refl in
          let both = stays (checking db) (g.grows before) k one in
          gather_typed ((heads (g.run before).1).run (g.run before).0).1 vs cs ((heads (g.run before).1).run (g.run before).0).0
          (first_holds (checking db) two) (stays (checking db) ((heads (g.run before).1).grows (g.run before).0) both two)
