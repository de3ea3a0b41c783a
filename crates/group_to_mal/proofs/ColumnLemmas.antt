-- What columns are, over picks: values that have one cell for each pick, or one for all.
use Rattle.std.proofs.Common.{◌≡◌, ℕ, List, [], ◌∷◌, map, filter, Bool, true, false, not, ◌||◌, cond, Option, Some, refl, ap}
use Rattle.std.specs.List.{AllByRecursion}
use Rattle.cell_core.specs.declared.cell.Cell.{Cell}
use Rattle.cell_core.specs.declared.cell.Cell.TheVariants.{Bit, Oid}
use Rattle.cell_core.specs.declared.operator.Instr.{Instr}
use Rattle.cell_core.specs.declared.operator.Op.TheVariants as op
use Rattle.cell_core.specs.declared.operator.Arg.{Arg}
use Rattle.cell_core.specs.declared.operator.Value.{Value}
use Rattle.cell_core.specs.declared.operator.Value.TheVariants.{Bat}
use Rattle.cell_core.specs.declared.table.Db.{Db}
use Rattle.cell_core.specs.Pairs.{Pairs, numbered, heads_of}
use Rattle.cell_core.specs.Calc.{all_or_none}
use Rattle.cell_core.specs.Relations.{joined, projected}
use Rattle.cell_core.specs.Groups.{group_heads_of}
use Rattle.mal_emit.specs.Emitters.{Emitter, emits}
use Rattle.mal_emit.specs.Machines.{Machine, over, Holds, Gives, GivesAll}
use Rattle.mal_emit.proofs.MachineLemmas.{At, Lit, step_to, rest_holds, first_holds, and_holds, stays, none_known, some_known}
use Rattle.mal_emit.proofs.GivesLemmas.{emits_gives, known_gives, cons_gives, nothing_gives, then_some, then_all, behind_one}
use Rattle.pick_laws.specs.Shapes.{Shape, Alone, Each, at, is_each, any_each, as_value}
use Rattle.pick_laws.specs.Numbers.{firsts, number_oids, new_number, derived_number, numbers_from}
use Rattle.pick_laws.proofs.KeepLemmas.{trues, is_kept, kept_gathered}
use Rattle.pick_laws.proofs.NumberLemmas.{counted_heads}
use Rattle.pick_laws.proofs.GroupLemmas.{grouped_is, derived_is, heads_gathered}
use Rattle.group_to_mal.specs.Columns.{values_by, spread_by, any_bat, spread_first, bats_of, gather_bats, keep_bats, finer, groups, heads, undoubled}
use Rattle.std.specs.Prelude.{is_none, slice_get}

-- ## Values one after the other

-- where each element yields something or nothing, the list yields all of it or nothing
pub values_give : {V X : Type 0} {m : Machine V} {args : List Arg} {are : List V} (value : X → Emitter Arg) (o : X → Option V) (xs : List X)
    → AllByRecursion (λ x. Gives m args are (value x) (o x)) xs → GivesAll m args are (values_by value xs) (all_or_none (map o xs))
values_give value o [] all = nothing_gives
values_give value o (x ∷ xs) all = cons_gives (o x) (all_or_none (map o xs)) all.0 (values_give value o xs all.1)

module _ {P : Type 0} where
  -- a join with this BAT takes from picks' cells those of other picks
  abbrev pub Takes : Pairs → List P → List P → Type 0
  Takes b picks kept = (g : P → Cell) → joined b (numbered (map g picks)) ≡ numbered (map g kept)

  -- a scalar beside each head of this BAT is one for each pick
  abbrev pub Wide : Pairs → List P → Type 0
  Wide b picks = (c : Cell) → projected c b ≡ numbered (map (λ p. c) picks)

  abbrev pub kinds : List (Shape P) → List Bool
  kinds shapes = map is_each shapes

  -- the first becomes a BAT where none is one
  abbrev pub each_first : List (Shape P) → List (Shape P)
  each_first [] = []
  each_first (s ∷ shapes) = cond (is_each s || any_bat (kinds shapes)) s (Each (at s)) ∷ shapes

  -- the cells of those that have one for each pick
  abbrev pub columns_of : List (Shape P) → List (P → Cell)
  columns_of [] = []
  columns_of (Alone c ∷ shapes) = columns_of shapes
  columns_of (Each f ∷ shapes) = f ∷ columns_of shapes

  abbrev pub each : List P → (P → Cell) → Value
  each picks v = Bat (numbered (map v picks))

  abbrev pub numbers : List P → (P → ℕ) → Value
  numbers picks n = Bat (number_oids n picks)

  -- the number of a pick by one column or more
  abbrev pub number_by : List P → (P → Cell) → List (P → Cell) → P → ℕ
  number_by picks w ws = numbers_from picks (new_number w picks) ws

  -- the first picks of groups take the cells of these picks
  pub first_takes : (picks : List P) (n : P → ℕ) → Takes (group_heads_of (number_oids n picks)) picks (firsts n picks)
  first_takes picks n = λ g. heads_gathered n g picks

  -- the picks that stay where doubled rows go: the first of each group by all columns that have a cell for each pick
  abbrev pub single_picks : List P → List (P → Cell) → List P
  single_picks picks [] = picks
  single_picks picks (w ∷ ws) = firsts (number_by picks w ws) picks

  abbrev pub undoubled_picks : Bool → List (Shape P) → List P → List P
  undoubled_picks false shapes picks = picks
  undoubled_picks true shapes picks = single_picks picks (columns_of shapes)

module _ (db : Db) {P : Type 0} where
  -- ## BATs gathered

  pub gather_told : (b : Pairs) (picks kept : List P) → Takes b picks kept → (n : Arg) (vs : List Arg) (shapes : List (Shape P)) (before : List Instr)
      → Holds (over db) before (n ∷ []) (Bat b ∷ []) → Holds (over db) before vs (map (as_value picks) shapes)
      → Holds (over db) ((gather_bats n (kinds shapes) vs).run before).0 ((gather_bats n (kinds shapes) vs).run before).1 (map (as_value kept) shapes)
  gather_told b picks kept takes n [] [] before h k = k
  gather_told b picks kept takes n [] (s ∷ shapes) before h k = absurd (none_known (over db) k)
  gather_told b picks kept takes n (v ∷ vs) [] before h k = absurd (some_known (over db) k)
  gather_told b picks kept takes n (v ∷ vs) (Alone c ∷ shapes) before h k =
      let others = gather_told b picks kept takes n vs shapes before h (rest_holds (over db) k) in
      and_holds (over db) (stays (over db) ((gather_bats n (kinds shapes) vs).grows before) (first_holds (over db) k) others) others
  gather_told b picks kept takes n (v ∷ vs) (Each f ∷ shapes) before h k =
      let one = step_to (over db) (and_holds (over db) h k) op.Join (At 0 ∷ At 1 ∷ []) (Some (Bat (numbered (map f kept)))) (ap (λ x. Some (Bat x)) (takes f)) in
      let grown = (emits op.Join (n ∷ v ∷ [])).grows before in
      let others = gather_told b picks kept takes n vs shapes ((emits op.Join (n ∷ v ∷ [])).run before).0 (stays (over db) grown h one) (stays (over db) grown (rest_holds (over db) k) one) in
      and_holds (over db) (stays (over db) ((gather_bats n (kinds shapes) vs).grows ((emits op.Join (n ∷ v ∷ [])).run before).0) (first_holds (over db) one) others) others

  -- the columns for the picks of which a test is true
  pub keep_gives : (picks : List P) (a : P → Cell) (v : Arg) (vs : List Arg) (shapes : List (Shape P))
      → GivesAll (over db) (v ∷ vs) (Bat (numbered (map a picks)) ∷ map (as_value picks) shapes) (keep_bats v (kinds shapes) vs) (Some (map (as_value (filter (is_kept a) picks)) shapes))
  keep_gives picks a v vs shapes =
      then_all {v = Bat (trues a (numbered (map a picks)))} (emits_gives op.Select (At 0 ∷ Lit (Bit true) ∷ Lit (Bit true) ∷ Lit (Bit true) ∷ Lit (Bit true) ∷ []) refl)
      (λ s. then_all {v = Bat (numbered (heads_of (trues a (numbered (map a picks)))))}
      (then_some (emits_gives op.MarkT (At 0 ∷ Lit (Oid 0) ∷ []) refl) (λ m. emits_gives op.Reverse (At 0 ∷ []) (ap (λ b. Some (Bat b)) (counted_heads (trues a (numbered (map a picks))))))) (λ n. last n s))
    where
      last : (n s : Arg) → GivesAll (over db) (n ∷ s ∷ v ∷ vs) (Bat (numbered (heads_of (trues a (numbered (map a picks))))) ∷ Bat (trues a (numbered (map a picks))) ∷ Bat (numbered (map a picks)) ∷ map (as_value picks) shapes)
          (gather_bats n (kinds shapes) vs) (Some (map (as_value (filter (is_kept a) picks)) shapes))
      last n s = record {
        told = λ before h. gather_told (numbered (heads_of (trues a (numbered (map a picks))))) picks (filter (is_kept a) picks) (λ g. kept_gathered a g picks) n vs shapes before
            (first_holds (over db) h) (rest_holds (over db) (rest_holds (over db) (rest_holds (over db) h)));
      }

  -- ## Scalars beside picks

  pub spread_gives : {h v : Arg} {args : List Arg} {are : List Value} (b : Pairs) (picks : List P) → Wide b picks → (s : Shape P)
      → Gives (over db) (h ∷ v ∷ args) (Bat b ∷ as_value picks s ∷ are) (spread_by h (is_each s) v) (Some (Bat (numbered (map (at s) picks))))
  spread_gives b picks wide (Alone c) = emits_gives op.Project (At 0 ∷ At 1 ∷ []) (ap (λ x. Some (Bat x)) (wide c))
  spread_gives b picks wide (Each f) = behind_one known_gives

  -- the first becomes a BAT where none is one
  pub first_told : (b : Pairs) (picks : List P) → Wide b picks → (h : Arg) (vs : List Arg) (shapes : List (Shape P)) (before : List Instr)
      → Holds (over db) before (h ∷ []) (Bat b ∷ []) → Holds (over db) before vs (map (as_value picks) shapes)
      → Holds (over db) ((spread_first h (kinds shapes) vs).run before).0 ((spread_first h (kinds shapes) vs).run before).1 (map (as_value picks) (each_first shapes))
  first_told b picks wide h [] [] before k j = j
  first_told b picks wide h [] (s ∷ shapes) before k j = absurd (none_known (over db) j)
  first_told b picks wide h (v ∷ vs) [] before k j = absurd (some_known (over db) j)
  first_told b picks wide h (v ∷ vs) (s ∷ shapes) before k j = by_case s (any_bat (kinds shapes)) j
    where
      by_case : (s : Shape P) (any : Bool) → Holds (over db) before (v ∷ vs) (as_value picks s ∷ map (as_value picks) shapes)
          → Holds (over db) ((spread_by h (is_each s || any) v).run before).0 (((spread_by h (is_each s || any) v).run before).1 ∷ vs) (as_value picks (cond (is_each s || any) s (Each (at s))) ∷ map (as_value picks) shapes)
      by_case (Each f) any j = j
      by_case (Alone c) true j = j
      by_case (Alone c) false j =
          let one = step_to (over db) (and_holds (over db) k j) op.Project (At 0 ∷ At 1 ∷ []) (Some (Bat (numbered (map (λ p. c) picks)))) (ap (λ x. Some (Bat x)) (wide c)) in
          and_holds (over db) one (rest_holds (over db) (rest_holds (over db) (rest_holds (over db) one)))

  -- ## Groups

  bats_told : (picks : List P) (vs : List Arg) (shapes : List (Shape P)) (before : List Instr) → Holds (over db) before vs (map (as_value picks) shapes)
      → Holds (over db) before (bats_of (kinds shapes) vs) (map (each picks) (columns_of shapes))
  bats_told picks [] [] before h = h
  bats_told picks [] (s ∷ shapes) before h = absurd (none_known (over db) h)
  bats_told picks (v ∷ vs) [] before h = absurd (some_known (over db) h)
  bats_told picks (v ∷ vs) (Alone c ∷ shapes) before h = bats_told picks vs shapes before (rest_holds (over db) h)
  bats_told picks (v ∷ vs) (Each f ∷ shapes) before h = and_holds (over db) h (bats_told picks vs shapes before (rest_holds (over db) h))

  finer_told : (picks : List P) (g : Arg) (vs : List Arg) (n : P → ℕ) (ws : List (P → Cell)) (before : List Instr) → Holds (over db) before (g ∷ []) (numbers picks n ∷ []) → Holds (over db) before vs (map (each picks) ws)
      → Holds (over db) ((finer g vs).run before).0 (((finer g vs).run before).1 ∷ []) (numbers picks (numbers_from picks n ws) ∷ [])
  finer_told picks g [] n [] before h k = h
  finer_told picks g [] n (w ∷ ws) before h k = absurd (none_known (over db) k)
  finer_told picks g (v ∷ vs) n [] before h k = absurd (some_known (over db) k)
  finer_told picks g (v ∷ vs) n (w ∷ ws) before h k =
      let one = step_to (over db) (and_holds (over db) h k) op.GroupDerive (At 0 ∷ At 1 ∷ []) (Some (numbers picks (derived_number n w picks))) (ap (λ b. Some (Bat b)) (derived_is n w picks)) in
      finer_told picks ((emits op.GroupDerive (g ∷ v ∷ [])).run before).1 vs (derived_number n w picks) ws ((emits op.GroupDerive (g ∷ v ∷ [])).run before).0
      (first_holds (over db) one) (stays (over db) ((emits op.GroupDerive (g ∷ v ∷ [])).grows before) (rest_holds (over db) k) one)

  pub groups_told : (picks : List P) (vs : List Arg) (w : P → Cell) (ws : List (P → Cell)) (before : List Instr) → Holds (over db) before vs (each picks w ∷ map (each picks) ws)
      → Holds (over db) ((groups vs).run before).0 (((groups vs).run before).1 ∷ []) (numbers picks (number_by picks w ws) ∷ [])
  groups_told picks [] w ws before k = absurd (none_known (over db) k)
  groups_told picks (v ∷ vs) w ws before k =
      let one = step_to (over db) k op.GroupNew (At 0 ∷ []) (Some (numbers picks (new_number w picks))) (ap (λ b. Some (Bat b)) (grouped_is w picks)) in
      finer_told picks ((emits op.GroupNew (v ∷ [])).run before).1 vs (new_number w picks) ws ((emits op.GroupNew (v ∷ [])).run before).0
      (first_holds (over db) one) (stays (over db) ((emits op.GroupNew (v ∷ [])).grows before) (rest_holds (over db) k) one)

  -- ## DISTINCT

  pub undoubled_told : (picks : List P) (distinct : Bool) (vs : List Arg) (shapes : List (Shape P)) → any_each shapes ≡ true → (before : List Instr) → Holds (over db) before vs (map (as_value picks) shapes)
      → Holds (over db) ((undoubled distinct (kinds shapes) vs).run before).0 ((undoubled distinct (kinds shapes) vs).run before).1 (map (as_value (undoubled_picks distinct shapes picks)) shapes)
  undoubled_told picks false vs shapes some before k = k
  undoubled_told picks true vs shapes some before k = by_columns (columns_of shapes) (some_column shapes some) (bats_told picks vs shapes before k)
    where
      some_column : (shapes : List (Shape P)) → any_each shapes ≡ true → not (is_none (slice_get (columns_of shapes) 0)) ≡ true
      some_column [] e = cc
      some_column (Alone c ∷ shapes) e = some_column shapes e
      some_column (Each f ∷ shapes) e = refl

      by_columns : (ws : List (P → Cell)) → not (is_none (slice_get ws 0)) ≡ true → Holds (over db) before (bats_of (kinds shapes) vs) (map (each picks) ws)
          → Holds (over db) ((undoubled true (kinds shapes) vs).run before).0 ((undoubled true (kinds shapes) vs).run before).1 (map (as_value (single_picks picks ws)) shapes)
      by_columns [] e h = cc
      by_columns (w ∷ ws) e h =
          let g = groups (bats_of (kinds shapes) vs) in
          let one = groups_told picks (bats_of (kinds shapes) vs) w ws before h in
          let two = step_to (over db) one op.GroupHeads (At 0 ∷ []) (Some (Bat (group_heads_of (number_oids (number_by picks w ws) picks)))) refl in
          let both = stays (over db) (g.grows before) k one in
          gather_told (group_heads_of (number_oids (number_by picks w ws) picks)) picks (firsts (number_by picks w ws) picks) (first_takes picks (number_by picks w ws))
          ((heads (g.run before).1).run (g.run before).0).1 vs shapes ((heads (g.run before).1).run (g.run before).0).0
          (first_holds (over db) two) (stays (over db) ((heads (g.run before).1).grows (g.run before).0) both two)
