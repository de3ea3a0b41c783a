-- What the values of conditions are, and which picks a conjunct keeps.
use Rattle.std.proofs.Common.{◌≡◌, ℕ, ◌<◌, List, [], ◌∷◌, length, map, filter, Bool, true, false, not, ◌&&◌, ◌||◌, cond, Option, Some, None, refl, ap, sym, ◌∙◌, subst}
use Rattle.std.specs.Prelude.{get_or, unwrap_or, is_none}
use Rattle.std.specs.List.{list_any}
use Rattle.std.specs.Option.{option_map, option_and_then}
use Rattle.cell_core.specs.declared.cell.Cell.{Cell}
use Rattle.cell_core.specs.declared.cell.Cell.TheVariants.{Nil, Bit, Oid}
use Rattle.cell_core.specs.declared.operator.Op.{Op}
use Rattle.cell_core.specs.declared.operator.Op.TheVariants as op
use Rattle.cell_core.specs.declared.operator.Arg.{Arg}
use Rattle.cell_core.specs.declared.operator.Value.TheVariants.{Bat, One}
use Rattle.cell_core.specs.declared.table.Db.{Db}
use Rattle.cell_core.specs.Pairs.{heads_of, numbered, is_nil}
use Rattle.cell_core.specs.Relations.{joined}
use Rattle.cell_core.specs.Calc.{calculated, over_two, over_one, conjunction, disjunction, negation}
use Rattle.mal_meaning.specs.Meaning.{value_over}
use Rattle.sql_tree.specs.Tree.{ExprTree, CondTree}
use Rattle.sql_tree.specs.Tree.ExprTree.{Literal, ColumnOf, Operator, AggregateAll, Aggregate}
use Rattle.sql_tree.specs.Tree.CondTree.{Compare, Within, IsNull, Negation, Both, Either}
use Rattle.sql_tree.specs.declared.tree.ArithOp.{ArithOp}
use Rattle.sql_tree.specs.declared.tree.ArithOp.TheVariants as arith_op
use Rattle.sql_tree.specs.declared.tree.CmpOp.{CmpOp}
use Rattle.sql_tree.specs.declared.tree.CmpOp.TheVariants as cmp
use Rattle.sql_definitions.specs.Sources.{place_of}
use Rattle.sql_definitions.specs.Values.{result_of}
use Rattle.sql_definitions.specs.Truth.{compared}
use Rattle.mal_emit.specs.Emitters.{Emitter, emits, followed}
use Rattle.mal_emit.specs.Machines.{over, Holds, Gives, GivesAll}
use Rattle.mal_emit.specs.Phrases.{keep, gather}
use Rattle.mal_emit.proofs.GivesLemmas.{emits_gives, known_gives, constant_gives, then_maybe, then_found, then_all, then_maybe_all, behind_one, gives_same, gives_all_same}
use Rattle.mal_emit.proofs.MachineLemmas.{At, Lit, rest_holds, first_holds}
use Rattle.pick_laws.specs.Picks.{cell_in}
use Rattle.pick_laws.specs.Shapes.{Shape, Alone, Each, at, is_each, as_value, each_or_none}
use Rattle.pick_laws.proofs.KeepLemmas.{is_kept, trues, kept_gathered, projected_is}
use Rattle.pick_laws.proofs.ListLemmas.{map_after}
use Rattle.pick_laws.proofs.ShapeLemmas.{calculated_shape}
use Rattle.rows_to_mal.specs.Candidates.{calc_of}
use Rattle.rows_to_mal.specs.Conjuncts.{Scope, no_source, place_value, expr_value, comparison_of, cond_value, is_alone, is_cond_alone, spread_value, keep_true}
use Rattle.rows_to_mal.proofs.CandidateLemmas.{Binds, two_maybe}
use Rattle.rows_to_mal.proofs.JoinLemmas.{Pick, Seat, seat_oids, columns, InSeats, seat_of, gather_told, counted_gives, column_is, column_at, seat_in}

-- ## Keeping

module _ (db : Db) (picks : List Pick) (seats : List Seat) where
  kept_columns : (a : Pick → Cell) (ss : List Seat) → map (λ r. Bat (joined (numbered (heads_of (trues a (numbered (map a picks))))) r)) (map (seat_oids picks) ss) ≡ columns (filter (is_kept a) picks) ss
  kept_columns a [] = refl
  kept_columns a (seat ∷ ss) =
      ap (λ b. Bat b ∷ map (λ r. Bat (joined (numbered (heads_of (trues a (numbered (map a picks))))) r)) (map (seat_oids picks) ss)) (kept_gathered a (λ p. Oid (seat.at p)) picks)
      ∙ ap (λ r. Bat (seat_oids (filter (is_kept a) picks) seat) ∷ r) (kept_columns a ss)

  keep_end : (a : Pick → Cell) (n : Arg) (s v : Arg) (rs : List Arg)
      → GivesAll (over db) (n ∷ s ∷ v ∷ rs) (Bat (numbered (heads_of (trues a (numbered (map a picks))))) ∷ Bat (trues a (numbered (map a picks))) ∷ Bat (numbered (map a picks)) ∷ columns picks seats)
      (gather n rs) (Some (columns (filter (is_kept a) picks) seats))
  keep_end a n s v rs = record {
    told = λ before h.
        subst (λ vs. Holds (over db) ((gather n rs).run before).0 ((gather n rs).run before).1 vs) (kept_columns a seats)
        (gather_told db n (numbered (heads_of (trues a (numbered (map a picks))))) rs (map (seat_oids picks) seats) before (first_holds (over db) h)
        (subst (λ vs. Holds (over db) before rs vs) (sym (map_after (λ r. Bat r) (seat_oids picks) seats)) (rest_holds (over db) (rest_holds (over db) (rest_holds (over db) h)))));
  }

  -- the picks that are kept, as their oids
  pub keep_is : {v : Arg} {rs : List Arg} (a : Pick → Cell) → GivesAll (over db) (v ∷ rs) (Bat (numbered (map a picks)) ∷ columns picks seats) (keep v rs) (Some (columns (filter (is_kept a) picks) seats))
  keep_is {v} {rs} a =
      then_all {v = Bat (trues a (numbered (map a picks)))} (emits_gives op.Select (At 0 ∷ Lit (Bit true) ∷ Lit (Bit true) ∷ Lit (Bit true) ∷ Lit (Bit true) ∷ []) refl)
      (λ s. then_all (counted_gives db (At 0) (trues a (numbered (map a picks))) refl) (λ n. keep_end a n s v rs))

-- ## Values

-- whether there is no value
abbrev pub nil_bit : Cell → Cell
nil_bit c = Bit (is_nil c)

module _ {P : Type 0} (picks : List P) where
  -- a function of two such values
  abbrev pub two_shape : (Cell → Cell → Option Cell) → Shape P → Shape P → Option (Shape P)
  two_shape f (Alone x) (Alone y) = option_map Alone (f x y)
  two_shape f s t = each_or_none (λ p. f (at s p) (at t p)) picks

  abbrev pub one_shape : (Cell → Cell) → Shape P → Shape P
  one_shape f (Alone x) = Alone (f x)
  one_shape f (Each g) = Each (λ p. f (g p))

  alone_is : (o : Option Cell) → option_map (λ c. One c) o ≡ option_map (as_value picks) (option_map Alone o)
  alone_is None = refl
  alone_is (Some c) = refl

  two_is : (f : Cell → Cell → Option Cell) (s t : Shape P) → calculated (over_two f) (as_value picks s ∷ as_value picks t ∷ []) ≡ option_map (as_value picks) (two_shape f s t)
  two_is f (Alone x) (Alone y) = alone_is (f x y)
  two_is f (Alone x) (Each h) = calculated_shape (over_two f) (Alone x ∷ Each h ∷ []) refl picks
  two_is f (Each g) (Alone y) = calculated_shape (over_two f) (Each g ∷ Alone y ∷ []) refl picks
  two_is f (Each g) (Each h) = calculated_shape (over_two f) (Each g ∷ Each h ∷ []) refl picks

  none_none : (f : P → Cell) (ps : List P) → list_any (λ p. is_none (Some (f p))) ps ≡ false
  none_none f [] = refl
  none_none f (p ∷ ps) = none_none f ps

  one_is : (f : Cell → Cell) (s : Shape P) → calculated (over_one (λ x. Some (f x))) (as_value picks s ∷ []) ≡ Some (as_value picks (one_shape f s))
  one_is f (Alone x) = refl
  one_is f (Each g) =
      calculated_shape (over_one (λ x. Some (f x))) (Each g ∷ []) refl picks
      ∙ ap (λ b. option_map (as_value picks) (cond b None (Some (Each (λ p. f (g p)))))) (none_none (λ p. f (g p)) picks)

  calc_two : (db : Db) (operator : ArithOp) (s t : Shape P) → value_over db (calc_of operator) (as_value picks s ∷ as_value picks t ∷ []) ≡ option_map (as_value picks) (two_shape (result_of operator) s t)
  calc_two db arith_op.Plus s t = two_is (result_of arith_op.Plus) s t
  calc_two db arith_op.Minus s t = two_is (result_of arith_op.Minus) s t
  calc_two db arith_op.Times s t = two_is (result_of arith_op.Times) s t

  -- a function that always returns a cell
  abbrev pub sure : (Cell → Cell → Cell) → Cell → Cell → Option Cell
  sure f x y = Some (f x y)

  compare_two : (db : Db) (operator : CmpOp) (s t : Shape P) → value_over db (comparison_of operator) (as_value picks s ∷ as_value picks t ∷ []) ≡ option_map (as_value picks) (two_shape (sure (compared operator)) s t)
  compare_two db cmp.Eq s t = two_is (sure (compared cmp.Eq)) s t
  compare_two db cmp.Ne s t = two_is (sure (compared cmp.Ne)) s t
  compare_two db cmp.Lt s t = two_is (sure (compared cmp.Lt)) s t
  compare_two db cmp.Le s t = two_is (sure (compared cmp.Le)) s t
  compare_two db cmp.Gt s t = two_is (sure (compared cmp.Gt)) s t
  compare_two db cmp.Ge s t = two_is (sure (compared cmp.Ge)) s t

-- the cells of a place
abbrev pub place_cells : List Seat → ℕ × ℕ → Pick → Cell
place_cells seats place p = cell_in (seat_of seats place.0).rows place.1 ((seat_of seats place.0).at p)

abbrev pub place_shape : List Seat → Option (ℕ × ℕ) → Shape Pick
place_shape seats None = Alone Nil
place_shape seats (Some place) = Each (place_cells seats place)

module _ (db : Db) (scope : Scope) (seats : List Seat) where
  -- a reference means a column that is there
  abbrev pub PlaceFits : Option (ℕ × ℕ) → Type 0
  PlaceFits None = ⊥
  PlaceFits (Some place) = (place.0 < length seats) × Binds db (get_or scope.sources place.0 no_source) (seat_of seats place.0).rows × (place.1 < length (get_or scope.sources place.0 no_source).columns)

  abbrev pub ExprFits : ExprTree → Type 0
  ExprFits (Literal cell) = Unit {0}
  ExprFits (ColumnOf ref) = PlaceFits (place_of scope.called ref)
  ExprFits (Operator operator left right) = ExprFits left × ExprFits right
  ExprFits (AggregateAll f) = ⊥
  ExprFits (Aggregate f of) = ⊥

  abbrev pub CondFits : CondTree → Type 0
  CondFits (Compare operator left right) = ExprFits left × ExprFits right
  CondFits (Within of low high) = ExprFits of × ExprFits low × ExprFits high
  CondFits (IsNull of) = ExprFits of
  CondFits (Negation c) = CondFits c
  CondFits (Both left right) = CondFits left × CondFits right
  CondFits (Either left right) = CondFits left × CondFits right

module _ (db : Db) (scope : Scope) (picks : List Pick) (seats : List Seat) where
  abbrev pub two_of : (Cell → Cell → Option Cell) → Option (Shape Pick) → Option (Shape Pick) → Option (Shape Pick)
  two_of f s t = option_and_then (λ x. option_and_then (λ y. two_shape picks f x y) t) s

  abbrev pub expr_shape : ExprTree → Option (Shape Pick)
  expr_shape (Literal cell) = Some (Alone cell)
  expr_shape (ColumnOf ref) = Some (place_shape seats (place_of scope.called ref))
  expr_shape (Operator operator left right) = two_of (result_of operator) (expr_shape left) (expr_shape right)
  expr_shape (AggregateAll f) = Some (Alone Nil)
  expr_shape (Aggregate f of) = Some (Alone Nil)

  abbrev pub cond_shape : CondTree → Option (Shape Pick)
  cond_shape (Compare operator left right) = two_of (sure picks (compared operator)) (expr_shape left) (expr_shape right)
  cond_shape (Within of low high) =
      two_of (sure picks conjunction) (two_of (sure picks (compared cmp.Ge)) (expr_shape of) (expr_shape low)) (two_of (sure picks (compared cmp.Le)) (expr_shape of) (expr_shape high))
  cond_shape (IsNull of) = option_map (one_shape picks nil_bit) (expr_shape of)
  cond_shape (Negation c) = option_map (one_shape picks negation) (cond_shape c)
  cond_shape (Both left right) = two_of (sure picks conjunction) (cond_shape left) (cond_shape right)
  cond_shape (Either left right) = two_of (sure picks disjunction) (cond_shape left) (cond_shape right)

  module _ (inside : InSeats picks seats) (rs : List Arg) where
    abbrev IsShape : Emitter Arg → Option (Shape Pick) → Type 0
    IsShape emitter o = Gives (over db) rs (columns picks seats) emitter (option_map (as_value picks) o)

    place_is : (place : Option (ℕ × ℕ)) → PlaceFits db scope seats place → IsShape (place_value scope rs place) (Some (place_shape seats place))
    place_is None fits = absurd fits
    place_is (Some place) fits =
        column_is db picks (seat_of seats place.0) (get_or scope.sources place.0 no_source) place.0 place.1 (column_at picks seats place.0 fits.0) fits.1 fits.2 (seat_in picks seats place.0 fits.0 inside)

    -- two values, and a function of them
    both_are : {first second : Emitter Arg} (s t : Option (Shape Pick)) (operator : Op) (f : Cell → Cell → Option Cell)
        → ((x y : Shape Pick) → value_over db operator (as_value picks x ∷ as_value picks y ∷ []) ≡ option_map (as_value picks) (two_shape picks f x y))
        → IsShape first s → IsShape second t → IsShape (followed first (λ x. followed second (λ y. emits operator (x ∷ y ∷ [])))) (two_of f s t)
    both_are {first} {second} s t operator f is g h =
        gives_same (two_maybe (as_value picks) (two_shape picks f) s t)
        (then_maybe (as_value picks) s g (λ a x. then_maybe (as_value picks) t (behind_one h) (λ b y. emits_gives operator (At 1 ∷ At 0 ∷ []) (is x y))))

    pub expr_is : (expr : ExprTree) → ExprFits db scope seats expr → IsShape (expr_value scope rs expr) (expr_shape expr)
    expr_is (Literal cell) fits = constant_gives cell
    expr_is (ColumnOf ref) fits = place_is (place_of scope.called ref) fits
    expr_is (Operator operator left right) fits = both_are (expr_shape left) (expr_shape right) (calc_of operator) (result_of operator) (calc_two picks db operator) (expr_is left fits.0) (expr_is right fits.1)
    expr_is (AggregateAll f) fits = absurd fits
    expr_is (Aggregate f of) fits = absurd fits

    one_maybe : (f : Cell → Cell) (o : Option (Shape Pick)) → option_and_then (λ x. Some (as_value picks (one_shape picks f x))) o ≡ option_map (as_value picks) (option_map (one_shape picks f) o)
    one_maybe f None = refl
    one_maybe f (Some x) = refl

    pub cond_is : (c : CondTree) → CondFits db scope seats c → IsShape (cond_value scope rs c) (cond_shape c)
    cond_is (Compare operator left right) fits = both_are (expr_shape left) (expr_shape right) (comparison_of operator) (sure picks (compared operator)) (compare_two picks db operator) (expr_is left fits.0) (expr_is right fits.1)
    cond_is (Within of low high) fits =
        both_are (two_of (sure picks (compared cmp.Ge)) (expr_shape of) (expr_shape low)) (two_of (sure picks (compared cmp.Le)) (expr_shape of) (expr_shape high)) op.And (sure picks conjunction) (two_is picks (sure picks conjunction))
        (both_are (expr_shape of) (expr_shape low) op.Ge (sure picks (compared cmp.Ge)) (compare_two picks db cmp.Ge) (expr_is of fits.0) (expr_is low fits.1))
        (both_are (expr_shape of) (expr_shape high) op.Le (sure picks (compared cmp.Le)) (compare_two picks db cmp.Le) (expr_is of fits.0) (expr_is high fits.2))
    cond_is (IsNull of) fits =
        gives_same (one_maybe nil_bit (expr_shape of)) (then_maybe (as_value picks) (expr_shape of) (expr_is of fits) (λ a x. emits_gives op.IsNil (At 0 ∷ []) (one_is picks nil_bit x)))
    cond_is (Negation c) fits =
        gives_same (one_maybe negation (cond_shape c)) (then_maybe (as_value picks) (cond_shape c) (cond_is c fits) (λ a x. emits_gives op.Not (At 0 ∷ []) (one_is picks negation x)))
    cond_is (Both left right) fits = both_are (cond_shape left) (cond_shape right) op.And (sure picks conjunction) (two_is picks (sure picks conjunction)) (cond_is left fits.0) (cond_is right fits.1)
    cond_is (Either left right) fits = both_are (cond_shape left) (cond_shape right) op.Or (sure picks disjunction) (two_is picks (sure picks disjunction)) (cond_is left fits.0) (cond_is right fits.1)

  -- ## Which values are one cell

  -- it has a cell for each pick, or one for all
  abbrev pub IsKind : Option (Shape Pick) → Bool → Type 0
  IsKind None b = Unit {0}
  IsKind (Some s) b = is_each s ≡ b

  each_kind : (h : Pick → Option Cell) (b : Bool) → IsKind (cond b None (Some (Each (λ p. unwrap_or (h p) Nil)))) true
  each_kind h true = tt
  each_kind h false = refl

  alone_kind : (o : Option Cell) → IsKind (option_map Alone o) false
  alone_kind None = tt
  alone_kind (Some c) = refl

  two_kind : (f : Cell → Cell → Option Cell) (x y : Shape Pick) → IsKind (two_shape picks f x y) (is_each x || is_each y)
  two_kind f (Alone x) (Alone y) = alone_kind (f x y)
  two_kind f (Alone x) (Each h) = each_kind (λ p. f x (h p)) (list_any (λ p. is_none (f x (h p))) picks)
  two_kind f (Each g) (Alone y) = each_kind (λ p. f (g p) y) (list_any (λ p. is_none (f (g p) y)) picks)
  two_kind f (Each g) (Each h) = each_kind (λ p. f (g p) (h p)) (list_any (λ p. is_none (f (g p) (h p))) picks)

  both_kind : (f : Cell → Cell → Option Cell) (s t : Option (Shape Pick)) (b c : Bool) → IsKind s b → IsKind t c → IsKind (two_of f s t) (b || c)
  both_kind f None t b c k l = tt
  both_kind f (Some x) None b c k l = tt
  both_kind f (Some x) (Some y) b c k l = subst (λ d. IsKind (two_shape picks f x y) d) (ap (λ d. d || is_each y) k ∙ ap (λ d. b || d) l) (two_kind f x y)

  kind_along : (o : Option (Shape Pick)) (b c : Bool) → b ≡ c → IsKind o b → IsKind o c
  kind_along o b c e k = subst (λ d. IsKind o d) e k

  either_not : (a b : Bool) → not a || not b ≡ not (a && b)
  either_not true b = refl
  either_not false b = refl

  within_not : (a b c : Bool) → (not a || not b) || (not a || not c) ≡ not ((a && b) && c)
  within_not true true c = refl
  within_not true false c = refl
  within_not false b c = refl

  place_kind : (place : Option (ℕ × ℕ)) → PlaceFits db scope seats place → is_each (place_shape seats place) ≡ true
  place_kind None fits = absurd fits
  place_kind (Some place) fits = refl

  pub expr_kind : (expr : ExprTree) → ExprFits db scope seats expr → IsKind (expr_shape expr) (not (is_alone expr))
  expr_kind (Literal cell) fits = refl
  expr_kind (ColumnOf ref) fits = place_kind (place_of scope.called ref) fits
  expr_kind (Operator operator left right) fits =
      kind_along (expr_shape (Operator operator left right)) (not (is_alone left) || not (is_alone right)) (not (is_alone left && is_alone right)) (either_not (is_alone left) (is_alone right))
      (both_kind (result_of operator) (expr_shape left) (expr_shape right) (not (is_alone left)) (not (is_alone right)) (expr_kind left fits.0) (expr_kind right fits.1))
  expr_kind (AggregateAll f) fits = absurd fits
  expr_kind (Aggregate f of) fits = absurd fits

  one_kind : (f : Cell → Cell) (o : Option (Shape Pick)) (b : Bool) → IsKind o b → IsKind (option_map (one_shape picks f) o) b
  one_kind f None b k = tt
  one_kind f (Some (Alone c)) b k = k
  one_kind f (Some (Each g)) b k = k

  cond_kind : (c : CondTree) → CondFits db scope seats c → IsKind (cond_shape c) (not (is_cond_alone c))
  cond_kind (Compare operator left right) fits =
      kind_along (cond_shape (Compare operator left right)) (not (is_alone left) || not (is_alone right)) (not (is_alone left && is_alone right)) (either_not (is_alone left) (is_alone right))
      (both_kind (sure picks (compared operator)) (expr_shape left) (expr_shape right) (not (is_alone left)) (not (is_alone right)) (expr_kind left fits.0) (expr_kind right fits.1))
  cond_kind (Within of low high) fits =
      kind_along (cond_shape (Within of low high)) ((not (is_alone of) || not (is_alone low)) || (not (is_alone of) || not (is_alone high))) (not ((is_alone of && is_alone low) && is_alone high))
      (within_not (is_alone of) (is_alone low) (is_alone high))
      (both_kind (sure picks conjunction) (two_of (sure picks (compared cmp.Ge)) (expr_shape of) (expr_shape low)) (two_of (sure picks (compared cmp.Le)) (expr_shape of) (expr_shape high))
      (not (is_alone of) || not (is_alone low)) (not (is_alone of) || not (is_alone high))
      (both_kind (sure picks (compared cmp.Ge)) (expr_shape of) (expr_shape low) (not (is_alone of)) (not (is_alone low)) (expr_kind of fits.0) (expr_kind low fits.1))
      (both_kind (sure picks (compared cmp.Le)) (expr_shape of) (expr_shape high) (not (is_alone of)) (not (is_alone high)) (expr_kind of fits.0) (expr_kind high fits.2)))
  cond_kind (IsNull of) fits = one_kind nil_bit (expr_shape of) (not (is_alone of)) (expr_kind of fits)
  cond_kind (Negation c) fits = one_kind negation (cond_shape c) (not (is_cond_alone c)) (cond_kind c fits)
  cond_kind (Both left right) fits =
      kind_along (cond_shape (Both left right)) (not (is_cond_alone left) || not (is_cond_alone right)) (not (is_cond_alone left && is_cond_alone right)) (either_not (is_cond_alone left) (is_cond_alone right))
      (both_kind (sure picks conjunction) (cond_shape left) (cond_shape right) (not (is_cond_alone left)) (not (is_cond_alone right)) (cond_kind left fits.0) (cond_kind right fits.1))
  cond_kind (Either left right) fits =
      kind_along (cond_shape (Either left right)) (not (is_cond_alone left) || not (is_cond_alone right)) (not (is_cond_alone left && is_cond_alone right)) (either_not (is_cond_alone left) (is_cond_alone right))
      (both_kind (sure picks disjunction) (cond_shape left) (cond_shape right) (not (is_cond_alone left)) (not (is_cond_alone right)) (cond_kind left fits.0) (cond_kind right fits.1))

  -- ## A conjunct

  module _ (inside : InSeats picks seats) (some : 0 < length seats) (rs : List Arg) where
    spread_value_is : {v : Arg} (s : Shape Pick) (b : Bool) → is_each s ≡ not b → Gives (over db) (v ∷ rs) (as_value picks s ∷ columns picks seats) (spread_value rs b v) (Some (Bat (numbered (map (at s) picks))))
    spread_value_is (Alone c) true e =
        emits_gives op.Project (At 1 ∷ At 0 ∷ [])
        (ap (λ v. value_over db op.Project (v ∷ One c ∷ [])) (column_at picks seats 0 some) ∙ ap (λ b. Some (Bat b)) (projected_is c (λ p. Oid ((seat_of seats 0).at p)) picks))
    spread_value_is (Alone c) false e = cc
    spread_value_is (Each f) true e = cc
    spread_value_is (Each f) false e = known_gives

    -- the truth of a condition beside each pick
    conjunct_is : (c : CondTree) → CondFits db scope seats c
        → Gives (over db) rs (columns picks seats) (followed (cond_value scope rs c) (λ v. spread_value rs (is_cond_alone c) v)) (option_map (λ s. Bat (numbered (map (at s) picks))) (cond_shape c))
    conjunct_is c fits =
        gives_same (again (cond_shape c))
        (then_found (as_value picks) (cond_shape c) (cond_is inside rs c fits) (λ v s e. spread_value_is s (is_cond_alone c) (subst (λ o. IsKind o (not (is_cond_alone c))) e (cond_kind c fits))))
      where
        again : (o : Option (Shape Pick)) → option_and_then (λ s. Some (Bat (numbered (map (at s) picks)))) o ≡ option_map (λ s. Bat (numbered (map (at s) picks))) o
        again None = refl
        again (Some s) = refl

    -- the picks for which a conjunct is true
    pub keep_true_is : (c : CondTree) → CondFits db scope seats c → GivesAll (over db) rs (columns picks seats) (keep_true scope rs c) (option_map (λ s. columns (filter (is_kept (at s)) picks) seats) (cond_shape c))
    keep_true_is c fits =
        gives_all_same (again (cond_shape c))
        (then_maybe_all (λ s. Bat (numbered (map (at s) picks))) (cond_shape c) (conjunct_is c fits) (λ v s e. keep_is db picks seats (at s)))
      where
        again : (o : Option (Shape Pick)) → option_and_then (λ s. Some (columns (filter (is_kept (at s)) picks) seats)) o ≡ option_map (λ s. columns (filter (is_kept (at s)) picks) seats) o
        again None = refl
        again (Some s) = refl
