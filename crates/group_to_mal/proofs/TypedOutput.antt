-- A plan whose output has types has no fault.
use Rattle.std.proofs.Common.{◌≡◌, ℕ, suc, zero, ◌<◌, List, [], ◌∷◌, length, Bool, true, false, not, ◌&&◌, cond, Option, Some, None, Ok, refl, ap, sym, ◌∙◌, arith}
use Rattle.std.specs.Prelude.{is_some, filter_map, position, nat_lt, Result, Err}
use Rattle.std.specs.List.{list_all, cons_option}
use Rattle.std.specs.Option.{option_map, option_map_or, option_and_then, option_or}
use Rattle.std.specs.Result.{result_ok}
use Rattle.std.proofs.lemmas.Option.{same_Some}
use Rattle.std.proofs.lemmas.List.Quantifiers.{position-Some}
use Rattle.cell_core.specs.declared.cell.Kind.TheVariants as kind
use Rattle.cell_core.specs.declared.operator.Instr.{Instr}
use Rattle.cell_core.specs.declared.operator.Arg.{Arg}
use Rattle.cell_core.specs.declared.operator.Arg.TheVariants.{Const, Var}
use Rattle.cell_core.specs.declared.table.Db.{Db}
use Rattle.cell_core.specs.Kinds.{ValueType, OneOf}
use Rattle.mal_meaning.specs.declared.plan.Plan.{Plan}
use Rattle.mal_check.specs.declared.error.PlanError.{PlanError}
use Rattle.mal_check.specs.declared.error.PlanError.TheVariants.{KindsDiffer, WrongCount, UnknownVar, NoOutput}
use Rattle.mal_check.specs.Checked.{arg_type, is_bit_type, types_from, fault_with, is_known, is_bit, is_empty, are_below, passes, plan_fault}
use Rattle.mal_check.specs.Runnable.{FitsDb}
use Rattle.mal_emit.specs.Machines.{checking, arg_in, args_in, Holds}
use Rattle.mal_emit.proofs.MachineLemmas.{none_known}
use Rattle.mal_emit.proofs.TypeLemmas.{checking_types, ran_is_checked}
use Rattle.cell_core.specs.declared.cell.Cell.TheVariants.{Nil}
use Rattle.sql_tree.specs.Tree.{ItemTree, QueryTree}
use Rattle.sql_tree.specs.Tree.ExprTree.{Literal}
use Rattle.sql_tree.specs.declared.tree.Place.{Place}
use Rattle.sql_tree.specs.declared.tree.Place.TheVariants.{Position, Named}
use Rattle.sql_tree.specs.declared.tree.SortKey.{SortKey}
use Rattle.sql_definitions.specs.Sources.{NamedSource, place_of}
use Rattle.sql_definitions.specs.References.{items_of}
use Rattle.sql_definitions.specs.Answer.{is_called, is_column, item_at, key_place, key_places}
use Rattle.group_to_mal.specs.QueryPlan.{ShownColumns}

-- ## Keys

either_below : {X : Type 0} (t u : X → Bool) (xs : List X) (d : X) (n : ℕ) → option_or (position t xs) (position u xs) ≡ Some n → n < length xs
either_below t u xs d n e = by_first (position t xs) refl e
  where
    by_first : (o : Option ℕ) → position t xs ≡ o → option_or o (position u xs) ≡ Some n → n < length xs
    by_first (Some m) f g = (position-Some t xs n d (f ∙ g)).0
    by_first None f g = (position-Some u xs n d g).0

below_is : (n count : ℕ) → n < count → nat_lt n count ≡ true
below_is n count h = grind arith

item_below : (count n m : ℕ) → item_at count n ≡ Some m → nat_lt m count ≡ true
item_below count zero m e = cc
item_below count (suc n) m e = by_case (nat_lt n count) refl e
  where
    by_case : (b : Bool) → nat_lt n count ≡ b → cond b (Some n) None ≡ Some m → nat_lt m count ≡ true
    by_case true f g = ap (λ k. nat_lt k count) (sym (same_Some n m g)) ∙ f
    by_case false f g = cc

no_item : ItemTree
no_item = record { expr = Literal Nil; alias = None }

module _ (called : List NamedSource) (items : List ItemTree) where
  place_below : (at : Place) (n : ℕ) → key_place called items at ≡ Some n → nat_lt n (length items) ≡ true
  place_below (Position m) n e = item_below (length items) m n e
  place_below (Named ref) n e =
      below_is n (length items) (either_below (is_called ref) (λ (item : ItemTree). is_column called (place_of called ref) item.expr) items no_item n e)

  places_below : (keys : List SortKey) → are_below (length items) (filter_map (λ (key : SortKey). option_map (λ n. (n, key.ascending)) (key_place called items key.at)) keys) ≡ true
  places_below [] = refl
  places_below (key ∷ keys) = by_place (key_place called items key.at) refl (places_below keys)
    where
      rest : List (ℕ × Bool)
      rest = filter_map (λ (key : SortKey). option_map (λ n. (n, key.ascending)) (key_place called items key.at)) keys

      by_place : (o : Option ℕ) → key_place called items key.at ≡ o → are_below (length items) rest ≡ true → are_below (length items) (cons_option (option_map (λ n. (n, key.ascending)) o) rest) ≡ true
      by_place None e h = h
      by_place (Some n) e h = ap (λ b. b && are_below (length items) rest) (place_below key.at n e) ∙ h

-- ## Outputs

abbrev faults : Bool → Bool → Bool → Bool → ℕ → Option PlanError
faults empty known below bit n =
    cond empty (Some NoOutput) (cond (not known) (Some (UnknownVar n)) (cond (not below) (Some (WrongCount n)) (cond (not bit) (Some (KindsDiffer n)) None)))

none_at_fault : (a b c d : Bool) (n : ℕ) → a ≡ false → b ≡ true → c ≡ true → d ≡ true → faults a b c d n ≡ None
none_at_fault false true true true n e f g h = refl
none_at_fault true b c d n e f g h = cc
none_at_fault false false c d n e f g h = cc
none_at_fault false true false d n e f g h = cc
none_at_fault false true true false n e f g h = cc

ok_from : (r : Result (List ValueType) PlanError) (found : List ValueType) → result_ok r ≡ Some found → r ≡ Ok found
ok_from (Ok types) found e = ap Ok (same_Some types found e)
ok_from (Err error) found e = cc

-- what is shown after instructions: columns of types, and a bit for a test
module _ (db : Db) where
  abbrev pub TestIs : List Instr → Option Arg → Type 0
  TestIs instrs None = Unit {0}
  TestIs instrs (Some test) = Holds (checking db) instrs (test ∷ []) (OneOf (Some kind.Bit) ∷ [])

  pub record ShownIs (instrs : List Instr) (shown : ShownColumns) (count : ℕ) : Type 0 where
    pub first : ValueType
    pub others : List ValueType
    pub columns : Holds (checking db) instrs shown.0 (first ∷ others)
    pub long : length (first ∷ others) ≡ count
    pub test : TestIs instrs shown.1

  type_known : (found : List ValueType) (arg : Arg) (t : ValueType) → arg_in (checking db) found arg ≡ Some t → arg_type found arg ≡ Some t
  type_known found (Const cell) t e = e
  type_known found (Var n) t e = e

  -- arguments that have types are known, and are as many
  all_known : (found : List ValueType) (args : List Arg) (are : List ValueType) → args_in (checking db) found args ≡ Some are → (list_all (is_known found) args ≡ true) × (length args ≡ length are)
  all_known found [] are e = (refl, ap length (same_Some [] are e))
  all_known found (arg ∷ args) are e = by_parts (arg_in (checking db) found arg) (args_in (checking db) found args) refl (λ ys g. all_known found args ys g) e
    where
      by_parts : (o : Option ValueType) (p : Option (List ValueType)) → arg_in (checking db) found arg ≡ o → ((ys : List ValueType) → p ≡ Some ys → (list_all (is_known found) args ≡ true) × (length args ≡ length ys))
          → option_and_then (λ y. option_map (λ ys. y ∷ ys) p) o ≡ Some are → (is_known found arg && list_all (is_known found) args ≡ true) × (suc (length args) ≡ length are)
      by_parts None p f again g = cc
      by_parts (Some t) None f again g = cc
      by_parts (Some t) (Some ts) f again g =
          let more = again ts refl in
          (ap (λ o. is_some o && list_all (is_known found) args) (type_known found arg t f) ∙ more.0, ap suc more.1 ∙ ap length (same_Some (t ∷ ts) are g))

  bit_known : (found : List ValueType) (test : Arg) → args_in (checking db) found (test ∷ []) ≡ Some (OneOf (Some kind.Bit) ∷ []) → is_bit found test ≡ true
  bit_known found test e = by_type (arg_in (checking db) found test) refl e
    where
      by_type : (o : Option ValueType) → arg_in (checking db) found test ≡ o → option_and_then (λ (y : ValueType). Some (y ∷ [])) o ≡ Some (OneOf (Some kind.Bit) ∷ []) → is_bit found test ≡ true
      by_type None f g = cc
      by_type (Some t) f g = ap (λ o. option_map_or is_bit_type o false) (type_known found test t f ∙ ap Some one)
        where
          one : t ≡ OneOf (Some kind.Bit)
          one = cc

  empty_not : (instrs : List Instr) (cols : List Arg) (t : ValueType) (types : List ValueType) → Holds (checking db) instrs cols (t ∷ types) → is_empty cols ≡ false
  empty_not instrs [] t types h = absurd (none_known (checking db) h)
  empty_not instrs (col ∷ cols) t types h = refl

  abbrev plan_with : List Instr → ShownColumns → List (ℕ × Bool) → Option ℕ → Plan
  plan_with instrs shown order limit = record { instrs = instrs; out = record { cols = shown.0; keep = shown.1; order = order; limit = limit } }

  tested : (found : List ValueType) (instrs : List Instr) (keep : Option Arg) → ((args : List Arg) (are : List ValueType) → Holds (checking db) instrs args are → args_in (checking db) found args ≡ Some are) → TestIs instrs keep
      → (passes (is_known found) keep ≡ true) × (passes (is_bit found) keep ≡ true)
  tested found instrs None all t = (refl, refl)
  tested found instrs (Some test) all t =
      let known = all (test ∷ []) (OneOf (Some kind.Bit) ∷ []) t in
      (only (is_known found test) (all_known found (test ∷ []) (OneOf (Some kind.Bit) ∷ []) known).0, bit_known found test known)
    where
      only : (b : Bool) → b && true ≡ true → b ≡ true
      only true e = refl
      only false e = cc

  pub checked_and_fits : (instrs : List Instr) (shown : ShownColumns) (count : ℕ) (order : List (ℕ × Bool)) (limit : Option ℕ) → ShownIs instrs shown count → are_below count order ≡ true
      → (plan_fault (plan_with instrs shown order limit) ≡ None) × FitsDb (plan_with instrs shown order limit) db
  checked_and_fits instrs shown count order limit is below =
      let h = is.columns in
      let parts = checking_types db [] instrs h.found h.done in
      let known = all_known h.found shown.0 (is.first ∷ is.others) h.known in
      let test = tested h.found instrs shown.1 (λ args are k. ap (λ found. args_in (checking db) found args) (same_Some h.found k.found (sym h.done ∙ k.done)) ∙ k.known) is.test in (
        ap (fault_with (plan_with instrs shown order limit).out) (ok_from (types_from [] instrs) h.found (sym (ran_is_checked [] instrs) ∙ parts.0))
            ∙ none_at_fault (is_empty shown.0) (list_all (is_known h.found) shown.0 && passes (is_known h.found) shown.1) (are_below (length shown.0) order) (passes (is_bit h.found) shown.1) (length h.found)
            (empty_not instrs shown.0 is.first is.others h) (ap (λ b. b && passes (is_known h.found) shown.1) known.0 ∙ test.0)
            (ap (λ n. are_below n order) (known.1 ∙ is.long) ∙ below) test.1,
        parts.1,
      )

-- the keys of a query name columns that are there
pub keys_below : (called : List NamedSource) (query : QueryTree) → are_below (length (items_of called query)) (key_places called query) ≡ true
keys_below called query = places_below called (items_of called query) query.keys
