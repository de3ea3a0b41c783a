-- What a query knows of its values and ids, as it goes from one instruction to the next while others go on.
use Rattle.std.proofs.Common.{◌≡◌, ℕ, zero, suc, ◌+◌, ◌<◌, List, [], ◌∷◌, ◌++◌, map, take, length, Option, Some, refl, ap, sym, ◌∙◌, subst, arith}
use Rattle.std.specs.Prelude.{slice_get, IsSome}
use Rattle.std.specs.Option.{option_map_or, option_and_then}
use Rattle.std.proofs.lemmas.List.{map-append}
use Rattle.std.proofs.lemmas.Option.{same_Some}
use Rattle.cell_core.specs.declared.cell.Cell.TheVariants.{Text}
use Rattle.cell_core.specs.declared.operator.Op.{Op}
use Rattle.cell_core.specs.declared.operator.Op.TheVariants as op
use Rattle.cell_core.specs.declared.operator.Instr.{Instr}
use Rattle.cell_core.specs.declared.operator.Value.{Value}
use Rattle.cell_core.specs.declared.operator.Value.TheVariants.{Bat, One}
use Rattle.cell_core.specs.declared.table.Db.{Db}
use Rattle.cell_core.specs.Operators.{pairs_read, pairs_made}
use Rattle.cell_core.specs.Pairs.{Pairs, pair_count}
use Rattle.mal_meaning.specs.Meaning.{arg_values, bind_value, column_pairs, instr_load, instr_value, value_over, work_over}
use Rattle.pool_policy.specs.Keeps.{Face}
use Rattle.pool_policy.specs.Worths.{worth, WorthsStay}
use Rattle.query_keys.specs.Keys.{AreIdsOf}
use Rattle.query_keys.proofs.InstrLemmas.{get_none}

-- an id that isn't 0 is worth the value beside it
abbrev pub IsIdOf : List Face → ℕ → Option Value → Type 0
IsIdOf given id value = 0 < id → (pairs : Pairs) × (value ≡ Some (Bat pairs)) × (worth given id ≡ Some pairs)

-- ids are worth the same, whatever is given out later
pub ids_stay : (given later : List Face) → WorthsStay given later → (ids : List ℕ) (values : List (Option Value)) → AreIdsOf given ids values → AreIdsOf later ids values
ids_stay given later stay [] values are = tt
ids_stay given later stay (id ∷ ids) [] are = absurd are
ids_stay given later stay (id ∷ ids) (value ∷ values) are = (
  λ above. let one = are.0 above in (one.0, one.1, stay id (subst (λ o. IsSome o) (sym one.2) refl) ∙ one.2),
  ids_stay given later stay ids values are.1,
)

-- one id more, of the next value
pub ids_next : (given : List Face) (ids : List ℕ) (values : List (Option Value)) → AreIdsOf given ids values → (id : ℕ) (value : Option Value) → slice_get values (length ids) ≡ Some value
    → IsIdOf given id value → AreIdsOf given (ids ++ id ∷ []) values
ids_next given [] [] are id value there one = cc
ids_next given [] (v ∷ values) are id value there one = (subst (IsIdOf given id) (same_Some value v (sym there)) one, tt)
ids_next given (i ∷ ids) [] are id value there one = absurd are
ids_next given (i ∷ ids) (v ∷ values) are id value there one = (are.0, ids_next given ids values are.1 id value there one)

-- one value more
taken_next : {X : Type 0} (all : List X) (n : ℕ) (x : X) → slice_get all n ≡ Some x → take n all ++ x ∷ [] ≡ take (suc n) all
taken_next [] n x there = absurd (get_none n x there)
taken_next (y ∷ all) zero x there = ap (λ z. z ∷ []) (same_Some x y (sym there))
taken_next (y ∷ all) (suc n) x there = ap (λ zs. y ∷ zs) (taken_next all n x there)

pub values_next : (all : List (Option Value)) (n : ℕ) (values : List Value) (value : Value) → map Some values ≡ take n all → slice_get all n ≡ Some (Some value) → map Some (values ++ value ∷ []) ≡ take (n + 1) all
values_next all n values value before there =
    let next : suc n ≡ n + 1 = omega arith in
    map-append Some values (value ∷ []) ∙ ap (λ vs. vs ++ Some value ∷ []) before ∙ taken_next all n (Some value) there ∙ ap (λ k. take k all) next

-- ## Work

bind_made : (db : Db) (args : List Value) (value : Value) → bind_value db args ≡ Some value → work_over db op.Bind args ≡ pairs_read args + pair_count value
bind_made db (One (Text table) ∷ One (Text column) ∷ One (Text kind) ∷ []) value e =
    let is : Bat (column_pairs table column db) ≡ value = same_Some (Bat (column_pairs table column db)) value e in
    let plain : pair_count (Bat (column_pairs table column db)) ≡ 0 + pair_count (Bat (column_pairs table column db)) = omega arith in
    plain ∙ ap (λ v. 0 + pair_count v) is
bind_made db args value e = absurd (cc)

over_made : (db : Db) (operator : Op) (args : List Value) (value : Value) → value_over db operator args ≡ Some value → work_over db operator args ≡ pairs_read args + pair_count value
over_made db op.Bind args value e = bind_made db args value e
over_made db operator args value e = ap (λ made. pairs_read args + pairs_made made args) e

-- the work of an instruction that has a value is the pairs of its arguments and those of its value
pub load_made : (db : Db) (values : List (Option Value)) (instr : Instr) (args : List Value) (value : Value) → arg_values values instr.args ≡ Some args → instr_value db values instr ≡ Some value
    → instr_load db values instr ≡ pairs_read args + pair_count value
unfolding instr_value
load_made db values instr args value given is =
    ap (λ (vs : Option (List Value)). option_map_or (work_over db instr.op) vs 0) given
    ∙ over_made db instr.op args value (sym (ap (option_and_then (value_over db instr.op)) given) ∙ is)
