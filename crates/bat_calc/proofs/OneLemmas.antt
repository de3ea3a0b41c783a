-- A function of one cell as a function of two that takes no notice of the second.
use Rattle.std.proofs.Common.{◌≡◌, ℕ, suc, zero, ◌+◌, [], ◌∷◌, length, map, Some, refl, ap, arith}
use Rattle.std.specs.Prelude.{Result, Ok, Err, OnOk, unwrap_or}
use Rattle.std.specs.List.{zip, range_with_len}
use Rattle.std.specs.Option.{option_map, option_map_or}
use Rattle.std.specs.Result.{IfOk}
use Rattle.cell_core.specs.declared.cell.Cell.{Cell}
use Rattle.cell_core.specs.declared.cell.Cell.TheVariants.{Nil}
use Rattle.cell_core.specs.declared.memory.RunError.{RunError}
use Rattle.cell_core.specs.declared.operator.Op.{Op}
use Rattle.cell_core.specs.declared.operator.Value.{Value}
use Rattle.cell_core.specs.declared.operator.Value.TheVariants.{Bat, One}
use Rattle.cell_core.specs.Pairs.{row_at, cell_at, heads_of, pair_count, shortest}
use Rattle.cell_core.specs.Calc.{over_one, over_two, all_or_none, calculated}
use Rattle.cell_core.specs.Operators.{operate, work_of}
use Rattle.bat_core.specs.declared.shared.Obj.{Obj}
use Rattle.bat_core.specs.Objects.{value_of}

module _ (f : Cell → Cell) where
  rows_alike : (v : Value) (a n : ℕ) → map (over_two (λ x y. Some (f x))) (map (row_at (v ∷ One Nil ∷ [])) (range_with_len a n)) ≡ map (over_one (λ x. Some (f x))) (map (row_at (v ∷ [])) (range_with_len a n))
  rows_alike v a zero = refl
  rows_alike v a (suc n) = ap (λ l. Some (f (cell_at a v)) ∷ l) (rows_alike v (a + 1) n)

  pub one_over : (v : Value) → calculated (over_two (λ x y. Some (f x))) (v ∷ One Nil ∷ []) ≡ calculated (over_one (λ x. Some (f x))) (v ∷ [])
  one_over (Bat b) = ap (λ cells. option_map (λ cells. Bat (zip (heads_of b) cells)) (all_or_none cells)) (rows_alike (Bat b) 0 (length b))
  one_over (One c) = refl

pub one_work : (operator : Op) (v : Value) (r : Result Obj RunError) (old new : ℕ) → IfOk r (λ out. operate operator (v ∷ []) ≡ Some (value_of out)) → IfOk r (λ out. new ≡ old + (pair_count v + 0 + pair_count (value_of out))) → OnOk r (new ≡ old + work_of operator (v ∷ []))
one_work operator v (Ok out) old new value work =
    let made : option_map_or pair_count (operate operator (v ∷ [])) (unwrap_or (shortest (v ∷ [])) 0) ≡ pair_count (value_of out) = ap (λ o. option_map_or pair_count o (unwrap_or (shortest (v ∷ [])) 0)) value in
    omega (arith, made, work)
one_work operator v (Err e) old new value work = tt
