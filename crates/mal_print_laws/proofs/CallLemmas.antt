-- The words of the operators are words, and call them.
use Rattle.std.proofs.Common.{◌≡◌, Bool, true, false, Some, refl}
use Rattle.cell_core.specs.declared.operator.Op.{Op}
use Rattle.cell_core.specs.declared.operator.Op.TheVariants as op
use Rattle.mal_print.specs.Canon.{module_of}
use Rattle.mal_tokens.specs.Operators.{function_word, op_of}
use Rattle.mal_print_laws.proofs.WordLemmas.{is_word}

-- the words that are printed of an operator
pub record IsCalled (taken : Bool) (operator : Op) : Type 0 where
  pub home_is : is_word (module_of taken operator) ≡ true
  pub function_is : is_word (function_word operator) ≡ true
  pub called : op_of (module_of taken operator) (function_word operator) ≡ Some operator

pub is_called : (taken : Bool) (operator : Op) → IsCalled taken operator
unfolding op_of
is_called taken op.Bind = record { home_is = refl; function_is = refl; called = refl }
is_called taken op.Select = record { home_is = refl; function_is = refl; called = refl }
is_called taken op.Semijoin = record { home_is = refl; function_is = refl; called = refl }
is_called taken op.Kdifference = record { home_is = refl; function_is = refl; called = refl }
is_called taken op.Kunion = record { home_is = refl; function_is = refl; called = refl }
is_called taken op.Reverse = record { home_is = refl; function_is = refl; called = refl }
is_called taken op.Mirror = record { home_is = refl; function_is = refl; called = refl }
is_called taken op.MarkT = record { home_is = refl; function_is = refl; called = refl }
is_called taken op.Project = record { home_is = refl; function_is = refl; called = refl }
is_called taken op.Cross = record { home_is = refl; function_is = refl; called = refl }
is_called taken op.Join = record { home_is = refl; function_is = refl; called = refl }
is_called taken op.GroupNew = record { home_is = refl; function_is = refl; called = refl }
is_called taken op.GroupDerive = record { home_is = refl; function_is = refl; called = refl }
is_called taken op.GroupHeads = record { home_is = refl; function_is = refl; called = refl }
is_called taken op.Count = record { home_is = refl; function_is = refl; called = refl }
is_called taken op.Sum = record { home_is = refl; function_is = refl; called = refl }
is_called taken op.Min = record { home_is = refl; function_is = refl; called = refl }
is_called taken op.Max = record { home_is = refl; function_is = refl; called = refl }
is_called taken op.Subcount = record { home_is = refl; function_is = refl; called = refl }
is_called taken op.Subsum = record { home_is = refl; function_is = refl; called = refl }
is_called taken op.Submin = record { home_is = refl; function_is = refl; called = refl }
is_called taken op.Submax = record { home_is = refl; function_is = refl; called = refl }
is_called false op.Plus = record { home_is = refl; function_is = refl; called = refl }
is_called true op.Plus = record { home_is = refl; function_is = refl; called = refl }
is_called false op.Minus = record { home_is = refl; function_is = refl; called = refl }
is_called true op.Minus = record { home_is = refl; function_is = refl; called = refl }
is_called false op.Times = record { home_is = refl; function_is = refl; called = refl }
is_called true op.Times = record { home_is = refl; function_is = refl; called = refl }
is_called false op.Eq = record { home_is = refl; function_is = refl; called = refl }
is_called true op.Eq = record { home_is = refl; function_is = refl; called = refl }
is_called false op.Ne = record { home_is = refl; function_is = refl; called = refl }
is_called true op.Ne = record { home_is = refl; function_is = refl; called = refl }
is_called false op.Lt = record { home_is = refl; function_is = refl; called = refl }
is_called true op.Lt = record { home_is = refl; function_is = refl; called = refl }
is_called false op.Le = record { home_is = refl; function_is = refl; called = refl }
is_called true op.Le = record { home_is = refl; function_is = refl; called = refl }
is_called false op.Gt = record { home_is = refl; function_is = refl; called = refl }
is_called true op.Gt = record { home_is = refl; function_is = refl; called = refl }
is_called false op.Ge = record { home_is = refl; function_is = refl; called = refl }
is_called true op.Ge = record { home_is = refl; function_is = refl; called = refl }
is_called false op.And = record { home_is = refl; function_is = refl; called = refl }
is_called true op.And = record { home_is = refl; function_is = refl; called = refl }
is_called false op.Or = record { home_is = refl; function_is = refl; called = refl }
is_called true op.Or = record { home_is = refl; function_is = refl; called = refl }
is_called false op.Not = record { home_is = refl; function_is = refl; called = refl }
is_called true op.Not = record { home_is = refl; function_is = refl; called = refl }
is_called false op.IsNil = record { home_is = refl; function_is = refl; called = refl }
is_called true op.IsNil = record { home_is = refl; function_is = refl; called = refl }
