-- The words of the operators: each is called by a module and a function.
use Rattle.std.specs.Prelude.{ℕ, List, Bool, ◌&&◌, ◌||◌, bytes_eq, codes, Option}
use Rattle.std.specs.List.{find}
use Rattle.cell_core.specs.Places.{operators}
use Rattle.cell_core.specs.Forms.{is_calc}
use Rattle.cell_core.specs.declared.operator.Op.{Op}
use Rattle.cell_core.specs.declared.operator.Op.TheVariants as op

abbrev pub function_word : Op → List ℕ
function_word op.Bind = codes "bind"
function_word op.Select = codes "select"
function_word op.Semijoin = codes "semijoin"
function_word op.Kdifference = codes "kdifference"
function_word op.Kunion = codes "kunion"
function_word op.Reverse = codes "reverse"
function_word op.Mirror = codes "mirror"
function_word op.MarkT = codes "markT"
function_word op.Project = codes "project"
function_word op.Cross = codes "cross"
function_word op.Join = codes "join"
function_word op.GroupNew = codes "new"
function_word op.GroupDerive = codes "derive"
function_word op.GroupHeads = codes "heads"
function_word op.Count = codes "count"
function_word op.Sum = codes "sum"
function_word op.Min = codes "min"
function_word op.Max = codes "max"
function_word op.Subcount = codes "subcount"
function_word op.Subsum = codes "subsum"
function_word op.Submin = codes "submin"
function_word op.Submax = codes "submax"
function_word op.Plus = codes "plus"
function_word op.Minus = codes "minus"
function_word op.Times = codes "times"
function_word op.Eq = codes "eq"
function_word op.Ne = codes "ne"
function_word op.Lt = codes "lt"
function_word op.Le = codes "le"
function_word op.Gt = codes "gt"
function_word op.Ge = codes "ge"
function_word op.And = codes "and"
function_word op.Or = codes "or"
function_word op.Not = codes "not"
function_word op.IsNil = codes "isnil"

-- the module of an operator; that of a function of cells is `calc` where all arguments are scalars
abbrev pub module_word : Op → List ℕ
module_word op.Bind = codes "sql"
module_word op.Select = codes "algebra"
module_word op.Semijoin = codes "algebra"
module_word op.Kdifference = codes "algebra"
module_word op.Kunion = codes "algebra"
module_word op.Reverse = codes "algebra"
module_word op.Mirror = codes "algebra"
module_word op.MarkT = codes "algebra"
module_word op.Project = codes "algebra"
module_word op.Cross = codes "algebra"
module_word op.Join = codes "algebra"
module_word op.GroupNew = codes "group"
module_word op.GroupDerive = codes "group"
module_word op.GroupHeads = codes "group"
module_word op.Count = codes "aggr"
module_word op.Sum = codes "aggr"
module_word op.Min = codes "aggr"
module_word op.Max = codes "aggr"
module_word op.Subcount = codes "aggr"
module_word op.Subsum = codes "aggr"
module_word op.Submin = codes "aggr"
module_word op.Submax = codes "aggr"
module_word op.Plus = codes "calc"
module_word op.Minus = codes "calc"
module_word op.Times = codes "calc"
module_word op.Eq = codes "calc"
module_word op.Ne = codes "calc"
module_word op.Lt = codes "calc"
module_word op.Le = codes "calc"
module_word op.Gt = codes "calc"
module_word op.Ge = codes "calc"
module_word op.And = codes "calc"
module_word op.Or = codes "calc"
module_word op.Not = codes "calc"
module_word op.IsNil = codes "calc"

-- the words call the operator; `calc` and `batcalc` call the same functions
abbrev pub is_called : List ℕ → List ℕ → Op → Bool
is_called home function operator =
    bytes_eq function (function_word operator) && (bytes_eq home (module_word operator) || (is_calc operator && bytes_eq home (codes "batcalc")))

-- the operator that the words call, if they call one
unfoldable pub op_of : List ℕ → List ℕ → Option Op
op_of home function = find (is_called home function) operators
