-- The arguments of a marked instruction: those of a bind and of a selection, and how few of them are results.
use Rattle.std.proofs.Common.{◌≡◌, ℕ, ◌≤◌, List, [], ◌∷◌, map, length, true, false, Option, Some, ◌⊎◌, inl, inr, refl, ap, sym, ◌∙◌, subst, arith}
use Rattle.std.specs.List.{filter_map}
use Rattle.cell_core.specs.declared.cell.Cell.{Cell}
use Rattle.cell_core.specs.declared.cell.Kind.{Kind}
use Rattle.cell_core.specs.declared.operator.Op.{Op}
use Rattle.cell_core.specs.declared.operator.Op.TheVariants as op
use Rattle.cell_core.specs.declared.operator.Arg.{Arg}
use Rattle.cell_core.specs.declared.operator.Arg.TheVariants.{Const, Var}
use Rattle.cell_core.specs.declared.operator.Instr.{Instr}
use Rattle.cell_core.specs.Forms.{argument_count}
use Rattle.cell_core.specs.Kinds.{ValueType, OneOf, BatOf, kind_of, from_range}
use Rattle.lineage_key.specs.Keys.{arg_for}
use Rattle.lineage_key.specs.Parents.{id_in}
use Rattle.mal_check.specs.Checked.{type_over}
use Rattle.query_keys.proofs.InstrLemmas.{IsNamed, named_args}
use Rattle.query_keys.proofs.MarkLemmas.{AreBatsOrCells, IsMarkedOne}

-- ## Argument by argument

bat_first : (args : List Arg) (h k : Option Kind) (ts : List ValueType) → AreBatsOrCells args (BatOf h k ∷ ts) → (v : ℕ) × (rest : List Arg) × (args ≡ Var v ∷ rest) × AreBatsOrCells rest ts
bat_first [] h k ts are = absurd are
bat_first (Const c ∷ args) h k ts are = absurd (let e : BatOf h k ≡ OneOf (kind_of c) = are.0 in cc)
bat_first (Var v ∷ args) h k ts are = (v, args, refl, are.1)

cell_first : (args : List Arg) (k : Option Kind) (ts : List ValueType) → AreBatsOrCells args (OneOf k ∷ ts) → (c : Cell) × (rest : List Arg) × (args ≡ Const c ∷ rest) × AreBatsOrCells rest ts
cell_first [] k ts are = absurd are
cell_first (Const c ∷ args) k ts are = (c, args, refl, are.1)
cell_first (Var v ∷ args) k ts are = absurd (let e : false ≡ true = are.0 in cc)

none_left : (args : List Arg) → AreBatsOrCells args [] → args ≡ []
none_left [] are = refl
none_left (Const c ∷ args) are = absurd are
none_left (Var v ∷ args) are = absurd are

-- one argument before others
then : (arg : Arg) (args rest others : List Arg) → args ≡ arg ∷ rest → rest ≡ others → args ≡ arg ∷ others
then arg args rest others e f = e ∙ ap (λ xs. arg ∷ xs) f

-- ## Selections and binds

-- a selection takes from one result, between constants
pub record IsRange (args : List Arg) : Type 0 where
  pub from : ℕ
  pub low : Cell
  pub high : Cell
  pub li : Cell
  pub hi : Cell
  pub are : args ≡ Var from ∷ Const low ∷ Const high ∷ Const li ∷ Const hi ∷ []

range_args : (args : List Arg) (found : List ValueType) (t : ValueType) → AreBatsOrCells args found → from_range found ≡ Some t → IsRange args
range_args args (BatOf h k ∷ OneOf low ∷ OneOf high ∷ OneOf li ∷ OneOf hi ∷ []) t are e =
    let a = bat_first args h k (OneOf low ∷ OneOf high ∷ OneOf li ∷ OneOf hi ∷ []) are in
    let b = cell_first a.1 low (OneOf high ∷ OneOf li ∷ OneOf hi ∷ []) a.3 in
    let c = cell_first b.1 high (OneOf li ∷ OneOf hi ∷ []) b.3 in
    let d = cell_first c.1 li (OneOf hi ∷ []) c.3 in
    let f = cell_first d.1 hi [] d.3 in
    let last : d.1 ≡ Const f.0 ∷ [] = then (Const f.0) d.1 f.1 [] f.2 (none_left f.1 f.3) in
    let third : c.1 ≡ Const d.0 ∷ Const f.0 ∷ [] = then (Const d.0) c.1 d.1 (Const f.0 ∷ []) d.2 last in
    let second : b.1 ≡ Const c.0 ∷ Const d.0 ∷ Const f.0 ∷ [] = then (Const c.0) b.1 c.1 (Const d.0 ∷ Const f.0 ∷ []) c.2 third in
    let first : a.1 ≡ Const b.0 ∷ Const c.0 ∷ Const d.0 ∷ Const f.0 ∷ [] = then (Const b.0) a.1 b.1 (Const c.0 ∷ Const d.0 ∷ Const f.0 ∷ []) b.2 second in
    record { from = a.0; low = b.0; high = c.0; li = d.0; hi = f.0; are = then (Var a.0) args a.1 (Const b.0 ∷ Const c.0 ∷ Const d.0 ∷ Const f.0 ∷ []) a.2 first }
range_args args found t are e = absurd (cc)

pub select_args : (all : List ValueType) (n : ℕ) (instr : Instr) → IsMarkedOne all n instr → instr.op ≡ op.Select → IsRange instr.args
select_args all n instr one is = range_args instr.args one.has.args one.has.own one.beside (ap (λ (o : Op). type_over o instr.args one.has.args) (sym is) ∙ one.has.result)

pub bind_args : (all : List ValueType) (n : ℕ) (instr : Instr) → IsMarkedOne all n instr → instr.op ≡ op.Bind → IsNamed instr.args
bind_args all n instr one is = named_args all n instr one.has is

-- ## Few are results

fewer : (ids : List ℕ) (args : List Arg) → length (filter_map id_in (map (arg_for ids) args)) ≤ length args
fewer ids [] = omega arith
fewer ids (Const c ∷ args) = let rest = fewer ids args in omega (arith, rest)
fewer ids (Var v ∷ args) = let rest = fewer ids args in omega (arith, rest)

takes_few : (operator : Op) → (operator ≡ op.Bind) ⊎ ((operator ≡ op.Select) ⊎ (argument_count operator ≤ 2))
takes_few op.Bind = inl refl
takes_few op.Select = inr (inl refl)
takes_few operator = inr (inr (omega arith))

pub few_ids : (all : List ValueType) (n : ℕ) (instr : Instr) (ids : List ℕ) → IsMarkedOne all n instr → length (filter_map id_in (map (arg_for ids) instr.args)) ≤ 2
few_ids all n instr ids one = elim (takes_few instr.op) [
  | inl bind ↦ subst (λ (args : List Arg). length (filter_map id_in (map (arg_for ids) args)) ≤ 2) (sym (bind_args all n instr one bind).are) (omega arith)
  | inr (inl range) ↦ subst (λ (args : List Arg). length (filter_map id_in (map (arg_for ids) args)) ≤ 2) (sym (select_args all n instr one range).are) (omega arith)
  | inr (inr few) ↦ let count = one.has.count in let less = fewer ids instr.args in omega (arith, count, few, less)
]
