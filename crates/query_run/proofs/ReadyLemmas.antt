-- Which instructions are ready, and the steps after their values are there.
use Rattle.std.proofs.Common.{◌≡◌, ◌≢◌, ℕ, ◌+◌, ◌≤◌, ◌<◌, List, [], ◌∷◌, length, Bool, true, false, Option, Some, None, refl, ap, sym, ◌∙◌, subst, arith}
use Rattle.std.specs.Prelude.{◌==◌, ◌&&◌, is_some, not, slice_get, slice_index_or}
use Rattle.std.specs.Option.{option_and_then, option_map}
use Rattle.std.proofs.lemmas.Bool.{and_parts, eqb-false, eqb-true}
use Rattle.std.proofs.lemmas.Option.{same_Some, slice_get-get_or, slice_get_within}
use Rattle.cell_core.specs.declared.cell.Cell.TheVariants.{Text}
use Rattle.cell_core.specs.declared.operator.Arg.{Arg}
use Rattle.cell_core.specs.declared.operator.Arg.TheVariants as arg
use Rattle.cell_core.specs.declared.operator.Instr.{Instr}
use Rattle.cell_core.specs.declared.operator.Op.{Op}
use Rattle.cell_core.specs.declared.operator.Op.TheVariants.{Bind}
use Rattle.cell_core.specs.declared.operator.Value.{Value}
use Rattle.cell_core.specs.declared.operator.Value.TheVariants.{Bat}
use Rattle.cell_core.specs.declared.table.Db.{Db}
use Rattle.bat_core.specs.declared.shared.Obj.{Obj}
use Rattle.mal_meaning.specs.Meaning.{arg_value, arg_values, column_pairs, instr_load, instr_value, value_over}
use Rattle.mal_exec.specs.Results.{known_of}
use Rattle.query_keys.specs.Laws.{InstrsRun}
use Rattle.query_run.specs.declared.step.RunningQuery.{RunningQuery}
use Rattle.query_run.specs.Queries.{GoesOn, HasArgs, HasMark, IsUnderWay, all_values, has_result, value_at, was_asked}
use Rattle.query_run.specs.Ready.{HasTaken, IsReady}
use Rattle.query_run.proofs.WalkLemmas.{as_many_marks, goes_one, instr_at}

-- ## Arguments that are there

-- the first and the others are there exactly where all are
pub known_all : (first : Option Value) (rest : Option (List Value)) → is_some (option_and_then (λ y. option_map (λ ys. y ∷ ys) rest) first) ≡ (is_some first && is_some rest)
known_all None rest = refl
known_all (Some v) None = refl
known_all (Some v) (Some vs) = refl

pub known_step : (values : List (Option Value)) (args rest tail : List Arg) (first : Arg) → rest ≡ first ∷ tail → is_some (arg_value values first) ≡ true → is_some (arg_values values rest) ≡ is_some (arg_values values args)
    → is_some (arg_values values tail) ≡ is_some (arg_values values args)
known_step values args rest tail first is there before =
    ap (λ b. b && is_some (arg_values values tail)) (sym there) ∙ sym (known_all (arg_value values first) (arg_values values tail)) ∙ ap (λ list. is_some (arg_values values list)) (sym is) ∙ before

pub known_stops : (values : List (Option Value)) (args rest tail : List Arg) (first : Arg) → rest ≡ first ∷ tail → is_some (arg_value values first) ≡ false → is_some (arg_values values rest) ≡ is_some (arg_values values args)
    → false ≡ is_some (arg_values values args)
known_stops values args rest tail first is none before =
    ap (λ b. b && is_some (arg_values values tail)) (sym none) ∙ sym (known_all (arg_value values first) (arg_values values tail)) ∙ ap (λ list. is_some (arg_values values list)) (sym is) ∙ before

-- ## Instructions

not_false : (b : Bool) → not b ≡ true → b ≡ false
not_false false is = refl
not_false true is = absurd (cc)

-- the meaning of the test of an instruction
abbrev pub test : RunningQuery → ℕ → Instr → Bool
test q n instr = (not (has_result q n) && not (was_asked q n)) && is_some (arg_values (known_of q.values.items) instr.args)

pub ready_is : (q : RunningQuery) (n : ℕ) (instr : Instr) → slice_get q.plan.instrs n ≡ Some instr → test q n instr ≡ true → IsReady q n
ready_is q n instr here is =
    let parts = and_parts (not (has_result q n) && not (was_asked q n)) (is_some (arg_values (known_of q.values.items) instr.args)) is in
    let both = and_parts (not (has_result q n)) (not (was_asked q n)) parts.0 in
    record {
      instr = instr;
      here = here;
      open_ = not_false (has_result q n) both.0;
      unasked = not_false (was_asked q n) both.1;
      args = parts.1;
    }

pub test_ready : (q : RunningQuery) (n : ℕ) (r : IsReady q n) → test q n r.instr ≡ true
test_ready q n r =
    ap (λ b. (not b && not (was_asked q n)) && is_some (arg_values (known_of q.values.items) r.instr.args)) r.open_
    ∙ ap (λ b. not b && is_some (arg_values (known_of q.values.items) r.instr.args)) r.unasked
    ∙ r.args

-- none is before a number
abbrev pub NoneBefore : RunningQuery → ℕ → Type 0
NoneBefore q n = (m : ℕ) → m < n → IsReady q m → ⊥

pub none_next : (q : RunningQuery) (n : ℕ) (told : Bool) → ((instr : Instr) → slice_get q.plan.instrs n ≡ Some instr → told ≡ test q n instr) → told ≡ false → NoneBefore q n → NoneBefore q (n + 1)
none_next q n told tells not_ready before m low ready = go (m == n) refl
  where
    go : (b : Bool) → (m == n) ≡ b → ⊥
    go true same =
        let here = subst (IsReady q) (eqb-true m n same) ready in
        let no : true ≡ false = sym (test_ready q n here) ∙ sym (tells here.instr here.here) ∙ not_ready in cc
    go false same = let apart = eqb-false m n same in before m (omega (arith, low, apart)) ready

pub none_ready : (q : RunningQuery) → NoneBefore q (length q.plan.instrs) → (n : ℕ) → IsReady q n → ⊥
none_ready q before n ready = before n (slice_get_within q.plan.instrs n ready.instr ready.here) ready

-- the one that passes the test
pub first_is : (q : RunningQuery) (n : ℕ) (told : Bool) → n < length q.plan.instrs → ((instr : Instr) → slice_get q.plan.instrs n ≡ Some instr → told ≡ test q n instr) → told ≡ true → IsReady q n
first_is q n told inside tells is = let at = instr_at q.plan.instrs n inside in ready_is q n at.0 at.1 (sym (tells at.0 at.1) ∙ is)

-- a bind has a value
bind_is : (db : Db) (values : List (Option Value)) (o : Op) (args : List Arg) (table column kind : List ℕ) → o ≡ Bind → args ≡ arg.Const (Text table) ∷ arg.Const (Text column) ∷ arg.Const (Text kind) ∷ []
    → option_and_then (value_over db o) (arg_values values args) ≡ Some (Bat (column_pairs table column db))
bind_is db values o args table column kind bind are = λ i. option_and_then (value_over db (bind i)) (arg_values values (are i))

pub bind_valued : InstrsRun → (q : RunningQuery) (n : ℕ) (instr : Instr) → IsUnderWay q → slice_get q.plan.instrs n ≡ Some instr → instr.op ≡ Bind → value_at q n ≡ Some None → ⊥
unfolding instr_value
bind_valued run q n instr under here bind none =
    let own = run q.plan q.snap.db n instr under.checked under.fits here in
    let named = own.named bind in
    let is : instr_value q.snap.db (all_values q) instr ≡ None = same_Some (instr_value q.snap.db (all_values q) instr) None (sym own.value ∙ none) in
    let no : Some (Bat (column_pairs named.0 named.1 q.snap.db)) ≡ None = sym (bind_is q.snap.db (all_values q) instr.op instr.args named.0 named.1 named.2 bind named.3) ∙ is in
    cc

-- ## Marks

-- the mark that is read is that of the plan
pub has_mark : (q : RunningQuery) (n : ℕ) (read : Bool) → IsUnderWay q → n < length q.plan.instrs → read ≡ slice_index_or q.marks.items n read → HasMark q n read
has_mark q n read under inside is =
    let same = ap (λ (bs : List Bool). length bs) under.marks in
    let many = as_many_marks q.plan in
    ap (λ (bs : List Bool). slice_get bs n) (sym under.marks) ∙ slice_get-get_or q.marks.items n read (omega (arith, same, many, inside)) ∙ ap Some (sym is)

-- ## A value that is taken in

-- the query goes on with it
pub taken_goes : (q to : RunningQuery) (n : ℕ) (result : Obj) → IsUnderWay q → HasTaken q n result to → GoesOn q to
taken_goes q to n result under t = goes_one q to n t.instr result 0 (q.work + instr_load q.snap.db (all_values q) t.instr) under t.here t.open_ t.value t.gained t.unmarked refl refl
