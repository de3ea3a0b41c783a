-- The value of a marked instruction is a BAT, and so is each value that it takes from those before it.
use Rattle.std.proofs.Common.{◌≡◌, ℕ, zero, suc, ◌+◌, ◌<◌, List, [], ◌∷◌, ◌++◌, map, length, Bool, true, false, Option, Some, inl, inr, refl, ap, sym, ◌∙◌, subst, arith, append-nil, append_assoc}
use Rattle.std.specs.Prelude.{◌&&◌, Ok, slice_get, get_or}
use Rattle.std.specs.Cmp.{first_so, second_so}
use Rattle.std.specs.List.{AllByRecursion, list_all}
use Rattle.std.specs.Option.{option_map}
use Rattle.std.proofs.lemmas.Option.{same_Some, slice_get_within, slice_get_cases, slice_get-map, get_or_from_slice_get}
use Rattle.cell_core.proofs.ListLemmas.{both_found, slice_get-append_left}
use Rattle.cell_core.specs.declared.cell.Kind.{Kind}
use Rattle.cell_core.specs.declared.operator.Arg.{Arg}
use Rattle.cell_core.specs.declared.operator.Arg.TheVariants.{Const, Var}
use Rattle.cell_core.specs.declared.operator.Instr.{Instr}
use Rattle.cell_core.specs.declared.operator.Value.{Value}
use Rattle.cell_core.specs.declared.operator.Value.TheVariants.{Bat, One}
use Rattle.cell_core.specs.Pairs.{Pairs}
use Rattle.cell_core.specs.Kinds.{ValueType, OneOf, BatOf, kind_of, is_of_type}
use Rattle.mal_meaning.specs.declared.plan.Plan.{Plan}
use Rattle.mal_meaning.specs.Meaning.{instr_value, plan_values}
use Rattle.mal_check.specs.Checked.{arg_type, arg_types, instr_types}
use Rattle.mal_check.proofs.PointLemmas.{instrs_fit}
use Rattle.recycle_mark.specs.Laws.{is_bat_type, bats_from}
use Rattle.recycle_mark.specs.Marks.{is_bat_result, is_marked, marks_from, marks_of}
use Rattle.query_keys.specs.Laws.{MarkedAreBats}
use Rattle.recycle_mark.proofs.BatTypes.{bats_typed}
use Rattle.query_keys.proofs.InstrLemmas.{HasTypes, get_none, one_longer, own_there, typed_at}

-- ## Lists of tests

get_true : (bs more : List Bool) (n : ℕ) → get_or bs n false ≡ true → get_or (bs ++ more) n false ≡ true
get_true [] more n e = cc
get_true (b ∷ bs) more zero e = e
get_true (b ∷ bs) more (suc n) e = get_true bs more n e

last_is : (bs : List Bool) (b : Bool) (more : List Bool) → get_or ((bs ++ b ∷ []) ++ more) (length bs) false ≡ b
last_is [] b more = refl
last_is (x ∷ bs) b more = last_is bs b more

-- each that is true is true among the others
abbrev Below : List Bool → List Bool → Type 0
Below [] [] = Unit {0}
Below (b ∷ bs) (m ∷ ms) = (m ≡ true → b ≡ true) × Below bs ms
Below [] (m ∷ ms) = ⊥
Below (b ∷ bs) [] = ⊥

below_more : (bs ms : List Bool) (b m : Bool) → Below bs ms → (m ≡ true → b ≡ true) → Below (bs ++ b ∷ []) (ms ++ m ∷ [])
below_more [] [] b m all one = (one, tt)
below_more (x ∷ bs) (y ∷ ms) b m all one = (all.0, below_more bs ms b m all.1 one)
below_more [] (y ∷ ms) b m all one = absurd all
below_more (x ∷ bs) [] b m all one = absurd all

below_at : (bs ms : List Bool) (n : ℕ) → Below bs ms → get_or ms n false ≡ true → get_or bs n false ≡ true
below_at [] [] n all e = cc
below_at (b ∷ bs) (m ∷ ms) zero all e = all.0 e
below_at (b ∷ bs) (m ∷ ms) (suc n) all e = below_at bs ms n all.1 e
below_at [] (m ∷ ms) n all e = absurd all
below_at (b ∷ bs) [] n all e = absurd all

same_length : (bs ms : List Bool) → Below bs ms → length bs ≡ length ms
same_length [] [] all = refl
same_length (b ∷ bs) (m ∷ ms) all = ap suc (same_length bs ms all.1)
same_length [] (m ∷ ms) all = absurd all
same_length (b ∷ bs) [] all = absurd all

-- ## Marks

-- a constant, or the result of an instruction that yields a BAT
abbrev NamesBat : List Bool → Arg → Type 0
NamesBat bats (Const c) = Unit {0}
NamesBat bats (Var v) = get_or bats v false ≡ true

-- the instruction yields a BAT, and takes no results but BATs
record TakesBats (bats : List Bool) (n : ℕ) (args : List Arg) : Type 0 where
  own : get_or bats n false ≡ true
  names : AllByRecursion (NamesBat bats) args

names_bats : (bats marks more : List Bool) → Below bats marks → (args : List Arg) → list_all (is_marked marks) args ≡ true → AllByRecursion (NamesBat (bats ++ more)) args
names_bats bats marks more all [] e = tt
names_bats bats marks more all (Const c ∷ args) e = (tt, names_bats bats marks more all args e)
names_bats bats marks more all (Var v ∷ args) e = (
  get_true bats more v (below_at bats marks v all (first_so (get_or marks v false) (list_all (is_marked marks) args) e)),
  names_bats bats marks more all args (second_so (get_or marks v false) (list_all (is_marked marks) args) e),
)

bats_grow : (bats : List Bool) (instrs : List Instr) → (more : List Bool) × (bats_from bats instrs ≡ bats ++ more)
bats_grow bats [] = ([], sym (append-nil bats))
bats_grow bats (i ∷ is) =
    let rest = bats_grow (bats ++ is_bat_result bats i ∷ []) is in
    (is_bat_result bats i ∷ rest.0, rest.1 ∙ append_assoc bats (is_bat_result bats i ∷ []) rest.0)

abbrev mark_of : List Bool → List Bool → Instr → Bool
mark_of bats marks instr = is_bat_result bats instr && list_all (is_marked marks) instr.args

marks_grow : (bats marks : List Bool) (instrs : List Instr) → (more : List Bool) × (marks_from bats marks instrs ≡ marks ++ more)
marks_grow bats marks [] = ([], sym (append-nil marks))
marks_grow bats marks (i ∷ is) =
    let rest = marks_grow (bats ++ is_bat_result bats i ∷ []) (marks ++ mark_of bats marks i ∷ []) is in
    (mark_of bats marks i ∷ rest.0, rest.1 ∙ append_assoc marks (mark_of bats marks i ∷ []) rest.0)

marked_from : (bats marks : List Bool) (instrs : List Instr) → Below bats marks → (k : ℕ) (instr : Instr) → slice_get instrs k ≡ Some instr
    → get_or (marks_from bats marks instrs) (length marks + k) false ≡ true → TakesBats (bats_from bats instrs) (length marks + k) instr.args
marked_from bats marks [] all k instr at marked = absurd (get_none k instr at)
marked_from bats marks (i ∷ is) all zero instr at marked =
    let result = is_bat_result bats i in
    let grown = marks_grow (bats ++ result ∷ []) (marks ++ mark_of bats marks i ∷ []) is in
    let more = bats_grow (bats ++ result ∷ []) is in
    let plain : length marks + 0 ≡ length marks = omega arith in
    let here : mark_of bats marks i ≡ true =
    sym (last_is marks (mark_of bats marks i) grown.0) ∙ sym (ap (λ n. get_or ((marks ++ mark_of bats marks i ∷ []) ++ grown.0) n false) plain)
    ∙ sym (ap (λ bs. get_or bs (length marks + 0) false) grown.1) ∙ marked in
    let taken : TakesBats ((bats ++ result ∷ []) ++ more.0) (length bats) i.args = record {
      own = last_is bats result more.0 ∙ first_so result (list_all (is_marked marks) i.args) here;
      names = subst (λ bs. AllByRecursion (NamesBat bs) i.args) (sym (append_assoc bats (result ∷ []) more.0)) (names_bats bats marks (result ∷ more.0) all i.args (second_so result (list_all (is_marked marks) i.args) here));
    } in
    subst (λ (x : Instr). TakesBats (bats_from (bats ++ result ∷ []) is) (length marks + 0) x.args) (same_Some i instr at)
    (subst (λ n. TakesBats (bats_from (bats ++ result ∷ []) is) n i.args) (same_length bats marks all ∙ sym plain)
    (subst (λ bs. TakesBats bs (length bats) i.args) (sym more.1) taken))
marked_from bats marks (i ∷ is) all (suc k) instr at marked =
    let step = one_longer marks (mark_of bats marks i) k in
    let all' = below_more bats marks (is_bat_result bats i) (mark_of bats marks i) all (λ e. first_so (is_bat_result bats i) (list_all (is_marked marks) i.args) e) in
    subst (λ n. TakesBats (bats_from (bats ++ is_bat_result bats i ∷ []) is) n instr.args) step
    (marked_from (bats ++ is_bat_result bats i ∷ []) (marks ++ mark_of bats marks i ∷ []) is all' k instr at
    (ap (λ n. get_or (marks_from (bats ++ is_bat_result bats i ∷ []) (marks ++ mark_of bats marks i ∷ []) is) n false) step ∙ marked))

-- ## Types

-- the type of a BAT, by the test
bat_type : (t : ValueType) → is_bat_type t ≡ true → (h k : Option Kind) × (t ≡ BatOf h k)
bat_type (BatOf h k) e = (h, k, refl)
bat_type (OneOf k) e = cc

bat_there : (types : List ValueType) (n : ℕ) (t : ValueType) → get_or (map is_bat_type types) n false ≡ true → slice_get types n ≡ Some t → is_bat_type t ≡ true
bat_there types n t e at = sym (get_or_from_slice_get (map is_bat_type types) n (is_bat_type t) false (slice_get-map is_bat_type types n ∙ ap (option_map is_bat_type) at)) ∙ e

-- each argument beside its type: a constant with its kind, or a result that is a BAT
abbrev pub AreBatsOrCells : List Arg → List ValueType → Type 0
AreBatsOrCells [] [] = Unit {0}
AreBatsOrCells (Const c ∷ args) (t ∷ ts) = (t ≡ OneOf (kind_of c)) × AreBatsOrCells args ts
AreBatsOrCells (Var v ∷ args) (t ∷ ts) = (is_bat_type t ≡ true) × AreBatsOrCells args ts
AreBatsOrCells [] (t ∷ ts) = ⊥
AreBatsOrCells (Const c ∷ args) [] = ⊥
AreBatsOrCells (Var v ∷ args) [] = ⊥

beside : (front behind : List ValueType) (args : List Arg) (found : List ValueType) → AllByRecursion (NamesBat (map is_bat_type (front ++ behind))) args → arg_types front args ≡ Some found → AreBatsOrCells args found
beside front behind [] [] names e = tt
beside front behind [] (t ∷ ts) names e = cc
beside front behind (Const c ∷ args) found names e =
    let t = both_found (arg_type front (Const c)) (arg_types front args) found e in
    subst (AreBatsOrCells (Const c ∷ args)) t.4 (sym (same_Some (OneOf (kind_of c)) t.0 t.2), beside front behind args t.1 names.1 t.3)
beside front behind (Var v ∷ args) found names e =
    let t = both_found (arg_type front (Var v)) (arg_types front args) found e in
    let there = slice_get-append_left front behind v (slice_get_within front v t.0 t.2) ∙ t.2 in
    subst (AreBatsOrCells (Var v ∷ args)) t.4 (bat_there (front ++ behind) v t.0 names.0 there, beside front behind args t.1 names.1 t.3)

-- ## A marked instruction of a plan without a fault

pub record IsMarkedOne (all : List ValueType) (n : ℕ) (instr : Instr) : Type 0 where
  pub has : HasTypes all n instr
  pub own : is_bat_type has.own ≡ true
  pub beside : AreBatsOrCells instr.args has.args

pub marked_one : (plan : Plan) (all : List ValueType) → instr_types plan.instrs ≡ Ok all → (n : ℕ) (instr : Instr) → slice_get plan.instrs n ≡ Some instr → slice_get (marks_of plan) n ≡ Some true → IsMarkedOne all n instr
marked_one plan all typed n instr here marked =
    let has = typed_at plan.instrs all typed n instr here in
    let from : 0 + n ≡ n = omega arith in
    let marks = ap (λ k. get_or (marks_of plan) k false) from ∙ get_or_from_slice_get (marks_of plan) n true false marked in
    let taken = marked_from [] [] plan.instrs tt n instr here marks in
    let bats = bats_typed plan.instrs all typed in
    record {
      has = has;
      own = bat_there all n has.own (sym (ap (λ bs. get_or bs n false) bats) ∙ sym (ap (λ k. get_or (bats_from [] plan.instrs) k false) from) ∙ taken.own) (own_there all n instr has);
      beside = beside has.front (has.own ∷ has.behind) instr.args has.args (subst (λ bs. AllByRecursion (NamesBat bs) instr.args) (bats ∙ ap (map is_bat_type) has.whole) taken.names) has.given;
    }

-- ## Its value

marks_long : (bats marks : List Bool) (instrs : List Instr) → length (marks_from bats marks instrs) ≡ length marks + length instrs
marks_long bats marks [] = omega arith
marks_long bats marks (i ∷ is) =
    let more = marks_long (bats ++ is_bat_result bats i ∷ []) (marks ++ mark_of bats marks i ∷ []) is in
    more ∙ one_longer marks (mark_of bats marks i) (length is)

instr_there : (plan : Plan) (n : ℕ) → slice_get (marks_of plan) n ≡ Some true → (instr : Instr) × (slice_get plan.instrs n ≡ Some instr)
instr_there plan n marked =
    let low : n < length (marks_of plan) = slice_get_within (marks_of plan) n true marked in
    let long : length (marks_of plan) ≡ 0 + length plan.instrs = marks_long [] [] plan.instrs in
    elim ((slice_get_cases plan.instrs n).1) [
      | inl there ↦ (there.0, there.2)
      | inr past ↦ let far = past.0 in absurd (omega (arith, low, long, far))
    ]

bat_of_type : (value : Value) (t : ValueType) → is_bat_type t ≡ true → is_of_type value t ≡ true → (pairs : Pairs) × (value ≡ Bat pairs)
bat_of_type (Bat pairs) t bat typed = (pairs, refl)
bat_of_type (One c) (BatOf h k) bat typed = cc
bat_of_type (One c) (OneOf k) bat typed = cc

pub marked_are_bats_all : MarkedAreBats
marked_are_bats_all plan db n value none fits marked at =
    let known = instrs_fit plan db none fits in
    let instr = instr_there plan n marked in
    let one = marked_one plan known.0 known.1 n instr.0 instr.1 marked in
    let fit = known.2 n instr.0 instr.1 in
    let own : fit.0 ≡ one.has.own = same_Some fit.0 one.has.own (sym fit.1 ∙ own_there known.0 n instr.0 one.has) in
    bat_of_type value fit.0 (ap is_bat_type own ∙ one.own) (fit.2.typed value (same_Some (instr_value db (plan_values db plan.instrs) instr.0) (Some value) (sym fit.2.value ∙ at)))
