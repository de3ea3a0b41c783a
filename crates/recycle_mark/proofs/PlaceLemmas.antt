-- The mark at each place, by what is marked before it.
use Rattle.std.specs.Prelude.{◌≡◌, ℕ, zero, suc, ◌+◌, ◌<◌, ◌≤◌, ◌&&◌, List, [], ◌∷◌, ◌++◌, length, take, Bool, true, false, Some, slice_get, get_or, refl}
use Rattle.std.proofs.Common.{ap, sym, ◌∙◌, arith, subst}
use Rattle.std.specs.Cmp.{first_so, second_so}
use Rattle.std.specs.List.{list_all, list_any}
use Rattle.std.proofs.lemmas.List.{take-append-le, length-append, get_or-take}
use Rattle.std.proofs.lemmas.Option.{same_Some}
use Rattle.cell_core.specs.declared.operator.Arg.{Arg}
use Rattle.cell_core.specs.declared.operator.Arg.TheVariants.{Const, Var}
use Rattle.cell_core.specs.declared.operator.Instr.{Instr}
use Rattle.cell_core.specs.declared.operator.Op.TheVariants.{Bind}
use Rattle.cell_core.specs.Forms.{form_of, gives_bat, is_bat}
use Rattle.mal_meaning.specs.declared.plan.Plan.{Plan}
use Rattle.recycle_mark.specs.Marks.{is_bat_result, is_marked, marks_from, marks_of}
use Rattle.recycle_mark.specs.Laws.{bats_from, IsSo, MarksAreByPlace, Names}

-- ## Flags that are known stay

mark_of : List Bool → List Bool → Instr → Bool
mark_of bats marks instr = is_bat_result bats instr && list_all (is_marked marks) instr.args

bats_stay : (bats : List Bool) (instrs : List Instr) (n : ℕ) → n ≤ length bats → take n (bats_from bats instrs) ≡ take n bats
bats_stay bats [] n low = refl
bats_stay bats (i ∷ is) n low =
    let long : length (bats ++ is_bat_result bats i ∷ []) ≡ length bats + 1 = length-append bats (is_bat_result bats i ∷ []) in
    bats_stay (bats ++ is_bat_result bats i ∷ []) is n (omega (arith, low, long)) ∙ take-append-le n bats (is_bat_result bats i ∷ []) low

marks_stay : (bats marks : List Bool) (instrs : List Instr) (n : ℕ) → n ≤ length marks → take n (marks_from bats marks instrs) ≡ take n marks
unfolding mark_of
marks_stay bats marks [] n low = refl
marks_stay bats marks (i ∷ is) n low =
    let long : length (marks ++ mark_of bats marks i ∷ []) ≡ length marks + 1 = length-append marks (mark_of bats marks i ∷ []) in
    marks_stay (bats ++ is_bat_result bats i ∷ []) (marks ++ mark_of bats marks i ∷ []) is n (omega (arith, low, long)) ∙ take-append-le n marks (mark_of bats marks i ∷ []) low

last_flag : (flags : List Bool) (b : Bool) → get_or (flags ++ b ∷ []) (length flags) false ≡ b
last_flag [] b = refl
last_flag (x ∷ flags) b = last_flag flags b

-- a flag that stays is the last of those known
stays_last : (all flags : List Bool) (b : Bool) → take (length flags + 1) all ≡ take (length flags + 1) (flags ++ b ∷ []) → get_or all (length flags) false ≡ b
stays_last all flags b same =
    let n : ℕ = length flags in
    sym (get_or-take (n + 1) all n false (omega arith)) ∙ ap (λ fs. get_or fs n false) same ∙ get_or-take (n + 1) (flags ++ b ∷ []) n false (omega arith) ∙ last_flag flags b

-- ## The mark at a place

abbrev IsRightAt : List Bool → List Bool → ℕ → Instr → Type 0
IsRightAt bats marks n instr = get_or marks n false ≡ (get_or bats n false && list_all (is_marked (take n marks)) instr.args)

marked_here : (bats marks : List Bool) (i : Instr) (is : List Instr) → length bats ≡ length marks → IsRightAt (bats_from bats (i ∷ is)) (marks_from bats marks (i ∷ is)) (length marks) i
unfolding mark_of
marked_here bats marks i is same =
    let bat : Bool = is_bat_result bats i in
    let mark : Bool = mark_of bats marks i in
    let bats' : List Bool = bats_from (bats ++ bat ∷ []) is in
    let marks' : List Bool = marks_from (bats ++ bat ∷ []) (marks ++ mark ∷ []) is in
    let bats_long : length (bats ++ bat ∷ []) ≡ length bats + 1 = length-append bats (bat ∷ []) in
    let long : length (marks ++ mark ∷ []) ≡ length marks + 1 = length-append marks (mark ∷ []) in
    let own : get_or bats' (length marks) false ≡ bat =
    ap (λ n. get_or bats' n false) (sym same) ∙ stays_last bats' bats bat (bats_stay (bats ++ bat ∷ []) is (length bats + 1) (omega (arith, bats_long))) in
    let here : get_or marks' (length marks) false ≡ mark = stays_last marks' marks mark (marks_stay (bats ++ bat ∷ []) (marks ++ mark ∷ []) is (length marks + 1) (omega (arith, long))) in
    let front : take (length marks) marks' ≡ marks = marks_stay bats marks (i ∷ is) (length marks) (omega arith) ∙ take_whole marks in
    here ∙ sym (ap (λ b. b && list_all (is_marked (take (length marks) marks')) i.args) own ∙ ap (λ ms. bat && list_all (is_marked ms) i.args) front)
  where
    take_whole : (flags : List Bool) → take (length flags) flags ≡ flags
    take_whole [] = refl
    take_whole (f ∷ flags) = ap (λ fs. f ∷ fs) (take_whole flags)

marked_at : (bats marks : List Bool) (instrs : List Instr) → length bats ≡ length marks → (k : ℕ) (instr : Instr) → slice_get instrs k ≡ Some instr
    → IsRightAt (bats_from bats instrs) (marks_from bats marks instrs) (length marks + k) instr
unfolding mark_of
marked_at bats marks [] same k instr at = cc
marked_at bats marks (i ∷ is) same zero instr at =
    let plain : length marks ≡ length marks + 0 = omega arith in
    subst (λ n. IsRightAt (bats_from bats (i ∷ is)) (marks_from bats marks (i ∷ is)) n instr) plain
    (subst (λ (x : Instr). IsRightAt (bats_from bats (i ∷ is)) (marks_from bats marks (i ∷ is)) (length marks) x) (same_Some i instr at) (marked_here bats marks i is same))
marked_at bats marks (i ∷ is) same (suc k) instr at =
    let bat : Bool = is_bat_result bats i in
    let mark : Bool = mark_of bats marks i in
    let bats_long : length (bats ++ bat ∷ []) ≡ length bats + 1 = length-append bats (bat ∷ []) in
    let long : length (marks ++ mark ∷ []) ≡ length marks + 1 = length-append marks (mark ∷ []) in
    let step : length (marks ++ mark ∷ []) + k ≡ length marks + suc k = omega (arith, long) in
    subst (λ n. IsRightAt (bats_from bats (i ∷ is)) (marks_from bats marks (i ∷ is)) n instr) step
    (marked_at (bats ++ bat ∷ []) (marks ++ mark ∷ []) is (omega (arith, same, bats_long, long)) k instr at)

marks_long : (bats marks : List Bool) (instrs : List Instr) → length (marks_from bats marks instrs) ≡ length marks + length instrs
unfolding mark_of
marks_long bats marks [] = omega arith
marks_long bats marks (i ∷ is) =
    let more = marks_long (bats ++ is_bat_result bats i ∷ []) (marks ++ mark_of bats marks i ∷ []) is in
    let long : length (marks ++ mark_of bats marks i ∷ []) ≡ length marks + 1 = length-append marks (mark_of bats marks i ∷ []) in
    omega (arith, more, long)

-- ## Arguments

so_within : (flags : List Bool) (n : ℕ) → IsSo flags n → n < length flags
so_within [] n so = cc
so_within (f ∷ flags) zero so = omega arith
so_within (f ∷ flags) (suc n) so = let low = so_within flags n so in omega (arith, low)

take_short : (n : ℕ) (flags : List Bool) → length (take n flags) ≤ n
take_short zero flags = omega arith
take_short (suc n) [] = omega arith
take_short (suc n) (f ∷ flags) = let short = take_short n flags in omega (arith, short)

-- a flag of the first ones is that of all
front_so : (flags : List Bool) (n v : ℕ) → IsSo (take n flags) v → (v < n) × IsSo flags v
front_so flags n v so =
    let low = so_within (take n flags) v so in
    let short = take_short n flags in
    let under : v < n = omega (arith, low, short) in
    (under, sym (get_or-take n flags v false under) ∙ so)

-- each variable among these arguments has the flag
abbrev AllSo : List Bool → List Arg → Type 0
AllSo flags args = (k v : ℕ) → slice_get args k ≡ Some (Var v) → IsSo flags v

var_is : (v w : ℕ) → Some (Var v) ≡ Some (Var w) → v ≡ w
var_is v w e = cc

all_so : (flags : List Bool) (args : List Arg) → list_all (is_marked flags) args ≡ true → AllSo flags args
all_so flags [] all k v at = cc
all_so flags (Const c ∷ args) all zero v at = cc
all_so flags (Const c ∷ args) all (suc k) v at = all_so flags args all k v at
all_so flags (Var w ∷ args) all zero v at = ap (λ n. get_or flags n false) (sym (var_is w v at)) ∙ first_so (get_or flags w false) (list_all (is_marked flags) args) all
all_so flags (Var w ∷ args) all (suc k) v at = all_so flags args (second_so (get_or flags w false) (list_all (is_marked flags) args) all) k v at

so_all : (flags : List Bool) (args : List Arg) → AllSo flags args → list_all (is_marked flags) args ≡ true
so_all flags [] all = refl
so_all flags (Const c ∷ args) all = so_all flags args (λ k v at. all (suc k) v at)
so_all flags (Var w ∷ args) all = ap (λ b. b && list_all (is_marked flags) args) (all 0 w refl) ∙ so_all flags args (λ k v at. all (suc k) v at)

-- ## The law

module _ (plan : Plan) (n : ℕ) (instr : Instr) (at : slice_get plan.instrs n ≡ Some instr) where
  right : IsRightAt (bats_from [] plan.instrs) (marks_of plan) n instr
  right =
      let from : 0 + n ≡ n = omega arith in
      subst (λ k. IsRightAt (bats_from [] plan.instrs) (marks_of plan) k instr) from (marked_at [] [] plan.instrs refl n instr at)

  abbrev OverMarked : Type 0
  OverMarked = IsSo (bats_from [] plan.instrs) n × ((v : ℕ) → Names instr v → (v < n) × IsSo (marks_of plan) v)

  over_marked : IsSo (marks_of plan) n → OverMarked
  over_marked so =
      let all = sym right ∙ so in
      let args = all_so (take n (marks_of plan)) instr.args (second_so (get_or (bats_from [] plan.instrs) n false) (list_all (is_marked (take n (marks_of plan))) instr.args) all) in
      (first_so (get_or (bats_from [] plan.instrs) n false) (list_all (is_marked (take n (marks_of plan))) instr.args) all, λ v named. front_so (marks_of plan) n v (args named.0 v named.1))

  marked_over : OverMarked → IsSo (marks_of plan) n
  marked_over over =
      let all : AllSo (take n (marks_of plan)) instr.args = λ k v named. (let low = over.1 v (k, named) in get_or-take n (marks_of plan) v false low.0 ∙ low.1) in
      right ∙ ap (λ b. b && list_all (is_marked (take n (marks_of plan))) instr.args) over.0 ∙ so_all (take n (marks_of plan)) instr.args all

-- a bind gives a BAT
bind_gives : (bats : List Bool) (instr : Instr) → instr.op ≡ Bind → is_bat_result bats instr ≡ true
bind_gives bats instr is = ap (λ op. gives_bat (form_of op) (list_any (is_bat bats) instr.args)) is

bind_is_bat : (bats : List Bool) (instrs : List Instr) (k : ℕ) (instr : Instr) → slice_get instrs k ≡ Some instr → instr.op ≡ Bind → IsSo (bats_from bats instrs) (length bats + k)
bind_is_bat bats [] k instr at is = cc
bind_is_bat bats (i ∷ is) zero instr at bind =
    let bat : Bool = is_bat_result bats i in
    let bats' : List Bool = bats_from (bats ++ bat ∷ []) is in
    let long : length (bats ++ bat ∷ []) ≡ length bats + 1 = length-append bats (bat ∷ []) in
    let plain : length bats + 0 ≡ length bats = omega arith in
    ap (λ n. get_or bats' n false) plain ∙ stays_last bats' bats bat (bats_stay (bats ++ bat ∷ []) is (length bats + 1) (omega (arith, long)))
    ∙ bind_gives bats i (ap (λ (x : Instr). x.op) (same_Some i instr at) ∙ bind)
bind_is_bat bats (i ∷ is) (suc k) instr at bind =
    let long : length (bats ++ is_bat_result bats i ∷ []) ≡ length bats + 1 = length-append bats (is_bat_result bats i ∷ []) in
    let step : length (bats ++ is_bat_result bats i ∷ []) + k ≡ length bats + suc k = omega (arith, long) in
    subst (λ n. IsSo (bats_from bats (i ∷ is)) n) step (bind_is_bat (bats ++ is_bat_result bats i ∷ []) is k instr at bind)

bind_marked : (plan : Plan) (n : ℕ) (instr : Instr) → slice_get plan.instrs n ≡ Some instr → instr.op ≡ Bind → ((v : ℕ) → Names instr v → ⊥) → IsSo (marks_of plan) n
bind_marked plan n instr at bind none =
    let from : 0 + n ≡ n = omega arith in
    marked_over plan n instr at (subst (IsSo (bats_from [] plan.instrs)) from (bind_is_bat [] plan.instrs n instr at bind), λ v named. absurd (none v named))

size_is : (plan : Plan) → length (marks_of plan) ≡ length plan.instrs
size_is plan = (let long : length (marks_of plan) ≡ 0 + length plan.instrs = marks_long [] [] plan.instrs in omega (arith, long))

pub marks_by_place : MarksAreByPlace
marks_by_place plan = record {
  size = size_is plan;
  binds = bind_marked plan;
  others = λ n instr at. (over_marked plan n instr at, marked_over plan n instr at);
}
