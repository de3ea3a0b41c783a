-- The result of dropping: each instruction that is alive, over the replacements of its arguments, in order.
use Rattle.std.proofs.Common.{◌≡◌, ◌+◌, ◌<◌, ◌≤◌, ℕ, suc, zero, Bool, true, false, cond, List, [], ◌∷◌, ◌++◌, length, map, Option, Some, None, refl, ap, sym, ◌∙◌, subst, arith, append-nil, append_assoc}
use Rattle.std.specs.Prelude.{◌||◌, ◌==◌, slice_get, get_or}
use Rattle.std.specs.Option.{option_map, option_map_or}
use Rattle.std.proofs.lemmas.Option.{same_Some, slice_get_within, slice_get-get_or}
use Rattle.std.proofs.lemmas.List.{get_or_append_left}
use Rattle.std.proofs.Math.Seq.{get_or-append_seam}
use Rattle.std.proofs.lemmas.Bool.Decides.{Decides-eqb}
use Rattle.cell_core.specs.Forms.{may_overflow}
use Rattle.cell_core.proofs.ListLemmas.{slice_get-append_found, slice_get-append_last, slice_get-append_middle}
use Rattle.cell_core.specs.declared.cell.Cell.{Cell}
use Rattle.cell_core.specs.declared.cell.Cell.TheVariants.{Nil}
use Rattle.cell_core.specs.declared.operator.Arg.{Arg}
use Rattle.cell_core.specs.declared.operator.Arg.TheVariants.{Const, Var}
use Rattle.cell_core.specs.declared.operator.Instr.{Instr}
use Rattle.mal_meaning.specs.declared.plan.Out.{Out}
use Rattle.mal_meaning.specs.declared.plan.Plan.{Plan}
use Rattle.mal_opt.specs.Live.{is_result, uses, is_shown}
use Rattle.mal_opt.specs.Passes.{Passed, renamed, renamed_instr, keeping, replaced, dropping, passed, behind, nothing}
use Rattle.mal_opt.proofs.Runs.{get_either}

longer : {X : Type 0} (xs : List X) (x : X) → length (xs ++ x ∷ []) ≡ suc (length xs)
longer [] x = refl
longer (y ∷ xs) x = ap suc (longer xs x)

or_left : (a b : Bool) → a ≡ true → (a || b) ≡ true
or_left a b e = ap (λ x. x || b) e

or_right : (a b : Bool) → b ≡ true → (a || b) ≡ true
or_right true b e = refl
or_right false b e = e

-- the replacements of arguments that are named already stay
renamed_more : (places more : List Arg) (args : List Arg) → ((n : ℕ) → uses n args ≡ true → n < length places) → map (renamed (places ++ more)) args ≡ map (renamed places) args
renamed_more places more [] scoped = refl
renamed_more places more (arg ∷ args) scoped =
    ap (λ a. a ∷ map (renamed (places ++ more)) args) (first arg (λ n u. scoped n (or_left (is_result n arg) (uses n args) u)))
    ∙ ap (λ xs. renamed places arg ∷ xs) (renamed_more places more args (λ n u. scoped n (or_right (is_result n arg) (uses n args) u)))
  where
    first : (arg : Arg) → ((n : ℕ) → is_result n arg ≡ true → n < length places) → renamed (places ++ more) arg ≡ renamed places arg
    first (Const cell) h = refl
    first (Var n) h = get_or_append_left places more (Var n) n (h n ((Decides-eqb n n).1 refl))

abbrev over_args : Instr → List Arg → Instr
over_args instr args = record { op = instr.op; args = args }

with_args : (instr : Instr) (args others : List Arg) → args ≡ others → over_args instr args ≡ over_args instr others
with_args instr args others e = ap (over_args instr) e

module _ (alive : ℕ → Bool) where
  -- the instructions of a list use only those in front of them
  abbrev pub IsScoped : List Instr → Type 0
  IsScoped is = (n : ℕ) (instr : Instr) → slice_get is n ≡ Some instr → (m : ℕ) → uses m instr.args ≡ true → m < n

  -- where each instruction that stays comes from
  pub record Source (before : List Instr) (so : Passed) (k : ℕ) (x : Instr) : Type 0 where
    pub number : ℕ
    pub instr : Instr
    pub at : slice_get before number ≡ Some instr
    pub lives : alive number ≡ true
    pub place : get_or so.places number (Var number) ≡ Var k
    pub is : x ≡ renamed_instr so.places instr

  pub record Kept (before : List Instr) (so : Passed) : Type 0 where
    pub long : length so.places ≡ length before
    pub stays : (n : ℕ) → n < length before → alive n ≡ true → (k : ℕ) × (get_or so.places n (Var n) ≡ Var k)
    pub source : (k : ℕ) (x : Instr) → slice_get so.instrs k ≡ Some x → Source before so k x
    pub target : (n : ℕ) (instr : Instr) (k : ℕ) → slice_get before n ≡ Some instr → alive n ≡ true → get_or so.places n (Var n) ≡ Var k → slice_get so.instrs k ≡ Some (renamed_instr so.places instr)
    pub rising : (n m k j : ℕ) → n < m → m < length before → alive n ≡ true → alive m ≡ true → get_or so.places n (Var n) ≡ Var k → get_or so.places m (Var m) ≡ Var j → k < j

  pub none_kept : Kept [] nothing
  none_kept = record {
    long = refl;
    stays = λ n low a. absurd (omega (arith, low));
    source = λ k x at. absurd (empty k x at);
    target = λ n instr k at a e. absurd (empty n instr at);
    rising = λ n m k j less low a b e f. absurd (omega (arith, low));
  }
    where
      empty : (k : ℕ) (x : Instr) → slice_get [] k ≡ Some x → ⊥
      empty k x at = let low : k < 0 = slice_get_within [] k x at in omega (arith, low)

  var_is : (k j : ℕ) → Var k ≡ Var j → k ≡ j
  var_is k j e = cc

  module _ (before : List Instr) (so : Passed) (h : Kept before so) (i : Instr) (scoped : IsScoped (before ++ i ∷ [])) (place : Arg) where
    abbrev new : List Arg
    new = so.places ++ place ∷ []

    old_place : (n : ℕ) → n < length before → get_or new n (Var n) ≡ get_or so.places n (Var n)
    old_place n low = get_or_append_left so.places (place ∷ []) (Var n) n (omega (arith, low, h.long))

    last_place : get_or new (length before) (Var (length before)) ≡ place
    last_place = ap (λ k. get_or new k (Var (length before))) (sym h.long) ∙ get_or-append_seam so.places place [] (Var (length before))

    old_named : (n : ℕ) (instr : Instr) → slice_get before n ≡ Some instr → renamed_instr new instr ≡ renamed_instr so.places instr
    old_named n instr at = with_args instr (map (renamed new) instr.args) (map (renamed so.places) instr.args) (renamed_more so.places (place ∷ []) instr.args (λ m u.
        let low : m < n = scoped n instr (slice_get-append_found before (i ∷ []) n instr at) m u in
        let within : n < length before = slice_get_within before n instr at in
        omega (arith, low, within, h.long)))

    last_named : renamed_instr new i ≡ renamed_instr so.places i
    last_named = with_args i (map (renamed new) i.args) (map (renamed so.places) i.args) (renamed_more so.places (place ∷ []) i.args (λ m u.
        let low : m < length before = scoped (length before) i (slice_get-append_middle before i []) m u in
        omega (arith, low, h.long)))

    old_source : (k : ℕ) (x : Instr) → Source before so k x → (instrs : List Instr) → Source (before ++ i ∷ []) (behind instrs new) k x
    old_source k x s instrs =
        let within : s.number < length before = slice_get_within before s.number s.instr s.at in
        record {
          number = s.number;
          instr = s.instr;
          at = slice_get-append_found before (i ∷ []) s.number s.instr s.at;
          lives = s.lives;
          place = old_place s.number within ∙ s.place;
          is = s.is ∙ sym (old_named s.number s.instr s.at);
        }

    -- a number among these is one of before, or the last
    either : {P : Type 0} (n : ℕ) → n < length (before ++ i ∷ []) → (n < length before → P) → (n ≡ length before → P) → P
    either n low f g = get_either before i n (get_or (before ++ i ∷ []) n i) (slice_get-get_or (before ++ i ∷ []) n i low) (λ old. f (slice_get_within before n (get_or (before ++ i ∷ []) n i) old)) (λ last same. g last)

    long_new : length new ≡ length (before ++ i ∷ [])
    long_new = longer so.places place ∙ ap suc h.long ∙ sym (longer before i)

    -- what was known of two that were there
    old_rising : (n m k j : ℕ) → n < m → m < length before → alive n ≡ true → alive m ≡ true → get_or new n (Var n) ≡ Var k → get_or new m (Var m) ≡ Var j → k < j
    old_rising n m k j less low a b e f = h.rising n m k j less low a b (sym (old_place n (omega (arith, less, low))) ∙ e) (sym (old_place m low) ∙ f)

  false_true : false ≡ true → ⊥
  false_true e = cc

  kept_dead : (before : List Instr) (so : Passed) → Kept before so → (i : Instr) → IsScoped (before ++ i ∷ []) → alive (length before) ≡ false → Kept (before ++ i ∷ []) (replaced so (Const Nil))
  kept_dead before so h i scoped dead = record {
    long = long_new before so h i scoped (Const Nil);
    stays = λ n low a. either before so h i scoped (Const Nil) n low
        (λ old. let there = h.stays n old a in (there.0, old_place before so h i scoped (Const Nil) n old ∙ there.1))
        (λ last. absurd (gone n last a));
    source = λ k x at. old_source before so h i scoped (Const Nil) k x (h.source k x at) so.instrs;
    target = λ n instr k at a e. get_either before i n instr at
        (λ old. h.target n instr k old a (sym (old_place before so h i scoped (Const Nil) n (slice_get_within before n instr old)) ∙ e) ∙ ap Some (sym (old_named before so h i scoped (Const Nil) n instr old)))
        (λ last same. absurd (gone n last a));
    rising = λ n m k j less low a b e f. either before so h i scoped (Const Nil) m low
        (λ old. old_rising before so h i scoped (Const Nil) n m k j less old a b e f)
        (λ last. absurd (gone m last b));
  }
    where
      gone : (n : ℕ) → n ≡ length before → alive n ≡ true → ⊥
      gone n last a = false_true (sym dead ∙ ap alive (sym last) ∙ a)

  kept_alive : (before : List Instr) (so : Passed) → Kept before so → (i : Instr) → IsScoped (before ++ i ∷ []) → alive (length before) ≡ true → Kept (before ++ i ∷ []) (keeping so (renamed_instr so.places i))
  kept_alive before so h i scoped lives = record {
    long = long_new before so h i scoped place;
    stays = λ n low a. either before so h i scoped place n low
        (λ old. let there = h.stays n old a in (there.0, old_place before so h i scoped place n old ∙ there.1))
        (λ last. (length so.instrs, ap (λ k. get_or (new before so h i scoped place) k (Var k)) last ∙ last_place before so h i scoped place));
    source = λ k x at. get_either so.instrs (renamed_instr so.places i) k x at
        (λ old. old_source before so h i scoped place k x (h.source k x old) (so.instrs ++ renamed_instr so.places i ∷ []))
        (λ last same. record {
          number = length before;
          instr = i;
          at = slice_get-append_middle before i [];
          lives = lives;
          place = last_place before so h i scoped place ∙ ap Var (sym last);
          is = sym same ∙ sym (last_named before so h i scoped place);
        });
    target = λ n instr k at a e. get_either before i n instr at
        (λ old. slice_get-append_found so.instrs (renamed_instr so.places i ∷ []) k (renamed_instr so.places instr) (h.target n instr k old a (sym (old_place before so h i scoped place n (slice_get_within before n instr old)) ∙ e)) ∙ ap Some (sym (old_named before so h i scoped place n instr old)))
        (λ last same.
        let is : length so.instrs ≡ k = var_is (length so.instrs) k (sym (last_place before so h i scoped place) ∙ ap (λ m. get_or (new before so h i scoped place) m (Var m)) (sym last) ∙ e) in
        slice_get-append_last so.instrs (renamed_instr so.places i) k (sym is) ∙ ap Some (sym (last_named before so h i scoped place) ∙ ap (renamed_instr (new before so h i scoped place)) same));
    rising = λ n m k j less low a b e f. either before so h i scoped place m low
        (λ old. old_rising before so h i scoped place n m k j less old a b e f)
        (λ last.
        let is : length so.instrs ≡ j = var_is (length so.instrs) j (sym (last_place before so h i scoped place) ∙ ap (λ l. get_or (new before so h i scoped place) l (Var l)) (sym last) ∙ f) in
        let under : n < length before = omega (arith, less, last) in
        let there = h.target n (get_or before n i) k (slice_get-get_or before n i under) a (sym (old_place before so h i scoped place n under) ∙ e) in
        let within : k < length so.instrs = slice_get_within so.instrs k (renamed_instr so.places (get_or before n i)) there in
        omega (arith, within, is));
  }
    where
      place : Arg
      place = Var (length so.instrs)

  pub all_kept : (before : List Instr) (so : Passed) (is : List Instr) → Kept before so → IsScoped (before ++ is) → Kept (before ++ is) (passed (dropping alive keeping) so is)
  all_kept before so [] h scoped = subst (λ xs. Kept xs so) (sym (append-nil before)) h
  all_kept before so (i ∷ is) h scoped =
      subst (λ xs. Kept xs (passed (dropping alive keeping) (dropping alive keeping so (renamed_instr so.places i)) is)) (append_assoc before (i ∷ []) is)
      (all_kept (before ++ i ∷ []) (dropping alive keeping so (renamed_instr so.places i)) is (one_kept (alive (length so.places)) refl) (subst IsScoped (sym (append_assoc before (i ∷ []) is)) scoped))
    where
      front : IsScoped (before ++ i ∷ [])
      front n instr at m u = subst IsScoped (sym (append_assoc before (i ∷ []) is)) scoped n instr (slice_get-append_found (before ++ i ∷ []) is n instr at) m u

      one_kept : (b : Bool) → alive (length so.places) ≡ b → Kept (before ++ i ∷ []) (cond b (keeping so (renamed_instr so.places i)) (replaced so (Const Nil)))
      one_kept true e = kept_alive before so h i front (ap alive (sym h.long) ∙ e)
      one_kept false e = kept_dead before so h i front (ap alive (sym h.long) ∙ e)
