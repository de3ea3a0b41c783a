-- What is used, and which instructions are alive, found from the back.
use Rattle.std.proofs.Common.{◌≡◌, ◌+◌, ◌≤◌, ◌<◌, ℕ, suc, zero, Bool, true, false, List, [], ◌∷◌, ◌++◌, length, drop, reverse, refl, ap, sym, ◌∙◌, arith}
use Rattle.std.specs.Prelude.{◌||◌, ◌&&◌, get_or, slice_index_or}
use Rattle.std.proofs.lemmas.List.{reverse-append, get_or_append_left}
use Rattle.std.proofs.Math.Seq.{get_or-append_seam}
use Rattle.cell_core.specs.Forms.{may_overflow}
use Rattle.cell_core.specs.declared.operator.Instr.{Instr}
use Rattle.mal_meaning.specs.declared.plan.Out.{Out}
use Rattle.mal_opt.specs.Live.{uses, is_shown, is_used, alive_before, alive_from}
use Rattle.mal_opt.proofs.FlagLemmas.{or_none}

-- of the results before what is done, those that the output or a live instruction after them uses; the live ones, last first
pub record IsSettled (out : Out) (instrs : List Instr) (used flags : List Bool) : Type 0 where
  pub short : length used ≤ length instrs
  pub told : reverse flags ≡ alive_from out (length used) (drop (length used) instrs)
  pub noted : (n : ℕ) → n < length used → get_or used n false ≡ (is_shown n out || is_used n (drop (length used) instrs) (alive_from out (length used) (drop (length used) instrs)))

drop_whole : {X : Type 0} (xs : List X) → drop (length xs) xs ≡ []
drop_whole [] = refl
drop_whole (x ∷ xs) = drop_whole xs

pub settled_first : (out : Out) (instrs : List Instr) (used : List Bool) → length used ≡ length instrs → ((n : ℕ) → n < length instrs → get_or used n false ≡ is_shown n out) → IsSettled out instrs used []
settled_first out instrs used long shown =
    let rest : drop (length used) instrs ≡ [] = ap (λ k. drop k instrs) long ∙ drop_whole instrs in
    record {
      short = omega (arith, long);
      told = sym (ap (alive_from out (length used)) rest);
      noted = λ n low. shown n (omega (arith, low, long)) ∙ sym (or_none (is_shown n out)) ∙ ap (λ is. is_shown n out || is_used n is (alive_from out (length used) is)) (sym rest);
    }

drop_step : {X : Type 0} (xs : List X) (k : ℕ) (x : X) → k < length xs → x ≡ get_or xs k x → drop k xs ≡ x ∷ drop (suc k) xs
drop_step [] k x low e = absurd (omega (arith, low))
drop_step (y ∷ xs) zero x low e = ap (λ z. z ∷ xs) (sym e)
drop_step (y ∷ xs) (suc k) x low e = drop_step xs k x (omega (arith, low)) e

alive_is : (b may shown later : Bool) → b ≡ (shown || later) → (b || may) ≡ (may || shown || later)
alive_is b true true later e = ap (λ x. x || true) e
alive_is b true false true e = ap (λ x. x || true) e
alive_is b true false false e = ap (λ x. x || true) e
alive_is b false true later e = ap (λ x. x || false) e
alive_is b false false true e = ap (λ x. x || false) e
alive_is b false false false e = ap (λ x. x || false) e

noted_is : (x s u : Bool) → (x || (s || u)) ≡ (s || (x || u))
noted_is true true u = refl
noted_is true false u = refl
noted_is false s u = refl

longer : {X : Type 0} (xs : List X) (x : X) → length (xs ++ x ∷ []) ≡ suc (length xs)
longer [] x = refl
longer (y ∷ xs) x = ap suc (longer xs x)

pub settled_next : (out : Out) (instrs : List Instr) (used before after flags : List Bool) (b a : Bool) (instr : Instr) → IsSettled out instrs used flags → used ≡ before ++ b ∷ []
    → instr ≡ get_or instrs (length before) instr → a ≡ (b || may_overflow instr.op) → length after ≡ length before
    → ((n : ℕ) → n < length before → get_or after n false ≡ ((a && uses n instr.args) || get_or before n false)) → IsSettled out instrs after (flags ++ a ∷ [])
settled_next out instrs used before after flags b a instr h popped here is long noted =
    let longs : length used ≡ suc (length before) = ap length popped ∙ longer before b in
    let low : length before < length instrs = omega (arith, longs, h.short) in
    let split : drop (length before) instrs ≡ instr ∷ D = drop_step instrs (length before) instr low here in
    let rest : drop (length used) instrs ≡ D = ap (λ k. drop k instrs) longs in
    let lives : alive_from out (length used) (drop (length used) instrs) ≡ A = ap (λ k. alive_from out k (drop k instrs)) longs in
    let was : b ≡ (is_shown (length before) out || is_used (length before) D A) =
    sym (get_or-append_seam before b [] false) ∙ sym (ap (λ us. get_or us (length before) false) popped) ∙ h.noted (length before) (omega (arith, longs)) ∙ ap (λ k. is_shown (length before) out || is_used (length before) (drop k instrs) (alive_from out k (drop k instrs))) longs in
    let first : a ≡ (may_overflow instr.op || is_shown (length before) out || is_used (length before) D A) = is ∙ alive_is b (may_overflow instr.op) (is_shown (length before) out) (is_used (length before) D A) was in
    let whole : alive_from out (length before) (drop (length before) instrs) ≡ a ∷ A = ap (alive_from out (length before)) split ∙ ap (λ x. x ∷ A) (sym first) in
    let at : alive_from out (length after) (drop (length after) instrs) ≡ a ∷ A = ap (λ k. alive_from out k (drop k instrs)) long ∙ whole in
    let tail : drop (length after) instrs ≡ instr ∷ D = ap (λ k. drop k instrs) long ∙ split in
    record {
      short = omega (arith, long, low);
      told = reverse-append flags (a ∷ []) ∙ ap (λ xs. a ∷ xs) (h.told ∙ lives) ∙ sym at;
      noted = λ n less.
          let under : n < length before = omega (arith, less, long) in
          let old : get_or before n false ≡ (is_shown n out || is_used n D A) =
          sym (get_or_append_left before (b ∷ []) false n under) ∙ sym (ap (λ us. get_or us n false) popped) ∙ h.noted n (omega (arith, longs, under)) ∙ ap (λ k. is_shown n out || is_used n (drop k instrs) (alive_from out k (drop k instrs))) longs in
          noted n under ∙ ap (λ x. (a && uses n instr.args) || x) old ∙ noted_is (a && uses n instr.args) (is_shown n out) (is_used n D A)
          ∙ ap (λ is. is_shown n out || is_used n is (a ∷ A)) (sym tail) ∙ ap (λ bs. is_shown n out || is_used n (drop (length after) instrs) bs) (sym at);
    }
  where
    D : List Instr
    D = drop (suc (length before)) instrs

    A : List Bool
    A = alive_from out (suc (length before)) D
