-- The first run of a script, and what is kept of the runs.
use Rattle.std.proofs.Common.{◌≡◌, ℕ, suc, ◌+◌, ◌<◌, List, [], ◌∷◌, ◌++◌, length, take, drop, get_or, Bool, true, false, cond, refl, ap, sym, ◌∙◌, arith, append_assoc, length-append, Some, None}
use Rattle.sql_tree.specs.Pieces.{runs_of, with_byte, ends_piece, next_inside, says_something}
use Rattle.sql_tree.specs.declared.inside.Inside.{Inside}
use Rattle.sql_tree.specs.declared.inside.Inside.TheVariants.{Outside, InText, InName, InLine, OpensBlock, InBlock, ClosesBlock}
use Rattle.std.proofs.lemmas.Bool.{eqb-true}
use Rattle.read_laws.specs.TokenReader.{run_length, kept_runs}

-- what ends a piece is a `;`
ends_at : (place : Inside) (b : ℕ) → ends_piece place b ≡ true → b ≡ 59
ends_at Outside b h = eqb-true b 59 h
ends_at InText b h = cc
ends_at InName b h = cc
ends_at InLine b h = cc
ends_at OpensBlock b h = cc
ends_at InBlock b h = cc
ends_at ClosesBlock b h = cc

-- a first run of so many bytes
pub record IsRun (place : Inside) (bs : List ℕ) (k : ℕ) : Type 0 where
  pub within : k < length bs
  pub ended : get_or bs k 0 ≡ 59
  pub runs : runs_of place bs ≡ take k bs ∷ runs_of Outside (drop (k + 1) bs)

-- a run of no bytes, and one of a byte more
no_bytes : (place : Inside) (b : ℕ) (bs : List ℕ) → ends_piece place b ≡ true → IsRun place (b ∷ bs) 0
no_bytes place b bs h = record {
  within = omega arith;
  ended = ends_at place b h;
  runs = ap (λ t. cond t ([] ∷ runs_of Outside bs) (with_byte b (runs_of (next_inside place b bs) bs))) h;
}

one_byte : (place : Inside) (b : ℕ) (bs : List ℕ) (k : ℕ) → ends_piece place b ≡ false → IsRun (next_inside place b bs) bs k → IsRun place (b ∷ bs) (suc k)
one_byte place b bs k h run =
    let more : suc k + 1 ≡ suc (k + 1) = omega arith in
    record {
      within = omega (arith, run.within);
      ended = run.ended;
      runs = rw more (ap (λ t. cond t ([] ∷ runs_of Outside bs) (with_byte b (runs_of (next_inside place b bs) bs))) h ∙ ap (with_byte b) run.runs);
    }

-- the run that is counted
pub run_found : (bs : List ℕ) (place : Inside) (at n : ℕ) → run_length place at bs ≡ Some n → (k : ℕ) × (n ≡ at + k) × IsRun place bs k
run_found [] place at n h = cc
run_found (b ∷ bs) place at n h = by_end (run_found bs (next_inside place b bs) (at + 1) n) (ends_piece place b) refl h
  where
    by_end : (run_length (next_inside place b bs) (at + 1) bs ≡ Some n → (k : ℕ) × (n ≡ (at + 1) + k) × IsRun (next_inside place b bs) bs k) → (t : Bool) → ends_piece place b ≡ t → cond t (Some at) (run_length (next_inside place b bs) (at + 1) bs) ≡ Some n → (k : ℕ) × (n ≡ at + k) × IsRun place (b ∷ bs) k
    by_end more true e h = let same : at ≡ n = cc in (0, omega (arith, same), no_bytes place b bs e)
    by_end more false e h =
        let (k, sum, run) = more h in
        (suc k, omega (arith, sum), one_byte place b bs k e run)

pub run_first : (bs : List ℕ) (n : ℕ) → run_length Outside 0 bs ≡ Some n → IsRun Outside bs n
run_first bs n h =
    let (k, sum, run) = run_found bs Outside 0 n h in
    let same : k ≡ n = omega (arith, sum) in
    rw (sym same) run

-- without a `;` that ends a piece the bytes are one run
pub run_whole : (bs : List ℕ) (place : Inside) (at : ℕ) → run_length place at bs ≡ None → runs_of place bs ≡ bs ∷ []
run_whole [] place at h = refl
run_whole (b ∷ bs) place at h = by_end (run_whole bs (next_inside place b bs) (at + 1)) (ends_piece place b) h
  where
    by_end : (run_length (next_inside place b bs) (at + 1) bs ≡ None → runs_of (next_inside place b bs) bs ≡ bs ∷ []) → (t : Bool) → cond t (Some at) (run_length (next_inside place b bs) (at + 1) bs) ≡ None → cond t ([] ∷ runs_of Outside bs) (with_byte b (runs_of (next_inside place b bs) bs)) ≡ (b ∷ bs) ∷ []
    by_end more true h = cc
    by_end more false h = ap (with_byte b) (more h)

-- what is kept of a run and of more runs
pub kept_first : (run : List ℕ) (runs : List (List ℕ)) → kept_runs (run ∷ runs) ≡ kept_runs (run ∷ []) ++ kept_runs runs
kept_first run runs = elim (says_something Outside run) as (λ b. cond b (run ∷ kept_runs runs) (kept_runs runs) ≡ cond b (run ∷ []) [] ++ kept_runs runs) [ true ↦ refl | false ↦ refl ]

-- the pieces so far and those of the rest are the script's
abbrev pub Told : List (List ℕ) → List ℕ → List ℕ → Type 0
Told pieces rest script = pieces ++ kept_runs (runs_of Outside rest) ≡ kept_runs (runs_of Outside script)

module _ (script : List ℕ) (pieces : List (List ℕ)) (rest : List ℕ) (told : Told pieces rest script) where
  -- the rest begins with a run
  module _ (run : List ℕ) (runs : List (List ℕ)) (first : runs_of Outside rest ≡ run ∷ runs) where
    -- a run is added
    pub told_more : (new : List (List ℕ)) → new ≡ pieces ++ kept_runs (run ∷ []) → new ++ kept_runs runs ≡ kept_runs (runs_of Outside script)
    told_more new added =
        ap (λ ps. ps ++ kept_runs runs) added ∙ append_assoc pieces (kept_runs (run ∷ [])) (kept_runs runs)
        ∙ ap (λ ps. pieces ++ ps) (sym (kept_first run runs) ∙ ap kept_runs (sym first)) ∙ told

    -- a run too many
    pub too_many : length pieces ≡ 256 → kept_runs (run ∷ []) ≡ run ∷ [] → 256 < length (kept_runs (runs_of Outside script))
    too_many full kept =
        let whole = told_more (pieces ++ kept_runs (run ∷ [])) refl in
        let size : length ((pieces ++ run ∷ []) ++ kept_runs runs) ≡ length (kept_runs (runs_of Outside script)) = ap (λ ps. length ((pieces ++ ps) ++ kept_runs runs)) (sym kept) ∙ ap length whole in
        omega (arith, simp length-append at size)
