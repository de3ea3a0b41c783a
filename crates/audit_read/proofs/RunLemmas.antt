-- The pieces of a script in one pass: what holds at each of its places.
use Rattle.std.proofs.Common.{◌≡◌, ℕ, ◌<◌, ◌≤◌, ◌+◌, ◌-◌, List, [], ◌∷◌, ◌++◌, length, take, drop, get_or, Bool, true, false, ◌||◌, ◌&&◌, cond, refl, ap, sym, ◌∙◌, subst, arith, append_assoc, append-nil}
use Rattle.std.specs.Prelude.{◌==◌, not, if◌then◌else◌}
use Rattle.std.proofs.lemmas.Bool.{eqb-true}
use Rattle.std.proofs.lemmas.List.{drop_more}
use Rattle.std.proofs.lemmas.List.Edits.{between_more}
use Rattle.sql_tree.specs.Bytes.{begins_with, is_blank}
use Rattle.sql_tree.specs.Pieces.{runs_of, with_byte, ends_piece, next_inside, opened, is_told, says_something, pieces_of}
use Rattle.sql_tree.specs.declared.inside.Inside.{Inside}
use Rattle.sql_tree.specs.declared.inside.Inside.TheVariants.{Outside, InText, InName, InLine, OpensBlock, InBlock, ClosesBlock}
use Rattle.read_laws.specs.TokenReader.{kept_runs}

-- ## The first run and the others

abbrev pub first_of : Inside → List ℕ → List ℕ
first_of place [] = []
first_of place (b ∷ bs) = if ends_piece place b then [] else b ∷ first_of (next_inside place b bs) bs

abbrev pub more_of : Inside → List ℕ → List (List ℕ)
more_of place [] = []
more_of place (b ∷ bs) = if ends_piece place b then runs_of Outside bs else more_of (next_inside place b bs) bs

runs_split : (place : Inside) (bs : List ℕ) → runs_of place bs ≡ first_of place bs ∷ more_of place bs
runs_split place [] = refl
runs_split place (b ∷ bs) = by_end (runs_split (next_inside place b bs) bs) (ends_piece place b)
  where
    by_end : runs_of (next_inside place b bs) bs ≡ first_of (next_inside place b bs) bs ∷ more_of (next_inside place b bs) bs → (t : Bool)
        → cond t ([] ∷ runs_of Outside bs) (with_byte b (runs_of (next_inside place b bs) bs))
        ≡ cond t [] (b ∷ first_of (next_inside place b bs) bs) ∷ cond t (runs_of Outside bs) (more_of (next_inside place b bs) bs)
    by_end more true = refl
    by_end more false = ap (with_byte b) more

-- ## A run by itself is as in the script

pub ends_at : (place : Inside) (b : ℕ) → ends_piece place b ≡ true → b ≡ 59
ends_at Outside b h = eqb-true b 59 h
ends_at InText b h = cc
ends_at InName b h = cc
ends_at InLine b h = cc
ends_at OpensBlock b h = cc
ends_at InBlock b h = cc
ends_at ClosesBlock b h = cc

front_same : (k : ℕ) → (59 == k) ≡ false → (place : Inside) (bs : List ℕ) → begins_with k (first_of place bs) ≡ begins_with k bs
front_same k other place [] = refl
front_same k other place (b ∷ bs) = by_end (ends_piece place b) refl
  where
    by_end : (t : Bool) → ends_piece place b ≡ t → begins_with k (cond t [] (b ∷ first_of (next_inside place b bs) bs)) ≡ (b == k)
    by_end true e = sym (ap (λ c. c == k) (ends_at place b e) ∙ other)
    by_end false e = refl

module _ (b : ℕ) (xs ys : List ℕ) (line : begins_with 45 xs ≡ begins_with 45 ys) (block : begins_with 42 xs ≡ begins_with 42 ys) where
  told_same : (place : Inside) → is_told place b xs ≡ is_told place b ys
  told_same Outside =
      ap (λ t. not (is_blank b || (((b == 45) && t) || ((b == 47) && begins_with 42 xs)))) line
      ∙ ap (λ t. not (is_blank b || (((b == 45) && begins_with 45 ys) || ((b == 47) && t)))) block
  told_same InText = refl
  told_same InName = refl
  told_same InLine = refl
  told_same OpensBlock = refl
  told_same InBlock = refl
  told_same ClosesBlock = refl

  opened_same : opened b xs ≡ opened b ys
  opened_same =
      ap (λ t. if b == 39 then InText else (if b == 34 then InName else (if (b == 45) && t then InLine else (if (b == 47) && begins_with 42 xs then OpensBlock else Outside)))) line
      ∙ ap (λ t. if b == 39 then InText else (if b == 34 then InName else (if (b == 45) && begins_with 45 ys then InLine else (if (b == 47) && t then OpensBlock else Outside)))) block

  next_same : begins_with 47 xs ≡ begins_with 47 ys → (place : Inside) → next_inside place b xs ≡ next_inside place b ys
  next_same ends Outside = opened_same
  next_same ends InText = refl
  next_same ends InName = refl
  next_same ends InLine = refl
  next_same ends OpensBlock = refl
  next_same ends InBlock = ap (λ t. if (b == 42) && t then ClosesBlock else InBlock) ends
  next_same ends ClosesBlock = refl

-- ## What holds at a place

-- at a place in a run: the pieces so far and those of the rest are the script's, and the run is said something by what
-- came of it or by what follows
pub record Stands (script : List ℕ) (found : List (List ℕ)) (place : Inside) (run rest : List ℕ) (says : Bool) : Type 0 where
  pub told : found ++ kept_runs ((run ++ first_of place rest) ∷ more_of place rest) ≡ pieces_of script
  pub says_is : says_something Outside (run ++ first_of place rest) ≡ (says || says_something place (first_of place rest))

pub stands_first : (script : List ℕ) → Stands script [] Outside [] script false
stands_first script = record { told = ap kept_runs (sym (runs_split Outside script)); says_is = refl }

or_false : (a : Bool) → (a || false) ≡ a
or_false true = refl
or_false false = refl

or_assoc : (a b c : Bool) → (a || (b || c)) ≡ ((a || b) || c)
or_assoc true b c = refl
or_assoc false b c = refl

-- what is kept of a run that ends
kept_said : (run : List ℕ) (runs : List (List ℕ)) (says : Bool) → says_something Outside (run ++ []) ≡ (says || false)
    → kept_runs ((run ++ []) ∷ runs) ≡ (if says then run ∷ [] else []) ++ kept_runs runs
kept_said run runs says h =
    ap (λ r. kept_runs (r ∷ runs)) (append-nil run)
    ∙ ap (λ t. cond t (run ∷ kept_runs runs) (kept_runs runs)) (ap (says_something Outside) (sym (append-nil run)) ∙ h ∙ or_false says)
    ∙ elim says as (λ t. cond t (run ∷ kept_runs runs) (kept_runs runs) ≡ (if t then run ∷ [] else []) ++ kept_runs runs) [ true ↦ refl | false ↦ refl ]

-- the last run
pub stands_last : (script : List ℕ) (found : List (List ℕ)) (place : Inside) (run : List ℕ) (says : Bool) → Stands script found place run [] says → (new : List (List ℕ)) → new ≡ found ++ (if says then run ∷ [] else []) → new ≡ pieces_of script
stands_last script found place run says stands new added =
    added ∙ ap (λ ps. found ++ ps) (sym (append-nil _) ∙ sym (kept_said run [] says stands.says_is)) ∙ stands.told

module _ (script : List ℕ) (found : List (List ℕ)) (place : Inside) (run : List ℕ) (b : ℕ) (bs : List ℕ) (says : Bool) (stands : Stands script found place run (b ∷ bs) says) where
  -- the run ends here
  pub stands_cut : ends_piece place b ≡ true → (new : List (List ℕ)) → new ≡ found ++ (if says then run ∷ [] else []) → Stands script new Outside [] bs false
  stands_cut h new added =
      let rest : List (List ℕ) = runs_of Outside bs in
      let said : says_something Outside (run ++ []) ≡ (says || false) =
      ap (λ t. says_something Outside (run ++ cond t [] (b ∷ first_of (next_inside place b bs) bs))) (sym h) ∙ stands.says_is
      ∙ ap (λ t. says || says_something place (cond t [] (b ∷ first_of (next_inside place b bs) bs))) h in
      let told : found ++ kept_runs ((run ++ []) ∷ rest) ≡ pieces_of script =
      ap (λ t. found ++ kept_runs ((run ++ cond t [] (b ∷ first_of (next_inside place b bs) bs)) ∷ cond t rest (more_of (next_inside place b bs) bs))) (sym h) ∙ stands.told in
      record {
        told =
            ap (λ ps. ps ++ kept_runs (first_of Outside bs ∷ more_of Outside bs)) added
            ∙ append_assoc found (if says then run ∷ [] else []) (kept_runs (first_of Outside bs ∷ more_of Outside bs))
            ∙ ap (λ rs. found ++ ((if says then run ∷ [] else []) ++ kept_runs rs)) (sym (runs_split Outside bs))
            ∙ ap (λ ps. found ++ ps) (sym (kept_said run rest says said))
            ∙ told;
        says_is = refl;
      }

  -- the run goes on
  pub stands_on : ends_piece place b ≡ false → Stands script found (next_inside place b bs) (run ++ b ∷ []) bs (says || is_told place b bs)
  stands_on h =
      let after : Inside = next_inside place b bs in
      let first : List ℕ = first_of after bs in
      let line : begins_with 45 first ≡ begins_with 45 bs = front_same 45 refl after bs in
      let block : begins_with 42 first ≡ begins_with 42 bs = front_same 42 refl after bs in
      let close : begins_with 47 first ≡ begins_with 47 bs = front_same 47 refl after bs in
      record {
        told =
            ap (λ r. found ++ kept_runs (r ∷ more_of after bs)) (append_assoc run (b ∷ []) first)
            ∙ ap (λ t. found ++ kept_runs ((run ++ cond t [] (b ∷ first)) ∷ cond t (runs_of Outside bs) (more_of after bs))) (sym h)
            ∙ stands.told;
        says_is =
            ap (says_something Outside) (append_assoc run (b ∷ []) first)
            ∙ ap (λ t. says_something Outside (run ++ cond t [] (b ∷ first))) (sym h)
            ∙ stands.says_is
            ∙ ap (λ t. says || says_something place (cond t [] (b ∷ first))) h
            ∙ ap (λ t. says || (t || says_something (next_inside place b first) first)) (told_same b first bs line block place)
            ∙ ap (λ (p : Inside). says || (is_told place b bs || says_something p first)) (next_same b first bs line block close place)
            ∙ or_assoc says (is_told place b bs) (says_something after first);
      }

-- ## Places

-- the run that begins at `start` goes up to the place
module _ (text : List ℕ) (found : List (List ℕ)) (place : Inside) (start at : ℕ) (says : Bool) (within : at < length text) (order : start ≤ at)
    (stands : Stands text found place (take (at - start) (drop start text)) (drop at text) says) where
  here : Stands text found place (take (at - start) (drop start text)) (get_or text at 0 ∷ drop (at + 1) text) says
  here = subst (λ rest. Stands text found place (take (at - start) (drop start text)) rest says) (drop_more text at 0 within) stands

  pub cut_at : ends_piece place (get_or text at 0) ≡ true → (new : List (List ℕ)) → new ≡ found ++ (if says then take (at - start) (drop start text) ∷ [] else [])
      → Stands text new Outside (take (at + 1 - (at + 1)) (drop (at + 1) text)) (drop (at + 1) text) false
  cut_at h new added =
      let none : at + 1 - (at + 1) ≡ 0 = omega arith in
      subst (λ n. Stands text new Outside (take n (drop (at + 1) text)) (drop (at + 1) text) false) (sym none)
      (stands_cut text found place (take (at - start) (drop start text)) (get_or text at 0) (drop (at + 1) text) says here h new added)

  pub on_at : ends_piece place (get_or text at 0) ≡ false
      → (after : Inside) → after ≡ next_inside place (get_or text at 0) (drop (at + 1) text)
      → (says_more : Bool) → says_more ≡ (says || is_told place (get_or text at 0) (drop (at + 1) text))
      → Stands text found after (take (at + 1 - start) (drop start text)) (drop (at + 1) text) says_more
  on_at h after after_is says_more more_is =
      subst (λ (p : Inside). Stands text found p (take (at + 1 - start) (drop start text)) (drop (at + 1) text) says_more) (sym after_is)
      (subst (λ (s : Bool). Stands text found (next_inside place (get_or text at 0) (drop (at + 1) text)) (take (at + 1 - start) (drop start text)) (drop (at + 1) text) s) (sym more_is)
      (subst (λ run. Stands text found (next_inside place (get_or text at 0) (drop (at + 1) text)) run (drop (at + 1) text) (says || is_told place (get_or text at 0) (drop (at + 1) text))) (sym (between_more text start at 0 order within))
      (stands_on text found place (take (at - start) (drop start text)) (get_or text at 0) (drop (at + 1) text) says here h)))
