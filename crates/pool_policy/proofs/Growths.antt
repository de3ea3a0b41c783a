-- What comes back in a write is its operator over what its arguments are then.
use Rattle.std.proofs.Common.{◌≡◌, ℕ, ◌+◌, ◌^◌, ◌<◌, List, [], ◌∷◌, ◌++◌, Bool, true, false, ◌&&◌, Option, Some, None, refl, ap, sym, ◌∙◌, subst, length, map, length-append}
use Rattle.std.specs.Prelude.{◌==◌, if◌then◌else◌}
use Rattle.std.specs.List.{AllByRecursion, list_all}
use Rattle.std.specs.Cmp.{first_so, second_so}
use Rattle.std.specs.Option.{option_and_then, option_map, option_map_or}
use Rattle.std.proofs.lemmas.Bool.Decides.{Decides-eqb}
use Rattle.cell_core.specs.declared.cell.Cell.{Cell}
use Rattle.cell_core.specs.declared.operator.Op.{Op}
use Rattle.cell_core.specs.declared.operator.Op.TheVariants as op
use Rattle.cell_core.specs.declared.operator.Value.{Value}
use Rattle.cell_core.specs.declared.operator.Value.TheVariants.{Bat, One}
use Rattle.cell_core.specs.Calc.{calculated}
use Rattle.cell_core.specs.Operators.{operate, of_range, of_bat}
use Rattle.cell_core.specs.Pairs.{Pairs, is_true, as_bat}
use Rattle.cell_core.specs.Relations.{selected, reversed, mirrored, marked, projected, joined}
use Rattle.lineage_key.specs.Parents.{is_bind}
use Rattle.reuse_laws.specs.Grown.{raised, stand_below, grown, AreGrown, HasBat}
use Rattle.reuse_laws.proofs.Appends.{selected_append, reversed_append, mirrored_append, projected_append, marked_append, joined_append, joined_grown, joined_both}
use Rattle.reuse_laws.proofs.Calculated.{calculated_append}
use Rattle.pool_policy.specs.Writes.{Source, as_deltas, has_length, have_one_length, of_selection, of_sole, of_projection, of_mark, of_calculation, of_two, of_single, of_join, delta_of}
use Rattle.pool_policy.specs.Writes.Source.{Plain, Same, Grown}
use Rattle.pool_policy.specs.Writes.Growth.{Runs, Nothing, NoForm}
use Rattle.pool_policy.specs.WriteLaws.{IsGrown, old_value, new_value, GrowthsServe}
use Rattle.pool_policy.proofs.Ends.{append_none}

-- a value in a Some
abbrev bat_of : Pairs → Option Value
bat_of b = Some (Bat b)

-- ## One BAT

select_grows : (rows : ℕ) (sources : List Source) (b d : Pairs) → AllByRecursion (IsGrown rows) sources
    → of_range (map old_value sources) ≡ Some (Bat b) → delta_of op.Select (of_selection sources) ≡ Some d → of_range (map new_value sources) ≡ Some (Bat (b ++ d))
select_grows rows (Grown r ∷ Plain low ∷ Plain high ∷ Plain li ∷ Plain hi ∷ []) b d known e h =
    let old : selected low high (is_true li) (is_true hi) r.old.value ≡ b = cc in
    let new : selected low high (is_true li) (is_true hi) r.delta ≡ d = cc in
    ap (λ v. bat_of (selected low high (is_true li) (is_true hi) v)) known.0.value
    ∙ ap bat_of (selected_append low high (is_true li) (is_true hi) r.old.value r.delta)
    ∙ ap (λ v. bat_of (v ++ selected low high (is_true li) (is_true hi) r.delta)) old ∙ ap (λ v. bat_of (b ++ v)) new
select_grows rows _ b d known e h = cc

-- an operator on one BAT that goes on with what follows it
bat_grows : (o : Op) (f : Pairs → Pairs) → ((b d : Pairs) → f (b ++ d) ≡ f b ++ f d) → (operate o ≡ of_bat (λ b. Bat (f b))) → (rows : ℕ) (sources : List Source) (b d : Pairs) → AllByRecursion (IsGrown rows) sources
    → of_bat (λ b. Bat (f b)) (map old_value sources) ≡ Some (Bat b) → delta_of o (of_sole sources) ≡ Some d → of_bat (λ b. Bat (f b)) (map new_value sources) ≡ Some (Bat (b ++ d))
bat_grows o f law is rows (Grown r ∷ []) b d known e h =
    let old : f r.old.value ≡ b = cc in
    let run : option_and_then as_bat (of_bat (λ b. Bat (f b)) (Bat r.delta ∷ [])) ≡ Some d = ap (λ g. option_and_then as_bat (g (Bat r.delta ∷ []))) (sym is) ∙ h in
    let new : f r.delta ≡ d = cc in
    ap (λ v. bat_of (f v)) known.0.value ∙ ap bat_of (law r.old.value r.delta) ∙ ap (λ v. bat_of (v ++ f r.delta)) old ∙ ap (λ v. bat_of (b ++ v)) new
bat_grows o f law is rows (Same v ∷ []) b d known e h = cc
bat_grows o f law is rows (Plain c ∷ []) b d known e h = cc
bat_grows o f law is rows [] b d known e h = cc
bat_grows o f law is rows (s ∷ t ∷ sources) b d known e h = two s e
  where
    two : (s : Source) → of_bat (λ b. Bat (f b)) (old_value s ∷ old_value t ∷ map old_value sources) ≡ Some (Bat b) → of_bat (λ b. Bat (f b)) (new_value s ∷ new_value t ∷ map new_value sources) ≡ Some (Bat (b ++ d))
    two (Plain c) e = cc
    two (Same v) e = cc
    two (Grown r) e = cc

project_grows : (rows : ℕ) (sources : List Source) (b d : Pairs) → AllByRecursion (IsGrown rows) sources
    → operate op.Project (map old_value sources) ≡ Some (Bat b) → delta_of op.Project (of_projection sources) ≡ Some d → operate op.Project (map new_value sources) ≡ Some (Bat (b ++ d))
project_grows rows (Grown r ∷ Plain cell ∷ []) b d known e h =
    let old : projected cell r.old.value ≡ b = cc in
    let new : projected cell r.delta ≡ d = cc in
    ap (λ v. bat_of (projected cell v)) known.0.value ∙ ap bat_of (projected_append cell r.old.value r.delta) ∙ ap (λ v. bat_of (v ++ projected cell r.delta)) old ∙ ap (λ v. bat_of (b ++ v)) new
project_grows rows _ b d known e h = cc

mark_grows : (rows : ℕ) (sources : List Source) (b d : Pairs) → AllByRecursion (IsGrown rows) sources
    → operate op.MarkT (map old_value sources) ≡ Some (Bat b) → delta_of op.MarkT (of_mark sources) ≡ Some d → operate op.MarkT (map new_value sources) ≡ Some (Bat (b ++ d))
mark_grows rows (Grown r ∷ Plain base ∷ []) b d known e h =
    let old : marked base r.old.value ≡ b = cc in
    let new : marked (raised base (length r.old.value)) r.delta ≡ d = cc in
    let long : length r.old.value + length r.delta < 2 ^ 62 = subst (λ n. n < 2 ^ 62) (ap (λ (v : Pairs). length v) known.0.value ∙ length-append r.old.value r.delta) known.0.short in
    ap (λ v. bat_of (marked base v)) known.0.value ∙ ap bat_of (marked_append base r.old.value r.delta long) ∙ ap (λ v. bat_of (v ++ marked (raised base (length r.old.value)) r.delta)) old ∙ ap (λ v. bat_of (b ++ v)) new
mark_grows rows _ b d known e h = cc

-- ## Joins

join_grows : (rows : ℕ) (sources : List Source) (b d : Pairs) → AllByRecursion (IsGrown rows) sources
    → operate op.Join (map old_value sources) ≡ Some (Bat b) → delta_of op.Join (of_join rows sources) ≡ Some d → operate op.Join (map new_value sources) ≡ Some (Bat (b ++ d))
join_grows rows (Grown l ∷ Same r ∷ []) b d known e h =
    let old : joined l.old.value r ≡ b = cc in
    let new : joined l.delta r ≡ d = cc in
    ap (λ v. bat_of (joined v r)) known.0.value ∙ ap bat_of (joined_append l.old.value l.delta r) ∙ ap (λ v. bat_of (v ++ joined l.delta r)) old ∙ ap (λ v. bat_of (b ++ v)) new
join_grows rows (Grown l ∷ Grown r ∷ []) b d known e h = go (is_bind r.old.key && stand_below rows l.old.value) refl h
  where
    go : (c : Bool) → (is_bind r.old.key && stand_below rows l.old.value) ≡ c → delta_of op.Join (if c then Runs (Bat l.delta ∷ Bat r.new.value ∷ []) else NoForm) ≡ Some d → Some (Bat (joined l.new.value r.new.value)) ≡ Some (Bat (b ++ d))
    go false is h = cc
    go true is h =
        let old : joined l.old.value r.old.value ≡ b = cc in
        let new : joined l.delta r.new.value ≡ d = cc in
        let from = known.1.0.rows (first_so (is_bind r.old.key) (stand_below rows l.old.value) is) in
        let low = second_so (is_bind r.old.key) (stand_below rows l.old.value) is in
        ap (λ v. bat_of (joined v r.new.value)) known.0.value
        ∙ ap (λ v. bat_of (joined (l.old.value ++ l.delta) v)) known.1.0.value
        ∙ ap bat_of (joined_both rows l.old.value l.delta r.old.value r.delta low from)
        ∙ ap (λ v. bat_of (v ++ joined l.delta (r.old.value ++ r.delta))) old
        ∙ ap (λ v. bat_of (b ++ joined l.delta v)) (sym known.1.0.value) ∙ ap (λ v. bat_of (b ++ v)) new
join_grows rows (Same l ∷ Grown r ∷ []) b d known e h = go (is_bind r.old.key && stand_below rows l) refl h
  where
    go : (c : Bool) → (is_bind r.old.key && stand_below rows l) ≡ c → delta_of op.Join (if c then Nothing else NoForm) ≡ Some d → Some (Bat (joined l r.new.value)) ≡ Some (Bat (b ++ d))
    go false is h = cc
    go true is h =
        let old : joined l r.old.value ≡ b = cc in
        let new : [] ≡ d = cc in
        let from = known.1.0.rows (first_so (is_bind r.old.key) (stand_below rows l) is) in
        let low = second_so (is_bind r.old.key) (stand_below rows l) is in
        ap (λ v. bat_of (joined l v)) known.1.0.value
        ∙ ap bat_of (joined_grown rows l r.old.value r.delta low from)
        ∙ ap bat_of old ∙ ap bat_of (sym (append_none b)) ∙ ap (λ v. bat_of (b ++ v)) new
join_grows rows _ b d known e h = cc

-- ## Calculations

-- where what follows each BAT is known, the sources are constants and BATs that grew
pieces_grow : (rows n : ℕ) (sources : List Source) (values : List Value) → AllByRecursion (IsGrown rows) sources → as_deltas sources ≡ Some values → list_all (has_length n) sources ≡ true
    → AreGrown n (map old_value sources) values × (map new_value sources ≡ grown (map old_value sources) values)
pieces_grow rows n [] values known e all = let none : [] ≡ values = cc in subst (λ vs. AreGrown n [] vs × ([] ≡ grown [] vs)) none (tt, refl)
pieces_grow rows n (Plain c ∷ sources) values known e all = go (as_deltas sources) refl e (λ vs told. pieces_grow rows n sources vs known.1 told all)
  where
    go : (o : Option (List Value)) → as_deltas sources ≡ o → option_map (λ vs. One c ∷ vs) o ≡ Some values → ((vs : List Value) → as_deltas sources ≡ Some vs → AreGrown n (map old_value sources) vs × (map new_value sources ≡ grown (map old_value sources) vs)) → AreGrown n (One c ∷ map old_value sources) values × (One c ∷ map new_value sources ≡ grown (One c ∷ map old_value sources) values)
    go None is h rest = cc
    go (Some vs) is h rest =
        let same : One c ∷ vs ≡ values = cc in
        let more = rest vs is in
        subst (λ ws. AreGrown n (One c ∷ map old_value sources) ws × (One c ∷ map new_value sources ≡ grown (One c ∷ map old_value sources) ws)) same ((refl, more.0), ap (λ ws. One c ∷ ws) more.1)
pieces_grow rows n (Grown r ∷ sources) values known e all = go (as_deltas sources) refl e (λ vs told. pieces_grow rows n sources vs known.1 told (second_so (length r.old.value == n) (list_all (has_length n) sources) all))
  where
    go : (o : Option (List Value)) → as_deltas sources ≡ o → option_map (λ vs. Bat r.delta ∷ vs) o ≡ Some values → ((vs : List Value) → as_deltas sources ≡ Some vs → AreGrown n (map old_value sources) vs × (map new_value sources ≡ grown (map old_value sources) vs)) → AreGrown n (Bat r.old.value ∷ map old_value sources) values × (Bat r.new.value ∷ map new_value sources ≡ grown (Bat r.old.value ∷ map old_value sources) values)
    go None is h rest = cc
    go (Some vs) is h rest =
        let same : Bat r.delta ∷ vs ≡ values = cc in
        let more = rest vs is in
        let here : length r.old.value ≡ n = (Decides-eqb (length r.old.value) n).0 (first_so (length r.old.value == n) (list_all (has_length n) sources) all) in
        subst (λ ws. AreGrown n (Bat r.old.value ∷ map old_value sources) ws × (Bat r.new.value ∷ map new_value sources ≡ grown (Bat r.old.value ∷ map old_value sources) ws)) same
        ((here, more.0), ap (λ v. Bat v ∷ map new_value sources) known.0.value ∙ ap (λ ws. Bat (r.old.value ++ r.delta) ∷ ws) more.1)
pieces_grow rows n (Same v ∷ sources) values known e all = cc

-- the one length, and that there is a BAT
one_length : (sources : List Source) (values : List Value) → as_deltas sources ≡ Some values → have_one_length sources ≡ true → (n : ℕ) × (list_all (has_length n) sources ≡ true) × HasBat (map old_value sources)
one_length [] values e h = cc
one_length (Plain c ∷ sources) values e h = go (as_deltas sources) refl e (λ vs told. one_length sources vs told h)
  where
    go : (o : Option (List Value)) → as_deltas sources ≡ o → option_map (λ vs. One c ∷ vs) o ≡ Some values → ((vs : List Value) → as_deltas sources ≡ Some vs → (n : ℕ) × (list_all (has_length n) sources ≡ true) × HasBat (map old_value sources)) → (n : ℕ) × (list_all (has_length n) sources ≡ true) × HasBat (map old_value sources)
    go None is h rest = cc
    go (Some vs) is h rest = rest vs is
one_length (Grown r ∷ sources) values e h = (length r.old.value, ap (λ b. b && list_all (has_length (length r.old.value)) sources) ((Decides-eqb (length r.old.value) (length r.old.value)).1 refl) ∙ h, tt)
one_length (Same v ∷ sources) values e h = cc

calculation_grows : (o : Op) (f : List Cell → Option Cell) → (operate o ≡ calculated f) → (rows : ℕ) (sources : List Source) (b d : Pairs) → AllByRecursion (IsGrown rows) sources
    → calculated f (map old_value sources) ≡ Some (Bat b) → delta_of o (of_calculation sources) ≡ Some d → calculated f (map new_value sources) ≡ Some (Bat (b ++ d))
calculation_grows o f is rows sources b d known e h = lengths (have_one_length sources) refl h
  where
    told : have_one_length sources ≡ true → (v : Option (List Value)) → as_deltas sources ≡ v → delta_of o (option_map_or Runs v NoForm) ≡ Some d → calculated f (map new_value sources) ≡ Some (Bat (b ++ d))
    told one None deltas h = cc
    told one (Some values) deltas h =
        let n = one_length sources values deltas one in
        let parts = pieces_grow rows n.0 sources values known deltas n.1 in
        let run : option_and_then as_bat (calculated f values) ≡ Some d = ap (λ g. option_and_then as_bat (g values)) (sym is) ∙ h in
        ap (calculated f) parts.1 ∙ calculated_append f n.0 (map old_value sources) values b d parts.0 n.2 e (behind (calculated f values) run)
      where
        behind : (r : Option Value) → option_and_then as_bat r ≡ Some d → r ≡ Some (Bat d)
        behind None run = cc
        behind (Some (One c)) run = cc
        behind (Some (Bat v)) run = let same : v ≡ d = cc in ap (λ v. Some (Bat v)) same

    lengths : (c : Bool) → have_one_length sources ≡ c → delta_of o (if c then option_map_or Runs (as_deltas sources) NoForm else NoForm) ≡ Some d → calculated f (map new_value sources) ≡ Some (Bat (b ++ d))
    lengths false one h = cc
    lengths true one h = told one (as_deltas sources) refl h

two_grows : (o : Op) (f : List Cell → Option Cell) → (operate o ≡ calculated f) → (rows : ℕ) (sources : List Source) (b d : Pairs) → AllByRecursion (IsGrown rows) sources
    → calculated f (map old_value sources) ≡ Some (Bat b) → delta_of o (of_two sources) ≡ Some d → calculated f (map new_value sources) ≡ Some (Bat (b ++ d))
two_grows o f is rows [] b d known e h = cc
two_grows o f is rows (x ∷ []) b d known e h = cc
two_grows o f is rows (x ∷ y ∷ []) b d known e h = calculation_grows o f is rows (x ∷ y ∷ []) b d known e h
two_grows o f is rows (x ∷ y ∷ z ∷ sources) b d known e h = cc

single_grows : (o : Op) (f : List Cell → Option Cell) → (operate o ≡ calculated f) → (rows : ℕ) (sources : List Source) (b d : Pairs) → AllByRecursion (IsGrown rows) sources
    → calculated f (map old_value sources) ≡ Some (Bat b) → delta_of o (of_single sources) ≡ Some d → calculated f (map new_value sources) ≡ Some (Bat (b ++ d))
single_grows o f is rows [] b d known e h = cc
single_grows o f is rows (x ∷ []) b d known e h = calculation_grows o f is rows (x ∷ []) b d known e h
single_grows o f is rows (x ∷ y ∷ sources) b d known e h = cc

pub growths_serve : GrowthsServe
growths_serve rows op.Select sources b d known e h = select_grows rows sources b d known e h
growths_serve rows op.Reverse sources b d known e h = bat_grows op.Reverse reversed reversed_append refl rows sources b d known e h
growths_serve rows op.Mirror sources b d known e h = bat_grows op.Mirror mirrored mirrored_append refl rows sources b d known e h
growths_serve rows op.Project sources b d known e h = project_grows rows sources b d known e h
growths_serve rows op.MarkT sources b d known e h = mark_grows rows sources b d known e h
growths_serve rows op.Join sources b d known e h = join_grows rows sources b d known e h
growths_serve rows op.Eq sources b d known e h = two_grows op.Eq _ refl rows sources b d known e h
growths_serve rows op.Ne sources b d known e h = two_grows op.Ne _ refl rows sources b d known e h
growths_serve rows op.Lt sources b d known e h = two_grows op.Lt _ refl rows sources b d known e h
growths_serve rows op.Le sources b d known e h = two_grows op.Le _ refl rows sources b d known e h
growths_serve rows op.Gt sources b d known e h = two_grows op.Gt _ refl rows sources b d known e h
growths_serve rows op.Ge sources b d known e h = two_grows op.Ge _ refl rows sources b d known e h
growths_serve rows op.And sources b d known e h = two_grows op.And _ refl rows sources b d known e h
growths_serve rows op.Or sources b d known e h = two_grows op.Or _ refl rows sources b d known e h
growths_serve rows op.Not sources b d known e h = single_grows op.Not _ refl rows sources b d known e h
growths_serve rows op.IsNil sources b d known e h = single_grows op.IsNil _ refl rows sources b d known e h
growths_serve rows _ sources b d known e h = cc
