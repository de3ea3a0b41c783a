-- Each step of a loop over levels keeps what is read in the end, or reading fails.
use Rattle.std.proofs.Common.{◌≡◌, ℕ, zero, suc, ◌+◌, ◌-◌, ◌<◌, ◌≤◌, List, [], ◌∷◌, ◌++◌, length, map, reverse, Bool, true, false, cond, Option, Some, None, refl, ap, sym, ◌∙◌, arith, add-one}
use Rattle.std.proofs.lemmas.List.{reverse-append}
use Rattle.read_laws.specs.Chain.{Found, Parser, first_token, after_first, chain}
use Rattle.read_laws.specs.ExprReader.{is_close, closed}
use Rattle.read_laws.proofs.ChainLemmas.{then_then, chain_ends}
use Rattle.sql_tree.specs.declared.token.Token.{Token}
use Rattle.text_bytes.specs.Found.{then_read}
use Rattle.text_bytes.proofs.FoundLemmas.{then_found}
use Rattle.audit_exprs.specs.declared.openings.Opening.{Opening}
use Rattle.audit_exprs.specs.declared.openings.Opening.TheVariants as opening_of
use Rattle.audit_exprs.specs.Between.{Rules, Waits, Next, fresh, all_prefixes, prefixed, group, rest_after, whole, any_part, near_of, leave, after_part, comes, GoesOn, Stops}
use Rattle.audit_exprs.specs.Between.Next.{Wanted, Was, Done}
use Rattle.audit_exprs.proofs.ChainSteps.{Shortens, AreAlike, then_same, chain_shortens, chain_step, chain_alike, some_shorter, close_shorter}

-- a language's parts are read as what opens them says; `alone` reads those that have no opening
pub record AreRead {X O P : Type 0} (rules : Rules X O P) (opens : List Token → Option Opening) (alone : Parser X) : Type 0 where
  pub no_near : rules.near None ≡ None
  pub no_far : rules.far None ≡ None
  pub shorter : (n : ℕ) (ts : List Token) (x : X) (rest : List Token) → rules.part n ts ≡ Some (x, rest) → length rest < length ts
  pub opened : (ts : List Token) (o : Opening) → opens ts ≡ Some o → length (after_first ts) < length ts
  pub prefix : (n : ℕ) (ts : List Token) → opens ts ≡ Some opening_of.Prefix → rules.part (suc n) ts ≡ then_read (rules.part n (after_first ts)) (λ x. let f : Found X = Some (rules.prefix x.0, x.1) in f)
  pub inside : (n : ℕ) (ts : List Token) → opens ts ≡ Some opening_of.Parenthesis → rules.part (suc n) ts ≡ then_read (whole rules (rules.part n) (after_first ts)) closed
  pub alone_is : (n : ℕ) (ts : List Token) → length ts ≤ n → opens ts ≡ None → rules.part n ts ≡ alone ts

module _ {X O P : Type 0} (rules : Rules X O P) where
  -- ## Two readers of parts

  module _ (no_near : rules.near None ≡ None) (no_far : rules.far None ≡ None) (p q : Parser X) (shortens : Shortens p) where
    group_shortens : Shortens (group rules p)
    unfolding group
    group_shortens ts x rest h =
        let f = then_found _ _ _ h in
        let a = shortens ts f.0.0 f.0.1 f.1 in
        let b = chain_shortens rules.near rules.near_join p shortens (length f.0.1) f.0.0 f.0.1 x rest f.2 in
        omega (arith, a, b)

    module _ (most : ℕ) (alike : AreAlike most p q) where
      group_alike : AreAlike most (group rules p) (group rules q)
      unfolding group
      group_alike ts few =
          then_same (p ts) _ _ (λ x found. let a = shortens ts x.0 x.1 found in chain_alike rules.near rules.near_join no_near p q most alike shortens (length x.1) (length x.1) x.0 x.1 (omega arith) (omega arith) (omega (arith, a, few)))
          ∙ ap (λ f. then_read f (λ x. chain rules.near rules.near_join q (length x.1) x.0 x.1)) (alike ts few)

      rest_alike : (far : X → X) (x : X) → AreAlike most (rest_after rules p far x) (rest_after rules q far x)
      unfolding rest_after
      rest_alike far x ts few =
          then_same (chain rules.near rules.near_join p (length ts) x ts) _ _ (λ g found.
          let a = chain_shortens rules.near rules.near_join p shortens (length ts) x ts g.0 g.1 found in
          chain_alike rules.far rules.far_join no_far (group rules p) (group rules q) most group_alike group_shortens (length g.1) (length g.1) (far g.0) g.1 (omega arith) (omega arith) (omega (arith, a, few)))
          ∙ ap (λ f. then_read f (λ g. chain rules.far rules.far_join (group rules q) (length g.1) (far g.0) g.1)) (chain_alike rules.near rules.near_join no_near p q most alike shortens (length ts) (length ts) x ts (omega arith) (omega arith) few)

      whole_alike : AreAlike most (whole rules p) (whole rules q)
      unfolding whole
      whole_alike ts few =
          then_same (p ts) _ _ (λ x found. let a = shortens ts x.0 x.1 found in rest_alike (λ x. x) x.0 x.1 (omega (arith, a, few)))
          ∙ ap (λ f. then_read f (λ x. rest_after rules q (λ x. x) x.0 x.1)) (alike ts few)

module _ {X O P : Type 0} (rules : Rules X O P) (opens : List Token → Option Opening) (alone : Parser X) (are : AreRead rules opens alone) where
  part_shortens : (n : ℕ) → Shortens (rules.part n)
  part_shortens n ts x rest h = let a = are.shorter n ts x rest h in omega (arith, a)

  any_shortens : Shortens (any_part rules)
  unfolding any_part
  any_shortens ts x rest h = part_shortens (length ts) ts x rest h

  abbrev prefix_found : X × List Token → Found X
  prefix_found x = Some (rules.prefix x.0, x.1)

  -- ## More levels than tokens change no result

  none_opens : (ts : List Token) → length ts ≤ 0 → opens ts ≡ None
  none_opens ts few = at (opens ts) refl
    where
      at : (o : Option Opening) → opens ts ≡ o → opens ts ≡ None
      at None e = e
      at (Some o) e = let a = are.opened ts o e in absurd (omega (arith, a, few))

  both_alone : (n m : ℕ) (ts : List Token) → length ts ≤ n → length ts ≤ m → opens ts ≡ None → rules.part n ts ≡ rules.part m ts
  both_alone n m ts few room e = are.alone_is n ts few e ∙ sym (are.alone_is m ts room e)

  enough_inside : (n m : ℕ) (ts : List Token) → ((us : List Token) → length us ≤ n → length us ≤ m → rules.part n us ≡ rules.part m us) → length ts ≤ suc n → length ts ≤ suc m → rules.part (suc n) ts ≡ rules.part (suc m) ts
  enough_inside n m ts inner few room = at (opens ts) refl
    where
      at : (o : Option Opening) → opens ts ≡ o → rules.part (suc n) ts ≡ rules.part (suc m) ts
      at None e = both_alone (suc n) (suc m) ts few room e
      at (Some opening_of.Prefix) e =
          let a = are.opened ts opening_of.Prefix e in
          are.prefix n ts e ∙ ap (λ f. then_read f prefix_found) (inner (after_first ts) (omega (arith, a, few)) (omega (arith, a, room))) ∙ sym (are.prefix m ts e)
      at (Some opening_of.Parenthesis) e =
          let a = are.opened ts opening_of.Parenthesis e in
          are.inside n ts e
          ∙ ap (λ f. then_read f closed) (whole_alike rules are.no_near are.no_far (rules.part n) (rules.part m) (part_shortens n) (length (after_first ts)) (λ us h. inner us (omega (arith, a, few, h)) (omega (arith, a, room, h))) (after_first ts) (omega arith))
          ∙ sym (are.inside m ts e)

  enough : (n m : ℕ) (ts : List Token) → length ts ≤ n → length ts ≤ m → rules.part n ts ≡ rules.part m ts
  enough zero m ts few room = both_alone zero m ts few room (none_opens ts few)
  enough (suc n) zero ts few room = both_alone (suc n) zero ts few room (none_opens ts room)
  enough (suc n) (suc m) ts few room = enough_inside n m ts (λ us h k. enough n m us h k) few room

  -- ## A part, by what opens it

  one_after : (ts : List Token) → length ts ≤ suc (length (after_first ts))
  one_after [] = omega arith
  one_after (t ∷ ts) = omega arith

  any_prefix : (ts : List Token) → opens ts ≡ Some opening_of.Prefix → any_part rules ts ≡ then_read (any_part rules (after_first ts)) prefix_found
  unfolding any_part
  any_prefix ts h = enough (length ts) (suc (length (after_first ts))) ts (omega arith) (one_after ts) ∙ are.prefix (length (after_first ts)) ts h

  any_inside : (ts : List Token) → opens ts ≡ Some opening_of.Parenthesis → any_part rules ts ≡ then_read (whole rules (any_part rules) (after_first ts)) closed
  unfolding any_part
  any_inside ts h =
      let n = length (after_first ts) in
      enough (length ts) (suc n) ts (omega arith) (one_after ts)
      ∙ are.inside n ts h
      ∙ ap (λ f. then_read f closed) (whole_alike rules are.no_near are.no_far (rules.part n) (any_part rules) (part_shortens n) n (λ us few. enough n (length us) us few (omega arith)) (after_first ts) (omega arith))

  any_alone : (ts : List Token) → opens ts ≡ None → any_part rules ts ≡ alone ts
  unfolding any_part
  any_alone ts h = are.alone_is (length ts) ts (omega arith) h

  -- ## What follows a part

  -- after a near operator a part is wanted
  near_step : (far : X → X) (x : X) (ts : List Token) (o : O) → rules.near (first_token ts) ≡ Some o → rest_after rules (any_part rules) far x ts ≡ then_read (any_part rules (after_first ts)) (λ y. rest_after rules (any_part rules) far (rules.near_join o x y.0) y.1)
  unfolding rest_after
  near_step far x [] o h = let e : None ≡ Some o = sym are.no_near ∙ h in cc
  near_step far x (t ∷ ts) o h =
      ap (λ c. then_read c (λ g. chain rules.far rules.far_join (group rules (any_part rules)) (length g.1) (far g.0) g.1))
      (chain_step rules.near rules.near_join (any_part rules) (length ts) x t ts o h
      ∙ then_same (any_part rules ts) _ _ (λ y found. let a = any_shortens ts y.0 y.1 found in chain_alike rules.near rules.near_join are.no_near (any_part rules) (any_part rules) (length ts) (λ us few. refl) any_shortens (length ts) (length y.1) (rules.near_join o x y.0) y.1 a (omega arith) a))
      ∙ then_then (any_part rules ts) _ _

  -- after a far one a group is wanted
  far_step : (far : X → X) (x : X) (ts : List Token) (o : P) → rules.near (first_token ts) ≡ None → rules.far (first_token ts) ≡ Some o → rest_after rules (any_part rules) far x ts ≡ then_read (any_part rules (after_first ts)) (λ y. rest_after rules (any_part rules) (rules.far_join o (far x)) y.0 y.1)
  unfolding rest_after group
  far_step far x [] o none h = let e : None ≡ Some o = sym are.no_far ∙ h in cc
  far_step far x (t ∷ ts) o none h =
      let shortens = group_shortens rules are.no_near are.no_far (any_part rules) (any_part rules) any_shortens in
      ap (λ c. then_read c (λ g. chain rules.far rules.far_join (group rules (any_part rules)) (length g.1) (far g.0) g.1)) (chain_ends rules.near rules.near_join (any_part rules) (length (t ∷ ts)) x (t ∷ ts) none)
      ∙ chain_step rules.far rules.far_join (group rules (any_part rules)) (length ts) (far x) t ts o h
      ∙ then_same (group rules (any_part rules) ts) _ _ (λ g found. let a = shortens ts g.0 g.1 found in chain_alike rules.far rules.far_join are.no_far (group rules (any_part rules)) (group rules (any_part rules)) (length ts) (λ us few. refl) shortens (length ts) (length g.1) (rules.far_join o (far x) g.0) g.1 a (omega arith) a)
      ∙ then_then (any_part rules ts) _ _

  -- after neither the level ends
  end_step : (far : X → X) (x : X) (ts : List Token) → rules.near (first_token ts) ≡ None → rules.far (first_token ts) ≡ None → rest_after rules (any_part rules) far x ts ≡ Some (far x, ts)
  unfolding rest_after
  end_step far x ts no_near no_far =
      ap (λ c. then_read c (λ g. chain rules.far rules.far_join (group rules (any_part rules)) (length g.1) (far g.0) g.1)) (chain_ends rules.near rules.near_join (any_part rules) (length ts) x ts no_near)
      ∙ chain_ends rules.far rules.far_join (group rules (any_part rules)) (length ts) (far x) ts no_far

  -- ## Steps, to levels and tokens that are equal to those that are meant

  moved : (next : Next X) (w v : Waits X) (outer left : List (Waits X)) (ts rest : List Token) → v ≡ w → left ≡ outer → rest ≡ ts → comes rules w outer next ts ≡ comes rules v left next rest
  moved next w v outer left ts rest v_is left_is rest_is =
      ap (λ ts. comes rules w outer next ts) (sym rest_is) ∙ ap (λ w. comes rules w outer next rest) (sym v_is) ∙ ap (λ outer. comes rules v outer next rest) (sym left_is)

  -- ## A part is wanted

  prefixed_more : (k : ℕ) (x : X) → prefixed rules.prefix k (rules.prefix x) ≡ prefixed rules.prefix (k + 1) x
  unfolding prefixed
  prefixed_more k x = rw add-one refl

  abbrev one_more : Waits X → Waits X
  one_more w = record { prefixes = w.prefixes + 1; near = w.near; far = w.far }

  pub prefix_goes : (w : Waits X) (outer : List (Waits X)) (v : Waits X) (left : List (Waits X)) (ts rest : List Token) → opens ts ≡ Some opening_of.Prefix → rest ≡ after_first ts → v ≡ one_more w → left ≡ outer → GoesOn rules w outer Wanted ts v left Wanted rest
  unfolding comes after_part
  prefix_goes w outer v left ts rest h rest_is v_is left_is =
      let shorter = are.opened ts opening_of.Prefix h in
      let tokens : length rest ≡ length (after_first ts) = ap length rest_is in
      let more : v.prefixes ≡ w.prefixes + 1 = ap (λ (w : Waits X). w.prefixes) v_is in
      let others : all_prefixes left ≡ all_prefixes outer = ap all_prefixes left_is in
      record {
        same = ap (λ f. then_read f (λ x. after_part rules w outer x.0 x.1)) (any_prefix ts h)
            ∙ then_then (any_part rules (after_first ts)) prefix_found _
            ∙ then_same (any_part rules (after_first ts)) _ _ (λ x _. ap (λ y. then_read (rest_after rules (any_part rules) w.far (w.near y) x.1) (λ e. leave rules outer e.0 e.1)) (prefixed_more w.prefixes x.0))
            ∙ moved Wanted (one_more w) v outer left (after_first ts) rest v_is left_is rest_is;
        less = omega (arith, shorter, tokens);
        few = omega (arith, shorter, tokens, more, others);
      }

  pub open_goes : (w : Waits X) (outer : List (Waits X)) (v : Waits X) (left : List (Waits X)) (ts rest : List Token) → opens ts ≡ Some opening_of.Parenthesis → rest ≡ after_first ts → v ≡ fresh → left ≡ w ∷ outer → GoesOn rules w outer Wanted ts v left Wanted rest
  unfolding comes after_part whole prefixed
  open_goes w outer v left ts rest h rest_is v_is left_is =
      let shorter = are.opened ts opening_of.Parenthesis h in
      let tokens : length rest ≡ length (after_first ts) = ap length rest_is in
      let none : v.prefixes ≡ 0 = ap (λ (w : Waits X). w.prefixes) v_is in
      let others : all_prefixes left ≡ w.prefixes + all_prefixes outer = ap all_prefixes left_is in
      let part : Parser X = any_part rules in
      record {
        same = ap (λ f. then_read f (λ x. after_part rules w outer x.0 x.1)) (any_inside ts h)
            ∙ ap (λ f. then_read f (λ x. after_part rules w outer x.0 x.1)) (then_then (part (after_first ts)) (λ x. rest_after rules part (λ x. x) x.0 x.1) closed)
            ∙ then_then (part (after_first ts)) (λ x. then_read (rest_after rules part (λ x. x) x.0 x.1) closed) _
            ∙ then_same (part (after_first ts)) _ _ (λ x _. then_then (rest_after rules part (λ x. x) x.0 x.1) closed _)
            ∙ moved Wanted fresh v (w ∷ outer) left (after_first ts) rest v_is left_is rest_is;
        less = omega (arith, shorter, tokens);
        few = omega (arith, shorter, tokens, none, others);
      }

  pub alone_goes : (w : Waits X) (outer : List (Waits X)) (ts : List Token) (x : X) (rest : List Token) → opens ts ≡ None → alone ts ≡ Some (x, rest) → GoesOn rules w outer Wanted ts w outer (Was x) rest
  unfolding comes
  alone_goes w outer ts x rest h found =
      let whole_part = are.alone_is (length ts) ts (omega arith) h ∙ found in
      let shorter = are.shorter (length ts) ts x rest whole_part in
      record {
        same = ap (λ f. then_read f (λ x. after_part rules w outer x.0 x.1)) (any_alone ts h ∙ found);
        less = omega (arith, shorter);
        few = omega (arith, shorter);
      }

  pub alone_stops : (w : Waits X) (outer : List (Waits X)) (ts : List Token) → opens ts ≡ None → alone ts ≡ None → Stops rules w outer Wanted ts
  unfolding comes
  alone_stops w outer ts h found = ap (λ f. then_read f (λ x. after_part rules w outer x.0 x.1)) (any_alone ts h ∙ found)

  -- ## A part was read

  module _ (w : Waits X) (outer : List (Waits X)) (x : X) (ts : List Token) (near : X) (near_is : near ≡ near_of rules w x) where
    abbrev near_waits : O → Waits X
    near_waits o = record { prefixes = 0; near = rules.near_join o near; far = w.far }

    -- the part and what waits for it are this
    level_is : after_part rules w outer x ts ≡ then_read (rest_after rules (any_part rules) w.far near ts) (λ e. leave rules outer e.0 e.1)
    unfolding after_part
    level_is = ap (λ near. then_read (rest_after rules (any_part rules) w.far near ts) (λ e. leave rules outer e.0 e.1)) (sym near_is)

    -- after an operator, the level waits for its right side
    module _ (waits v : Waits X) (left : List (Waits X)) (rest : List Token) (shorter : length (after_first ts) < length ts) (none : waits.prefixes ≡ 0) (rest_is : rest ≡ after_first ts) (v_is : v ≡ waits) (left_is : left ≡ outer) where
      operator_goes : after_part rules w outer x ts ≡ comes rules waits outer Wanted (after_first ts) → GoesOn rules w outer (Was x) ts v left Wanted rest
      unfolding comes
      operator_goes same =
          let tokens : length rest ≡ length (after_first ts) = ap length rest_is in
          let prefixes : v.prefixes ≡ 0 = ap (λ (w : Waits X). w.prefixes) v_is ∙ none in
          let others : all_prefixes left ≡ all_prefixes outer = ap all_prefixes left_is in
          record {
            same = same ∙ moved Wanted waits v outer left (after_first ts) rest v_is left_is rest_is;
            less = omega (arith, shorter, tokens);
            few = omega (arith, shorter, tokens, prefixes, others);
          }

    pub near_goes : (v : Waits X) (left : List (Waits X)) (rest : List Token) (o : O) → rules.near (first_token ts) ≡ Some o → rest ≡ after_first ts → v ≡ near_waits o → left ≡ outer → GoesOn rules w outer (Was x) ts v left Wanted rest
    unfolding comes after_part prefixed
    near_goes v left rest o h rest_is v_is left_is =
        operator_goes (near_waits o) v left rest (some_shorter rules.near ts o are.no_near h) refl rest_is v_is left_is
        (level_is ∙ ap (λ f. then_read f (λ e. leave rules outer e.0 e.1)) (near_step w.far near ts o h) ∙ then_then (any_part rules (after_first ts)) _ _)

    module _ (far : X) (far_is : far ≡ w.far near) (no_near : rules.near (first_token ts) ≡ None) where
      abbrev far_waits : P → Waits X
      far_waits o = record { prefixes = 0; near = λ x. x; far = rules.far_join o far }

      pub far_goes : (v : Waits X) (left : List (Waits X)) (rest : List Token) (o : P) → rules.far (first_token ts) ≡ Some o → rest ≡ after_first ts → v ≡ far_waits o → left ≡ outer → GoesOn rules w outer (Was x) ts v left Wanted rest
      unfolding comes after_part prefixed
      far_goes v left rest o h rest_is v_is left_is =
          operator_goes (far_waits o) v left rest (some_shorter rules.far ts o are.no_far h) refl rest_is v_is left_is
          (level_is
          ∙ ap (λ f. then_read f (λ e. leave rules outer e.0 e.1)) (far_step w.far near ts o no_near h)
          ∙ ap (λ far. then_read (then_read (any_part rules (after_first ts)) (λ y. rest_after rules (any_part rules) (rules.far_join o far) y.0 y.1)) (λ e. leave rules outer e.0 e.1)) (sym far_is)
          ∙ then_then (any_part rules (after_first ts)) _ _)

      module _ (no_far : rules.far (first_token ts) ≡ None) where
        level_ends : after_part rules w outer x ts ≡ leave rules outer far ts
        level_ends =
            level_is
            ∙ ap (λ f. then_read f (λ e. leave rules outer e.0 e.1)) (end_step w.far near ts no_near no_far)
            ∙ ap (λ far. leave rules outer far ts) (sym far_is)

        abbrev closed_if : Bool → Found X
        closed_if closes = cond closes (Some (far, after_first ts)) None

        -- after a `)` the level outside goes on
        pub close_goes : (v : Waits X) (left : List (Waits X)) (rest : List Token) → is_close (first_token ts) ≡ true → rest ≡ after_first ts → outer ≡ v ∷ left → GoesOn rules w outer (Was x) ts v left (Was far) rest
        unfolding comes after_part
        close_goes v left rest h rest_is outer_is =
            let shorter = close_shorter ts h in
            let tokens : length rest ≡ length (after_first ts) = ap length rest_is in
            let others : all_prefixes outer ≡ v.prefixes + all_prefixes left = ap all_prefixes outer_is in
            record {
              same = level_ends
                  ∙ ap (λ outer. leave rules outer far ts) outer_is
                  ∙ ap (λ b. then_read (closed_if b) (λ c. after_part rules v left c.0 c.1)) h
                  ∙ ap (λ ts. after_part rules v left far ts) (sym rest_is);
              less = omega (arith, shorter, tokens);
              few = omega (arith, shorter, tokens, others);
            }

        pub close_stops : (v : Waits X) (left : List (Waits X)) → is_close (first_token ts) ≡ false → outer ≡ v ∷ left → Stops rules w outer (Was x) ts
        unfolding comes after_part
        close_stops v left h outer_is =
            level_ends
            ∙ ap (λ outer. leave rules outer far ts) outer_is
            ∙ ap (λ b. then_read (closed_if b) (λ c. after_part rules v left c.0 c.1)) h

        -- outside of all levels it is whole
        pub done_goes : (v : Waits X) (left : List (Waits X)) → outer ≡ [] → left ≡ [] → v.prefixes ≡ 0 → GoesOn rules w outer (Was x) ts v left (Done far) ts
        unfolding comes
        done_goes v left none still none_yet =
            let before : all_prefixes outer ≡ 0 = ap all_prefixes none in
            let after : all_prefixes left ≡ 0 = ap all_prefixes still in
            record {
              same = level_ends ∙ ap (λ outer. leave rules outer far ts) none;
              less = omega arith;
              few = omega (arith, before, after, none_yet);
            }

  -- ## The whole

  then_some : (o : Found X) → then_read o (λ e. Some (e.0, e.1)) ≡ o
  then_some None = refl
  then_some (Some x) = refl

  pub begins : (w : Waits X) (outer : List (Waits X)) (ts : List Token) → w ≡ fresh → outer ≡ [] → whole rules (rules.part (length ts)) ts ≡ comes rules w outer Wanted ts
  unfolding comes after_part whole prefixed any_part
  begins w outer ts w_is outer_is =
      let n = length ts in
      whole_alike rules are.no_near are.no_far (rules.part n) (any_part rules) (part_shortens n) n (λ us few. enough n (length us) us few (omega arith)) ts (omega arith)
      ∙ then_same (any_part rules ts) _ _ (λ x _. sym (then_some (rest_after rules (any_part rules) (λ x. x) x.0 x.1)))
      ∙ moved Wanted fresh w [] outer ts ts w_is outer_is refl

pub ends : {X O P : Type 0} (rules : Rules X O P) (w : Waits X) (outer : List (Waits X)) (x : X) (ts : List Token) → comes rules w outer (Done x) ts ≡ Some (x, ts)
unfolding comes
ends rules w outer x ts = refl

-- ## The levels of the code, the innermost last

module _ {L X : Type 0} (waits : L → Waits X) where
  -- the innermost level outside is the last that was put there
  pub last_waits : (xs ys : List L) (l : L) → xs ≡ ys ++ l ∷ [] → map waits (reverse xs) ≡ waits l ∷ map waits (reverse ys)
  last_waits xs ys l h = ap (λ xs. map waits (reverse xs)) h ∙ ap (map waits) (reverse-append ys (l ∷ []))

  pub none_wait : (xs : List L) → length xs ≡ 0 → map waits (reverse xs) ≡ []
  none_wait [] h = refl
  none_wait (x ∷ xs) h = absurd (omega (arith, h))

-- ## Prefixes, counted

pub prefixed_step : {X : Type 0} (prefix : X → X) (end turn : ℕ) (x : X) → turn < end → prefixed prefix (end - turn) x ≡ prefixed prefix (end - (turn + 1)) (prefix x)
unfolding prefixed
prefixed_step prefix end turn x h = let e : end - turn ≡ suc (end - (turn + 1)) = omega arith in ap (λ n. prefixed prefix n x) e

pub prefixed_end : {X : Type 0} (prefix : X → X) (end turn : ℕ) (x : X) → end ≤ turn → prefixed prefix (end - turn) x ≡ x
unfolding prefixed
prefixed_end prefix end turn x h = let e : end - turn ≡ 0 = omega arith in ap (λ n. prefixed prefix n x) e
