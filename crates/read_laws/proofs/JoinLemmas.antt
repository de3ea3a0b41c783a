-- The steps by which sources are joined.
use Rattle.std.proofs.Common.{◌≡◌, ℕ, zero, suc, ◌+◌, ◌-◌, ◌<◌, ◌≤◌, arith, List, Option, Some, None, refl, ap, sym, ◌∙◌, ◌⊎◌, inl, inr}
use Rattle.read_laws.specs.Bounded.{Builder}
use Rattle.read_laws.specs.Chain.{Found, first_token, after_first, given}
use Rattle.text_bytes.specs.Found.{then_read}
use Rattle.sql_tree.specs.Tree.{CondTree}
use Rattle.sql_tree.specs.declared.token.Token.{Token}
use Rattle.sql_tree.specs.declared.tree.FromItem.{FromItem}
use Rattle.read_laws.specs.StmtReader.{Sources, with_source, joint_in, joined, joins}
use Rattle.read_laws.specs.declared.joint.Joint.{Joint}
use Rattle.text_bytes.proofs.FoundLemmas.{then_found, pair_found}

pub same_pair : {X Y : Type 0} (a b : X) (c d : Y) → a ≡ b → c ≡ d → ◌≡◌ {A = X × Y} (a, c) (b, d)
same_pair {X} {Y} a b c d e f = ap (λ (x : X). let p : X × Y = (x, c) in p) e ∙ ap (λ (y : Y). let p : X × Y = (b, y) in p) f

module _ (build : Builder) where
  -- a step of the joins
  abbrev stepped : ℕ → Sources → List Token → Option Joint → Found Sources
  stepped n so_far ts o = given o (Some (so_far, ts)) (λ j. then_read (joined build j (after_first ts)) (λ next. joins build n (with_source build so_far next.0) next.1))

  -- where nothing joins, the joins end
  pub joins_end : (n : ℕ) (so_far : Sources) (ts : List Token) → joint_in (first_token ts) ≡ None → joins build n so_far ts ≡ Some (so_far, ts)
  unfolding joins
  joins_end zero so_far ts h = refl
  joins_end (suc n) so_far ts h = ap (stepped n so_far ts) h

  pub joins_go_on : (n : ℕ) (so_far : Sources) (ts : List Token) (j : Joint) (next : FromItem × Option CondTree) (rest : List Token) → joint_in (first_token ts) ≡ Some j → joined build j (after_first ts) ≡ Some (next, rest) → joins build (suc n) so_far ts ≡ joins build n (with_source build so_far next) rest
  unfolding joins
  joins_go_on n so_far ts j next rest h found = ap (stepped n so_far ts) h ∙ ap (λ r. then_read r (λ next. joins build n (with_source build so_far next.0) next.1)) found

  pub joins_break : (n : ℕ) (so_far : Sources) (ts : List Token) (j : Joint) → joint_in (first_token ts) ≡ Some j → joined build j (after_first ts) ≡ None → joins build (suc n) so_far ts ≡ None
  unfolding joins
  joins_break n so_far ts j h found = ap (stepped n so_far ts) h ∙ ap (λ r. then_read r (λ next. joins build n (with_source build so_far next.0) next.1)) found

  -- a pass of a loop over the joins
  pub turn_goes_on : (end turn : ℕ) (so_far : Sources) (ts : List Token) (j : Joint) (next : FromItem × Option CondTree) (rest : List Token) (new : Sources) → turn < end → joint_in (first_token ts) ≡ Some j → joined build j (after_first ts) ≡ Some (next, rest) → new ≡ with_source build so_far next → joins build (end - turn) so_far ts ≡ joins build (end - (turn + 1)) new rest
  turn_goes_on end turn so_far ts j next rest new h joint found is =
      let e : end - turn ≡ suc (end - (turn + 1)) = omega arith in
      ap (λ n. joins build n so_far ts) e ∙ joins_go_on (end - (turn + 1)) so_far ts j next rest joint found ∙ ap (λ s. joins build (end - (turn + 1)) s rest) (sym is)

  pub turn_breaks : (end turn : ℕ) (so_far : Sources) (ts : List Token) (j : Joint) → turn < end → joint_in (first_token ts) ≡ Some j → joined build j (after_first ts) ≡ None → joins build (end - turn) so_far ts ≡ None
  turn_breaks end turn so_far ts j h joint found =
      let e : end - turn ≡ suc (end - (turn + 1)) = omega arith in
      ap (λ n. joins build n so_far ts) e ∙ joins_break (end - (turn + 1)) so_far ts j joint found

  pub last_turn : (end turn : ℕ) (so_far : Sources) (ts : List Token) → end ≤ turn → joins build (end - turn) so_far ts ≡ Some (so_far, ts)
  unfolding joins
  last_turn end turn so_far ts h = let e : end - turn ≡ 0 = omega arith in ap (λ n. joins build n so_far ts) e

  -- a step of joins that are found
  pub record JoinStep (n : ℕ) (so_far : Sources) (ts : List Token) (x : Sources) (rest : List Token) : Type 0 where
    pub joint : Joint
    pub next : FromItem × Option CondTree
    pub behind : List Token
    pub joint_is : joint_in (first_token ts) ≡ Some joint
    pub next_is : joined build joint (after_first ts) ≡ Some (next, behind)
    pub more : joins build n (with_source build so_far next) behind ≡ Some (x, rest)

  -- joins that are found are at their end, or took a step
  pub joins_found : (n : ℕ) (so_far : Sources) (ts : List Token) (x : Sources) (rest : List Token) → joins build (suc n) so_far ts ≡ Some (x, rest) → ((so_far ≡ x) × (ts ≡ rest)) ⊎ JoinStep n so_far ts x rest
  unfolding joins
  joins_found n so_far ts x rest h = at (joint_in (first_token ts)) refl h
    where
      at : (o : Option Joint) → joint_in (first_token ts) ≡ o → stepped n so_far ts o ≡ Some (x, rest) → ((so_far ≡ x) × (ts ≡ rest)) ⊎ JoinStep n so_far ts x rest
      at None e h = inl (pair_found so_far x ts rest h)
      at (Some j) e h =
          let f = then_found _ _ _ h in
          inr (record { joint = j; next = f.0.0; behind = f.0.1; joint_is = e; next_is = f.1; more = f.2 })

  pub no_joins_found : (so_far : Sources) (ts : List Token) (x : Sources) (rest : List Token) → joins build zero so_far ts ≡ Some (x, rest) → (so_far ≡ x) × (ts ≡ rest)
  unfolding joins
  no_joins_found so_far ts x rest h = pair_found so_far x ts rest h
