-- What a text reads as, by the steps that are taken, and that it reads as one thing.
use Rattle.std.proofs.Common.{◌≡◌, ℕ, List, [], Bool, true, false, Option, Some, None, Result, Ok, Err, refl, ap, sym, ◌∙◌, subst, arith, nat_lt}
use Rattle.std.specs.Prelude.{codes}
use Rattle.std.specs.Option.{option_map}
use Rattle.sql_grammar.specs.Reads.{Reading, ArePlain, statement_bytes, tokens_in, reading_of, TokensRead, IsReadAs}
use Rattle.sql_grammar.specs.Reads.Reading.{ReadsAs, NoSyntax, LeavesOut, PassesLimit}
use Rattle.sql_grammar.specs.Reads.TokensRead.{RuleApplies, TooDeep, Underived, Derived}
use Rattle.sql_grammar.specs.Reads.IsReadAs.{Untold, Told}
use Rattle.sql_grammar.specs.Refused.{IsFirstRule, rule_at, is_too_deep, left_out, passed_limits, first_passed}
use Rattle.sql_grammar.specs.Statements.{Derives}
use Rattle.read_laws.proofs.BoundedStmts.{left_out_kept, limits_kept}
use Rattle.read_laws.proofs.Lists.{is_past, is_at_most}
use Rattle.read_laws.proofs.WholeStmts.{none_passed}
use Rattle.read_laws.specs.Answered.{answered, Reads, EachReadsAsOne}
use Rattle.read_laws.specs.AnsweredTokens.{AreAnswered}
use Rattle.read_laws.specs.LimitLaws.{LimitsAsRead}
use Rattle.read_laws.specs.Unread.{read_limits}
use Rattle.sql_definitions.specs.declared.refusal.Refusal.{Refusal}
use Rattle.sql_definitions.specs.declared.refusal.Refusal.TheVariants.{Syntax, Unsupported, Limit}
use Rattle.read_laws.specs.DerivedStmts.{IsReadStmt, EachIsOneStmt}
use Rattle.read_laws.specs.TokenLaws.{HasNoTokens, OneList}
use Rattle.sql_tree.specs.Tokens.{AreTokens}
use Rattle.sql_tree.specs.Tree.{StmtTree}
use Rattle.sql_tree.specs.declared.token.Placed.{Placed}
use Rattle.sql_tree.specs.declared.token.Token.{Token}

-- ## Answers to tokens

pub by_rule : (all : List Placed) (name : List ℕ) → IsFirstRule (tokens_in all) (Some name) → AreAnswered all (Err (Unsupported name))
by_rule all name first = record { reading = LeavesOut name; are_read = RuleApplies name first refl; answer_is = refl }

pub by_levels : (all : List Placed) → IsFirstRule (tokens_in all) None → is_too_deep [] 0 (tokens_in all) ≡ true → AreAnswered all (Err (Limit (codes "nesting")))
by_levels all none deep = record { reading = PassesLimit (codes "nesting"); are_read = TooDeep none deep refl; answer_is = refl }

pub by_syntax : (all : List Placed) → ArePlain (tokens_in all) → ((s : StmtTree) → Derives (tokens_in all) s → ⊥) → AreAnswered all (Err Syntax)
by_syntax all plain none = record { reading = NoSyntax; are_read = Underived plain none refl; answer_is = refl }

-- a statement that is derived, by what the later steps answer
by_reading : (all : List Placed) → ArePlain (tokens_in all) → (s : StmtTree) → Derives (tokens_in all) s → (reading : Reading) → reading_of all s ≡ reading → AreAnswered all (answered reading)
by_reading all plain s derived reading is = record { reading = reading; are_read = Derived plain s derived is; answer_is = refl }

-- the reading of a statement follows from what is left out of it and from the first limit that it passes
left_out_reading : (all : List Placed) (s : StmtTree) (name : List ℕ) → left_out s ≡ Some name → reading_of all s ≡ LeavesOut name
left_out_reading all s name e = rw e refl

limit_reading : (all : List Placed) (s : StmtTree) (which : List ℕ) → left_out s ≡ None → first_passed (passed_limits (statement_bytes all) (tokens_in all) s) ≡ Some which → reading_of all s ≡ PassesLimit which
limit_reading all s which e f = rw (e, f) refl

whole_reading : (all : List Placed) (s : StmtTree) → left_out s ≡ None → first_passed (passed_limits (statement_bytes all) (tokens_in all) s) ≡ None → reading_of all s ≡ ReadsAs s
whole_reading all s e f = rw (e, f) refl

-- ## Answers to what is read

-- the name in a refusal
mapped : (f : List ℕ → Refusal) (o : Option (List ℕ)) (r : Refusal) → option_map f o ≡ Some r → (name : List ℕ) × (o ≡ Some name) × (f name ≡ r)
mapped f None r e = cc
mapped f (Some name) r e = (name, refl, cc)

pub by_left_out : (all : List Placed) → ArePlain (tokens_in all) → (t : StmtTree) → IsReadStmt (tokens_in all) t → (r : Refusal) → option_map Unsupported (left_out t) ≡ Some r → AreAnswered all (Err r)
by_left_out all plain t read r e =
    let s = read.statement in
    let found = mapped Unsupported (left_out t) r e in
    let kept : left_out t ≡ left_out s = sym (ap left_out read.tree_is) ∙ left_out_kept s in
    subst (λ (r : Refusal). AreAnswered all (Err r)) found.2 (by_reading all plain s read.derived (LeavesOut found.0) (left_out_reading all s found.0 (sym kept ∙ found.1)))

module _ (as_read : LimitsAsRead) (all : List Placed) (plain : ArePlain (tokens_in all)) (t : StmtTree) (read : IsReadStmt (tokens_in all) t) (nothing_left : left_out t ≡ None) where
  kept_left : left_out read.statement ≡ None
  kept_left = sym (left_out_kept read.statement) ∙ ap left_out read.tree_is ∙ nothing_left

  kept_limits : first_passed (passed_limits (statement_bytes all) (tokens_in all) read.statement) ≡ first_passed (read_limits (statement_bytes all) (tokens_in all) t)
  kept_limits =
      sym (limits_kept as_read (statement_bytes all) (tokens_in all) read.statement read.derived)
      ∙ ap (λ (t : StmtTree). first_passed (read_limits (statement_bytes all) (tokens_in all) t)) read.tree_is

  pub by_limit : (r : Refusal) → option_map Limit (first_passed (read_limits (statement_bytes all) (tokens_in all) t)) ≡ Some r → AreAnswered all (Err r)
  by_limit r e =
      let found = mapped Limit (first_passed (read_limits (statement_bytes all) (tokens_in all) t)) r e in
      subst (λ (r : Refusal). AreAnswered all (Err r)) found.2
      (by_reading all plain read.statement read.derived (PassesLimit found.0) (limit_reading all read.statement found.0 kept_left (kept_limits ∙ found.1)))

  pub by_statement : first_passed (read_limits (statement_bytes all) (tokens_in all) t) ≡ None → AreAnswered all (Ok t)
  by_statement none =
      let whole : read.statement ≡ t = sym (none_passed (statement_bytes all) (tokens_in all) read.statement (kept_limits ∙ none)) ∙ read.tree_is in
      subst (λ (t : StmtTree). AreAnswered all (Ok t)) whole
      (by_reading all plain read.statement read.derived (ReadsAs read.statement) (whole_reading all read.statement kept_left (kept_limits ∙ none)))

-- ## Answers to texts

pub by_tokens : (text : List ℕ) (all : List Placed) → AreTokens text all → (answer : Result StmtTree Refusal) → AreAnswered all answer → Reads text answer
by_tokens text all are answer told = record { reading = told.reading; is_read = Told all are told.are_read; answer_is = told.answer_is }

pub by_no_tokens : (text : List ℕ) → HasNoTokens text → Reads text (Err Syntax)
by_no_tokens text none = record { reading = NoSyntax; is_read = Untold none refl; answer_is = refl }

-- ## One reading

first_rules : (tokens : List Token) (a b : Option (List ℕ)) → IsFirstRule tokens a → IsFirstRule tokens b → a ≡ b
first_rules tokens None None e f = refl
first_rules tokens None (Some name) e f = let none = e f.0 in let some = f.1 in cc
first_rules tokens (Some name) None e f = let none = f e.0 in let some = e.1 in cc
first_rules tokens (Some a) (Some b) e f = go (nat_lt e.0 f.0) refl (nat_lt f.0 e.0) refl
  where
    go : (p : Bool) → nat_lt e.0 f.0 ≡ p → (q : Bool) → nat_lt f.0 e.0 ≡ q → Some a ≡ Some b
    go true h q k = let none = f.2 e.0 (is_past _ _ h) in let some = e.1 in cc
    go false h true k = let none = e.2 f.0 (is_past _ _ k) in let some = f.1 in cc
    go false h false k = let same : e.0 ≡ f.0 = let low = is_at_most _ _ h in let high = is_at_most _ _ k in omega arith in sym e.1 ∙ ap (rule_at tokens) same ∙ f.1

module _ (one_stmt : EachIsOneStmt) (all : List Placed) where
  -- no rule applies and one does
  no_rule : (name : List ℕ) {X : Type 0} → IsFirstRule (tokens_in all) (Some name) → IsFirstRule (tokens_in all) None → X
  no_rule name e f = let same = first_rules (tokens_in all) (Some name) None e f in cc

  -- the levels are past the limit and within it
  no_levels : {X : Type 0} → is_too_deep [] 0 (tokens_in all) ≡ true → is_too_deep [] 0 (tokens_in all) ≡ false → X
  no_levels e f = cc

  one_of_tokens : (a b : Reading) → TokensRead all a → TokensRead all b → a ≡ b
  one_of_tokens a b (RuleApplies n e p) (RuleApplies m f q) = let same = first_rules (tokens_in all) (Some n) (Some m) e f in let names : n ≡ m = cc in sym p ∙ ap LeavesOut names ∙ q
  one_of_tokens a b (RuleApplies n e p) (TooDeep f deep q) = no_rule n e f
  one_of_tokens a b (RuleApplies n e p) (Underived plain none q) = no_rule n e plain.no_rule
  one_of_tokens a b (RuleApplies n e p) (Derived plain s derived q) = no_rule n e plain.no_rule
  one_of_tokens a b (TooDeep e deep p) (RuleApplies m f q) = no_rule m f e
  one_of_tokens a b (TooDeep e deep p) (TooDeep f deeper q) = sym p ∙ q
  one_of_tokens a b (TooDeep e deep p) (Underived plain none q) = no_levels deep plain.shallow
  one_of_tokens a b (TooDeep e deep p) (Derived plain s derived q) = no_levels deep plain.shallow
  one_of_tokens a b (Underived plain none p) (RuleApplies m f q) = no_rule m f plain.no_rule
  one_of_tokens a b (Underived plain none p) (TooDeep f deep q) = no_levels deep plain.shallow
  one_of_tokens a b (Underived plain none p) (Underived plainly none_either q) = sym p ∙ q
  one_of_tokens a b (Underived plain none p) (Derived plainly s derived q) = absurd (none s derived)
  one_of_tokens a b (Derived plain s derived p) (RuleApplies m f q) = no_rule m f plain.no_rule
  one_of_tokens a b (Derived plain s derived p) (TooDeep f deep q) = no_levels deep plain.shallow
  one_of_tokens a b (Derived plain s derived p) (Underived plainly none q) = absurd (none s derived)
  one_of_tokens a b (Derived plain s derived p) (Derived plainly t known q) = sym p ∙ ap (reading_of all) (one_stmt (tokens_in all) s t derived known) ∙ q

one_of_text : OneList → EachIsOneStmt → (text : List ℕ) (a b : Reading) → IsReadAs text a → IsReadAs text b → a ≡ b
one_of_text one_list one_stmt text a b (Untold none p) (Untold none_either q) = sym p ∙ q
one_of_text one_list one_stmt text a b (Untold none p) (Told all are read) = absurd (none all are)
one_of_text one_list one_stmt text a b (Told all are read) (Untold none q) = absurd (none all are)
one_of_text one_list one_stmt text a b (Told all are read) (Told each known told) =
    one_of_tokens one_stmt all a b read (subst (λ (them : List Placed). TokensRead them b) (one_list text each all known are) told)

pub each_reads_as_one : OneList → EachIsOneStmt → EachReadsAsOne
each_reads_as_one one_list one_stmt = λ text a b reads known.
    sym reads.answer_is ∙ ap answered (one_of_text one_list one_stmt text reads.reading known.reading reads.is_read known.is_read) ∙ known.answer_is
