-- What is printed of a statement that was read passes no limit, and reads as that statement again.
use Rattle.std.proofs.Common.{◌≡◌, ℕ, ◌≤◌, List, [], ◌∷◌, length, drop, Bool, true, false, ◌||◌, nat_lt, Option, Some, None, codes, refl, sym, subst, arith}
use Rattle.std.specs.List.{AllByRecursion, list_any}
use Rattle.std.proofs.lemmas.Bool.Decides.{nat_tests}
use Rattle.cell_core.specs.declared.table.Column.{Column}
use Rattle.sql_grammar.specs.Reads.{tokens_in, last_end, statement_bytes, ArePlain, reading_of, TokensRead, IsReadAs}
use Rattle.sql_grammar.specs.Reads.Reading.{ReadsAs}
use Rattle.sql_grammar.specs.Reads.TokensRead.{RuleApplies, TooDeep, Underived, Derived}
use Rattle.sql_grammar.specs.Reads.IsReadAs.{Untold, Told}
use Rattle.sql_grammar.specs.Refused.{is_long_name, expr_nodes, left_out, stmt_exprs, passes_literal, columns_pass, query_passes, passes_conditions, passed_limits, first_passed}
use Rattle.sql_grammar.specs.Statements.{write_stmt, Derives}
use Rattle.sql_print_laws.proofs.DerivedLemmas.{printed_derives_of}
use Rattle.sql_print_laws.proofs.LevelStatements.{not_too_deep_of}
use Rattle.sql_print_laws.proofs.NamedLemmas.{none_of}
use Rattle.sql_print_laws.proofs.RuleStatements.{no_rule_of}
use Rattle.sql_print_laws.proofs.ShortPrinted.{short_printed}
use Rattle.sql_print_laws.proofs.ShortTold.{ShortTokens, ShortStmt, short_told}
use Rattle.sql_print_laws.proofs.StmtPrinted.{printed_tokens_of}
use Rattle.sql_print_laws.proofs.StmtTold.{read_is_printable_of}
use Rattle.sql_print_laws.specs.CanonRules.{canon_stmt}
use Rattle.sql_print_laws.specs.Printable.{IsPrintable}
use Rattle.sql_print_laws.specs.PrintedReads.{PrintedReads}
use Rattle.sql_print.specs.Canon.{canonical}
use Rattle.sql_tree.specs.Tokens.{Part, write_part, written, token_of, with_token, tokens_of, AreTokens}
use Rattle.sql_tree.specs.Tree.{QueryTree, StmtTree}
use Rattle.sql_tree.specs.declared.token.Placed.{Placed}
use Rattle.sql_tree.specs.declared.token.Token.{Token}

-- ## The bytes from the first token to the last

abbrev EndsWithin : ℕ → List Placed → Type 0
EndsWithin n all = AllByRecursion (λ (placed : Placed). placed.end ≤ n) all

ends_within : (n : ℕ) (parts : List Part) → EndsWithin n (tokens_of n parts)
ends_within n [] = tt
ends_within n (part ∷ parts) = by_token (length (write_part part (written parts))) (length (written parts)) (token_of part) (tokens_of n parts) (ends_within n parts)
  where
    by_token : (long left : ℕ) (o : Option Token) (more : List Placed) → EndsWithin n more → EndsWithin n (with_token n long left o more)
    by_token long left None more h = h
    by_token long left (Some t) more h = (omega arith, h)

last_within : (n : ℕ) (placed : Placed) (more : List Placed) → placed.end ≤ n → EndsWithin n more → last_end placed more ≤ n
last_within n placed [] h all = h
last_within n placed (next ∷ more) h all = last_within n next more all.0 all.1

bytes_within : (n : ℕ) (all : List Placed) → EndsWithin n all → statement_bytes all ≤ n
bytes_within n [] h = omega arith
bytes_within n (placed ∷ more) h = omega (arith, last_within n placed more h.0 h.1)

text_bytes : (text : List ℕ) (all : List Placed) → AreTokens text all → statement_bytes all ≤ length text
text_bytes text all are = bytes_within (length text) all (subst (EndsWithin (length text)) are.tokens_are (ends_within (length text) are.parts))

-- ## Limits

first_not : (limit : Bool × List ℕ) (limits : List (Bool × List ℕ)) → first_passed (limit ∷ limits) ≡ None → (limit.0 ≡ false) × (first_passed limits ≡ None)
first_not (true, name) limits h = cc
first_not (false, name) limits h = (refl, h)

none_first : (test : Bool) (name : List ℕ) (limits : List (Bool × List ℕ)) → test ≡ false → first_passed limits ≡ None → first_passed ((test, name) ∷ limits) ≡ None
none_first true name limits e h = absurd (cc)
none_first false name limits e h = h

any_none : {X : Type 0} (test : X → Bool) (xs : List X) → AllByRecursion (λ x. test x ≡ false) xs → list_any test xs ≡ false
any_none test [] h = refl
any_none test (x ∷ xs) h = neither (test x) (list_any test xs) h.0 (any_none test xs h.1)
  where
    neither : (a b : Bool) → a ≡ false → b ≡ false → (a || b) ≡ false
    neither a b x y = grind (arith, nat_tests)

-- the limits that depend on the statement alone
abbrev limits_of : StmtTree → List (Bool × List ℕ)
limits_of s = drop 2 (passed_limits 0 [] s)

-- of a statement that passes no limit
record IsWithin (tokens : List Token) (s : StmtTree) : Type 0 where
  names : list_any is_long_name tokens ≡ false
  others : first_passed (limits_of s) ≡ None
  conditions : passes_conditions s ≡ false
  exprs : list_any (λ e. nat_lt 64 (expr_nodes e)) (stmt_exprs s) ≡ false

no_limit_passed : (bytes : ℕ) (tokens : List Token) (s : StmtTree) → first_passed (passed_limits bytes tokens s) ≡ None → IsWithin tokens s
no_limit_passed bytes tokens s h =
    let a = first_not (nat_lt 65536 bytes, codes "statement") (drop 1 (passed_limits bytes tokens s)) h in
    let b = first_not (list_any is_long_name tokens, codes "name") (limits_of s) a.1 in
    let c = first_not (passes_literal s, codes "literal") (drop 1 (limits_of s)) b.1 in
    let d = first_not (columns_pass (list_any (λ (column : Column). nat_lt 65535 column.width)) s, codes "length") (drop 2 (limits_of s)) c.1 in
    let e = first_not (columns_pass (λ columns. nat_lt 64 (length columns)) s, codes "columns") (drop 3 (limits_of s)) d.1 in
    let f = first_not (query_passes (λ (query : QueryTree). nat_lt 4 (length query.froms)) s, codes "tables") (drop 4 (limits_of s)) e.1 in
    let g = first_not (query_passes (λ (query : QueryTree). nat_lt 32 (length query.items)) s, codes "items") (drop 5 (limits_of s)) f.1 in
    let i = first_not (query_passes (λ (query : QueryTree). nat_lt 8 (length query.groups)) s, codes "groups") (drop 6 (limits_of s)) g.1 in
    let j = first_not (query_passes (λ (query : QueryTree). nat_lt 8 (length query.keys)) s, codes "keys") (drop 7 (limits_of s)) i.1 in
    let k = first_not (passes_conditions s, codes "conditions") (drop 8 (limits_of s)) j.1 in
    let l = first_not (list_any (λ e. nat_lt 64 (expr_nodes e)) (stmt_exprs s), codes "expression") [] k.1 in
    record { names = b.0; others = b.1; conditions = k.0; exprs = l.0 }

within_again : (bytes : ℕ) (tokens : List Token) (s : StmtTree) → bytes ≤ 65536 → list_any is_long_name tokens ≡ false → first_passed (limits_of s) ≡ None → first_passed (passed_limits bytes tokens s) ≡ None
within_again bytes tokens s few names others =
    none_first (nat_lt 65536 bytes) (codes "statement") (drop 1 (passed_limits bytes tokens s)) (not_less 65536 bytes few)
    (none_first (list_any is_long_name tokens) (codes "name") (limits_of s) names others)
  where
    not_less : (a b : ℕ) → b ≤ a → nat_lt a b ≡ false
    not_less a b h = grind (arith, nat_tests)

-- ## Readings

-- what tokens read as
record IsKept (all : List Placed) (read s : StmtTree) : Type 0 where
  kept : left_out read ≡ None
  within : first_passed (passed_limits (statement_bytes all) (tokens_in all) read) ≡ None
  same : read ≡ s

reading_kept : (all : List Placed) (read s : StmtTree) → reading_of all read ≡ ReadsAs s → IsKept all read s
reading_kept all read s h = by_left_out (left_out read) refl
  where
    limits : Option (List ℕ)
    limits = first_passed (passed_limits (statement_bytes all) (tokens_in all) read)

    by_limit : (o : Option (List ℕ)) → left_out read ≡ None → limits ≡ o → IsKept all read s
    by_limit (Some name) kept e = let no = rw (kept, e) at h in cc
    by_limit None kept e =
        let is : ReadsAs read ≡ ReadsAs s = rw (kept, e) at h in
        record { kept = kept; within = e; same = cc is }

    by_left_out : (o : Option (List ℕ)) → left_out read ≡ o → IsKept all read s
    by_left_out (Some name) e = let no = rw e at h in cc
    by_left_out None e = by_limit limits e refl

reads_again : (all : List Placed) (s : StmtTree) → left_out s ≡ None → first_passed (passed_limits (statement_bytes all) (tokens_in all) s) ≡ None → reading_of all s ≡ ReadsAs s
reads_again all s kept within = rw (kept, within) refl

-- ## What is printed

plain_printed : (tokens : List Token) (s : StmtTree) (is : IsPrintable s) → IsWithin tokens s → ArePlain (write_stmt (canon_stmt s is))
plain_printed tokens s is within = record { no_rule = no_rule_of (canon_stmt s is); shallow = not_too_deep_of s is within.conditions within.exprs }

names_short : (tokens : List Token) (s : StmtTree) (is : IsPrintable s) → Derives tokens s → list_any is_long_name tokens ≡ false → list_any is_long_name (write_stmt (canon_stmt s is)) ≡ false
names_short tokens s is derives names =
    let short : ShortTokens tokens = none_of is_long_name tokens names in
    let told : ShortStmt s = subst ShortStmt derives.statement_is (short_told derives.rule (subst ShortTokens (sym derives.tokens_are) short)) in
    any_none is_long_name (write_stmt (canon_stmt s is)) (short_printed s is told)

printed_again : (all : List Placed) (s : StmtTree) (is : IsPrintable s) → Derives (tokens_in all) s → left_out s ≡ None → first_passed (passed_limits (statement_bytes all) (tokens_in all) s) ≡ None → length (canonical s) ≤ 65536 → IsReadAs (canonical s) (ReadsAs s)
printed_again all s is derives kept none fits =
    let (printed, are, same) = printed_tokens_of s is in
    let within : IsWithin (tokens_in all) s = no_limit_passed (statement_bytes all) (tokens_in all) s none in
    let plain : ArePlain (tokens_in printed) = subst ArePlain (sym same) (plain_printed (tokens_in all) s is within) in
    let derived : Derives (tokens_in printed) s = subst (λ ts. Derives ts s) (sym same) (printed_derives_of s is) in
    let names : list_any is_long_name (tokens_in printed) ≡ false = subst (λ ts. list_any is_long_name ts ≡ false) (sym same) (names_short (tokens_in all) s is derives within.names) in
    let few : statement_bytes printed ≤ length (canonical s) = text_bytes (canonical s) printed are in
    Told printed are (Derived plain s derived (reads_again printed s kept (within_again (statement_bytes printed) (tokens_in printed) s (omega arith) names within.others)))

tokens_again : (text : List ℕ) (all : List Placed) (s : StmtTree) → IsPrintable s → TokensRead all (ReadsAs s) → length (canonical s) ≤ 65536 → IsReadAs (canonical s) (ReadsAs s)
tokens_again text all s is (RuleApplies name first e) fits = cc
tokens_again text all s is (TooDeep none deep e) fits = cc
tokens_again text all s is (Underived plain none e) fits = cc
tokens_again text all s is (Derived plain read derives e) fits =
    let kept = reading_kept all read s e in
    printed_again all s is (subst (Derives (tokens_in all)) kept.same derives) (subst (λ r. left_out r ≡ None) kept.same kept.kept)
    (subst (λ r. first_passed (passed_limits (statement_bytes all) (tokens_in all) r) ≡ None) kept.same kept.within) fits

pub printed_reads_of : PrintedReads
printed_reads_of text s (Untold none e) fits = cc
printed_reads_of text s (Told all are read) fits = tokens_again text all s (read_is_printable_of text s (Told all are read)) read fits
