-- The statements of a script are the pieces of its text, since no byte of them opens or ends anything.
use Rattle.std.proofs.Common.{◌≡◌, ◌==◌, ℕ, ◌+◌, ◌*◌, ◌%◌, ◌^◌, ◌<◌, ◌≤◌, List, [], ◌∷◌, ◌++◌, Bool, true, false, codes, decimal, map, filter, if◌then◌else◌, refl, ap, ◌∙◌, arith, append_assoc}
use Rattle.std.specs.Prelude.{flat_map, not, ◌||◌}
use Rattle.std.specs.List.{AllByRecursion, list_all, range_with_len}
use Rattle.std.specs.Str.Parse.{AllDigits}
use Rattle.std.proofs.Math.Nat.{mod-lt}
use Rattle.std.proofs.lemmas.Bool.{and_parts, and_from, ne_eqb}
use Rattle.std.proofs.lemmas.Fmt.{decimal_is_IsNumeral}
use Rattle.std.proofs.lemmas.Str.Parse.{digit_at}
use Rattle.sql_print.specs.Canon.{listed}
use Rattle.sql_tree.specs.Pieces.{opened, pieces_of, runs_of, says_something, with_byte}
use Rattle.sql_tree.specs.declared.inside.Inside.TheVariants.{Outside}
use Rattle.sample_scripts.specs.Scripts.{changes, draw, insert_text, inserts, queries, queries_after, query_text, range_text, row_text, script_text}

-- ## Bytes that open and end nothing

abbrev is_quiet : ℕ → Bool
is_quiet b = not ((b == 39) || ((b == 34) || ((b == 45) || ((b == 47) || (b == 59)))))

abbrev IsQuiet : List ℕ → Type 0
IsQuiet bytes = list_all is_quiet bytes ≡ true

record Apart (b : ℕ) : Type 0 where
  no_text : (b == 39) ≡ false
  no_name : (b == 34) ≡ false
  no_line : (b == 45) ≡ false
  no_block : (b == 47) ≡ false
  no_end : (b == 59) ≡ false

apart : (b : ℕ) → is_quiet b ≡ true → Apart b
apart b quiet = by (b == 39) (b == 34) (b == 45) (b == 47) (b == 59) refl refl refl refl refl quiet
  where
    by : (p q r s t : Bool) → (b == 39) ≡ p → (b == 34) ≡ q → (b == 45) ≡ r → (b == 47) ≡ s → (b == 59) ≡ t → not (p || (q || (r || (s || t)))) ≡ true → Apart b
    by false false false false false a c d e f quiet = record { no_text = a; no_name = c; no_line = d; no_block = e; no_end = f }
    by true q r s t a c d e f quiet = absurd (cc)
    by false true r s t a c d e f quiet = absurd (cc)
    by false false true s t a c d e f quiet = absurd (cc)
    by false false false true t a c d e f quiet = absurd (cc)
    by false false false false true a c d e f quiet = absurd (cc)

quiet_append : (front back : List ℕ) → IsQuiet front → IsQuiet back → IsQuiet (front ++ back)
quiet_append [] back quiet also = also
quiet_append (b ∷ bs) back quiet also =
    let each = and_parts (is_quiet b) (list_all is_quiet bs) quiet in
    and_from (is_quiet b) (list_all is_quiet (bs ++ back)) each.0 (quiet_append bs back each.1 also)

digit_quiet : (b : ℕ) → 48 ≤ b → b ≤ 57 → is_quiet b ≡ true
digit_quiet b low high =
    rw (ne_eqb b 39 (omega (arith, low)), ne_eqb b 34 (omega (arith, low)), ne_eqb b 45 (omega (arith, low)), ne_eqb b 47 (omega (arith, low)), ne_eqb b 59 (omega (arith, high))) refl

digits_quiet : (digits : List ℕ) → AllDigits 10 digits → IsQuiet digits
digits_quiet [] are = refl
digits_quiet (b ∷ bs) are =
    let first = digit_at (b ∷ bs) 0 are (omega arith) in
    and_from (is_quiet b) (list_all is_quiet bs) (digit_quiet b first.0 first.1) (digits_quiet bs are.1)

decimal_quiet : (n : ℕ) → n < 2 ^ 64 → IsQuiet (decimal n)
decimal_quiet n small = digits_quiet (decimal n) (decimal_is_IsNumeral n small).0.1

-- ## Pieces

opens_nothing : (b : ℕ) (bs : List ℕ) → Apart b → opened b bs ≡ Outside
opens_nothing b bs is = rw (is.no_text, is.no_name, is.no_line, is.no_block) refl

-- a quiet statement and the `;` after it are a run
first_run : (statement rest : List ℕ) → IsQuiet statement → runs_of Outside (statement ++ 59 ∷ rest) ≡ statement ∷ runs_of Outside rest
first_run [] rest quiet = refl
first_run (b ∷ bs) rest quiet =
    let each = and_parts (is_quiet b) (list_all is_quiet bs) quiet in
    let is = apart b each.0 in
    let more : List ℕ = bs ++ 59 ∷ rest in
    ap (λ t. if t then [] ∷ runs_of Outside more else with_byte b (runs_of (opened b more) more)) is.no_end
    ∙ ap (λ place. with_byte b (runs_of place more)) (opens_nothing b more is)
    ∙ ap (with_byte b) (first_run bs rest each.1)

-- a statement that is quiet, and not all blanks
record IsPiece (statement : List ℕ) : Type 0 where
  quiet : IsQuiet statement
  says : says_something Outside statement ≡ true

all_runs : (statements : List (List ℕ)) → AllByRecursion IsPiece statements → runs_of Outside (script_text statements) ≡ statements ++ [] ∷ []
all_runs [] are = refl
all_runs (statement ∷ statements) are =
    ap (runs_of Outside) (append_assoc statement (codes ";") (script_text statements))
    ∙ first_run statement (script_text statements) are.0.quiet
    ∙ ap (λ runs. statement ∷ runs) (all_runs statements are.1)

all_kept : (statements : List (List ℕ)) → AllByRecursion IsPiece statements → filter (says_something Outside) (statements ++ [] ∷ []) ≡ statements
all_kept [] are = refl
all_kept (statement ∷ statements) are =
    ap (λ t. if t then statement ∷ filter (says_something Outside) (statements ++ [] ∷ []) else filter (says_something Outside) (statements ++ [] ∷ [])) are.0.says
    ∙ ap (λ kept. statement ∷ kept) (all_kept statements are.1)

are_pieces : (statements : List (List ℕ)) → AllByRecursion IsPiece statements → pieces_of (script_text statements) ≡ statements
are_pieces statements are = ap (filter (says_something Outside)) (all_runs statements are) ∙ all_kept statements are

-- ## The two scripts

row_quiet : (drawn : ℕ) → IsQuiet (row_text drawn)
row_quiet drawn =
    let small : drawn % 10000 < 10000 = mod-lt drawn (omega arith) in
    quiet_append (codes "(") (decimal (drawn % 10000) ++ codes ")") refl
    (quiet_append (decimal (drawn % 10000)) (codes ")") (decimal_quiet (drawn % 10000) (omega (arith, small))) refl)

rows_quiet : (row : ℕ → List ℕ) → ((i : ℕ) → IsQuiet (row i)) → (places : List ℕ) → IsQuiet (flat_map (λ more. codes ", " ++ more) (map row places))
rows_quiet row each [] = refl
rows_quiet row each (i ∷ is) = quiet_append (codes ", " ++ row i) _ (quiet_append (codes ", ") (row i) refl (each i)) (rows_quiet row each is)

listed_quiet : (row : ℕ → List ℕ) → ((i : ℕ) → IsQuiet (row i)) → (places : List ℕ) → IsQuiet (listed (map row places))
listed_quiet row each [] = refl
listed_quiet row each (i ∷ is) = quiet_append (row i) _ (each i) (rows_quiet row each is)

insert_piece : (rows x : ℕ) → IsPiece (insert_text rows x)
unfolding insert_text
insert_piece rows x = record {
  quiet = quiet_append (codes "INSERT INTO g VALUES ") (listed (map (λ i. row_text (draw x i)) (range_with_len 1 rows))) refl
      (listed_quiet (λ i. row_text (draw x i)) (λ i. row_quiet (draw x i)) (range_with_len 1 rows));
  says = refl;
}

range_piece : (low width : ℕ) → low < 9000 → width < 1000 → IsPiece (range_text low width)
range_piece low width small narrow = record {
  quiet = quiet_append (codes "SELECT COUNT(*), SUM(a) FROM g WHERE a BETWEEN ") ((decimal low ++ codes " AND ") ++ decimal (low + width)) refl
      (quiet_append (decimal low ++ codes " AND ") (decimal (low + width))
      (quiet_append (decimal low) (codes " AND ") (decimal_quiet low (omega (arith, small))) refl)
      (decimal_quiet (low + width) (omega (arith, small, narrow))));
  says = refl;
}

query_piece : (x : ℕ) → IsPiece (query_text x)
unfolding query_text
query_piece x = range_piece (draw x 1 % 9000) (draw x 2 % 1000) (mod-lt (draw x 1) (omega arith)) (mod-lt (draw x 2) (omega arith))

each_piece : (statement : ℕ → List ℕ) → ((k : ℕ) → IsPiece (statement k)) → (places : List ℕ) → AllByRecursion IsPiece (map statement places)
each_piece statement each [] = tt
each_piece statement each (k ∷ ks) = (each k, each_piece statement each ks)

pub changes_read : (seed : ℕ) → pieces_of (script_text (changes seed)) ≡ changes seed
unfolding changes inserts
changes_read seed = are_pieces (changes seed) (record { quiet = refl; says = refl }, each_piece (λ k. insert_text 500 (draw seed (500 * k))) (λ k. insert_piece 500 (draw seed (500 * k))) (range_with_len 0 20))

pub queries_read : (seed : ℕ) → pieces_of (script_text (queries seed)) ≡ queries seed
unfolding queries queries_after
queries_read seed =
    let last = draw seed (500 * 20) in
    are_pieces (queries seed) (each_piece (λ k. query_text (draw last (2 * k))) (λ k. query_piece (draw last (2 * k))) (range_with_len 0 100))
