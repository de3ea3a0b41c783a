-- Tokens whose names have a byte at least, as those of a text have.
use Rattle.std.proofs.Common.{◌≡◌, ℕ, ◌==◌, List, [], ◌∷◌, ◌++◌, length, map, Bool, true, false, not, Option, Some, None, option_map, refl, subst, arith}
use Rattle.std.specs.List.{AllByRecursion, list_any}
use Rattle.std.proofs.lemmas.Bool.{and_parts, or_parts}
use Rattle.std.proofs.lemmas.Bool.Decides.{nat_tests}
use Rattle.sql_grammar.specs.Grammar.{all_of, any_of, write_more, write_some, write_behind, write_name, name_of, write_column, column_of}
use Rattle.sql_grammar.specs.Grammar.NameRule.{BareName, QuotedName}
use Rattle.sql_grammar.specs.Grammar.ColumnRule.{PlainColumn, TableColumn}
use Rattle.sql_grammar.specs.Reads.{tokens_in}
use Rattle.sql_print_laws.specs.Printable.{EachOfSome, IfThere, IsName, IsReference}
use Rattle.sql_tree.specs.Bytes.{begins_with, low}
use Rattle.sql_tree.specs.Tokens.{Part, write_part, written, Fits, AllFit, token_of, with_token, tokens_of, AreTokens}
use Rattle.sql_tree.specs.Tokens.Part.{Blank, Line, Block, Letters, Number, QuotedName as NameInQuotes, QuotedText, Mark}
use Rattle.sql_tree.specs.Words.{keyword_of, is_unsupported_word, keyword_token, word_token}
use Rattle.sql_tree.specs.declared.token.Keyword.{Keyword}
use Rattle.sql_tree.specs.declared.token.Placed.{Placed}
use Rattle.sql_tree.specs.declared.token.Token.{Token}
use Rattle.sql_tree.specs.declared.token.Token.TheVariants.{Name, Quoted, Key}

-- ## Tokens

abbrev pub IsNamed : Token → Type 0
IsNamed (Name name) = IsName name
IsNamed (Quoted name) = IsName name
IsNamed other = Unit {0}

abbrev pub Named : List Token → Type 0
Named ts = AllByRecursion IsNamed ts

abbrev IsNamedIfThere : Option Token → Type 0
IsNamedIfThere None = Unit {0}
IsNamedIfThere (Some t) = IsNamed t

some_name : (b : ℕ) (bs : List ℕ) → IsName (b ∷ bs)
some_name b bs = grind (arith, nat_tests)

word_named : (b : ℕ) (bs : List ℕ) → IsNamed (word_token (b ∷ bs))
word_named b bs = by_keyword (keyword_of (b ∷ bs)) (is_unsupported_word (b ∷ bs)) refl
  where
    by_keyword : (o : Option Keyword) (u : Bool) → is_unsupported_word (b ∷ bs) ≡ u → IsNamed (keyword_token (b ∷ bs) o)
    by_keyword (Some k) u e = tt
    by_keyword None true e = rw e tt
    by_keyword None false e = rw e (some_name b bs)

part_named : (part : Part) (rest : List ℕ) → Fits part rest → IsNamedIfThere (token_of part)
part_named (Blank b) rest fits = tt
part_named (Line bs) rest fits = tt
part_named (Block bs) rest fits = tt
part_named (Letters b bs) rest fits = word_named (low b) (map low bs)
part_named (Number b bs) rest fits = tt
part_named (NameInQuotes bs) rest fits = (and_parts (not (length bs == 0)) (not (begins_with 34 rest)) fits).0
part_named (QuotedText bs) rest fits = tt
part_named (Mark s) rest fits = tt

parts_named : (all : ℕ) (parts : List Part) → AllFit parts → Named (tokens_in (tokens_of all parts))
parts_named all [] fit = tt
parts_named all (part ∷ parts) fit = by_token (token_of part) (part_named part (written parts) fit.0) (parts_named all parts fit.1)
  where
    by_token : (o : Option Token) → IsNamedIfThere o → Named (tokens_in (tokens_of all parts)) → Named (tokens_in (with_token all (length (write_part part (written parts))) (length (written parts)) o (tokens_of all parts)))
    by_token None is more = more
    by_token (Some t) is more = (is, more)

-- the tokens of a text are named
pub tokens_named : (text : List ℕ) (all : List Placed) → AreTokens text all → Named (tokens_in all)
tokens_named text all are = subst (λ all. Named (tokens_in all)) are.tokens_are (parts_named (length text) are.parts are.fit)

-- ## Lists

-- what holds of each by two facts
pub all_both : {X : Type 0} (P Q : X → Type 0) (xs : List X) → AllByRecursion P xs → AllByRecursion Q xs → AllByRecursion (λ x. P x × Q x) xs
all_both P Q [] h k = tt
all_both P Q (x ∷ xs) h k = ((h.0, k.0), all_both P Q xs h.1 k.1)

module _ {X : Type 0} (P : X → Type 0) where
  -- what holds of each element of two lists together
  pub all_parts : (xs ys : List X) → AllByRecursion P (xs ++ ys) → AllByRecursion P xs × AllByRecursion P ys
  all_parts [] ys h = (tt, h)
  all_parts (x ∷ xs) ys h = let parts = all_parts xs ys h.1 in ((h.0, parts.0), parts.1)

  pub all_mapped : {Y : Type 0} (f : Y → X) (ys : List Y) → AllByRecursion P (map f ys) → AllByRecursion (λ y. P (f y)) ys
  all_mapped f [] h = tt
  all_mapped f (y ∷ ys) h = (h.0, all_mapped f ys h.1)

  -- what follows from a condition that holds of each
  pub all_meet : (C : X → Type 0) (xs : List X) → AllByRecursion (λ x. C x → P x) xs → AllByRecursion C xs → AllByRecursion P xs
  all_meet C [] h c = tt
  all_meet C (x ∷ xs) h c = (h.0 c.0, all_meet C xs h.1 c.1)

  pub some_meet : (C : X → Type 0) (xs : List X) → EachOfSome (λ x. C x → P x) xs → AllByRecursion C xs → EachOfSome P xs
  some_meet C [] h c = h
  some_meet C (x ∷ xs) h c = (h.0 c.0, all_meet C xs h.1 c.1)

pub none_of : {X : Type 0} (test : X → Bool) (xs : List X) → list_any test xs ≡ false → AllByRecursion (λ x. test x ≡ false) xs
none_of test [] h = tt
none_of test (x ∷ xs) h = let parts = or_parts (test x) (list_any test xs) h in (parts.0, none_of test xs parts.1)

-- ## Rules

-- what a rule stands for where its tokens are named
abbrev pub IsTold : {R X : Type 0} → (R → List Token → List Token) → (R → X) → (X → Type 0) → Type 0
IsTold {R} write meaning P = (r : R) (rest : List Token) → Named (write r rest) → P (meaning r) × Named rest

after_words : (words : List Keyword) (ts : List Token) → Named (map Key words ++ ts) → Named ts
after_words [] ts h = h
after_words (word ∷ words) ts h = after_words words ts h.1

module _ {R X : Type 0} (write : R → List Token → List Token) (meaning : R → X) (P : X → Type 0) (told : IsTold write meaning P) where
  pub more_told : (rs : List R) (rest : List Token) → Named (write_more write rs rest) → AllByRecursion P (map meaning rs) × Named rest
  more_told [] rest h = (tt, h)
  more_told (r ∷ rs) rest h =
      let x = told r (write_more write rs rest) h.1 in
      let xs = more_told rs rest x.1 in
      ((x.0, xs.0), xs.1)

  pub some_told : (rs : R × List R) (rest : List Token) → Named (write_some write rs rest) → EachOfSome P (map meaning (all_of rs)) × Named rest
  some_told rs rest h =
      let x = told rs.0 (write_more write rs.1 rest) h in
      let xs = more_told rs.1 rest x.1 in
      ((x.0, xs.0), xs.1)

  pub any_told : (words : List Keyword) (rs : Option (R × List R)) (rest : List Token) → Named (write_behind (write_some write) words rs rest) → AllByRecursion P (map meaning (any_of rs)) × Named rest
  any_told words None rest h = (tt, h)
  any_told words (Some rs) rest h = some_told rs rest (after_words words (write_some write rs rest) h)

  pub option_told : (words : List Keyword) (o : Option R) (rest : List Token) → Named (write_behind write words o rest) → IfThere P (option_map meaning o) × Named rest
  option_told words None rest h = (tt, h)
  option_told words (Some r) rest h = told r rest (after_words words (write r rest) h)

-- ## Names and columns

pub name_told : IsTold write_name name_of IsName
name_told (BareName name) rest h = h
name_told (QuotedName name) rest h = h

pub column_told : IsTold write_column column_of IsReference
column_told (PlainColumn column) rest h = let x = name_told column rest h in ((tt, x.0), x.1)
column_told (TableColumn table column) rest h =
    let x = name_told table _ h in
    let y = name_told column rest x.1.1 in
    ((x.0, y.0), y.1)
