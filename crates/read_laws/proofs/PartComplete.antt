-- What a derivation of a name, a list or an optional part writes is read as what it stands for.
use Rattle.std.proofs.Common.{◌≡◌, ℕ, zero, suc, ◌<◌, ◌≤◌, List, [], ◌∷◌, ◌++◌, length, map, Bool, true, false, Option, Some, None, refl, ap, sym, ◌∙◌, arith, append_assoc, append-nil}
use Rattle.std.specs.Option.{option_map}
use denote.Enum.Bare.{true_same}
use Rattle.sql_grammar.specs.Grammar.{sign, write_more, write_some, write_enclosed, write_behind, all_of, any_of, NameRule, write_name, name_of, ColumnRule, write_column, column_of}
use Rattle.sql_grammar.specs.Grammar.NameRule.{BareName, QuotedName}
use Rattle.sql_grammar.specs.Grammar.ColumnRule.{PlainColumn, TableColumn}
use Rattle.sql_grammar.specs.Statements.{write_column_list, AliasRule, write_alias, alias_of, write_source, source_of}
use Rattle.sql_grammar.specs.Statements.AliasRule.{NoAlias, BareAlias, AsAlias}
use Rattle.read_laws.specs.Chain.{Found, Parser, first_token, chain}
use Rattle.read_laws.specs.Parts.{is_key, is_symbol, comma_in}
use Rattle.read_laws.specs.ExprReader.{is_dot, closed}
use Rattle.read_laws.specs.ExprReader.{column as column_from}
use Rattle.read_laws.proofs.ChainLemmas.{then_told, given_none, branch_true, branch_false, chain_ends, chain_goes_on}
use Rattle.read_laws.proofs.ExprComplete.{EndsExpr, name_longer, plain_told}
use Rattle.sql_tree.specs.contracts.token.Keyword.{the_type as the_keywords}
use Rattle.sql_tree.specs.declared.token.Keyword.{Keyword}
use Rattle.sql_tree.specs.declared.token.Keyword.TheVariants as word
use Rattle.sql_tree.specs.declared.token.Symbol.TheVariants as symbol
use Rattle.sql_tree.specs.declared.token.Token.{Token}
use Rattle.sql_tree.specs.declared.token.Token.TheVariants.{Key}
use Rattle.read_laws.specs.StmtReader.{name, column, one_more, listed, enclosed, present, optional, listed_by, flag, names, alias, source}
use Rattle.read_laws.proofs.EndLemmas.{IsEnd, plain_end, end_expr, end_no_name, end_no_as, more_end}
use Rattle.read_laws.proofs.PartSound.{same_all}

-- a keyword is itself
key_told : (w : Keyword) → is_key w (Some (Key w)) ≡ true
unfolding is_key
key_told w = true_same the_keywords w w refl

pub same_found : {X : Type 0} (x y : X) (rest : List Token) → x ≡ y → ◌≡◌ {A = Found X} (Some (x, rest)) (Some (y, rest))
same_found {X} x y rest e = ap (λ (x : X). let f : Found X = Some (x, rest) in f) e

-- ## Names

pub name_told : (d : NameRule) (rest : List Token) → name (write_name d rest) ≡ Some (name_of d, rest)
unfolding name
name_told (BareName n) rest = refl
name_told (QuotedName n) rest = refl

pub column_told : (d : ColumnRule) (rest : List Token) → is_dot (first_token rest) ≡ false → column (write_column d rest) ≡ Some (column_of d, rest)
unfolding column column_from
column_told (PlainColumn (BareName n)) rest h = plain_told n rest (record { no_dot = h })
column_told (PlainColumn (QuotedName n)) rest h = plain_told n rest (record { no_dot = h })
column_told (TableColumn (BareName t) (BareName n)) rest h = refl
column_told (TableColumn (BareName t) (QuotedName n)) rest h = refl
column_told (TableColumn (QuotedName t) (BareName n)) rest h = refl
column_told (TableColumn (QuotedName t) (QuotedName n)) rest h = refl

pub end_no_dot : (ts : List Token) → IsEnd ts → is_dot (first_token ts) ≡ false
end_no_dot ts h = let ends = end_expr ts h in ends.term_ends.factor_ends.no_dot

pub alias_told : (d : AliasRule) (rest : List Token) → IsEnd rest → alias (write_alias d rest) ≡ Some (alias_of d, rest)
unfolding alias name is_key
alias_told NoAlias rest h = branch_false _ _ _ _ (end_no_as (first_token rest) h) (given_none _ _ _ _ (end_no_name (first_token rest) h) refl)
alias_told (BareAlias (BareName n)) rest h = refl
alias_told (BareAlias (QuotedName n)) rest h = refl
alias_told (AsAlias (BareName n)) rest h = refl
alias_told (AsAlias (QuotedName n)) rest h = refl

-- an expression ends before its name
pub alias_ends : (d : AliasRule) (rest : List Token) → IsEnd rest → EndsExpr (write_alias d rest)
alias_ends NoAlias rest h = end_expr rest h
alias_ends (BareAlias (BareName n)) rest h = plain_end _ refl refl refl
alias_ends (BareAlias (QuotedName n)) rest h = plain_end _ refl refl refl
alias_ends (AsAlias n) rest h = plain_end _ refl refl refl

pub alias_longer : (d : AliasRule) (rest : List Token) → length rest ≤ length (write_alias d rest)
alias_longer NoAlias rest = omega arith
alias_longer (BareAlias n) rest = let a = name_longer n rest in omega (arith, a)
alias_longer (AsAlias n) rest = let a = name_longer n rest in omega (arith, a)

pub source_told : (d : NameRule × AliasRule) (rest : List Token) → IsEnd rest → source (write_source d rest) ≡ Some (source_of d, rest)
unfolding source
source_told d rest h = then_told _ _ _ _ (name_told d.0 (write_alias d.1 rest)) (then_told _ _ _ _ (alias_told d.1 rest h) refl)

-- a word that may be left out
pub flag_told : (w : Keyword) (write : Bool → List Token → List Token) → ((rest : List Token) → write true rest ≡ Key w ∷ rest) → ((rest : List Token) → write false rest ≡ rest) → (d : Bool) (rest : List Token) → is_key w (first_token rest) ≡ false → flag w (write d rest) ≡ Some (d, rest)
flag_told w write there absent true rest h = ap (flag w) (there rest) ∙ branch_true _ _ _ _ (key_told w) refl
flag_told w write there absent false rest h = ap (flag w) (absent rest) ∙ branch_false _ _ _ _ h refl

-- ## Lists

module _ {D Y X : Type 0} (write : D → List Token → List Token) (of : D → Y) (with_ : Y → X) (part : Parser X) (told : (d : D) (rest : List Token) → IsEnd rest → part (write d rest) ≡ Some (with_ (of d), rest)) (longer : (d : D) (rest : List Token) → length rest < length (write d rest)) where
  more_told : (ds : List D) (n : ℕ) (left : List X) (rest : List Token) → length (write_more write ds rest) ≤ n → IsEnd rest → comma_in (first_token rest) ≡ None → chain comma_in one_more part n left (write_more write ds rest) ≡ Some (left ++ map with_ (map of ds), rest)
  more_told [] n left rest h end none = chain_ends comma_in one_more part n left rest none ∙ same_found left (left ++ []) rest (sym (append-nil left))
  more_told (d ∷ ds) zero left rest h end none = absurd (omega arith)
  more_told (d ∷ ds) (suc n) left rest h end none =
      let a = longer d (write_more write ds rest) in
      chain_goes_on comma_in one_more part n left _ symbol.Comma (with_ (of d)) (write_more write ds rest) refl (told d (write_more write ds rest) (more_end write ds rest end))
      ∙ more_told ds n (left ++ with_ (of d) ∷ []) rest (omega (arith, a)) end none
      ∙ same_found _ _ rest (append_assoc left (with_ (of d) ∷ []) (map with_ (map of ds)))

  pub listed_told : (ds : D × List D) (rest : List Token) → IsEnd rest → comma_in (first_token rest) ≡ None → listed part (write_some write ds rest) ≡ Some (map with_ (map of (all_of ds)), rest)
  unfolding listed
  listed_told ds rest end none =
      let behind = write_more write ds.1 rest in
      then_told _ _ _ _ (told ds.0 behind (more_end write ds.1 rest end)) (more_told ds.1 (length behind) (with_ (of ds.0) ∷ []) rest (omega arith) end none)

  pub enclosed_told : (ds : D × List D) (rest : List Token) → enclosed part (write_enclosed write ds rest) ≡ Some (map with_ (map of (all_of ds)), rest)
  unfolding enclosed is_symbol
  enclosed_told ds rest = then_told _ _ closed _ (listed_told ds (sign symbol.Close ∷ rest) refl refl) refl

  more_longer : (ds : List D) (rest : List Token) → length rest ≤ length (write_more write ds rest)
  more_longer [] rest = omega arith
  more_longer (d ∷ ds) rest =
      let a = more_longer ds rest in
      let b = longer d (write_more write ds rest) in
      omega (arith, a, b)

  pub enclosed_longer : (ds : D × List D) (rest : List Token) → length rest < length (write_enclosed write ds rest)
  enclosed_longer ds rest =
      let a = more_longer ds.1 (sign symbol.Close ∷ rest) in
      let b = longer ds.0 (write_more write ds.1 (sign symbol.Close ∷ rest)) in
      omega (arith, a, b)

  pub listed_by_told : (w : Keyword) (o : Option (D × List D)) (rest : List Token) → IsEnd rest → comma_in (first_token rest) ≡ None → is_key w (first_token rest) ≡ false → listed_by w part (write_behind (write_some write) (w ∷ word.By ∷ []) o rest) ≡ Some (map with_ (map of (any_of o)), rest)
  unfolding listed_by
  listed_by_told w None rest end none absent = branch_false _ _ _ _ absent refl
  listed_by_told w (Some ds) rest end none absent = branch_true _ _ _ _ (key_told w) (branch_true _ _ _ _ (key_told word.By) (listed_told ds rest end none))

  pub optional_told : (w : Keyword) (o : Option D) (rest : List Token) → IsEnd rest → is_key w (first_token rest) ≡ false → optional w part (write_behind write (w ∷ []) o rest) ≡ Some (option_map with_ (option_map of o), rest)
  optional_told w None rest end absent = branch_false _ _ _ _ absent refl
  optional_told w (Some d) rest end absent = branch_true _ _ _ _ (key_told w) (then_told _ _ present _ (told d rest end) refl)

-- the columns of INSERT
pub names_told : (o : Option (NameRule × List NameRule)) (rest : List Token) → is_symbol symbol.Open (first_token rest) ≡ false → names (write_column_list o rest) ≡ Some (map name_of (any_of o), rest)
unfolding names is_symbol
names_told None rest absent = branch_false _ _ _ _ absent refl
names_told (Some ds) rest absent = enclosed_told write_name name_of (λ n. n) name (λ d rest end. name_told d rest) name_longer ds rest ∙ same_found _ _ rest (same_all (map name_of (all_of ds)))
