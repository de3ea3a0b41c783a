-- What is read as a name, a list or a part that may be left out is what a derivation writes.
use Rattle.std.proofs.Common.{◌≡◌, ℕ, zero, suc, List, [], ◌∷◌, ◌++◌, length, map, Bool, true, false, cond, Option, Some, None, refl, ap, sym, ◌∙◌, inl, inr, append_assoc, append-nil}
use Rattle.std.specs.Option.{option_map}
use Rattle.sql_grammar.specs.Grammar.{sign, write_more, write_some, write_enclosed, write_behind, all_of, any_of, write_name, name_of, write_column, column_of}
use Rattle.sql_grammar.specs.Statements.{write_column_list, write_alias, alias_of, write_source, source_of}
use Rattle.sql_grammar.specs.Statements.AliasRule.{NoAlias, BareAlias, AsAlias}
use Rattle.read_laws.specs.Chain.{Found, Parser, first_token, after_first, given, chain}
use Rattle.read_laws.specs.Parts.{is_key, is_symbol, behind_key, comma_in}
use Rattle.read_laws.specs.ExprReader.{name_in}
use Rattle.read_laws.specs.ExprReader as expressions
use Rattle.read_laws.proofs.ChainLemmas.{given_found, chain_found, no_steps_found}
use Rattle.read_laws.proofs.ExprSound.{IsWritten, IsSound, column_found}
use Rattle.read_laws.proofs.TokenTests.{name_found, key_found, symbol_found, comma_found, closed_found}
use Rattle.sql_tree.specs.declared.token.Keyword.{Keyword}
use Rattle.sql_tree.specs.declared.token.Keyword.TheVariants as word
use Rattle.sql_tree.specs.declared.token.Symbol.TheVariants as symbol
use Rattle.sql_tree.specs.declared.token.Token.{Token}
use Rattle.sql_tree.specs.declared.token.Token.TheVariants.{Key}
use Rattle.sql_tree.specs.declared.tree.FromItem.{FromItem}
use Rattle.read_laws.specs.StmtReader.{name, column, one_more, listed, enclosed, present, optional, listed_by, flag, names, alias, source}
use Rattle.text_bytes.specs.Found.{then_read}
use Rattle.text_bytes.proofs.FoundLemmas.{then_found, guard_found, pair_found}

-- ## Names

pub name_sound : IsSound write_name name_of name
unfolding name
name_sound ts x rest h =
    let f = then_found _ _ _ h in
    let parts = pair_found _ _ _ _ f.2 in
    let found = name_found ts f.0 f.1 in
    record { rule = found.0; written = ap (write_name found.0) (sym parts.1) ∙ found.1; means = found.2 ∙ parts.0 }

pub column_sound : IsSound write_column column_of column
unfolding column
column_sound ts x rest h =
    let f = then_found _ _ _ h in
    let first = name_found ts f.0 f.1 in
    let w = column_found first.0 (after_first ts) x rest (ap (λ n. expressions.column n (after_first ts)) first.2 ∙ f.2) in
    record { rule = w.rule; written = w.written ∙ first.1; means = w.means }

-- a name without AS, or none
abbrev bare_alias : List Token → Found (Option (List ℕ))
bare_alias ts = given (name_in (first_token ts)) (Some (None, ts)) (λ name. Some (Some name, after_first ts))

pub alias_sound : IsSound write_alias alias_of alias
unfolding alias
alias_sound ts x rest h = at (is_key word.As (first_token ts)) refl h
  where
    bare : bare_alias ts ≡ Some (x, rest) → IsWritten write_alias alias_of ts x rest
    bare h =
        elim (given_found (name_in (first_token ts)) _ _ (Some (x, rest)) h) [
          | inl e ↦ let parts = pair_found _ _ _ _ e.1 in record { rule = NoAlias; written = sym parts.1; means = parts.0 }
          | inr s ↦
              let parts = pair_found _ _ _ _ s.2 in
              let found = name_found ts s.0 s.1 in
              record { rule = BareAlias found.0; written = ap (write_name found.0) (sym parts.1) ∙ found.1; means = ap Some found.2 ∙ parts.0 }
        ]

    at : (b : Bool) → is_key word.As (first_token ts) ≡ b → cond b (then_read (name (after_first ts)) present) (bare_alias ts) ≡ Some (x, rest) → IsWritten write_alias alias_of ts x rest
    at true e h =
        let f = then_found _ _ _ h in
        let parts = pair_found _ _ _ _ f.2 in
        let w = name_sound (after_first ts) f.0.0 f.0.1 f.1 in
        record { rule = AsAlias w.rule; written = ap (λ r. Key word.As ∷ write_name w.rule r) (sym parts.1) ∙ ap (λ r. Key word.As ∷ r) w.written ∙ key_found word.As ts e; means = ap Some w.means ∙ parts.0 }
    at false e h = bare h

pub source_sound : IsSound write_source source_of source
unfolding source
source_sound ts x rest h =
    let f = then_found _ _ _ h in
    let g = then_found _ _ _ f.2 in
    let parts = pair_found _ _ _ _ g.2 in
    let table = name_sound ts f.0.0 f.0.1 f.1 in
    let alias = alias_sound f.0.1 g.0.0 g.0.1 g.1 in
    record {
      rule = (table.rule, alias.rule);
      written = ap (λ r. write_name table.rule (write_alias alias.rule r)) (sym parts.1) ∙ ap (write_name table.rule) alias.written ∙ table.written;
      means = ap (λ (t : List ℕ). let s : FromItem = record { table = t; alias = alias_of alias.rule } in s) table.means ∙ ap (λ (a : Option (List ℕ)). let s : FromItem = record { table = f.0.0; alias = a } in s) alias.means ∙ parts.0;
    }

-- ## A word that may be left out

pub flag_found : (w : Keyword) (write : Bool → List Token → List Token) → ((rest : List Token) → Key w ∷ rest ≡ write true rest) → ((rest : List Token) → rest ≡ write false rest) → IsSound write (λ b. b) (flag w)
flag_found w write there absent ts x rest h = at (is_key w (first_token ts)) refl h
  where
    at : (b : Bool) → is_key w (first_token ts) ≡ b → cond {A = Found Bool} b (Some (true, after_first ts)) (Some (false, ts)) ≡ Some (x, rest) → IsWritten write (λ b. b) ts x rest
    at true e h = let parts = pair_found _ _ _ _ h in record { rule = true; written = sym (there rest) ∙ ap (λ r. Key w ∷ r) (sym parts.1) ∙ key_found w ts e; means = parts.0 }
    at false e h = let parts = pair_found _ _ _ _ h in record { rule = false; written = sym (absent rest) ∙ sym parts.1; means = parts.0 }

-- ## Lists

module _ {D Y X : Type 0} (write : D → List Token → List Token) (of : D → Y) (with_ : Y → X) (part : Parser X) (sound : IsSound write (λ d. with_ (of d)) part) where
  more_found : (n : ℕ) (left : List X) (ts : List Token) (xs : List X) (rest : List Token) → chain comma_in one_more part n left ts ≡ Some (xs, rest) → IsWritten (write_more write) (λ ds. left ++ map with_ (map of ds)) ts xs rest
  more_found zero left ts xs rest h =
      let e = no_steps_found comma_in one_more part left ts xs rest h in
      record { rule = []; written = sym e.1; means = append-nil left ∙ e.0 }
  more_found (suc n) left ts xs rest h =
      elim (chain_found comma_in one_more part n left ts xs rest h) [
        | inl e ↦ record { rule = []; written = sym e.1; means = append-nil left ∙ e.0 }
        | inr s ↦
            let next = sound (after_first ts) s.right s.behind s.right_is in
            let more = more_found n (left ++ s.right ∷ []) s.behind xs rest s.more in
            record {
              rule = next.rule ∷ more.rule;
              written = ap (λ r. sign symbol.Comma ∷ write next.rule r) more.written ∙ ap (λ r. sign symbol.Comma ∷ r) next.written ∙ comma_found ts s.operator s.operator_is;
              means = ap (λ x. left ++ x ∷ map with_ (map of more.rule)) next.means ∙ sym (append_assoc left (s.right ∷ []) (map with_ (map of more.rule))) ∙ more.means;
            }
      ]

  pub listed_found : IsSound (write_some write) (λ ds. map with_ (map of (all_of ds))) (listed part)
  unfolding listed
  listed_found ts xs rest h =
      let f = then_found _ _ _ h in
      let first = sound ts f.0.0 f.0.1 f.1 in
      let more = more_found (length f.0.1) (f.0.0 ∷ []) f.0.1 xs rest f.2 in
      record {
        rule = (first.rule, more.rule);
        written = ap (write first.rule) more.written ∙ first.written;
        means = ap (λ x. x ∷ map with_ (map of more.rule)) first.means ∙ more.means;
      }

  pub enclosed_found : IsSound (write_enclosed write) (λ ds. map with_ (map of (all_of ds))) (enclosed part)
  unfolding enclosed
  enclosed_found ts xs rest h =
      let open_ = guard_found _ _ _ h in
      let f = then_found _ _ _ open_.1 in
      let all = listed_found (after_first ts) f.0.0 f.0.1 f.1 in
      let close = closed_found f.0 xs rest f.2 in
      record {
        rule = all.rule;
        written = ap (λ r. sign symbol.Open ∷ write_some write all.rule r) close.1 ∙ ap (λ r. sign symbol.Open ∷ r) all.written ∙ symbol_found symbol.Open ts open_.0;
        means = all.means ∙ close.0;
      }

  pub listed_by_found : (word_ : Keyword) → IsSound (write_behind (write_some write) (word_ ∷ word.By ∷ [])) (λ ds. map with_ (map of (any_of ds))) (listed_by word_ part)
  unfolding listed_by
  listed_by_found word_ ts xs rest h = at (is_key word_ (first_token ts)) refl h
    where
      at : (b : Bool) → is_key word_ (first_token ts) ≡ b → cond b (behind_key word.By (listed part) (after_first ts)) (Some ([], ts)) ≡ Some (xs, rest) → IsWritten (write_behind (write_some write) (word_ ∷ word.By ∷ [])) (λ ds. map with_ (map of (any_of ds))) ts xs rest
      at true e h =
          let by = guard_found _ _ _ h in
          let all = listed_found (after_first (after_first ts)) xs rest by.1 in
          record {
            rule = Some all.rule;
            written = ap (λ r. Key word_ ∷ Key word.By ∷ r) all.written ∙ ap (λ r. Key word_ ∷ r) (key_found word.By (after_first ts) by.0) ∙ key_found word_ ts e;
            means = all.means;
          }
      at false e h = let parts = pair_found _ _ _ _ h in record { rule = None; written = sym parts.1; means = parts.0 }

  -- a part after its word, or none
  pub optional_found : (word_ : Keyword) → IsSound (write_behind write (word_ ∷ [])) (λ d. option_map with_ (option_map of d)) (optional word_ part)
  optional_found word_ ts x rest h = at (is_key word_ (first_token ts)) refl h
    where
      at : (b : Bool) → is_key word_ (first_token ts) ≡ b → cond b (then_read (part (after_first ts)) present) (Some (None, ts)) ≡ Some (x, rest) → IsWritten (write_behind write (word_ ∷ [])) (λ d. option_map with_ (option_map of d)) ts x rest
      at true e h =
          let f = then_found _ _ _ h in
          let parts = pair_found _ _ _ _ f.2 in
          let w = sound (after_first ts) f.0.0 f.0.1 f.1 in
          record {
            rule = Some w.rule;
            written = ap (λ r. Key word_ ∷ write w.rule r) (sym parts.1) ∙ ap (λ r. Key word_ ∷ r) w.written ∙ key_found word_ ts e;
            means = ap Some w.means ∙ parts.0;
          }
      at false e h = let parts = pair_found _ _ _ _ h in record { rule = None; written = sym parts.1; means = parts.0 }

-- ## The columns of INSERT and of GROUP BY

pub same_all : {X : Type 0} (xs : List X) → map (λ x. x) xs ≡ xs
same_all [] = refl
same_all (x ∷ xs) = ap (λ ys. x ∷ ys) (same_all xs)

pub names_sound : IsSound write_column_list (λ o. map name_of (any_of o)) names
unfolding names
names_sound ts xs rest h = at (is_symbol symbol.Open (first_token ts)) refl h
  where
    at : (b : Bool) → is_symbol symbol.Open (first_token ts) ≡ b → cond b (enclosed name ts) (Some ([], ts)) ≡ Some (xs, rest) → IsWritten write_column_list (λ o. map name_of (any_of o)) ts xs rest
    at true e h =
        let w = enclosed_found write_name name_of (λ n. n) name name_sound ts xs rest h in
        record { rule = Some w.rule; written = w.written; means = sym (same_all (map name_of (all_of w.rule))) ∙ w.means }
    at false e h = let parts = pair_found _ _ _ _ h in record { rule = None; written = sym parts.1; means = parts.0 }

pub groups_sound : IsSound (write_behind (write_some write_column) (word.Group ∷ word.By ∷ [])) (λ o. map column_of (any_of o)) (listed_by word.Group column)
groups_sound ts xs rest h =
    let w = listed_by_found write_column column_of (λ c. c) column column_sound word.Group ts xs rest h in
    record { rule = w.rule; written = w.written; means = sym (same_all (map column_of (any_of w.rule))) ∙ w.means }
