-- What is read as a query is what a derivation writes, and so for every statement.
use Rattle.std.proofs.Common.{◌≡◌, ℕ, zero, suc, List, [], ◌∷◌, ◌++◌, length, map, Bool, true, false, cond, Option, Some, None, refl, ap, sym, ◌∙◌, inl, inr, append_assoc, append-nil}
use Rattle.std.specs.Option.{option_map}
use Rattle.sql_grammar.specs.Grammar.{sign, write_some, write_behind, NameRule, number_of, write_column, write_value, value_of, write_cond, cond_of, write_where, where_of}
use Rattle.sql_grammar.specs.Statements.{AliasRule, write_alias, alias_of, write_item, item_of, write_items, items_of, write_source, source_of, JoinRule, write_join, write_joins, joined_source, on_conds, with_where, write_place, write_order, write_key, place_of, is_ascending, key_of, write_digits, write_from, write_distinct, write_optional_from, write_query, query_from, query_of}
use Rattle.sql_grammar.specs.Statements.ItemsRule.{AllColumns, SomeItems}
use Rattle.sql_grammar.specs.Statements.JoinRule.{CommaSource, JoinOn}
use Rattle.sql_grammar.specs.Statements.PlaceRule.{PositionKey, ColumnKey}
use Rattle.sql_grammar.specs.Statements.OrderRule.{NoOrder, AscOrder, DescOrder}
use Rattle.sql_grammar.specs.Statements.StmtRule.{SelectRule, ExplainRule}
use Rattle.read_laws.specs.Bounded.{Builder, as_written}
use Rattle.read_laws.specs.Chain.{Found, first_token, after_first}
use Rattle.read_laws.specs.DerivedExprs.{cond_with}
use Rattle.read_laws.specs.Parts.{is_key, is_symbol}
use Rattle.read_laws.specs.ExprReader.{digits_in}
use Rattle.read_laws.proofs.ChainLemmas.{given_found}
use Rattle.read_laws.proofs.CondSound.{value_sound}
use Rattle.read_laws.proofs.CondLaws.{having_sound}
use Rattle.read_laws.proofs.ExprSound.{IsWritten, IsSound}
use Rattle.read_laws.proofs.TokenTests.{key_found, symbol_found, digits_found}
use Rattle.sql_tree.specs.Tree.{ExprTree, CondTree, ItemTree, QueryTree, StmtTree}
use Rattle.sql_tree.specs.Tree.StmtTree.{Select, ExplainSelect}
use Rattle.sql_tree.specs.declared.token.Keyword.TheVariants as word
use Rattle.sql_tree.specs.declared.token.Symbol.TheVariants as symbol
use Rattle.sql_tree.specs.declared.token.Token.{Token}
use Rattle.sql_tree.specs.declared.token.Token.TheVariants.{Digits, Key}
use Rattle.sql_tree.specs.declared.token.Token.TheVariants as token
use Rattle.sql_tree.specs.declared.tree.ColRef.{ColRef}
use Rattle.sql_tree.specs.declared.tree.FromItem.{FromItem}
use Rattle.sql_tree.specs.declared.tree.Place.{Place}
use Rattle.sql_tree.specs.declared.tree.Place.TheVariants.{Named}
use Rattle.sql_tree.specs.declared.tree.SortKey.{SortKey}
use Rattle.read_laws.specs.declared.joint.Joint.{Joint}
use Rattle.read_laws.specs.declared.joint.Joint.TheVariants as joint
use Rattle.read_laws.specs.DerivedStmts.{place_with, key_with, item_with, query_with}
use Rattle.read_laws.specs.StmtReader.{listed, flag, Sources, joint_in, also, with_source, ascending, where_cond, source_on, joined, joins, sources, item, items, having_cond, counted, place, key, from, optional_from, query, explain, stmt}
use Rattle.read_laws.proofs.JoinLemmas.{same_pair, joins_found, no_joins_found}
use Rattle.read_laws.proofs.PartSound.{column_sound, alias_sound, source_sound, flag_found, listed_found, listed_by_found, optional_found, groups_sound}
use Rattle.read_laws.proofs.StmtSound.{where_cond_sound, IsForm, create_found, drop_found, alter_found, insert_found, delete_found, update_found}
use Rattle.text_bytes.specs.Found.{then_read}
use Rattle.text_bytes.proofs.FoundLemmas.{then_found, guard_found, pair_found, value_found}

-- ## Sources

-- what a joined source has after its ON
abbrev pub on_of : JoinRule → Option CondTree
on_of (CommaSource s) = None
on_of (JoinOn inner s on) = Some (where_of on)

-- the conditions of ON go on with the next
pub on_next : (so_far : Option CondTree) (d : JoinRule) (ds : List JoinRule) → on_conds so_far (d ∷ ds) ≡ on_conds (also as_written so_far (on_of d)) ds
on_next so_far (CommaSource s) ds = refl
on_next None (JoinOn inner s on) ds = refl
on_next (Some so_far) (JoinOn inner s on) ds = refl

pub with_where_is : (so_far : Option CondTree) (last : Option _) → with_where so_far last ≡ also as_written so_far (option_map where_of last)
with_where_is so_far None = refl
with_where_is None (Some last) = refl
with_where_is (Some so_far) (Some last) = refl

module _ (build : Builder) where
  pub also_with : (a b : Option CondTree) → also build (option_map (cond_with build) a) (option_map (cond_with build) b) ≡ option_map (cond_with build) (also as_written a b)
  also_with a None = refl
  also_with None (Some b) = refl
  also_with (Some a) (Some b) = refl

  abbrev next_of : JoinRule → FromItem × Option CondTree
  next_of d = (joined_source d, option_map (cond_with build) (on_of d))

  -- the words before a source that has an ON
  abbrev write_inner : Bool → List Token → List Token
  write_inner true rest = Key word.Inner ∷ Key word.Join ∷ rest
  write_inner false rest = Key word.Join ∷ rest

  -- source ON cond, after [INNER] JOIN
  source_on_found : (inner : Bool) (ts : List Token) (x : FromItem × Option CondTree) (rest : List Token) → source_on build ts ≡ Some (x, rest) → IsWritten write_join next_of (write_inner inner ts) x rest
  unfolding source_on
  source_on_found inner ts x rest h =
      let f = then_found _ _ _ h in
      let g = guard_found _ _ _ f.2 in
      let c = then_found _ _ _ g.1 in
      let parts = pair_found _ _ _ _ c.2 in
      let of = source_sound ts f.0.0 f.0.1 f.1 in
      let on = where_cond_sound build (after_first f.0.1) c.0.0 c.0.1 c.1 in
      let behind = ap (λ q. write_source of.rule (Key word.On ∷ write_where on.rule q)) (sym parts.1) ∙ ap (λ q. write_source of.rule (Key word.On ∷ q)) on.written ∙ ap (write_source of.rule) (key_found word.On f.0.1 g.0) ∙ of.written in
      record {
        rule = JoinOn inner of.rule on.rule;
        written = joined_by inner of.rule on.rule ∙ ap (write_inner inner) behind;
        means = same_pair _ _ _ _ of.means (ap Some on.means) ∙ parts.0;
      }
    where
      joined_by : (inner : Bool) (of : _) (on : _) → write_join (JoinOn inner of on) rest ≡ write_inner inner (write_source of (Key word.On ∷ write_where on rest))
      joined_by true of on = refl
      joined_by false of on = refl

  joined_found : (ts : List Token) (j : Joint) (x : FromItem × Option CondTree) (rest : List Token) → joint_in (first_token ts) ≡ Some j → joined build j (after_first ts) ≡ Some (x, rest) → IsWritten write_join next_of ts x rest
  unfolding joined
  joined_found (token.Symbol symbol.Comma ∷ ts) j x rest e h =
      let h' = ap (λ j. joined build j ts) (value_found joint.Comma j e) ∙ h in
      let f = then_found _ _ _ h' in
      let parts = pair_found _ _ _ _ f.2 in
      let of = source_sound ts f.0.0 f.0.1 f.1 in
      record {
        rule = CommaSource of.rule;
        written = ap (λ q. sign symbol.Comma ∷ write_source of.rule q) (sym parts.1) ∙ ap (λ q. sign symbol.Comma ∷ q) of.written;
        means = same_pair _ _ _ _ of.means refl ∙ parts.0;
      }
  joined_found (Key word.Inner ∷ ts) j x rest e h =
      let h' = ap (λ j. joined build j ts) (value_found joint.Inner j e) ∙ h in
      let g = guard_found _ _ _ h' in
      let w = source_on_found true (after_first ts) x rest g.1 in
      record { rule = w.rule; written = w.written ∙ ap (λ q. Key word.Inner ∷ q) (key_found word.Join ts g.0); means = w.means }
  joined_found (Key word.Join ∷ ts) j x rest e h =
      let h' = ap (λ j. joined build j ts) (value_found joint.Join j e) ∙ h in
      source_on_found false ts x rest h'
  joined_found other j x rest e h = cc

  more_joins_found : (n : ℕ) (froms : List FromItem) (on : Option CondTree) (ts : List Token) (x : Sources) (rest : List Token) → joins build n (froms, option_map (cond_with build) on) ts ≡ Some (x, rest) → IsWritten write_joins (λ ds. (froms ++ map joined_source ds, option_map (cond_with build) (on_conds on ds))) ts x rest
  more_joins_found zero froms on ts x rest h =
      let e = no_joins_found build (froms, option_map (cond_with build) on) ts x rest h in
      record { rule = []; written = sym e.1; means = same_pair _ _ _ _ (append-nil froms) refl ∙ e.0 }
  more_joins_found (suc n) froms on ts x rest h =
      elim (joins_found build n (froms, option_map (cond_with build) on) ts x rest h) [
        | inl e ↦ record { rule = []; written = sym e.1; means = same_pair _ _ _ _ (append-nil froms) refl ∙ e.0 }
        | inr s ↦
            let next = joined_found ts s.joint s.next s.behind s.joint_is s.next_is in
            let more = more_joins_found n (froms ++ joined_source next.rule ∷ []) (also as_written on (on_of next.rule)) s.behind x rest
            (ap (λ c. joins build n (froms ++ joined_source next.rule ∷ [], c) s.behind) (sym (also_with on (on_of next.rule)))
            ∙ ap (λ x. joins build n (with_source build (froms, option_map (cond_with build) on) x) s.behind) next.means ∙ s.more) in
            record {
              rule = next.rule ∷ more.rule;
              written = ap (write_join next.rule) more.written ∙ next.written;
              means = same_pair _ _ _ _ (sym (append_assoc froms (joined_source next.rule ∷ []) (map joined_source more.rule))) (ap (option_map (cond_with build)) (on_next on next.rule more.rule)) ∙ more.means;
            }
      ]

  -- the sources of FROM
  abbrev write_sources : (NameRule × AliasRule) × List JoinRule → List Token → List Token
  write_sources s rest = write_source s.0 (write_joins s.1 rest)

  sources_sound : IsSound write_sources (λ s. (source_of s.0 ∷ map joined_source s.1, option_map (cond_with build) (on_conds None s.1))) (sources build)
  unfolding sources
  sources_sound ts x rest h =
      let f = then_found _ _ _ h in
      let first = source_sound ts f.0.0 f.0.1 f.1 in
      let more = more_joins_found (length f.0.1) (f.0.0 ∷ []) None f.0.1 x rest f.2 in
      record {
        rule = (first.rule, more.rule);
        written = ap (write_source first.rule) more.written ∙ first.written;
        means = same_pair _ _ _ _ (ap (λ s. s ∷ map joined_source more.rule) first.means) refl ∙ more.means;
      }

  having_cond_sound : IsSound (write_cond write_value) (λ d. cond_with build (cond_of value_of d)) (having_cond build)
  unfolding having_cond
  having_cond_sound ts x rest h = having_sound build ts x rest h

ascending_sound : IsSound write_order is_ascending ascending
unfolding ascending
ascending_sound ts x rest h = at (is_key word.Desc (first_token ts)) refl h
  where
    at_asc : (b : Bool) → is_key word.Asc (first_token ts) ≡ b → cond {A = Found Bool} b (Some (true, after_first ts)) (Some (true, ts)) ≡ Some (x, rest) → IsWritten write_order is_ascending ts x rest
    at_asc true e h = let parts = pair_found _ _ _ _ h in record { rule = AscOrder; written = ap (λ r. Key word.Asc ∷ r) (sym parts.1) ∙ key_found word.Asc ts e; means = parts.0 }
    at_asc false e h = let parts = pair_found _ _ _ _ h in record { rule = NoOrder; written = sym parts.1; means = parts.0 }

    at : (b : Bool) → is_key word.Desc (first_token ts) ≡ b → cond {A = Found Bool} b (Some (false, after_first ts)) (cond {A = Found Bool} (is_key word.Asc (first_token ts)) (Some (true, after_first ts)) (Some (true, ts))) ≡ Some (x, rest) → IsWritten write_order is_ascending ts x rest
    at true e h = let parts = pair_found _ _ _ _ h in record { rule = DescOrder; written = ap (λ r. Key word.Desc ∷ r) (sym parts.1) ∙ key_found word.Desc ts e; means = parts.0 }
    at false e h = at_asc (is_key word.Asc (first_token ts)) refl h

distinct_sound : IsSound write_distinct (λ b. b) (flag word.Distinct)
distinct_sound ts x rest h = flag_found word.Distinct write_distinct (λ rest. refl) (λ rest. refl) ts x rest h

-- ## Queries

module _ (build : Builder) (count : ℕ → ℕ) (long : ℕ → ℕ) where
  counted_sound : IsSound write_digits (λ d. count (number_of d)) (counted build count)
  unfolding counted
  counted_sound ts x rest h =
      let f = then_found _ _ _ h in
      let parts = pair_found _ _ _ _ f.2 in
      record { rule = f.0; written = ap (λ r. Digits f.0 ∷ r) (sym parts.1) ∙ digits_found ts f.0 f.1; means = parts.0 }

  place_sound : IsSound write_place (λ p. place_with build count long (place_of p)) (place build count)
  unfolding place
  place_sound ts x rest h =
      elim (given_found (digits_in (first_token ts)) _ _ (Some (x, rest)) h) [
        | inl e ↦
            let f = then_found _ _ _ e.1 in
            let parts = pair_found _ _ _ _ f.2 in
            let w = column_sound ts f.0.0 f.0.1 f.1 in
            record { rule = ColumnKey w.rule; written = ap (write_column w.rule) (sym parts.1) ∙ w.written; means = ap Named w.means ∙ parts.0 }
        | inr s ↦
            let parts = pair_found _ _ _ _ s.2 in
            record { rule = PositionKey s.0; written = ap (λ r. Digits s.0 ∷ r) (sym parts.1) ∙ digits_found ts s.0 s.1; means = parts.0 }
      ]

  key_sound : IsSound write_key (λ k. key_with build count long (key_of k)) (key build count)
  unfolding key
  key_sound ts x rest h =
      let f = then_found _ _ _ h in
      let g = then_found _ _ _ f.2 in
      let parts = pair_found _ _ _ _ g.2 in
      let at = place_sound ts f.0.0 f.0.1 f.1 in
      let up = ascending_sound f.0.1 g.0.0 g.0.1 g.1 in
      record {
        rule = (at.rule, up.rule);
        written = ap (λ r. write_place at.rule (write_order up.rule r)) (sym parts.1) ∙ ap (write_place at.rule) up.written ∙ at.written;
        means = ap (λ (p : Place). let k : SortKey = record { at = p; ascending = is_ascending up.rule } in k) at.means ∙ ap (λ (b : Bool). let k : SortKey = record { at = f.0.0; ascending = b } in k) up.means ∙ parts.0;
      }

  item_sound : IsSound write_item (λ i. item_with build count long (item_of i)) (item build)
  unfolding item
  item_sound ts x rest h =
      let f = then_found _ _ _ h in
      let g = then_found _ _ _ f.2 in
      let parts = pair_found _ _ _ _ g.2 in
      let e = value_sound build ts f.0.0 f.0.1 f.1 in
      let name = alias_sound f.0.1 g.0.0 g.0.1 g.1 in
      record {
        rule = (e.rule, name.rule);
        written = ap (λ r. write_value e.rule (write_alias name.rule r)) (sym parts.1) ∙ ap (write_value e.rule) name.written ∙ e.written;
        means = ap (λ (v : ExprTree). let i : ItemTree = record { expr = v; alias = alias_of name.rule } in i) e.means ∙ ap (λ (a : Option (List ℕ)). let i : ItemTree = record { expr = f.0.0; alias = a } in i) name.means ∙ parts.0;
      }

  items_sound : IsSound write_items (λ i. map (item_with build count long) (items_of i)) (items build)
  unfolding items
  items_sound ts x rest h = at (is_symbol symbol.Star (first_token ts)) refl h
    where
      at : (b : Bool) → is_symbol symbol.Star (first_token ts) ≡ b → cond {A = Found (List ItemTree)} b (Some ([], after_first ts)) (listed (item build) ts) ≡ Some (x, rest) → IsWritten write_items (λ i. map (item_with build count long) (items_of i)) ts x rest
      at true e h = let parts = pair_found _ _ _ _ h in record { rule = AllColumns; written = ap (λ r. sign symbol.Star ∷ r) (sym parts.1) ∙ symbol_found symbol.Star ts e; means = parts.0 }
      at false e h =
          let w = listed_found write_item item_of (item_with build count long) (item build) item_sound ts x rest h in
          record { rule = SomeItems w.rule; written = w.written; means = w.means }

  -- the parts of a query after its items
  abbrev from_tree : Bool → List ItemTree → List FromItem → Option CondTree → List ColRef → Option CondTree → List SortKey → Option ℕ → QueryTree
  from_tree distinct items froms on groups having keys limit = record { distinct = distinct; items = items; froms = froms; cond = on; groups = groups; having = having; keys = keys; limit = limit }

  same_from : (d : Bool) (i : List ItemTree) (a a' : List FromItem) (b b' : Option CondTree) (c c' : List ColRef) (e e' : Option CondTree) (k k' : List SortKey) (l l' : Option ℕ) → a ≡ a' → b ≡ b' → c ≡ c' → e ≡ e' → k ≡ k' → l ≡ l' → from_tree d i a b c e k l ≡ from_tree d i a' b' c' e' k' l'
  same_from d i a a' b b' c c' e e' k k' l l' p q r s t u =
      ap (λ a. from_tree d i a b c e k l) p ∙ ap (λ b. from_tree d i a' b c e k l) q ∙ ap (λ c. from_tree d i a' b' c e k l) r
      ∙ ap (λ e. from_tree d i a' b' c' e k l) s ∙ ap (λ k. from_tree d i a' b' c' e' k l) t ∙ ap (λ l. from_tree d i a' b' c' e' k' l) u

  from_found : (distinct : Bool) (list : List ItemTree) (ts : List Token) (x : QueryTree) (rest : List Token) → from build count distinct (map (item_with build count long) list) ts ≡ Some (x, rest) → IsWritten write_from (λ d. query_with build count long (query_from distinct list (Some d))) (Key word.From ∷ ts) x rest
  unfolding from
  from_found distinct list ts x rest h =
      let a = then_found _ _ _ h in
      let b = then_found _ _ _ a.2 in
      let c = then_found _ _ _ b.2 in
      let d = then_found _ _ _ c.2 in
      let e = then_found _ _ _ d.2 in
      let f = then_found _ _ _ e.2 in
      let parts = pair_found _ _ _ _ f.2 in
      let of = sources_sound build ts a.0.0 a.0.1 a.1 in
      let where_ = optional_found write_where where_of (cond_with build) (where_cond build) (where_cond_sound build) word.Where a.0.1 b.0.0 b.0.1 b.1 in
      let groups = groups_sound b.0.1 c.0.0 c.0.1 c.1 in
      let having = optional_found (write_cond write_value) (cond_of value_of) (cond_with build) (having_cond build) (having_cond_sound build) word.Having c.0.1 d.0.0 d.0.1 d.1 in
      let keys = listed_by_found write_key key_of (key_with build count long) (key build count) key_sound word.Order d.0.1 e.0.0 e.0.1 e.1 in
      let limit = optional_found write_digits number_of count (counted build count) counted_sound word.Limit e.0.1 f.0.0 f.0.1 f.1 in
      record {
        rule = record { source = of.rule.0; joins = of.rule.1; cond = where_.rule; groups = groups.rule; having = having.rule; keys = keys.rule; limit = limit.rule };
        written =
            ap (λ q. Key word.From ∷ write_sources build of.rule (write_behind write_where (word.Where ∷ []) where_.rule (write_behind (write_some write_column) (word.Group ∷ word.By ∷ []) groups.rule (write_behind (write_cond write_value) (word.Having ∷ []) having.rule (write_behind (write_some write_key) (word.Order ∷ word.By ∷ []) keys.rule (write_behind write_digits (word.Limit ∷ []) limit.rule q)))))) (sym parts.1)
            ∙ ap (λ q. Key word.From ∷ write_sources build of.rule (write_behind write_where (word.Where ∷ []) where_.rule (write_behind (write_some write_column) (word.Group ∷ word.By ∷ []) groups.rule (write_behind (write_cond write_value) (word.Having ∷ []) having.rule (write_behind (write_some write_key) (word.Order ∷ word.By ∷ []) keys.rule q))))) limit.written
            ∙ ap (λ q. Key word.From ∷ write_sources build of.rule (write_behind write_where (word.Where ∷ []) where_.rule (write_behind (write_some write_column) (word.Group ∷ word.By ∷ []) groups.rule (write_behind (write_cond write_value) (word.Having ∷ []) having.rule q)))) keys.written
            ∙ ap (λ q. Key word.From ∷ write_sources build of.rule (write_behind write_where (word.Where ∷ []) where_.rule (write_behind (write_some write_column) (word.Group ∷ word.By ∷ []) groups.rule q))) having.written
            ∙ ap (λ q. Key word.From ∷ write_sources build of.rule (write_behind write_where (word.Where ∷ []) where_.rule q)) groups.written
            ∙ ap (λ q. Key word.From ∷ write_sources build of.rule q) where_.written
            ∙ ap (λ q. Key word.From ∷ q) of.written;
        means =
            same_from distinct (map (item_with build count long) list) _ _ _ _ _ _ _ _ _ _ _ _
            (ap (λ (s : Sources). s.0) of.means)
            (ap (option_map (cond_with build)) (with_where_is (on_conds None of.rule.1) where_.rule) ∙ sym (also_with build (on_conds None of.rule.1) (option_map where_of where_.rule)) ∙ ap (λ c. also build (option_map (cond_with build) (on_conds None of.rule.1)) c) where_.means ∙ ap (λ (s : Sources). also build s.1 b.0.0) of.means)
            groups.means having.means keys.means limit.means
            ∙ parts.0;
      }

  optional_from_found : (distinct : Bool) (list : List ItemTree) (ts : List Token) (x : QueryTree) (rest : List Token) → optional_from build count distinct (map (item_with build count long) list) ts ≡ Some (x, rest) → IsWritten write_optional_from (λ d. query_with build count long (query_from distinct list d)) ts x rest
  unfolding optional_from
  optional_from_found distinct list ts x rest h = at (is_key word.From (first_token ts)) refl h
    where
      at : (b : Bool) → is_key word.From (first_token ts) ≡ b → cond {A = Found QueryTree} b (from build count distinct (map (item_with build count long) list) (after_first ts)) (Some (from_tree distinct (map (item_with build count long) list) [] None [] None [] None, ts)) ≡ Some (x, rest) → IsWritten write_optional_from (λ d. query_with build count long (query_from distinct list d)) ts x rest
      at true e h =
          let w = from_found distinct list (after_first ts) x rest h in
          record { rule = Some w.rule; written = w.written ∙ key_found word.From ts e; means = w.means }
      at false e h = let parts = pair_found _ _ _ _ h in record { rule = None; written = sym parts.1; means = parts.0 }

  query_found : (ts : List Token) (x : QueryTree) (rest : List Token) → query build count ts ≡ Some (x, rest) → IsWritten write_query (λ d. query_with build count long (query_of d)) (Key word.Select ∷ ts) x rest
  unfolding query
  query_found ts x rest h =
      let f = then_found _ _ _ h in
      let g = then_found _ _ _ f.2 in
      let distinct = distinct_sound ts f.0.0 f.0.1 f.1 in
      let list = items_sound f.0.1 g.0.0 g.0.1 g.1 in
      let w = optional_from_found f.0.0 (items_of list.rule) g.0.1 x rest (ap (λ i. optional_from build count f.0.0 i g.0.1) list.means ∙ g.2) in
      record {
        rule = record { distinct = distinct.rule; items = list.rule; from = w.rule };
        written =
            ap (λ q. Key word.Select ∷ write_distinct distinct.rule (write_items list.rule q)) w.written
            ∙ ap (λ q. Key word.Select ∷ write_distinct distinct.rule q) list.written
            ∙ ap (λ q. Key word.Select ∷ q) distinct.written;
        means = ap (λ b. query_with build count long (query_from b (items_of list.rule) w.rule)) distinct.means ∙ w.means;
      }

  -- ## Statements

  select_found : (ts : List Token) (x : StmtTree) → then_read {Y = StmtTree × List Token} (query build count ts) (λ query. Some (Select query.0, query.1)) ≡ Some (x, []) → IsForm build count long (Key word.Select ∷ ts) x
  select_found ts x h =
      let f = then_found _ _ _ h in
      let parts = pair_found _ _ _ _ f.2 in
      let w = query_found ts f.0.0 f.0.1 f.1 in
      record { rule = SelectRule w.rule; written = ap (write_query w.rule) (sym parts.1) ∙ w.written; means = ap Select w.means ∙ parts.0 }

  explain_found : (ts : List Token) (x : StmtTree) → explain build count ts ≡ Some (x, []) → IsForm build count long (Key word.Explain ∷ ts) x
  unfolding explain
  explain_found ts x h =
      let g = guard_found _ _ _ h in
      let f = then_found _ _ _ g.1 in
      let parts = pair_found _ _ _ _ f.2 in
      let w = query_found (after_first ts) f.0.0 f.0.1 f.1 in
      record {
        rule = ExplainRule w.rule;
        written = ap (λ q. Key word.Explain ∷ write_query w.rule q) (sym parts.1) ∙ ap (λ q. Key word.Explain ∷ q) w.written ∙ ap (λ q. Key word.Explain ∷ q) (key_found word.Select ts g.0);
        means = ap ExplainSelect w.means ∙ parts.0;
      }

  pub stmt_found : (ts : List Token) (x : StmtTree) → stmt build count long ts ≡ Some (x, []) → IsForm build count long ts x
  unfolding stmt
  stmt_found (Key word.Create ∷ ts) x h = create_found build count long ts x h
  stmt_found (Key word.Drop ∷ ts) x h = drop_found build count long ts x h
  stmt_found (Key word.Alter ∷ ts) x h = alter_found build count long ts x h
  stmt_found (Key word.Insert ∷ ts) x h = insert_found build count long ts x h
  stmt_found (Key word.Delete ∷ ts) x h = delete_found build count long ts x h
  stmt_found (Key word.Update ∷ ts) x h = update_found build count long ts x h
  stmt_found (Key word.Select ∷ ts) x h = select_found ts x h
  stmt_found (Key word.Explain ∷ ts) x h = explain_found ts x h
  stmt_found other x h = cc
