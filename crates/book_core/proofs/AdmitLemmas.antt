-- What a session offers is what the fold of the log offers, wherever the pool looks at it.
use Rattle.std.proofs.Common.{◌≡◌, ℕ, zero, suc, ◌^◌, ◌<◌, ◌≤◌, List, [], ◌∷◌, map, length, Bool, true, false, not, cond, Option, Some, None, refl, ap, sym, ◌∙◌, subst, arith}
use Rattle.std.specs.Prelude.{◌==◌, unwrap_or}
use Rattle.std.specs.List.{AllByRecursion, filter_map, find}
use Rattle.std.specs.Option.{option_and_then}
use Rattle.std.proofs.lemmas.Bool.{eqb-true}
use Rattle.cell_core.specs.declared.operator.Value.{Value}
use Rattle.cell_core.specs.declared.operator.Value.TheVariants.{Bat}
use Rattle.cell_core.specs.Operators.{operate, work_of}
use Rattle.cell_core.specs.Pairs.{Pairs, as_bat}
use Rattle.mal_meaning.specs.Meaning.{column_pairs}
use Rattle.lineage_key.specs.declared.key.Key.{Key}
use Rattle.lineage_key.specs.Parents.{id_in, is_bind, parents_of, table_of, column_of}
use Rattle.evict_admit.specs.Runs.{is_one_of}
use Rattle.subsume.proofs.Members.{In}
use Rattle.pool_policy.specs.declared.entry.Who.{Who}
use Rattle.pool_policy.specs.declared.entry.PoolEntry.{PoolEntry}
use Rattle.pool_policy.specs.declared.options.Admitted.{Admitted}
use Rattle.pool_policy.specs.declared.options.Admitted.TheVariants.{Stale}
use Rattle.pool_policy.specs.Pool.{PoolState}
use Rattle.pool_policy.specs.Keyed.{entry_of_key, is_missing, is_pooled}
use Rattle.pool_policy.specs.Admits.{Offer, admit_of, by_key, by_parents, is_other_version}
use Rattle.pool_policy.specs.Keeps.{Face, IsOffer, arg_value, faces}
use Rattle.pool_policy.specs.Worths.{IsWorth}
use Rattle.pool_policy.proofs.Ends.{all_from}
use Rattle.pool_policy.proofs.Faces.{ids_below, value_found}
use Rattle.pool_policy.proofs.Given.{offer_from_worth}
use Rattle.pool_policy.proofs.Lists.{all_at, in_among}
use Rattle.pool_policy.proofs.NewEntry.{pooled_value}
use Rattle.pool_policy.proofs.VersionLaws.{is_present}
use Rattle.run_log.specs.Fold.{LogState, bind_work, key_offer, key_present, key_value, key_work}
use Rattle.run_log.specs.Laws.{IsOffered, IsSound}
use Rattle.book_core.specs.Offers.{CanOffer}

-- what a session offers
abbrev pub offer_with : Key → Pairs → ℕ → LogState → Offer
offer_with key value work s = record { key = key; value = value; work = work; present = key_present key s }

module _ (s : LogState) (key : Key) (value : Pairs) (work : ℕ) (can : CanOffer key value work s) where
  -- a bind has no parents
  pub sole_of : is_bind key ≡ true → parents_of key ≡ []
  sole_of bind = let named = can.named bind in ap (filter_map id_in) named.3

  -- a value that is computed is the one of the key
  value_is : is_bind key ≡ false → operate key.op (map (arg_value s.given) key.args) ≡ Some (Bat value) → value ≡ key_value key s
  value_is plain e = sym (ap (λ b. cond b (column_pairs (table_of key) (column_of key) s.db) (unwrap_or (option_and_then as_bat (operate key.op (map (arg_value s.given) key.args))) [])) plain
      ∙ ap (λ (o : Option Value). unwrap_or (option_and_then as_bat o) []) e)

  -- where all parents have ids, the offers are the same
  same_offer : (is_bind key ≡ true → key.version ≡ key_present key s) → (is_bind key ≡ false → AllByRecursion (λ id. 0 < id) (parents_of key)) → offer_with key value work s ≡ key_offer key s
  same_offer present above = go (is_bind key) refl
    where
      go : (b : Bool) → is_bind key ≡ b → offer_with key value work s ≡ key_offer key s
      go true bind = let both = can.bound bind (present bind) in λ i. record { key = key; value = both.0 i; work = both.1 i; present = key_present key s }
      go false plain = let both = can.computed plain (above plain) in let is = value_is plain both.0 in λ i. record { key = key; value = is i; work = both.1 i; present = key_present key s }

  module _ (sound : IsSound s) where
    -- pooled parents have ids
    above : AllByRecursion (λ id. is_pooled s.pool.entries id ≡ true) (parents_of key) → AllByRecursion (λ id. 0 < id) (parents_of key)
    above pooled = all_from (λ id. 0 < id) (parents_of key) (λ id i.
        let found = value_found (faces s.pool.entries) id (pooled_value s.pool.entries id (all_at (λ id. is_pooled s.pool.entries id ≡ true) (parents_of key) id pooled i)) in
        let both = all_at (λ (g : Face). (1 ≤ g.id) × (g.id < s.pool.next)) (faces s.pool.entries) found.0 (ids_below 1 s.pool.next (faces s.pool.entries) sound.pool.rising) found.1 in omega (arith, both.0, found.2))

    -- where no parent is missing, all are pooled
    none_missing : (ids : List ℕ) → find (is_missing s.pool.entries) ids ≡ None → AllByRecursion (λ id. is_pooled s.pool.entries id ≡ true) ids
    none_missing [] e = tt
    none_missing (id ∷ ids) e = go (is_pooled s.pool.entries id) refl e (none_missing ids)
      where
        go : (b : Bool) → is_pooled s.pool.entries id ≡ b → cond (not b) (Some id) (find (is_missing s.pool.entries) ids) ≡ None
            → (find (is_missing s.pool.entries) ids ≡ None → AllByRecursion (λ id. is_pooled s.pool.entries id ≡ true) ids)
            → AllByRecursion (λ id. is_pooled s.pool.entries id ≡ true) (id ∷ ids)
        go true is f rest = (is, rest f)
        go false is f rest = cc

    pub same_admission : (who : Who) (now : ℕ) → admit_of who now (offer_with key value work s) s.pool ≡ admit_of who now (key_offer key s) s.pool
    same_admission who now = by_entry (entry_of_key key s.pool.entries)
      where
        at : PoolState
        at = record s.pool { moment = now }

        by_missing : is_other_version key (key_present key s) ≡ false → (missing : Option ℕ) → find (is_missing s.pool.entries) (parents_of key) ≡ missing
            → by_parents who now (offer_with key value work s) at missing ≡ by_parents who now (key_offer key s) at missing
        by_missing fits (Some id) e = refl
        by_missing fits None e = ap (λ (offer : Offer). by_parents who now offer at None)
            (same_offer (λ bind. is_present (key_offer key s) fits bind) (λ plain. above (none_missing (parents_of key) e)))

        by_version : (b : Bool) → is_other_version key (key_present key s) ≡ b
            → cond b (let r : Admitted × PoolState = (Stale (key_present key s), at) in r) (by_parents who now (offer_with key value work s) at (find (is_missing s.pool.entries) (parents_of key)))
            ≡ cond b (let r : Admitted × PoolState = (Stale (key_present key s), at) in r) (by_parents who now (key_offer key s) at (find (is_missing s.pool.entries) (parents_of key)))
        by_version true old = refl
        by_version false fits = by_missing fits (find (is_missing s.pool.entries) (parents_of key)) refl

        by_entry : (found : Option PoolEntry) → by_key who now (offer_with key value work s) at found ≡ by_key who now (key_offer key s) at found
        by_entry (Some e) = refl
        by_entry None = by_version (is_other_version key (key_present key s)) refl

    -- it is an offer that fits the pool
    pub offer_fits : IsOffer s.pool (offer_with key value work s)
    offer_fits = record {
      work = can.small;
      few = can.few;
      sole = sole_of;
      computed = λ plain pooled. (offer_from_worth s.given s.pool (offer_with key value work s) sound.given (worth pooled)).computed plain pooled;
    }
      where
        worth : AllByRecursion (λ id. is_pooled s.pool.entries id ≡ true) (parents_of key) → IsWorth s.given (offer_with key value work s)
        worth pooled = record { work = can.small; few = can.few; sole = sole_of; computed = λ plain. (can.computed plain (above pooled)).0 }

    -- and the event may follow
    pub may_offer : IsOffered key s
    may_offer = record {
      few = can.few;
      sole = sole_of;
      work = small (is_bind key) refl;
      computed = λ plain positive. let both = can.computed plain positive in both.0 ∙ ap (λ v. Some (Bat v)) (value_is plain both.0);
    }
      where
        nothing : 0 < 2 ^ 62
        nothing = omega arith

        given_small : (n : ℕ) → work ≡ n → n < 2 ^ 62
        given_small n e = subst (λ k. k < 2 ^ 62) e can.small

        bound_small : is_bind key ≡ true → (b : Bool) → (key.version == key_present key s) ≡ b → bind_work key s < 2 ^ 62
        bound_small bind true same = given_small (bind_work key s) ((can.bound bind (eqb-true key.version (key_present key s) same)).1 ∙ ap (λ b. cond b (bind_work key s) (cond (is_one_of (parents_of key) 0) 0 (work_of key.op (map (arg_value s.given) key.args)))) bind)
        bound_small bind false other = subst (λ k. k < 2 ^ 62) (sym (ap (λ b. cond b (length (column_pairs (table_of key) (column_of key) s.db)) 0) other)) nothing

        all_above : (ids : List ℕ) → is_one_of ids 0 ≡ false → AllByRecursion (λ id. 0 < id) ids
        all_above ids none = all_from (λ id. 0 < id) ids (λ id i. positive id i)
          where
            positive : (id : ℕ) → In id ids → 0 < id
            positive zero i = let there = in_among ids 0 i in let wrong : true ≡ false = sym there ∙ none in cc
            positive (suc n) i = omega arith

        plain_small : is_bind key ≡ false → (b : Bool) → is_one_of (parents_of key) 0 ≡ b → cond b 0 (work_of key.op (map (arg_value s.given) key.args)) < 2 ^ 62
        plain_small plain true zero_is = nothing
        plain_small plain false none =
            let both = can.computed plain (all_above (parents_of key) none) in
            given_small (work_of key.op (map (arg_value s.given) key.args)) (both.1 ∙ ap (λ b. cond b (bind_work key s) (cond (is_one_of (parents_of key) 0) 0 (work_of key.op (map (arg_value s.given) key.args)))) plain
            ∙ ap (λ b. cond b 0 (work_of key.op (map (arg_value s.given) key.args))) none)

        small : (b : Bool) → is_bind key ≡ b → key_work key s < 2 ^ 62
        small true bind = subst (λ k. k < 2 ^ 62) (sym (ap (λ b. cond b (bind_work key s) (cond (is_one_of (parents_of key) 0) 0 (work_of key.op (map (arg_value s.given) key.args)))) bind)) (bound_small bind (key.version == key_present key s) refl)
        small false plain = subst (λ k. k < 2 ^ 62) (sym (ap (λ b. cond b (bind_work key s) (cond (is_one_of (parents_of key) 0) 0 (work_of key.op (map (arg_value s.given) key.args)))) plain)) (plain_small plain (is_one_of (parents_of key) 0) refl)
