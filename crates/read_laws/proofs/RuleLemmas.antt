-- Past the last token no rule applies.
use Rattle.std.proofs.Common.{◌≡◌, ℕ, ◌<◌, ◌≤◌, List, true, false, refl, ap, arith, length, nat_lt, ltb-true, ltb-false}
use Rattle.std.specs.Prelude.{None}
use Rattle.std.proofs.lemmas.Option.{slice_get_past}
use Rattle.std.proofs.lemmas.List.{length-map}
use Rattle.sql_tree.specs.declared.token.Placed.{Placed}
use Rattle.sql_grammar.specs.Reads.{tokens_in}
use Rattle.sql_grammar.specs.Refused.{rule_at, rule_of}

pub no_rule_past : (all : List Placed) (n : ℕ) → ((k : ℕ) → k < n → rule_at (tokens_in all) k ≡ None) → length all ≤ n → (k : ℕ) → rule_at (tokens_in all) k ≡ None
no_rule_past all n below few k = elim (nat_lt k n) as (λ r. nat_lt k n ≡ r → rule_at (tokens_in all) k ≡ None) [
  | true ↦ λ e. below k (ltb-true k n e)
  | false ↦ λ e.
      let past = ltb-false k n e in
      let same : length (tokens_in all) ≡ length all = length-map all (λ (placed : Placed). placed.token) in
      ap (rule_of (tokens_in all) k) (slice_get_past (tokens_in all) k (omega (arith, past, same)))
] refl
