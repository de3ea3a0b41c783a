-- The steps of the loop over a text's parts.
use Rattle.std.proofs.Common.{◌≡◌, ℕ, zero, suc, ◌-◌, List, [], ◌∷◌, ◌++◌, length, drop, Option, Some, None, refl, ap, sym, ◌∙◌, append_assoc, append-nil}
use Rattle.sql_tree.specs.Tokens.{with_token}
use Rattle.text_bytes.specs.Found.{then_read}
use Rattle.sql_tree.specs.declared.token.Placed.{Placed}
use Rattle.sql_tree.specs.declared.token.Token.{Token}
use Rattle.read_laws.specs.TokenReader.{part_at, tokens_after, placed}

-- a skip is a cut
pub skip_drop : (all skip : ℕ) (bs : List ℕ) → tokens_after all skip bs ≡ tokens_after all 0 (drop skip bs)
skip_drop all zero bs = refl
skip_drop all (suc skip) [] = refl
skip_drop all (suc skip) (b ∷ bs) = skip_drop all skip bs

-- what is found in the rest follows the tokens so far
abbrev pub Continues : ℕ → Option (List Placed) → List Placed → List ℕ → Type 0
Continues all whole tokens rest = whole ≡ then_read (tokens_after all 0 rest) (λ more. Some (tokens ++ more))

pub tokens_start : (all : ℕ) (bs : List ℕ) → Continues all (tokens_after all 0 bs) [] bs
tokens_start all bs = elim (tokens_after all 0 bs) as (λ o. o ≡ then_read o (λ more. Some ([] ++ more))) [ None ↦ refl | Some ts ↦ refl ]

pub tokens_end : (all : ℕ) (whole : Option (List Placed)) (tokens : List Placed) → Continues all whole tokens [] → whole ≡ Some tokens
tokens_end all whole tokens told = told ∙ ap Some (append-nil tokens)

module _ (all : ℕ) (whole : Option (List Placed)) (tokens : List Placed) (b : ℕ) (bs : List ℕ) (told : Continues all whole tokens (b ∷ bs)) where
  pub tokens_step : (new : List Placed) (n : ℕ) (t : Option Token) → part_at b bs ≡ Some (t, n) → new ≡ tokens ++ placed (all - length (b ∷ bs)) (all - length (drop n bs)) t → Continues all whole new (drop n bs)
  tokens_step new n t part added =
      told
      ∙ ap (λ o. then_read (then_read o (λ part. then_read (tokens_after all part.1 bs) (λ more. Some (with_token all (length (b ∷ bs)) (length (drop part.1 bs)) part.0 more)))) (λ more. Some (tokens ++ more))) part
      ∙ inner (tokens_after all n bs)
      ∙ ap (λ o. then_read o (λ more. Some (new ++ more))) (skip_drop all n bs)
    where
      joined : (more : List Placed) → tokens ++ with_token all (length (b ∷ bs)) (length (drop n bs)) t more ≡ new ++ more
      joined more = elim t as (λ t. new ≡ tokens ++ placed (all - length (b ∷ bs)) (all - length (drop n bs)) t → tokens ++ with_token all (length (b ∷ bs)) (length (drop n bs)) t more ≡ new ++ more) [
        | None ↦ λ e. sym (ap (λ ts. ts ++ more) (e ∙ append-nil tokens))
        | Some t ↦ λ e. sym (ap (λ ts. ts ++ more) e ∙ append_assoc tokens _ more)
      ] added

      inner : (o : Option (List Placed)) → then_read (then_read o (λ more. Some (with_token all (length (b ∷ bs)) (length (drop n bs)) t more))) (λ more. Some (tokens ++ more)) ≡ then_read o (λ more. Some (new ++ more))
      inner None = refl
      inner (Some more) = ap Some (joined more)

  pub tokens_stop : part_at b bs ≡ None → whole ≡ None
  tokens_stop part =
      told ∙ ap (λ o. then_read (then_read o (λ part. then_read (tokens_after all part.1 bs) (λ more. Some (with_token all (length (b ∷ bs)) (length (drop part.1 bs)) part.0 more)))) (λ more. Some (tokens ++ more))) part
