-- What may follow a part of a statement.
use Rattle.std.proofs.Common.{◌≡◌, ℕ, ◌<◌, List, [], ◌∷◌, Bool, true, false, Option, Some, None, refl, arith}
use Rattle.sql_grammar.specs.Grammar.{write_more, write_behind}
use Rattle.read_laws.specs.Chain.{first_token}
use Rattle.read_laws.specs.CondReader.{or_in, and_in}
use Rattle.read_laws.specs.Parts.{is_key, comma_in}
use Rattle.read_laws.specs.ExprReader.{sign_in, star_in, is_dot, name_in}
use Rattle.read_laws.proofs.CondComplete.{EndsCond}
use Rattle.read_laws.proofs.ExprComplete.{EndsExpr}
use Rattle.sql_tree.specs.declared.token.Keyword.TheVariants as word
use Rattle.sql_tree.specs.declared.token.Symbol.TheVariants as symbol
use Rattle.sql_tree.specs.declared.token.Token.{Token}
use Rattle.sql_tree.specs.declared.token.Token.TheVariants.{Name, Quoted, Key}
use Rattle.sql_tree.specs.declared.token.Token.TheVariants as token
use Rattle.read_laws.specs.StmtReader.{joint_in}

-- the token, or the end, goes on with no part of a list
abbrev pub is_end : Option Token → Bool
is_end None = true
is_end (Some (token.Symbol symbol.Comma)) = true
is_end (Some (token.Symbol symbol.Close)) = true
is_end (Some (Key word.From)) = true
is_end (Some (Key word.Where)) = true
is_end (Some (Key word.Group)) = true
is_end (Some (Key word.Having)) = true
is_end (Some (Key word.Order)) = true
is_end (Some (Key word.Limit)) = true
is_end (Some (Key word.On)) = true
is_end (Some (Key word.Inner)) = true
is_end (Some (Key word.Join)) = true
is_end other = false

abbrev pub IsEnd : List Token → Type 0
IsEnd ts = is_end (first_token ts) ≡ true

pub plain_end : (ts : List Token) → is_dot (first_token ts) ≡ false → star_in (first_token ts) ≡ None → sign_in (first_token ts) ≡ None → EndsExpr ts
plain_end ts dot star sign_ = record { term_ends = record { factor_ends = record { no_dot = dot }; no_star = star }; no_sign = sign_ }

cond_end : (ts : List Token) → is_dot (first_token ts) ≡ false → star_in (first_token ts) ≡ None → sign_in (first_token ts) ≡ None → and_in (first_token ts) ≡ None → or_in (first_token ts) ≡ None → EndsCond ts
cond_end ts dot star sign_ and or = record { conj_ends = record { expr_ends = plain_end ts dot star sign_; no_and = and }; no_or = or }

-- a condition ends there, and so an expression
pub end_ends : (ts : List Token) → IsEnd ts → EndsCond ts
end_ends [] h = cond_end [] refl refl refl refl refl
end_ends (token.Symbol symbol.Comma ∷ ts) h = cond_end (token.Symbol symbol.Comma ∷ ts) refl refl refl refl refl
end_ends (token.Symbol symbol.Close ∷ ts) h = cond_end (token.Symbol symbol.Close ∷ ts) refl refl refl refl refl
end_ends (Key word.From ∷ ts) h = cond_end (Key word.From ∷ ts) refl refl refl refl refl
end_ends (Key word.Where ∷ ts) h = cond_end (Key word.Where ∷ ts) refl refl refl refl refl
end_ends (Key word.Group ∷ ts) h = cond_end (Key word.Group ∷ ts) refl refl refl refl refl
end_ends (Key word.Having ∷ ts) h = cond_end (Key word.Having ∷ ts) refl refl refl refl refl
end_ends (Key word.Order ∷ ts) h = cond_end (Key word.Order ∷ ts) refl refl refl refl refl
end_ends (Key word.Limit ∷ ts) h = cond_end (Key word.Limit ∷ ts) refl refl refl refl refl
end_ends (Key word.On ∷ ts) h = cond_end (Key word.On ∷ ts) refl refl refl refl refl
end_ends (Key word.Inner ∷ ts) h = cond_end (Key word.Inner ∷ ts) refl refl refl refl refl
end_ends (Key word.Join ∷ ts) h = cond_end (Key word.Join ∷ ts) refl refl refl refl refl
end_ends other h = cc

pub end_expr : (ts : List Token) → IsEnd ts → EndsExpr ts
end_expr ts h = let ends = end_ends ts h in ends.conj_ends.expr_ends

pub end_no_name : (o : Option Token) → is_end o ≡ true → name_in o ≡ None
end_no_name (Some (Name name)) h = cc
end_no_name (Some (Quoted name)) h = cc
end_no_name other h = refl

pub end_no_as : (o : Option Token) → is_end o ≡ true → is_key word.As o ≡ false
unfolding is_key
end_no_as (Some (Key word.As)) h = cc
end_no_as other h = refl

pub end_no_asc : (o : Option Token) → is_end o ≡ true → is_key word.Asc o ≡ false
unfolding is_key
end_no_asc (Some (Key word.Asc)) h = cc
end_no_asc other h = refl

pub end_no_desc : (o : Option Token) → is_end o ≡ true → is_key word.Desc o ≡ false
unfolding is_key
end_no_desc (Some (Key word.Desc)) h = cc
end_no_desc other h = refl

pub end_no_not : (o : Option Token) → is_end o ≡ true → is_key word.Not o ≡ false
unfolding is_key
end_no_not (Some (Key word.Not)) h = cc
end_no_not other h = refl

pub end_no_default : (o : Option Token) → is_end o ≡ true → is_key word.Default o ≡ false
unfolding is_key
end_no_default (Some (Key word.Default)) h = cc
end_no_default other h = refl

-- ## The clauses of a query, in their order

-- the place of the clause that the token begins, after FROM; 0 for none of them, 6 at the end
abbrev pub clause : Option Token → ℕ
clause None = 6
clause (Some (Key word.Where)) = 1
clause (Some (Key word.Group)) = 2
clause (Some (Key word.Having)) = 3
clause (Some (Key word.Order)) = 4
clause (Some (Key word.Limit)) = 5
clause other = 0

-- the tokens begin with a clause after the one at this place
abbrev pub IsPast : ℕ → List Token → Type 0
IsPast n ts = n < clause (first_token ts)

pub past_end : (o : Option Token) → 0 < clause o → is_end o ≡ true
past_end None h = refl
past_end (Some (Key word.Where)) h = refl
past_end (Some (Key word.Group)) h = refl
past_end (Some (Key word.Having)) h = refl
past_end (Some (Key word.Order)) h = refl
past_end (Some (Key word.Limit)) h = refl
past_end other h = absurd (omega arith)

pub past_no_comma : (o : Option Token) → 0 < clause o → comma_in o ≡ None
past_no_comma (Some (token.Symbol symbol.Comma)) h = absurd (omega arith)
past_no_comma other h = refl

pub past_no_joint : (o : Option Token) → 0 < clause o → joint_in o ≡ None
past_no_joint (Some (token.Symbol symbol.Comma)) h = absurd (omega arith)
past_no_joint (Some (Key word.Inner)) h = absurd (omega arith)
past_no_joint (Some (Key word.Join)) h = absurd (omega arith)
past_no_joint other h = refl

pub past_no_where : (o : Option Token) → 1 < clause o → is_key word.Where o ≡ false
unfolding is_key
past_no_where (Some (Key word.Where)) h = absurd (omega arith)
past_no_where other h = refl

pub past_no_group : (o : Option Token) → 2 < clause o → is_key word.Group o ≡ false
unfolding is_key
past_no_group (Some (Key word.Group)) h = absurd (omega arith)
past_no_group other h = refl

pub past_no_having : (o : Option Token) → 3 < clause o → is_key word.Having o ≡ false
unfolding is_key
past_no_having (Some (Key word.Having)) h = absurd (omega arith)
past_no_having other h = refl

pub past_no_order : (o : Option Token) → 4 < clause o → is_key word.Order o ≡ false
unfolding is_key
past_no_order (Some (Key word.Order)) h = absurd (omega arith)
past_no_order other h = refl

pub past_no_limit : (o : Option Token) → 5 < clause o → is_key word.Limit o ≡ false
unfolding is_key
past_no_limit (Some (Key word.Limit)) h = absurd (omega arith)
past_no_limit other h = refl

module _ {D : Type 0} (write : D → List Token → List Token) where
  pub more_end : (ds : List D) (rest : List Token) → IsEnd rest → IsEnd (write_more write ds rest)
  more_end [] rest h = h
  more_end (d ∷ ds) rest h = refl

  pub limit_past : (o : Option D) (rest : List Token) → IsPast 5 rest → IsPast 4 (write_behind write (word.Limit ∷ []) o rest)
  limit_past None rest h = omega arith
  limit_past (Some d) rest h = omega arith

  pub order_past : (o : Option D) (rest : List Token) → IsPast 4 rest → IsPast 3 (write_behind write (word.Order ∷ word.By ∷ []) o rest)
  order_past None rest h = omega arith
  order_past (Some d) rest h = omega arith

  pub having_past : (o : Option D) (rest : List Token) → IsPast 3 rest → IsPast 2 (write_behind write (word.Having ∷ []) o rest)
  having_past None rest h = omega arith
  having_past (Some d) rest h = omega arith

  pub group_past : (o : Option D) (rest : List Token) → IsPast 2 rest → IsPast 1 (write_behind write (word.Group ∷ word.By ∷ []) o rest)
  group_past None rest h = omega arith
  group_past (Some d) rest h = omega arith

  pub where_past : (o : Option D) (rest : List Token) → IsPast 1 rest → IsPast 0 (write_behind write (word.Where ∷ []) o rest)
  where_past None rest h = omega arith
  where_past (Some d) rest h = omega arith
