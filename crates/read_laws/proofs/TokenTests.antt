-- The tests of tokens and the tokens that pass them.
use Rattle.std.proofs.Common.{◌≡◌, ℕ, List, ◌∷◌, true, Some, refl, ap, sym, ◌∙◌}
use denote.Enum.Bare.{same_true}
use Rattle.sql_grammar.specs.Grammar.{sign, SignRule, write_sign, sign_op, NameRule, write_name, name_of}
use Rattle.sql_grammar.specs.Grammar.SignRule.{PlusSign, MinusSign}
use Rattle.sql_grammar.specs.Grammar.NameRule.{BareName, QuotedName}
use Rattle.read_laws.specs.Chain.{first_token, after_first}
use Rattle.read_laws.specs.Parts.{is_key, is_symbol, comma_in}
use Rattle.read_laws.specs.ExprReader.{sign_in, star_in, is_dot, is_close, digits_in, text_in, name_in, closed}
use Rattle.read_laws.proofs.ChainLemmas.{cond_found}
use Rattle.sql_tree.specs.contracts.token.Keyword.{the_type as the_keywords}
use Rattle.sql_tree.specs.contracts.token.Symbol.{the_type as the_symbols}
use Rattle.sql_tree.specs.declared.token.Keyword.{Keyword}
use Rattle.sql_tree.specs.declared.token.Symbol.{Symbol}
use Rattle.sql_tree.specs.declared.token.Symbol.TheVariants as symbol
use Rattle.sql_tree.specs.declared.token.Token.{Token}
use Rattle.sql_tree.specs.declared.token.Token.TheVariants.{Name, Quoted, Text, Digits, Key}
use Rattle.sql_tree.specs.declared.token.Token.TheVariants as token
use Rattle.sql_tree.specs.declared.tree.ArithOp.{ArithOp}
use Rattle.sql_tree.specs.declared.tree.ArithOp.TheVariants as arith
use Rattle.text_bytes.proofs.FoundLemmas.{pair_found, value_found}

pub sign_told : (s : SignRule) → sign_in (Some (write_sign s)) ≡ Some (sign_op s)
sign_told PlusSign = refl
sign_told MinusSign = refl

pub sign_found : (ts : List Token) (o : ArithOp) → sign_in (first_token ts) ≡ Some o → (s : SignRule) × (write_sign s ∷ after_first ts ≡ ts) × (sign_op s ≡ o)
sign_found (token.Symbol symbol.Plus ∷ ts) o h = (PlusSign, refl, value_found _ _ h)
sign_found (token.Symbol symbol.Minus ∷ ts) o h = (MinusSign, refl, value_found _ _ h)
sign_found other o h = cc

pub star_found : (ts : List Token) (o : ArithOp) → star_in (first_token ts) ≡ Some o → (sign symbol.Star ∷ after_first ts ≡ ts) × (arith.Times ≡ o)
star_found (token.Symbol symbol.Star ∷ ts) o h = (refl, value_found _ _ h)
star_found other o h = cc

pub dot_found : (ts : List Token) → is_dot (first_token ts) ≡ true → sign symbol.Dot ∷ after_first ts ≡ ts
dot_found (token.Symbol symbol.Dot ∷ ts) h = refl
dot_found other h = cc

pub close_found : (ts : List Token) → is_close (first_token ts) ≡ true → sign symbol.Close ∷ after_first ts ≡ ts
close_found (token.Symbol symbol.Close ∷ ts) h = refl
close_found other h = cc

pub digits_found : (ts : List Token) (digits : List ℕ) → digits_in (first_token ts) ≡ Some digits → Digits digits ∷ after_first ts ≡ ts
digits_found (Digits found ∷ ts) digits h = ap (λ d. Digits d ∷ ts) (sym (value_found found digits h))
digits_found other digits h = cc

pub text_found : (ts : List Token) (text : List ℕ) → text_in (first_token ts) ≡ Some text → Text text ∷ after_first ts ≡ ts
text_found (Text found ∷ ts) text h = ap (λ t. Text t ∷ ts) (sym (value_found found text h))
text_found other text h = cc

pub name_found : (ts : List Token) (name : List ℕ) → name_in (first_token ts) ≡ Some name → (rule : NameRule) × (write_name rule (after_first ts) ≡ ts) × (name_of rule ≡ name)
name_found (Name found ∷ ts) name h = (BareName found, refl, value_found _ _ h)
name_found (Quoted found ∷ ts) name h = (QuotedName found, refl, value_found _ _ h)
name_found other name h = cc

pub key_found : (word : Keyword) (ts : List Token) → is_key word (first_token ts) ≡ true → Key word ∷ after_first ts ≡ ts
unfolding is_key
key_found word (Key found ∷ ts) h = ap (λ w. Key w ∷ ts) (sym (same_true the_keywords tt found word h))
key_found word other h = cc

pub symbol_found : (symbol : Symbol) (ts : List Token) → is_symbol symbol (first_token ts) ≡ true → sign symbol ∷ after_first ts ≡ ts
unfolding is_symbol
symbol_found symbol (token.Symbol found ∷ ts) h = ap (λ s. sign s ∷ ts) (sym (same_true the_symbols tt found symbol h))
symbol_found symbol other h = cc

pub comma_found : (ts : List Token) (s : Symbol) → comma_in (first_token ts) ≡ Some s → sign symbol.Comma ∷ after_first ts ≡ ts
comma_found (token.Symbol symbol.Comma ∷ ts) s h = refl
comma_found other s h = cc

-- what is closed comes before `)`
pub closed_found : {X : Type 0} (found : X × List Token) (x : X) (rest : List Token) → closed found ≡ Some (x, rest) → (found.0 ≡ x) × (sign symbol.Close ∷ rest ≡ found.1)
closed_found found x rest h =
    let c = cond_found (is_close (first_token found.1)) (found.0, after_first found.1) (x, rest) h in
    let parts = pair_found found.0 x (after_first found.1) rest (ap Some c.1) in
    (parts.0, ap (λ r. sign symbol.Close ∷ r) (sym parts.1) ∙ close_found found.1 c.0)
