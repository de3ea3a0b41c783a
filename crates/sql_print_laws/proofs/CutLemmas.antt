-- Texts with their tokens, put together part by part before the rest of a text.
use Rattle.std.proofs.Common.{◌≡◌, ℕ, ◌==◌, List, [], ◌∷◌, ◌++◌, length, Bool, true, not, ◌||◌, Option, Some, None, refl, ap, sym, ◌∙◌, subst, append_assoc, append-nil}
use Rattle.sql_grammar.specs.Grammar.{sign}
use Rattle.sql_grammar.specs.Reads.{tokens_in}
use Rattle.sql_tree.specs.Bytes.{is_word_byte, begins}
use Rattle.sql_tree.specs.Tokens.{Part, write_part, written, Fits, AllFit, token_of, with_token, tokens_of, AreTokens, symbol_text, ends_symbol}
use Rattle.sql_tree.specs.Tokens.Part.{Blank, Mark}
use Rattle.sql_tree.specs.declared.token.Placed.{Placed}
use Rattle.sql_tree.specs.declared.token.Symbol.{Symbol}
use Rattle.sql_tree.specs.declared.token.Symbol.TheVariants as symbol
use Rattle.sql_tree.specs.declared.token.Token.{Token}

-- ## Cuts

-- a token, if it is one, before others
abbrev pub with_only : Option Token → List Token → List Token
with_only None ts = ts
with_only (Some t) ts = t ∷ ts

-- the tokens of the parts, without their places
abbrev pub tokens_only : List Part → List Token
tokens_only [] = []
tokens_only (part ∷ parts) = with_only (token_of part) (tokens_only parts)

-- a text is cut into parts that have these tokens
pub record Cut (text : List ℕ) (tokens : List Token) : Type 0 where
  pub parts : List Part
  pub text_is : written parts ≡ text
  pub fit : AllFit parts
  pub tokens_are : tokens_only parts ≡ tokens

pub nothing : Cut [] []
nothing = record { parts = []; text_is = refl; fit = tt; tokens_are = refl }

-- a part more
pub put : (part : Part) (rest : List ℕ) (ts : List Token) → Fits part rest → Cut rest ts → Cut (write_part part rest) (with_only (token_of part) ts)
put part rest ts fits cut = record {
  parts = part ∷ cut.parts;
  text_is = ap (write_part part) cut.text_is;
  fit = (subst (Fits part) (sym cut.text_is) fits, cut.fit);
  tokens_are = ap (with_only (token_of part)) cut.tokens_are;
}

only_tokens : (all : ℕ) (parts : List Part) → tokens_in (tokens_of all parts) ≡ tokens_only parts
only_tokens all [] = refl
only_tokens all (part ∷ parts) = by_token (only_tokens all parts) (token_of part)
  where
    by_token : tokens_in (tokens_of all parts) ≡ tokens_only parts → (o : Option Token) → tokens_in (with_token all (length (write_part part (written parts))) (length (written parts)) o (tokens_of all parts)) ≡ with_only o (tokens_only parts)
    by_token more None = more
    by_token more (Some t) = ap (λ ts. t ∷ ts) more

-- the tokens of a cut are those of its text
pub cut_tokens : (text : List ℕ) (ts : List Token) → Cut text ts → (all : List Placed) × AreTokens text all × (tokens_in all ≡ ts)
cut_tokens text ts cut =
    (tokens_of (length text) cut.parts, record { parts = cut.parts; text_is = cut.text_is; fit = cut.fit; tokens_are = refl }, only_tokens (length text) cut.parts ∙ cut.tokens_are)

-- ## Texts before the rest

-- a word, a number, a name in quotes and a string don't go on with this byte
abbrev pub goes_on : ℕ → Bool
goes_on b = is_word_byte b || (b == 34) || (b == 39)

-- they end before the rest of a text
abbrev pub ends : List ℕ → Bool
ends rest = not (begins goes_on rest)

-- a text with its tokens, before whatever follows
pub record Lead (text : List ℕ) (write : List Token → List Token) : Type 0 where
  pub lead : (rest : List ℕ) (ts : List Token) → Cut rest ts → Cut (text ++ rest) (write ts)

-- a text with its tokens, before what ends it
pub record Printed (text : List ℕ) (write : List Token → List Token) : Type 0 where
  pub printed : (rest : List ℕ) (ts : List Token) → Cut rest ts → ends rest ≡ true → Cut (text ++ rest) (write ts)

-- such a text that itself ends what comes before it
pub record Tail (text : List ℕ) (write : List Token → List Token) : Type 0 where
  pub tail : Printed text write
  pub opens : (rest : List ℕ) → ends rest ≡ true → ends (text ++ rest) ≡ true

-- a text that ends what comes before it, whatever follows
pub record Middle (text : List ℕ) (write : List Token → List Token) : Type 0 where
  pub middle : Lead text write
  pub opens : (rest : List ℕ) → ends (text ++ rest) ≡ true

module _ {a b : List ℕ} {w v : List Token → List Token} where
  pub lead_lead : Lead a w → Lead b v → Lead (a ++ b) (λ ts. w (v ts))
  lead_lead x y = record { lead = λ rest ts cut. subst (λ text. Cut text (w (v ts))) (sym (append_assoc a b rest)) (x.lead (b ++ rest) (v ts) (y.lead rest ts cut)) }

  pub lead_then : Lead a w → Printed b v → Printed (a ++ b) (λ ts. w (v ts))
  lead_then x y = record { printed = λ rest ts cut h. subst (λ text. Cut text (w (v ts))) (sym (append_assoc a b rest)) (x.lead (b ++ rest) (v ts) (y.printed rest ts cut h)) }

  pub then_tail : Printed a w → Tail b v → Printed (a ++ b) (λ ts. w (v ts))
  then_tail x y = record { printed = λ rest ts cut h. subst (λ text. Cut text (w (v ts))) (sym (append_assoc a b rest)) (x.printed (b ++ rest) (v ts) (y.tail.printed rest ts cut h) (y.opens rest h)) }

  pub tails : Tail a w → Tail b v → Tail (a ++ b) (λ ts. w (v ts))
  tails x y = record { tail = then_tail x.tail y; opens = λ rest h. subst (λ text. ends text ≡ true) (sym (append_assoc a b rest)) (x.opens (b ++ rest) (y.opens rest h)) }

  pub then_middle : Printed a w → Middle b v → Lead (a ++ b) (λ ts. w (v ts))
  then_middle x y = record { lead = λ rest ts cut. subst (λ text. Cut text (w (v ts))) (sym (append_assoc a b rest)) (x.printed (b ++ rest) (v ts) (y.middle.lead rest ts cut) (y.opens rest)) }

  pub middle_lead : Middle a w → Lead b v → Middle (a ++ b) (λ ts. w (v ts))
  middle_lead x y = record { middle = lead_lead x.middle y; opens = λ rest. subst (λ text. ends text ≡ true) (sym (append_assoc a b rest)) (x.opens (b ++ rest)) }

  pub middle_then : Middle a w → Printed b v → Tail (a ++ b) (λ ts. w (v ts))
  middle_then x y = record { tail = lead_then x.middle y; opens = λ rest h. subst (λ text. ends text ≡ true) (sym (append_assoc a b rest)) (x.opens (b ++ rest)) }

pub no_tail : Tail [] (λ ts. ts)
no_tail = record { tail = record { printed = λ rest ts cut h. cut }; opens = λ rest h. h }

-- what is printed up to the end
pub whole : (text : List ℕ) (write : List Token → List Token) → Printed text write → Cut text (write [])
whole text write x = subst (λ text. Cut text (write [])) (append-nil text) (x.printed [] [] nothing refl)

pub from_lead : {text : List ℕ} {write : List Token → List Token} → Lead text write → Printed text write
from_lead x = record { printed = λ rest ts cut h. x.lead rest ts cut }

-- ## Blanks and symbols

pub blank : Lead (32 ∷ []) (λ ts. ts)
blank = record { lead = λ rest ts cut. put (Blank 32) rest ts refl cut }

pub blank_middle : Middle (32 ∷ []) (λ ts. ts)
blank_middle = record { middle = blank; opens = λ rest. refl }

-- after a blank
pub spaced : {text : List ℕ} {write : List Token → List Token} → Printed text write → Tail (32 ∷ text) write
spaced x = record { tail = lead_then blank x; opens = λ rest h. refl }

before_blank : (s : Symbol) (rest : List ℕ) → ends_symbol (symbol_text s) (32 ∷ rest) ≡ true
before_blank symbol.Open rest = refl
before_blank symbol.Close rest = refl
before_blank symbol.Comma rest = refl
before_blank symbol.Dot rest = refl
before_blank symbol.Star rest = refl
before_blank symbol.Plus rest = refl
before_blank symbol.Minus rest = refl
before_blank symbol.Equal rest = refl
before_blank symbol.Less rest = refl
before_blank symbol.LessEqual rest = refl
before_blank symbol.Greater rest = refl
before_blank symbol.GreaterEqual rest = refl
before_blank symbol.NotEqual rest = refl
before_blank symbol.BangEqual rest = refl
before_blank symbol.Slash rest = refl
before_blank symbol.Percent rest = refl
before_blank symbol.Bars rest = refl

mark_blank : (s : Symbol) → Lead (symbol_text s ++ 32 ∷ []) (λ ts. sign s ∷ ts)
mark_blank s = record { lead = λ rest ts cut. subst (λ text. Cut text (sign s ∷ ts)) (sym (append_assoc (symbol_text s) (32 ∷ []) rest)) (put (Mark s) (32 ∷ rest) ts (before_blank s rest) (put (Blank 32) rest ts refl cut)) }

-- a symbol between blanks
pub spaced_mark : (s : Symbol) → Middle (32 ∷ symbol_text s ++ 32 ∷ []) (λ ts. sign s ∷ ts)
spaced_mark s = record { middle = lead_lead blank (mark_blank s); opens = λ rest. refl }

-- the symbols that no byte makes a pair with
open_fits : (rest : List ℕ) → ends_symbol (40 ∷ []) rest ≡ true
open_fits [] = refl
open_fits (b ∷ rest) = refl

close_fits : (rest : List ℕ) → ends_symbol (41 ∷ []) rest ≡ true
close_fits [] = refl
close_fits (b ∷ rest) = refl

dot_fits : (rest : List ℕ) → ends_symbol (46 ∷ []) rest ≡ true
dot_fits [] = refl
dot_fits (b ∷ rest) = refl

star_fits : (rest : List ℕ) → ends_symbol (42 ∷ []) rest ≡ true
star_fits [] = refl
star_fits (b ∷ rest) = refl

pub open_mark : Middle (40 ∷ []) (λ ts. sign symbol.Open ∷ ts)
open_mark = record { middle = record { lead = λ rest ts cut. put (Mark symbol.Open) rest ts (open_fits rest) cut }; opens = λ rest. refl }

pub close_mark : Lead (41 ∷ []) (λ ts. sign symbol.Close ∷ ts)
close_mark = record { lead = λ rest ts cut. put (Mark symbol.Close) rest ts (close_fits rest) cut }

pub dot_mark : Middle (46 ∷ []) (λ ts. sign symbol.Dot ∷ ts)
dot_mark = record { middle = record { lead = λ rest ts cut. put (Mark symbol.Dot) rest ts (dot_fits rest) cut }; opens = λ rest. refl }

pub star_mark : Lead (42 ∷ []) (λ ts. sign symbol.Star ∷ ts)
star_mark = record { lead = λ rest ts cut. put (Mark symbol.Star) rest ts (star_fits rest) cut }

-- a comma and a blank
pub comma : Middle (44 ∷ 32 ∷ []) (λ ts. sign symbol.Comma ∷ ts)
comma = record { middle = mark_blank symbol.Comma; opens = λ rest. refl }

close_tail : Tail (41 ∷ []) (λ ts. sign symbol.Close ∷ ts)
close_tail = record { tail = from_lead close_mark; opens = λ rest h. refl }

-- a text in parentheses
pub in_parentheses : {text : List ℕ} {write : List Token → List Token} → Printed text write → Tail (40 ∷ text ++ 41 ∷ []) (λ ts. sign symbol.Open ∷ write (sign symbol.Close ∷ ts))
in_parentheses x = middle_then open_mark (then_tail x close_tail)
