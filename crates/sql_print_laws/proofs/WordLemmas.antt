-- Words, numbers, names and strings before what ends them.
use Rattle.std.proofs.Common.{◌≡◌, ℕ, ◌==◌, List, [], ◌∷◌, ◌++◌, length, map, Bool, true, false, not, ◌&&◌, ◌||◌, cond, Option, Some, None, is_some, nat_le, codes, flat_map, refl, ap, sym, ◌∙◌, subst, append_assoc, arith}
use Rattle.std.specs.Int.{IsInRange}
use Rattle.std.specs.List.{list_all}
use Rattle.std.specs.Str.Parse.{IsNumeral, AllDigits}
use Rattle.std.proofs.lemmas.Bool.{and_from, and_parts}
use Rattle.std.proofs.lemmas.Bool.Decides.{nat_tests}
use Rattle.std.proofs.lemmas.Str.Parse.{digit_from_value}
use Rattle.sql_grammar.specs.Grammar.{write_name, sign}
use Rattle.sql_grammar.specs.Grammar.NameRule.{BareName, QuotedName}
use Rattle.sql_print_laws.proofs.CutLemmas.{Cut, put, ends, Lead, Middle, Printed, lead_lead, blank}
use Rattle.sql_print_laws.specs.CanonRules.{canon_name}
use Rattle.sql_print_laws.specs.Printable.{IsName}
use Rattle.sql_tree.specs.Bytes.{is_letter, is_low_letter, is_digit, is_word_byte, low, begins, begins_with, doubled}
use Rattle.sql_print.specs.Canon.{quoted_text}
use Rattle.sql_tree.specs.Names.{is_low_word, is_reserved_word, is_bare_name, name_text}
use Rattle.sql_tree.specs.Tokens.{ends_symbol}
use Rattle.sql_tree.specs.Tokens.Part.{Letters, Number, QuotedName as NameInQuotes, QuotedText, Mark}
use Rattle.sql_tree.specs.Words.{keywords, keyword_of, is_unsupported_word, keyword_token, word_token}
use Rattle.sql_tree.specs.declared.token.Keyword.{Keyword}
use Rattle.sql_tree.specs.declared.token.Keyword.TheVariants as word
use Rattle.sql_tree.specs.declared.token.Symbol.TheVariants as symbol
use Rattle.sql_tree.specs.declared.token.Token.{Token}
use Rattle.sql_tree.specs.declared.token.Token.TheVariants as token

-- ## What ends them

-- no byte of a word and no mark begins what ends them
ended : (p q r : Bool) → not (p || q || r) ≡ true → (p ≡ false) × (q ≡ false) × (r ≡ false)
ended true q r h = cc
ended false true r h = cc
ended false false true h = cc
ended false false false h = (refl, refl, refl)

ends_parts : (rest : List ℕ) → ends rest ≡ true → (begins is_word_byte rest ≡ false) × (begins_with 34 rest ≡ false) × (begins_with 39 rest ≡ false)
ends_parts [] h = (refl, refl, refl)
ends_parts (b ∷ rest) h = ended (is_word_byte b) (b == 34) (b == 39) h

-- ## Words

-- a letter, and bytes of words
abbrev pub is_word : List ℕ → Bool
is_word [] = false
is_word (b ∷ bs) = is_letter b && list_all is_word_byte bs

pub word_printed : (w : List ℕ) (t : Token) → is_word w ≡ true → word_token (map low w) ≡ t → Printed w (λ ts. t ∷ ts)
word_printed [] t is same = cc
word_printed (b ∷ bs) t is same = record {
  printed = λ rest ts cut h.
      let fits = and_from (is_letter b && list_all is_word_byte bs) (not (begins is_word_byte rest)) is (ap not (ends_parts rest h).0) in
      subst (λ t. Cut (b ∷ bs ++ rest) (t ∷ ts)) same (put (Letters b bs) rest ts fits cut);
}

-- the text of a keyword
abbrev pub key_text : Keyword → List ℕ
key_text word.Add = codes "ADD"
key_text word.Alter = codes "ALTER"
key_text word.And = codes "AND"
key_text word.As = codes "AS"
key_text word.Asc = codes "ASC"
key_text word.Between = codes "BETWEEN"
key_text word.Bigint = codes "BIGINT"
key_text word.By = codes "BY"
key_text word.Column = codes "COLUMN"
key_text word.Count = codes "COUNT"
key_text word.Create = codes "CREATE"
key_text word.Date = codes "DATE"
key_text word.Default = codes "DEFAULT"
key_text word.Delete = codes "DELETE"
key_text word.Desc = codes "DESC"
key_text word.Distinct = codes "DISTINCT"
key_text word.Drop = codes "DROP"
key_text word.Explain = codes "EXPLAIN"
key_text word.From = codes "FROM"
key_text word.Group = codes "GROUP"
key_text word.Having = codes "HAVING"
key_text word.In = codes "IN"
key_text word.Inner = codes "INNER"
key_text word.Insert = codes "INSERT"
key_text word.Int = codes "INT"
key_text word.Integer = codes "INTEGER"
key_text word.Into = codes "INTO"
key_text word.Is = codes "IS"
key_text word.Join = codes "JOIN"
key_text word.Limit = codes "LIMIT"
key_text word.Max = codes "MAX"
key_text word.Min = codes "MIN"
key_text word.Not = codes "NOT"
key_text word.Null = codes "NULL"
key_text word.On = codes "ON"
key_text word.Or = codes "OR"
key_text word.Order = codes "ORDER"
key_text word.Select = codes "SELECT"
key_text word.Set = codes "SET"
key_text word.Sum = codes "SUM"
key_text word.Table = codes "TABLE"
key_text word.Text = codes "TEXT"
key_text word.Update = codes "UPDATE"
key_text word.Values = codes "VALUES"
key_text word.Varchar = codes "VARCHAR"
key_text word.Where = codes "WHERE"

-- it is a word, and that keyword's
key_is : (k : Keyword) → (is_word (key_text k) ≡ true) × (word_token (map low (key_text k)) ≡ token.Key k)
unfolding keyword_of keywords
key_is word.Add = (refl, refl)
key_is word.Alter = (refl, refl)
key_is word.And = (refl, refl)
key_is word.As = (refl, refl)
key_is word.Asc = (refl, refl)
key_is word.Between = (refl, refl)
key_is word.Bigint = (refl, refl)
key_is word.By = (refl, refl)
key_is word.Column = (refl, refl)
key_is word.Count = (refl, refl)
key_is word.Create = (refl, refl)
key_is word.Date = (refl, refl)
key_is word.Default = (refl, refl)
key_is word.Delete = (refl, refl)
key_is word.Desc = (refl, refl)
key_is word.Distinct = (refl, refl)
key_is word.Drop = (refl, refl)
key_is word.Explain = (refl, refl)
key_is word.From = (refl, refl)
key_is word.Group = (refl, refl)
key_is word.Having = (refl, refl)
key_is word.In = (refl, refl)
key_is word.Inner = (refl, refl)
key_is word.Insert = (refl, refl)
key_is word.Int = (refl, refl)
key_is word.Integer = (refl, refl)
key_is word.Into = (refl, refl)
key_is word.Is = (refl, refl)
key_is word.Join = (refl, refl)
key_is word.Limit = (refl, refl)
key_is word.Max = (refl, refl)
key_is word.Min = (refl, refl)
key_is word.Not = (refl, refl)
key_is word.Null = (refl, refl)
key_is word.On = (refl, refl)
key_is word.Or = (refl, refl)
key_is word.Order = (refl, refl)
key_is word.Select = (refl, refl)
key_is word.Set = (refl, refl)
key_is word.Sum = (refl, refl)
key_is word.Table = (refl, refl)
key_is word.Text = (refl, refl)
key_is word.Update = (refl, refl)
key_is word.Values = (refl, refl)
key_is word.Varchar = (refl, refl)
key_is word.Where = (refl, refl)

-- a keyword, one before a blank, and one between blanks
pub key : (k : Keyword) → Printed (key_text k) (λ ts. token.Key k ∷ ts)
key k = word_printed (key_text k) (token.Key k) (key_is k).0 (key_is k).1

pub key_blank : (k : Keyword) → Lead (key_text k ++ 32 ∷ []) (λ ts. token.Key k ∷ ts)
key_blank k = record {
  lead = λ rest ts cut. subst (λ text. Cut text (token.Key k ∷ ts)) (sym (append_assoc (key_text k) (32 ∷ []) rest)) ((key k).printed (32 ∷ rest) ts (blank.lead rest ts cut) refl);
}

pub spaced_key : (k : Keyword) → Middle (32 ∷ key_text k ++ 32 ∷ []) (λ ts. token.Key k ∷ ts)
spaced_key k = record { middle = lead_lead blank (key_blank k); opens = λ rest. refl }

-- ## Numbers

digit_is : (b : ℕ) → IsInRange 48 57 b → is_digit b ≡ true
digit_is b h = grind (arith, nat_tests)

digits_are : (bs : List ℕ) → AllDigits 10 bs → list_all is_digit bs ≡ true
digits_are [] h = refl
digits_are (b ∷ bs) h = and_from (is_digit b) (list_all is_digit bs) (digit_is b (digit_from_value b h.0)) (digits_are bs h.1)

-- a number, and one after a `-`
pub digits_printed : (ds : List ℕ) → IsNumeral 10 ds → Printed ds (λ ts. token.Digits ds ∷ ts)
digits_printed [] h = absurd (omega (arith, h.0))
digits_printed (b ∷ bs) h = record {
  printed = λ rest ts cut e. put (Number b bs) rest ts (and_from (is_digit b && list_all is_digit bs) (not (begins is_word_byte rest)) (digits_are (b ∷ bs) h.1) (ap not (ends_parts rest e).0)) cut;
}

minus_fits : (b : ℕ) (bs : List ℕ) → is_digit b ≡ true → ends_symbol (45 ∷ []) (b ∷ bs) ≡ true
minus_fits b bs h = grind (arith, nat_tests)

pub minus_printed : (ds : List ℕ) → IsNumeral 10 ds → Printed (45 ∷ ds) (λ ts. sign symbol.Minus ∷ token.Digits ds ∷ ts)
minus_printed [] h = absurd (omega (arith, h.0))
minus_printed (b ∷ bs) h = record {
  printed = λ rest ts cut e. put (Mark symbol.Minus) (b ∷ bs ++ rest) (token.Digits (b ∷ bs) ∷ ts) (minus_fits b (bs ++ rest) (digit_is b (digit_from_value b h.1.0))) ((digits_printed (b ∷ bs) h).printed rest ts cut e);
}

-- ## Names and strings

-- a text between marks, before the rest
quoted_before : (mark : ℕ) (text rest : List ℕ) → mark ∷ flat_map (doubled mark) text ++ mark ∷ rest ≡ quoted_text mark text ++ rest
quoted_before mark text rest = ap (λ bs. mark ∷ bs) (sym (append_assoc (flat_map (doubled mark) text) (mark ∷ []) rest))

pub string_printed : (text : List ℕ) → Printed (quoted_text 39 text) (λ ts. token.Text text ∷ ts)
string_printed text = record {
  printed = λ rest ts cut h. subst (λ bs. Cut bs (token.Text text ∷ ts)) (quoted_before 39 text rest) (put (QuotedText text) rest ts (ap not (ends_parts rest h).2) cut);
}

quoted_name_printed : (name : List ℕ) → IsName name → Printed (quoted_text 34 name) (λ ts. token.Quoted name ∷ ts)
quoted_name_printed name is = record {
  printed = λ rest ts cut h. subst (λ bs. Cut bs (token.Quoted name ∷ ts)) (quoted_before 34 name rest) (put (NameInQuotes name) rest ts (and_from (not (length name == 0)) (not (begins_with 34 rest)) is (ap not (ends_parts rest h).1)) cut);
}

low_letter_is : (b : ℕ) → is_low_letter b ≡ true → is_letter b ≡ true
low_letter_is b h = ap (λ l. l || (nat_le 65 b && nat_le b 90)) h

-- the bytes of a word in lower case
low_byte_is : (b : ℕ) → (is_low_letter b || is_digit b) ≡ true → (is_word_byte b ≡ true) × (low b ≡ b)
low_byte_is b h = (grind (arith, nat_tests), grind (arith, nat_tests))

low_bytes_are : (bs : List ℕ) → list_all (λ c. is_low_letter c || is_digit c) bs ≡ true → (list_all is_word_byte bs ≡ true) × (map low bs ≡ bs)
low_bytes_are [] h = (refl, refl)
low_bytes_are (b ∷ bs) h =
    let parts = and_parts (is_low_letter b || is_digit b) (list_all (λ c. is_low_letter c || is_digit c) bs) h in
    let here = low_byte_is b parts.0 in
    let more = low_bytes_are bs parts.1 in
    (and_from (is_word_byte b) (list_all is_word_byte bs) here.0 more.0, (λ i. here.1 i ∷ more.1 i))

low_word_is : (name : List ℕ) → is_low_word name ≡ true → (is_word name ≡ true) × (map low name ≡ name)
low_word_is [] h = cc
low_word_is (b ∷ bs) h =
    let parts = and_parts (is_low_letter b) (list_all (λ c. is_low_letter c || is_digit c) bs) h in
    let here = low_byte_is b (ap (λ l. l || is_digit b) parts.0) in
    let more = low_bytes_are bs parts.1 in
    (and_from (is_letter b) (list_all is_word_byte bs) (low_letter_is b parts.0) more.0, (λ i. here.1 i ∷ more.1 i))

-- a word that isn't reserved is a name
not_reserved : (name : List ℕ) → not (is_reserved_word name) ≡ true → word_token name ≡ token.Name name
not_reserved name h = by_keyword (keyword_of name) (is_unsupported_word name) refl refl h
  where
    by_keyword : (o : Option Keyword) (u : Bool) → keyword_of name ≡ o → is_unsupported_word name ≡ u → not (is_some o || u) ≡ true → word_token name ≡ token.Name name
    by_keyword (Some k) u e f h = cc
    by_keyword None true e f h = cc
    by_keyword None false e f h = ap (keyword_token name) e ∙ ap (λ u. cond u (token.Unsupported name) (token.Name name)) f

bare_name_printed : (name : List ℕ) → is_bare_name name ≡ true → Printed name (λ ts. token.Name name ∷ ts)
bare_name_printed name h =
    let parts = and_parts (is_low_word name) (not (is_reserved_word name)) h in
    let is = low_word_is name parts.0 in
    word_printed name (token.Name name) is.0 (ap word_token is.1 ∙ not_reserved name parts.1)

pub name_printed : (name : List ℕ) → IsName name → Printed (name_text name) (write_name (canon_name name))
name_printed name is =
    elim (is_bare_name name) as (λ b. is_bare_name name ≡ b → Printed (cond b name (quoted_text 34 name)) (write_name (cond b (BareName name) (QuotedName name)))) [
      | true ↦ λ e. bare_name_printed name e
      | false ↦ λ e. quoted_name_printed name is
    ] refl
