-- Arguments: what is read is written, and what is written is read.
use Rattle.std.proofs.Common.{◌≡◌, ℕ, ◌+◌, ◌<◌, ◌≤◌, arith, List, [], ◌∷◌, ◌++◌, length, Bool, true, false, cond, Option, Some, None, refl, ap, sym, ◌∙◌, codes}
use Rattle.mal_text.specs.declared.block.Term.{Term}
use Rattle.mal_text.specs.declared.block.Term.TheVariants as term
use Rattle.mal_tokens.specs.declared.token.Mark.TheVariants as mark
use Rattle.mal_tokens.specs.declared.token.MalToken.{MalToken}
use Rattle.mal_tokens.specs.declared.token.MalToken.TheVariants.{Name, Digits, Text, Mark}
use Rattle.mal_text.specs.Blocks.{write_each, write_sign, write_term, write_further, write_terms}
use Rattle.text_bytes.specs.Found.{then_read}
use Rattle.mal_text.specs.Reader.{Found, first_token, after_first, is_mark, skip_word, skip_mark, skip_zero, digits, repeated, text_after, number_behind, digits_after, negative_after, term_at, term_of, goes_further, further, terms}
use Rattle.text_bytes.proofs.FoundLemmas.{then_found, pair_found}
use Rattle.mal_text.proofs.ReaderLemmas.{moved, then_told, mark_is, mark_told, skip_word_found, skip_mark_found, skip_zero_found, digits_found, skip_word_told, skip_mark_told, skip_zero_told, digits_told, repeated_found, repeated_told, each_longer}

-- arguments before the tokens after them
abbrev text_of : List ℕ → List MalToken → Found Term
text_of text rest = Some (term.Text text, rest)

abbrev date_of : List ℕ → List MalToken → Found Term
date_of text rest = Some (term.Date text, rest)

abbrev int_of : Bool → List ℕ → List MalToken → Found Term
int_of negative found rest = Some (term.Int negative found, rest)

abbrev huge_of : Bool → List ℕ → List MalToken → Found Term
huge_of negative found rest = Some (term.Huge negative found, rest)

abbrev oid_of : List ℕ → List MalToken → Found Term
oid_of found rest = Some (term.Oid found, rest)

-- ## What is read is written

text_found : (text : List ℕ) (ts : List MalToken) (t : Term) (rest : List MalToken) → text_after text ts ≡ Some (t, rest) → write_term t rest ≡ Text text ∷ ts
unfolding text_after
text_found text ts t rest h = at (is_mark mark.Colon (first_token ts)) refl h
  where
    at : (b : Bool) → is_mark mark.Colon (first_token ts) ≡ b → cond b (then_read (skip_word (codes "date") (after_first ts)) (date_of text)) (text_of text ts) ≡ Some (t, rest) → write_term t rest ≡ Text text ∷ ts
    at true e h =
        let (r, word, last) = then_found (skip_word (codes "date") (after_first ts)) _ (t, rest) h in
        moved write_term (term.Date text) t r rest (Text text ∷ ts) last
        (ap (λ r. Text text ∷ Mark mark.Colon ∷ r) (skip_word_found (codes "date") (after_first ts) r word) ∙ ap (λ r. Text text ∷ r) (mark_is mark.Colon ts e))
    at false e h = moved write_term (term.Text text) t ts rest (Text text ∷ ts) h refl

number_found : (negative : Bool) (found : List ℕ) (ts : List MalToken) (t : Term) (rest : List MalToken) → number_behind negative found ts ≡ Some (t, rest) → write_term t rest ≡ write_sign negative (Digits found ∷ ts)
unfolding number_behind
number_found negative found ts t rest h = at (is_mark mark.Colon (first_token ts)) refl h
  where
    at : (b : Bool) → is_mark mark.Colon (first_token ts) ≡ b → cond b (then_read (skip_word (codes "hge") (after_first ts)) (huge_of negative found)) (int_of negative found ts) ≡ Some (t, rest) → write_term t rest ≡ write_sign negative (Digits found ∷ ts)
    at true e h =
        let (r, word, last) = then_found (skip_word (codes "hge") (after_first ts)) _ (t, rest) h in
        moved write_term (term.Huge negative found) t r rest (write_sign negative (Digits found ∷ ts)) last
        (ap (λ r. write_sign negative (Digits found ∷ Mark mark.Colon ∷ r)) (skip_word_found (codes "hge") (after_first ts) r word) ∙ ap (λ r. write_sign negative (Digits found ∷ r)) (mark_is mark.Colon ts e))
    at false e h = moved write_term (term.Int negative found) t ts rest (write_sign negative (Digits found ∷ ts)) h refl

oid_found : (found : List ℕ) (ts : List MalToken) (t : Term) (rest : List MalToken) → digits_after found ts ≡ Some (t, rest) → write_term t rest ≡ Digits found ∷ ts
unfolding digits_after
oid_found found ts t rest h = at (is_mark mark.At (first_token ts)) refl h
  where
    at : (b : Bool) → is_mark mark.At (first_token ts) ≡ b → cond b (then_read (skip_zero (after_first ts)) (oid_of found)) (number_behind false found ts) ≡ Some (t, rest) → write_term t rest ≡ Digits found ∷ ts
    at true e h =
        let (r, zero_, last) = then_found (skip_zero (after_first ts)) _ (t, rest) h in
        moved write_term (term.Oid found) t r rest (Digits found ∷ ts) last
        (ap (λ r. Digits found ∷ Mark mark.At ∷ r) (skip_zero_found (after_first ts) r zero_) ∙ ap (λ r. Digits found ∷ r) (mark_is mark.At ts e))
    at false e h = number_found false found ts t rest h

negative_found : (ts : List MalToken) (t : Term) (rest : List MalToken) → negative_after ts ≡ Some (t, rest) → write_term t rest ≡ Mark mark.Minus ∷ ts
unfolding negative_after
negative_found ts t rest h =
    let (found, read, more) = then_found (digits ts) _ (t, rest) h in
    number_found true found.0 found.1 t rest more ∙ ap (λ r. Mark mark.Minus ∷ r) (digits_found ts found.0 found.1 read)

pub term_found : (ts : List MalToken) (t : Term) (rest : List MalToken) → term_of ts ≡ Some (t, rest) → write_term t rest ≡ ts
unfolding term_of
term_found (Name word ∷ ts) t rest h = moved write_term (term.Name word) t ts rest (Name word ∷ ts) h refl
term_found (Text text ∷ ts) t rest h = text_found text ts t rest h
term_found (Digits found ∷ ts) t rest h = oid_found found ts t rest h
term_found (Mark mark.Minus ∷ ts) t rest h = negative_found ts t rest h
term_found other t rest h = cc

pub further_found : (ts : List MalToken) (t : Term) (rest : List MalToken) → further ts ≡ Some (t, rest) → write_further t rest ≡ ts
unfolding further
further_found ts t rest h =
    let (r, comma, more) = then_found (skip_mark mark.Comma ts) term_of (t, rest) h in
    ap (λ r. Mark mark.Comma ∷ r) (term_found r t rest more) ∙ skip_mark_found mark.Comma ts r comma

pub terms_found : (ts : List MalToken) (list : List Term) (rest : List MalToken) → terms ts ≡ Some (list, rest) → write_terms list rest ≡ ts
unfolding terms
terms_found ts list rest h = at (is_mark mark.Close (first_token ts)) h
  where
    at : (b : Bool) → cond b (Some ([], ts)) (then_read (term_of ts) (λ first. repeated goes_further further (length first.1) (first.0 ∷ []) first.1)) ≡ Some (list, rest) → write_terms list rest ≡ ts
    at true h = moved write_terms [] list ts rest ts h refl
    at false h =
        let (first, read, more) = then_found (term_of ts) _ (list, rest) h in
        let (zs, is, text) = repeated_found goes_further further write_further further_found (length first.1) (first.0 ∷ []) first.1 list rest more in
        ap (λ l. write_terms l rest) is ∙ ap (write_term first.0) text ∙ term_found ts first.0 first.1 read

-- ## What is written is read

-- what may follow an argument
pub record Ends (ts : List MalToken) : Type 0 where
  pub no_colon : is_mark mark.Colon (first_token ts) ≡ false
  pub no_at : is_mark mark.At (first_token ts) ≡ false

text_told : (text : List ℕ) (rest : List MalToken) → Ends rest → text_after text rest ≡ Some (term.Text text, rest)
unfolding text_after
text_told text rest ends = ap (λ b. cond b (then_read (skip_word (codes "date") (after_first rest)) (date_of text)) (text_of text rest)) ends.no_colon

date_told : (text : List ℕ) (rest : List MalToken) → text_after text (Mark mark.Colon ∷ Name (codes "date") ∷ rest) ≡ Some (term.Date text, rest)
unfolding text_after
date_told text rest =
    ap (λ b. cond b (then_read (skip_word (codes "date") (Name (codes "date") ∷ rest)) (date_of text)) (text_of text (Mark mark.Colon ∷ Name (codes "date") ∷ rest))) (mark_told mark.Colon)
    ∙ ap (λ o. then_read o (date_of text)) (skip_word_told (codes "date") rest)

int_told : (negative : Bool) (found : List ℕ) (rest : List MalToken) → Ends rest → number_behind negative found rest ≡ Some (term.Int negative found, rest)
unfolding number_behind
int_told negative found rest ends = ap (λ b. cond b (then_read (skip_word (codes "hge") (after_first rest)) (huge_of negative found)) (int_of negative found rest)) ends.no_colon

huge_told : (negative : Bool) (found : List ℕ) (rest : List MalToken) → number_behind negative found (Mark mark.Colon ∷ Name (codes "hge") ∷ rest) ≡ Some (term.Huge negative found, rest)
unfolding number_behind
huge_told negative found rest =
    ap (λ b. cond b (then_read (skip_word (codes "hge") (Name (codes "hge") ∷ rest)) (huge_of negative found)) (int_of negative found (Mark mark.Colon ∷ Name (codes "hge") ∷ rest))) (mark_told mark.Colon)
    ∙ ap (λ o. then_read o (huge_of negative found)) (skip_word_told (codes "hge") rest)

colon_no_at : is_mark mark.At (Some (Mark mark.Colon)) ≡ false
unfolding is_mark
colon_no_at = refl

plain_told : (found : List ℕ) (ts : List MalToken) → is_mark mark.At (first_token ts) ≡ false → digits_after found ts ≡ number_behind false found ts
unfolding digits_after
plain_told found ts h = ap (λ b. cond b (then_read (skip_zero (after_first ts)) (oid_of found)) (number_behind false found ts)) h

oid_told : (found : List ℕ) (rest : List MalToken) → digits_after found (Mark mark.At ∷ Digits (codes "0") ∷ rest) ≡ Some (term.Oid found, rest)
unfolding digits_after
oid_told found rest =
    ap (λ b. cond b (then_read (skip_zero (Digits (codes "0") ∷ rest)) (oid_of found)) (number_behind false found (Mark mark.At ∷ Digits (codes "0") ∷ rest))) (mark_told mark.At)
    ∙ ap (λ o. then_read o (oid_of found)) (skip_zero_told rest)

negative_told : (found : List ℕ) (ts : List MalToken) → negative_after (Digits found ∷ ts) ≡ number_behind true found ts
unfolding negative_after
negative_told found ts = ap (λ o. then_read o (λ f. number_behind true f.0 f.1)) (digits_told found ts)

pub term_told : (t : Term) (rest : List MalToken) → Ends rest → term_of (write_term t rest) ≡ Some (t, rest)
unfolding term_of
term_told (term.Name word) rest ends = refl
term_told (term.Text text) rest ends = text_told text rest ends
term_told (term.Date text) rest ends = date_told text rest
term_told (term.Int true found) rest ends = negative_told found rest ∙ int_told true found rest ends
term_told (term.Int false found) rest ends = plain_told found rest ends.no_at ∙ int_told false found rest ends
term_told (term.Huge true found) rest ends = negative_told found (Mark mark.Colon ∷ Name (codes "hge") ∷ rest) ∙ huge_told true found rest
term_told (term.Huge false found) rest ends = plain_told found (Mark mark.Colon ∷ Name (codes "hge") ∷ rest) colon_no_at ∙ huge_told false found rest
term_told (term.Oid found) rest ends = oid_told found rest

further_told : (t : Term) (rest : List MalToken) → Ends rest → further (write_further t rest) ≡ Some (t, rest)
unfolding further
further_told t rest ends = then_told (skip_mark mark.Comma (write_further t rest)) (write_term t rest) term_of (Some (t, rest)) (skip_mark_told mark.Comma _) (term_told t rest ends)

pub comma_ends : (rest : List MalToken) → Ends (Mark mark.Comma ∷ rest)
unfolding is_mark
comma_ends rest = record { no_colon = refl; no_at = refl }

pub close_ends : (rest : List MalToken) → Ends (Mark mark.Close ∷ rest)
unfolding is_mark
close_ends rest = record { no_colon = refl; no_at = refl }

term_longer : (t : Term) (rest : List MalToken) → length rest < length (write_term t rest)
term_longer (term.Name word) rest = omega arith
term_longer (term.Text text) rest = omega arith
term_longer (term.Date text) rest = omega arith
term_longer (term.Int true found) rest = omega arith
term_longer (term.Int false found) rest = omega arith
term_longer (term.Huge true found) rest = omega arith
term_longer (term.Huge false found) rest = omega arith
term_longer (term.Oid found) rest = omega arith

further_longer : (t : Term) (rest : List MalToken) → length rest < length (write_further t rest)
further_longer t rest = let more = term_longer t rest in omega (arith, more)

-- no argument begins with a `)`
no_close : (t : Term) (rest : List MalToken) → is_mark mark.Close (first_token (write_term t rest)) ≡ false
unfolding is_mark
no_close (term.Name word) rest = refl
no_close (term.Text text) rest = refl
no_close (term.Date text) rest = refl
no_close (term.Int true found) rest = refl
no_close (term.Int false found) rest = refl
no_close (term.Huge true found) rest = refl
no_close (term.Huge false found) rest = refl
no_close (term.Oid found) rest = refl

close_no_comma : (rest : List MalToken) → goes_further (Mark mark.Close ∷ rest) ≡ false
unfolding is_mark
close_no_comma rest = refl

abbrev terms_at : Bool → List MalToken → Found (List Term)
terms_at b ts = cond b (Some ([], ts)) (then_read (term_of ts) (λ first. repeated goes_further further (length first.1) (first.0 ∷ []) first.1))

-- arguments before a `)`
pub terms_told : (list : List Term) (rest : List MalToken) → terms (write_terms list (Mark mark.Close ∷ rest)) ≡ Some (list, Mark mark.Close ∷ rest)
unfolding terms
terms_told [] rest = ap (λ b. terms_at b (Mark mark.Close ∷ rest)) (mark_told mark.Close)
terms_told (t ∷ list) rest =
    let end = Mark mark.Close ∷ rest in
    let more = write_each write_further list end in
    let ends = each_ends_of list rest in
    let longer = each_longer goes_further further write_further further_longer list end in
    ap (λ b. terms_at b (write_term t more)) (no_close t more)
    ∙ then_told (term_of (write_term t more)) (t, more) _ (Some (t ∷ list, end)) (term_told t more ends)
    (repeated_told goes_further further write_further Ends further_told (λ x r. mark_told mark.Comma) (λ x r. comma_ends _) list (length more) (t ∷ []) end (close_ends rest) (close_no_comma rest) (omega (arith, longer)))
  where
    each_ends_of : (list : List Term) (rest : List MalToken) → Ends (write_each write_further list (Mark mark.Close ∷ rest))
    each_ends_of [] rest = close_ends rest
    each_ends_of (t ∷ list) rest = comma_ends _

pub terms_longer : (list : List Term) (rest : List MalToken) → length rest ≤ length (write_terms list rest)
terms_longer [] rest = omega arith
terms_longer (t ∷ list) rest =
    let more = each_longer goes_further further write_further further_longer list rest in
    let here = term_longer t (write_each write_further list rest) in
    omega (arith, more, here)
