-- Tokens that are read one by one, and parts one after the other.
use Rattle.std.proofs.Common.{◌≡◌, ℕ, zero, suc, ◌+◌, ◌-◌, ◌<◌, ◌≤◌, arith, List, [], ◌∷◌, ◌++◌, length, Bool, true, false, cond, Option, Some, None, refl, ap, sym, ◌∙◌, ◌⊎◌, inl, inr, codes, append_assoc, append-nil}
use Rattle.std.specs.Prelude.{bytes_eq, slice_get}
use Rattle.std.specs.Cmp.Lexicographic.{bytes_decides}
use denote.Enum.Bare.{same_true}
use Rattle.mal_tokens.specs.contracts.token.Mark.{the_type as the_marks}
use Rattle.mal_tokens.specs.declared.token.Mark.{Mark as MarkSeen}
use Rattle.mal_tokens.specs.declared.token.Mark.TheVariants as mark
use Rattle.mal_tokens.specs.declared.token.MalToken.{MalToken}
use Rattle.mal_tokens.specs.declared.token.MalToken.TheVariants.{Name, Digits, Text, Mark}
use Rattle.mal_text.specs.Blocks.{write_each, write_closing, write_call}
use Rattle.text_bytes.specs.Found.{then_read}
use Rattle.mal_text.specs.Reader.{Found, Parser, first_token, after_first, is_word, is_mark, is_zero, skip_word, skip_mark, skip_zero, name, digits, closing, opening, repeated, goes_call, optional}
use Rattle.text_bytes.proofs.FoundLemmas.{then_found, value_found, pair_found, guard_found}

-- ## What is found

-- what is written of a value that was found is written of the value that it is
pub moved : {X : Type 0} (write : X → List MalToken → List MalToken) (x y : X) (r rest ts : List MalToken) → ◌≡◌ {A = Found X} (Some (x, r)) (Some (y, rest)) → write x r ≡ ts → write y rest ≡ ts
moved write x y r rest ts h is =
    let parts = pair_found x y r rest h in
    ap (λ z. write z rest) (sym parts.0) ∙ ap (write x) (sym parts.1) ∙ is

-- what follows a value that is known
pub then_told : {X Y : Type 0} (o : Option X) (x : X) (f : X → Option Y) (y : Option Y) → o ≡ Some x → f x ≡ y → then_read o f ≡ y
then_told o x f y first second = ap (λ o. then_read o f) first ∙ second

same_bytes : (a b : List ℕ) → bytes_eq a b ≡ true → a ≡ b
same_bytes a b h = (bytes_decides a b).0 h

pub bytes_same : (a : List ℕ) → bytes_eq a a ≡ true
bytes_same a = (bytes_decides a a).1 refl

-- ## Words, digits and marks

pub word_is : (word : List ℕ) (ts : List MalToken) → is_word word (first_token ts) ≡ true → Name word ∷ after_first ts ≡ ts
unfolding is_word
word_is word (Name found ∷ ts) h = ap (λ w. Name w ∷ ts) (sym (same_bytes found word h))
word_is word other h = cc

pub mark_is : (m : MarkSeen) (ts : List MalToken) → is_mark m (first_token ts) ≡ true → Mark m ∷ after_first ts ≡ ts
unfolding is_mark
mark_is m (Mark found ∷ ts) h = ap (λ n. Mark n ∷ ts) (sym (same_true the_marks tt found m h))
mark_is m other h = cc

zero_is : (ts : List MalToken) → is_zero (first_token ts) ≡ true → Digits (codes "0") ∷ after_first ts ≡ ts
unfolding is_zero
zero_is (Digits found ∷ ts) h = ap (λ d. Digits d ∷ ts) (sym (same_bytes found (codes "0") h))
zero_is other h = cc

pub skip_word_found : (word : List ℕ) (ts rest : List MalToken) → skip_word word ts ≡ Some rest → Name word ∷ rest ≡ ts
unfolding skip_word
skip_word_found word ts rest h =
    let f = guard_found (is_word word (first_token ts)) (Some (after_first ts)) rest h in
    ap (λ r. Name word ∷ r) (sym (value_found (after_first ts) rest f.1)) ∙ word_is word ts f.0

pub skip_mark_found : (m : MarkSeen) (ts rest : List MalToken) → skip_mark m ts ≡ Some rest → Mark m ∷ rest ≡ ts
unfolding skip_mark
skip_mark_found m ts rest h =
    let f = guard_found (is_mark m (first_token ts)) (Some (after_first ts)) rest h in
    ap (λ r. Mark m ∷ r) (sym (value_found (after_first ts) rest f.1)) ∙ mark_is m ts f.0

pub skip_zero_found : (ts rest : List MalToken) → skip_zero ts ≡ Some rest → Digits (codes "0") ∷ rest ≡ ts
unfolding skip_zero
skip_zero_found ts rest h =
    let f = guard_found (is_zero (first_token ts)) (Some (after_first ts)) rest h in
    ap (λ r. Digits (codes "0") ∷ r) (sym (value_found (after_first ts) rest f.1)) ∙ zero_is ts f.0

pub name_found : (ts : List MalToken) (word : List ℕ) (rest : List MalToken) → name ts ≡ Some (word, rest) → Name word ∷ rest ≡ ts
unfolding name
name_found (Name found ∷ ts) word rest h = moved (λ w r. Name w ∷ r) found word ts rest (Name found ∷ ts) h refl
name_found other word rest h = cc

pub digits_found : (ts : List MalToken) (word : List ℕ) (rest : List MalToken) → digits ts ≡ Some (word, rest) → Digits word ∷ rest ≡ ts
unfolding digits
digits_found (Digits found ∷ ts) word rest h = moved (λ w r. Digits w ∷ r) found word ts rest (Digits found ∷ ts) h refl
digits_found other word rest h = cc

pub closing_found : (ts rest : List MalToken) → closing ts ≡ Some rest → write_closing rest ≡ ts
unfolding closing
closing_found ts rest h =
    let (a, first, second) = then_found (skip_mark mark.Close ts) (skip_mark mark.Semicolon) rest h in
    ap (λ r. Mark mark.Close ∷ r) (skip_mark_found mark.Semicolon a rest second) ∙ skip_mark_found mark.Close ts a first

-- ## What is written is read

pub word_told : (word : List ℕ) → is_word word (Some (Name word)) ≡ true
unfolding is_word
word_told word = bytes_same word

pub skip_word_told : (word : List ℕ) (rest : List MalToken) → skip_word word (Name word ∷ rest) ≡ Some rest
unfolding skip_word
skip_word_told word rest = ap (λ b. cond b (Some rest) None) (word_told word)

pub mark_told : (m : MarkSeen) → is_mark m (Some (Mark m)) ≡ true
unfolding is_mark
mark_told mark.Open = refl
mark_told mark.Close = refl
mark_told mark.Comma = refl
mark_told mark.Minus = refl
mark_told mark.Dot = refl
mark_told mark.Colon = refl
mark_told mark.Semicolon = refl
mark_told mark.At = refl
mark_told mark.Assign = refl

pub skip_mark_told : (m : MarkSeen) (rest : List MalToken) → skip_mark m (Mark m ∷ rest) ≡ Some rest
unfolding skip_mark
skip_mark_told m rest = ap (λ b. cond b (Some rest) None) (mark_told m)

pub skip_zero_told : (rest : List MalToken) → skip_zero (Digits (codes "0") ∷ rest) ≡ Some rest
unfolding skip_zero is_zero
skip_zero_told rest = refl

pub name_told : (word : List ℕ) (rest : List MalToken) → name (Name word ∷ rest) ≡ Some (word, rest)
unfolding name
name_told word rest = refl

pub digits_told : (word : List ℕ) (rest : List MalToken) → digits (Digits word ∷ rest) ≡ Some (word, rest)
unfolding digits
digits_told word rest = refl

pub closing_told : (rest : List MalToken) → closing (write_closing rest) ≡ Some rest
unfolding closing
closing_told rest = then_told (skip_mark mark.Close (write_closing rest)) _ (skip_mark mark.Semicolon) (Some rest) (skip_mark_told mark.Close _) (skip_mark_told mark.Semicolon rest)

-- ## Calls of sql

pub opening_found : (word : List ℕ) (ts rest : List MalToken) → opening word ts ≡ Some rest → write_call word rest ≡ ts
unfolding opening
opening_found word ts rest h =
    let (a, one, more) = then_found (skip_word (codes "sql") ts) _ rest h in
    let (b, two, most) = then_found (skip_mark mark.Dot a) _ rest more in
    let (c, three, four) = then_found (skip_word word b) (skip_mark mark.Open) rest most in
    ap (λ r. Name (codes "sql") ∷ Mark mark.Dot ∷ Name word ∷ r) (skip_mark_found mark.Open c rest four)
    ∙ ap (λ r. Name (codes "sql") ∷ Mark mark.Dot ∷ r) (skip_word_found word b c three)
    ∙ ap (λ r. Name (codes "sql") ∷ r) (skip_mark_found mark.Dot a b two)
    ∙ skip_word_found (codes "sql") ts a one

pub opening_told : (word : List ℕ) (rest : List MalToken) → opening word (write_call word rest) ≡ Some rest
unfolding opening
opening_told word rest =
    then_told _ _ _ (Some rest) (skip_word_told (codes "sql") _)
    (then_told _ _ _ (Some rest) (skip_mark_told mark.Dot _)
    (then_told _ _ _ (Some rest) (skip_word_told word _) (skip_mark_told mark.Open rest)))

-- a call that may be left out, with one part
abbrev call_of : {X : Type 0} → List ℕ → Parser X → Parser (Option X)
call_of word part ts = then_read (opening word ts) (λ r. then_read (part r) (λ found. then_read (closing found.1) (λ r. Some (Some found.0, r))))

-- how such a call was found: it doesn't come next, or it does with its part
abbrev pub Called : {X : Type 0} → List ℕ → Parser X → List MalToken → Option X → List MalToken → Type 0
Called {X} word part ts o rest = ((o ≡ None) × (rest ≡ ts)) ⊎ ((x : X) × (body : List MalToken) × (o ≡ Some x) × (part body ≡ Some (x, write_closing rest)) × (write_call word body ≡ ts))

pub optional_found : {X : Type 0} (word : List ℕ) (part : Parser X) (ts : List MalToken) (o : Option X) (rest : List MalToken) → optional word part ts ≡ Some (o, rest) → Called word part ts o rest
unfolding optional
optional_found {X} word part ts o rest h = at (goes_call word ts) h
  where
    at : (b : Bool) → cond b (call_of word part ts) (Some (None, ts)) ≡ Some (o, rest) → Called word part ts o rest
    at true h =
        let (body, first, more) = then_found (opening word ts) _ (o, rest) h in
        let (found, read, most) = then_found (part body) _ (o, rest) more in
        let (behind, close, last) = then_found (closing found.1) _ (o, rest) most in
        let parts = pair_found (Some found.0) o behind rest last in
        inr (
          found.0,
          body,
          sym parts.0,
          read ∙ ap (λ r. let f : Found X = Some (found.0, r) in f) (sym (closing_found found.1 behind close) ∙ ap write_closing parts.1),
          opening_found word ts body first,
        )
    at false h = let parts = pair_found None o ts rest h in inl (sym parts.0, sym parts.1)

pub optional_none : {X : Type 0} (word : List ℕ) (part : Parser X) (ts : List MalToken) → goes_call word ts ≡ false → optional word part ts ≡ Some (None, ts)
unfolding optional
optional_none word part ts h = ap (λ b. cond b (call_of word part ts) (Some (None, ts))) h

pub optional_some : {X : Type 0} (word : List ℕ) (part : Parser X) (x : X) (body rest : List MalToken) → part body ≡ Some (x, write_closing rest) → optional word part (write_call word body) ≡ Some (Some x, rest)
unfolding optional
optional_some word part x body rest h =
    ap (λ b. cond b (call_of word part (write_call word body)) (Some (None, write_call word body))) (word_told word)
    ∙ then_told _ _ _ (Some (Some x, rest)) (opening_told word body)
    (then_told _ _ _ (Some (Some x, rest)) h
    (then_told _ _ _ (Some (Some x, rest)) (closing_told rest) refl))

-- ## Parts one after the other

module _ {X : Type 0} (goes : List MalToken → Bool) (part : Parser X) where
  abbrev step_of : ℕ → List X → Parser (List X)
  step_of n xs ts = then_read (part ts) (λ found. repeated goes part n (xs ++ found.0 ∷ []) found.1)

  -- where the tokens go on with no part, the list ends
  pub repeated_ends : (n : ℕ) (xs : List X) (ts : List MalToken) → goes ts ≡ false → repeated goes part n xs ts ≡ Some (xs, ts)
  unfolding repeated
  repeated_ends zero xs ts h = refl
  repeated_ends (suc n) xs ts h = ap (λ b. cond b (step_of n xs ts) (Some (xs, ts))) h

  -- where they do and a part is read, it goes on after that
  pub repeated_goes_on : (n : ℕ) (xs : List X) (ts : List MalToken) (x : X) (rest : List MalToken) → goes ts ≡ true → part ts ≡ Some (x, rest) → repeated goes part (suc n) xs ts ≡ repeated goes part n (xs ++ x ∷ []) rest
  unfolding repeated
  repeated_goes_on n xs ts x rest h found =
      ap (λ b. cond b (step_of n xs ts) (Some (xs, ts))) h ∙ ap (λ o. then_read o (λ found. repeated goes part n (xs ++ found.0 ∷ []) found.1)) found

  -- where they do and no part is read, nothing is
  pub repeated_breaks : (n : ℕ) (xs : List X) (ts : List MalToken) → goes ts ≡ true → part ts ≡ None → repeated goes part (suc n) xs ts ≡ None
  unfolding repeated
  repeated_breaks n xs ts h found =
      ap (λ b. cond b (step_of n xs ts) (Some (xs, ts))) h ∙ ap (λ o. then_read o (λ found. repeated goes part n (xs ++ found.0 ∷ []) found.1)) found

  -- a pass of a loop over the parts
  pub turn_goes_on : (end turn : ℕ) (xs new : List X) (ts : List MalToken) (x : X) (rest : List MalToken) → turn < end → goes ts ≡ true → part ts ≡ Some (x, rest) → new ≡ xs ++ x ∷ [] → repeated goes part (end - turn) xs ts ≡ repeated goes part (end - (turn + 1)) new rest
  turn_goes_on end turn xs new ts x rest h on found added =
      let e : end - turn ≡ suc (end - (turn + 1)) = omega arith in
      ap (λ n. repeated goes part n xs ts) e ∙ repeated_goes_on (end - (turn + 1)) xs ts x rest on found ∙ ap (λ ys. repeated goes part (end - (turn + 1)) ys rest) (sym added)

  pub turn_breaks : (end turn : ℕ) (xs : List X) (ts : List MalToken) → turn < end → goes ts ≡ true → part ts ≡ None → repeated goes part (end - turn) xs ts ≡ None
  turn_breaks end turn xs ts h on found =
      let e : end - turn ≡ suc (end - (turn + 1)) = omega arith in
      ap (λ n. repeated goes part n xs ts) e ∙ repeated_breaks (end - (turn + 1)) xs ts on found

  pub last_turn : (end turn : ℕ) (xs : List X) (ts : List MalToken) → end ≤ turn → repeated goes part (end - turn) xs ts ≡ Some (xs, ts)
  unfolding repeated
  last_turn end turn xs ts h = let e : end - turn ≡ 0 = omega arith in ap (λ n. repeated goes part n xs ts) e

  module _ (write : X → List MalToken → List MalToken) where
    -- what is read of the parts is written of them
    pub repeated_found : ((ts : List MalToken) (x : X) (rest : List MalToken) → part ts ≡ Some (x, rest) → write x rest ≡ ts) → (n : ℕ) (xs : List X) (ts : List MalToken) (ys : List X) (rest : List MalToken) → repeated goes part n xs ts ≡ Some (ys, rest) → (zs : List X) × (ys ≡ xs ++ zs) × (write_each write zs rest ≡ ts)
    unfolding repeated
    repeated_found sound zero xs ts ys rest h =
        let parts = pair_found xs ys ts rest h in
        ([], sym parts.0 ∙ sym (append-nil xs), sym parts.1)
    repeated_found sound (suc n) xs ts ys rest h = at (repeated_found sound n) (goes ts) h
      where
        at : ((xs : List X) (ts : List MalToken) (ys : List X) (rest : List MalToken) → repeated goes part n xs ts ≡ Some (ys, rest) → (zs : List X) × (ys ≡ xs ++ zs) × (write_each write zs rest ≡ ts)) → (b : Bool) → cond b (step_of n xs ts) (Some (xs, ts)) ≡ Some (ys, rest) → (zs : List X) × (ys ≡ xs ++ zs) × (write_each write zs rest ≡ ts)
        at more true h =
            let (found, read, then) = then_found (part ts) _ (ys, rest) h in
            let (zs, list, text) = more (xs ++ found.0 ∷ []) found.1 ys rest then in
            (found.0 ∷ zs, list ∙ append_assoc xs (found.0 ∷ []) zs, ap (write found.0) text ∙ sound ts found.0 found.1 read)
        at more false h =
            let parts = pair_found xs ys ts rest h in
            ([], sym parts.0 ∙ sym (append-nil xs), sym parts.1)

    -- what is written of parts is read as them, where what follows each may do so
    module _ (Ends : List MalToken → Type 0) (told : (x : X) (rest : List MalToken) → Ends rest → part (write x rest) ≡ Some (x, rest)) (starts : (x : X) (rest : List MalToken) → goes (write x rest) ≡ true) (ends : (x : X) (rest : List MalToken) → Ends (write x rest)) where
      pub each_ends : (zs : List X) (rest : List MalToken) → Ends rest → Ends (write_each write zs rest)
      each_ends [] rest h = h
      each_ends (z ∷ zs) rest h = ends z (write_each write zs rest)

      pub repeated_told : (zs : List X) (n : ℕ) (xs : List X) (rest : List MalToken) → Ends rest → goes rest ≡ false → length zs ≤ n → repeated goes part n xs (write_each write zs rest) ≡ Some (xs ++ zs, rest)
      repeated_told [] n xs rest end stop few = repeated_ends n xs rest stop ∙ ap (λ ys. let f : Found (List X) = Some (ys, rest) in f) (sym (append-nil xs))
      repeated_told (z ∷ zs) zero xs rest end stop few = absurd (omega arith)
      repeated_told (z ∷ zs) (suc n) xs rest end stop few =
          let more = write_each write zs rest in
          repeated_goes_on n xs (write z more) z more (starts z more) (told z more (each_ends zs rest end))
          ∙ repeated_told zs n (xs ++ z ∷ []) rest end stop (omega arith)
          ∙ ap (λ ys. let f : Found (List X) = Some (ys, rest) in f) (append_assoc xs (z ∷ []) zs)

    -- there are no more parts than tokens
    pub each_longer : ((x : X) (rest : List MalToken) → length rest < length (write x rest)) → (zs : List X) (rest : List MalToken) → length zs + length rest ≤ length (write_each write zs rest)
    each_longer longer [] rest = omega arith
    each_longer longer (z ∷ zs) rest =
        let more = each_longer longer zs rest in
        let here = longer z (write_each write zs rest) in
        omega (arith, more, here)
