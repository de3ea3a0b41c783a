-- Blocks: what is read is written, and what is written is read.
use Rattle.std.proofs.Common.{◌≡◌, ℕ, ◌+◌, ◌<◌, ◌≤◌, arith, List, [], ◌∷◌, ◌++◌, length, Bool, true, false, cond, Option, Some, None, refl, ap, sym, ◌∙◌, inl, inr, codes}
use Rattle.std.specs.Prelude.{bytes_eq, slice_get}
use Rattle.std.specs.Cmp.Lexicographic.{bytes_decides}
use Rattle.mal_text.specs.declared.block.Block.{Block}
use Rattle.mal_text.specs.declared.block.OrderKey.{OrderKey}
use Rattle.mal_text.specs.declared.block.Line.{Line}
use Rattle.mal_text.specs.declared.block.Term.{Term}
use Rattle.mal_tokens.specs.declared.token.Mark.TheVariants as mark
use Rattle.mal_tokens.specs.declared.token.MalToken.{MalToken}
use Rattle.mal_tokens.specs.declared.token.MalToken.TheVariants.{Name, Digits, Text, Mark}
use Rattle.mal_text.specs.Blocks.{write_each, write_term, write_terms, write_closing, write_line, write_call, write_keep, write_key, write_limit, write_output, write_named, write_void, write_out, write_block}
use Rattle.text_bytes.specs.Found.{then_read}
use Rattle.mal_tokens.specs.Tokens.{bit_word}
use Rattle.mal_text.specs.Reader.{Found, first_token, after_first, is_word, is_mark, skip_word, skip_mark, name, digits, bit_named, closing, opening, repeated, optional, term_of, terms, goes_line, path, line, goes_call, bit, key, named, void, header, lines, keys, nothing_left, ending, block}
use Rattle.text_bytes.proofs.FoundLemmas.{then_found, value_found, pair_found, guard_found}
use Rattle.mal_text.proofs.ReaderLemmas.{moved, then_told, mark_is, mark_told, word_told, bytes_same, skip_word_found, skip_mark_found, name_found, digits_found, skip_word_told, skip_mark_told, name_told, digits_told, closing_found, closing_told, opening_found, opening_told, Called, optional_found, optional_none, optional_some, repeated_found, repeated_told, each_longer}
use Rattle.mal_text.proofs.TermLemmas.{term_found, terms_found, term_told, terms_told, close_ends, terms_longer}

-- ## Instructions

abbrev write_path : List ℕ × List ℕ → List MalToken → List MalToken
write_path p rest = Name p.0 ∷ Mark mark.Dot ∷ Name p.1 ∷ Mark mark.Open ∷ rest

path_found : (ts : List MalToken) (p : List ℕ × List ℕ) (rest : List MalToken) → path ts ≡ Some (p, rest) → write_path p rest ≡ ts
unfolding path
path_found ts p rest h =
    let (home, one, h1) = then_found (name ts) _ (p, rest) h in
    let (a, two, h2) = then_found (skip_mark mark.Dot home.1) _ (p, rest) h1 in
    let (function, three, h3) = then_found (name a) _ (p, rest) h2 in
    let (b, four, last) = then_found (skip_mark mark.Open function.1) _ (p, rest) h3 in
    moved write_path (home.0, function.0) p b rest ts last
    (ap (λ r. Name home.0 ∷ Mark mark.Dot ∷ Name function.0 ∷ r) (skip_mark_found mark.Open function.1 b four)
    ∙ ap (λ r. Name home.0 ∷ Mark mark.Dot ∷ r) (name_found a function.0 function.1 three)
    ∙ ap (λ r. Name home.0 ∷ r) (skip_mark_found mark.Dot home.1 a two)
    ∙ name_found ts home.0 home.1 one)

path_told : (p : List ℕ × List ℕ) (rest : List MalToken) → path (write_path p rest) ≡ Some (p, rest)
unfolding path
path_told p rest =
    then_told _ _ _ (Some (p, rest)) (name_told p.0 _)
    (then_told _ _ _ (Some (p, rest)) (skip_mark_told mark.Dot _)
    (then_told _ _ _ (Some (p, rest)) (name_told p.1 _)
    (then_told _ _ _ (Some (p, rest)) (skip_mark_told mark.Open rest) refl)))

line_found : (ts : List MalToken) (l : Line) (rest : List MalToken) → line ts ≡ Some (l, rest) → write_line l rest ≡ ts
unfolding line
line_found ts l rest h =
    let (variable, one, h1) = then_found (name ts) _ (l, rest) h in
    let (a, two, h2) = then_found (skip_mark mark.Assign variable.1) _ (l, rest) h1 in
    let (called, three, h3) = then_found (path a) _ (l, rest) h2 in
    let (args, four, h4) = then_found (terms called.1) _ (l, rest) h3 in
    let (b, five, last) = then_found (closing args.1) _ (l, rest) h4 in
    let made : Line = record { name = variable.0; of_module = called.0.0; function = called.0.1; args = args.0 } in
    moved write_line made l b rest ts last
    (ap (λ r. Name variable.0 ∷ Mark mark.Assign ∷ write_path called.0 (write_terms args.0 r)) (closing_found args.1 b five)
    ∙ ap (λ r. Name variable.0 ∷ Mark mark.Assign ∷ write_path called.0 r) (terms_found called.1 args.0 args.1 four)
    ∙ ap (λ r. Name variable.0 ∷ Mark mark.Assign ∷ r) (path_found a called.0 called.1 three)
    ∙ ap (λ r. Name variable.0 ∷ r) (skip_mark_found mark.Assign variable.1 a two)
    ∙ name_found ts variable.0 variable.1 one)

line_told : (l : Line) (rest : List MalToken) → line (write_line l rest) ≡ Some (l, rest)
unfolding line
line_told l rest =
    then_told _ _ _ (Some (l, rest)) (name_told l.name _)
    (then_told _ _ _ (Some (l, rest)) (skip_mark_told mark.Assign _)
    (then_told _ _ _ (Some (l, rest)) (path_told (l.of_module, l.function) _)
    (then_told _ _ _ (Some (l, rest)) (terms_told l.args _)
    (then_told _ _ _ (Some (l, rest)) (closing_told rest) refl))))

-- ## Keys of the order

bit_found : (word : List ℕ) (b : Bool) → bit_named word ≡ Some b → bit_word b ≡ word
bit_found word b h = at_true (bytes_eq word (codes "true")) refl h
  where
    at_false : (t : Bool) → bytes_eq word (codes "false") ≡ t → cond t (Some false) None ≡ Some b → bit_word b ≡ word
    at_false true e h = let same : false ≡ b = value_found false b h in ap bit_word (sym same) ∙ sym ((bytes_decides word (codes "false")).0 e)
    at_false false e h = cc

    at_true : (t : Bool) → bytes_eq word (codes "true") ≡ t → cond t (Some true) (cond (bytes_eq word (codes "false")) (Some false) None) ≡ Some b → bit_word b ≡ word
    at_true true e h = let same : true ≡ b = value_found true b h in ap bit_word (sym same) ∙ sym ((bytes_decides word (codes "true")).0 e)
    at_true false e h = at_false (bytes_eq word (codes "false")) refl h

abbrev write_bit : Bool → List MalToken → List MalToken
write_bit b rest = Name (bit_word b) ∷ rest

bit_is_found : (ts : List MalToken) (b : Bool) (rest : List MalToken) → bit ts ≡ Some (b, rest) → Name (bit_word b) ∷ rest ≡ ts
unfolding bit
bit_is_found ts b rest h =
    let (word, one, h1) = then_found (name ts) _ (b, rest) h in
    let (found, two, last) = then_found (bit_named word.0) _ (b, rest) h1 in
    moved write_bit found b word.1 rest ts last
    (ap (λ w. Name w ∷ word.1) (bit_found word.0 found two) ∙ name_found ts word.0 word.1 one)

bit_told : (b : Bool) (rest : List MalToken) → bit (Name (bit_word b) ∷ rest) ≡ Some (b, rest)
unfolding bit
bit_told true rest = then_told _ _ _ (Some (true, rest)) (name_told (codes "true") rest) refl
bit_told false rest = then_told _ _ _ (Some (false, rest)) (name_told (codes "false") rest) refl

key_found : (ts : List MalToken) (k : OrderKey) (rest : List MalToken) → key ts ≡ Some (k, rest) → write_key k rest ≡ ts
unfolding key
key_found ts k rest h =
    let (a, one, h1) = then_found (opening (codes "order") ts) _ (k, rest) h in
    let (place, two, h2) = then_found (digits a) _ (k, rest) h1 in
    let (b, three, h3) = then_found (skip_mark mark.Comma place.1) _ (k, rest) h2 in
    let (ascending, four, h4) = then_found (bit b) _ (k, rest) h3 in
    let (c, five, last) = then_found (closing ascending.1) _ (k, rest) h4 in
    let made : OrderKey = record { place = place.0; ascending = ascending.0 } in
    moved write_key made k c rest ts last
    (ap (λ r. write_call (codes "order") (Digits place.0 ∷ Mark mark.Comma ∷ Name (bit_word ascending.0) ∷ r)) (closing_found ascending.1 c five)
    ∙ ap (λ r. write_call (codes "order") (Digits place.0 ∷ Mark mark.Comma ∷ r)) (bit_is_found b ascending.0 ascending.1 four)
    ∙ ap (λ r. write_call (codes "order") (Digits place.0 ∷ r)) (skip_mark_found mark.Comma place.1 b three)
    ∙ ap (λ r. write_call (codes "order") r) (digits_found a place.0 place.1 two)
    ∙ opening_found (codes "order") ts a one)

key_told : (k : OrderKey) (rest : List MalToken) → key (write_key k rest) ≡ Some (k, rest)
unfolding key
key_told k rest =
    then_told _ _ _ (Some (k, rest)) (opening_told (codes "order") _)
    (then_told _ _ _ (Some (k, rest)) (digits_told k.place _)
    (then_told _ _ _ (Some (k, rest)) (skip_mark_told mark.Comma _)
    (then_told _ _ _ (Some (k, rest)) (bit_told k.ascending _)
    (then_told _ _ _ (Some (k, rest)) (closing_told rest) refl))))

-- ## The frame

named_found : (word : List ℕ) (ts : List MalToken) (found : List ℕ) (rest : List MalToken) → named word ts ≡ Some (found, rest) → write_named word found rest ≡ ts
unfolding named
named_found word ts found rest h =
    let (a, one, h1) = then_found (skip_word word ts) _ (found, rest) h in
    let (b, two, h2) = then_found (skip_word (codes "user") a) _ (found, rest) h1 in
    let (c, three, four) = then_found (skip_mark mark.Dot b) name (found, rest) h2 in
    ap (λ r. Name word ∷ Name (codes "user") ∷ Mark mark.Dot ∷ r) (name_found c found rest four)
    ∙ ap (λ r. Name word ∷ Name (codes "user") ∷ r) (skip_mark_found mark.Dot b c three)
    ∙ ap (λ r. Name word ∷ r) (skip_word_found (codes "user") a b two)
    ∙ skip_word_found word ts a one

named_told : (word found : List ℕ) (rest : List MalToken) → named word (write_named word found rest) ≡ Some (found, rest)
unfolding named
named_told word found rest =
    then_told _ _ _ (Some (found, rest)) (skip_word_told word _)
    (then_told _ _ _ (Some (found, rest)) (skip_word_told (codes "user") _)
    (then_told _ _ _ (Some (found, rest)) (skip_mark_told mark.Dot _) (name_told found rest)))

void_found : (ts rest : List MalToken) → void ts ≡ Some rest → write_void rest ≡ ts
unfolding void
void_found ts rest h =
    let (a, one, h1) = then_found (skip_mark mark.Open ts) _ rest h in
    let (b, two, h2) = then_found (skip_mark mark.Close a) _ rest h1 in
    let (c, three, h3) = then_found (skip_mark mark.Colon b) _ rest h2 in
    let (d, four, five) = then_found (skip_word (codes "void") c) (skip_mark mark.Semicolon) rest h3 in
    ap (λ r. Mark mark.Open ∷ Mark mark.Close ∷ Mark mark.Colon ∷ Name (codes "void") ∷ r) (skip_mark_found mark.Semicolon d rest five)
    ∙ ap (λ r. Mark mark.Open ∷ Mark mark.Close ∷ Mark mark.Colon ∷ r) (skip_word_found (codes "void") c d four)
    ∙ ap (λ r. Mark mark.Open ∷ Mark mark.Close ∷ r) (skip_mark_found mark.Colon b c three)
    ∙ ap (λ r. Mark mark.Open ∷ r) (skip_mark_found mark.Close a b two)
    ∙ skip_mark_found mark.Open ts a one

void_told : (rest : List MalToken) → void (write_void rest) ≡ Some rest
unfolding void
void_told rest =
    then_told _ _ _ (Some rest) (skip_mark_told mark.Open _)
    (then_told _ _ _ (Some rest) (skip_mark_told mark.Close _)
    (then_told _ _ _ (Some rest) (skip_mark_told mark.Colon _)
    (then_told _ _ _ (Some rest) (skip_word_told (codes "void") _) (skip_mark_told mark.Semicolon rest))))

header_found : (ts : List MalToken) (found : List ℕ) (rest : List MalToken) → header ts ≡ Some (found, rest) → write_named (codes "function") found (write_void rest) ≡ ts
unfolding header
header_found ts found rest h =
    let (first, one, h1) = then_found (named (codes "function") ts) _ (found, rest) h in
    let (r, two, last) = then_found (void first.1) _ (found, rest) h1 in
    moved (λ n r. write_named (codes "function") n (write_void r)) first.0 found r rest ts last
    (ap (write_named (codes "function") first.0) (void_found first.1 r two) ∙ named_found (codes "function") ts first.0 first.1 one)

header_told : (found : List ℕ) (rest : List MalToken) → header (write_named (codes "function") found (write_void rest)) ≡ Some (found, rest)
unfolding header
header_told found rest =
    then_told _ _ _ (Some (found, rest)) (named_told (codes "function") found _)
    (then_told _ _ _ (Some (found, rest)) (void_told rest) refl)

abbrev write_end : List ℕ → List MalToken
write_end found = write_named (codes "end") found (Mark mark.Semicolon ∷ [])

nothing_found : (ts rest : List MalToken) → nothing_left ts ≡ Some rest → ts ≡ []
nothing_found [] rest h = refl
nothing_found (t ∷ ts) rest h = cc

ending_found : (word : List ℕ) (ts rest : List MalToken) → ending word ts ≡ Some rest → write_end word ≡ ts
unfolding ending
ending_found word ts rest h =
    let (found, one, h1) = then_found (named (codes "end") ts) _ rest h in
    let guard = guard_found (bytes_eq found.0 word) (then_read (skip_mark mark.Semicolon found.1) nothing_left) rest h1 in
    let (a, two, three) = then_found (skip_mark mark.Semicolon found.1) nothing_left rest guard.1 in
    ap write_end (sym ((bytes_decides found.0 word).0 guard.0))
    ∙ ap (λ r. write_named (codes "end") found.0 (Mark mark.Semicolon ∷ r)) (sym (nothing_found a rest three))
    ∙ ap (write_named (codes "end") found.0) (skip_mark_found mark.Semicolon found.1 a two)
    ∙ named_found (codes "end") ts found.0 found.1 one

ending_told : (word : List ℕ) → ending word (write_end word) ≡ Some []
unfolding ending
ending_told word =
    then_told _ _ _ (Some []) (named_told (codes "end") word _)
    (ap (λ b. cond b (then_read (skip_mark mark.Semicolon (Mark mark.Semicolon ∷ [])) nothing_left) None) (bytes_same word)
    ∙ then_told _ _ _ (Some []) (skip_mark_told mark.Semicolon []) refl)

-- ## The parts of an output

keep_found : (ts : List MalToken) (o : Option Term) (rest : List MalToken) → optional (codes "keep") term_of ts ≡ Some (o, rest) → write_keep o rest ≡ ts
keep_found ts o rest h = at (optional_found (codes "keep") term_of ts o rest h)
  where
    at : Called (codes "keep") term_of ts o rest → write_keep o rest ≡ ts
    at (inl f) = ap (λ o. write_keep o rest) f.0 ∙ f.1
    at (inr f) = ap (λ o. write_keep o rest) f.2 ∙ ap (write_call (codes "keep")) (term_found f.1 f.0 (write_closing rest) f.3) ∙ f.4

limit_found : (ts : List MalToken) (o : Option (List ℕ)) (rest : List MalToken) → optional (codes "limit") digits ts ≡ Some (o, rest) → write_limit o rest ≡ ts
limit_found ts o rest h = at (optional_found (codes "limit") digits ts o rest h)
  where
    at : Called (codes "limit") digits ts o rest → write_limit o rest ≡ ts
    at (inl f) = ap (λ o. write_limit o rest) f.0 ∙ f.1
    at (inr f) = ap (λ o. write_limit o rest) f.2 ∙ ap (write_call (codes "limit")) (digits_found f.1 f.0 (write_closing rest) f.3) ∙ f.4

output_found : (ts : List MalToken) (o : Option (List Term)) (rest : List MalToken) → optional (codes "output") terms ts ≡ Some (o, rest) → write_output o rest ≡ ts
output_found ts o rest h = at (optional_found (codes "output") terms ts o rest h)
  where
    at : Called (codes "output") terms ts o rest → write_output o rest ≡ ts
    at (inl f) = ap (λ o. write_output o rest) f.0 ∙ f.1
    at (inr f) = ap (λ o. write_output o rest) f.2 ∙ ap (write_call (codes "output")) (terms_found f.1 f.0 (write_closing rest) f.3) ∙ f.4

-- what may follow each part
module _ (end : List ℕ) where
  no_output : goes_call (codes "output") (write_end end) ≡ false
  unfolding is_word
  no_output = refl

  no_limit : (output : Option (List Term)) → goes_call (codes "limit") (write_output output (write_end end)) ≡ false
  unfolding is_word
  no_limit None = refl
  no_limit (Some ts) = refl

  no_key : (limit : Option (List ℕ)) (output : Option (List Term)) → goes_call (codes "order") (write_limit limit (write_output output (write_end end))) ≡ false
  unfolding is_word
  no_key None None = refl
  no_key None (Some ts) = refl
  no_key (Some n) output = refl

  no_keep : (order : List OrderKey) (limit : Option (List ℕ)) (output : Option (List Term)) → goes_call (codes "keep") (write_each write_key order (write_limit limit (write_output output (write_end end)))) ≡ false
  unfolding is_word
  no_keep [] None None = refl
  no_keep [] None (Some ts) = refl
  no_keep [] (Some n) output = refl
  no_keep (k ∷ order) limit output = refl

  no_line : (keep : Option Term) (order : List OrderKey) (limit : Option (List ℕ)) (output : Option (List Term)) → goes_line (write_keep keep (write_each write_key order (write_limit limit (write_output output (write_end end))))) ≡ false
  unfolding is_mark
  no_line None [] None None = refl
  no_line None [] None (Some ts) = refl
  no_line None [] (Some n) output = refl
  no_line None (k ∷ order) limit output = refl
  no_line (Some t) order limit output = refl

keep_told : (o : Option Term) (rest : List MalToken) → goes_call (codes "keep") rest ≡ false → optional (codes "keep") term_of (write_keep o rest) ≡ Some (o, rest)
keep_told None rest stop = optional_none (codes "keep") term_of rest stop
keep_told (Some t) rest stop = optional_some (codes "keep") term_of t (write_term t (write_closing rest)) rest (term_told t (write_closing rest) (close_ends _))

limit_told : (o : Option (List ℕ)) (rest : List MalToken) → goes_call (codes "limit") rest ≡ false → optional (codes "limit") digits (write_limit o rest) ≡ Some (o, rest)
limit_told None rest stop = optional_none (codes "limit") digits rest stop
limit_told (Some n) rest stop = optional_some (codes "limit") digits n (Digits n ∷ write_closing rest) rest (digits_told n (write_closing rest))

output_told : (o : Option (List Term)) (rest : List MalToken) → goes_call (codes "output") rest ≡ false → optional (codes "output") terms (write_output o rest) ≡ Some (o, rest)
output_told None rest stop = optional_none (codes "output") terms rest stop
output_told (Some ts) rest stop = optional_some (codes "output") terms ts (write_terms ts (write_closing rest)) rest (terms_told ts _)

-- ## Lists

abbrev Anywhere : List MalToken → Type 0
Anywhere ts = Unit {0}

line_longer : (l : Line) (rest : List MalToken) → length rest < length (write_line l rest)
line_longer l rest = let more = terms_longer l.args (write_closing rest) in omega (arith, more)

key_longer : (k : OrderKey) (rest : List MalToken) → length rest < length (write_key k rest)
key_longer k rest = omega arith

lines_found : (ts : List MalToken) (ls : List Line) (rest : List MalToken) → lines ts ≡ Some (ls, rest) → write_each write_line ls rest ≡ ts
unfolding lines
lines_found ts ls rest h =
    let (zs, is, text) = repeated_found goes_line line write_line line_found (length ts) [] ts ls rest h in
    ap (λ l. write_each write_line l rest) is ∙ text

lines_told : (ls : List Line) (rest : List MalToken) → goes_line rest ≡ false → lines (write_each write_line ls rest) ≡ Some (ls, rest)
unfolding lines
lines_told ls rest stop =
    let longer = each_longer goes_line line write_line line_longer ls rest in
    repeated_told goes_line line write_line Anywhere (λ x r e. line_told x r) (λ x r. mark_told mark.Assign) (λ x r. tt) ls (length (write_each write_line ls rest)) [] rest tt stop (omega (arith, longer))

keys_found : (ts : List MalToken) (ks : List OrderKey) (rest : List MalToken) → keys ts ≡ Some (ks, rest) → write_each write_key ks rest ≡ ts
unfolding keys
keys_found ts ks rest h =
    let (zs, is, text) = repeated_found (goes_call (codes "order")) key write_key key_found (length ts) [] ts ks rest h in
    ap (λ l. write_each write_key l rest) is ∙ text

keys_told : (ks : List OrderKey) (rest : List MalToken) → goes_call (codes "order") rest ≡ false → keys (write_each write_key ks rest) ≡ Some (ks, rest)
unfolding keys
keys_told ks rest stop =
    let longer = each_longer (goes_call (codes "order")) key write_key key_longer ks rest in
    repeated_told (goes_call (codes "order")) key write_key Anywhere (λ x r e. key_told x r) (λ x r. word_told (codes "order")) (λ x r. tt) ks (length (write_each write_key ks rest)) [] rest tt stop (omega (arith, longer))

-- ## Blocks

pub block_found : (ts : List MalToken) (b : Block) (rest : List MalToken) → block ts ≡ Some (b, rest) → write_block b ≡ ts
unfolding block
block_found ts b rest h =
    let (first, one, h1) = then_found (header ts) _ (b, rest) h in
    let (ls, two, h2) = then_found (lines first.1) _ (b, rest) h1 in
    let (keep, three, h3) = then_found (optional (codes "keep") term_of ls.1) _ (b, rest) h2 in
    let (order, four, h4) = then_found (keys keep.1) _ (b, rest) h3 in
    let (limit, five, h5) = then_found (optional (codes "limit") digits order.1) _ (b, rest) h4 in
    let (output, six, h6) = then_found (optional (codes "output") terms limit.1) _ (b, rest) h5 in
    let (r, seven, last) = then_found (ending first.0 output.1) _ (b, rest) h6 in
    let made : Block = record { name = first.0; lines = ls.0; keep = keep.0; order = order.0; limit = limit.0; output = output.0 } in
    let start : List MalToken → List MalToken = λ r. write_named (codes "function") first.0 (write_void r) in
    moved (λ b r. write_block b) made b r rest ts last
    (ap (λ r. start (write_each write_line ls.0 (write_keep keep.0 (write_each write_key order.0 (write_limit limit.0 (write_output output.0 r)))))) (ending_found first.0 output.1 r seven)
    ∙ ap (λ r. start (write_each write_line ls.0 (write_keep keep.0 (write_each write_key order.0 (write_limit limit.0 r))))) (output_found limit.1 output.0 output.1 six)
    ∙ ap (λ r. start (write_each write_line ls.0 (write_keep keep.0 (write_each write_key order.0 r)))) (limit_found order.1 limit.0 limit.1 five)
    ∙ ap (λ r. start (write_each write_line ls.0 (write_keep keep.0 r))) (keys_found keep.1 order.0 order.1 four)
    ∙ ap (λ r. start (write_each write_line ls.0 r)) (keep_found ls.1 keep.0 keep.1 three)
    ∙ ap start (lines_found first.1 ls.0 ls.1 two)
    ∙ header_found ts first.0 first.1 one)

pub block_told : (b : Block) → block (write_block b) ≡ Some (b, [])
unfolding block
block_told b =
    then_told _ _ _ (Some (b, [])) (header_told b.name _)
    (then_told _ _ _ (Some (b, [])) (lines_told b.lines _ (no_line b.name b.keep b.order b.limit b.output))
    (then_told _ _ _ (Some (b, [])) (keep_told b.keep _ (no_keep b.name b.order b.limit b.output))
    (then_told _ _ _ (Some (b, [])) (keys_told b.order _ (no_key b.name b.limit b.output))
    (then_told _ _ _ (Some (b, [])) (limit_told b.limit _ (no_limit b.name b.output))
    (then_told _ _ _ (Some (b, [])) (output_told b.output _ (no_output b.name))
    (then_told _ _ _ (Some (b, [])) (ending_told b.name) refl))))))
