-- Tokens that follow one another so that no rule of what the profile leaves out applies to them.
use Rattle.std.proofs.Common.{◌≡◌, ℕ, zero, suc, ◌+◌, List, [], ◌∷◌, length, Bool, true, false, ◌&&◌, ◌||◌, Some, None, codes, refl, ap, ◌∙◌, arith}
use Rattle.std.specs.Prelude.{slice_get, if◌then◌else◌}
use Rattle.sql_grammar.specs.Refused.{before, is_open, is_star, is_digits, has_expressions, call_rule, dot_rule, rule_of, rule_at}
use Rattle.sql_tree.specs.declared.token.Keyword.TheVariants as word
use Rattle.sql_tree.specs.declared.token.Symbol.TheVariants as symbol
use Rattle.sql_tree.specs.declared.token.Token.{Token}
use Rattle.sql_tree.specs.declared.token.Token.TheVariants.{Name, Quoted, Text, Digits, Key, Unsupported}
use Rattle.sql_tree.specs.declared.token.Token.TheVariants as token

-- ## Places in a list

-- the tokens before a place, the last one first, put back before those from there on
abbrev pub onto : List Token → List Token → List Token
onto [] rest = rest
onto (t ∷ past) rest = onto past (t ∷ rest)

get_onto : (past rest : List Token) (j k : ℕ) → k ≡ length past + j → slice_get (onto past rest) k ≡ slice_get rest j
get_onto [] rest j k at = ap (slice_get rest) (omega arith)
get_onto (t ∷ past) rest j k at = get_onto past (t ∷ rest) (suc j) k (omega arith)

before_onto : (past rest : List Token) (k : ℕ) → k ≡ length past → before (onto past rest) k ≡ slice_get past 0
before_onto [] rest zero at = refl
before_onto [] rest (suc k) at = absurd (omega arith)
before_onto (t ∷ past) rest zero at = absurd (omega arith)
before_onto (t ∷ past) rest (suc k) at = get_onto past (t ∷ rest) 0 k (omega arith)

-- ## What may be between other tokens

abbrev pub opens : List Token → Bool
opens ts = is_open (slice_get ts 0)

-- a `.` beside digits, or before a star
abbrev pub dot_refused : List Token → List Token → Bool
dot_refused past rest = (is_digits (slice_get past 0) || is_digits (slice_get rest 0)) || is_star (slice_get rest 0)

-- no rule applies to a token after the past, where the statement begins with the first
abbrev pub Fits : Token → List Token → Token → List Token → Type 0
Fits first past (Name name) rest = (has_expressions (Some first) && opens rest) ≡ false
Fits first past (Quoted name) rest = (has_expressions (Some first) && opens rest) ≡ false
Fits first past (Unsupported word) rest = ⊥
Fits first past (Key word.Select) rest = ⊥
Fits first past (Key word.Distinct) rest = ⊥
Fits first past (token.Symbol symbol.Slash) rest = ⊥
Fits first past (token.Symbol symbol.Percent) rest = ⊥
Fits first past (token.Symbol symbol.Bars) rest = ⊥
Fits first past (token.Symbol symbol.Dot) rest = dot_refused past rest ≡ false
Fits first past other rest = Unit {0}

-- none to any token of the rest
abbrev pub Quiet : Token → List Token → List Token → Type 0
Quiet first past [] = Unit {0}
Quiet first past (t ∷ rest) = Fits first past t rest × Quiet first (t ∷ past) rest

-- ## The rules find nothing

if_false : (b : Bool) (name : List ℕ) → b ≡ false → (if b then Some name else None) ≡ None
if_false b name e = ap (λ b. if b then Some name else None) e

dot_passed : (a b c : Bool) → ((a || b) || c) ≡ false → (if a || b then Some (codes "DECIMAL") else (if c then Some (codes "QUALIFIED STAR") else None)) ≡ None
dot_passed true b c e = absurd (cc)
dot_passed false true c e = absurd (cc)
dot_passed false false true e = absurd (cc)
dot_passed false false false e = refl

calls : (tokens rest : List Token) (first : Token) (k : ℕ) → slice_get tokens 0 ≡ Some first → slice_get tokens (k + 1) ≡ slice_get rest 0 → (has_expressions (Some first) && opens rest) ≡ false → call_rule tokens k ≡ None
calls tokens rest first k e next fits =
    if_false (has_expressions (slice_get tokens 0) && is_open (slice_get tokens (k + 1))) (codes "FUNCTION")
    (ap (λ o. has_expressions o && is_open (slice_get tokens (k + 1))) e ∙ ap (λ o. has_expressions (Some first) && is_open o) next ∙ fits)

dots : (tokens past rest : List Token) (k : ℕ) → before tokens k ≡ slice_get past 0 → slice_get tokens (k + 1) ≡ slice_get rest 0 → dot_refused past rest ≡ false → dot_rule tokens k ≡ None
dots tokens past rest k last next fits =
    ap (λ o. if is_digits o || is_digits (slice_get tokens (k + 1)) then Some (codes "DECIMAL") else (if is_star (slice_get tokens (k + 1)) then Some (codes "QUALIFIED STAR") else None)) last
    ∙ ap (λ o. if is_digits (slice_get past 0) || is_digits o then Some (codes "DECIMAL") else (if is_star o then Some (codes "QUALIFIED STAR") else None)) next
    ∙ dot_passed (is_digits (slice_get past 0)) (is_digits (slice_get rest 0)) (is_star (slice_get rest 0)) fits

here : (first : Token) (past : List Token) (t : Token) (rest : List Token) (k : ℕ) → k ≡ length past → slice_get (onto past (t ∷ rest)) 0 ≡ Some first → Fits first past t rest → rule_of (onto past (t ∷ rest)) k (Some t) ≡ None
here first past (Name name) rest k at e fits = calls (onto past (Name name ∷ rest)) rest first k e (get_onto past (Name name ∷ rest) 1 (k + 1) (omega arith)) fits
here first past (Quoted name) rest k at e fits = calls (onto past (Quoted name ∷ rest)) rest first k e (get_onto past (Quoted name ∷ rest) 1 (k + 1) (omega arith)) fits
here first past (Unsupported word) rest k at e fits = absurd fits
here first past (Text text) rest k at e fits = refl
here first past (Digits digits) rest k at e fits = refl
here first past (Key word.Select) rest k at e fits = absurd fits
here first past (Key word.Distinct) rest k at e fits = absurd fits
here first past (Key other) rest k at e fits = refl
here first past (token.Symbol symbol.Slash) rest k at e fits = absurd fits
here first past (token.Symbol symbol.Percent) rest k at e fits = absurd fits
here first past (token.Symbol symbol.Bars) rest k at e fits = absurd fits
here first past (token.Symbol symbol.Dot) rest k at e fits =
    dots (onto past (token.Symbol symbol.Dot ∷ rest)) past rest k (before_onto past (token.Symbol symbol.Dot ∷ rest) k at) (get_onto past (token.Symbol symbol.Dot ∷ rest) 1 (k + 1) (omega arith)) fits
here first past (token.Symbol other) rest k at e fits = refl

-- after tokens that are the past, no rule applies
pub quiet_rules : (first : Token) (past rest : List Token) → slice_get (onto past rest) 0 ≡ Some first → Quiet first past rest → (j k : ℕ) → k ≡ length past + j → rule_at (onto past rest) k ≡ None
quiet_rules first past [] e quiet j k at = ap (rule_of (onto past []) k) (get_onto past [] j k at)
quiet_rules first past (t ∷ rest) e quiet zero k at =
    ap (rule_of (onto past (t ∷ rest)) k) (get_onto past (t ∷ rest) 0 k at) ∙ here first past t rest k (omega arith) e quiet.0
quiet_rules first past (t ∷ rest) e quiet (suc j) k at = quiet_rules first (t ∷ past) rest e quiet.1 j k (omega arith)
