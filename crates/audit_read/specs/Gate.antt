-- What one scan of tokens finds: the first rule that applies, and levels past the limit. Only private contracts
-- cite this.
use Rattle.std.specs.Prelude.{◌≡◌, ◌≤◌, List, [], Bool, true, ◌||◌, if◌then◌else◌, sum, codes, Option, Some, None, ℕ}
use Rattle.audit_read.specs.declared.gate.Gate.{Gate}
use Rattle.audit_read.specs.declared.gate.Gate.TheVariants.{Plain, Rule, Deep}
use Rattle.audit_read.specs.declared.gate.Levels.{Levels}
use Rattle.sql_grammar.specs.Reads.{ArePlain}
use Rattle.sql_grammar.specs.Refused.{IsFirstRule, is_too_deep, is_digits, is_star}
use Rattle.sql_tree.specs.declared.token.Token.{Token}

-- what is found
abbrev pub IsGate : List Token → Gate → Type 0
IsGate tokens Plain = ArePlain tokens
IsGate tokens (Rule name) = IsFirstRule tokens (Some name)
IsGate tokens Deep = IsFirstRule tokens None × (is_too_deep [] 0 tokens ≡ true)

-- the total is that of the levels, and numbers are small
pub record AreLevels (levels : Levels) : Type 0 where
  pub total : levels.total ≡ sum levels.opened.items
  pub small : levels.total ≤ 513
  pub short : levels.run ≤ 513

-- a token was too deep, or one of these is
abbrev pub deep_from : Levels → List Token → Bool
deep_from levels tokens = levels.deep || is_too_deep levels.opened.items levels.run tokens

-- the name by the rule of a dot between these tokens
abbrev pub dot_between : Option Token → Option Token → Option (List ℕ)
dot_between before after =
    if is_digits before || is_digits after then Some (codes "DECIMAL")
    else (if is_star after then Some (codes "QUALIFIED STAR") else None)
