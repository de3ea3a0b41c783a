-- What a call takes from the front of the tokens: the same as a reader on plain lists.
use Rattle.std.specs.Prelude.{◌≡◌, Some, None, Result, IfOk, IsErrOf, List}
use Rattle.read_laws.specs.Chain.{Parser}
use Rattle.sql_grammar.specs.Reads.{tokens_in}
use Rattle.sql_tree.specs.declared.token.Placed.{Placed}
use Rattle.audit_exprs.specs.declared.cursor.NotRead.{NotRead}
use Rattle.audit_exprs.specs.declared.cursor.NotRead.TheVariants.{Syntax}

-- a call returns a value, seen as `tree` sees it, and leaves the tokens after it, as the reader does; it
-- returns `Syntax` only where the reader returns None
abbrev pub TakesAs : {T X : Type 0} → (T → X) → Parser X → List Placed → List Placed → Result T NotRead → Type 0
TakesAs tree parser old new result = IfOk result (λ value. parser (tokens_in old) ≡ Some (tree value, tokens_in new)) × (IsErrOf result Syntax → parser (tokens_in old) ≡ None)

-- the same of a value that is seen as it is
abbrev pub Takes : {T : Type 0} → Parser T → List Placed → List Placed → Result T NotRead → Type 0
Takes parser old new result = TakesAs (λ value. value) parser old new result
