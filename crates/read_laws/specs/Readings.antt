-- What the texts of statements read as, and the texts of several scripts.
use Rattle.std.specs.Prelude.{List, [], ◌∷◌, ℕ, Result}
use Rattle.read_laws.specs.Answered.{Reads}
use Rattle.sql_definitions.specs.declared.refusal.Refusal.{Refusal}
use Rattle.sql_tree.specs.Tree.{StmtTree}

-- each text reads so
abbrev pub AreReadings : List (List ℕ) → List (Result StmtTree Refusal) → Type 0
AreReadings [] [] = Unit {0}
AreReadings (piece ∷ pieces) (reading ∷ readings) = Reads piece reading × AreReadings pieces readings
AreReadings _ _ = ⊥

-- each text of each script reads so
abbrev pub AreAllRead : List (List (List ℕ)) → List (List (Result StmtTree Refusal)) → Type 0
AreAllRead [] [] = Unit {0}
AreAllRead (pieces ∷ scripts) (readings ∷ others) = AreReadings pieces readings × AreAllRead scripts others
AreAllRead _ _ = ⊥
