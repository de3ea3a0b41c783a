-- What a log has of a session, and its statements there, by one more event.
use Rattle.std.proofs.Common.{◌≡◌, ℕ, zero, suc, ◌+◌, ◌≤◌, ◌<◌, List, [], ◌∷◌, ◌++◌, map, take, length, Bool, true, false, cond, Some, refl, ap, sym, ◌∙◌, subst, arith}
use Rattle.std.specs.Prelude.{filter, slice_get, ◌==◌}
use Rattle.std.proofs.lemmas.Bool.{eq-eqb}
use Rattle.std.proofs.lemmas.List.{append_assoc, append-nil, map-append}
use Rattle.std.proofs.lemmas.List.Elements.{filter-append}
use Rattle.std.proofs.lemmas.Option.{same_Some}
use Rattle.cell_core.specs.declared.table.Db.{Db}
use Rattle.read_laws.specs.Answered.{EachReadsAsOne, Reads}
use Rattle.run_log.specs.Events.{ActTree, EventTree}
use Rattle.answer_text.specs.Log.{AreActs, AreStatements, Said, logged_of, tables_met}
use Rattle.read_laws.specs.Readings.{AreReadings}
use Rattle.run_sessions.proofs.PlaceLemmas.{none_there}

-- ## What a log has of a session

abbrev is_own : ℕ → EventTree → Bool
is_own session event = event.session == session

abbrev entry : EventTree → ℕ × ActTree
entry event = (event.statement, event.act)

logged_more : (session : ℕ) (log : List EventTree) (event : EventTree) (b : Bool) → is_own session event ≡ b → logged_of session (log ++ event ∷ []) ≡ logged_of session log ++ map entry (cond b (event ∷ []) [])
logged_more session log event b is =
    ap (map entry) (filter-append (is_own session) log (event ∷ []))
    ∙ map-append entry (filter (is_own session) log) (filter (is_own session) (event ∷ []))
    ∙ ap (λ c. logged_of session log ++ map entry (cond c (event ∷ []) [])) is

-- an event of the session itself
pub logged_own : (session : ℕ) (log : List EventTree) (event : EventTree) → event.session ≡ session → logged_of session (log ++ event ∷ []) ≡ logged_of session log ++ (event.statement, event.act) ∷ []
logged_own session log event own = logged_more session log event true (eq-eqb event.session session own)

-- and of another
pub logged_other : (session : ℕ) (log : List EventTree) (event : EventTree) → (event.session == session) ≡ false → logged_of session (log ++ event ∷ []) ≡ logged_of session log
logged_other session log event other = logged_more session log event false other ∙ append-nil (logged_of session log)

-- ## Statements

-- they stay where their tables do
pub statements_stay : (log later : List EventTree) (session k : ℕ) (readings : List Said) (logged : List (ℕ × ActTree))
    → ((j : ℕ) → k ≤ j → j < k + length readings → tables_met later session j ≡ tables_met log session j) → AreStatements log session k readings logged → AreStatements later session k readings logged
statements_stay log later session k [] logged same are = are
statements_stay log later session k (reading ∷ readings) logged same are = (
  are.0,
  are.1,
  are.2,
  subst (λ (db : Db). AreActs db reading are.0) (sym (same k (omega arith) (omega arith))) are.3,
  statements_stay log later session (k + 1) readings are.1 (λ j low high. same j (omega (arith, low)) (omega (arith, high))) are.4,
)

-- one more statement
pub statements_next : (log : List EventTree) (session k j : ℕ) (readings : List Said) (reading : Said) (logged : List (ℕ × ActTree)) (acts : List ActTree) → j ≡ k + length readings
    → AreActs (tables_met log session j) reading acts → AreStatements log session k readings logged → AreStatements log session k (readings ++ reading ∷ []) (logged ++ map {B = ℕ × ActTree} (λ act. (j, act)) acts)
statements_next log session k j [] reading logged acts is are none =
    let same : j ≡ k = omega (arith, is) in
    subst (λ n. AreStatements log session k (reading ∷ []) (logged ++ map {B = ℕ × ActTree} (λ act. (n, act)) acts)) (sym same) (
      acts,
      [],
      ap (λ before. before ++ map {B = ℕ × ActTree} (λ act. (k, act)) acts) none ∙ sym (append-nil (map {B = ℕ × ActTree} (λ act. (k, act)) acts)),
      subst (λ n. AreActs (tables_met log session n) reading acts) same are,
      refl,
    )
statements_next log session k j (r ∷ readings) reading logged acts is are before = (
  before.0,
  before.1 ++ map {B = ℕ × ActTree} (λ act. (j, act)) acts,
  ap (λ all. all ++ map {B = ℕ × ActTree} (λ act. (j, act)) acts) before.2 ∙ append_assoc (map {B = ℕ × ActTree} (λ act. (k, act)) before.0) before.1 (map {B = ℕ × ActTree} (λ act. (j, act)) acts),
  before.3,
  statements_next log session (k + 1) j readings reading before.1 acts (omega (arith, is)) are before.4,
)

-- ## Readings

taken_suc : {X : Type 0} (xs : List X) (n : ℕ) (x : X) → slice_get xs n ≡ Some x → take (suc n) xs ≡ take n xs ++ x ∷ []
taken_suc [] n x there = none_there n x there
taken_suc (y ∷ xs) zero x there = ap (λ z. z ∷ []) (same_Some y x there)
taken_suc (y ∷ xs) (suc n) x there = ap (λ zs. y ∷ zs) (taken_suc xs n x there)

readings_on : (pieces : List (List ℕ)) (readings : List Said) (piece : List ℕ) (reading : Said) → AreReadings pieces readings → Reads piece reading → AreReadings (pieces ++ piece ∷ []) (readings ++ reading ∷ [])
readings_on [] [] piece reading are is = (is, tt)
readings_on [] (r ∷ rs) piece reading are is = absurd are
readings_on (p ∷ ps) [] piece reading are is = absurd are
readings_on (p ∷ ps) (r ∷ rs) piece reading are is = (are.0, readings_on ps rs piece reading are.1 is)

-- one more text
pub readings_next : (pieces : List (List ℕ)) (n : ℕ) (readings : List Said) (piece : List ℕ) (reading : Said) → slice_get pieces n ≡ Some piece → AreReadings (take n pieces) readings → Reads piece reading
    → AreReadings (take (n + 1) pieces) (readings ++ reading ∷ [])
readings_next pieces n readings piece reading here are is =
    let next : n + 1 ≡ suc n = omega arith in
    subst (λ some. AreReadings some (readings ++ reading ∷ [])) (sym (ap (λ k. take k pieces) next ∙ taken_suc pieces n piece here)) (readings_on (take n pieces) readings piece reading are is)

-- texts read as one thing each
pub readings_one : EachReadsAsOne → (pieces : List (List ℕ)) (a b : List Said) → AreReadings pieces a → AreReadings pieces b → a ≡ b
readings_one each [] [] [] p q = refl
readings_one each [] (r ∷ a) b p q = absurd p
readings_one each [] [] (r ∷ b) p q = absurd q
readings_one each (piece ∷ pieces) [] b p q = absurd p
readings_one each (piece ∷ pieces) (r ∷ a) [] p q = absurd q
readings_one each (piece ∷ pieces) (r ∷ a) (t ∷ b) p q = λ i. each piece r t p.0 q.0 i ∷ readings_one each pieces a b p.1 q.1 i
