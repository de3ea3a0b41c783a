-- A served run is honest.
use Rattle.std.proofs.Common.{◌≡◌, ℕ, List, [], ◌∷◌, ◌++◌, map, true, Result, Ok, Err, ap, sym, ◌∙◌, subst}
use Rattle.std.specs.List.{AllByRecursion}
use Rattle.read_laws.specs.Answered.{Reads}
use Rattle.read_laws.specs.Readings.{AreAllRead, AreReadings}
use Rattle.run_log.specs.Events.{EventTree}
use Rattle.run_log.specs.declared.event.Totals.{Totals}
use Rattle.session_run.specs.Work.{run_totals}
use Rattle.sql_definitions.specs.declared.refusal.Refusal.{Refusal}
use Rattle.sql_shell.specs.Numbers.{AreShort}
use Rattle.sql_shell.specs.Served.{pool_of}
use Rattle.sql_tree.specs.Pieces.{pieces_of}
use Rattle.sql_tree.specs.Tree.{StmtTree}
use Rattle.sql_tree.specs.Tree.StmtTree.{CreateTable, DropTable, AlterTable, InsertInto, DeleteFrom, UpdateTable, Select, ExplainSelect}
use Rattle.answer_text.specs.Layout.{printed}
use Rattle.answer_text.specs.Log.{IsOrdered}
use Rattle.reply_layout.specs.Layout.{history_of}
use Rattle.audit_definitions.specs.Honest.{IsHonest, IsNoExplain}
use Rattle.audit_laws.specs.Laws.{HoldsNoExplain, IsNoExplainText, ServedIsHonest}
use Rattle.audit_laws.proofs.LineLemmas.{lines_of, log_same}
use Rattle.audit_laws.proofs.OrderLemmas.{ordered_same}
use Rattle.audit_laws.proofs.PlaceLemmas.{changes_same}
use Rattle.audit_laws.proofs.TextLemmas.{sessions_printed, totals_count, totals_numbers, totals_of, totals_printed}

-- ## No EXPLAIN

plain_reading : (piece : List ℕ) (reading : Result StmtTree Refusal) → IsNoExplainText piece → Reads piece reading → IsNoExplain reading
plain_reading piece (Err refusal) none read = tt
plain_reading piece (Ok (ExplainSelect query)) none read = none query read
plain_reading piece (Ok (Select query)) none read = tt
plain_reading piece (Ok (CreateTable table columns)) none read = tt
plain_reading piece (Ok (DropTable table)) none read = tt
plain_reading piece (Ok (AlterTable table column)) none read = tt
plain_reading piece (Ok (InsertInto table listed rows)) none read = tt
plain_reading piece (Ok (DeleteFrom table condition)) none read = tt
plain_reading piece (Ok (UpdateTable table sets condition)) none read = tt

plain_script : (pieces : List (List ℕ)) (readings : List (Result StmtTree Refusal)) → AllByRecursion IsNoExplainText pieces → AreReadings pieces readings → AllByRecursion IsNoExplain readings
plain_script [] [] none read = tt
plain_script [] (reading ∷ readings) none read = absurd read
plain_script (piece ∷ pieces) [] none read = absurd read
plain_script (piece ∷ pieces) (reading ∷ readings) none read = (plain_reading piece reading none.0 read.0, plain_script pieces readings none.1 read.1)

plain_files : (files : List (List ℕ × List ℕ)) (scripts : List (List (Result StmtTree Refusal))) → AllByRecursion HoldsNoExplain files → AreAllRead (map (λ (file : List ℕ × List ℕ). pieces_of file.1) files) scripts
    → AllByRecursion (AllByRecursion IsNoExplain) scripts
plain_files [] [] none read = tt
plain_files [] (readings ∷ scripts) none read = absurd read
plain_files (file ∷ files) [] none read = absurd read
plain_files (file ∷ files) (readings ∷ scripts) none read = (plain_script (pieces_of file.1) readings none.0 read.0, plain_files files scripts none.1 read.1)

-- ## What is printed

-- what is printed with its log, of an ordered log with short numbers
printed_honest : (files : List (List ℕ × List ℕ)) (readings : List (List (Result StmtTree Refusal))) (log : List EventTree) (totals : Totals)
    → AllByRecursion HoldsNoExplain files → AreAllRead (map (λ (file : List ℕ × List ℕ). pieces_of file.1) files) readings → IsOrdered readings log → AreShort log totals
    → IsHonest files (printed true (map (λ (file : List ℕ × List ℕ). file.0) files) readings log totals)
printed_honest files readings log totals none read ordered short =
    let plain = plain_files files readings none read in
    record {
      readings = readings;
      read = read;
      plain = plain;
      lines = lines_of log;
      ordered = ordered_same readings log plain short.pool ordered;
      totals = totals_of totals;
      count = totals_count totals;
      numbers = totals_numbers totals short.counts short.work;
      text_is = λ i. sessions_printed log (map (λ (file : List ℕ × List ℕ). file.0) files) readings plain i ++ history_of (sym (changes_same log) i) ++ totals_printed totals i ++ log_same log i;
    }

pub served_honest : ServedIsHonest
served_honest options files text log work events none served =
    let names = map (λ (file : List ℕ × List ℕ). file.0) files in
    let totals = run_totals (pool_of options) log in
    let is : printed true names served.readings log totals ≡ text = ap (λ with_events. printed with_events names served.readings log totals) (sym events) ∙ sym served.printed_is in
    subst (IsHonest files) is (printed_honest files served.readings log totals none served.read served.ordered served.short)
