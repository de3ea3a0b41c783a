use Rattle.std.proofs.Common.{◌≡◌, ◌+◌, ◌∷◌, ◌++◌, [], sym, subst}
use Rattle.std.specs.Prelude.{IfOk, OnOk}
use Rattle.std.proofs.lemmas.Result.{on_ok_weaker}
use Rattle.sql_tree.specs.declared.tree.Stmt.{Stmt}
use Rattle.sql_tree.specs.Tree.{stmt_tree}
use Rattle.sql_definitions.specs.Effect.{effect}
use Rattle.sql_definitions.specs.declared.refusal.Reply.{Reply}
use Rattle.book_core.specs.BookView.{state_of}
use Rattle.book_core.specs.Writes.{IsOutcome, return_work, written_by}
use Rattle.book_core.proofs.WriteBook.{both_ok, outcome_of, refused_keeps, work_added, write_counted}
use Rattle.book_core.proofs.book.Book.write.Goals as goal

pub settle-requires-clause-outcome : goal.settle-requires-clause-outcome
settle-requires-clause-outcome g c =
    let told = c.in_ok-outcome.ensures in
    subst (λ (s : Stmt). IsOutcome (stmt_tree s) c.in_ok-outcome.outcome.ready c.in_ok-outcome.outcome.work (state_of c.args.self.now)) (sym c.in_ok-text.ensures)
    (outcome_of c.self.inside c.self.invariant c.self.view_is (stmt_tree c.args.stmt.now) c.in_ok-outcome.outcome.ready c.in_ok-outcome.outcome.work c.requires.formed told.effect told.prepared told.touched told.work)

pub returns-clause-work : goal.returns-clause-work
returns-clause-work g c =
    both_ok c.settle.result (λ (reply : Reply). reply ≡ (effect (stmt_tree c.args.stmt.now) (state_of c.args.self.now).db).1) (λ (reply : Reply). c.settle.new.self.log ≡ c.args.self.now.log ++ written_by c.args.who c.args.stmt.now reply ∷ []) _
    (λ reply said logged. work_added c.args.self.now c.settle.new.self c.args.who c.args.stmt.now reply c.settle.ensures.options logged said)
    (subst (λ (s : Stmt). IfOk c.settle.result (λ (reply : Reply). reply ≡ (effect (stmt_tree s) (state_of c.args.self.now).db).1)) c.in_ok-text.ensures c.settle.ensures.reply)
    (subst (λ (s : Stmt). IfOk c.settle.result (λ (reply : Reply). c.settle.new.self.log ≡ c.args.self.now.log ++ written_by c.args.who s reply ∷ [])) c.in_ok-text.ensures c.settle.ensures.logged)

pub returns-clause-counted : goal.returns-clause-counted
returns-clause-counted g c =
    on_ok_weaker c.settle.result
    (λ more. write_counted c.self.inside c.self.invariant c.self.view_is (stmt_tree c.args.stmt.now) c.in_ok-outcome.outcome.work c.args.steps.now c.prepare.new.steps c.settle.new.steps c.in_ok-outcome.ensures.work c.in_ok-outcome.ensures.counted more)
    (subst (λ (s : Stmt). OnOk c.settle.result (c.settle.new.steps ≡ c.prepare.new.steps + return_work (stmt_tree s) (state_of c.args.self.now))) c.in_ok-text.ensures c.settle.ensures.counted)

pub returns-clause-refused : goal.returns-clause-refused
returns-clause-refused g c refusal is =
    refused_keeps c.args.self.now c.settle.new.self c.args.who c.args.stmt.now refusal c.settle.ensures.options
    (subst (λ r. IfOk r (λ (reply : Reply). c.settle.new.self.log ≡ c.args.self.now.log ++ written_by c.args.who c.args.stmt.now reply ∷ [])) is
    (subst (λ (s : Stmt). IfOk c.settle.result (λ (reply : Reply). c.settle.new.self.log ≡ c.args.self.now.log ++ written_by c.args.who s reply ∷ [])) c.in_ok-text.ensures c.settle.ensures.logged))
