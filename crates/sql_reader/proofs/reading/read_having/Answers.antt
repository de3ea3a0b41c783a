use Rattle.std.proofs.lemmas.Result.{IfOk-weaker}
use Rattle.sql_grammar.specs.Reads.{tokens_in}
use Rattle.sql_tree.specs.Tree.{cond_tree}
use Rattle.read_laws.proofs.CondLaws.{having_read, having_told}
use Rattle.sql_reader.proofs.reading.read_having.Goals as goal

pub returns-clause-cond : goal.returns-clause-cond
returns-clause-cond c = IfOk-weaker c.all_cond.result _ _ (λ read h. having_read (tokens_in c.args.tokens.now) (cond_tree read) h) c.all_cond.ensures.found

pub returns-clause-none : goal.returns-clause-none
returns-clause-none c = λ h cond is. c.all_cond.ensures.none h _ (having_told (tokens_in c.args.tokens.now) cond is)
