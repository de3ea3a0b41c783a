use Rattle.std.proofs.Common.{◌≡◌, ◌++◌}
use Rattle.sql_shell.specs.Scripts.{names_of, pieces_in}
use Rattle.sql_shell.proofs.produce.split.Given as goal

-- the names and texts so far
abbrev pub invariant-scripts : goal.invariant-scripts
invariant-scripts l = record {
  names : l.names.items ≡ names_of l.yielded;
  texts : l.texts.items ≡ pieces_in l.yielded;
  rest : l.yielded ++ l.script-iterator.rest.items ≡ l.fn.scripts.items;
}
