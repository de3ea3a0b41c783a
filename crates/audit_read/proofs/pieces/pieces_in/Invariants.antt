use Rattle.std.proofs.Common.{◌≤◌, ◌-◌, take, drop}
use Rattle.std.specs.Str.{IsCharBoundary}
use Rattle.audit_read.proofs.RunLemmas.{Stands}
use Rattle.audit_read.proofs.pieces.pieces_in.Given as goal

abbrev pub invariant-bytes : goal.invariant-bytes
invariant-bytes l = record {
  stands : Stands l.fn.text l.found.items l.place (take (l.at - l.start) (drop l.start l.fn.text)) (drop l.at l.fn.text) l.says;
  order : l.start ≤ l.at;
  boundary : IsCharBoundary l.fn.text l.start;
}
