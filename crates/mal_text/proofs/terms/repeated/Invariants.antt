use Rattle.std.proofs.Common.{◌≡◌, ◌-◌, length}
use Rattle.mal_text.specs.Reader as reader
use Rattle.mal_text.proofs.terms.repeated.Given as goal

abbrev pub invariant-parts : goal.invariant-parts
invariant-parts g l =
    reader.repeated g.P.Repeatable.goes g.P.Repeatable.reader (length l.fn.tokens.rest.now) l.fn.first l.fn.tokens.rest.now
    ≡ reader.repeated g.P.Repeatable.goes g.P.Repeatable.reader (l.turn-end - l.turn) l.parts l.tokens.rest.now
