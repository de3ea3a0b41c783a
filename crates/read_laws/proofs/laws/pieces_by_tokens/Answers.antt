use Rattle.read_laws.proofs.PieceTokens.{pieces_by_tokens_for}
use Rattle.read_laws.proofs.laws.pieces_by_tokens.Goals as goal

pub returns : goal.returns
returns c = pieces_by_tokens_for
