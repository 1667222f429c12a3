use Rattle.re_cert.proofs.PiecesInOrder.{pieces}
use Rattle.re_cert.proofs.pieces_law.Goals as goal

pub returns : goal.returns
returns c = pieces
