use Rattle.std.proofs.Common.{ap}
use Rattle.causes.proofs.Places.{place-shown}
use Rattle.causes.proofs.open_files.OpenFiles.place_of.Goals as goal

pub returns : goal.returns
returns c = place-shown _ _ _ _ _ c.place_of.ensures c.deref.ensures.value (ap (λ seen. seen.files) c.self.view_is)
