use Rattle.std.proofs.Common.{arith, sym, ap, ◌∙◌, drop}
use Rattle.std.specs.Prelude.{option_map}
use Rattle.causes.specs.InMemory.{bytes_at, files_of}
use Rattle.causes.proofs.Pieces.{front-consumed}
use Rattle.causes.proofs.open_files.OpenFiles.read.Goals as goal

pub returns-clause-bytes : goal.returns-clause-bytes
returns-clause-bytes c =
    let files = files_of c.self.inside.files.items in
    front-consumed _ _ _ _ _ _ _
    (sym (ap (λ seen. seen.remaining) c.self.view_is) ∙ ap (λ at. option_map (λ place. drop place.done (bytes_at files place.file)) at) c.unwrap-place.ensures)
    (c.bytes_of.ensures ∙ ap (λ all. bytes_at (files_of all) c.unwrap-place.result.file) c.deref.ensures.value)
    c.copy_from_slice.ensures.after
    (omega (arith, c.min-count.ensures))
