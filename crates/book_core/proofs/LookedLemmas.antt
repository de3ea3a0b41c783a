-- What is logged of a look is what was found.
use Rattle.std.proofs.Common.{◌≡◌, List, refl, ap, sym, ◌∙◌}
use Rattle.std.proofs.lemmas.List.{length-map}
use Rattle.pool_policy.specs.declared.entry.PoolEntry.{PoolEntry}
use Rattle.recycle_pool.specs.declared.found.Found.{Found}
use Rattle.recycle_pool.specs.declared.found.Found.TheVariants.{Exact, Within, Across, Miss}
use Rattle.recycle_pool.specs.declared.found.CoverPiece.{CoverPiece}
use Rattle.recycle_pool.specs.Answers.{HandsOut, piece_in, told}
use Rattle.run_log.specs.declared.event.FoundLog.TheVariants as looked
use Rattle.run_log.specs.Events.{looked_of}
use Rattle.book_core.specs.Answers.{looked_in}

pub looked_is : (entries : List PoolEntry) (found : Found) (parts : List CoverPiece) → HandsOut entries found parts → looked_in found ≡ looked_of (told found parts)
looked_is entries (Exact id value) parts h = refl
looked_is entries (Within id value) parts h = refl
looked_is entries (Across count) parts h = ap looked.Across (h.1 ∙ sym (length-map parts piece_in))
looked_is entries Miss parts h = refl
