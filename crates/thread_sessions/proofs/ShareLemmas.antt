-- What may be shared by threads. A type is a lemma of its own: taken apart field by field, what a session holds is too large for a search.
use Rattle.std.proofs.Common.{[], ◌∷◌}
use Rattle.std.proofs.Crossing.{Vec-sync, dyn_box_sync}
use Rattle.std.specs.contracts.alloc.Global as GlobalRow
use Rattle.std.specs.contracts.dyn_box.DynBox as DynBox
use Rattle.std.specs.contracts.impls.GlobalAllocator.TheImpl.{ghosts}
use denote.RattleType.{RattleType}
use denote.Builtin.{One}
use denote.Struct.Field.{shr_ref_field}
use denote.Struct.Tuple.{TupleAt}
use denote.Param.Object.{table_of}
use denote.Param.Send.{IsSync, sendable}
use denote.Param.SendFields.{as_row_sync, declared_sync}
use denote.Param.Sent.{Syncs}
use Rattle.score_hook.specs.contracts.scorer.Scorer as ScorerRow
use Rattle.score_hook.proofs.stats.Evict.TheSendSync as Evict

-- a scorer, where its closure may be
pub scorer_sync : (T : RattleType) (table : _) (call : _) → Syncs (table_of T.Denot table) → IsSync T → IsSync (ScorerRow.the_row T table call)
scorer_sync T table call entries shared =
    declared_sync (ScorerRow.the_type T table call) (Evict.the_sync, (Vec-sync denote.Builtin.u64 (search sendable), (as_row_sync (DynBox.the_field T GlobalRow.the_row table ghosts) (dyn_box_sync T table entries shared), tt)))

-- six references together
pub six_sync : (name : _) (k1 k2 k3 k4 k5 k6 : _) (A B C D E F : RattleType) (u1 : One A.mir) (u2 : One B.mir) (u3 : One C.mir) (u4 : One D.mir) (u5 : One E.mir) (u6 : One F.mir) → IsSync A → IsSync B → IsSync C → IsSync D → IsSync E → IsSync F
    → IsSync (TupleAt name ((shr_ref_field k1 A u1).row ∷ (shr_ref_field k2 B u2).row ∷ (shr_ref_field k3 C u3).row ∷ (shr_ref_field k4 D u4).row ∷ (shr_ref_field k5 E u5).row ∷ (shr_ref_field k6 F u6).row ∷ []))
six_sync name k1 k2 k3 k4 k5 k6 A B C D E F u1 u2 u3 u4 u5 u6 a b c d e f = search sendable depth 36
