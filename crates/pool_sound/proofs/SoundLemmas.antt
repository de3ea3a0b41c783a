-- A lawful log is sound along.
use Rattle.std.proofs.Common.{◌≡◌, ℕ, ◌≤◌, List, ◌++◌, length, take, true, ap, sym, ◌∙◌, subst}
use Rattle.std.specs.Prelude.{IsSome}
use Rattle.std.proofs.lemmas.Bool.Decides.{Decides-eqb}
use Rattle.lineage_key.specs.Parents.{parents_of}
use Rattle.subsume.proofs.Members.{In, in_from_contains, contains_from_in, in_map, map_in, list_any_from_in}
use Rattle.pool_policy.specs.declared.entry.PoolEntry.{PoolEntry}
use Rattle.pool_policy.specs.declared.options.PoolOptions.{PoolOptions}
use Rattle.pool_policy.specs.Keeps.{Face, IsParentIn, face_of, faces, value_in}
use Rattle.pool_policy.specs.Keyed.{has_id, is_pooled}
use Rattle.pool_policy.specs.Pool.{pool_bytes}
use Rattle.pool_policy.specs.Versions.{IsCurrent}
use Rattle.pool_policy.proofs.Faces.{entry_rooted, value_found}
use Rattle.pool_policy.proofs.Given.{pooled_worths}
use Rattle.pool_policy.proofs.Lists.{all_at}
use Rattle.run_log.specs.Events.{EventTree}
use Rattle.run_log.specs.Fold.{LogState, run_of}
use Rattle.book_core.specs.Lawful.{IsLawful}
use Rattle.pool_sound.specs.Laws.{PoolsStaySound}
use Rattle.pool_sound.specs.Sound.{IsSoundAfter}
use Rattle.pool_sound.specs.Lineage.{lineage_value}
use Rattle.pool_sound.proofs.BindLemmas.{binds_told}
use Rattle.book_core.proofs.LawfulLemmas.{lawful_front, lawful_sound, lawful_taken, worths_later}
use Rattle.pool_sound.proofs.OptionLemmas.{options_stay}
use Rattle.pool_sound.proofs.LineageLemmas.{noted_value}

-- what has a value among the faces is pooled
pooled_of : (es : List PoolEntry) (id : ℕ) → IsSome (value_in (faces es) id) → is_pooled es id ≡ true
pooled_of es id some =
    let found = value_found (faces es) id some in
    let e = map_in face_of es found.0 found.1 in
    list_any_from_in (has_id id) es e.0 e.1 ((Decides-eqb e.0.id id).1 (ap (λ (f : Face). f.id) (sym e.2) ∙ found.2))

module _ (options : PoolOptions) (log : List EventTree) (lawful : IsLawful options log) where
  abbrev state : LogState
  state = run_of options log

  abbrev at : (e : PoolEntry) → In e state.pool.entries → In (face_of e) (faces state.pool.entries)
  at e i = in_map face_of state.pool.entries e i

  sound_after : IsSoundAfter options log
  sound_after = let sound = lawful_sound options log lawful in record {
    bytes = subst (λ (o : PoolOptions). pool_bytes state.pool.entries ≤ o.budget) (options_stay options log) sound.pool.bytes;
    stated = λ e c. (entry_rooted state.pool.options.budget state.pool sound.pool e (in_from_contains state.pool.entries e c)).told;
    places = subst (λ (o : PoolOptions). length state.pool.entries ≤ o.places) (options_stay options log) sound.pool.places;
    parents = λ e c id p.
        let rooted = entry_rooted state.pool.options.budget state.pool sound.pool e (in_from_contains state.pool.entries e c) in
        pooled_of state.pool.entries id (all_at (IsParentIn (faces state.pool.entries) e.id) (parents_of e.key) id rooted.parents (in_from_contains (parents_of e.key) id p)).2;
    present = λ e c bind. all_at (λ (f : Face). IsCurrent state.versions f.key) (faces state.pool.entries) (face_of e) sound.versions (at e (in_from_contains state.pool.entries e c)) bind;
    values = λ e c. noted_value options log lawful e.id
        ∙ pooled_worths state.given state.pool sound.given (face_of e) (contains_from_in (faces state.pool.entries) (face_of e) (at e (in_from_contains state.pool.entries e c)));
  }

value_stays : (options : PoolOptions) (log more : List EventTree) → IsLawful options (log ++ more) → (id : ℕ) → IsSome (lineage_value options log id) → lineage_value options (log ++ more) id ≡ lineage_value options log id
value_stays options log more lawful id some =
    let front = lawful_front options log more lawful in
    let old = noted_value options log front id in
    noted_value options (log ++ more) lawful id ∙ worths_later options log more lawful id (subst IsSome old some) ∙ sym old

pub pools_stay_sound_holds : PoolsStaySound
pools_stay_sound_holds = record {
  sound = λ options log lawful n. sound_after options (take n log) (lawful_taken options log n lawful);
  binds = λ options log lawful f c bind. binds_told options log lawful f (in_from_contains (run_of options log).given f c) bind;
  noted = noted_value;
  stay = value_stays;
}
