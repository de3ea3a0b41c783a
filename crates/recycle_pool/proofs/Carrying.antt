-- What a write leaves of a pool, step by step.
use Rattle.std.proofs.Common.{◌≡◌, ℕ, ◌+◌, ◌*◌, ◌^◌, ◌≤◌, ◌<◌, List, ◌++◌, not, ◌&&◌, ap, sym, ◌∙◌, subst, arith, length, map, length-append}
use Rattle.std.specs.Prelude.{filter}
use Rattle.std.proofs.lemmas.List.{length-map}
use Rattle.evict_admit.specs.Credits.{Credits}
use Rattle.evict_admit.specs.Runs.{is_one_of}
use Rattle.pool_policy.specs.declared.entry.PoolEntry.{PoolEntry}
use Rattle.pool_policy.specs.declared.touched.Touched.{Touched}
use Rattle.pool_policy.specs.Pool.{PoolState, pool_bytes}
use Rattle.pool_policy.specs.Looks.{paid_back}
use Rattle.pool_policy.specs.Admits.{left_without, pays_at_end}
use Rattle.pool_policy.specs.Writes.{Return, after_returns, evictions_after, forget_of, returns_of, touched_ids, write_of}
use Rattle.pool_policy.specs.Keeps.{IsPool, IsPoolWithin}
use Rattle.pool_policy.specs.WriteLaws.{IsWrite}
use Rattle.pool_policy.proofs.Fitting.{apart_fit, ids_fit, range_fit}
use Rattle.pool_policy.proofs.Touches.{forget_keeps}
use Rattle.pool_policy.proofs.WrittenPool.{returns_keep}
use Rattle.pool_policy.proofs.WriteEnds.{write_keeps}
use Rattle.pool_entries.specs.Usable.{IsOwed}
use Rattle.recycle_pool.specs.declared.pool.Pool.TheInside.{Inside}
use Rattle.recycle_pool.specs.Usable.{IsWeighable}
use Rattle.recycle_pool.specs.Views.{pool_shown, IsKept}
use Rattle.recycle_pool.proofs.Answered.{owed_from}

module _ (p : Inside) (write : Touched) (now : ℕ) where
  abbrev pub pool : PoolState
  pool = pool_shown p

  abbrev pub touched : List ℕ
  touched = touched_ids write.table write.columns p.entries.all.items

  abbrev pub backs : List Return
  backs = returns_of write now touched pool

  abbrev pub old_ids : List ℕ
  old_ids = map (λ (r : Return). r.old.id) backs

  abbrev pub news : List PoolEntry
  news = map (λ (r : Return). r.new) backs

  -- once what is touched has left and what comes back has entered
  abbrev pub after : PoolState
  after = after_returns now touched backs pool

  -- the credits of the shapes then
  pub credit_is : (shown back credit : List ℕ) → shown ≡ touched → back ≡ old_ids
      → credit ≡ paid_back p.entries.ledger.each (filter (λ (e : PoolEntry). (is_one_of shown e.id && not (is_one_of back e.id)) && pays_at_end e) p.entries.all.items) → credit ≡ after.credit
  credit_is shown back credit t b is = is ∙ (λ i. paid_back p.entries.ledger.each (filter (λ (e : PoolEntry). (is_one_of (t i) e.id && not (is_one_of (b i) e.id)) && pays_at_end e) p.entries.all.items))

  -- the entries then
  pub entries_are : (shown : List ℕ) (left more all : List PoolEntry) → shown ≡ touched → left ≡ left_without shown p.entries.all.items → more ≡ news → all ≡ left ++ more → all ≡ after.entries
  entries_are shown left more all t left_is more_is all_is = all_is ∙ (λ i. left_is i ++ more_is i) ∙ ap (λ ids. left_without ids p.entries.all.items ++ news) t

  -- the pool at the end
  pub written_is : (mid end_ : List PoolEntry) (paid last gone : List ℕ) (next : ℕ) → mid ≡ after.entries → paid ≡ after.credit → next ≡ p.next + length backs → gone ≡ (evictions_after now after).0
      → end_ ≡ left_without gone mid → last ≡ paid_back paid (filter (λ (e : PoolEntry). is_one_of gone e.id && pays_at_end e) mid)
      → record pool { entries = end_; next = next; moment = now; credit = last } ≡ (write_of write now pool).pool
  written_is mid end_ paid last gone next mid_is paid_is next_is gone_is end_is last_is =
      let entries = end_is ∙ ap (left_without gone) mid_is ∙ ap (λ ids. left_without ids after.entries) gone_is in
      let credits = last_is ∙ (λ i. paid_back (paid_is i) (filter (λ (e : PoolEntry). is_one_of gone e.id && pays_at_end e) (mid_is i)))
      ∙ ap (λ ids. paid_back after.credit (filter (λ (e : PoolEntry). is_one_of ids e.id && pays_at_end e) after.entries)) gone_is in
      λ i. record pool { entries = entries i; next = next_is i; moment = now; credit = credits i }

  module _ (known : IsKept p) (later : p.moment < now) (early : now < 2 ^ 30) (fits : IsWrite write now pool) where
    kept : IsPoolWithin (pool_bytes after.entries) after
    kept = returns_keep write now pool known.pool fits later

    -- there is a place for each entry that comes back
    pub places_left : length (left_without touched p.entries.all.items) + length news ≤ p.options.places
    places_left = let both = length-append (left_without touched p.entries.all.items) news in omega (arith, both, kept.places)

    -- the same, by what the code reads
    pub places_shown : (shown : List ℕ) (more : List PoolEntry) (count : ℕ) → shown ≡ touched → more ≡ news → count ≡ length more → length (left_without shown p.entries.all.items) + count ≤ p.options.places
    places_shown shown more count t m is =
        let left = ap (λ ids. length (left_without ids p.entries.all.items)) t in
        let same = ap (λ (es : List PoolEntry). length es) m in
        let places = places_left in
        omega (arith, left, same, is, places)

    pub few_after : length after.entries ≤ p.options.places
    few_after = kept.places

    pub few_backs : length backs ≤ 1024
    few_backs = let same = length-map backs (λ (r : Return). r.new) in let left = places_left in omega (arith, same, left, known.few)

    pub weighable : (shown : List PoolEntry) → shown ≡ after.entries → IsWeighable now shown
    weighable shown same = subst (IsWeighable now) (sym same) (record {
      few = omega (arith, kept.places, known.few);
      ids = λ ids. ids_fit ids (pool_bytes after.entries) after kept;
      apart = λ ids. apart_fit ids (pool_bytes after.entries) after kept;
      range = λ ids. range_fit ids (pool_bytes after.entries) after now kept early early;
    })

    pub owed_after : (credits : Credits) (shown : List PoolEntry) → credits.start ≡ p.entries.ledger.start → credits.each ≡ after.credit → shown ≡ after.entries → IsOwed credits shown
    owed_after credits shown start each same = subst (IsOwed credits) (sym same) (owed_from p.options credits after.credit after.entries (start ∙ known.start) each kept.funded)

    pub written_keeps : (new : PoolState) → new ≡ (write_of write now pool).pool → IsPool new
    written_keeps new is = subst IsPool (sym is) (write_keeps write now pool later known.pool fits)

-- ## What is forgotten

pub forgotten : (p : Inside) (table : List ℕ) (columns : List (List ℕ)) (gone : List ℕ) (left : List PoolEntry) (credit : List ℕ) → gone ≡ touched_ids table columns p.entries.all.items → left ≡ left_without gone p.entries.all.items
    → credit ≡ paid_back p.entries.ledger.each (filter (λ (e : PoolEntry). is_one_of gone e.id && pays_at_end e) p.entries.all.items) → record (pool_shown p) { entries = left; credit = credit } ≡ forget_of table columns (pool_shown p)
forgotten p table columns gone left credit gone_is left_is credit_is =
    let entries = left_is ∙ ap (λ ids. left_without ids p.entries.all.items) gone_is in
    let credits = credit_is ∙ ap (λ ids. paid_back p.entries.ledger.each (filter (λ (e : PoolEntry). is_one_of ids e.id && pays_at_end e) p.entries.all.items)) gone_is in
    λ i. record (pool_shown p) { entries = entries i; credit = credits i }

pub forgotten_keeps : (p : Inside) (table : List ℕ) (columns : List (List ℕ)) (new : PoolState) → IsKept p → new ≡ forget_of table columns (pool_shown p) → IsPool new
forgotten_keeps p table columns new known is = subst IsPool (sym is) (forget_keeps table columns (pool_shown p) known.pool)

-- ## What is kept, by numbers alone

pub ids_back : (next back many moment now : ℕ) → next ≤ 1024 * moment + 1 → moment < now → back ≡ many → many ≤ 1024 → next + back ≤ 1024 * now + 1
ids_back next back many moment now low later is few = omega (arith, low, later, is, few)
