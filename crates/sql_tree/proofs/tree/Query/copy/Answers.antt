use Rattle.std.proofs.Common.{refl}
use Rattle.sql_tree.proofs.tree.Query.copy.Goals as goal

pub returns : goal.returns
returns c =
    let (items_ok, froms_ok) = c.in_ok-items.ensures in
    let (cond_ok, having_ok) = c.in_ok-cond.ensures in
    let (groups_ok, keys_ok) = c.in_ok-groups.ensures in
    let items = rw items_ok at c.copy_items-items.ensures in
    let froms = rw froms_ok at c.share_all.ensures in
    let cond = rw cond_ok at c.copy_cond-cond.ensures in
    let having = rw having_ok at c.copy_cond.ensures in
    let groups = rw groups_ok at c.share_all-groups.ensures in
    let keys = rw keys_ok at c.share_all-2.ensures in
    rw (
      items,
      froms,
      cond,
      having,
      groups,
      keys,
      c.as_slice.ensures,
      c.as_slice-2.ensures,
      c.as_slice-3.ensures,
      c.as_slice-4.ensures,
      c.as_ref.ensures.value,
      c.as_ref-2.ensures.value,
    )
    refl
