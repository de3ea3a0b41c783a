-- The invariant of a book: all that it has is the fold of its log.
use Rattle.std.specs.Prelude.{◌≡◌, ℕ, ◌+◌, ◌^◌, ◌<◌, ◌≤◌, List, Bool, false, count_by, get_or, length}
use Rattle.std.specs.Vec.{vec_capacity}
use Rattle.run_log.specs.Events.{log_tree}
use Rattle.run_log.specs.Fold.{LogState}
use Rattle.run_log.specs.Laws.{IsSound}
use Rattle.run_log.specs.Totals.{AreWithin}
use Rattle.book_core.specs.declared.book.Book.TheInside.{Inside}
use Rattle.book_core.specs.BookView.{BookView, is_open, state_of}
use Rattle.book_core.specs.Lawful.{IsLawful}
use Rattle.book_core.specs.Versions.{HasVersions}

abbrev pub book_shown : Inside → BookView
book_shown b = record { options = b.pool.options; log = b.log.items }

abbrev pub open_count : List Bool → ℕ
open_count up = count_by (λ b. b) up

-- the log is lawful, and the book's parts are those of the state that it leads to
pub record IsStateOf (s : LogState) (b : Inside) : Type 0 where
  pub lawful : IsLawful b.pool.options (log_tree b.log.items)
  pub sound : IsSound s
  pub db : s.db ≡ b.store.db
  pub versions : HasVersions s.versions b.store
  pub pool : s.pool ≡ b.pool
  pub totals : s.totals ≡ b.totals
  pub within : AreWithin s.at b.totals

pub record IsBook (b : Inside) : Type 0 where
  pub state : IsStateOf (state_of (book_shown b)) b
  pub sessions : length b.begun ≡ 17
  pub opened : (session : ℕ) → session < 17 → is_open session (book_shown b) ≡ get_or b.begun session false
  pub room : length b.log.items + open_count b.begun ≤ vec_capacity b.log
  pub few : length b.log.items + open_count b.begun ≤ 2 ^ 29 + 17
