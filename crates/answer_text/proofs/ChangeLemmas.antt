-- The accepted changes of a log, counted and written one after the other.
use Rattle.std.proofs.Common.{◌≡◌, ℕ, suc, ◌+◌, ◌<◌, cond, List, [], ◌∷◌, ◌++◌, Option, Some, None, length, take, get_or, refl, sym, ap, ◌∙◌, append_assoc, add-zero, arith}
use Rattle.std.specs.Prelude.{flat_map, is_some}
use Rattle.std.specs.List.{count_by, enumerate_from, cons_option}
use Rattle.std.proofs.lemmas.List.{take_more, append-nil, map-append}
use Rattle.std.proofs.lemmas.List.Elements.{filter_map-append}
use Rattle.std.proofs.lemmas.List.Sums.{sum_by-cons}
use Rattle.run_log.specs.declared.event.Event.{Event}
use Rattle.run_log.specs.Events.{EventTree, act_tree, event_tree, log_tree, committed}
use Rattle.reply_layout.specs.Layout.{Change, change_from, change_line}
use Rattle.answer_text.specs.Layout.{changes_of}

-- the change of an event
abbrev change_in : Event → Option Change
change_in event = change_from event.session event.statement (committed (act_tree event.act))

-- a change is an event with a committed statement
pub count_by-committed : (log : List Event) → count_by (λ (event : Event). is_some (committed (act_tree event.act))) log ≡ length (changes_of (log_tree log))
count_by-committed [] = refl
count_by-committed (event ∷ log) =
    sum_by-cons (λ (e : Event). cond (is_some (committed (act_tree e.act))) 1 0) event log ∙
    elim (committed (act_tree event.act)) as (λ o. cond (is_some o) 1 0 + count_by (λ (e : Event). is_some (committed (act_tree e.act))) log ≡ length (cons_option (change_from event.session event.statement o) (changes_of (log_tree log)))) [
      | None ↦ omega (arith, count_by-committed log)
      | Some stmt ↦ omega (arith, count_by-committed log)
    ]

-- the changes of a log in two parts
seen-append : (xs ys : List Event) → changes_of (log_tree (xs ++ ys)) ≡ changes_of (log_tree xs) ++ changes_of (log_tree ys)
seen-append xs ys = ap changes_of (map-append event_tree xs ys) ∙ filter_map-append (λ (event : EventTree). change_from event.session event.statement (committed event.act)) (log_tree xs) (log_tree ys)

-- one event more
changes_of-take : (log : List Event) (i : ℕ) (event : Event) → i < length log → event ≡ get_or log i event → changes_of (log_tree (take (i + 1) log)) ≡ changes_of (log_tree (take i log)) ++ cons_option (change_in event) []
changes_of-take log i event within is =
    ap (λ es. changes_of (log_tree es)) (take_more log i event within)
    ∙ seen-append (take i log) (get_or log i event ∷ [])
    ∙ ap (λ e. changes_of (log_tree (take i log)) ++ cons_option (change_in e) []) (sym is)

-- an event that is no change adds none
pub changes_of-passed : (log : List Event) (i : ℕ) (event : Event) → i < length log → event ≡ get_or log i event → committed (act_tree event.act) ≡ None → changes_of (log_tree (take (i + 1) log)) ≡ changes_of (log_tree (take i log))
changes_of-passed log i event within is none =
    changes_of-take log i event within is ∙ ap (λ o. changes_of (log_tree (take i log)) ++ cons_option (change_from event.session event.statement o) []) none ∙ append-nil _

-- a change is added after the others
pub changes_of-more : (log : List Event) (i : ℕ) (event : Event) (change : Change) → i < length log → event ≡ get_or log i event → change_from event.session event.statement (committed (act_tree event.act)) ≡ Some change → changes_of (log_tree (take (i + 1) log)) ≡ changes_of (log_tree (take i log)) ++ change ∷ []
changes_of-more log i event change within is some =
    changes_of-take log i event within is ∙ ap (λ o. changes_of (log_tree (take i log)) ++ cons_option o []) some

-- ## Lines

-- the lines of things, numbered from a number on
abbrev pub lines_by : {X : Type 0} → (ℕ → X → List ℕ) → ℕ → List X → List ℕ
lines_by line n xs = flat_map (λ (i, x). line i x) (enumerate_from n xs)

abbrev pub lines_from : ℕ → List Change → List ℕ
lines_from n changes = lines_by change_line n changes

module _ {X : Type 0} (line : ℕ → X → List ℕ) where
  -- the last line
  pub lines_by-append : (n : ℕ) (xs : List X) (x : X) → lines_by line n (xs ++ x ∷ []) ≡ lines_by line n xs ++ line (n + length xs) x
  lines_by-append n [] x = ap (λ k. line k x ++ []) (sym (add-zero n)) ∙ append-nil _
  lines_by-append n (c ∷ cs) x =
      let place : n + 1 + length cs ≡ n + suc (length cs) = omega arith in
      ap (λ t. line n c ++ t) (lines_by-append (n + 1) cs x ∙ ap (λ k. lines_by line (n + 1) cs ++ line k x) place)
      ∙ sym (append_assoc (line n c) (lines_by line (n + 1) cs) (line (n + suc (length cs)) x))

  -- one line more
  pub lines_more : (start old new : List ℕ) (count : ℕ) (before after : List X) (x : X) → count ≡ length before → after ≡ before ++ x ∷ []
      → old ≡ start ++ lines_by line 1 before → new ≡ old ++ line (count + 1) x → new ≡ start ++ lines_by line 1 after
  lines_more start old new count before after x counted more so_far next =
      let place : count + 1 ≡ 1 + length before = omega arith in
      next
      ∙ ap (λ t. t ++ line (count + 1) x) so_far
      ∙ append_assoc start (lines_by line 1 before) (line (count + 1) x)
      ∙ ap (λ t. start ++ t) (ap (λ k. lines_by line 1 before ++ line k x) place ∙ sym (lines_by-append 1 before x) ∙ ap (λ cs. lines_by line 1 cs) (sym more))

-- one event more of a log
pub tree_more : (log : List Event) (i : ℕ) (event : Event) → i < length log → event ≡ get_or log i event → log_tree (take (i + 1) log) ≡ log_tree (take i log) ++ event_tree event ∷ []
tree_more log i event within is =
    ap log_tree (take_more log i event within) ∙ map-append event_tree (take i log) (get_or log i event ∷ [])
    ∙ ap (λ e. log_tree (take i log) ++ event_tree e ∷ []) (sym is)
