-- A command's scripts and its schedule, and the known bytes of their files.
use Rattle.std.proofs.Common.{◌≡◌, ◌≢◌, ℕ, zero, suc, ◌-◌, ◌<◌, ◌≤◌, ◌⊎◌, inl, inr, List, ◌∷◌, [], Bool, true, false, length, take, Option, Some, None, refl, ap, sym, ◌∙◌, subst, arith}
use Rattle.std.specs.Prelude.{IfSome, IsUtf8, slice_get, ◌==◌, ◌||◌}
use Rattle.std.proofs.lemmas.Bool.{ne_eqb}
use Rattle.causes.specs.Faults.{Rose}
use Rattle.causes.specs.Limits.{most_bytes}
use Rattle.command_line.specs.declared.command.Command.{Command}
use Rattle.command_line.specs.declared.command.Command.TheVariants.{Run, Replay, Generate}
use Rattle.command_line.specs.declared.command.RunOptions.{RunOptions}
use Rattle.command_line.specs.Command.{files_of}
use Rattle.turn_lines.specs.Schedule.{Bad, Turns}
use Rattle.sql_shell.specs.Failures.{status_of, at_of, is_by_bytes, is_by_content}
use Rattle.sql_shell.specs.Inputs.{HasFailedAt, file_at, IsBadSchedule, IsCourse, IsFirstWrong, IsReached, IsReplay, IsSchedule, IsText, IsToldRight, IsToldWrong, IsWrongSchedule}
use Rattle.sql_shell.specs.Inputs.{TooLong, NotText, BadLine}
use Rattle.sql_shell.specs.Scripts.{AreCut, AreTexts, CanBeRun, IsFirstUnfit}
use Rattle.sql_shell.specs.declared.inputs.Course.{Course}
use Rattle.sql_shell.specs.declared.scripts.Failure.{Failure}
use Rattle.sql_shell.specs.declared.scripts.Failure.TheVariants.{Words, Fault, Memory}
use Rattle.sql_shell.specs.declared.scripts.Failure.TheVariants as failure
use Rattle.sql_shell.specs.declared.scripts.CutScript.{CutScript}
use Rattle.sql_shell.proofs.ScriptLemmas.{all_fit, are_of, can_be_run, long_text, none_unfit, runnable_not, same_first, told_text}
use Rattle.sql_shell.proofs.TextLemmas.{no_utf8}

-- ## Statuses

-- a status by content is one by bytes, unless it is that of a bad line
pub by_bytes : (status : ℕ) → status ≢ 7 → is_by_content status ≡ true → is_by_bytes status ≡ true
by_bytes status other by = go (is_by_bytes status) refl
  where
    go : (b : Bool) → is_by_bytes status ≡ b → is_by_bytes status ≡ true
    go true is = is
    go false is = let none : false ≡ true = sym (ap (λ c. c || (status == 7)) is ∙ ne_eqb status 7 other) ∙ by in cc

-- ## Schedules

-- a schedule that has turns isn't bad
pub good_not_bad : (sessions : ℕ) (text turns : List ℕ) (status at : ℕ) → IsSchedule sessions text turns → IsBadSchedule sessions text status at → ⊥
good_not_bad sessions text turns status at good (TooLong long is place) = absurd (omega (arith, good.short, long))
good_not_bad sessions text turns status at good (NotText short other is place) = other good.utf8
good_not_bad sessions text turns status at good (BadLine short utf8 line is) = let same : Turns turns ≡ Bad at = sym good.turns_are ∙ line in cc

-- a schedule is bad in one way
one_bad : (sessions : ℕ) (text : List ℕ) (s a status at : ℕ) → IsBadSchedule sessions text s a → IsBadSchedule sessions text status at → (s ≡ status) × (a ≡ at)
one_bad sessions text s a status at (TooLong long is place) (TooLong long' is' place') = (is ∙ sym is', place ∙ sym place')
one_bad sessions text s a status at (TooLong long is place) (NotText short' other' is' place') = absurd (omega (arith, long, short'))
one_bad sessions text s a status at (TooLong long is place) (BadLine short' utf8' line' is') = absurd (omega (arith, long, short'))
one_bad sessions text s a status at (NotText short other is place) (TooLong long' is' place') = absurd (omega (arith, short, long'))
one_bad sessions text s a status at (NotText short other is place) (NotText short' other' is' place') = (is ∙ sym is', place ∙ sym place')
one_bad sessions text s a status at (NotText short other is place) (BadLine short' utf8' line' is') = absurd (other utf8')
one_bad sessions text s a status at (BadLine short utf8 line is) (TooLong long' is' place') = absurd (omega (arith, short, long'))
one_bad sessions text s a status at (BadLine short utf8 line is) (NotText short' other' is' place') = absurd (other' utf8)
one_bad sessions text s a status at (BadLine short utf8 line is) (BadLine short' utf8' line' is') = (is ∙ sym is', (let same : Bad a ≡ Bad at = sym line ∙ line' in cc))

-- a text of a file that is too long, or isn't UTF-8: its known bytes, or else any such text
pub long_schedule : (o : Option (List ℕ)) (sessions : ℕ) → IfSome o (λ told. most_bytes < length told) → (text : List ℕ) × IfSome o (λ told. text ≡ told) × IsBadSchedule sessions text 4 0
long_schedule (Some text) sessions long = (text, refl, TooLong long refl refl)
long_schedule None sessions long = let some = long_text most_bytes in (some.0, tt, TooLong some.1 refl refl)

pub other_schedule : (o : Option (List ℕ)) (sessions : ℕ) → IfSome o (λ told. (length told ≤ most_bytes) × (IsUtf8 told → ⊥)) → (text : List ℕ) × IfSome o (λ told. text ≡ told) × IsBadSchedule sessions text 6 0
other_schedule (Some text) sessions told = (text, refl, NotText told.0 told.1 refl refl)
other_schedule None sessions told = (255 ∷ [], tt, NotText (omega arith) no_utf8 refl refl)

-- ## What a command reads

module _ (bytes now : List ℕ → Option (List ℕ)) (same : (other : List ℕ) → now other ≡ bytes other) where
  text_before : (name text : List ℕ) → IsText now name text → IsText bytes name text
  text_before name text is = subst (λ o. IfSome o (λ told. text ≡ told)) (same name) is

  -- the known bytes of the schedule's file stay as the scripts are read
  pub course_before : (command : Command) (course : Course) → IsCourse now command course → IsCourse bytes command course
  course_before (Run workers options files) course is = is
  course_before (Replay options schedule files) course (text, turns, is, told, of) = (text, turns, is, text_before schedule text told, of)
  course_before (Generate seed) course is = is

  pub wrong_before : (command : Command) (status at : ℕ) → IsWrongSchedule now command status at → IsWrongSchedule bytes command status at
  wrong_before (Run workers options files) status at is = is
  wrong_before (Replay options schedule files) status at is = (is.0, text_before schedule is.0 is.1, is.2)
  wrong_before (Generate seed) status at is = is

module _ (bytes : List ℕ → Option (List ℕ)) where
  -- the first script that isn't run is wrong first
  pub scripts_wrong : (command : Command) (status at : ℕ) → (texts : List (List ℕ)) → AreTexts bytes (files_of command) texts → IsFirstUnfit 1 texts status at → IsFirstWrong bytes command status at
  scripts_wrong (Run workers options files) status at texts told first = (texts, told, first)
  scripts_wrong (Replay options schedule files) status at texts told first = (texts, told, inl first)
  scripts_wrong (Generate seed) status at [] told first = first
  scripts_wrong (Generate seed) status at (text ∷ texts) told first = absurd told

  -- after scripts that were read it is the schedule
  pub schedule_wrong : (command : Command) (scripts : List CutScript) (status at : ℕ) → AreCut bytes (files_of command) scripts → IsWrongSchedule bytes command status at → IsFirstWrong bytes command status at
  schedule_wrong (Run workers options files) scripts status at are wrong = absurd wrong
  schedule_wrong (Replay options schedule files) scripts status at are wrong = let of = are_of bytes files scripts are in (of.texts, of.told, inr (of.runnable, wrong))
  schedule_wrong (Generate seed) scripts status at are wrong = absurd wrong

  -- a fault at a script, and at the schedule
  pub scripts_reached : (command : Command) (at : ℕ) → at ≤ length (files_of command) → (1 ≤ at) × CanBeRun bytes (take (at - 1) (files_of command)) → IsReached bytes command at
  scripts_reached (Run workers options files) at within reached = reached
  scripts_reached (Replay options schedule files) zero within reached = absurd (let low = reached.0 in omega (arith, low))
  scripts_reached (Replay options schedule files) (suc at) within reached = let back : suc at - 1 ≡ at = omega arith in subst (λ n. CanBeRun bytes (take n files)) back reached.1
  scripts_reached (Generate seed) at within reached = absurd (let low = reached.0 in omega (arith, low, within))

  pub schedule_reached : (command : Command) (scripts : List CutScript) (at : ℕ) → AreCut bytes (files_of command) scripts → IsReplay command → at ≡ 0 → IsReached bytes command at
  schedule_reached (Run workers options files) scripts at are replay none = absurd replay
  schedule_reached (Replay options schedule files) scripts at are replay none = subst (IsReached bytes (Replay options schedule files)) (sym none) (can_be_run bytes files scripts are)
  schedule_reached (Generate seed) scripts at are replay none = absurd replay

  -- ## Known bytes decide

  -- what was read isn't known to be wrong
  pub read_not_wrong : (command : Command) (scripts : List CutScript) (course : Course) (status at : ℕ) → AreCut bytes (files_of command) scripts → IsCourse bytes command course → IsToldWrong bytes command status at → ⊥
  read_not_wrong (Run workers options files) scripts course status at are of told = none_unfit bytes 1 files told.0 scripts status at are told.1 told.2
  read_not_wrong (Replay options schedule files) scripts course status at are of (inl told) = none_unfit bytes 1 files told.0 scripts status at are told.1 told.2
  read_not_wrong (Replay options schedule files) scripts course status at are (text, turns, is, said, of) (inr told) =
      good_not_bad (length files) told.1.0 turns status at
      (subst (λ (t : List ℕ). IsSchedule (length files) t turns) (told_text (bytes schedule) text told.1.0 told.1.1 said) of) told.1.2
  read_not_wrong (Generate seed) scripts course status at are of told = told

  -- what is wrong first is what is known to be
  same_wrong : (command : Command) (s a status at : ℕ) → IsFirstWrong bytes command s a → IsToldWrong bytes command status at → (s ≡ status) × (a ≡ at)
  same_wrong (Run workers options files) s a status at first told = same_first bytes 1 files first.0 told.0 s a status at first.1 told.1 first.2 told.2
  same_wrong (Replay options schedule files) s a status at (texts, are, inl first) (inl told) = same_first bytes 1 files texts told.0 s a status at are told.1 first told.2
  same_wrong (Replay options schedule files) s a status at (texts, are, inl first) (inr told) = absurd (all_fit bytes 1 files texts told.0.0 s a are told.0.1 told.0.2 told.0.3 first)
  same_wrong (Replay options schedule files) s a status at (texts, are, inr last) (inl told) = absurd (runnable_not bytes 1 files texts told.0 status at are last.0 told.1 told.2)
  same_wrong (Replay options schedule files) s a status at (texts, are, inr last) (inr told) =
      one_bad (length files) told.1.0 s a status at
      (subst (λ text. IsBadSchedule (length files) text s a) (told_text (bytes schedule) last.1.0 told.1.0 told.1.1 last.1.1) last.1.2) told.1.2
  same_wrong (Generate seed) s a status at first told = absurd first

  -- where all is known to be right, nothing is wrong
  right_not_wrong : (command : Command) (s a : ℕ) → IsToldRight bytes command → IsFirstWrong bytes command s a → ⊥
  right_not_wrong (Run workers options files) s a right first = all_fit bytes 1 files first.0 right.0 s a first.1 right.1 right.2 right.3 first.2
  right_not_wrong (Replay options schedule files) s a right (texts, are, inl first) = all_fit bytes 1 files texts right.0.0 s a are right.0.1 right.0.2 right.0.3 first
  right_not_wrong (Replay options schedule files) s a right (texts, are, inr last) =
      good_not_bad (length files) right.1.0 right.1.1 s a right.1.3
      (subst (λ text. IsBadSchedule (length files) text s a) (told_text (bytes schedule) last.1.0 right.1.0 right.1.2 last.1.1) last.1.2)
  right_not_wrong (Generate seed) s a right first = first

  -- ## What ends a run before its first statement

  module _ (command : Command) (Rises : Type 0) where
    abbrev pub Wrong : Failure → Type 0
    Wrong failure = is_by_content (status_of failure) ≡ true → IsFirstWrong bytes command (status_of failure) (at_of failure)

    -- where all is known to be right, from a source without a fault: want of memory alone
    pub complete_of : (failure : Failure) → Wrong failure → (status_of failure ≡ 2 → Rises) → (status_of failure ≢ 1) → IsToldRight bytes command → (Rises → ⊥) → (status_of failure ≡ 0) ⊎ (status_of failure ≡ 5)
    complete_of Words wrong fault words right calm = absurd (words refl)
    complete_of (Fault n) wrong fault words right calm = absurd (calm (fault refl))
    complete_of (failure.TooLong n) wrong fault words right calm = absurd (right_not_wrong command 4 n right (wrong refl))
    complete_of (failure.NotText n) wrong fault words right calm = absurd (right_not_wrong command 6 n right (wrong refl))
    complete_of (failure.BadLine n) wrong fault words right calm = absurd (right_not_wrong command 7 n right (wrong refl))
    complete_of Memory wrong fault words right calm = inr refl

    -- what is known to be wrong is answered, from a source without a fault, unless memory runs out
    pub found_of : (failure : Failure) (status at : ℕ) → Wrong failure → (status_of failure ≡ 2 → Rises) → (status_of failure ≢ 1) → IsToldWrong bytes command status at → (Rises → ⊥)
        → ((status_of failure ≡ status) × (at_of failure ≡ at)) ⊎ (status_of failure ≡ 5)
    found_of Words status at wrong fault words told calm = absurd (words refl)
    found_of (Fault n) status at wrong fault words told calm = absurd (calm (fault refl))
    found_of (failure.TooLong n) status at wrong fault words told calm = inl (same_wrong command 4 n status at (wrong refl) told)
    found_of (failure.NotText n) status at wrong fault words told calm = inl (same_wrong command 6 n status at (wrong refl) told)
    found_of (failure.BadLine n) status at wrong fault words told calm = inl (same_wrong command 7 n status at (wrong refl) told)
    found_of Memory status at wrong fault words told calm = inr refl

-- ## Faults

-- a script's name is that of its file
script_at : (command : Command) (at : ℕ) → 1 ≤ at → at ≤ length (files_of command) → (name : List ℕ) → slice_get (files_of command) (at - 1) ≡ Some name → file_at command at ≡ Some name
script_at command zero low within name named = absurd (omega (arith, low))
script_at (Run workers options files) (suc at) low within name named = let back : suc at - 1 ≡ at = omega arith in subst (λ n. slice_get files n ≡ Some name) back named
script_at (Replay options schedule files) (suc at) low within name named = let back : suc at - 1 ≡ at = omega arith in subst (λ n. slice_get files n ≡ Some name) back named
script_at (Generate seed) (suc at) low within name named = absurd (omega (arith, within))

module _ (before now : ℕ) (failed : List ℕ → Type 0) where
  pub script_failed : (command : Command) (at : ℕ) → Rose before now → 1 ≤ at → at ≤ length (files_of command)
      → (name : List ℕ) × (slice_get (files_of command) (at - 1) ≡ Some name) × failed name → HasFailedAt command before now failed at
  script_failed command at rose low within (name, named, here) = record { rose = rose; name = name; named = script_at command at low within name named; failed_here = here }

  pub schedule_failed : (options : RunOptions) (schedule : List ℕ) (files : List (List ℕ)) → Rose before now → failed schedule → HasFailedAt (Replay options schedule files) before now failed 0
  schedule_failed options schedule files rose here = record { rose = rose; name = schedule; named = refl; failed_here = here }

  -- a fault after others were read without one
  pub failed_since : (command : Command) (first at : ℕ) → before ≡ first → at ≡ 0 → HasFailedAt command before now failed 0 → HasFailedAt command first now failed at
  failed_since command first at same zero_at has =
      subst (HasFailedAt command first now failed) (sym zero_at) (subst (λ n. HasFailedAt command n now failed 0) same has)

-- what holds of the command holds where the words name it
pub lifted : {X : Type 0} (o : Option X) (x : X) (P : X → Type 0) → o ≡ Some x → P x → IfSome o P
lifted o x P found h = subst (λ named. IfSome named P) (sym found) h
