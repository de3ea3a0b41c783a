-- What is printed of a run, and why it is served.
use Rattle.std.proofs.Common.{◌≡◌, ℕ, zero, suc, ◌+◌, ◌<◌, ◌≤◌, List, [], ◌∷◌, ◌++◌, drop, length, map, Some, Option, Result, slice_index_or, refl, ap, sym, ◌∙◌, subst, arith, append_assoc, append-nil}
use Rattle.std.specs.Prelude.{flat_map, slice_get, if◌then◌else◌}
use Rattle.std.specs.declared.vec.Vec.{Vec}
use Rattle.std.specs.declared.alloc.Global.{Global}
use Rattle.std.proofs.Math.Seq.{drop-cons}
use Rattle.std.specs.List.{AllByRecursion, enumerate_from, zip}
use Rattle.std.proofs.lemmas.Option.{same_Some}
use Rattle.sql_definitions.specs.declared.refusal.Refusal.{Refusal}
use Rattle.sql_tree.specs.Tree.{StmtTree}
use Rattle.run_log.specs.declared.event.Totals.{Totals}
use Rattle.run_log.specs.Events.{EventTree}
use Rattle.pool_sound.specs.Sound.{IsSoundAlong}
use Rattle.answer_text.specs.Log.{AreStatements, logged_of}
use Rattle.reply_layout.specs.Layout.{session_line}
use Rattle.answer_text.specs.Layout.{history_text, log_text, replies_text, session_text, sessions_text, totals_text}
use Rattle.command_line.specs.declared.command.RunOptions.{RunOptions}
use Rattle.session_run.specs.Work.{run_totals}
use Rattle.run_sessions.specs.Tables.{AreTexts, IsText}
use Rattle.sql_tree.specs.Pieces.{pieces_of}
use Rattle.command_line.specs.declared.command.Command.{Command}
use Rattle.command_line.specs.Command.{files_of, options_of}
use Rattle.sql_shell.specs.Inputs.{IsCourse}
use Rattle.sql_shell.specs.Numbers.{AreShort}
use Rattle.sql_shell.specs.Ready.{IsServedBy}
use Rattle.sql_shell.specs.Scripts.{AreCut, names_of}
use Rattle.read_laws.specs.Readings.{AreAllRead}
use Rattle.sql_shell.specs.Served.{IsMade, IsRun, IsServed, pool_of, texts_under}
use Rattle.sql_shell.specs.declared.inputs.Course.{Course}
use Rattle.sql_shell.specs.declared.scripts.CutScript.{CutScript}
use Rattle.sql_shell.proofs.ScriptLemmas.{are_of}

-- the sessions from a number on, of which each event is that of a statement, and what is printed of them
record ReadAs (log : List EventTree) (session : ℕ) (scripts : List (List (List ℕ))) (texts : List (List ℕ)) : Type 0 where
  readings : List (List (Result StmtTree Refusal))
  read : AreAllRead scripts readings
  count : length readings ≡ length scripts
  statements : (i : ℕ) (rs : List (Result StmtTree Refusal)) → slice_get readings i ≡ Some rs → AreStatements log (i + session) 1 rs (logged_of (i + session) log)
  under : (names : List (List ℕ)) → length names ≡ length texts
      → texts_under session names texts ≡ flat_map (λ (s, script). session_text log s script.0 script.1) (enumerate_from session (zip names readings))

-- one session before others
more_read : (log : List EventTree) (session : ℕ) (pieces : List (List ℕ)) (scripts : List (List (List ℕ))) (text : List ℕ) (texts : List (List ℕ)) → IsText log session pieces text → ReadAs log (session + 1) scripts texts
    → ReadAs log session (pieces ∷ scripts) (text ∷ texts)
more_read log session pieces scripts text texts is more = record {
  readings = is.0 ∷ more.readings;
  read = (is.1, more.read);
  count = (let c = more.count in omega (arith, c));
  statements = at;
  under = under;
}
  where
    at : (i : ℕ) (rs : List (Result StmtTree Refusal)) → slice_get (is.0 ∷ more.readings) i ≡ Some rs → AreStatements log (i + session) 1 rs (logged_of (i + session) log)
    at zero rs here =
        let first : session ≡ 0 + session = omega arith in
        subst (λ n. AreStatements log n 1 rs (logged_of n log)) first (subst (λ (r : List (Result StmtTree Refusal)). AreStatements log session 1 r (logged_of session log)) (same_Some is.0 rs here) is.3)
    at (suc i) rs here =
        let next : i + (session + 1) ≡ suc i + session = omega arith in
        subst (λ n. AreStatements log n 1 rs (logged_of n log)) next (more.statements i rs here)

    under : (names : List (List ℕ)) → length names ≡ length (text ∷ texts)
        → texts_under session names (text ∷ texts) ≡ flat_map (λ (s, script). session_text log s script.0 script.1) (enumerate_from session (zip names (is.0 ∷ more.readings)))
    under [] same = absurd (omega (arith, same))
    under (n ∷ ns) same =
        ap (λ t. session_line session n ++ t ++ texts_under (session + 1) ns texts) is.2
        ∙ ap (λ later. session_line session n ++ replies_text log session is.0 ++ later) (more.under ns (omega (arith, same)))

read_as : (log : List EventTree) (session : ℕ) (scripts : List (List (List ℕ))) (texts : List (List ℕ)) → AreTexts log session scripts texts → ReadAs log session scripts texts
read_as log session [] [] are = record {
  readings = [];
  read = tt;
  count = refl;
  statements = λ i rs here. none i rs here;
  under = λ names same. empty names;
}
  where
    none : (i : ℕ) (rs : List (Result StmtTree Refusal)) → slice_get {X = List (Result StmtTree Refusal)} [] i ≡ Some rs → AreStatements log (i + session) 1 rs (logged_of (i + session) log)
    none zero rs here = cc
    none (suc i) rs here = cc

    empty : (names : List (List ℕ)) → texts_under session names [] ≡ flat_map (λ (s, script). session_text log s script.0 script.1) (enumerate_from session (zip names []))
    empty [] = refl
    empty (n ∷ ns) = refl
read_as log session [] (t ∷ ts) are = absurd are
read_as log session (p ∷ ps) [] are = absurd are
read_as log session (pieces ∷ scripts) (text ∷ texts) (is, are) = more_read log session pieces scripts text texts is (read_as log (session + 1) scripts texts are)

-- there are as many texts as scripts
pub texts_many : (log : List EventTree) (session : ℕ) (scripts : List (List (List ℕ))) (texts : List (List ℕ)) → AreTexts log session scripts texts → length texts ≡ length scripts
texts_many log session [] [] are = refl
texts_many log session [] (t ∷ ts) are = absurd are
texts_many log session (p ∷ ps) [] are = absurd are
texts_many log session (p ∷ ps) (t ∷ ts) are = omega (arith, texts_many log (session + 1) ps ts are.1)

-- a run of these sessions is served, where this is printed of it
pub served_of : (options : RunOptions) (names : List (List ℕ)) (scripts : List (List (List ℕ))) (text : List ℕ) (texts : List (List ℕ)) (log : List EventTree) (totals : Totals)
    → length names ≡ length texts → AllByRecursion (λ (event : EventTree). (1 ≤ event.session) × (event.session ≤ length scripts)) log → AreTexts log 1 scripts texts
    → totals ≡ run_totals (pool_of options) log
    → text ≡ ((texts_under 1 names texts ++ history_text log) ++ totals_text totals) ++ (if options.events then log_text log else [])
    → IsSoundAlong (pool_of options) log → AreShort log totals
    → IsServed options names scripts text log totals.work
served_of options names scripts text texts log totals same sessions are is printed sound short =
    let of = read_as log 1 scripts texts are in
    record {
      readings = of.readings;
      read = of.read;
      ordered = record {
        sessions = subst (λ n. AllByRecursion (λ (event : EventTree). (1 ≤ event.session) × (event.session ≤ n)) log) (sym of.count) sessions;
        statements = of.statements;
      };
      printed_is = printed ∙ ap (λ front. ((front ++ history_text log) ++ totals_text totals) ++ (if options.events then log_text log else [])) (of.under names same)
          ∙ ap (λ (t : Totals). ((sessions_text names of.readings log ++ history_text log) ++ totals_text t) ++ (if options.events then log_text log else [])) is;
      work_is = ap (λ (t : Totals). t.work) is;
      sound = sound;
      short = subst (AreShort log) is short;
    }

-- the run of scripts that were read is that of the command
pub run_of : (bytes : List ℕ → Option (List ℕ)) (command : Command) (options : RunOptions) (scripts : List CutScript) (course : Course) (text : List ℕ) (log : List EventTree) (work before after : ℕ)
    → AreCut bytes (files_of command) scripts → IsCourse bytes command course → options ≡ options_of command → IsServedBy options scripts course text log work before after
    → IsRun bytes command text log work before after
run_of bytes command options scripts course text log work before after are is same (served, made) =
    let of = are_of bytes (files_of command) scripts are in
    record {
      scripts = of.texts;
      told = of.told;
      runnable = of.runnable;
      course = course;
      course_is = is;
      served = subst (λ (o : RunOptions). IsServed o (files_of command) (map pieces_of of.texts) text log work) same
          (subst (λ (names : List (List ℕ)). IsServed options names (map pieces_of of.texts) text log work) of.named
          (subst (λ (pieces : List (List (List ℕ))). IsServed options (names_of scripts) pieces text log work) of.cut served));
      made = subst (λ (o : RunOptions). IsMade (pool_of o) (map pieces_of of.texts) course log before after) same
          (subst (λ (pieces : List (List (List ℕ))). IsMade (pool_of options) pieces course log before after) of.cut made);
    }

-- ## Texts under names, one after the other

abbrev pub all_items : List (Vec ℕ Global) → List (List ℕ)
all_items texts = map (λ (t : Vec ℕ Global). t.items) texts

-- the text so far, and that of the rest
abbrev pub IsWritten : List (List ℕ) → List (Vec ℕ Global) → ℕ → List ℕ → Type 0
IsWritten names texts i out = out ++ texts_under (i + 1) (drop i names) (all_items (drop i texts)) ≡ texts_under 1 names (all_items texts)

pub texts_next : (names : List (List ℕ)) (texts : List (Vec ℕ Global)) (i : ℕ) (name : List ℕ) (text : Vec ℕ Global) (out next : List ℕ) → i < length names → i < length texts
    → name ≡ slice_index_or names i name → text ≡ slice_index_or texts i text → IsWritten names texts i out → next ≡ (out ++ session_line (i + 1) name) ++ text.items → IsWritten names texts (i + 1) next
texts_next names texts i name text out next in_names in_texts name_is text_is before next_is =
    let one : i + 1 ≡ suc i = omega arith in
    let here : drop i names ≡ name ∷ drop (i + 1) names = drop-cons names i name in_names ∙ ap (λ n. n ∷ drop (suc i) names) (sym name_is) ∙ ap (λ k. name ∷ drop k names) (sym one) in
    let there : drop i texts ≡ text ∷ drop (i + 1) texts = drop-cons texts i text in_texts ∙ ap (λ (t : Vec ℕ Global). t ∷ drop (suc i) texts) (sym text_is) ∙ ap (λ k. text ∷ drop k texts) (sym one) in
    let line = session_line (i + 1) name in
    let rest = texts_under ((i + 1) + 1) (drop (i + 1) names) (all_items (drop (i + 1) texts)) in
    ap (λ t. t ++ rest) next_is ∙ append_assoc (out ++ line) text.items rest ∙ append_assoc out line (text.items ++ rest) ∙ ap (λ t. out ++ t) (sym (append_assoc line text.items rest))
    ∙ (λ j. out ++ texts_under (i + 1) (sym here j) (all_items (sym there j))) ∙ before

none_left : (names : List (List ℕ)) (i : ℕ) → length names ≤ i → drop i names ≡ []
none_left [] zero few = refl
none_left [] (suc i) few = refl
none_left (n ∷ ns) zero few = absurd (omega (arith, few))
none_left (n ∷ ns) (suc i) few = none_left ns i (omega (arith, few))

pub texts_end : (names : List (List ℕ)) (texts : List (Vec ℕ Global)) (i : ℕ) (out : List ℕ) → length names ≤ i → IsWritten names texts i out → out ≡ texts_under 1 names (all_items texts)
texts_end names texts i out few before = sym (append-nil out) ∙ ap (λ ns. out ++ texts_under (i + 1) ns (all_items (drop i texts))) (sym (none_left names i few)) ∙ before
