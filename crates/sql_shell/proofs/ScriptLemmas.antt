-- Scripts that were read, and the known bytes of their files.
use Rattle.std.proofs.Common.{◌≡◌, ℕ, zero, suc, ◌+◌, ◌<◌, ◌≤◌, ◌⊎◌, inl, inr, List, [], ◌∷◌, ◌++◌, true, length, map, take, drop, slice_index_or, Option, Some, None, refl, ap, sym, ◌∙◌, subst, arith}
use Rattle.std.specs.Prelude.{IfSome, replicate, slice_get}
use Rattle.std.specs.List.{AllByRecursion}
use Rattle.std.proofs.lemmas.List.{take_more, take-append-drop, length-take-le, length-replicate}
use Rattle.std.proofs.Math.Seq.{drop-cons}
use Rattle.sql_tree.specs.Pieces.{pieces_of}
use Rattle.causes.specs.Limits.{most_bytes}
use Rattle.sql_shell.specs.Scripts.{IsRunnable, IsUnfit, TooLong, NotText, TooMany, IsFirstUnfit, AreRunnable, AreTexts, AreToldFirst, CanBeRun, names_of, pieces_in, IsCut, AreCut}
use Rattle.sql_shell.specs.Failures.{status_of, at_of, is_by_bytes}
use Rattle.sql_shell.specs.declared.scripts.Failure.{Failure}
use Rattle.sql_shell.specs.declared.scripts.Failure.TheVariants.{Words, Fault, BadLine, Memory}
use Rattle.sql_shell.specs.declared.scripts.Failure.TheVariants as failure
use Rattle.sql_shell.specs.declared.scripts.CutScript.{CutScript}
use Rattle.sql_shell.proofs.TextLemmas.{no_utf8}

-- ## Options

pub some_of : {X : Type 0} (o : Option X) (P : X → Type 0) (x : X) → o ≡ Some x → IfSome o P → P x
some_of None P x e h = cc
some_of (Some y) P x e h = let same : y ≡ x = cc in subst P same h

-- ## Names

-- the name at a place inside
pub name_at : (names : List (List ℕ)) (i : ℕ) (name : List ℕ) → i < length names → name ≡ slice_index_or names i name → slice_get names i ≡ Some name
name_at [] i name inside is = absurd (omega (arith, inside))
name_at (n ∷ ns) zero name inside is = ap Some (sym is)
name_at (n ∷ ns) (suc i) name inside is = name_at ns i name (omega (arith, inside)) is

-- ## Known bytes

pub cut_more : (bytes : List ℕ → Option (List ℕ)) (names : List (List ℕ)) (scripts : List CutScript) (name : List ℕ) (script : CutScript) → AreCut bytes names scripts → IsCut bytes name script → AreCut bytes (names ++ name ∷ []) (scripts ++ script ∷ [])
cut_more bytes [] [] name script are is = (is, tt)
cut_more bytes [] (s ∷ ss) name script are is = absurd are
cut_more bytes (n ∷ ns) [] name script are is = absurd are
cut_more bytes (n ∷ ns) (s ∷ ss) name script are is = (are.0, cut_more bytes ns ss name script are.1 is)

-- a script of a text that has the known bytes of its file
pub is_cut : (bytes : List ℕ → Option (List ℕ)) (name : List ℕ) (script : CutScript) (text : List ℕ) → IfSome (bytes name) (λ told. text ≡ told) → (script.name ≡ name) × IsRunnable text × (script.pieces ≡ pieces_of text) → IsCut bytes name script
is_cut bytes name script text told is = record { text = text; told = told; runnable = is.1; named = is.0; cut = is.2 }

-- the scripts are those of the files
pub record AreOf (bytes : List ℕ → Option (List ℕ)) (names : List (List ℕ)) (scripts : List CutScript) : Type 0 where
  pub texts : List (List ℕ)
  pub told : AreTexts bytes names texts
  pub runnable : AreRunnable texts
  pub named : names_of scripts ≡ names
  pub cut : pieces_in scripts ≡ map pieces_of texts

pub are_of : (bytes : List ℕ → Option (List ℕ)) (names : List (List ℕ)) (scripts : List CutScript) → AreCut bytes names scripts → AreOf bytes names scripts
are_of bytes [] [] are = record { texts = []; told = tt; runnable = tt; named = refl; cut = refl }
are_of bytes [] (s ∷ ss) are = absurd are
are_of bytes (n ∷ ns) [] are = absurd are
are_of bytes (n ∷ ns) (s ∷ ss) are =
    let rest = are_of bytes ns ss are.1 in
    record {
      texts = are.0.text ∷ rest.texts;
      told = (are.0.told, rest.told);
      runnable = (are.0.runnable, rest.runnable);
      named = ap (λ x. x ∷ names_of ss) are.0.named ∙ ap (λ xs. n ∷ xs) rest.named;
      cut = ap (λ x. x ∷ pieces_in ss) are.0.cut ∙ ap (λ xs. pieces_of are.0.text ∷ xs) rest.cut;
    }

-- a file that was read can be run, if its bytes are known
pub can_be_run : (bytes : List ℕ → Option (List ℕ)) (names : List (List ℕ)) (scripts : List CutScript) → AreCut bytes names scripts → CanBeRun bytes names
can_be_run bytes [] [] are = tt
can_be_run bytes [] (s ∷ ss) are = absurd are
can_be_run bytes (n ∷ ns) [] are = absurd are
can_be_run bytes (n ∷ ns) (s ∷ ss) are = (own (bytes n) are.0.told, can_be_run bytes ns ss are.1)
  where
    own : (o : Option (List ℕ)) → IfSome o (λ told. are.0.text ≡ told) → IfSome o IsRunnable
    own None told = tt
    own (Some text) told = subst IsRunnable told are.0.runnable

-- each file has a text
texts_for : (bytes : List ℕ → Option (List ℕ)) (names : List (List ℕ)) → (texts : List (List ℕ)) × AreTexts bytes names texts
texts_for bytes [] = ([], tt)
texts_for bytes (name ∷ names) =
    let rest = texts_for bytes names in
    let own = text_for (bytes name) in
    (own.0 ∷ rest.0, (own.1, rest.1))
  where
    text_for : (o : Option (List ℕ)) → (text : List ℕ) × IfSome o (λ told. text ≡ told)
    text_for None = ([], tt)
    text_for (Some text) = (text, refl)

-- ## The first script that isn't run

-- a text of a file that isn't run: its known bytes, or else any such text
record UnfitText (o : Option (List ℕ)) (status : ℕ) : Type 0 where
  text : List ℕ
  told : IfSome o (λ told. text ≡ told)
  unfit : IsUnfit text status

-- a text longer than a number of bytes
pub long_text : (n : ℕ) → (text : List ℕ) × (n < length text)
long_text n =
    let b : ℕ = 0 in
    let long : length (replicate (n + 1) b) ≡ n + 1 = length-replicate (n + 1) b in
    (replicate (n + 1) b, omega (arith, long))

unfit_text : (o : Option (List ℕ)) (failure : Failure) → is_by_bytes (status_of failure) ≡ true → IfSome o (λ text. IsUnfit text (status_of failure)) → UnfitText o (status_of failure)
unfit_text (Some text) failure by unfit = record { text = text; told = refl; unfit = unfit }
unfit_text None Words by unfit = cc
unfit_text None (Fault n) by unfit = cc
unfit_text None (BadLine n) by unfit = cc
unfit_text None Memory by unfit = cc
unfit_text None (failure.TooLong n) by unfit =
    let long = long_text most_bytes in
    record { text = long.0; told = tt; unfit = TooLong long.1 refl }
unfit_text None (failure.NotText n) by unfit = record { text = 255 ∷ []; told = tt; unfit = NotText (omega arith) no_utf8 refl }

-- the file that a failure is about, where its bytes decide or a fault does
pub place_by : (failure : Failure) (number : ℕ) → is_by_bytes (status_of failure) ≡ true → (status_of failure ≡ 5) × (at_of failure ≡ 0) ⊎ (at_of failure ≡ number) → at_of failure ≡ number
place_by failure number by (inr at) = at
place_by Words number by (inl memory) = cc
place_by (Fault n) number by (inl memory) = cc
place_by (failure.TooLong n) number by (inl memory) = let wrong : 4 ≡ 5 = memory.0 in cc
place_by (failure.NotText n) number by (inl memory) = let wrong : 6 ≡ 5 = memory.0 in cc
place_by (BadLine n) number by (inl memory) = cc
place_by Memory number by (inl memory) = cc

pub place_at_fault : (failure : Failure) (number : ℕ) → status_of failure ≡ 2 → (status_of failure ≡ 5) × (at_of failure ≡ 0) ⊎ (at_of failure ≡ number) → at_of failure ≡ number
place_at_fault failure number two (inr at) = at
place_at_fault failure number two (inl memory) = let wrong : 2 ≡ 5 = sym two ∙ memory.0 in cc

-- texts of the files, of which the first that isn't run has this status
pub record FirstUnfit (bytes : List ℕ → Option (List ℕ)) (names : List (List ℕ)) (number status at : ℕ) : Type 0 where
  pub texts : List (List ℕ)
  pub told : AreTexts bytes names texts
  pub first : IsFirstUnfit number texts status at

-- after scripts that were read, one that can't be run is the first
unfit_at : (bytes : List ℕ → Option (List ℕ)) (names : List (List ℕ)) (scripts : List CutScript) (name : List ℕ) (more : List (List ℕ)) (number status at : ℕ)
    → AreCut bytes names scripts → UnfitText (bytes name) status → at ≡ number + length names
    → FirstUnfit bytes (names ++ name ∷ more) number status at
unfit_at bytes [] [] name more number status at are unfit is =
    let rest = texts_for bytes more in
    record { texts = unfit.text ∷ rest.0; told = (unfit.told, rest.1); first = inl (unfit.unfit, is ∙ (let n : number + 0 ≡ number = omega arith in n)) }
unfit_at bytes [] (s ∷ ss) name more number status at are unfit is = absurd are
unfit_at bytes (n ∷ ns) [] name more number status at are unfit is = absurd are
unfit_at bytes (n ∷ ns) (s ∷ ss) name more number status at are unfit is =
    let on : number + length (n ∷ ns) ≡ (number + 1) + length ns = omega arith in
    let rest = unfit_at bytes ns ss name more (number + 1) status at are.1 unfit (is ∙ on) in
    record { texts = are.0.text ∷ rest.texts; told = (are.0.told, rest.told); first = inr (are.0.runnable, rest.first) }

-- the same at a place among the names, where the known bytes stay
module _ (bytes now : List ℕ → Option (List ℕ)) (same : (other : List ℕ) → now other ≡ bytes other)
    (names : List (List ℕ)) (i : ℕ) (name : List ℕ) (inside : i < length names) (is : name ≡ slice_index_or names i name)
    (scripts : List CutScript) (are : AreCut bytes (take i names) scripts) where
  split : take i names ++ name ∷ drop (suc i) names ≡ names
  split = ap (λ n. take i names ++ n ∷ drop (suc i) names) is ∙ ap (λ d. take i names ++ d) (sym (drop-cons names i name inside)) ∙ take-append-drop i names

  pub unfit_here : (failure : Failure) → is_by_bytes (status_of failure) ≡ true → IfSome (now name) (λ text. IsUnfit text (status_of failure)) → at_of failure ≡ i + 1 → FirstUnfit bytes names 1 (status_of failure) (at_of failure)
  unfit_here failure by unfit at =
      let Q : Option (List ℕ) → Type 0 = λ b. IfSome b (λ text. IsUnfit text (status_of failure)) in
      let own = unfit_text (bytes name) failure by (subst Q (same name) unfit) in
      let long : length (take i names) ≡ i = length-take-le i names (omega arith) in
      let counted : i + 1 ≡ 1 + length (take i names) = omega (arith, long) in
      subst (λ ns. FirstUnfit bytes ns 1 (status_of failure) (at_of failure)) split
      (unfit_at bytes (take i names) scripts name (drop (suc i) names) 1 (status_of failure) (at_of failure) are own (at ∙ counted))

  pub cut_next : (script : CutScript) → IsCut now name script → AreCut bytes (take (i + 1) names) (scripts ++ script ∷ [])
  cut_next script cut =
      let Q : Option (List ℕ) → Type 0 = λ b. IfSome b (λ told. cut.text ≡ told) in
      let P : List (List ℕ) → Type 0 = λ ns. AreCut bytes ns (scripts ++ script ∷ []) in
      subst P (ap (λ n. take i names ++ n ∷ []) is ∙ sym (take_more names i name inside))
      (cut_more bytes (take i names) scripts name script are (record { text = cut.text; told = subst Q (same name) cut.told; runnable = cut.runnable; named = cut.named; cut = cut.cut }))

-- what can be run isn't unfit
pub runs : (text : List ℕ) (status : ℕ) → IsRunnable text → IsUnfit text status → ⊥
runs text status fit (TooLong long is) = absurd (omega (arith, fit.short, long))
runs text status fit (NotText short bad is) = bad fit.text
runs text status fit (TooMany short good many is) = absurd (omega (arith, fit.few, many))

-- a text is unfit in one way
one_way : (text : List ℕ) (a b : ℕ) → IsUnfit text a → IsUnfit text b → a ≡ b
one_way text a b (TooLong long is) (TooLong long' is') = is ∙ sym is'
one_way text a b (TooLong long is) (NotText short' bad' is') = absurd (omega (arith, long, short'))
one_way text a b (TooLong long is) (TooMany short' good' many' is') = is ∙ sym is'
one_way text a b (NotText short bad is) (TooLong long' is') = absurd (omega (arith, short, long'))
one_way text a b (NotText short bad is) (NotText short' bad' is') = is ∙ sym is'
one_way text a b (NotText short bad is) (TooMany short' good' many' is') = absurd (bad good')
one_way text a b (TooMany short good many is) (TooLong long' is') = is ∙ sym is'
one_way text a b (TooMany short good many is) (NotText short' bad' is') = absurd (bad' good)
one_way text a b (TooMany short good many is) (TooMany short' good' many' is') = is ∙ sym is'

-- the text of a file whose bytes are known
pub told_text : (o : Option (List ℕ)) (text told : List ℕ) → o ≡ Some told → IfSome o (λ t. text ≡ t) → text ≡ told
told_text o text told e h = some_of o (λ t. text ≡ t) told e h

-- known texts that can all be run have no first that can't
pub all_fit : (bytes : List ℕ → Option (List ℕ)) (number : ℕ) (names texts told : List (List ℕ)) (status at : ℕ)
    → AreTexts bytes names texts → AreToldFirst bytes names told → length told ≡ length names → AreRunnable told → IsFirstUnfit number texts status at → ⊥
all_fit bytes number [] [] told status at are first long fit unfit = unfit
all_fit bytes number [] (t ∷ ts) told status at are first long fit unfit = absurd are
all_fit bytes number (n ∷ ns) [] told status at are first long fit unfit = unfit
all_fit bytes number (n ∷ ns) (t ∷ ts) [] status at are first long fit unfit = absurd (omega (arith, long))
all_fit bytes number (n ∷ ns) (t ∷ ts) (u ∷ us) status at are first long fit (inl unfit) =
    runs u status fit.0 (subst (λ x. IsUnfit x status) (told_text (bytes n) t u first.0 are.0) unfit.0)
all_fit bytes number (n ∷ ns) (t ∷ ts) (u ∷ us) status at are first long fit (inr unfit) =
    all_fit bytes (number + 1) ns ts us status at are.1 first.1 (omega (arith, long)) fit.1 unfit.1

-- the first known text that can't be run is the first of all
pub same_first : (bytes : List ℕ → Option (List ℕ)) (number : ℕ) (names texts told : List (List ℕ)) (status at s a : ℕ)
    → AreTexts bytes names texts → AreToldFirst bytes names told → IsFirstUnfit number texts status at → IsFirstUnfit number told s a → (status ≡ s) × (at ≡ a)
same_first bytes number [] [] told status at s a are first unfit found = absurd unfit
same_first bytes number [] (t ∷ ts) told status at s a are first unfit found = absurd are
same_first bytes number (n ∷ ns) [] told status at s a are first unfit found = absurd unfit
same_first bytes number (n ∷ ns) (t ∷ ts) [] status at s a are first unfit found = absurd found
same_first bytes number (n ∷ ns) (t ∷ ts) (u ∷ us) status at s a are first (inl unfit) (inl found) =
    let here = subst (λ x. IsUnfit x status) (told_text (bytes n) t u first.0 are.0) unfit.0 in
    (one_way u status s here found.0, unfit.1 ∙ sym found.1)
same_first bytes number (n ∷ ns) (t ∷ ts) (u ∷ us) status at s a are first (inl unfit) (inr found) =
    absurd (runs u status found.0 (subst (λ x. IsUnfit x status) (told_text (bytes n) t u first.0 are.0) unfit.0))
same_first bytes number (n ∷ ns) (t ∷ ts) (u ∷ us) status at s a are first (inr unfit) (inl found) =
    absurd (runs t s unfit.0 (subst (λ x. IsUnfit x s) (sym (told_text (bytes n) t u first.0 are.0)) found.0))
same_first bytes number (n ∷ ns) (t ∷ ts) (u ∷ us) status at s a are first (inr unfit) (inr found) =
    same_first bytes (number + 1) ns ts us status at s a are.1 first.1 unfit.1 found.1

-- files that were all read have no first that can't be run
pub none_unfit : (bytes : List ℕ → Option (List ℕ)) (number : ℕ) (names told : List (List ℕ)) (scripts : List CutScript) (s a : ℕ)
    → AreCut bytes names scripts → AreToldFirst bytes names told → IsFirstUnfit number told s a → ⊥
none_unfit bytes number names [] scripts s a are first found = found
none_unfit bytes number [] (u ∷ us) scripts s a are first found = first
none_unfit bytes number (n ∷ ns) (u ∷ us) [] s a are first found = are
none_unfit bytes number (n ∷ ns) (u ∷ us) (p ∷ ps) s a are first (inl found) =
    runs u s (subst IsRunnable (told_text (bytes n) are.0.text u first.0 are.0.told) are.0.runnable) found.0
none_unfit bytes number (n ∷ ns) (u ∷ us) (p ∷ ps) s a are first (inr found) = none_unfit bytes (number + 1) ns us ps s a are.1 first.1 found.1

-- no script has too many statements
pub all_short : (bytes : List ℕ → Option (List ℕ)) (names : List (List ℕ)) (scripts : List CutScript) → AreCut bytes names scripts → AllByRecursion (λ (pieces : List (List ℕ)). length pieces ≤ 256) (pieces_in scripts)
all_short bytes [] [] are = tt
all_short bytes [] (s ∷ ss) are = absurd are
all_short bytes (n ∷ ns) [] are = absurd are
all_short bytes (n ∷ ns) (s ∷ ss) are = (omega (arith, ap length are.0.cut, are.0.runnable.few), all_short bytes ns ss are.1)

-- as many scripts as files
pub as_many : (bytes : List ℕ → Option (List ℕ)) (names : List (List ℕ)) (scripts : List CutScript) → AreCut bytes names scripts → length scripts ≡ length names
as_many bytes [] [] are = refl
as_many bytes [] (s ∷ ss) are = absurd are
as_many bytes (n ∷ ns) [] are = absurd are
as_many bytes (n ∷ ns) (s ∷ ss) are = omega (arith, as_many bytes ns ss are.1)

-- texts that can be run, and known ones of which one can't
pub runnable_not : (bytes : List ℕ → Option (List ℕ)) (number : ℕ) (names texts told : List (List ℕ)) (s a : ℕ)
    → AreTexts bytes names texts → AreRunnable texts → AreToldFirst bytes names told → IsFirstUnfit number told s a → ⊥
runnable_not bytes number names texts [] s a are fit first found = found
runnable_not bytes number [] texts (u ∷ us) s a are fit first found = first
runnable_not bytes number (n ∷ ns) [] (u ∷ us) s a are fit first found = are
runnable_not bytes number (n ∷ ns) (t ∷ ts) (u ∷ us) s a are fit first (inl found) = runs u s (subst IsRunnable (told_text (bytes n) t u first.0 are.0) fit.0) found.0
runnable_not bytes number (n ∷ ns) (t ∷ ts) (u ∷ us) s a are fit first (inr found) = runnable_not bytes (number + 1) ns ts us s a are.1 fit.1 first.1 found.1
