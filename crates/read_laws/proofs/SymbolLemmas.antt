-- The symbols at the front of a text.
use Rattle.std.proofs.Common.{◌≡◌, ℕ, List, [], ◌∷◌, Bool, true, false, not, ◌&&◌, ◌||◌, cond, Option, Some, None, refl, ap, sym, ◌∙◌, subst}
use Rattle.std.specs.Prelude.{◌==◌}
use Rattle.std.specs.List.{AllByRecursion}
use Rattle.std.proofs.lemmas.Bool.{eqb-true, and_parts}
use Rattle.sql_tree.specs.Bytes.{begins_with}
use Rattle.sql_tree.specs.Tokens.{symbol_text, is_pair, ends_symbol}
use Rattle.sql_tree.specs.declared.token.Symbol.{Symbol}
use Rattle.sql_tree.specs.declared.token.Symbol.TheVariants as symbol
use Rattle.sql_tree.specs.declared.token.TheConstants.{SINGLES, PAIRS}
use Rattle.read_laws.specs.TokenReader.{first_symbol, single_of, pair_of, pair_at}

-- what holds of each entry that passes holds of the symbol that is found
first_found : {X : Type 0} (entries : List X) (test : X → Bool) (value : X → Symbol) (P : Symbol → Type 0) → AllByRecursion (λ entry. test entry ≡ true → P (value entry)) entries → (s : Symbol) → first_symbol test value entries ≡ Some s → P s
first_found [] test value P all s h = cc
first_found (entry ∷ entries) test value P all s h = by_test (first_found entries test value P all.1 s) (test entry) refl h
  where
    by_test : (first_symbol test value entries ≡ Some s → P s) → (t : Bool) → test entry ≡ t → cond t (Some (value entry)) (first_symbol test value entries) ≡ Some s → P s
    by_test more true e h = let same : value entry ≡ s = cc in subst P same (all.0 e)
    by_test more false e h = more h

byte_is : (b n : ℕ) → (b == n) ≡ true → n ∷ [] ≡ b ∷ []
byte_is b n h = ap (λ c. c ∷ []) (sym (eqb-true b n h))

bytes_are : (b c n m : ℕ) → ((b == n) && (c == m)) ≡ true → n ∷ m ∷ [] ≡ b ∷ c ∷ []
bytes_are b c n m h =
    let parts = and_parts (b == n) (c == m) h in
    ap (λ x. x ∷ m ∷ []) (sym (eqb-true b n parts.0)) ∙ ap (λ x. b ∷ x ∷ []) (sym (eqb-true c m parts.1))

pub single_sound : (b : ℕ) (s : Symbol) → single_of b ≡ Some s → symbol_text s ≡ b ∷ []
unfolding single_of
single_sound b s h =
    first_found SINGLES (λ entry. b == entry.0) (λ entry. entry.1) (λ s. symbol_text s ≡ b ∷ [])
    (byte_is b 40, (byte_is b 41, (byte_is b 44, (byte_is b 46, (byte_is b 42, (byte_is b 43, (byte_is b 45, (byte_is b 61, (byte_is b 60, (byte_is b 62, (byte_is b 47, (byte_is b 37, tt))))))))))))
    s h

pub pair_sound : (b c : ℕ) (s : Symbol) → pair_of b c ≡ Some s → symbol_text s ≡ b ∷ c ∷ []
unfolding pair_of
pair_sound b c s h =
    first_found PAIRS (λ entry. (b == entry.0.0) && (c == entry.0.1)) (λ entry. entry.1) (λ s. symbol_text s ≡ b ∷ c ∷ [])
    (bytes_are b c 60 61, (bytes_are b c 62 61, (bytes_are b c 60 62, (bytes_are b c 33 61, (bytes_are b c 124 124, tt)))))
    s h

-- where no pair is found and no comment begins, the bytes are no pair
none_of : (p q r s t u v : Bool) → ◌≡◌ {A = Option Symbol} (cond p (Some symbol.LessEqual) (cond q (Some symbol.GreaterEqual) (cond r (Some symbol.NotEqual) (cond s (Some symbol.BangEqual) (cond t (Some symbol.Bars) None))))) None → u ≡ false → v ≡ false → (p || q || r || s || t || u || v) ≡ false
none_of true q r s t u v h k l = cc
none_of false true r s t u v h k l = cc
none_of false false true s t u v h k l = cc
none_of false false false true t u v h k l = cc
none_of false false false false true u v h k l = cc
none_of false false false false false u v h k l = ap (λ u. u || v) k ∙ l

pub no_pair : (b c : ℕ) → pair_of b c ≡ None → ((b == 45) && (c == 45)) ≡ false → ((b == 47) && (c == 42)) ≡ false → is_pair b c ≡ false
unfolding pair_of
no_pair b c h line block = none_of ((b == 60) && (c == 61)) ((b == 62) && (c == 61)) ((b == 60) && (c == 62)) ((b == 33) && (c == 61)) ((b == 124) && (c == 124)) ((b == 45) && (c == 45)) ((b == 47) && (c == 42)) h line block

-- a single symbol ends where no pair is found and no comment begins
pub single_ends : (b : ℕ) (bs : List ℕ) → pair_at b bs ≡ None → ((b == 45) && begins_with 45 bs) ≡ false → ((b == 47) && begins_with 42 bs) ≡ false → ends_symbol (b ∷ []) bs ≡ true
single_ends b [] h line block = refl
single_ends b (c ∷ bs) h line block = ap not (no_pair b c h line block)
