-- Each word is a file, `--`, or what clap takes for an option; and each option has a known name or not.
use Rattle.std.proofs.Common.{◌≡◌, ◌∙◌, ℕ, ◌==◌, List, [], ◌∷◌, ◌++◌, Bool, true, false, not, ◌&&◌, ◌||◌, Option, Some, None, if◌then◌else◌, refl, sym, ap, subst, slice_get, eqb-true, codes, ◌⊎◌, inl, inr}
use Rattle.std.specs.Option.{option_and_then, option_map}
use Rattle.std.specs.Str.{IsUtf8, bytes_eq, chars, encode_utf8_all}
use Rattle.std.specs.Cmp.Lexicographic.{pointwise}
use Rattle.std.specs.Char.{encode_utf8}
use Rattle.std.proofs.lemmas.Slice.Eq.{bytes_eq-Decides}
use Rattle.std.proofs.lemmas.Str.{IsUtf8-past_char, encodes-chars}
use Rattle.clap.specs.Lexer.{long_of_rest, short_of_rest, strip_byte}
use Rattle.clap.specs.Walk.{arg_by_long}
use Rattle.command_line.specs.Words.{Text, is_end, is_option, is_valued, name_and_value, option_in}
use Rattle.command_line.proofs.Walk.{IsBundle, IsPlain, LongWord, Name, admit, events_built, files_built, valued_built, budget, credits, evict, id_of, rules, weights, workers}

pub data Class (word : Text) : Type 0 where
  plain : IsPlain word → is_end word ≡ false → is_option word ≡ false → Class word
  end : is_end word ≡ true → is_option word ≡ true → Class word
  long : (p : Text × Option Text) → LongWord word p → is_option word ≡ true → option_in word ≡ Some p → Class word
  bundle : IsBundle word → is_option word ≡ true → option_in word ≡ None → Class word

-- a bundle begins with a character
begins : (cs bytes : List ℕ) (b : ℕ) → encode_utf8_all cs ≡ b ∷ bytes → (first : ℕ) × (slice_get cs 0 ≡ Some first)
begins [] bytes b e = absurd (cc)
begins (c ∷ cs) bytes b e = (c, refl)

hyphen_first : (word : Text) → 45 ∷ word ≡ encode_utf8 45 ++ word
unfolding encode_utf8
hyphen_first word = refl

first_flag : (b : ℕ) (bytes : Text) → IsUtf8 (45 ∷ b ∷ bytes) → (first : ℕ) × (slice_get (chars (b ∷ bytes)) 0 ≡ Some first)
first_flag b bytes utf8 =
    begins (chars (b ∷ bytes)) bytes b (encodes-chars (b ∷ bytes) (IsUtf8-past_char (45 ∷ b ∷ bytes) (b ∷ bytes) 45 utf8 (hyphen_first (b ∷ bytes))))

-- `--` and further bytes
two_hyphens : (word : Text) → Class (45 ∷ 45 ∷ word)
two_hyphens [] = end refl refl
two_hyphens (b ∷ bytes) = long (name_and_value (b ∷ bytes)) (refl, refl) refl refl

-- one hyphen, and then another byte
bundle_class : (b : ℕ) (bytes : Text) → IsUtf8 (45 ∷ b ∷ bytes) → (b == 45) ≡ false → Class (45 ∷ b ∷ bytes)
bundle_class b bytes utf8 e =
    let first = first_flag b bytes utf8 in
    bundle (record {
      no_end = ap (λ t. t && pointwise (λ x y. x == y) bytes []) e;
      no_long = ap (λ t. option_and_then long_of_rest (if t then Some bytes else None)) e;
      flag = b;
      flags = bytes;
      is_short = ap (λ t. if t then None else Some (b ∷ bytes)) e;
      first = first.0;
      begins = first.1;
    }) refl (ap (λ t. option_map name_and_value (if t then Some bytes else None)) e)

one_hyphen : (word : Text) → IsUtf8 (45 ∷ word) → Class (45 ∷ word)
one_hyphen [] utf8 = plain (record { no_end = refl; no_long = refl; no_short = refl }) refl refl
one_hyphen (b ∷ bytes) utf8 = by (b == 45) refl
  where
    by : (t : Bool) → (b == 45) ≡ t → Class (45 ∷ b ∷ bytes)
    by true e = subst (λ (n : ℕ). Class (45 ∷ n ∷ bytes)) (sym (eqb-true b 45 e)) (two_hyphens bytes)
    by false e = bundle_class b bytes utf8 e

no_hyphen : (b : ℕ) (bytes : Text) → (b == 45) ≡ false → Class (b ∷ bytes)
no_hyphen b bytes e =
    let no_end : is_end (b ∷ bytes) ≡ false = ap (λ t. t && pointwise (λ x y. x == y) bytes (45 ∷ [])) e in
    plain (record {
      no_end = no_end;
      no_long = ap (λ t. option_and_then long_of_rest (option_and_then (strip_byte 45) (if t then Some bytes else None))) e;
      no_short = ap (λ t. option_and_then short_of_rest (if t then Some bytes else None)) e;
    }) no_end (ap (λ t. t && not (bytes_eq (b ∷ bytes) (45 ∷ []))) e)

pub class_of : (word : Text) → IsUtf8 word → Class word
class_of [] utf8 = plain (record { no_end = refl; no_long = refl; no_short = refl }) refl refl
class_of (b ∷ bytes) utf8 = by (b == 45) refl
  where
    by : (t : Bool) → (b == 45) ≡ t → Class (b ∷ bytes)
    by true e =
        let hyphen = eqb-true b 45 e in
        subst (λ (n : ℕ). Class (n ∷ bytes)) (sym hyphen) (one_hyphen bytes (subst (λ (n : ℕ). IsUtf8 (n ∷ bytes)) hyphen utf8))
    by false e = no_hyphen b bytes e

-- ## Names

pub data Named (name : Text) : Type 0 where
  known : (n : Name) → id_of n ≡ name → Named name
  is_events : codes "events" ≡ name → Named name
  unknown : is_valued name ≡ false → bytes_eq (codes "events") name ≡ false → arg_by_long rules name ≡ None → Named name

same_or_not : (option name : Text) → (option ≡ name) ⊎ (bytes_eq option name ≡ false)
same_or_not option name = by (bytes_eq option name) refl
  where
    by : (t : Bool) → bytes_eq option name ≡ t → (option ≡ name) ⊎ (bytes_eq option name ≡ false)
    by true e = inl ((bytes_eq-Decides option name).0 e)
    by false e = inr e

-- no rule has the name
none_by : (name : Text) → bytes_eq (codes "workers") name ≡ false → bytes_eq (codes "budget") name ≡ false → bytes_eq (codes "evict") name ≡ false → bytes_eq (codes "admit") name ≡ false → bytes_eq (codes "credits") name ≡ false → bytes_eq (codes "weights") name ≡ false → bytes_eq (codes "events") name ≡ false → arg_by_long rules name ≡ None
none_by name k b v a c w e =
    ap (λ t. if t || false then Some (valued_built (codes "workers")) else arg_by_long (valued_built (codes "budget") ∷ valued_built (codes "evict") ∷ valued_built (codes "admit") ∷ valued_built (codes "credits") ∷ valued_built (codes "weights") ∷ events_built ∷ files_built ∷ []) name) k
    ∙ ap (λ t. if t || false then Some (valued_built (codes "budget")) else arg_by_long (valued_built (codes "evict") ∷ valued_built (codes "admit") ∷ valued_built (codes "credits") ∷ valued_built (codes "weights") ∷ events_built ∷ files_built ∷ []) name) b
    ∙ ap (λ t. if t || false then Some (valued_built (codes "evict")) else arg_by_long (valued_built (codes "admit") ∷ valued_built (codes "credits") ∷ valued_built (codes "weights") ∷ events_built ∷ files_built ∷ []) name) v
    ∙ ap (λ t. if t || false then Some (valued_built (codes "admit")) else arg_by_long (valued_built (codes "credits") ∷ valued_built (codes "weights") ∷ events_built ∷ files_built ∷ []) name) a
    ∙ ap (λ t. if t || false then Some (valued_built (codes "credits")) else arg_by_long (valued_built (codes "weights") ∷ events_built ∷ files_built ∷ []) name) c
    ∙ ap (λ t. if t || false then Some (valued_built (codes "weights")) else arg_by_long (events_built ∷ files_built ∷ []) name) w
    ∙ ap (λ t. if t || false then Some (events_built) else arg_by_long (files_built ∷ []) name) e

pub named : (name : Text) → Named name
named name = elim (same_or_not (codes "workers") name) [
  | inl e ↦ known workers e
  | inr no_workers ↦ elim (same_or_not (codes "budget") name) [
    | inl e ↦ known budget e
    | inr no_budget ↦ elim (same_or_not (codes "evict") name) [
      | inl e ↦ known evict e
      | inr no_evict ↦ elim (same_or_not (codes "admit") name) [
        | inl e ↦ known admit e
        | inr no_admit ↦ elim (same_or_not (codes "credits") name) [
          | inl e ↦ known credits e
          | inr no_credits ↦ elim (same_or_not (codes "weights") name) [
            | inl e ↦ known weights e
            | inr no_weights ↦ elim (same_or_not (codes "events") name) [
              | inl e ↦ is_events e
              | inr no_events ↦
                  unknown
                  (ap (λ t. t || (bytes_eq (codes "budget") name || (bytes_eq (codes "evict") name || (bytes_eq (codes "admit") name || (bytes_eq (codes "credits") name || (bytes_eq (codes "weights") name || false)))))) no_workers
                  ∙ ap (λ t. t || (bytes_eq (codes "evict") name || (bytes_eq (codes "admit") name || (bytes_eq (codes "credits") name || (bytes_eq (codes "weights") name || false))))) no_budget
                  ∙ ap (λ t. t || (bytes_eq (codes "admit") name || (bytes_eq (codes "credits") name || (bytes_eq (codes "weights") name || false)))) no_evict
                  ∙ ap (λ t. t || (bytes_eq (codes "credits") name || (bytes_eq (codes "weights") name || false))) no_admit
                  ∙ ap (λ t. t || (bytes_eq (codes "weights") name || false)) no_credits
                  ∙ ap (λ t. t || false) no_weights)
                  no_events
                  (none_by name no_workers no_budget no_evict no_admit no_credits no_weights no_events)
            ]
          ]
        ]
      ]
    ]
  ]
]
