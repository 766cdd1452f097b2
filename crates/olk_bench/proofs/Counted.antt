-- Whether a text has more characters than a number.
use Rattle.std.proofs.Common.{◌≡◌, ℕ, ◌⊎◌, inl, inr, ◌<◌, ◌≤◌, List, length, Option, Some, None, nat_lt, chars, ap, sym, subst, ◌∙◌, IsUtf8}
use Rattle.std.specs.Option.{is_some}
use Rattle.std.specs.List.{slice_get}
use Rattle.std.proofs.lemmas.Bool.{lt-ltb, le-ltb}
use Rattle.std.proofs.lemmas.Option.{slice_get_cases}
use Rattle.std.proofs.lemmas.Str.{encodes-chars, length-le-encodes}

some_within : {X : Type 0} (P : X → Type 0) (o : Option X) (n m : ℕ) → ((x : X) × (n < m) × (o ≡ Some x) × P x) ⊎ ((m ≤ n) × (o ≡ None)) → is_some o ≡ nat_lt n m
some_within P o n m (inl h) = ap is_some h.2 ∙ sym (lt-ltb n m h.1)
some_within P o n m (inr h) = ap is_some h.1 ∙ sym (le-ltb n m h.0)

pub is_some-slice_get : {X : Type 0} (xs : List X) (n : ℕ) → is_some (slice_get xs n) ≡ nat_lt n (length xs)
is_some-slice_get xs n = some_within _ (slice_get xs n) n (length xs) (slice_get_cases xs n).1

pub length-chars-le : (s : List ℕ) → IsUtf8 s → length (chars s) ≤ length s
length-chars-le s utf8 = let P : List ℕ → Type 0 = λ t. length (chars s) ≤ length t in subst P (encodes-chars s utf8) (length-le-encodes (chars s))
