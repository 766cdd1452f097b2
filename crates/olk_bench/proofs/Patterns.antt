-- The tests of a text, as the library's methods answer them.
use Rattle.std.proofs.Common.{◌≡◌, ℕ, Bool, true, false, ◌||◌, List, [], ◌∷◌, ◌++◌, length, drop, refl, sym, ap, ◌∙◌, nat_eq, true≢false, Option, Some, None, Bor, MatchOption, ◌↔◌}
use Rattle.std.specs.List.{starts_with}
use Rattle.std.specs.Str.Iter.{HasSubslice}
use Rattle.std.specs.Str.Pattern.{FindsTextPrefix, StripsPrefix}
use Rattle.std.proofs.lemmas.Str.Pattern.{starts_text}
use Rattle.std.proofs.lemmas.Bool.Decides.{same_from_decides, Decides-eqb}
use Rattle.std.proofs.lemmas.Slice.Eq.{starts_is}
use Rattle.olk_spec.proofs.Truth.{or_from}
use Rattle.olk_spec.specs.Bench.{is_in}

starts_here : (t n : List ℕ) → starts_with nat_eq n t ≡ true → HasSubslice n t
starts_here t n h = ([], drop (length t) n, (starts_is Decides-eqb n t _ refl).0 h)

starts_when : (t n rest : List ℕ) → n ≡ t ++ rest → starts_with nat_eq n t ≡ true
starts_when t n rest e = (starts_is Decides-eqb n t _ refl).1 rest e

further : (t n : List ℕ) (b : ℕ) → HasSubslice n t → HasSubslice (b ∷ n) t
further t n b h = (b ∷ h.0, h.1, ap (λ xs. b ∷ xs) h.2)

here_or_further : (t n : List ℕ) (b : ℕ) (here after : Bool) → (here ≡ true → HasSubslice (b ∷ n) t) → (after ≡ true → HasSubslice n t) → (here || after) ≡ true → HasSubslice (b ∷ n) t
here_or_further t n b true after p q h = p refl
here_or_further t n b false after p q h = further t n b (q h)

is_in-stands : (t n : List ℕ) → is_in t n ≡ true → HasSubslice n t
is_in-stands [] [] h = ([], [], refl)
is_in-stands (c ∷ t) [] h = absurd (true≢false (sym h))
is_in-stands t (b ∷ n) h = here_or_further t n b _ _ (starts_here t (b ∷ n)) (is_in-stands t n) h

stands-is_in : (t n before after : List ℕ) → n ≡ before ++ (t ++ after) → is_in t n ≡ true
stands-is_in [] [] before after e = refl
stands-is_in (c ∷ t) [] [] after e = cc
stands-is_in (c ∷ t) [] (d ∷ before) after e = cc
stands-is_in t (b ∷ n) [] after e = rw (starts_when t (b ∷ n) after e) refl
stands-is_in t (b ∷ n) (d ∷ before) after e = or_from (starts_with nat_eq (b ∷ n) t) (is_in t n) (stands-is_in t n before after cc)

pub is_in-subslice : (r : Bool) (t n : List ℕ) → (r ≡ true) ↔ HasSubslice n t → r ≡ is_in t n
is_in-subslice r t n h = same_from_decides {P = HasSubslice n t} r (is_in t n) h (is_in-stands t n, λ s. stands-is_in t n s.0 s.1 s.2)

pub strips_text : (r : Option (Bor (List ℕ))) (p s : List ℕ) → MatchOption r (FindsTextPrefix p s None) (λ x. StripsPrefix (FindsTextPrefix p) s x.now)
    → MatchOption r (starts_with nat_eq s p ≡ false) (λ x. (starts_with nat_eq s p ≡ true) × (x.now ≡ drop (length p) s))
strips_text None p s h = sym (starts_text false p s h)
strips_text (Some x) p s h = (starts_when p s _ h.1.1, h.2 ∙ ap (λ n. drop n s) h.1.0)
