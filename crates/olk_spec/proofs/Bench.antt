-- The bench's search for a text in a name, against std's.
use Rattle.std.proofs.Common.{◌≡◌, ℕ, true, nat_eq, [], ◌∷◌, drop, refl, ap, sym, inl, inr}
use Rattle.std.proofs.lemmas.Bool.{true≢false, or_cases}
use Rattle.std.proofs.lemmas.Slice.Eq.{starts_is}
use Rattle.std.proofs.lemmas.Bool.Decides.{Decides-eqb}
use Rattle.std.specs.List.{starts_with}
use Rattle.std.specs.Str.Iter.{HasSubslice}
use Rattle.olk_spec.specs.Names.{Text}
use Rattle.olk_spec.specs.Bench.{is_in}

in_front : (t n : Text) → starts_with nat_eq n t ≡ true → HasSubslice n t
in_front t n h = ([], drop _ n, (starts_is Decides-eqb n t _ refl).0 h)

behind_one : (b : ℕ) (t n : Text) → HasSubslice n t → HasSubslice (b ∷ n) t
behind_one b t n (front, rest, e) = (b ∷ front, rest, ap (λ l. b ∷ l) e)

pub found_in : (t n : Text) → is_in t n ≡ true → HasSubslice n t
found_in [] [] h = ([], [], refl)
found_in (x ∷ t) [] h = absurd (true≢false (sym h))
found_in t (b ∷ n) h = elim (or_cases _ _ h) [ inl e ↦ in_front t _ e | inr e ↦ behind_one b t n (found_in t n e) ]

-- a test that is true exactly where the text stands in the name
