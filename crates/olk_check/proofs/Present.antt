-- A name that is looked for among the members of an object.
use Rattle.std.proofs.Common.{◌≡◌, Bool, true, ◌||◌, List, [], ◌∷◌, bytes_eq, is_some, refl, sym, ap, ◌∙◌, Ordering, Less, Option}
use Rattle.std.specs.Ordering.{nat_cmp, is_eq}
use Rattle.std.specs.Cmp.Lexicographic.{slice_cmp}
use Rattle.std.proofs.Math.Bool.{or-false}
use Rattle.serde_json.specs.Data.{Data}
use Rattle.olk_spec.specs.Names.{Name, lookup_name, first_if_equal}
use Rattle.olk_spec.proofs.Truth.{or_in_turn}
use Rattle.olk_tree.proofs.Lookups.{same_name}

-- whether the name was met, or else is still to come
pub record Sought (n : Name) (all rest : List (Name × Data)) (met : Bool) : Type 0 where
  pub as_left : is_some (lookup_name n all) ≡ (met || is_some (lookup_name n rest))

first_or_later : (n : Name) (x : Data) (o : Ordering) (r : Option Data) → is_some (first_if_equal o x r) ≡ (is_eq o || is_some r)
first_or_later n x Less r = refl
first_or_later n x _ r = refl

module _ {n : Name} {all : List (Name × Data)} where
  module _ {rest : List (Name × Data)} {met : Bool} where
    pub sought_on : {k : Name} {x : Data} {more : List (Name × Data)} (now_met : Bool) → Sought n all rest met → rest ≡ (k, x) ∷ more → now_met ≡ (bytes_eq k n || met) → Sought n all more now_met
    sought_on {k} {x} {more} now_met h next e = record {
      as_left =
          h.as_left ∙ ap (λ l. met || is_some (lookup_name n l)) next ∙ ap (λ b. met || b)
          (first_or_later n x (slice_cmp nat_cmp n k) (lookup_name n more) ∙ ap (λ b. b || is_some (lookup_name n more)) (sym (same_name k n)))
          ∙ or_in_turn met (bytes_eq k n) (is_some (lookup_name n more)) ∙ ap (λ b. b || is_some (lookup_name n more)) (sym e);
    }

    pub sought_end : Sought n all rest met → rest ≡ [] → met ≡ is_some (lookup_name n all)
    sought_end h none = sym (h.as_left ∙ ap (λ l. met || is_some (lookup_name n l)) none ∙ or-false met)

    pub sought_met : Sought n all rest met → met ≡ true → is_some (lookup_name n all) ≡ true
    sought_met h is = h.as_left ∙ ap (λ b. b || is_some (lookup_name n rest)) is
