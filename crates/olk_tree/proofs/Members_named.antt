-- The names of an object's members, in order.
use Rattle.std.proofs.Common.{◌≡◌, ℕ, zero, suc, ◌<◌, List, [], ◌∷◌, ◌++◌, length, map, get_or, String, Global, Less, string_bytes, string_cmp, refl, sym, ap, subst, ◌∙◌, append-nil, arith}
use Rattle.std.specs.Ordering.{nat_cmp}
use Rattle.std.specs.Cmp.Lexicographic.{slice_cmp}
use Rattle.std.specs.List.{AllByRecursion}
use Rattle.std.specs.List.Sorted.{IsStrictlySortedBy}
use Rattle.std.specs.Map.{keys_of}
use Rattle.serde_json.specs.View.{members_view}
use Rattle.serde_json.specs.declared.value.Value.{Value}
use Rattle.olk_spec.specs.Names.{Name}
use Rattle.olk_spec.specs.Schemas.{listed}
use Rattle.olk_tree.specs.declared.sorted_name.SortedName.{SortedName}
use Rattle.olk_tree.specs.Sorted.{name_of}
use Rattle.olk_tree.specs.Ascending.{Ascend}

abbrev pub names_in : List (String Global × Value) → List Name
names_in es = map (λ m. string_bytes m.0) es

pub names_listed : (es : List (String Global × Value)) → names_in es ≡ map (λ m. m.0) (listed (members_view es))
names_listed [] = refl
names_listed (e ∷ es) = ap (λ ns. string_bytes e.0 ∷ ns) (names_listed es)

below_each : (k : String Global) (es : List (String Global × Value)) → AllByRecursion (λ y. string_cmp k y ≡ Less) (keys_of es) → (j : ℕ)
    → j < length (names_in es) → slice_cmp nat_cmp (string_bytes k) (get_or (names_in es) j []) ≡ Less
below_each k [] h j l = absurd (omega arith)
below_each k (e ∷ es) h zero l = h.0
below_each k (e ∷ es) h (suc j) l = below_each k es h.1 j (omega arith)

pub ascending : (es : List (String Global × Value)) → IsStrictlySortedBy string_cmp (keys_of es) → Ascend (names_in es)
unfolding IsStrictlySortedBy
ascending (e ∷ es) h zero (suc j) l g = below_each e.0 es h.0 j (omega arith)
ascending (e ∷ es) h (suc i) (suc j) l g = ascending es h.1 i j (omega arith) (omega arith)
ascending _ h _ _ l g = absurd (omega arith)

-- the names so far, and those that are left, are all
pub record NamesSoFar (names : List SortedName) (left all : List _) : Type 0 where
  pub are_all : map name_of names ++ names_in left ≡ names_in all

pub so_far_end : {names : List SortedName} {left all : List (String Global × Value)} → NamesSoFar names left all → left ≡ [] → map name_of names ≡ names_in all
so_far_end {names} {left} {all} h e = sym (append-nil _) ∙ ap (λ es. map name_of names ++ names_in es) (sym e) ∙ h.are_all

pub so_far_ascends : (names : List SortedName) (all : List (String Global × Value)) → map name_of names ≡ names_in all → IsStrictlySortedBy string_cmp (keys_of all) → Ascend (map name_of names)
so_far_ascends names all e h = subst Ascend (sym e) (ascending all h)
