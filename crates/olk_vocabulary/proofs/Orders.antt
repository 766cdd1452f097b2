-- The order of values is total, and those that are the same are level in it.
use Rattle.std.proofs.Common.{◌≡◌, ◌<◌, ℕ, zero, suc, List, [], true, false, ◌&&◌, Ordering, Less, Equal, Greater, refl, sym, ap, ◌∙◌, arith, true≢false, nat_cmp, bytes_eq}
use Rattle.std.specs.Option.{option_cmp}
use Rattle.std.specs.Ordering.{ordering_then, then_cmp, on, bool_cmp, nan_last_cmp, is_eq}
use Rattle.std.specs.Cmp.{IsTotalOrder, Equal-is, then_total, on_total, bool_cmp_total, nat_cmp_total, first_so, second_so}
use Rattle.std.specs.Float.{Float, NotNan, nan, inf, fin}
use Rattle.std.specs.Float.Ieee.{eq, is_nan}
use Rattle.std.specs.Cmp.Lexicographic.{slice_cmp, lists_total, options_total, nat_list_cmp_total}
use Rattle.std.specs.Cmp.Derive.Recursive.{limit_total}
use Rattle.std.proofs.lemmas.Cmp.{tied_itself}
use Rattle.std.proofs.lemmas.Float.{nan_last, floats_per}
use Rattle.std.proofs.lemmas.Slice.Eq.{bytes_eq-Decides}
use Rattle.std.proofs.lemmas.Map.Text.{is_eq-slice_cmp}
use Rattle.serde_json.specs.Data.{Num, Data, null, boolean, number, string, array, object, Items, no_items, item, Members, no_members, member, depth, items_depth, members_depth}
use Rattle.serde_json.specs.Find.{as_bool, as_number, as_str}
use Rattle.olk_spec.specs.Names.{Name}
use Rattle.olk_spec.specs.Malformed.{items_list}
use Rattle.olk_spec.specs.Schemas.{listed}
use Rattle.olk_numbers.specs.Numbers.{exact, num_of, is_same_number}
use Rattle.olk_vocabulary.specs.Candidates.{rank}
use Rattle.olk_vocabulary.specs.declared.ranked.RankedNumber.{RankedNumber}
use Rattle.olk_vocabulary.specs.Order.{kind_rank, value_cmp, items_cmp, members_cmp}
use Rattle.olk_vocabulary.specs.Same.{same_value, same_items, same_members}
use Rattle.olk_numbers.proofs.Comparisons.{eq_by_rank}

-- ---- one level, and then one more

abbrev inside : Data → List Data
inside (array ds) = items_list ds
inside d = []

abbrev named : Data → List (Name × Data)
named (object ms) = listed ms
named d = []

abbrev text_cmp : List ℕ → List ℕ → Ordering
text_cmp = slice_cmp nat_cmp

abbrev member_cmp : (Data → Data → Ordering) → Name × Data → Name × Data → Ordering
member_cmp R = then_cmp (on (λ m. m.0) text_cmp) (on (λ m. m.1) R)

abbrev parts_cmp : (Data → Data → Ordering) → Data → Data → Ordering
parts_cmp R = then_cmp (on inside (slice_cmp R)) (on named (slice_cmp (member_cmp R)))

abbrev leaves_cmp : Data → Data → Ordering
leaves_cmp = then_cmp (on as_bool (option_cmp bool_cmp)) (then_cmp (on as_number (option_cmp (on exact nan_last_cmp))) (on as_str (option_cmp text_cmp)))

abbrev level_cmp : (Data → Data → Ordering) → Data → Data → Ordering
level_cmp R = then_cmp (on kind_rank nat_cmp) (then_cmp leaves_cmp (parts_cmp R))

abbrev within : ℕ → Data → Data → Ordering
within zero = λ x y. Equal
within (suc n) = level_cmp (within n)

member_total : (R : Data → Data → Ordering) → IsTotalOrder R → IsTotalOrder (member_cmp R)
member_total R o = then_total (on_total (λ (m : Name × Data). m.0) nat_list_cmp_total) (on_total (λ (m : Name × Data). m.1) o)

parts_total : (R : Data → Data → Ordering) → IsTotalOrder R → IsTotalOrder (parts_cmp R)
parts_total R o = then_total (on_total inside (lists_total o)) (on_total named (lists_total (member_total R o)))

leaves_total : IsTotalOrder leaves_cmp
leaves_total = then_total (on_total as_bool (options_total bool_cmp_total)) (then_total (on_total as_number (options_total (on_total exact nan_last))) (on_total as_str (options_total nat_list_cmp_total)))

level_total : (R : Data → Data → Ordering) → IsTotalOrder R → IsTotalOrder (level_cmp R)
level_total R o = then_total (on_total kind_rank nat_cmp_total) (then_total leaves_total (parts_total R o))

within_total : (n : ℕ) → IsTotalOrder (within n)
within_total zero = record { antisymm = λ x y. refl; trans = λ x y z p q. p; congr = λ x y z p. refl }
within_total (suc n) = level_total (within n) (within_total n)

-- ---- so many levels are all

then_level : (o : Ordering) → ordering_then o Equal ≡ o
then_level Less = refl
then_level Equal = refl
then_level Greater = refl

then_assoc : (a b c : Ordering) → ordering_then (ordering_then a b) c ≡ ordering_then a (ordering_then b c)
then_assoc Less b c = refl
then_assoc Equal b c = refl
then_assoc Greater b c = refl

level_null : (n : ℕ) (y : Data) → within (suc n) null y ≡ value_cmp null y
level_null n null = refl
level_null n (boolean c) = refl
level_null n (number k) = refl
level_null n (string t) = refl
level_null n (array es) = refl
level_null n (object ns) = refl

mutual
  all_levels : (n : ℕ) (x y : Data) → depth x < n → depth y < n → within n x y ≡ value_cmp x y
  all_levels zero x y p q = absurd (omega (arith, p))
  all_levels (suc n) null y p q = level_null n y
  all_levels (suc n) (boolean b) (boolean c) p q = then_level (ordering_then (bool_cmp b c) Equal) ∙ then_level (bool_cmp b c)
  all_levels (suc n) (number k) (number m) p q = then_level (ordering_then (nan_last_cmp (exact k) (exact m)) Equal) ∙ then_level (nan_last_cmp (exact k) (exact m))
  all_levels (suc n) (string s) (string t) p q = then_level (slice_cmp nat_cmp s t)
  all_levels (suc n) (array ds) (array es) p q = then_level _ ∙ all_items n ds es (omega (arith, p)) (omega (arith, q))
  all_levels (suc n) (object ms) (object ns) p q = all_members n ms ns (omega (arith, p)) (omega (arith, q))
  all_levels (suc n) _ _ p q = refl

  all_items : (n : ℕ) (ds es : Items) → items_depth ds < n → items_depth es < n → slice_cmp (within n) (items_list ds) (items_list es) ≡ items_cmp ds es
  all_items n no_items no_items p q = refl
  all_items n no_items (item e es) p q = refl
  all_items n (item d ds) no_items p q = refl
  all_items n (item d ds) (item e es) p q =
      λ i. ordering_then (all_levels n d e (omega (arith, p)) (omega (arith, q)) i) (all_items n ds es (omega (arith, p)) (omega (arith, q)) i)

  all_members : (n : ℕ) (ms ns : Members) → members_depth ms < n → members_depth ns < n → slice_cmp (member_cmp (within n)) (listed ms) (listed ns) ≡ members_cmp ms ns
  all_members n no_members no_members p q = refl
  all_members n no_members (member l e ns) p q = refl
  all_members n (member k d ms) no_members p q = refl
  all_members n (member k d ms) (member l e ns) p q =
      (λ i. ordering_then (ordering_then (slice_cmp nat_cmp k l) (all_levels n d e (omega (arith, p)) (omega (arith, q)) i)) (all_members n ms ns (omega (arith, p)) (omega (arith, q)) i))
      ∙ then_assoc (slice_cmp nat_cmp k l) (value_cmp d e) (members_cmp ms ns)

pub value_total : IsTotalOrder value_cmp
value_total = limit_total depth within value_cmp all_levels within_total

-- ---- values that are the same are level

right_number : (x y : Float) → eq x y ≡ true → NotNan y
unfolding is_nan eq
right_number nan y h = absurd (true≢false (sym h))
right_number (inf s) nan h = absurd (true≢false (sym h))
right_number (fin s m e) nan h = absurd (true≢false (sym h))
right_number _ _ h = tt

level_is_same : (x y : Float) → NotNan y → is_eq (nan_last_cmp x y) ≡ eq x y
level_is_same x y n = eq_by_rank x y n ∙ floats_per.symm y x

level_numbers : (x y : Float) → eq x y ≡ true → nan_last_cmp x y ≡ Equal
level_numbers x y h = (Equal-is (nan_last_cmp x y)).0 (level_is_same x y (right_number x y h) ∙ h)

level_texts : (s t : List ℕ) → bytes_eq s t ≡ true → slice_cmp nat_cmp s t ≡ Equal
level_texts s t h = ap (slice_cmp nat_cmp s) (sym ((bytes_eq-Decides s t).0 h)) ∙ tied_itself nat_list_cmp_total s

mutual
  pub level_values : (x y : Data) → same_value x y ≡ true → value_cmp x y ≡ Equal
  level_values null null h = refl
  level_values (boolean true) (boolean true) h = refl
  level_values (boolean false) (boolean false) h = refl
  level_values (number m) (number n) h = level_numbers (exact m) (exact n) h
  level_values (string s) (string t) h = level_texts s t h
  level_values (array ds) (array es) h = level_items ds es h
  level_values (object ms) (object ns) h = level_members ms ns h
  level_values _ _ h = absurd (true≢false (sym h))

  level_items : (ds es : Items) → same_items ds es ≡ true → items_cmp ds es ≡ Equal
  level_items no_items no_items h = refl
  level_items (item d ds) (item e es) h =
      λ i. ordering_then (level_values d e (first_so (same_value d e) (same_items ds es) h) i) (level_items ds es (second_so (same_value d e) (same_items ds es) h) i)
  level_items _ _ h = absurd (true≢false (sym h))

  level_members : (ms ns : Members) → same_members ms ns ≡ true → members_cmp ms ns ≡ Equal
  level_members no_members no_members h = refl
  level_members (member k d ms) (member l e ns) h =
      let rest = second_so (bytes_eq k l) (same_value d e && same_members ms ns) h in
      λ i. ordering_then (level_texts k l (first_so (bytes_eq k l) (same_value d e && same_members ms ns) h) i)
      (ordering_then (level_values d e (first_so (same_value d e) (same_members ms ns) rest) i) (level_members ms ns (second_so (same_value d e) (same_members ms ns) rest) i))
  level_members _ _ h = absurd (true≢false (sym h))

-- ---- what a comparison says

pub text_same : (s t : List ℕ) (o : Ordering) → o ≡ slice_cmp nat_cmp s t → is_eq o ≡ bytes_eq s t
text_same s t o e = ap is_eq e ∙ is_eq-slice_cmp s t

pub number_same : (x y : RankedNumber) (m n : Num) (o : Ordering) → o ≡ nan_last_cmp (rank x) (rank y) → num_of x.number ≡ m → num_of y.number ≡ n → is_eq o ≡ is_same_number m n
number_same x y m n o e p q = ap is_eq e ∙ level_is_same (rank x) (rank y) y.known ∙ (λ i. is_same_number (p i) (q i))
