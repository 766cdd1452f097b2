-- What a keyword asks of subschemas, and what an object and a keyword answer of the raw data.
use Rattle.olk_spec.specs.Costs.{Cost, total_cost, ◌⊕◌, cost_step, one_place}
use Rattle.olk_spec.proofs.CostSums.{total_cost-append, total_cost-map}
use Rattle.std.proofs.Common.{◌≡◌, ℕ, ◌+◌, Bool, true, false, cond, not, ◌||◌, List, [], ◌∷◌, ◌++◌, map, sum_by, option_to_list, Option, Some, None, bytes_eq, codes, decimal, ◌&&◌, refl, sym, ◌∙◌, ap}
use Rattle.std.proofs.Common.{arith, append-nil, subst₂, Ordering, Less, Equal, Greater, true≢false}
use Rattle.std.specs.Prelude.{⊤}
use Rattle.std.specs.List.{list_all, flat_map, list_any, enumerate_from}
use Rattle.std.proofs.lemmas.List.Sums.{sum_by-cons, sum_by-append}
use Rattle.olk_spec.specs.Names.{Name, lookup_name, filter_once, put_if, Path, ◌//◌, down, is_empty, first_if_equal}
use Rattle.olk_spec.specs.Faults.{Fault, ◌∼◌, SingleType, object_type, fault, MultipleTypes}
use Rattle.olk_spec.proofs.Order.{∼_inside_out, ∼_same}
use Rattle.olk_spec.proofs.Walks.{Distinct, at_lookup, bytes_eq-sym, list_all-inside_out, list_all-filter_once, list_all-flat_map}
use Rattle.serde_json.specs.Data.{Data, object, Members, string, boolean}
use Rattle.olk_spec.specs.World.{World}
use Rattle.olk_spec.specs.Vocabulary.{properties, required, Keyword, keyword_named}
use Rattle.olk_spec.specs.Schemas.{Schema, read, read_members, answer_for, numbered, at, members, texts, branches, is_object, Keywords, Part, listed}
use Rattle.olk_spec.specs.Malformed.{items_of_array, unless_array, not_a_text, each, malformations_step, keyword_malformations}
use Rattle.olk_spec.specs.Meanings.{Asked, asked, applied, Meaning, Subschema, asked_whole}
use Rattle.olk_spec.specs.Meaning.{meaning_step}
use Rattle.olk_meaning.specs.Steps.{Steps, accepts, asks, report, tree, meaning, malformations_at, cost}
use Rattle.olk_meaning.proofs.Layer.{nothing_summed, layer_steps}
use Rattle.olk_spec.specs.Accepts.{missing, keyword_accepts, wanted}
use Rattle.olk_spec.specs.Reports.{required_faults, keyword_report, own}
use Rattle.olk_spec.proofs.Reading.{entry, place, entries_read, items_read, branches_read, schema_of_read, members_read}
use Rattle.olk_meaning.specs.Members.{member_accepts, member_asks, member_report, member_malformations, member_child, member_cost}
use Rattle.olk_spec.proofs.Maps.{flat_map-map, map-map}
use Rattle.olk_spec.specs.Tree.{Tree, plain}
use Rattle.olk_meaning.proofs.Rows.{Rows}
use Rattle.olk_spec.specs.Asks.{own_asks, keyword_asks}
use Rattle.olk_spec.proofs.Each.{Each-any}
use Rattle.olk_spec.specs.Trees.{keyword_child, asked_trees}
use Rattle.olk_meaning.specs.Told.{IsKeywordTold, entries_told, placed_answers}
use Rattle.std.proofs.{Math.Bool.and-true, lemmas.List.map-append, lemmas.List.Folds.list_all-map, lemmas.Grind.flat_map-append}

-- ---- sums

module _ {X : Type 0} where
  pub sum_of_both : (f g : X → ℕ) (xs : List X) → sum_by (λ x. f x + g x) xs ≡ sum_by f xs + sum_by g xs
  sum_of_both f g [] = refl
  sum_of_both f g (x ∷ xs) =
      let both = sum_by-cons (λ x. f x + g x) x xs in
      let one = sum_by-cons f x xs in
      let other = sum_by-cons g x xs in
      let rest = sum_of_both f g xs in
      omega arith

  pub sum_of_none : (xs : List X) → sum_by (λ x. 0) xs ≡ 0
  sum_of_none [] = refl
  sum_of_none (x ∷ xs) = let next = sum_by-cons (λ x. 0) x xs in let rest = sum_of_none xs in omega arith

  pub sum_of_those : (t : X → Bool) (f : X → ℕ) (xs : List X) → sum_by (λ x. cond (t x) (f x) 0) xs ≡ sum_by f (filter_once t xs)
  sum_of_those t f [] = refl
  sum_of_those t f (x ∷ xs) = sum_by-cons _ x xs ∙ ap (λ n. cond (t x) (f x) 0 + n) (sum_of_those t f xs) ∙ by (t x)
    where
      by : (b : Bool) → cond b (f x) 0 + sum_by f (filter_once t xs) ≡ sum_by f (put_if b x (filter_once t xs))
      by true = sym (sum_by-cons f x (filter_once t xs))
      by false = omega arith

module _ {X Y : Type 0} where
  pub sum_by-flat_map : (g : X → List Y) (f : Y → ℕ) (xs : List X) → sum_by f (flat_map g xs) ≡ sum_by (λ x. sum_by f (g x)) xs
  sum_by-flat_map g f [] = refl
  sum_by-flat_map g f (x ∷ xs) = sum_by-append f (g x) (flat_map g xs) ∙ ap (λ n. sum_by f (g x) + n) (sum_by-flat_map g f xs) ∙ sym (sum_by-cons _ x xs)

  -- the inner sum outside
  pub sums_exchanged : (f : X → Y → ℕ) (xs : List X) (ys : List Y) → sum_by (λ x. sum_by (λ y. f x y) ys) xs ≡ sum_by (λ y. sum_by (λ x. f x y) xs) ys
  sums_exchanged f [] ys = sym (sum_of_none ys)
  sums_exchanged f (x ∷ xs) ys = sum_by-cons (λ x. sum_by _ ys) x xs ∙ ap (λ n. sum_by (λ y. f x y) ys + n) (sums_exchanged f xs ys)
      ∙ sym (sum_of_both _ _ ys) ∙ (λ i. sum_by (λ y. sym (sum_by-cons (λ z. f z y) x xs) i) ys)

-- ---- those of which a test holds

pub flat_map-filter_once : {X : Type 0} (t : X → Bool) (f : X → List Fault) (xs : List X) → flat_map f (filter_once t xs) ≡ flat_map (λ x. cond (t x) (f x) []) xs
flat_map-filter_once t f [] = refl
flat_map-filter_once t f (x ∷ xs) = by (t x) ∙ ap (λ l. cond (t x) (f x) [] ++ l) (flat_map-filter_once t f xs)
  where
    by : (b : Bool) → flat_map f (put_if b x (filter_once t xs)) ≡ cond b (f x) [] ++ flat_map f (filter_once t xs)
    by true = refl
    by false = refl

-- the pairs of which a test holds, by their first or by their second
module _ {X Y : Type 0} (t : X → Y → Bool) where
  pub list_all-exchanged : (f : X → Y → Bool) (xs : List X) (ys : List Y) → list_all (λ x. list_all (λ y. f x y) (filter_once (λ y. t x y) ys)) xs ≡ list_all
      (λ y. list_all (λ x. f x y) (filter_once (λ x. t x y) xs)) ys
  list_all-exchanged f xs ys = (λ i. list_all (λ x. list_all-filter_once (λ y. f x y) (λ y. t x y) ys i) xs)
      ∙ list_all-inside_out (λ x y. not (t x y) || f x y) xs ys ∙ (λ i. list_all (λ y. sym (list_all-filter_once (λ x. f x y) (λ x. t x y) xs) i) ys)

  pub ∼_exchanged : (f : X → Y → List Fault) (xs : List X) (ys : List Y) → flat_map (λ x. flat_map (λ y. f x y) (filter_once (λ y. t x y) ys)) xs ∼ flat_map
      (λ y. flat_map (λ x. f x y) (filter_once (λ x. t x y) xs)) ys
  ∼_exchanged f xs ys = subst₂ (λ a b. a ∼ b) (λ i. flat_map (λ x. sym (flat_map-filter_once (λ y. t x y) (λ y. f x y) ys) i) xs)
      (λ i. flat_map (λ y. sym (flat_map-filter_once (λ x. t x y) (λ x. f x y) xs) i) ys) (∼_inside_out (λ x y. cond (t x y) (f x y) []) xs ys)

  pub sum_by-exchanged : (f : X → Y → ℕ) (xs : List X) (ys : List Y) → sum_by (λ x. sum_by (λ y. f x y) (filter_once (λ y. t x y) ys)) xs ≡ sum_by
      (λ y. sum_by (λ x. f x y) (filter_once (λ x. t x y) xs)) ys
  sum_by-exchanged f xs ys = (λ i. sum_by (λ x. sym (sum_of_those (λ y. t x y) (λ y. f x y) ys) i) xs)
      ∙ sums_exchanged (λ x y. cond (t x y) (f x y) 0) xs ys ∙ (λ i. sum_by (λ y. sum_of_those (λ x. t x y) (λ x. f x y) xs i) ys)

-- ---- a sum over each name's member, and over each member's name

module _ {B : Type 0} (f : B → ℕ) where
  sum_of_found : (o : Option B) → sum_by f (option_to_list o) ≡ sum_by f (flat_map (λ y. y ∷ []) (option_to_list o))
  sum_of_found None = refl
  sum_of_found (Some y) = refl

  sum_of_one : (b : Bool) (y : B) → sum_by f (cond b (y ∷ []) []) ≡ cond b (f y) 0
  sum_of_one true y = sum_by-cons f y [] ∙ omega arith
  sum_of_one false y = refl

  sum_at_lookup : (n : Name) (ms : List (Name × B)) → Distinct ms → sum_by f (option_to_list (lookup_name n ms)) ≡ sum_by (λ m. cond (bytes_eq n m.0) (f m.1) 0) ms
  sum_at_lookup n ms d = sum_of_found (lookup_name n ms) ∙ ap (sum_by f) (at_lookup (λ y. y ∷ []) n ms d)
      ∙ sum_by-flat_map (λ m. cond (bytes_eq n m.0) (m.1 ∷ []) []) f ms ∙ (λ i. sum_by (λ m. sum_of_one (bytes_eq n m.0) m.1 i) ms)

module _ {A B : Type 0} (f : A → B → ℕ) where
  pub sum_by-other_side : (es : List (Name × A)) (ms : List (Name × B)) → Distinct es → Distinct ms →
      sum_by (λ e. sum_by (λ y. f e.1 y) (option_to_list (lookup_name e.0 ms))) es ≡ sum_by (λ m. sum_by (λ x. f x m.1) (option_to_list (lookup_name m.0 es))) ms
  sum_by-other_side es ms d c = (λ i. sum_by (λ e. sum_at_lookup (λ y. f e.1 y) e.0 ms c i) es)
      ∙ sums_exchanged (λ e m. cond (bytes_eq e.0 m.0) (f e.1 m.1) 0) es ms
      ∙ (λ i. sum_by (λ m. sum_by (λ e. cond (bytes_eq-sym e.0 m.0 i) (f e.1 m.1) 0) es) ms)
      ∙ (λ i. sum_by (λ m. sym (sum_at_lookup (λ x. f x m.1) m.0 es d) i) ms)

-- ---- walks over what is there, or over nothing

module _ {X Y : Type 0} (h : X → Y) where
  pub all_there : (g : Y → Bool) (f : Option X → Bool) → true ≡ f None → ((x : X) → g (h x) ≡ f (Some x)) → (o : Option X) → list_all g (map h (option_to_list o)) ≡ f o
  all_there g f none some None = none
  all_there g f none some (Some x) = and-true _ ∙ some x

  pub sum_there : (g : Y → ℕ) (f : Option X → ℕ) → 0 ≡ f None → ((x : X) → g (h x) ≡ f (Some x)) → (o : Option X) → sum_by g (map h (option_to_list o)) ≡ f o
  sum_there g f none some None = none
  sum_there g f none some (Some x) = let one = sum_by-cons g (h x) [] in let same = some x in omega (arith, one, same)

  pub find_there : (g : Y → List Fault) (f : Option X → List Fault) → [] ≡ f None → ((x : X) → g (h x) ≡ f (Some x)) → (o : Option X) → flat_map g (map h (option_to_list o)) ≡ f o
  find_there g f none some None = none
  find_there g f none some (Some x) = append-nil _ ∙ some x

-- ---- what an asked subschema answers about its value

abbrev pub accepts_it : Asked → Bool
accepts_it a = a.sub.answer.accepts a.value

abbrev pub asks_it : Asked → ℕ
asks_it a = a.sub.answer.asks a.value

abbrev pub finds_it : Path → Path → Asked → List Fault
finds_it P Q a = a.sub.answer.report a.value (down P a.in_schema) (down Q a.in_instance)

abbrev pub shows_it : Path → Path → Asked → Tree
shows_it P Q a = a.sub.answer.tree a.value (down P a.in_schema) (down Q a.in_instance)

-- ---- walks

pub sum_by-map : {X Y : Type 0} (f : X → ℕ) (h : Y → X) (ys : List Y) → sum_by f (map h ys) ≡ sum_by (λ y. f (h y)) ys
sum_by-map f h [] = refl
sum_by-map f h (y ∷ ys) = sum_by-cons f (h y) (map h ys) ∙ ap (λ n. f (h y) + n) (sum_by-map f h ys) ∙ sym (sum_by-cons _ y ys)

module _ {X Y : Type 0} (h : Y → X) where
  pub list_any_under : (p : X → Bool) (ys : List Y) → list_any p (map h ys) ≡ list_any (λ y. p (h y)) ys
  list_any_under p [] = refl
  list_any_under p (y ∷ ys) = ap (λ b. p (h y) || b) (list_any_under p ys)

  numbered_from : (n : ℕ) (ys : List Y) → map {B = Name × X} (λ e. (decimal e.0, e.1)) (enumerate_from n (map h ys)) ≡ map {A = Name × Y} {B = Name × X}
      (λ e. (e.0, h e.1)) (map {B = Name × Y} (λ e. (decimal e.0, e.1)) (enumerate_from n ys))
  numbered_from n [] = refl
  numbered_from n (y ∷ ys) = ap (λ l. (decimal n, h y) ∷ l) (numbered_from (n + 1) ys)

  -- values that are numbered, and a function of them
  pub numbered-map : (ys : List Y) → numbered (map h ys) ≡ map {B = Name × X} (λ e. (e.0, h e.1)) (numbered ys)
  numbered-map ys = numbered_from 0 ys

module _ {X Y : Type 0} (g : X → List Y) where
  pub total_cost-flat_map : (f : Y → Cost) (xs : List X) → total_cost f (flat_map g xs) ≡ total_cost (λ x. total_cost f (g x)) xs
  total_cost-flat_map f [] = refl
  total_cost-flat_map f (x ∷ xs) = total_cost-append f (g x) (flat_map g xs) ∙ ap (λ c. total_cost f (g x) ⊕ c) (total_cost-flat_map f xs)

  module _ {Z : Type 0} where
    pub flat_map-flat_map : (f : Y → List Z) (xs : List X) → flat_map f (flat_map g xs) ≡ flat_map (λ x. flat_map f (g x)) xs
    flat_map-flat_map f [] = refl
    flat_map-flat_map f (x ∷ xs) = flat_map-append f (g x) (flat_map g xs) ∙ ap (λ l. flat_map f (g x) ++ l) (flat_map-flat_map f xs)

    pub map-flat_map : (f : Y → Z) (xs : List X) → map f (flat_map g xs) ≡ flat_map (λ x. map f (g x)) xs
    map-flat_map f [] = refl
    map-flat_map f (x ∷ xs) = map-append f (g x) (flat_map g xs) ∙ ap (λ l. map f (g x) ++ l) (map-flat_map f xs)

values_from : {X : Type 0} (n : ℕ) (xs : List X) → xs ≡ map {A = Name × X} (λ e. e.1) (map {B = Name × X} (λ e. (decimal e.0, e.1)) (enumerate_from n xs))
values_from n [] = refl
values_from n (x ∷ xs) = ap (λ l. x ∷ l) (values_from (n + 1) xs)

-- what is numbered
pub numbered_values : {X : Type 0} (xs : List X) → xs ≡ map {A = Name × X} (λ e. e.1) (numbered xs)
numbered_values xs = values_from 0 xs

-- branches, and the items of an array, under their positions
pub branch_entries : {X : Type 0} (step : Schema X → X) (d : Data) → branches (read step d) ≡ map (entry step) (numbered (items_of_array d))
branch_entries step d = branches_read step d ∙ numbered-map (place step) _

pub item_entries : {X : Type 0} (step : Schema X → X) (d : Data) → (read step d).items ≡ map {A = Name × Data} (λ e. place step e.1) (numbered (items_of_array d))
item_entries step d = items_read step d ∙ ap (map (place step)) (numbered_values _) ∙ map-map (place step) _ (λ e. e.1) (λ e. refl) _

-- what a look-up finds among entries
module _ {X : Type 0} (step : Schema X → X) where
  pub at_entries : (t : Name) (es : Rows) → option_to_list (lookup_name t (map (entry step) es)) ≡ map (place step) (option_to_list (lookup_name t es))
  at_entries t [] = refl
  at_entries t (e ∷ es) = by _ (at_entries t es)
    where
      by : (o : Ordering) → option_to_list (lookup_name t (map (entry step) es)) ≡ map (place step) (option_to_list (lookup_name t es))
          → option_to_list (first_if_equal o (place step e.1) (lookup_name t (map (entry step) es))) ≡ map (place step) (option_to_list (first_if_equal o e.1 (lookup_name t es)))
      by Less h = h
      by Equal h = refl
      by Greater h = h

pub nothing_first : (n : ℕ) → 0 + n ≡ n
nothing_first n = omega arith

pub nothing_last : (n : ℕ) → n + 0 ≡ n
nothing_last n = omega arith

-- ---- the places that a keyword reads

module _ {W : World} (I : Steps W) (k : Name) where
  pub each_malformations : (P : Path) (es : Rows) → flat_map (λ r. r.0.answer (down P r.1)) (each k (map (entry I.refuses) es)) ≡ flat_map
      (λ e. malformations_at I e.1 (P // k // e.0)) es
  unfolding malformations_at
  each_malformations P [] = refl
  each_malformations P (e ∷ es) = ap (λ l. malformations_at I e.1 (P // k // e.0) ++ l) (each_malformations P es)

  pub each_costs : (es : Rows) → total_cost (λ r. r.0.answer) (each k (map (entry I.costs) es)) ≡ total_cost (λ e. cost I e.1) es
  unfolding cost
  each_costs [] = refl
  each_costs (e ∷ es) = ap (λ c. cost I e.1 ⊕ c) (each_costs es)

-- ---- what a keyword asks of subschemas, list by list

module _ {X Z : Type 0} (a : X → Z → Asked) (ws : X → List Z) where
  abbrev pub asked_each : List X → List Asked
  asked_each es = flat_map (λ e. map (a e) (ws e)) es

  pub each_accepts : (es : List X) → list_all accepts_it (asked_each es) ≡ list_all (λ e. list_all (λ z. accepts_it (a e z)) (ws e)) es
  each_accepts es = list_all-flat_map accepts_it _ es ∙ (λ i. list_all (λ e. list_all-map accepts_it (a e) (ws e) i) es)

  pub each_asks : (es : List X) → sum_by asks_it (asked_each es) ≡ sum_by (λ e. sum_by (λ z. asks_it (a e z)) (ws e)) es
  each_asks es = sum_by-flat_map _ asks_it es ∙ (λ i. sum_by (λ e. sum_by-map asks_it (a e) (ws e) i) es)

  module _ (P Q : Path) where
    pub each_finds : (es : List X) → flat_map (finds_it P Q) (asked_each es) ≡ flat_map (λ e. flat_map (λ z. finds_it P Q (a e z)) (ws e)) es
    each_finds es = flat_map-flat_map _ (finds_it P Q) es ∙ (λ i. flat_map (λ e. flat_map-map (finds_it P Q) _ (a e) (λ z. refl) (ws e) i) es)

    pub each_shows : (es : List X) → map (shows_it P Q) (asked_each es) ≡ flat_map (λ e. map (λ z. shows_it P Q (a e z)) (ws e)) es
    each_shows es = map-flat_map _ (shows_it P Q) es ∙ (λ i. flat_map (λ e. map-map (shows_it P Q) _ (a e) (λ z. refl) (ws e) i) es)

module _ {W : World} (I : Steps W) (ms : Members) where
  -- ---- properties

  module _ (d : Data) (u : Bool) (v : Data) where
    abbrev declared_asks : Name × Data → Data → Asked
    declared_asks e x = asked (place (I.means u) e.1) x (codes "properties" ∷ e.0 ∷ []) (e.0 ∷ [])

    asked_declared : applied W u (read_members (I.means u) ms) (codes "properties") (read (I.means u) d) v properties ≡ asked_each declared_asks (λ e. at e.0 v) (members d)
    asked_declared = ap (flat_map _) (entries_read (I.means u) d) ∙ flat_map-map _ _ (entry (I.means u)) (λ e. refl) (members d)

    pub declared_accept : member_accepts I ms (codes "properties", d) properties u v ≡ list_all (λ e. list_all (accepts I u e.1) (at e.0 v)) (members d)
    unfolding meaning
    declared_accept = and-true _ ∙ ap (list_all accepts_it) asked_declared ∙ each_accepts _ _ (members d)

    pub declared_ask : member_asks I ms (codes "properties", d) properties u v ≡ sum_by (λ e. sum_by (asks I u e.1) (at e.0 v)) (members d)
    unfolding meaning
    declared_ask = nothing_last _ ∙ ap (sum_by asks_it) asked_declared ∙ each_asks _ _ (members d)

    pub declared_find : (P Q : Path) → member_report I ms (codes "properties", d) properties u v P Q ≡ flat_map
        (λ e. flat_map (λ x. report I u e.1 x (P // codes "properties" // e.0) (Q // e.0)) (at e.0 v)) (members d)
    unfolding meaning
    declared_find P Q = append-nil _ ∙ ap (flat_map (finds_it P Q)) asked_declared ∙ each_finds _ _ P Q (members d)

  -- ---- required

  module _ (d : Data) where
    pub required_malformations : (P : Path) → member_malformations I ms (codes "required", d) required P ≡ unless_array d (P // codes "required") ++ not_a_text d (P // codes "required")
    required_malformations P = append-nil _ ∙ ap (λ s. unless_array s (P // codes "required") ++ not_a_text s (P // codes "required")) (schema_of_read I.refuses d)

    module _ (u : Bool) (v : Data) where
      pub required_accepts : member_accepts I ms (codes "required", d) required u v ≡ is_empty (missing (texts d) v)
      required_accepts = ap (λ s. is_empty (missing (texts s) v)) (schema_of_read (I.means u) d)

      pub required_asks : member_asks I ms (codes "required", d) required u v ≡ 0
      required_asks = nothing_first 0

      pub required_report : (P Q : Path) → member_report I ms (codes "required", d) required u v P Q ≡ required_faults (texts d) v (P // codes "required") Q
      required_report P Q = ap (λ s. required_faults (texts s) v (P // codes "required") Q) (schema_of_read (I.means u) d)

  -- ---- values of the wrong kind

  module _ (P : Path) where
    pub properties_kind : (d : Data) → is_object d ≡ false → member_malformations I ms (codes "properties", d) properties P ≡ fault (SingleType object_type) d [] (P // codes "properties") ∷ []
    properties_kind (object fs) e = absurd (true≢false e)
    properties_kind _ e = refl

-- ---- what is no object means what it does for the layer, and no matcher is asked about a name

module _ {W : World} (I : Steps W) (u : Bool) where
  pub accepts_no_object : (d v : Data) → is_object d ≡ false → accepts I u d v ≡ (answer_for (meaning_step W u) d).accepts v
  unfolding meaning
  accepts_no_object d v e = ap (λ m. m.accepts v) (I.of_no_object u d e)

  pub asks_no_object : (d v : Data) → is_object d ≡ false → asks I u d v ≡ (answer_for (meaning_step W u) d).asks v
  unfolding meaning
  asks_no_object d v e = ap (λ m. m.asks v) (I.of_no_object u d e)

  pub names_ask_nothing : (d : Data) (es : Rows) → sum_by (λ m. asks I u d (string m.0)) es ≡ 0
  unfolding meaning
  names_ask_nothing d es = nothing_summed _ es (Each-any _ (λ m. I.of_a_name u d m.0) es)

-- ---- what an object means, member by member

module _ (W : World) (ms : Members) where
  pub object_accepts : (u : Bool) (v : Data) → accepts (layer_steps W) u (object ms) v ≡ list_all (λ m. member_accepts (layer_steps W) ms m (keyword_named W m.0) u v) (listed ms)
  unfolding meaning
  object_accepts u v = ap (list_all (λ m. keyword_accepts W u (read_members (meaning_step W u) ms) m.0 m.1 v (keyword_named W m.0))) (members_read (meaning_step W u) ms) ∙ list_all-map _ _ (listed ms)

  pub object_asks : (u : Bool) (v : Data) → asks (layer_steps W) u (object ms) v ≡ sum_by (λ m. member_asks (layer_steps W) ms m (keyword_named W m.0) u v) (listed ms)
  unfolding meaning
  object_asks u v = ap (sum_by (λ m. keyword_asks W u (read_members (meaning_step W u) ms) m.0 m.1 v (keyword_named W m.0))) (members_read (meaning_step W u) ms) ∙ sum_by-map _ _ (listed ms)

  pub object_report : (u : Bool) (v : Data) (P Q : Path) → report (layer_steps W) u (object ms) v P Q ≡ flat_map (λ m. member_report (layer_steps W) ms m (keyword_named W m.0) u v P Q) (listed ms)
  unfolding meaning
  object_report u v P Q =
      ap (flat_map (λ m. keyword_report W u (read_members (meaning_step W u) ms) m.0 m.1 v P Q (keyword_named W m.0))) (members_read (meaning_step W u) ms) ∙ flat_map-map _ _ _ (λ m. refl) (listed ms)

  pub object_tree : (u : Bool) (v : Data) (P Q : Path) → tree (layer_steps W) u (object ms) v P Q ≡ plain P Q (flat_map (λ m. member_child (layer_steps W) ms m (keyword_named W m.0) u v P Q) (listed ms))
  unfolding meaning
  object_tree u v P Q =
      ap (λ ps. plain P Q (flat_map (λ m. keyword_child W u (read_members (meaning_step W u) ms) v P Q m.0 m.1 (keyword_named W m.0)) ps)) (members_read (meaning_step W u) ms)
      ∙ ap (plain P Q) (flat_map-map _ _ _ (λ m. refl) (listed ms))

  pub object_malformed : (P : Path) → malformations_at (layer_steps W) (object ms) P ≡ flat_map (λ m. member_malformations (layer_steps W) ms m (keyword_named W m.0) P) (listed ms)
  unfolding malformations_at
  object_malformed P =
      ap (flat_map (λ m. keyword_malformations W (read_members (malformations_step W) ms) m.0 m.1 P (keyword_named W m.0))) (members_read (malformations_step W) ms)
      ∙ flat_map-map _ _ _ (λ m. refl) (listed ms)

  pub object_cost : cost (layer_steps W) (object ms) ≡ one_place ⊕ total_cost (λ m. member_cost (layer_steps W) ms m (keyword_named W m.0)) (listed ms)
  unfolding cost
  object_cost = ap (λ c. one_place ⊕ c) (ap (total_cost _) (members_read (cost_step W) ms) ∙ total_cost-map _ _ _ (λ m. refl) (listed ms))

-- ---- what is no schema, and the two truth values

abbrev pub IsNoSchema : Data → Type 0
IsNoSchema (boolean b) = ⊥
IsNoSchema (object ms) = ⊥
IsNoSchema _ = ⊤

abbrev pub is_no_schema : Data → Bool
is_no_schema (boolean b) = false
is_no_schema (object ms) = false
is_no_schema _ = true

pub no_schema_is : (d : Data) → is_no_schema d ≡ true → IsNoSchema d
no_schema_is (boolean b) e = absurd (let n : false ≡ true = e in cc)
no_schema_is (object ms) e = absurd (let n : false ≡ true = e in cc)
no_schema_is _ e = tt

pub no_schema_malformed : (W : World) (d : Data) (P : Path) → IsNoSchema d → malformations_at (layer_steps W) d P ≡ fault MultipleTypes d [] P ∷ []
unfolding malformations_at
no_schema_malformed W (boolean b) P h = absurd h
no_schema_malformed W (object ms) P h = absurd h
no_schema_malformed W _ P h = refl

pub no_schema_cost : (W : World) (d : Data) → IsNoSchema d → cost (layer_steps W) d ≡ one_place
unfolding cost
no_schema_cost W (boolean b) h = absurd h
no_schema_cost W (object ms) h = absurd h
no_schema_cost W _ h = refl

-- ---- keywords that ask some entries of the whole value, and nothing else

module _ {W : World} (I : Steps W) (ms : Members) (m : Name × Data) (w : Keyword) {X : Type 0} (schema : X → Data) (under : X → List Name) (es : Data → List X) where
  module _ (u : Bool) (v : Data) where
    -- the keywords of the object, and the value of this one
    abbrev beside : Keywords Meaning
    beside = read_members (I.means u) ms

    abbrev here : Part Meaning
    here = read (I.means u) m.1

    abbrev asked_entry : X → Asked
    asked_entry e = asked (place (I.means u) (schema e)) v (m.0 ∷ under e) []

    -- it asks these entries, and nothing beside them
    pub record AsksOnly : Type 0 where
      pub asked : applied W u beside m.0 here v w ≡ map asked_entry (es v)
      pub wants : wanted W u beside m.0 here v w ≡ true
      pub asks : own_asks W u beside m.0 here v w ≡ 0
      pub finds : (P Q : Path) → own W u beside m.0 here v P Q w ≡ []
      pub shows : (P Q : Path) → keyword_child W u beside v P Q m.0 here w ≡ plain (P // m.0) Q (asked_trees W u beside v P Q m.0 here w) ∷ []

  pub told_by_entries : ((u : Bool) (v : Data) → AsksOnly u v) → IsKeywordTold I ms m w (entries_told (placed_answers I schema under) es)
  unfolding meaning
  told_by_entries h = record {
    verdict = λ u v. (λ i. list_all accepts_it ((h u v).asked i) && (h u v).wants i) ∙ and-true _ ∙ list_all-map accepts_it (asked_entry u v) (es v);
    asked = λ free u v. (λ i. sum_by asks_it ((h u v).asked i) + (h u v).asks i) ∙ nothing_last _ ∙ sum_by-map asks_it (asked_entry u v) (es v);
    faults = λ u v P Q. ∼_same (sym ((λ i. flat_map (finds_it P Q) ((h u v).asked i) ++ (h u v).finds P Q i) ∙ append-nil _
        ∙ flat_map-map (finds_it P Q) _ (asked_entry u v) (λ e. refl) (es v)));
    shown = λ u alone v P Q. (h u v).shows P Q
        ∙ ap (λ ts. plain (P // m.0) Q ts ∷ []) (ap (map (shows_it P Q)) (h u v).asked ∙ map-map (shows_it P Q) _ (asked_entry u v) (λ e. refl) (es v));
  }

-- entries that are asked under their names
pub asked_entries : (step : Schema Meaning → Meaning) (k : Name) (v : Data) {es : List (Name × Subschema)} (rows : Rows) → es ≡ map (entry step) rows → asked_whole k v es ≡ map
    (λ e. asked (place step e.1) v (k ∷ e.0 ∷ []) []) rows
asked_entries step k v rows e = ap (asked_whole k v) e ∙ map-map _ _ (entry step) (λ e. refl) rows
