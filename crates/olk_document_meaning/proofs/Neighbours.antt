-- What a keyword of the layer answers in a schema object is what it answers there without the keywords of a document.
use Rattle.std.proofs.Common.{◌≡◌, ℕ, Bool, true, false, cond, not, ◌&&◌, ◌||◌, codes, List, [], ◌++◌, map, length, Option, Some, None, is_some, option_to_list, refl, ap}
use Rattle.std.specs.Prelude.{nat_lt}
use Rattle.std.specs.List.{flat_map}
use Rattle.serde_json.specs.Data.{Data}
use Rattle.olk_spec.specs.Names.{Name, Path, ◌//◌, lookup_name, filter_once, put_if, is_among, is_empty}
use Rattle.olk_spec.specs.World.{World}
use Rattle.olk_spec.specs.Faults.{Fault}
use Rattle.olk_spec.specs.Tree.{Tree, result, erring}
use Rattle.olk_spec.specs.declared.TheConstants.{HASHMAP_THRESHOLD}
use Rattle.olk_spec.specs.Costs.{Cost, keyword_cost}
use Rattle.olk_spec.specs.Schemas.{Keywords, Part, names, members, is_object, entries_at, names_at}
use Rattle.olk_spec.specs.Meanings.{Meaning, restricts, is_declared}
use Rattle.olk_spec.specs.Accepts.{keyword_accepts, missing}
use Rattle.olk_spec.specs.Asks.{keyword_asks}
use Rattle.olk_spec.specs.Reports.{keyword_report, required_faults}
use Rattle.olk_spec.specs.Trees.{keyword_child, are_two, where_so, declares, has_patterns, fuses_two, declared_trees, missing_child}
use Rattle.olk_spec.specs.Malformed.{keyword_malformations}
use Rattle.olk_spec.specs.Vocabulary.{Keyword, properties, pattern_properties, additional_properties, required, if_keyword, then_keyword, else_keyword}
use Rattle.olk_meaning.specs.Chosen.{Standing, keyword_standing}
use Rattle.olk_document_spec.specs.Keywords.{is_other}

-- what stands at the names of the layer is the same in both
abbrev pub Alike : {X : Type 0} → Keywords X → Keywords X → Type 0
Alike S Z = (k : Name) → is_other k ≡ true → lookup_name k Z ≡ lookup_name k S

module _ {X : Type 0} (S Z : Keywords X) (h : Alike S Z) where
  restricts_beside : restricts Z ≡ restricts S
  restricts_beside = rw (h (codes "additionalProperties") refl) refl

  patterns_beside : has_patterns Z ≡ has_patterns S
  patterns_beside = ap is_some (h (codes "patternProperties") refl)

  declares_beside : declares Z ≡ declares S
  declares_beside = ap is_some (h (codes "properties") refl)

  entries_beside : (k : Name) → is_other k ≡ true → entries_at Z k ≡ entries_at S k
  entries_beside k e = ap (λ o. flat_map (λ p. p.entries) (option_to_list o)) (h k e)

  names_beside : (k : Name) → is_other k ≡ true → names_at Z k ≡ names_at S k
  names_beside k e = ap (λ o. flat_map names (option_to_list o)) (h k e)

  two_beside : fuses_two Z ≡ fuses_two S
  two_beside = λ i. declares_beside i && not (restricts_beside i) && not (patterns_beside i) && nat_lt (length (entries_beside (codes "properties") refl i)) HASHMAP_THRESHOLD && are_two (names_beside (codes "required") refl i)

module _ (W : World) (u : Bool) (S Z : Keywords Meaning) (h : Alike S Z) (k : Name) (p : Part Meaning) (v : Data) where
  pub accepts_beside : (w : Keyword) → keyword_accepts W u Z k p v w ≡ keyword_accepts W u S k p v w
  accepts_beside additional_properties = rw (h (codes "properties") refl) rw (h (codes "patternProperties") refl) refl
  accepts_beside then_keyword = rw (h (codes "if") refl) refl
  accepts_beside else_keyword = rw (h (codes "if") refl) refl
  accepts_beside _ = refl

  pub asks_beside : (w : Keyword) → keyword_asks W u Z k p v w ≡ keyword_asks W u S k p v w
  asks_beside pattern_properties = rw (h (codes "properties") refl) rw (h (codes "additionalProperties") refl) refl
  asks_beside additional_properties = rw (h (codes "properties") refl) rw (h (codes "patternProperties") refl) refl
  asks_beside if_keyword = rw (h (codes "if") refl) rw (h (codes "then") refl) rw (h (codes "else") refl) refl
  asks_beside then_keyword = rw (h (codes "if") refl) refl
  asks_beside else_keyword = rw (h (codes "if") refl) refl
  asks_beside _ = refl

  pub report_beside : (P Q : Path) (w : Keyword) → keyword_report W u Z k p v P Q w ≡ keyword_report W u S k p v P Q w
  report_beside P Q additional_properties = rw (h (codes "properties") refl) rw (h (codes "patternProperties") refl) refl
  report_beside P Q then_keyword = rw (h (codes "if") refl) refl
  report_beside P Q else_keyword = rw (h (codes "if") refl) refl
  report_beside P Q _ = refl

  met : map (λ m. m.0) (filter_once (λ m. is_declared Z m.0) (members v)) ≡ map (λ m. m.0) (filter_once (λ m. is_declared S m.0) (members v))
  met = ap (λ es. map (λ m. m.0) (filter_once (λ m. is_among m.0 (map (λ e. e.0) es)) (members v))) (entries_beside S Z h (codes "properties") refl)

  shown : (P Q : Path) → flat_map (declared_trees W u Z v P Q) (members v) ≡ flat_map (declared_trees W u S v P Q) (members v)
  shown P Q = ap (λ es. flat_map (λ m. map (λ s. s.answer.tree m.1 (P // codes "properties" // m.0) (Q // m.0)) (option_to_list (lookup_name m.0 es))) (members v)) (entries_beside S Z h (codes "properties") refl)

  missing_child_beside : (P Q : Path) (b : Bool) → missing_child W u Z v P Q b ≡ missing_child W u S v P Q b
  missing_child_beside P Q b = ap (λ ns. where_so (b && not (is_empty (missing ns v))) (erring (P // codes "required") Q (required_faults ns v (P // codes "required") Q))) (names_beside S Z h (codes "required") refl)

  pub child_beside : (P Q : Path) (w : Keyword) → keyword_child W u Z v P Q k p w ≡ keyword_child W u S v P Q k p w
  child_beside P Q properties = λ i. put_if (not (restricts_beside S Z h i))
      (result (P // k) Q (cond (is_object v && true) (Some (met i)) None) false [] (shown P Q i ++ missing_child_beside P Q (two_beside S Z h i) i)) []
  child_beside P Q pattern_properties = rw (h (codes "additionalProperties") refl) refl
  child_beside P Q additional_properties = rw (h (codes "properties") refl) rw (h (codes "patternProperties") refl) rw (h (codes "additionalProperties") refl) rw (h (codes "required") refl) refl
  child_beside P Q required = rw (h (codes "properties") refl) rw (h (codes "patternProperties") refl) rw (h (codes "additionalProperties") refl) rw (h (codes "required") refl) refl
  child_beside P Q if_keyword = rw (h (codes "if") refl) rw (h (codes "then") refl) rw (h (codes "else") refl) refl
  child_beside P Q _ = refl

module _ (W : World) (S Z : Keywords (Path → List Fault)) (h : Alike S Z) (k : Name) (p : Part (Path → List Fault)) (P : Path) where
  pub malformations_beside : (w : Keyword) → keyword_malformations W Z k p P w ≡ keyword_malformations W S k p P w
  malformations_beside if_keyword = rw (h (codes "if") refl) rw (h (codes "then") refl) rw (h (codes "else") refl) refl
  malformations_beside then_keyword = rw (h (codes "if") refl) refl
  malformations_beside else_keyword = rw (h (codes "if") refl) refl
  malformations_beside _ = refl

module _ (W : World) (S Z : Keywords Cost) (h : Alike S Z) (k : Name) (p : Part Cost) where
  pub cost_beside : (w : Keyword) → keyword_cost W Z k p w ≡ keyword_cost W S k p w
  cost_beside pattern_properties = rw (h (codes "properties") refl) rw (h (codes "additionalProperties") refl) refl
  cost_beside if_keyword = rw (h (codes "if") refl) rw (h (codes "then") refl) rw (h (codes "else") refl) refl
  cost_beside then_keyword = rw (h (codes "if") refl) refl
  cost_beside else_keyword = rw (h (codes "if") refl) refl
  cost_beside _ = refl

module _ (S Z : Keywords Standing) (h : Alike S Z) (P : Path) (k : Name) (p : Part Standing) where
  pub standing_beside : (w : Keyword) → keyword_standing Z P k p w ≡ keyword_standing S P k p w
  standing_beside properties = rw (h (codes "properties") refl) rw (h (codes "patternProperties") refl) rw (h (codes "additionalProperties") refl) rw (h (codes "required") refl) refl
  standing_beside pattern_properties = rw (h (codes "additionalProperties") refl) refl
  standing_beside additional_properties = rw (h (codes "properties") refl) rw (h (codes "patternProperties") refl) rw (h (codes "additionalProperties") refl) rw (h (codes "required") refl) refl
  standing_beside required = rw (h (codes "properties") refl) rw (h (codes "patternProperties") refl) rw (h (codes "additionalProperties") refl) rw (h (codes "required") refl) refl
  standing_beside if_keyword = rw (h (codes "if") refl) rw (h (codes "then") refl) rw (h (codes "else") refl) refl
  standing_beside _ = refl
