-- The members that the layer reads, among all members of a schema object.
use Rattle.std.proofs.Common.{◌≡◌, ℕ, ◌+◌, Bool, true, false, ◌&&◌, ◌||◌, if◌then◌else◌, List, [], ◌∷◌, ◌++◌, Option, codes, bytes_eq, sum_by, refl, sym, ◌∙◌, ap, true≢false, arith, nat_cmp, is_eq, Ordering, Less, Equal, Greater}
use Rattle.std.specs.List.{flat_map, list_all}
use Rattle.std.specs.Cmp.Lexicographic.{slice_cmp}
use Rattle.std.proofs.lemmas.List.Sums.{sum_by-cons}
use Rattle.std.proofs.lemmas.Map.Text.{is_eq-slice_cmp}
use Rattle.serde_json.specs.Data.{Data, Members, no_members, member}
use Rattle.olk_spec.specs.Names.{Name, lookup_name, first_if_equal, put_if}
use Rattle.olk_spec.specs.World.{World}
use Rattle.olk_spec.specs.Costs.{Cost, total_cost, no_cost, ◌⊕◌}
use Rattle.olk_spec.specs.Schemas.{Schema, Part, read, read_members, listed}
use Rattle.olk_spec.proofs.CostSums.{sum_first}
use Rattle.olk_spec.specs.Vocabulary.{Keyword, unsupported, unread, keyword_named}
use Rattle.olk_spec.proofs.Walks.{same_name}
use Rattle.olk_document_spec.specs.Keywords.{is_other, is_other_keyword, prefix_items, items, contains, reference, bound, other, beneath}
use Rattle.olk_document_meaning.specs.Layers.{others, put_member, layer_members}
use Rattle.olk_meaning.proofs.Claims.{apart_by}

nothing_before : (n : ℕ) → 0 + n ≡ n
nothing_before n = omega arith

module _ {X : Type 0} where
  passed : (x : X) (rest : Option X) (o : Ordering) → is_eq o ≡ false → first_if_equal o x rest ≡ rest
  passed x rest Less e = refl
  passed x rest Greater e = refl
  passed x rest Equal e = absurd (true≢false e)

  -- what stands at a name of the layer stands there among these too
  pub found_among_others : (k : Name) → is_other k ≡ true → (ms : List (Name × X)) → lookup_name k (others ms) ≡ lookup_name k ms
  found_among_others k e [] = refl
  found_among_others k e (m ∷ ms) = by (is_other m.0) refl (found_among_others k e ms)
    where
      by : (b : Bool) → is_other m.0 ≡ b → lookup_name k (others ms) ≡ lookup_name k ms → lookup_name k (put_if b m (others ms)) ≡ lookup_name k (m ∷ ms)
      by true q h = ap (first_if_equal (slice_cmp nat_cmp k m.0) m.1) h
      by false q h = h ∙ sym (passed m.1 (lookup_name k ms) (slice_cmp nat_cmp k m.0) (is_eq-slice_cmp k m.0 ∙ apart_by is_other k m.0 e q))

  -- where each other member gives nothing, all of them give what these do
  module _ {Y : Type 0} where
    pub flat_map-others : (f g : Name × X → List Y) → ((m : Name × X) → is_other m.0 ≡ true → f m ≡ g m) → ((m : Name × X) → is_other m.0 ≡ false → f m ≡ [])
        → (ms : List (Name × X)) → flat_map f ms ≡ flat_map g (others ms)
    flat_map-others f g same none [] = refl
    flat_map-others f g same none (m ∷ ms) = by (is_other m.0) refl (flat_map-others f g same none ms)
      where
        by : (b : Bool) → is_other m.0 ≡ b → flat_map f ms ≡ flat_map g (others ms) → f m ++ flat_map f ms ≡ flat_map g (put_if b m (others ms))
        by true q h = λ i. same m q i ++ h i
        by false q h = λ i. none m q i ++ h i

  pub list_all-others : (f g : Name × X → Bool) → ((m : Name × X) → is_other m.0 ≡ true → f m ≡ g m) → ((m : Name × X) → is_other m.0 ≡ false → f m ≡ true)
      → (ms : List (Name × X)) → list_all f ms ≡ list_all g (others ms)
  list_all-others f g same none [] = refl
  list_all-others f g same none (m ∷ ms) = by (is_other m.0) refl (list_all-others f g same none ms)
    where
      by : (b : Bool) → is_other m.0 ≡ b → list_all f ms ≡ list_all g (others ms) → (f m && list_all f ms) ≡ list_all g (put_if b m (others ms))
      by true q h = λ i. same m q i && h i
      by false q h = λ i. none m q i && h i

  pub sum_by-others : (f g : Name × X → ℕ) → ((m : Name × X) → is_other m.0 ≡ true → f m ≡ g m) → ((m : Name × X) → is_other m.0 ≡ false → f m ≡ 0)
      → (ms : List (Name × X)) → sum_by f ms ≡ sum_by g (others ms)
  sum_by-others f g same none [] = refl
  sum_by-others f g same none (m ∷ ms) = sum_by-cons f m ms ∙ by (is_other m.0) refl (sum_by-others f g same none ms)
    where
      by : (b : Bool) → is_other m.0 ≡ b → sum_by f ms ≡ sum_by g (others ms) → f m + sum_by f ms ≡ sum_by g (put_if b m (others ms))
      by true q h = (λ i. same m q i + h i) ∙ sym (sum_by-cons g m (others ms))
      by false q h = (λ i. none m q i + h i) ∙ nothing_before _

  pub total_cost-others : (f g : Name × X → Cost) → ((m : Name × X) → is_other m.0 ≡ true → f m ≡ g m) → ((m : Name × X) → is_other m.0 ≡ false → f m ≡ no_cost)
      → (ms : List (Name × X)) → total_cost f ms ≡ total_cost g (others ms)
  total_cost-others f g same none [] = refl
  total_cost-others f g same none (m ∷ ms) = by (is_other m.0) refl (total_cost-others f g same none ms)
    where
      by : (b : Bool) → is_other m.0 ≡ b → total_cost f ms ≡ total_cost g (others ms) → f m ⊕ total_cost f ms ≡ total_cost g (put_if b m (others ms))
      by true q h = λ i. same m q i ⊕ h i
      by false q h = (λ i. none m q i ⊕ h i) ∙ sum_first _

-- ---- the object without the others

pub others_listed : (ms : Members) → listed (layer_members ms) ≡ others (listed ms)
others_listed no_members = refl
others_listed (member n d ms) = by (is_other n) (others_listed ms)
  where
    by : (b : Bool) → listed (layer_members ms) ≡ others (listed ms) → listed (put_member b n d (layer_members ms)) ≡ put_if b (n, d) (others (listed ms))
    by true h = ap (λ l. (n, d) ∷ l) h
    by false h = h

module _ {X : Type 0} (step : Schema X → X) where
  pub others_read : (ms : Members) → read_members step (layer_members ms) ≡ others (read_members step ms)
  others_read no_members = refl
  others_read (member n d ms) = by (is_other n) (others_read ms)
    where
      by : (b : Bool) → read_members step (layer_members ms) ≡ others (read_members step ms)
          → read_members step (put_member b n d (layer_members ms)) ≡ put_if b (n, read step d) (others (read_members step ms))
      by true h = ap (λ l. (n, read step d) ∷ l) h
      by false h = h

-- ---- which keywords the members are for the layer

-- such a keyword asks, tells and costs nothing
abbrev pub is_idle : Keyword → Bool
is_idle unsupported = true
is_idle unread = true
is_idle w = false

module _ (W : World) where
  pub named_alike : (n : Name) → is_other n ≡ true → keyword_named (beneath W) n ≡ keyword_named W n
  named_alike n e = rw e refl

  -- one of a document
  pub own_is_idle : (n : Name) → is_other n ≡ false → is_idle (keyword_named (beneath W) n) ≡ true
  own_is_idle n = by _ _ _ _ _ _ refl refl refl refl refl refl
    where
      named : (k : Name) → bytes_eq n k ≡ true → is_idle (keyword_named (beneath W) k) ≡ true → is_idle (keyword_named (beneath W) n) ≡ true
      named k q h = rw (same_name n k q) h

      by : (a b c d e f : Bool) → bytes_eq n (codes "prefixItems") ≡ a → bytes_eq n (codes "items") ≡ b → bytes_eq n (codes "contains") ≡ c → bytes_eq n (codes "$ref") ≡ d
          → bytes_eq n (codes "minContains") ≡ e → bytes_eq n (codes "maxContains") ≡ f
          → is_other_keyword (if a then prefix_items else if b then items else if c then contains else if d then reference else if e || f then bound else other) ≡ false
          → is_idle (keyword_named (beneath W) n) ≡ true
      by true b c d e f p q r s t x h = named _ p refl
      by false true c d e f p q r s t x h = named _ q refl
      by false false true d e f p q r s t x h = named _ r refl
      by false false false true e f p q r s t x h = named _ s refl
      by false false false false true f p q r s t x h = named _ t refl
      by false false false false false true p q r s t x h = named _ x refl
      by false false false false false false p q r s t x h = absurd (true≢false h)
