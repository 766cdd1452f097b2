-- Looking up members, and which names are fused.
use Rattle.std.proofs.Common.{◌≡◌, List, [], ◌∷◌, Option, Some, None, option_map, option_copied, Bor, is_some, cond, String, Global, Ordering, Equal, string_bytes, refl, ap, ◌∙◌, sym, ◌⊎◌, inl, inr}
use Rattle.std.proofs.Common.{arith, nat_cmp, is_eq, ℕ, nat_lt, length, unwrap_or, ◌<◌, true, false, Bool, ◌&&◌, ◌||◌, codes, bytes_eq, is_none, true≢false}
use Rattle.std.specs.{Map.lookup as first_where, Cmp.Lexicographic.slice_cmp, BTreeMap.is_at}
use Rattle.serde_json.specs.Data.{Data, object, null, string, array, Items, no_items, item, Members}
use Rattle.serde_json.specs.View.{view, members_view, items_view}
use Rattle.serde_json.specs.declared.value.Value.{Value}
use Rattle.olk_spec.specs.Names.{Name, lookup_name, first_if_equal, is_among}
use Rattle.olk_spec.specs.Schemas.{listed, has}
use Rattle.serde_json.specs.Find.{as_object, as_array}
use Rattle.olk_spec.specs.declared.TheConstants.{HASHMAP_THRESHOLD}
use Rattle.olk_meaning.proofs.Listed.{listed_length, lookup_among, names_of}
use Rattle.olk_meaning.specs.Fused.{declares_few, two_names, one_name, allows_others, fused_pair, refuses_others, fused_one}
use Rattle.std.proofs.Math.Bool.{or-false}
use Rattle.olk_spec.proofs.Walks.{same_name, bytes_eq-itself}
use Rattle.olk_meaning.specs.Conditions.{is_condition, is_restricted}
use Rattle.olk_meaning.specs.Plans.{Planned, plan_of}
use Rattle.olk_meaning.proofs.Rows.{Rows}

-- ---- members by their names

found_or : (o : Ordering) (v : Value) (rest : Option Value) (d : Option Data) → option_map view rest ≡ d → option_map view (cond (is_eq o) (Some v) rest) ≡ first_if_equal o (view v) d
found_or Equal v rest d e = refl
found_or _ v rest d e = e

-- the first entry at a name is the member at it
pub view_lookup : (name : Name) (es : List (String Global × Value)) → option_map view
    (first_where (is_at (λ k. slice_cmp nat_cmp name (string_bytes k))) es) ≡ lookup_name name (listed (members_view es))
view_lookup name [] = refl
view_lookup name (e ∷ es) = found_or _ e.1 _ _ (view_lookup name es)

is_some-view : (o : Option Value) (d : Option Data) → option_map view o ≡ d → is_some o ≡ is_some d
is_some-view None d e = ap is_some e
is_some-view (Some v) d e = ap is_some e

pub has_lookup : (name : Name) (es : List (String Global × Value)) → is_some (first_where (is_at (λ k. slice_cmp nat_cmp name (string_bytes k))) es) ≡ has name (object (members_view es))
has_lookup name es = is_some-view _ _ (view_lookup name es)

copied : (o : Option (Bor Value)) → option_map (λ v. view v.now) o ≡ option_map view (option_copied o)
copied None = refl
copied (Some v) = refl

pub member_lookup : (o : Option (Bor Value)) (name : Name) (es : List (String Global × Value)) → option_copied o ≡ first_where (is_at (λ k. slice_cmp nat_cmp name (string_bytes k))) es
    → option_map (λ v. view v.now) o ≡ lookup_name name (listed (members_view es))
member_lookup o name es e = copied o ∙ ap (option_map view) e ∙ view_lookup name es

-- ---- how many

object_at : (d : Data) (ms : Members) → as_object d ≡ Some ms → d ≡ object ms
object_at (object fs) ms e = ap (λ o. object (unwrap_or o ms)) e
object_at _ ms e = absurd (true≢false (sym (ap is_some e)))

array_at : (d : Data) (ds : Items) → as_array d ≡ Some ds → d ≡ array ds
array_at (array is) ds e = ap (λ o. array (unwrap_or o ds)) e
array_at _ ds e = absurd (true≢false (sym (ap is_some e)))

module _ (o : Option (Bor Value)) (v : Bor Value) (is : o ≡ Some v) where
  pub few_declared : (es : List (String Global × Value)) (n : ℕ) → Some (members_view es) ≡ as_object (view v.now) → n ≡ length es
      → nat_lt n HASHMAP_THRESHOLD ≡ declares_few (option_map (λ x. view x.now) o)
  few_declared es n e l =
      ap (λ k. nat_lt k HASHMAP_THRESHOLD) (l ∙ sym (listed_length es)) ∙ ap (λ d. declares_few (Some d)) (sym (object_at (view v.now) (members_view es) (sym e)))
      ∙ ap (λ p. declares_few (option_map (λ x. view x.now) p)) (sym is)

  pub not_two_items : (vs : List Value) → Some (items_view vs) ≡ as_array (view v.now) → (length vs ≡ 2 → ⊥) → None ≡ two_names (option_map (λ x. view x.now) o)
  not_two_items vs e l = sym (by vs l) ∙ ap (λ d. two_names (Some d)) (sym (array_at (view v.now) (items_view vs) (sym e))) ∙ ap (λ p. two_names (option_map (λ x. view x.now) p)) (sym is)
    where
      one_item : (d : Data) → two_names (Some (array (item d no_items))) ≡ None
      one_item null = refl
      one_item _ = refl

      many_items : (c d e : Data) (ds : Items) → two_names (Some (array (item c (item d (item e ds))))) ≡ None
      many_items null d e ds = refl
      many_items (string s) null e ds = refl
      many_items _ _ e ds = refl

      by : (ws : List Value) → (length ws ≡ 2 → ⊥) → two_names (Some (array (items_view ws))) ≡ None
      by [] h = refl
      by (w ∷ []) h = one_item _
      by (w ∷ x ∷ []) h = absurd (h refl)
      by (w ∷ x ∷ y ∷ ws) h = many_items (view w) _ _ _

  pub not_one_item : (vs : List Value) → Some (items_view vs) ≡ as_array (view v.now) → (length vs ≡ 1 → ⊥) → None ≡ one_name (option_map (λ x. view x.now) o)
  not_one_item vs e l = sym (by vs l) ∙ ap (λ d. one_name (Some d)) (sym (array_at (view v.now) _ (sym e))) ∙ ap (λ p. one_name (option_map (λ x. view x.now) p)) (sym is)
    where
      two_items : (c d : Data) (ds : Items) → one_name (Some (array (item c (item d ds)))) ≡ None
      two_items null d ds = refl
      two_items _ d ds = refl

      by : (ws : List Value) → (length ws ≡ 1 → ⊥) → one_name (Some (array (items_view ws))) ≡ None
      by [] h = refl
      by (w ∷ []) h = absurd (h refl)
      by (w ∷ x ∷ ws) h = two_items _ _ _

-- ---- what is decided of an object of fewer than two members: nothing that two together decide

itself_alone : (j n : Name) → (bytes_eq j n || false) ≡ true → j ≡ n
itself_alone j n e = same_name j n (sym (or-false _) ∙ e)

-- two names among fewer than two are one
one_name_there : (j k : Name) (es : Rows) → length es < 2 → is_among j (names_of es) ≡ true → is_among k (names_of es) ≡ true → j ≡ k
one_name_there j k [] few a b = absurd (true≢false (sym a))
one_name_there j k (x ∷ []) few a b = itself_alone j x.0 a ∙ sym (itself_alone k x.0 b)
one_name_there j k (x ∷ y ∷ es) few a b = absurd (omega (arith, few))

-- of two names one is missing
one_is_missing : (j k : Name) → bytes_eq j k ≡ false → (es : Rows) → length es < 2 → (lookup_name j es ≡ None) ⊎ (lookup_name k es ≡ None)
one_is_missing j k apart es few = by (lookup_name j es) _ refl refl
  where
    by : (a b : Option Data) → lookup_name j es ≡ a → lookup_name k es ≡ b → (lookup_name j es ≡ None) ⊎ (lookup_name k es ≡ None)
    by None b p q = inl p
    by (Some d) None p q = inr q
    by (Some d) (Some e) p q = absurd (true≢false (sym (ap (bytes_eq j) (sym (one_name_there j k es few (lookup_among j d es p) (lookup_among k e es q))) ∙ bytes_eq-itself j) ∙ apart))

none_either_way : {X : Type 0} (o : Option X) (b : Bool) → o ≡ None → cond b o None ≡ None
none_either_way o true e = e
none_either_way o false e = refl

module _ (ms : Members) (few : length (listed ms) < 2) where
  abbrev at : Name → Option Data
  at k = lookup_name k (listed ms)

  few_fuse_no_pair : fused_pair ms ≡ None
  few_fuse_no_pair = by (one_is_missing (codes "properties") (codes "required") refl (listed ms) few)
    where
      by : (at (codes "properties") ≡ None) ⊎ (at (codes "required") ≡ None) → fused_pair ms ≡ None
      by (inl e) = ap (λ o. cond (declares_few o && is_none (at (codes "patternProperties")) && allows_others (at (codes "additionalProperties"))) (two_names (at (codes "required"))) None) e
      by (inr e) = none_either_way _ _ (ap two_names e)

  few_fuse_not_one : fused_one ms ≡ None
  few_fuse_not_one = by (one_is_missing (codes "properties") (codes "required") refl _ few)
    where
      by : (at (codes "properties") ≡ None) ⊎ (at (codes "required") ≡ None) → fused_one ms ≡ None
      by (inl e) = ap (λ o. cond (is_some o && is_none (at (codes "patternProperties")) && refuses_others (at (codes "additionalProperties"))) (one_name (at (codes "required"))) None) e
      by (inr e) = none_either_way _ _ (ap one_name e)

  few_read_no_if : is_condition ms ≡ false
  few_read_no_if = by (one_is_missing (codes "if") (codes "then") refl _ few) (one_is_missing (codes "if") (codes "else") refl _ few)
    where
      and_nothing : (b : Bool) → (b && false) ≡ false
      and_nothing true = refl
      and_nothing false = refl

      by : (at (codes "if") ≡ None) ⊎ (at (codes "then") ≡ None) → (at (codes "if") ≡ None) ⊎ (at (codes "else") ≡ None) → is_condition ms ≡ false
      by (inl e) h = ap (λ o. is_some o && (is_some (at (codes "then")) || is_some (at (codes "else")))) e
      by (inr t) (inl e) = ap (λ o. is_some o && (is_some (at (codes "then")) || is_some (at (codes "else")))) e
      by (inr t) (inr e) = (λ i. is_some (at (codes "if")) && (is_some (t i) || is_some (e i))) ∙ and_nothing _

  abbrev planned_as : Option (Name × Name) → Bool → Bool → Option Name → Planned
  planned_as pair condition restricted one = record { fused_pair = pair; condition = condition; restricted = restricted; fused_one = one }

  pub few_are_planned : (r : Bool) → r ≡ is_restricted ms → planned_as None false r None ≡ plan_of ms
  few_are_planned r e = λ i. planned_as (sym few_fuse_no_pair i) (sym few_read_no_if i) (e i) (sym few_fuse_not_one i)
