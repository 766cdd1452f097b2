-- Values that are no object and no array, and members by their names.
use Rattle.std.proofs.Common.{◌≡◌, List, Option, Some, None, option_map, option_copied, Bor, false, String, string_bytes, Global, BTreeMap, Vec, refl, ap, ◌∙◌, subst, rules}
use Rattle.std.specs.{Map.lookup, Cmp.Lexicographic.slice_cmp, BTreeMap.is_at}
use Rattle.std.specs.Ordering.{nat_cmp}
use Rattle.std.specs.Prelude.{Result, Ok, Err, MatchResult, IfOk}
use Rattle.serde_json.specs.Data.{Data}
use Rattle.serde_json.specs.Find.{get_member}
use Rattle.serde_json.specs.View.{view, members_view}
use Rattle.serde_json.specs.declared.value.Value.{Value, Array, Object, out-Value, roll-Value, the_lemmas}
use Rattle.serde_json.specs.declared.value.Value.TheOpen.{Value-F}
use Rattle.serde_json.specs.declared.value.Value.TheVariants.{rolls-Array, rolls-Object}
use Rattle.serde_json.proofs.Views.{view-lookup}
use Rattle.olk_spec.specs.Names.{Name}
use Rattle.olk_spec.specs.Schemas.{is_array, is_object}

rolled : (v : Value) → roll-Value (out-Value v) ≡ v
rolled v = search (rules, the_lemmas)

no_array_layer : (x : Value-F Value) → ((ds : Vec Value Global) → roll-Value x ≡ Array ds → ⊥) → is_array (view (roll-Value x)) ≡ false
no_array_layer (Value-F.Array ds) h = absurd (h ds (rolls-Array ds))
no_array_layer x h = search (rules, the_lemmas)

pub no_array : (v : Value) → ((ds : Vec Value Global) → v ≡ Array ds → ⊥) → is_array (view v) ≡ false
no_array v = subst (λ x. ((ds : Vec Value Global) → x ≡ Array ds → ⊥) → is_array (view x) ≡ false) (rolled v) (no_array_layer (out-Value v))

no_object_layer : (x : Value-F Value) → ((m : BTreeMap (String Global) Value) → roll-Value x ≡ Object m → ⊥) → is_object (view (roll-Value x)) ≡ false
no_object_layer (Value-F.Object m) h = absurd (h m (rolls-Object m))
no_object_layer x h = search (rules, the_lemmas)

pub no_object : (v : Value) → ((m : BTreeMap (String Global) Value) → v ≡ Object m → ⊥) → is_object (view v) ≡ false
no_object v = subst (λ x. ((m : BTreeMap (String Global) Value) → x ≡ Object m → ⊥) → is_object (view x) ≡ false) (rolled v) (no_object_layer (out-Value v))

copied : (o : Option (Bor Value)) → option_map (λ v. view v.now) o ≡ option_map view (option_copied o)
copied None = refl
copied (Some v) = refl

pub member_found : (o : Option (Bor Value)) (name : Name) (es : List (String Global × Value)) → option_copied o ≡ lookup (is_at (λ k. slice_cmp nat_cmp name (string_bytes k))) es
    → option_map (λ v. view v.now) o ≡ get_member name (members_view es)
member_found o name es e = copied o ∙ ap (option_map view) e ∙ view-lookup name es

-- what `clone` gives
pub cloned : {E : Type 0} (r : Result Value E) (d : Data) → MatchResult r (λ w. view w ≡ d) (λ x. ¬ ⊥) → IfOk r (λ v. view v ≡ d)
cloned (Ok v) d h = h
cloned (Err e) d h = tt
