-- Values that are an array, or none, or no object.
use Rattle.std.proofs.Common.{◌≡◌, false, Vec, String, Global, BTreeMap, ap, ◌∙◌, subst, rules}
use Rattle.serde_json.specs.View.{view, items_view}
use Rattle.serde_json.specs.declared.value.Value.{Value, Array, Object, out-Value, roll-Value, the_lemmas}
use Rattle.serde_json.specs.declared.value.Value.TheVariants.{rolls-Array, rolls-Object}
use Rattle.olk_spec.specs.Schemas.{is_array, is_object}
use Rattle.serde_json.specs.{Data.array, declared.value.Value.TheOpen.Value-F}

pub rolled : (v : Value) → roll-Value (out-Value v) ≡ v
rolled v = search (rules, the_lemmas)

no_array_layer : (x : Value-F Value) → ((ds : Vec Value Global) → roll-Value x ≡ Array ds → ⊥) → is_array (view (roll-Value x)) ≡ false
no_array_layer (Value-F.Array ds) h = absurd (h ds (rolls-Array ds))
no_array_layer x h = search (rules, the_lemmas)

array_viewed : (ds : Vec Value Global) → view (Array ds) ≡ array (items_view ds.items)
array_viewed ds = search (rules, the_lemmas)

pub view_of_array : (v : Value) (ds : Vec Value Global) → v ≡ Array ds → view v ≡ array (items_view ds.items)
view_of_array v ds e = ap view e ∙ array_viewed ds

pub no_array : (v : Value) → ((ds : Vec Value Global) → v ≡ Array ds → ⊥) → is_array (view v) ≡ false
no_array v = subst (λ x. ((ds : Vec Value Global) → x ≡ Array ds → ⊥) → is_array (view x) ≡ false) (rolled v) (no_array_layer (out-Value v))

no_object_layer : (x : Value-F Value) → ((m : BTreeMap (String Global) Value) → roll-Value x ≡ Object m → ⊥) → is_object (view (roll-Value x)) ≡ false
no_object_layer (Value-F.Object m) h = absurd (h m (rolls-Object m))
no_object_layer x h = search (rules, the_lemmas)

pub no_object : (v : Value) → ((m : BTreeMap (String Global) Value) → v ≡ Object m → ⊥) → is_object (view v) ≡ false
no_object v = subst (λ x. ((m : BTreeMap (String Global) Value) → x ≡ Object m → ⊥) → is_object (view x) ≡ false) (rolled v) (no_object_layer (out-Value v))
