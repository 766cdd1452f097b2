-- Lists of values and of kinds, as data.
use Rattle.std.proofs.Common.{◌≡◌, ◌∷◌, [], ◌||◌, suc, List, map, length, ◌&&◌, true, false, refl, sym, ap, ◌∙◌}
use Rattle.std.specs.List.{list_any}
use Rattle.std.proofs.Math.Bool.{and-false}
use Rattle.serde_json.specs.Data.{Data, array, Items, no_items, item}
use Rattle.serde_json.specs.View.{view, items_view}
use Rattle.serde_json.specs.declared.value.Value.{Value}
use Rattle.olk_spec.specs.Json.{arr, items_from}
use Rattle.olk_spec.specs.Malformed.{items_list}
use Rattle.olk_spec.proofs.Maps.{items_list-view}
use Rattle.olk_vocabulary.specs.declared.kinds.Kind.{Kind}
use Rattle.olk_vocabulary.specs.Keywords.{is_of_kind, is_of_named_kind, is_short, name_kinds, takes_kinds, told_kind}
use Rattle.olk_vocabulary.specs.Leaves.{kind_name, kind_value}

items_from-list : (ds : Items) → items_from (items_list ds) ≡ ds
items_from-list no_items = refl
items_from-list (item d ds) = ap (λ es. item d es) (items_from-list ds)

pub items_size : (vs : List Value) → length (items_list (items_view vs)) ≡ length vs
items_size [] = refl
items_size (v ∷ vs) = ap (λ n. suc n) (items_size vs)

pub kinds_made : (vs : List Value) (ks : List Kind) → is_short (items_view vs) ≡ true → name_kinds (map view vs) ≡ true → map kind_value ks ≡ map view vs
    → (takes_kinds (array (items_view vs)) ≡ true) × (arr (map kind_value ks) ≡ array (items_view vs))
kinds_made vs ks few names made = (
  ap (λ b. b && name_kinds (items_list (items_view vs))) few ∙ ap name_kinds (items_list-view vs) ∙ names,
  ap arr made ∙ ap arr (sym (items_list-view vs)) ∙ ap array (items_from-list (items_view vs)),
)

pub kinds_refused : (vs : List Value) → name_kinds (map view vs) ≡ false → takes_kinds (array (items_view vs)) ≡ false
kinds_refused vs names = ap (λ b. is_short (items_view vs) && b) (ap name_kinds (items_list-view vs) ∙ names) ∙ and-false (is_short (items_view vs))

pub some_kind : (ks : List Kind) (v : Data) → list_any (λ d. is_of_named_kind d v) (items_list (items_from (map kind_value ks))) ≡ list_any (λ k. is_of_kind (kind_name k) v) ks
some_kind [] v = refl
some_kind (k ∷ ks) v = ap (λ b. is_of_kind (kind_name k) v || b) (some_kind ks v)

pub kind_texts : (ks : List Kind) → map told_kind (items_list (items_from (map kind_value ks))) ≡ map (λ k. told_kind (kind_value k)) ks
kind_texts [] = refl
kind_texts (k ∷ ks) = ap (λ ts. told_kind (kind_value k) ∷ ts) (kind_texts ks)
