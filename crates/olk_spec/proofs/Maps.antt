-- Lists of what a function gives for each item of a list.
use Rattle.std.specs.Prelude.{◌≡◌, Bool, true, false, List, [], ◌∷◌, ◌++◌, map, Option, Some, None, is_some, option_map}
use Rattle.std.specs.List.{flat_map}
use Rattle.std.proofs.Common.{refl, ◌∙◌, ap}
use Rattle.serde_json.specs.View.{view, items_view}
use Rattle.serde_json.specs.declared.value.Value.{Value}
use Rattle.olk_spec.specs.Names.{filter_once, put_if, is_empty}
use Rattle.olk_spec.specs.Malformed.{items_list}

pub flat_map-map : {X Y A : Type 0} (p : X → List A) (q : Y → List A) (h : Y → X) → ((y : Y) → p (h y) ≡ q y) → (ys : List Y) → flat_map p (map h ys) ≡ flat_map q ys
flat_map-map p q h e [] = refl
flat_map-map p q h e (y ∷ ys) = λ i. e y i ++ flat_map-map p q h e ys i

pub map-map : {X Y A : Type 0} (p : X → A) (q : Y → A) (h : Y → X) → ((y : Y) → p (h y) ≡ q y) → (ys : List Y) → map p (map h ys) ≡ map q ys
map-map p q h e [] = refl
map-map p q h e (y ∷ ys) = λ i. e y i ∷ map-map p q h e ys i

pub filter_once-map : {X Y : Type 0} (p : X → Bool) (q : Y → Bool) (h : Y → X) → ((y : Y) → p (h y) ≡ q y) → (ys : List Y) → filter_once p (map h ys) ≡ map h (filter_once q ys)
filter_once-map p q h e [] = refl
filter_once-map p q h e (y ∷ ys) = (λ i. put_if (e y i) (h y) (filter_once-map p q h e ys i)) ∙ by (q y)
  where
    by : (b : Bool) → put_if b (h y) (map h (filter_once q ys)) ≡ map h (put_if b y (filter_once q ys))
    by true = refl
    by false = refl

pub is_empty-map : {X Y : Type 0} (h : Y → X) (ys : List Y) → is_empty (map h ys) ≡ is_empty ys
is_empty-map h [] = refl
is_empty-map h (y ∷ ys) = refl

pub items_list-view : (vs : List Value) → items_list (items_view vs) ≡ map view vs
items_list-view [] = refl
items_list-view (v ∷ vs) = ap (λ l. view v ∷ l) (items_list-view vs)

pub is_some-map : {X Y : Type 0} (h : X → Y) (o : Option X) → is_some o ≡ is_some (option_map h o)
is_some-map h None = refl
is_some-map h (Some x) = refl
