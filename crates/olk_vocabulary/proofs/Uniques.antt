-- Lists in which no two values are the same, in parts.
use Rattle.std.proofs.Common.{◌≡◌, ◌<◌, ◌≤◌, ◌+◌, ℕ, suc, Option, Bor, List, [], ◌∷◌, ◌++◌, Bool, true, false, not, ◌&&◌, ◌||◌, length, get_or, take, drop, map, refl, sym, ap, ◌∙◌}
use Rattle.std.specs.List.{list_any}
use Rattle.std.proofs.lemmas.List.{take-append-drop, take_more, take_all, map-append}
use Rattle.std.proofs.lemmas.List.Folds.{list_any-append}
use Rattle.std.proofs.Math.Bool.{or-false, and-true}
use Rattle.serde_json.specs.Data.{Data}
use Rattle.serde_json.specs.View.{view}
use Rattle.serde_json.specs.declared.value.Value.{Value}
use Rattle.olk_vocabulary.specs.Same.{same_value}
use Rattle.olk_vocabulary.specs.Unique.{are_unique}
use Rattle.olk_vocabulary.specs.Blocks.{has_same, meet, is_held}
use Rattle.olk_vocabulary.proofs.Sameness.{at_item}

any_of_none : {X : Type 0} (xs : List X) → list_any (λ x. false) xs ≡ false
any_of_none [] = refl
any_of_none (x ∷ xs) = any_of_none xs

any_of_either : {X : Type 0} (p q : X → Bool) (xs : List X) → list_any (λ x. p x || q x) xs ≡ (list_any p xs || list_any q xs)
any_of_either p q [] = refl
any_of_either p q (x ∷ xs) = ap (λ b. p x || q x || b) (any_of_either p q xs) ∙ by (p x) (q x) (list_any p xs) (list_any q xs)
  where
    by : (a b c d : Bool) → (a || b || (c || d)) ≡ (a || c || (b || d))
    by true b c d = refl
    by false true true d = refl
    by false true false d = refl
    by false false c d = refl

regrouped : (a b u c w : Bool) → (not (a || b) && (u && not c && w)) ≡ (not a && u && not (b || c) && w)
regrouped true b u c w = refl
regrouped false true true c w = refl
regrouped false true false c w = refl
regrouped false false u c w = refl

pub unique_parts : (xs ys : List Data) → are_unique (xs ++ ys) ≡ (are_unique xs && not (meet xs ys) && are_unique ys)
unique_parts [] ys = ap (λ b. not b && are_unique ys) (sym (any_of_none ys))
unique_parts (x ∷ xs) ys =
    (λ i. not (list_any-append (λ e. same_value x e) xs ys i) && unique_parts xs ys i)
    ∙ regrouped (list_any (λ e. same_value x e) xs) (list_any (λ e. same_value x e) ys) (are_unique xs) (meet xs ys) (are_unique ys)
    ∙ ap (λ b. not (list_any (λ e. same_value x e) xs) && are_unique xs && not b && are_unique ys) (sym (any_of_either (λ e. same_value x e) (λ e. has_same xs e) ys))

-- ---- item by item

at_place : (vs : List Value) (i : ℕ) (x : Value) → i < length vs → x ≡ get_or vs i x → map view vs ≡ map view (take i vs) ++ (view x ∷ map view (drop (suc i) vs))
at_place vs i x p e =
    ap (map view) (sym (take-append-drop i vs) ∙ ap (λ l. take i vs ++ l) (at_item vs i x p e)) ∙ map-append view (take i vs) (x ∷ drop (suc i) vs)

repeated : (u m w : Bool) → (u && not (true || m) && w) ≡ false
repeated true m w = refl
repeated false m w = refl

pub not_unique : (vs : List Value) (i : ℕ) (x : Value) → i < length vs → x ≡ get_or vs i x → has_same (map view (take i vs)) (view x) ≡ true → are_unique (map view vs) ≡ false
not_unique vs i x p e h =
    let before = map view (take i vs) in
    let behind = map view (drop (suc i) vs) in
    ap are_unique (at_place vs i x p e) ∙ unique_parts before (view x ∷ behind)
    ∙ ap (λ b. are_unique before && not (b || meet before behind) && are_unique (view x ∷ behind)) h
    ∙ repeated (are_unique before) (meet before behind) (are_unique (view x ∷ behind))

pub one_more : (ds : List Data) (d : Data) → are_unique ds ≡ true → has_same ds d ≡ false → are_unique (ds ++ d ∷ []) ≡ true
one_more ds d u h = unique_parts ds (d ∷ []) ∙ (λ i. u i && not (h i || false) && (not false && true))

pub has_more : (ds : List Data) (d v : Data) → has_same (ds ++ d ∷ []) v ≡ (has_same ds v || same_value d v)
has_more ds d v = list_any-append (λ e. same_value e v) ds (d ∷ []) ∙ ap (λ b. has_same ds v || b) (or-false (same_value d v))

one_behind : (vs : List Value) (i : ℕ) (x : Value) → i < length vs → x ≡ get_or vs i x → map view (take (i + 1) vs) ≡ map view (take i vs) ++ view x ∷ []
one_behind vs i x p e = ap (map view) (take_more vs i x p ∙ ap (λ y. take i vs ++ y ∷ []) (sym e)) ∙ map-append view (take i vs) (x ∷ [])

any_alike : {X : Type 0} (p q : X → Bool) → ((x : X) → p x ≡ q x) → (xs : List X) → list_any p xs ≡ list_any q xs
any_alike p q h [] = refl
any_alike p q h (x ∷ xs) = λ i. h x i || any_alike p q h xs i

-- ---- a block by itself, and then what is behind it

pub first_apart : (slots : List (Option (Bor Value))) (vs : List Value) → slots ≡ [] → (v : Data) → is_held slots v ≡ has_same (map view (take 0 vs)) v
first_apart slots vs e v = ap (λ l. is_held l v) e

pub held_more : (old new : List (Option (Bor Value))) (vs : List Value) (i : ℕ) (x : Value) → i < length vs → x ≡ get_or vs i x → ((v : Data) → is_held new v ≡ (is_held old v || same_value (view x) v))
    → ((v : Data) → is_held old v ≡ has_same (map view (take i vs)) v) → (v : Data) → is_held new v ≡ has_same (map view (take (i + 1) vs)) v
held_more old new vs i x p e more before v =
    more v ∙ ap (λ b. b || same_value (view x) v) (before v) ∙ sym (has_more (map view (take i vs)) (view x) v) ∙ ap (λ l. has_same l v) (sym (one_behind vs i x p e))

pub apart_more : (old : List (Option (Bor Value))) (vs : List Value) (i : ℕ) (x : Value) → i < length vs → x ≡ get_or vs i x → is_held old (view x) ≡ false
    → ((v : Data) → is_held old v ≡ has_same (map view (take i vs)) v) → are_unique (map view (take i vs)) ≡ true → are_unique (map view (take (i + 1) vs)) ≡ true
apart_more old vs i x p e new before u = ap are_unique (one_behind vs i x p e) ∙ one_more (map view (take i vs)) (view x) u (sym (before (view x)) ∙ new)

pub repeats : (old : List (Option (Bor Value))) (vs : List Value) (ys : List Data) (i : ℕ) (x : Value) → i < length vs → x ≡ get_or vs i x → is_held old (view x) ≡ true
    → ((v : Data) → is_held old v ≡ has_same (map view (take i vs)) v) → false ≡ (are_unique (map view vs) && not (meet (map view vs) ys))
repeats old vs ys i x p e there before = ap (λ b. b && not (meet (map view vs) ys)) (sym (not_unique vs i x p e (sym (before (view x)) ∙ there)))

pub apart_from_behind : (slots : List (Option (Bor Value))) (vs : List Value) (ys : List Data) (i : ℕ) (b : Bool) → length vs ≤ i → b ≡ list_any (λ e. is_held slots e) ys
    → ((v : Data) → is_held slots v ≡ has_same (map view (take i vs)) v) → are_unique (map view (take i vs)) ≡ true → not b ≡ (are_unique (map view vs) && not (meet (map view vs) ys))
apart_from_behind slots vs ys i b p e held u =
    let all = take_all i vs p in
    let whole : are_unique (map view vs) ≡ true = ap (λ l. are_unique (map view l)) (sym all) ∙ u in
    ap not (e ∙ any_alike _ _ (λ v. held v ∙ ap (λ l. has_same (map view l) v) all) ys) ∙ ap (λ u. u && not (meet (map view vs) ys)) (sym whole)

pub next_block : (rest block behind : List Value) (b : Bool) → rest ≡ block ++ behind → b ≡ (are_unique (map view block) && not (meet (map view block) (map view behind))) → are_unique (map view rest) ≡ (b && are_unique (map view behind))
next_block rest block behind b e h =
    ap (λ l. are_unique (map view l)) e ∙ ap are_unique (map-append view block behind) ∙ unique_parts (map view block) (map view behind) ∙ ap (λ b. b && are_unique (map view behind)) (sym h)

pub last_block : (vs : List Value) (b : Bool) → b ≡ (are_unique (map view vs) && not (meet (map view vs) [])) → b ≡ are_unique (map view vs)
last_block vs b h = h ∙ and-true (are_unique (map view vs))
