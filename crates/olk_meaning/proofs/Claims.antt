-- Which members each member claims, whose validator stands for them.
use Rattle.std.proofs.Common.{◌≡◌, ◌&&◌, ◌||◌, Bool, true, false, cond, Option, Some, None, is_some, is_none, unwrap_or, codes, bytes_eq, map, List, [], ◌∷◌, ◌++◌, IsPermutation, option_to_list, refl}
use Rattle.std.proofs.Common.{sym, ◌∙◌, ap, subst, true≢false, subst₂}
use Rattle.serde_json.specs.Data.{Data, boolean, string, array, object, Members, no_items, item}
use Rattle.olk_spec.specs.Names.{Name, lookup_name, is_among, filter_once}
use Rattle.olk_spec.proofs.Walks.{same_name, bytes_eq-sym, Distinct, Distinct-from, Each-found}
use Rattle.olk_meaning.specs.Conditions.{is_restriction, is_restricted, is_condition}
use Rattle.olk_meaning.specs.Fused.{allows_others, refuses_others, one_name, declares_few, two_names, fused_pair, fused_one}
use Rattle.olk_meaning.specs.Plans.{Planned, plan_of, tells_members, is_taken_over, is_case, head, claims}
use Rattle.std.proofs.lemmas.List.Sorted.{IsPermutation-refl, IsPermutation-trans, IsPermutation-append}
use Rattle.std.proofs.Math.Bool.{or-false, or-true, and-false, and_assoc, and_comm}
use Rattle.std.proofs.lemmas.Bool.{false_from_ne_true}
use Rattle.olk_spec.proofs.Each.{Each, Each-implies}
use Rattle.olk_meaning.proofs.Listed.{those_split, those_none, filter_once-same, names_of, lookup_among, named_first}
use Rattle.olk_meaning.proofs.Rows.{Rows}
use Rattle.olk_meaning.specs.AdditionalProperties.{rows_at, fused_rows}
use Rattle.olk_spec.specs.{Schemas.listed, Malformed.has_repeat}
use Rattle.std.specs.{Prelude.⊤, List.list_all}
use Rattle.olk_spec.proofs.{Order.along_permutation, Truth.and_first}
pub use Rattle.olk_meaning.proofs.Listed.{members_named, members_found, named_once, found_each, present_each}

-- a test tells two names apart
pub apart_by : (test : Name → Bool) (n k : Name) → test n ≡ true → test k ≡ false → bytes_eq n k ≡ false
apart_by test n k h e = false_from_ne_true _ (λ q. true≢false (sym h ∙ ap test (same_name n k q) ∙ e))

-- ---- the keywords that are taken over

module _ (p : Planned) where
  -- what holds of the three holds of each that is taken over
  of_taken : (P : Name → Type 0) → P (codes "properties") → P (codes "patternProperties") → P (codes "required") → (n : Name) → is_taken_over p n ≡ true → P n
  of_taken P x y z n e = by p.restricted (is_some p.fused_one) _ _ _ refl refl refl e
    where
      by : (r f a b c : Bool) → bytes_eq n (codes "properties") ≡ a → bytes_eq n (codes "patternProperties") ≡ b → bytes_eq (codes "required") n ≡ c
          → ((r && (a || (b || false))) || (f && c)) ≡ true → P n
      by true f true b c i j k h = subst P (sym (same_name n _ i)) x
      by true f false true c i j k h = subst P (sym (same_name n _ j)) y
      by true true false false true i j k h = subst P (same_name _ n k) z
      by false true a b true i j k h = subst P (same_name _ n k) z
      by _ _ _ _ _ i j k h = absurd (true≢false (sym h))

  -- where anything is taken over, the keyword is another, and not `additionalProperties`
  abbrev pub IsNotTaken : Name → Type 0
  IsNotTaken k = (n : Name) → is_taken_over p n ≡ true → (bytes_eq k (codes "additionalProperties") ≡ false) × (bytes_eq k n ≡ false)

  pub past_taken : (k n other : Name) → IsNotTaken k → bytes_eq k other ≡ bytes_eq k n → bytes_eq k (cond (is_taken_over p n) (codes "additionalProperties") other) ≡ bytes_eq k n
  past_taken k n other free e = by (is_taken_over p n) refl
    where
      by : (b : Bool) → is_taken_over p n ≡ b → bytes_eq k (cond b (codes "additionalProperties") other) ≡ bytes_eq k n
      by false q = e
      by true q = (free n q).0 ∙ sym (free n q).1

  pub nothing_taken : (k : Name) → p.restricted ≡ false → is_some p.fused_one ≡ false → IsNotTaken k
  nothing_taken k r f n e = absurd (true≢false (sym e ∙ (λ i. (r i && tells_members n) || (f i && bytes_eq (codes "required") n))))

  pub never_taken : (k : Name) → bytes_eq (codes "additionalProperties") k ≡ false → bytes_eq (codes "properties") k ≡ false → bytes_eq (codes "patternProperties") k ≡ false
      → bytes_eq (codes "required") k ≡ false → IsNotTaken k
  never_taken k a b c d n e = (bytes_eq-sym k _ ∙ a, of_taken (λ x. bytes_eq k x ≡ false) (bytes_eq-sym k _ ∙ b) (bytes_eq-sym k _ ∙ c) (bytes_eq-sym k _ ∙ d) n e)

  -- `required` is not, where no name of it is fused
  pub required_not_taken : is_some p.fused_one ≡ false → IsNotTaken (codes "required")
  required_not_taken f n e = (refl, bytes_eq-sym (codes "required") n ∙ apart_by (is_taken_over p) n (codes "required") e (λ i. and-false p.restricted i || (f i && true)))

-- ---- where `additionalProperties` restricts

-- something is there of which a test holds that fails on nothing
pub there_if : {X : Type 0} (test : Option X → Bool) → test None ≡ false → (o : Option X) → test o ≡ true → (x : X) × (o ≡ Some x)
there_if test none None e = absurd (true≢false (sym e ∙ none))
there_if test none (Some x) e = (x, refl)

pub restriction_there : (ms : Members) → is_restricted ms ≡ true → (d : Data) × (lookup_name (codes "additionalProperties") (listed ms) ≡ Some d)
restriction_there ms e = there_if is_restriction refl _ e

no_truth : {X : Type 0} (e : false ≡ true) → X
no_truth e = absurd (true≢false (sym e))

allowed_unrestricted : (o : Option Data) → allows_others o ≡ true → is_restriction o ≡ false
allowed_unrestricted (Some (boolean false)) e = no_truth e
allowed_unrestricted (Some (object fs)) e = no_truth e
allowed_unrestricted _ e = refl

refused_closed : (o : Option Data) → refuses_others o ≡ true → o ≡ Some (boolean false)
refused_closed (Some (boolean false)) e = refl
refused_closed o e = no_truth e

-- two names are fused where nothing is restricted
pub fusing_is_free : (ms : Members) → is_some (fused_pair ms) ≡ true → is_restricted ms ≡ false
fusing_is_free ms e = allowed_unrestricted _
    (by (declares_few (lookup_name (codes "properties") (listed ms))) (is_none (lookup_name (codes "patternProperties") (listed ms))) _ (two_names (lookup_name (codes "required") (listed ms))) e)
  where
    by : (a b c : Bool) (o : Option (Name × Name)) → is_some (cond (a && b && c) o None) ≡ true → c ≡ true
    by true true true o h = refl
    by _ _ _ o h = no_truth h

pub restricted_fuses_none : (ms : Members) → is_restricted ms ≡ true → is_some (fused_pair ms) ≡ false
restricted_fuses_none ms e = false_from_ne_true _ (λ q. true≢false (sym e ∙ fusing_is_free ms q))

-- the name is the one that `required` lists beside `properties` and `additionalProperties`, which is false, where there are no patterns
pub record FusesOne (ms : Members) (n : Name) : Type 0 where
  pub declared : is_some (lookup_name (codes "properties") (listed ms)) ≡ true
  pub unpatterned : lookup_name (codes "patternProperties") (listed ms) ≡ None
  pub closed : lookup_name (codes "additionalProperties") (listed ms) ≡ Some (boolean false)
  pub listed_at : lookup_name (codes "required") (listed ms) ≡ Some (array (item (string n) no_items))

listed_name : (o : Option Data) (n : Name) → one_name o ≡ Some n → o ≡ Some (array (item (string n) no_items))
listed_name (Some (array (item (string a) no_items))) n e = ap (λ m. Some (array (item (string (unwrap_or m a)) no_items))) e
listed_name o n e = absurd (true≢false (sym (ap is_some e)))

none_where : {X : Type 0} (o : Option X) → is_none o ≡ true → o ≡ None
none_where None e = refl
none_where (Some x) e = no_truth e

pub fuses_one_name : (ms : Members) (n : Name) → fused_one ms ≡ Some n → FusesOne ms n
fuses_one_name ms n e = by _ _ _ _ refl refl refl refl e
  where
    by : (a b c : Bool) (o : Option Name) → is_some (lookup_name (codes "properties") (listed ms)) ≡ a → is_none (lookup_name (codes "patternProperties") (listed ms)) ≡ b
        → refuses_others (lookup_name (codes "additionalProperties") (listed ms)) ≡ c → one_name (lookup_name (codes "required") (listed ms)) ≡ o → cond (a && b && c) o None ≡ Some n → FusesOne ms n
    by true true true o p q r s h = record {
      declared = p;
      unpatterned = none_where _ q;
      closed = refused_closed _ r;
      listed_at = listed_name _ n (s ∙ h);
    }
    by true true false o p q r s h = absurd (true≢false (sym (ap is_some h)))
    by _ _ c o p q r s h = absurd (true≢false (sym (ap is_some h)))

-- it is fused where other members are restricted
pub fused_is_restricted : (ms : Members) (n : Name) → fused_one ms ≡ Some n → is_restricted ms ≡ true
fused_is_restricted ms n e = ap is_restriction (fuses_one_name ms n e).closed

pub fusing_restricts : (ms : Members) → is_some (fused_one ms) ≡ true → is_restricted ms ≡ true
fusing_restricts ms e = let n = there_if (λ o. is_some o) refl (fused_one ms) e in fused_is_restricted ms n.0 n.1

pub absent_if : {X : Type 0} (o : Option X) → is_some o ≡ false → o ≡ None
absent_if None e = refl
absent_if (Some x) e = absurd (true≢false e)

-- where nothing is restricted, nothing is taken over
pub free_fuses_none : (ms : Members) → is_restricted ms ≡ false → is_some (fused_one ms) ≡ false
free_fuses_none ms e = false_from_ne_true _ (λ q. true≢false (sym (fusing_restricts ms q) ∙ e))

pub free_takes_nothing : (ms : Members) (k : Name) → is_restricted ms ≡ false → IsNotTaken (plan_of ms) k
free_takes_nothing ms k e = nothing_taken (plan_of ms) k e (free_fuses_none ms e)

-- ---- lists in another order

pub list_all-permuted : {X : Type 0} (p : X → Bool) (xs ys : List X) → IsPermutation xs ys → list_all p xs ≡ list_all p ys
list_all-permuted p =
    along_permutation _ (λ xs. refl) (λ x xs ys h. ap (λ b. p x && b) h) (λ x y xs. sym (and_assoc (p x) (p y) _) ∙ ap (λ b. b && list_all p xs) (and_comm (p x) (p y)) ∙ and_assoc (p y) (p x) _) (λ xs ys zs h k. h ∙ k)

-- ---- what is fused

abbrev pub listing : Name × Name → Data
listing t = array (item (string t.0) (item (string t.1) no_items))

-- the names are two that `required` lists beside `properties` of few names, and each of the two keywords stands once
pub record Fuses (ms : Members) (t : Name × Name) : Type 0 where
  pub value : Data
  pub declared : lookup_name (codes "properties") (listed ms) ≡ Some value
  pub few : declares_few (Some value) ≡ true
  pub differ : bytes_eq t.0 t.1 ≡ false
  pub listed_at : lookup_name (codes "required") (listed ms) ≡ Some (listing t)
  pub required : members_named (codes "required") (listed ms) ≡ (codes "required", listing t) ∷ []

abbrev AreFused : Members → Option (Name × Name) → Type 0
AreFused ms None = ⊤
AreFused ms (Some t) = Fuses ms t

differing : (b : Bool) (s t : Name × Name) → cond b None (Some s) ≡ Some t → (s ≡ t) × (b ≡ false)
differing true s t e = absurd (true≢false (sym (ap is_some e)))
differing false s t e = (ap (λ o. unwrap_or o s) e, refl)

no_pair : {G : Type 0} (t : Name × Name) (p : Option (Name × Name)) → is_some p ≡ false → p ≡ Some t → G
no_pair t p h e = absurd (true≢false (sym (ap is_some e) ∙ h))

listed_names : (o : Option Data) (t : Name × Name) → two_names o ≡ Some t → (o ≡ Some (listing t)) × (bytes_eq t.0 t.1 ≡ false)
listed_names (Some (array (item (string a) (item (string b) no_items)))) t e =
    let d = differing (bytes_eq a b) (a, b) t e in (ap (λ s. Some (listing s)) d.0, ap (λ s. bytes_eq s.0 s.1) (sym d.0) ∙ d.1)
listed_names o t e = no_pair t None refl e

where_few : (a b c : Bool) (o : Option (Name × Name)) (t : Name × Name) → cond (a && b && c) o None ≡ Some t → (a ≡ true) × (o ≡ Some t)
where_few true true true o t e = (refl, e)
where_few _ _ _ o t e = absurd (true≢false (sym (ap is_some e)))

are_fused : (ms : Members) (o : Option (Name × Name)) → Distinct (listed ms) → o ≡ fused_pair ms → AreFused ms o
are_fused ms None h e = tt
are_fused ms (Some t) h e =
    let es = listed ms in
    let w = where_few _ _ _ _ t (sym e) in
    let d = there_if declares_few refl _ w.0 in
    let r = listed_names _ t w.1 in
    record {
      value = d.0;
      declared = d.1;
      few = ap declares_few (sym d.1) ∙ w.0;
      differ = r.1;
      listed_at = r.0;
      required = named_once _ _ es h r.0;
    }

module _ (ms : Members) (distinct : has_repeat (map (λ m. m.0) (listed ms)) ≡ false) where
  pub fuses : (t : Name × Name) → Some t ≡ fused_pair ms → Fuses ms t
  fuses t e = are_fused ms (Some t) (Distinct-from (listed ms) distinct) e

-- ---- `then` and `else`

-- a keyword of which `if` is neither itself nor the head
abbrev pub IsNoCase : Bool → Name → Type 0
IsNoCase c k = c ≡ true → (bytes_eq k (codes "if") ≡ false) × (is_case k ≡ false)

pub past_cases : (c : Bool) (k n : Name) → IsNoCase c k → bytes_eq k (cond (c && is_case n) (codes "if") n) ≡ bytes_eq k n
past_cases false k n h = refl
past_cases true k n h = by (is_case n) refl
  where
    by : (b : Bool) → is_case n ≡ b → bytes_eq k (cond b (codes "if") n) ≡ bytes_eq k n
    by false q = refl
    by true q = (h refl).0 ∙ sym (bytes_eq-sym k n ∙ apart_by is_case n k q (h refl).1)

-- ---- what a validator stands for by the object's plan

-- the head of a name that is not taken over: whether it is fused, whether `if` is read, and whether the name is a case of it
abbrev head_where : Bool → Bool → Bool → Name → Name
head_where fused condition case n = cond fused (codes "properties") (cond (condition && case) (codes "if") n)

-- a keyword that no other stands for is its own head, and that of no other
pub head_itself : (p : Planned) (k : Name) → (is_some p.fused_pair ≡ true → (bytes_eq (codes "properties") k ≡ false) × (bytes_eq (codes "required") k ≡ false))
    → IsNoCase p.condition k → IsNotTaken p k → (n : Name) → bytes_eq k (head p n) ≡ bytes_eq k n
head_itself p k apart h free n = past_taken p k n _ free (by (is_some p.fused_pair) _ refl refl)
  where
    by : (a b : Bool) → is_some p.fused_pair ≡ a → bytes_eq (codes "required") n ≡ b → bytes_eq k (head_where (a && b) p.condition (is_case n) n) ≡ bytes_eq k n
    by true true f q = bytes_eq-sym k _ ∙ (apart f).0 ∙ sym (apart f).1 ∙ bytes_eq-sym (codes "required") k ∙ ap (bytes_eq k) (same_name _ n q)
    by _ _ f q = past_cases p.condition k n h

pub heads_elsewhere : (p : Planned) (k : Name) → bytes_eq (codes "properties") k ≡ false → bytes_eq (codes "required") k ≡ false → IsNoCase p.condition k
    → IsNotTaken p k → (n : Name) → bytes_eq k (head p n) ≡ bytes_eq k n
heads_elsewhere p k e f = head_itself p k (λ t. (e, f))

-- `required` that neither fuses
pub head_of_required : (p : Planned) → is_some p.fused_pair ≡ false → is_some p.fused_one ≡ false → (n : Name) → bytes_eq (codes "required") (head p n) ≡ bytes_eq (codes "required") n
head_of_required p e f = head_itself p (codes "required") (λ t. absurd (true≢false (sym t ∙ e))) (λ c. (refl, refl)) (required_not_taken p f)

abbrev pub fusing : Name × Name → Bool → Planned
fusing t c = record { fused_pair = Some t; condition = c; restricted = false; fused_one = None }

-- so is an object's plan that fuses these names
pub plan_fusing : (ms : Members) (t : Name × Name) → Some t ≡ fused_pair ms → plan_of ms ≡ fusing t (is_condition ms)
plan_fusing ms t e =
    let free = fusing_is_free ms (ap is_some (sym e)) in
    λ i. record { fused_pair = sym e i; condition = is_condition ms; restricted = free i; fused_one = absent_if (fused_one ms) (free_fuses_none ms free) i }

-- `properties` that fuses is the head of both, and `required` of none
head_of_both : (t : Name × Name) (c : Bool) (n : Name) → bytes_eq (codes "properties") (head (fusing t c) n) ≡ (bytes_eq (codes "properties") n || bytes_eq (codes "required") n)
head_of_both t c n = by _
  where
    by : (b : Bool) → bytes_eq (codes "properties") (head_where b c (is_case n) n) ≡ (bytes_eq (codes "properties") n || b)
    by true = sym (or-true _)
    by false = past_cases c (codes "properties") n (λ e. (refl, refl)) ∙ sym (or-false _)

head_of_none : (t : Name × Name) (c : Bool) (n : Name) → bytes_eq (codes "required") (head (fusing t c) n) ≡ false
head_of_none t c n = by _ refl
  where
    by : (b : Bool) → bytes_eq (codes "required") n ≡ b → bytes_eq (codes "required") (head_where b c (is_case n) n) ≡ false
    by true q = refl
    by false q = past_cases c (codes "required") n (λ e. (refl, refl)) ∙ q

names_differ : (n : Name) → bytes_eq (codes "properties") n ≡ true → bytes_eq (codes "required") n ≡ false
names_differ n e = ap (bytes_eq (codes "required")) (sym (same_name (codes "properties") n e))

pub claims_nothing : (t : Name × Name) (c : Bool) (es : Rows) (d : Data) → claims (head (fusing t c)) es (codes "required", d) ≡ []
claims_nothing t c es d = filter_once-same _ (λ x. false) (λ x. head_of_none t c x.0) es ∙ those_none es

-- `if` that is read is the head of `then` and `else` too, and these of none
head_of_if : (p : Planned) → p.condition ≡ true → (n : Name) → bytes_eq (codes "if") (head p n) ≡ (bytes_eq (codes "if") n || is_case n)
head_of_if p e n = over _ refl
  where
    beside : (b : Bool) → bytes_eq (codes "if") (cond b (codes "if") n) ≡ (bytes_eq (codes "if") n || b)
    beside true = sym (or-true _)
    beside false = sym (or-false _)

    by : (a b : Bool) → bytes_eq (codes "required") n ≡ b → bytes_eq (codes "if") (head_where (a && b) true (is_case n) n) ≡ (bytes_eq (codes "if") n || is_case n)
    by true true q = ap (λ x. bytes_eq (codes "if") x || is_case x) (same_name (codes "required") n q)
    by _ _ q = beside _

    over : (b : Bool) → is_taken_over p n ≡ b → bytes_eq (codes "if") (cond b (codes "additionalProperties")
        (head_where (is_some p.fused_pair && bytes_eq (codes "required") n) p.condition (is_case n) n)) ≡ (bytes_eq (codes "if") n || is_case n)
    over true q = of_taken p (λ x. false ≡ (bytes_eq (codes "if") x || is_case x)) refl refl refl n q
    over false q = ap (λ c. bytes_eq (codes "if") (head_where (is_some p.fused_pair && bytes_eq (codes "required") n) c (is_case n) n)) e
        ∙ by (is_some p.fused_pair) _ refl

case_heads_none : (p : Planned) → p.condition ≡ true → (k : Name) → is_case k ≡ true → (n : Name) → bytes_eq k (head p n) ≡ false
case_heads_none p e k h n = ap (λ c. bytes_eq k (cond (is_taken_over p n) (codes "additionalProperties")
    (head_where (is_some p.fused_pair && bytes_eq (codes "required") n) c (is_case n) n))) e ∙ over (is_taken_over p n)
  where
    no_other : (x : Name) → is_case x ≡ false → bytes_eq k x ≡ false
    no_other x f = apart_by is_case k x h f

    by : (a b : Bool) → is_case n ≡ b → bytes_eq k (cond a (codes "properties") (cond b (codes "if") n)) ≡ false
    by true b q = no_other _ refl
    by false true q = no_other _ refl
    by false false q = no_other n q

    over : (t : Bool) → bytes_eq k (cond t (codes "additionalProperties") (head_where (is_some p.fused_pair && bytes_eq (codes "required") n) true (is_case n) n)) ≡ false
    over true = no_other _ refl
    over false = by _ _ refl

pub claims_no_case : (p : Planned) → p.condition ≡ true → (es : Rows) (m : Name × Data) → is_case m.0 ≡ true → claims (head p) es m ≡ []
claims_no_case p e es m h = filter_once-same _ (λ x. false) (λ x. case_heads_none p e m.0 h x.0) es ∙ those_none es

-- `if` is there where it is read
pub condition_there : (ms : Members) → is_condition ms ≡ true → (d : Data) × (lookup_name (codes "if") (listed ms) ≡ Some d)
condition_there ms e = there_if (λ o. is_some o) refl _ (and_first _ _ e)

module _ (ms : Members) (distinct : has_repeat (names_of (listed ms)) ≡ false) where
  -- a keyword that is its own head and that of no other claims its own member
  pub claims_itself : (heads : Name → Name) (m : Name × Data) → ((n : Name) → bytes_eq m.0 (heads n) ≡ bytes_eq m.0 n) → lookup_name m.0 (listed ms) ≡ Some m.1 → claims heads (listed ms) m ≡ m ∷ []
  claims_itself heads m same there = filter_once-same _ _ (λ x. same x.0) (listed ms) ∙ named_once m.0 m.1 _ (Distinct-from _ distinct) there

  pub claims_both : (t : Name × Name) (c : Bool) (d : Data) → lookup_name (codes "properties") (listed ms) ≡ Some d → Some t ≡ fused_pair ms
      → IsPermutation ((codes "properties", d) ∷ (codes "required", listing t) ∷ []) (claims (head (fusing t c)) (listed ms) (codes "properties", d))
  claims_both t c d there e = subst₂ IsPermutation
      (λ i. named_once (codes "properties") d (listed ms) (Distinct-from _ distinct) there i ++ (fuses ms distinct t e).required i)
      (filter_once-same _ _ (λ x. sym (head_of_both t c x.0)) (listed ms)) (those_split _ _ (λ x. names_differ x.0) (listed ms))

  -- `if` that is read stands for itself, `then` and `else`
  pub claims_condition : (p : Planned) → p.condition ≡ true → (d : Data) → lookup_name (codes "if") (listed ms) ≡ Some d
      → IsPermutation ((codes "if", d) ∷ members_named (codes "then") (listed ms) ++ members_named (codes "else") (listed ms)) (claims (head p) (listed ms) (codes "if", d))
  claims_condition p e d there = subst₂ IsPermutation
      (λ i. named_once (codes "if") d (listed ms) (Distinct-from _ distinct) there i ++ (members_named (codes "then") (listed ms) ++ members_named (codes "else") (listed ms)))
      (filter_once-same (λ (x : Name × Data). bytes_eq (codes "if") x.0 || is_case x.0) (λ x. bytes_eq (codes "if") (head p x.0)) (λ x. sym (head_of_if p e x.0)) (listed ms))
      (IsPermutation-trans _ _ _ (IsPermutation-append _ _ _ _ (IsPermutation-refl _) cases)
      (those_split _ _ (λ x q. ap is_case (sym (same_name (codes "if") x.0 q))) (listed ms)))
    where
      cases : IsPermutation (members_named (codes "then") (listed ms) ++ members_named (codes "else") (listed ms)) (filter_once (λ x. is_case x.0) (listed ms))
      cases = subst (λ l. IsPermutation (members_named (codes "then") (listed ms) ++ members_named (codes "else") (listed ms)) l)
          (filter_once-same _ _ (λ x i. bytes_eq-sym (codes "then") x.0 i || (bytes_eq-sym (codes "else") x.0 ∙ sym (or-false _)) i) (listed ms))
          (those_split _ _ (λ x q. ap (bytes_eq (codes "else")) (sym (same_name (codes "then") x.0 q))) (listed ms))

  -- the head of each member is there
  head_there : (p : Planned) → p ≡ plan_of ms → (x : Name × Data) → lookup_name x.0 (listed ms) ≡ Some x.1 → is_among (head p x.0) (names_of (listed ms)) ≡ true
  head_there p e x there = over p.restricted (ap (λ q. q.restricted) e) p.fused_one (ap (λ q. q.fused_one) e) _ _
    where
      there_itself : is_among x.0 (names_of (listed ms)) ≡ true
      there_itself = lookup_among x.0 x.1 _ there

      past : (c : Bool) → c ≡ is_condition ms → (k : Bool) → is_among (cond (c && k) (codes "if") x.0) (names_of (listed ms)) ≡ true
      past true f true = let i = condition_there ms (sym f) in lookup_among (codes "if") i.0 (listed ms) i.1
      past _ f _ = there_itself

      by : (o : Option (Name × Name)) → o ≡ fused_pair ms → (b c : Bool) → c ≡ is_condition ms → (k : Bool)
          → is_among (head_where (is_some o && b) c k x.0) (names_of (listed ms)) ≡ true
      by (Some t) f true c g k = lookup_among (codes "properties") (fuses ms distinct t f).value (listed ms) (fuses ms distinct t f).declared
      by _ f _ c g k = past c g k

      not_taken : is_among (head_where (is_some p.fused_pair && bytes_eq (codes "required") x.0) p.condition (is_case x.0) x.0) (names_of (listed ms)) ≡ true
      not_taken = by p.fused_pair (ap (λ q. q.fused_pair) e) _ (p.condition) (ap (λ q. q.condition) e) _

      at_restriction : is_restricted ms ≡ true → is_among (codes "additionalProperties") (names_of (listed ms)) ≡ true
      at_restriction f = let r = restriction_there ms f in lookup_among (codes "additionalProperties") r.0 (listed ms) r.1

      over : (r : Bool) → r ≡ is_restricted ms → (o : Option Name) → o ≡ fused_one ms → (a b : Bool)
          → is_among (cond ((r && a) || (is_some o && b)) (codes "additionalProperties")
          (head_where (is_some p.fused_pair && bytes_eq (codes "required") x.0) p.condition (is_case x.0) x.0)) (names_of (listed ms)) ≡ true
      over true f o g true b = at_restriction (sym f)
      over true f (Some n) g false true = at_restriction (sym f)
      over false f (Some n) g a true = at_restriction (fused_is_restricted ms n (sym g))
      over _ f _ g _ _ = not_taken

  pub heads_there : (p : Planned) → p ≡ plan_of ms → Each (λ x. is_among (head p x.0) (names_of (listed ms)) ≡ true) (listed ms)
  heads_there p e = Each-implies (λ x. lookup_name x.0 (listed ms) ≡ Some x.1) _ (head_there p e) (listed ms) (Each-found _ (Distinct-from _ distinct))

-- ---- what the validator of `additionalProperties` stands for where it restricts other members

-- the keyword is one that the head of a restriction stands for
abbrev pub is_below : Planned → Name → Bool
is_below p n = bytes_eq (codes "additionalProperties") n || (bytes_eq (codes "properties") n || (bytes_eq (codes "patternProperties") n || (is_some p.fused_one && bytes_eq (codes "required") n)))

module _ (p : Planned) (restricted : p.restricted ≡ true) (unfused : is_some p.fused_pair ≡ false) where
  abbrev not_taken : Name → Name
  not_taken n = cond (is_some p.fused_pair && bytes_eq (codes "required") n) (codes "properties") (cond (p.condition && is_case n) (codes "if") n)

  not_taken_alone : (k n : Name) → bytes_eq k (codes "if") ≡ false → is_case k ≡ false → bytes_eq k (not_taken n) ≡ bytes_eq k n
  not_taken_alone k n e f =
      ap (λ b. bytes_eq k (cond (b && bytes_eq (codes "required") n) (codes "properties") (cond (p.condition && is_case n) (codes "if") n))) unfused ∙ past_cases p.condition k n (λ r. (e, f))

  pub head_of_restriction : (n : Name) → bytes_eq (codes "additionalProperties") (head p n) ≡ is_below p n
  head_of_restriction n =
      (λ i. bytes_eq (codes "additionalProperties") (cond ((restricted i && (bytes_eq-sym n (codes "properties") i || (bytes_eq-sym n (codes "patternProperties") i || false)))
      || (is_some p.fused_one && bytes_eq (codes "required") n)) (codes "additionalProperties") (not_taken n)))
      ∙ by (bytes_eq (codes "properties") n) (bytes_eq (codes "patternProperties") n) (is_some p.fused_one && bytes_eq (codes "required") n)
    where
      by : (a b c : Bool) → bytes_eq (codes "additionalProperties") (cond ((true && (a || (b || false))) || c) (codes "additionalProperties") (not_taken n)) ≡
          (bytes_eq (codes "additionalProperties") n || (a || (b || c)))
      by false false false = not_taken_alone (codes "additionalProperties") n refl refl ∙ sym (or-false _)
      by _ _ _ = sym (or-true _)

  -- what is taken over is the head of nothing
  taken_heads_none : (k : Name) → is_taken_over p k ≡ true → bytes_eq k (codes "additionalProperties") ≡ false → bytes_eq k (codes "if") ≡ false
      → is_case k ≡ false → (n : Name) → bytes_eq k (head p n) ≡ false
  taken_heads_none k e a b c n = by (is_taken_over p n) refl
    where
      by : (t : Bool) → is_taken_over p n ≡ t → bytes_eq k (cond t (codes "additionalProperties") (not_taken n)) ≡ false
      by true q = a
      by false q = not_taken_alone k n b c ∙ apart_by (is_taken_over p) k n e q

module _ (ms : Members) (restricted : is_restricted ms ≡ true) where
  abbrev plan : Planned
  plan = plan_of ms

  pub unfused : is_some plan.fused_pair ≡ false
  unfused = restricted_fuses_none ms restricted

  module _ (es : Rows) (d : Data) where
    pub claims_no_properties : claims (head (plan_of ms)) es (codes "properties", d) ≡ []
    claims_no_properties = filter_once-same _ (λ x. false)
        (λ x. taken_heads_none plan restricted unfused (codes "properties") (ap (λ b. (b && true) || (is_some plan.fused_one && false)) restricted) refl refl refl x.0) es ∙ those_none es

    pub claims_no_patterns : claims (head (plan_of ms)) es (codes "patternProperties", d) ≡ []
    claims_no_patterns = filter_once-same _ (λ x. false)
        (λ x. taken_heads_none plan restricted unfused (codes "patternProperties") (ap (λ b. (b && true) || (is_some plan.fused_one && false)) restricted) refl refl refl x.0) es ∙ those_none es

    pub claims_no_fused : is_some (fused_one ms) ≡ true → claims (head (plan_of ms)) es (codes "required", d) ≡ []
    claims_no_fused f = filter_once-same _ (λ x. false)
        (λ x. taken_heads_none plan restricted unfused (codes "required") (λ i. (restricted i && false) || (f i && true)) refl refl refl x.0) es ∙ those_none es

  module _ (distinct : has_repeat (names_of (listed ms)) ≡ false) where
    rows_found : (k : Name) → members_named k (listed ms) ≡ rows_at k ms
    rows_found k = members_found ms distinct k _ refl

    -- `required` of one name that is fused
    fused_found : (o : Option Name) → fused_one ms ≡ o → filter_once (λ x. is_some o && bytes_eq (codes "required") x.0) (listed ms) ≡ map
        (λ n. (codes "required", array (item (string n) no_items))) (option_to_list o)
    fused_found None e = those_none (listed ms)
    fused_found (Some n) e = named_once _ _ (listed ms) (Distinct-from _ distinct) (fuses_one_name ms n e).listed_at

    abbrev fused_here : Name → Bool
    fused_here n = is_some (fused_one ms) && bytes_eq (codes "required") n

    tested : IsPermutation (members_named (codes "additionalProperties") (listed ms)
        ++ (members_named (codes "properties") (listed ms) ++ (members_named (codes "patternProperties") (listed ms) ++ filter_once (λ x. fused_here x.0) (listed ms))))
        (filter_once (λ x. is_below plan x.0) (listed ms))
    tested = named_first (listed ms) (codes "additionalProperties") _ (and-false (is_some _))
        (named_first (listed ms) (codes "properties") _ (and-false (is_some _))
        (named_first (listed ms) (codes "patternProperties") fused_here (and-false _) (IsPermutation-refl _)))

    -- itself, `properties` and `patternProperties` where they stand, and `required` where it is fused
    pub claims_restriction : (d : Data) → lookup_name (codes "additionalProperties") (listed ms) ≡ Some d
        → IsPermutation ((codes "additionalProperties", d) ∷ (rows_at (codes "properties") ms ++ (rows_at (codes "patternProperties") ms ++ fused_rows ms)))
        (claims (head (plan_of ms)) (listed ms) (codes "additionalProperties", d))
    claims_restriction d there = subst₂ IsPermutation (λ i. named_once (codes "additionalProperties") d (listed ms) (Distinct-from _ distinct) there i
        ++ (rows_found (codes "properties") i ++ (rows_found (codes "patternProperties") i ++ fused_found _ refl i))) (filter_once-same _ _
        (λ x. sym (head_of_restriction plan restricted unfused x.0)) (listed ms))
        tested
