-- Where references lead to no other one, following them more often means the same.
use Rattle.std.specs.Prelude.{◌≡◌, ℕ, zero, suc, ◌+◌, Bool, true, false, not, ◌&&◌, ◌||◌, List, [], ◌∷◌, ◌++◌, map, drop, sum_by, option_to_list}
use Rattle.std.specs.List.{flat_map, list_all, list_any}
use Rattle.std.proofs.Common.{refl, sym, ap, subst, ◌∙◌, true≢false, arith}
use Rattle.std.proofs.lemmas.List.Sums.{sum_by-cons}
use Rattle.serde_json.specs.Data.{Data, Items, no_items, item, Members, no_members, member}
use Rattle.olk_spec.specs.Names.{Text, Name, Path, ◌//◌, is_empty}
use Rattle.olk_spec.specs.World.{World}
use Rattle.olk_spec.specs.Meaning.{meaning_step}
use Rattle.olk_spec.specs.Meanings.{Meaning}
use Rattle.olk_spec.specs.Schemas.{keywords, Keywords, Part, as_text, read_members}
use Rattle.olk_spec.specs.Tree.{plain}
use Rattle.olk_spec.proofs.Each.{Each, Each-implies}
use Rattle.olk_spec.proofs.Induction.{EachItem, EachMember}
use Rattle.olk_spec.proofs.Reading.{schema_of_read}
use Rattle.olk_spec.proofs.Walks.{list_all-alike}
use Rattle.olk_document_spec.specs.Applied.{referred, document_accepts, document_report, document_child, document_asks}
use Rattle.olk_document_spec.specs.Documents.{place_named, reference_limit, targets}
use Rattle.olk_document_spec.specs.Following.{referring_text, referring_texts, referring_items, referring_members, goes_on}
use Rattle.olk_document_spec.specs.Keywords.{Document_keyword, reference, document_keyword, beneath, Target, Targets}
use Rattle.olk_document_spec.specs.Laws.{Followed_more_often}
use Rattle.olk_document_spec.specs.Steps.{with_children, document_step, meaning_under}
use Rattle.olk_document_spec.proofs.Alike.{answer_alike}

-- ---- lists

module _ {X : Type 0} (P : X → Type 0) where
  pub Each-apart : (xs ys : List X) → Each P (xs ++ ys) → Each P xs × Each P ys
  Each-apart [] ys h = (tt, h)
  Each-apart (x ∷ xs) ys h = let rest = Each-apart xs ys h.1 in ((h.0, rest.0), rest.1)

neither : (a b : Bool) → (a || b) ≡ false → (a ≡ false) × (b ≡ false)
neither false b e = (refl, e)
neither true b e = absurd (true≢false e)

module _ {X : Type 0} where
  nothing_left : (xs : List X) → not (is_empty xs) ≡ false → xs ≡ []
  nothing_left [] e = refl
  nothing_left (x ∷ xs) e = absurd (true≢false e)

  none_of : (f : X → Bool) (xs : List X) → list_any f xs ≡ false → Each (λ x. f x ≡ false) xs
  none_of f [] e = tt
  none_of f (x ∷ xs) e = let b = neither (f x) (list_any f xs) e in (b.0, none_of f xs b.1)

module _ {X Y : Type 0} where
  map_same : (f g : X → Y) (xs : List X) → Each (λ x. f x ≡ g x) xs → map f xs ≡ map g xs
  map_same f g [] h = refl
  map_same f g (x ∷ xs) h = λ i. h.0 i ∷ map_same f g xs h.1 i

  flat_map_same : (f g : X → List Y) (xs : List X) → Each (λ x. f x ≡ g x) xs → flat_map f xs ≡ flat_map g xs
  flat_map_same f g [] h = refl
  flat_map_same f g (x ∷ xs) h = λ i. h.0 i ++ flat_map_same f g xs h.1 i

sum_same : {X : Type 0} (f g : X → ℕ) (xs : List X) → Each (λ x. f x ≡ g x) xs → sum_by f xs ≡ sum_by g xs
sum_same f g [] h = refl
sum_same f g (x ∷ xs) h = sum_by-cons f x xs ∙ (λ i. h.0 i + sum_same f g xs h.1 i) ∙ sym (sum_by-cons g x xs)

-- ---- texts that name the same places by T and by U

module _ (W : World) (u : Bool) (T U : Targets) where
  abbrev AllSame : List Text → Type 0
  AllSame ts = Each (λ t. T t ≡ U t) ts

  abbrev IsSame : Data → Type 0
  IsSame d = AllSame (referring_texts d)

  items_same : (ds : Items) → AllSame (referring_items ds) → EachItem IsSame ds
  items_same no_items h = tt
  items_same (item d ds) h = let b = Each-apart (λ t. T t ≡ U t) (referring_texts d) (referring_items ds) h in (b.0, items_same ds b.1)

  members_same : (ms : Members) → AllSame (referring_members ms) → EachMember IsSame ms
  members_same no_members h = tt
  members_same (member n d ms) h =
      let b = Each-apart (λ t. T t ≡ U t) (referring_text (document_keyword n) d) (referring_texts d ++ referring_members ms) h in
      let c = Each-apart (λ t. T t ≡ U t) (referring_texts d) (referring_members ms) b.1 in
      (c.0, members_same ms c.1)

  abbrev RefersSame : Name × Part Meaning → Type 0
  RefersSame m = AllSame (referring_text (document_keyword m.0) m.1.whole.schema)

  abbrev step : Members → Keywords Meaning
  step ms = read_members (document_step W u U) ms

  keywords_same : (ms : Members) → AllSame (referring_members ms) → Each RefersSame (step ms)
  keywords_same no_members h = tt
  keywords_same (member n d ms) h =
      let b = Each-apart (λ t. T t ≡ U t) (referring_text (document_keyword n) d) (referring_texts d ++ referring_members ms) h in
      let c = Each-apart (λ t. T t ≡ U t) (referring_texts d) (referring_members ms) b.1 in
      (subst (λ s. AllSame (referring_text (document_keyword n) s)) (sym (schema_of_read (document_step W u U) d)) b.0, keywords_same ms c.1)

  module _ (S : Keywords Meaning) (v : Data) where
    module _ (k : Name) (p : Part Meaning) where
      abbrev Same : Document_keyword → Type 0
      Same w = AllSame (referring_text w p.whole.schema)

      targets_same : Same reference → referred T S k p v reference ≡ referred U S k p v reference
      targets_same h = flat_map_same T U (as_text p.whole.schema) h

      accepts_same : (w : Document_keyword) → Same w → document_accepts T S k p v w ≡ document_accepts U S k p v w
      accepts_same reference h = ap (λ ts. list_all (λ t. t.meaning.accepts v) ts && true) (targets_same h)
      accepts_same _ h = refl

      asks_same : (w : Document_keyword) → Same w → document_asks T S k p v w ≡ document_asks U S k p v w
      asks_same reference h = ap (λ ts. 0 + sum_by (λ t. t.meaning.asks v) ts) (targets_same h)
      asks_same _ h = refl

      module _ (P Q : Path) where
        report_same : (w : Document_keyword) → Same w → document_report T S k p v P Q w ≡ document_report U S k p v P Q w
        report_same reference h = ap (λ ts. flat_map (λ t. t.meaning.report v t.place Q) ts ++ []) (targets_same h)
        report_same _ h = refl

        child_same : (w : Document_keyword) → Same w → document_child T S k p v P Q w ≡ document_child U S k p v P Q w
        child_same reference h = ap (λ ts. plain (P // k) Q (map (λ t. t.meaning.tree v t.place Q) ts) ∷ []) (targets_same h)
        child_same _ h = refl

    module _ (h : Each RefersSame S) where
      all_accept_same : list_all (λ m. document_accepts T S m.0 m.1 v (document_keyword m.0)) S ≡ list_all (λ m. document_accepts U S m.0 m.1 v (document_keyword m.0)) S
      all_accept_same = list_all-alike (λ m (e : RefersSame m). accepts_same m.0 m.1 (document_keyword m.0) e) S h

      all_ask_same : sum_by (λ m. document_asks T S m.0 m.1 v (document_keyword m.0)) S ≡ sum_by (λ m. document_asks U S m.0 m.1 v (document_keyword m.0)) S
      all_ask_same = sum_same _ _ S (Each-implies RefersSame _ (λ m e. asks_same m.0 m.1 (document_keyword m.0) e) S h)

      module _ (P Q : Path) where
        all_report_same : flat_map (λ m. document_report T S m.0 m.1 v P Q (document_keyword m.0)) S ≡ flat_map (λ m. document_report U S m.0 m.1 v P Q (document_keyword m.0)) S
        all_report_same = flat_map_same _ _ S (Each-implies RefersSame _ (λ m e. report_same m.0 m.1 P Q (document_keyword m.0) e) S h)

        all_show_same : flat_map (λ m. document_child T S m.0 m.1 v P Q (document_keyword m.0)) S ≡ flat_map (λ m. document_child U S m.0 m.1 v P Q (document_keyword m.0)) S
        all_show_same = flat_map_same _ _ S (Each-implies RefersSame _ (λ m e. child_same m.0 m.1 P Q (document_keyword m.0) e) S h)

  step_same : (S : Keywords Meaning) → Each RefersSame S → document_step W u T (keywords S) ≡ document_step W u U (keywords S)
  step_same S h =
      let layer = meaning_step (beneath W) u (keywords S) in
      λ i. record {
        accepts = λ v. layer.accepts v && all_accept_same S v h i;
        report = λ v P Q. layer.report v P Q ++ all_report_same S v h P Q i;
        tree = λ v P Q. with_children (layer.tree v P Q) (all_show_same S v h P Q i);
        asks = λ v. layer.asks v + all_ask_same S v h i;
      }

  under_same : (d : Data) → IsSame d → meaning_under W u T d ≡ meaning_under W u U d
  unfolding meaning_under
  under_same d h = answer_alike (document_step W u T) (document_step W u U) IsSame items_same members_same (λ b. refl) (λ e. refl) (λ ms e. step_same (step ms) (keywords_same ms e)) d h

-- ---- the law

module _ (W : World) (u : Bool) (D : Data) where
  abbrev target_at : ℕ → Text → Data → Target
  target_at m t d = record { place = drop 1 t; meaning = meaning_under W u (targets W u D m) d }

  -- where it is the same at each place from which they go on no more than k times, it is so at a text that names such places
  module _ (n k : ℕ) (same : (d : Data) → goes_on D k d ≡ false → Each (λ t. targets W u D (k + n) t ≡ targets W u D k t) (referring_texts d)) where
    at_place : (t : Text) (d : Data) → goes_on D k d ≡ false → target_at (k + n) t d ≡ target_at k t d
    at_place t d e = ap (λ m. record { place = drop 1 t; meaning = m }) (under_same W u (targets W u D (k + n)) (targets W u D k) d (same d e))

    at_text : (t : Text) → list_any (goes_on D k) (option_to_list (place_named D t)) ≡ false → targets W u D (suc k + n) t ≡ targets W u D (suc k) t
    unfolding targets
    at_text t e = let so : suc k + n ≡ suc (k + n) = omega arith in
        ap (λ m. targets W u D m t) so
        ∙ map_same (target_at (k + n) t) (target_at k t) (option_to_list (place_named D t))
        (Each-implies (λ d. goes_on D k d ≡ false) (λ d. target_at (k + n) t d ≡ target_at k t d) (at_place t) (option_to_list (place_named D t)) (none_of (goes_on D k) (option_to_list (place_named D t)) e))

  -- where references go on no more than k times, following them k times or more often is the same
  more_often : (n k : ℕ) (d : Data) → goes_on D k d ≡ false → Each (λ t. targets W u D (k + n) t ≡ targets W u D k t) (referring_texts d)
  unfolding goes_on
  more_often n zero d e = subst (Each (λ t. targets W u D (0 + n) t ≡ targets W u D 0 t)) (sym (nothing_left (referring_texts d) e)) tt
  more_often n (suc k) d e = Each-implies (λ t. list_any (goes_on D k) (option_to_list (place_named D t)) ≡ false) (λ t. targets W u D (suc k + n) t ≡ targets W u D (suc k) t)
      (at_text n k (more_often n k)) (referring_texts d) (none_of (λ t. list_any (goes_on D k) (option_to_list (place_named D t))) (referring_texts d) e)

pub followed_more_often : Followed_more_often
followed_more_often W u D n e = under_same W u (targets W u D (reference_limit + n)) (targets W u D reference_limit) D (more_often W u D n reference_limit D e)
