-- A schema in which no new name occurs means for a document what it means for the layer.
use Rattle.std.proofs.Common.{◌≡◌, ℕ, ◌+◌, Bool, true, false, ◌&&◌, List, [], ◌∷◌, ◌++◌, Option, refl, sym, ap, ◌∙◌, true≢false, arith}
use Rattle.std.specs.Prelude.{cond, sum_by}
use Rattle.std.specs.List.{flat_map, list_all}
use Rattle.std.proofs.lemmas.List.Sums.{sum_by-cons}
use Rattle.serde_json.specs.Data.{Data}
use Rattle.olk_spec.specs.Names.{Text, Name, Path}
use Rattle.olk_spec.specs.World.{World}
use Rattle.olk_spec.specs.Vocabulary.{keyword_named}
use Rattle.olk_spec.specs.Accepts.{keyword_accepts}
use Rattle.olk_spec.specs.Reports.{keyword_report}
use Rattle.olk_spec.specs.Trees.{keyword_child}
use Rattle.olk_spec.specs.Tree.{plain}
use Rattle.olk_spec.specs.Asks.{keyword_asks}
use Rattle.olk_spec.specs.Schemas.{keywords, Keywords, Part}
use Rattle.olk_spec.specs.Meanings.{Meaning}
use Rattle.olk_spec.specs.Meaning.{meaning_step, meaning}
use Rattle.olk_spec.specs.Faults.{Fault}
use Rattle.olk_spec.specs.Malformed.{keyword_malformations, malformations_step, malformations_at}
use Rattle.olk_document_spec.specs.Keywords.{Document_keyword, prefix_items, items, contains, reference, bound, other, document_keyword, is_other_keyword, is_other, beneath, Targets}
use Rattle.olk_document_spec.specs.Applied.{document_accepts, document_report, document_child, document_asks}
use Rattle.olk_document_spec.specs.Steps.{with_children, document_step, meaning_under}
use Rattle.olk_document_spec.specs.Documents.{reference_limit, targets}
use Rattle.olk_document_spec.specs.Plain.{is_plain}
use Rattle.olk_document_spec.specs.Malformed.{member_malformed, document_malformed, document_malformations_step, malformations_under, malformed_targets}
use Rattle.olk_document_spec.specs.Laws.{Conservative, Same_malformations}
use Rattle.olk_document_spec.proofs.Alike.{both_true, plain_alike}

and_true : (a : Bool) → (a && true) ≡ a
and_true true = refl
and_true false = refl

nothing_behind : {X : Type 0} (xs : List X) → (xs ++ []) ≡ xs
nothing_behind [] = refl
nothing_behind (x ∷ xs) = ap (λ ys. x ∷ ys) (nothing_behind xs)

none_more : (n : ℕ) → n + 0 ≡ n
none_more n = omega arith

pub is_other_one : (w : Document_keyword) → is_other_keyword w ≡ true → w ≡ other
is_other_one other e = refl
is_other_one prefix_items e = absurd (true≢false (sym e))
is_other_one items e = absurd (true≢false (sym e))
is_other_one contains e = absurd (true≢false (sym e))
is_other_one reference e = absurd (true≢false (sym e))
is_other_one bound e = absurd (true≢false (sym e))

-- where the test holds of each, f is g
module _ {X : Type 0} (t : X → Bool) where
  all_same : (f g : X → Bool) → ((x : X) → t x ≡ true → f x ≡ g x) → (xs : List X) → list_all t xs ≡ true → list_all f xs ≡ list_all g xs
  all_same f g h [] e = refl
  all_same f g h (x ∷ xs) e = let b = both_true (t x) (list_all t xs) e in λ i. h x b.0 i && all_same f g h xs b.1 i

  all_true : (g : X → Bool) → ((x : X) → t x ≡ true → g x ≡ true) → (xs : List X) → list_all t xs ≡ true → list_all g xs ≡ true
  all_true g h [] e = refl
  all_true g h (x ∷ xs) e = let b = both_true (t x) (list_all t xs) e in λ i. h x b.0 i && all_true g h xs b.1 i

  each_same : {Y : Type 0} (f g : X → List Y) → ((x : X) → t x ≡ true → f x ≡ g x) → (xs : List X) → list_all t xs ≡ true → flat_map f xs ≡ flat_map g xs
  each_same f g h [] e = refl
  each_same f g h (x ∷ xs) e = let b = both_true (t x) (list_all t xs) e in λ i. h x b.0 i ++ each_same f g h xs b.1 i

  none_each : {Y : Type 0} (g : X → List Y) → ((x : X) → t x ≡ true → g x ≡ []) → (xs : List X) → list_all t xs ≡ true → flat_map g xs ≡ []
  none_each g h [] e = refl
  none_each g h (x ∷ xs) e = let b = both_true (t x) (list_all t xs) e in λ i. h x b.0 i ++ none_each g h xs b.1 i

  sums_same : (f g : X → ℕ) → ((x : X) → t x ≡ true → f x ≡ g x) → (xs : List X) → list_all t xs ≡ true → sum_by f xs ≡ sum_by g xs
  sums_same f g h [] e = refl
  sums_same f g h (x ∷ xs) e = let b = both_true (t x) (list_all t xs) e in
      sum_by-cons f x xs ∙ (λ i. h x b.0 i + sums_same f g h xs b.1 i) ∙ sym (sum_by-cons g x xs)

  sum_none : (g : X → ℕ) → ((x : X) → t x ≡ true → g x ≡ 0) → (xs : List X) → list_all t xs ≡ true → sum_by g xs ≡ 0
  sum_none g h [] e = refl
  sum_none g h (x ∷ xs) e = let b = both_true (t x) (list_all t xs) e in
      sum_by-cons g x xs ∙ (λ i. h x b.0 i + sum_none g h xs b.1 i)

module _ (W : World) (u : Bool) (T : Targets) where
  named_alike : (n : Name) → is_other n ≡ true → keyword_named (beneath W) n ≡ keyword_named W n
  named_alike n e = rw e refl

  abbrev Member : Type 0
  Member = Name × Part Meaning

  abbrev old_name : Member → Bool
  old_name m = is_other m.0

  -- one step: where no new name is a member's
  module _ (S : Keywords Meaning) (plain_names : list_all old_name S ≡ true) where
    none_of : (m : Member) → old_name m ≡ true → document_keyword m.0 ≡ other
    none_of m e = is_other_one (document_keyword m.0) e

    accepts_alike : (v : Data) → (document_step W u T (keywords S)).accepts v ≡ (meaning_step W u (keywords S)).accepts v
    accepts_alike v =
        (λ i. all_same old_name (λ m. keyword_accepts (beneath W) u S m.0 m.1 v (keyword_named (beneath W) m.0)) (λ m. keyword_accepts W u S m.0 m.1 v (keyword_named W m.0)) (λ m e. ap (keyword_accepts W u S m.0 m.1 v) (named_alike m.0 e)) S plain_names i
        && all_true old_name (λ m. document_accepts T S m.0 m.1 v (document_keyword m.0)) (λ m e. ap (document_accepts T S m.0 m.1 v) (none_of m e)) S plain_names i)
        ∙ and_true ((meaning_step W u (keywords S)).accepts v)

    report_alike : (v : Data) (P Q : Path) → (document_step W u T (keywords S)).report v P Q ≡ (meaning_step W u (keywords S)).report v P Q
    report_alike v P Q =
        (λ i. each_same old_name (λ m. keyword_report (beneath W) u S m.0 m.1 v P Q (keyword_named (beneath W) m.0)) (λ m. keyword_report W u S m.0 m.1 v P Q (keyword_named W m.0)) (λ m e. ap (keyword_report W u S m.0 m.1 v P Q) (named_alike m.0 e)) S plain_names i
        ++ none_each old_name (λ m. document_report T S m.0 m.1 v P Q (document_keyword m.0)) (λ m e. ap (document_report T S m.0 m.1 v P Q) (none_of m e)) S plain_names i)
        ∙ nothing_behind ((meaning_step W u (keywords S)).report v P Q)

    tree_alike : (v : Data) (P Q : Path) → (document_step W u T (keywords S)).tree v P Q ≡ (meaning_step W u (keywords S)).tree v P Q
    tree_alike v P Q =
        ap (with_children ((meaning_step (beneath W) u (keywords S)).tree v P Q)) (none_each old_name (λ m. document_child T S m.0 m.1 v P Q (document_keyword m.0)) (λ m e. ap (document_child T S m.0 m.1 v P Q) (none_of m e)) S plain_names)
        ∙ ap (plain P Q) (each_same old_name (λ m. keyword_child (beneath W) u S v P Q m.0 m.1 (keyword_named (beneath W) m.0)) (λ m. keyword_child W u S v P Q m.0 m.1 (keyword_named W m.0)) (λ m e. ap (keyword_child W u S v P Q m.0 m.1) (named_alike m.0 e)) S plain_names)

    asks_alike : (v : Data) → (document_step W u T (keywords S)).asks v ≡ (meaning_step W u (keywords S)).asks v
    asks_alike v =
        (λ i. sums_same old_name (λ m. keyword_asks (beneath W) u S m.0 m.1 v (keyword_named (beneath W) m.0)) (λ m. keyword_asks W u S m.0 m.1 v (keyword_named W m.0)) (λ m e. ap (keyword_asks W u S m.0 m.1 v) (named_alike m.0 e)) S plain_names i
        + sum_none old_name (λ m. document_asks T S m.0 m.1 v (document_keyword m.0)) (λ m e. ap (document_asks T S m.0 m.1 v) (none_of m e)) S plain_names i)
        ∙ none_more ((meaning_step W u (keywords S)).asks v)

    pub step_alike : document_step W u T (keywords S) ≡ meaning_step W u (keywords S)
    step_alike = λ i. record { accepts = λ v. accepts_alike v i; report = λ v P Q. report_alike v P Q i; tree = λ v P Q. tree_alike v P Q i; asks = λ v. asks_alike v i }

  -- the law
  pub same_under : (S : Data) → is_plain S ≡ true → meaning_under W u T S ≡ meaning W u S
  unfolding meaning_under meaning
  same_under S e = plain_alike (document_step W u T) (meaning_step W u) (λ b. refl) (λ d. refl) step_alike S e

pub conservative : Conservative
conservative W u D e = same_under W u (targets W u D reference_limit) D e

module _ (W : World) (M : Text → Option (List Fault)) where
  abbrev Refused : Type 0
  Refused = Path → List Fault

  abbrev is_old : Name × Part Refused → Bool
  is_old m = is_other m.0

  member_alike : (S : Keywords Refused) (P : Path) (m : Name × Part Refused) → is_old m ≡ true → member_malformed W M S m.0 m.1 P ≡ keyword_malformations W S m.0 m.1 P (keyword_named W m.0)
  member_alike S P m e = ap (λ b. cond b (keyword_malformations (beneath W) S m.0 m.1 P (keyword_named (beneath W) m.0)) (document_malformed M m.0 m.1 P (document_keyword m.0))) e
      ∙ ap (keyword_malformations W S m.0 m.1 P) (named_alike W true (λ t. []) m.0 e)

  malformed_alike : (S : Keywords Refused) → list_all is_old S ≡ true → document_malformations_step W M (keywords S) ≡ malformations_step W (keywords S)
  malformed_alike S plain_names = λ i P. each_same is_old (λ m. member_malformed W M S m.0 m.1 P) (λ m. keyword_malformations W S m.0 m.1 P (keyword_named W m.0)) (member_alike S P) S plain_names i

  malformed_same : (S : Data) → is_plain S ≡ true → malformations_under W M S ≡ malformations_at W S
  unfolding malformations_under malformations_at
  malformed_same S e = plain_alike (document_malformations_step W M) (malformations_step W) (λ b. refl) (λ d. refl) malformed_alike S e

pub same_malformations : Same_malformations
same_malformations W D e = λ i. malformed_same W (malformed_targets W D reference_limit) D e i []
