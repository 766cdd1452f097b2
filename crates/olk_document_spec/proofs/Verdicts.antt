-- A document accepts a value exactly where it finds no fault in it.
use Rattle.std.specs.Prelude.{◌≡◌, ⊤, ℕ, zero, suc, Bool, true, ◌&&◌, List, ◌++◌, option_to_list}
use Rattle.std.proofs.Common.{refl, sym, ◌∙◌}
use Rattle.serde_json.specs.Data.{Data}
use Rattle.olk_spec.specs.Names.{Text, Name, Path, is_empty, ◌//◌}
use Rattle.olk_spec.specs.World.{World}
use Rattle.olk_spec.specs.Faults.{Leaf}
use Rattle.olk_spec.specs.Malformed.{items_of_array}
use Rattle.olk_spec.specs.Schemas.{Schema, truth, keywords, Keywords, Part}
use Rattle.olk_spec.specs.Meanings.{Meaning, holds}
use Rattle.olk_spec.proofs.Applied.{GoodAsked}
use Rattle.olk_spec.proofs.Each.{Each, Each-any, Each-implies, Each-map}
use Rattle.olk_spec.proofs.Induction.{GoodPart, GoodSchema, good_answer}
use Rattle.olk_spec.proofs.Verdicts.{is_empty-append, all_empty, none_if, keyword_row, Agrees}
use Rattle.olk_document_spec.specs.Keywords.{Document_keyword, contains, document_keyword, beneath, Target, Targets}
use Rattle.olk_document_spec.specs.Applied.{applied_to_items, referred, is_lacking, contains_text, document_wanted, document_own, document_accepts, document_report}
use Rattle.olk_document_spec.specs.Steps.{document_step, meaning_under}
use Rattle.olk_document_spec.specs.Documents.{place_named, reference_limit, targets}
use Rattle.olk_document_spec.specs.Laws.{Verdict_of_reports}
use Rattle.olk_document_spec.proofs.Applied.{applied_to_items_good, referred_good}

-- the verdict of a meaning is that of its reports
abbrev IsOne : Meaning → Type 0
IsOne m = (v : Data) (P Q : Path) → m.accepts v ≡ is_empty (m.report v P Q)

abbrev TargetIsOne : Target → Type 0
TargetIsOne t = IsOne t.meaning

both_empty : {A : Type 0} (a b : Bool) (xs ys : List A) → a ≡ is_empty xs → b ≡ is_empty ys → (a && b) ≡ is_empty (xs ++ ys)
both_empty a b xs ys e f = (λ i. e i && f i) ∙ sym (is_empty-append xs ys)

module _ (W : World) (u : Bool) (T : Targets) (lawful : (t : Text) → Each TargetIsOne (T t)) where
  module _ (S : Keywords Meaning) (k : Name) (p : Part Meaning) (h : GoodPart (Agrees W u) p) (v : Data) (P Q : Path) where
    own_row : (w : Document_keyword) → document_wanted T S k p v w ≡ is_empty (document_own T S k p v P Q w)
    own_row contains = none_if (is_lacking T S k p v) (Leaf k (contains_text v)) v (P // k) Q
    own_row _ = refl

    document_row : (w : Document_keyword) → document_accepts T S k p v w ≡ is_empty (document_report T S k p v P Q w)
    document_row w = both_empty _ _ _ _
        (both_empty _ _ _ _
        (all_empty (λ a. holds a.sub a.value) (λ a. a.sub.answer.report a.value _ _) (applied_to_items T S k p v w)
        (Each-implies (GoodAsked (Agrees W u) (λ d. ⊤)) _ (λ a g. g.0 a.value _ _) (applied_to_items T S k p v w) (applied_to_items_good T S k p v (Agrees W u) (λ d. ⊤) h (Each-any (λ d. ⊤) (λ d. tt) (items_of_array v)) w)))
        (all_empty (λ t. t.meaning.accepts v) (λ t. t.meaning.report v t.place Q) (referred T S k p v w) (Each-implies TargetIsOne _ (λ t g. g v t.place Q) (referred T S k p v w) (referred_good T S k p v TargetIsOne lawful w))))
        (own_row w)

  keep : (S : Schema Meaning) → GoodSchema (Agrees W u) S → IsOne (document_step W u T S)
  keep (truth true) h v P Q = refl
  keep (keywords S) h v P Q = both_empty _ _ _ _
      (all_empty _ _ S (Each-implies _ _ (λ m g. keyword_row (beneath W) u S m.0 m.1 g v P Q _) S h))
      (all_empty _ _ S (Each-implies _ _ (λ m g. document_row S m.0 m.1 g v P Q (document_keyword m.0)) S h))
  keep _ h v P Q = refl

  one_under : (d : Data) → IsOne (meaning_under W u T d)
  unfolding meaning_under
  one_under d = good_answer (Agrees W u) (document_step W u T) (λ d. keep _) d

lawful_targets : (W : World) (u : Bool) (D : Data) (n : ℕ) (t : Text) → Each TargetIsOne (targets W u D n t)
unfolding targets
lawful_targets W u D zero t = tt
lawful_targets W u D (suc n) t = Each-map TargetIsOne _ (option_to_list (place_named D t)) (Each-any (λ d. IsOne (meaning_under W u (targets W u D n) d)) (one_under W u (targets W u D n) (lawful_targets W u D n)) (option_to_list (place_named D t)))

pub verdict_of_reports : Verdict_of_reports
verdict_of_reports W u D = one_under W u (targets W u D reference_limit) (lawful_targets W u D reference_limit) D
