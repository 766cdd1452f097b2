-- No matcher is asked about a name, by a document either.
use Rattle.std.proofs.Common.{◌≡◌, ℕ, zero, suc, ◌+◌, Bool, true, false, cond, List, sum_by, option_to_list, refl, ◌∙◌, ap}
use Rattle.serde_json.specs.Data.{Data, string}
use Rattle.olk_spec.specs.Names.{Text, Name}
use Rattle.olk_spec.specs.World.{World}
use Rattle.olk_spec.specs.Vocabulary.{Keyword, any_of, one_of, not_keyword, if_keyword, keyword_named}
use Rattle.olk_spec.specs.Schemas.{Schema, keywords, Keywords, Part, answer_for}
use Rattle.olk_spec.specs.Meanings.{applied, Meaning, Asked}
use Rattle.olk_spec.specs.Asks.{own_asks, keyword_asks}
use Rattle.olk_spec.proofs.Each.{Each, Each-any, Each-implies, Each-map}
use Rattle.olk_spec.proofs.Applied.{GoodAsked, applied_good}
use Rattle.olk_spec.proofs.Induction.{good_answer, GoodSchema, GoodPart}
use Rattle.olk_document_spec.specs.Applied.{applied_to_items, referred, document_asks}
use Rattle.olk_document_spec.specs.Documents.{place_named, targets}
use Rattle.olk_document_spec.specs.Keywords.{Document_keyword, contains, document_keyword, beneath, Target, Targets}
use Rattle.olk_document_spec.specs.Steps.{document_step, meaning_under}
use Rattle.olk_document_spec.proofs.Applied.{applied_to_items_good, referred_good}
use Rattle.olk_meaning.proofs.Layer.{nothing_summed}

module _ (n : Name) where
  -- about this name it asks nothing
  abbrev AsksNothing : Data → Meaning → Type 0
  AsksNothing d m = m.asks (string n) ≡ 0

  abbrev IsName : Data → Type 0
  IsName v = v ≡ string n

  abbrev pub TargetAsksNothing : Target → Type 0
  TargetAsksNothing t = t.meaning.asks (string n) ≡ 0

  asked_nothing : (xs : List Asked) → Each (GoodAsked AsksNothing IsName) xs → sum_by (λ a. a.sub.answer.asks a.value) xs ≡ 0
  asked_nothing xs g = nothing_summed _ xs (Each-implies (GoodAsked AsksNothing IsName) _ (λ a h. ap a.sub.answer.asks h.1 ∙ h.0) xs g)

  module _ (k : Name) (p : Part Meaning) (good : GoodPart AsksNothing p) where
    module _ (W : World) (u : Bool) (S : Keywords Meaning) where
      items_nothing : sum_by (λ s. s.answer.asks (string n)) p.items ≡ 0
      items_nothing = nothing_summed _ p.items good.3

      where_nothing : (b : Bool) → cond b (p.whole.answer.asks (string n)) 0 ≡ 0
      where_nothing true = good.0
      where_nothing false = refl

      own_nothing : (w : Keyword) → own_asks W u S k p (string n) w ≡ 0
      own_nothing any_of = items_nothing
      own_nothing one_of = items_nothing
      own_nothing not_keyword = good.0
      own_nothing if_keyword = where_nothing _
      own_nothing _ = refl

      row_nothing : (w : Keyword) → keyword_asks W u S k p (string n) w ≡ 0
      row_nothing w = λ i. asked_nothing (applied W u S k p (string n) w) (applied_good AsksNothing IsName W u S k p good (string n) refl tt w) i + own_nothing w i

    module _ (T : Targets) (lawful : (t : Text) → Each TargetAsksNothing (T t)) (S : Keywords Meaning) where
      sums_nothing : (w : Document_keyword) → sum_by (λ a. a.sub.answer.asks a.value) (applied_to_items T S k p (string n) w) + sum_by (λ t. t.meaning.asks (string n)) (referred T S k p (string n) w) ≡ 0
      sums_nothing w = λ i. asked_nothing (applied_to_items T S k p (string n) w) (applied_to_items_good T S k p (string n) AsksNothing IsName good tt w) i
          + nothing_summed (λ t. t.meaning.asks (string n)) (referred T S k p (string n) w) (referred_good T S k p (string n) TargetAsksNothing lawful w) i

      document_row_nothing : (w : Document_keyword) → document_asks T S k p (string n) w ≡ 0
      document_row_nothing contains = refl
      document_row_nothing w = sums_nothing w

  module _ (W : World) (u : Bool) where
    module _ (T : Targets) (lawful : (t : Text) → Each TargetAsksNothing (T t)) where
      step_nothing : (S : Schema Meaning) → GoodSchema AsksNothing S → (document_step W u T S).asks (string n) ≡ 0
      step_nothing (keywords S) g = λ i.
          nothing_summed (λ m. keyword_asks (beneath W) u S m.0 m.1 (string n) (keyword_named (beneath W) m.0)) S
          (Each-implies _ _ (λ m h. row_nothing m.0 m.1 h (beneath W) u S (keyword_named (beneath W) m.0)) S g) i
          + nothing_summed (λ m. document_asks T S m.0 m.1 (string n) (document_keyword m.0)) S
          (Each-implies _ _ (λ m h. document_row_nothing m.0 m.1 h T lawful S (document_keyword m.0)) S g) i
      step_nothing _ g = refl

      pub under_nothing : (S : Data) → (answer_for (document_step W u T) S).asks (string n) ≡ 0
      under_nothing S = good_answer AsksNothing (document_step W u T) (λ d. step_nothing _) S

    pub targets_nothing : (D : Data) (k : ℕ) (t : Text) → Each TargetAsksNothing (targets W u D k t)
    unfolding targets meaning_under
    targets_nothing D zero t = tt
    targets_nothing D (suc k) t = Each-map TargetAsksNothing _ (option_to_list (place_named D t)) (Each-any _ (under_nothing (targets W u D k) (targets_nothing D k)) (option_to_list (place_named D t)))
