-- Nodes that answer as schemas at places, one beside the other.
use Rattle.std.specs.Prelude.{◌≡◌, ◌≤◌, ⊤, ℕ, ◌+◌, Bool, ◌&&◌, List, [], ◌∷◌, ◌++◌, map, sum_by}
use Rattle.std.specs.List.{list_all, flat_map}
use Rattle.std.proofs.Common.{refl, ap, arith}
use Rattle.std.proofs.lemmas.List.Sums.{sum_by-cons}
use Rattle.serde_json.specs.Data.{Data}
use Rattle.olk_spec.specs.Names.{Path, is_empty}
use Rattle.olk_spec.specs.Faults.{Fault, ◌∼◌, like_empty}
use Rattle.olk_meaning.specs.Steps.{accepts, asks, report, tree}
use Rattle.olk_spec.specs.Tree.{Tree}
use Rattle.olk_spec.proofs.Order.{∼_append}
use Rattle.olk_base.specs.Kit.{Kit}
use Rattle.olk_tree.specs.Steps.{StepsOf}
use Rattle.olk_tree.specs.Questions.{Question, every, of_asked}
use Rattle.olk_tree.specs.Sides.{AnswersAs}

pub more_within : (a b c d e : ℕ) → a ≤ b → c ≤ d → e ≡ b + d → a + c ≤ e
more_within a b c d e h k s = omega (arith, h, k, s)

module _ {K R N : Type 0} {o : Kit K R} (I : StepsOf o) (m : N → Data → Question) (r : N → Bool → Data → Path → List Fault) (t : N → Bool → Data → Path → Tree) where
  abbrev pub AnswerAs : List N → List (Data × Path) → Type 0
  AnswerAs [] [] = ⊤
  AnswerAs (n ∷ ns) (s ∷ ss) = AnswersAs I m r t n s.0 s.1 × AnswerAs ns ss
  AnswerAs _ _ = ⊥

  pub answer_append : (ns : List N) (ss : List (Data × Path)) (ks : List N) (ts : List (Data × Path)) → AnswerAs ns ss → AnswerAs ks ts → AnswerAs (ns ++ ks) (ss ++ ts)
  answer_append [] [] ks ts h g = g
  answer_append (n ∷ ns) (s ∷ ss) ks ts h g = (h.0, answer_append ns ss ks ts h.1 g)
  answer_append _ _ ks ts h g = absurd h

  pub both_empty : (ns : List N) (ss : List (Data × Path)) → AnswerAs ns ss → is_empty ns ≡ is_empty ss
  both_empty [] [] h = refl
  both_empty (n ∷ ns) (s ∷ ss) h = refl
  both_empty _ _ h = absurd h

  pub same_marks : {A : Type 0} (a : A) (ns : List N) (ss : List (Data × Path)) → AnswerAs ns ss → map (λ n. a) ns ≡ map (λ s. a) ss
  same_marks a [] [] h = refl
  same_marks a (n ∷ ns) (s ∷ ss) h = ap (λ l. a ∷ l) (same_marks a ns ss h.1)
  same_marks a _ _ h = absurd h

  module _ (u : Bool) (v : Data) where
    pub all_accept : (ns : List N) (ss : List (Data × Path)) → AnswerAs ns ss → (every (λ n. m n v) ns).accepts u ≡ list_all (λ s. accepts I.steps u s.0 v) ss
    all_accept [] [] h = refl
    all_accept (n ∷ ns) (s ∷ ss) h = λ i. h.0.verdict u v i && all_accept ns ss h.1 i
    all_accept _ _ h = absurd h

    pub all_ask : (ns : List N) (ss : List (Data × Path)) → AnswerAs ns ss → (every (λ n. m n v) ns).asks of_asked u ≤ sum_by (λ s. asks I.steps u s.0 v) ss
    all_ask [] [] h = omega arith
    all_ask (n ∷ ns) (s ∷ ss) h = more_within _ _ _ _ _ (h.0.asks_within u v) (all_ask ns ss h.1) (sum_by-cons (λ z. asks I.steps u z.0 v) s ss)
    all_ask _ _ h = absurd h

    pub all_find : (Q : Path) (ns : List N) (ss : List (Data × Path)) → AnswerAs ns ss → flat_map (λ n. r n u v Q) ns ∼ flat_map (λ s. report I.steps u s.0 v s.1 Q) ss
    all_find Q [] [] h = like_empty
    all_find Q (n ∷ ns) (s ∷ ss) h = ∼_append (h.0.faults u v Q) (all_find Q ns ss h.1)
    all_find Q _ _ h = absurd h

    pub all_show : (Q : Path) (ns : List N) (ss : List (Data × Path)) → AnswerAs ns ss → map (λ n. t n u v Q) ns ≡ map (λ s. tree I.steps u s.0 v s.1 Q) ss
    all_show Q [] [] h = refl
    all_show Q (n ∷ ns) (s ∷ ss) h = λ i. h.0.shows u v Q i ∷ all_show Q ns ss h.1 i
    all_show Q _ _ h = absurd h
