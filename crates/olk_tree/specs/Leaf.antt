-- A leaf: what it answers.
use Rattle.std.specs.Prelude.{true, map, [], ◌∷◌}
use Rattle.olk_spec.specs.Names.{Path, is_empty}
use Rattle.olk_spec.specs.Faults.{fault, Leaf}
use Rattle.olk_spec.specs.Tree.{leaf_node, described}
use Rattle.olk_spec.proofs.Verdicts.{is_empty-map}
use Rattle.olk_base.specs.Kit.{Kit}
use Rattle.olk_meaning.specs.Chosen.{leaf_form}
use Rattle.olk_tree.specs.Answers.{Answers}
use Rattle.olk_tree.specs.Questions.{always}

abbrev pub leaf_answers : {K R : Type 0} → Kit K R → Path → K → Answers
leaf_answers o P l = record {
  means = λ v. always (is_empty (o.finds l v));
  report = λ u v Q. map (λ t. fault (Leaf (o.keyword_of l) t) v Q P) (o.finds l v);
  agrees = λ u v Q. is_empty-map (λ t. fault (Leaf (o.keyword_of l) t) v Q P) (o.finds l v);
  first = λ u v Q. map (λ t. fault (Leaf (o.keyword_of l) t) v Q P) (o.finds l v);
  first_agrees = λ u v Q. is_empty-map (λ t. fault (Leaf (o.keyword_of l) t) v Q P) (o.finds l v);
  tree = λ u v Q. leaf_node P Q (described (map (λ t. fault (Leaf (o.keyword_of l) t) v Q P) (o.finds l v)));
  location = P;
  formed = true;
  forms = (P, leaf_form) ∷ [];
}
