-- The step of a document: that of the layer and, behind it, the rows of the document's keywords.
use Rattle.std.specs.Prelude.{◌+◌, Bool, ◌&&◌, List, [], ◌∷◌, ◌++◌, sum_by}
use Rattle.std.specs.List.{flat_map, list_all}
use Rattle.serde_json.specs.Data.{Data}
use Rattle.olk_spec.specs.World.{World}
use Rattle.olk_spec.specs.Tree.{Tree, node, leaf_node, no_tree, Trees, and_tree, trees_from, is_valid, result_node}
use Rattle.olk_spec.specs.Schemas.{Schema, truth, keywords, no_schema, Keywords, answer_for}
use Rattle.olk_spec.specs.Meanings.{Meaning}
use Rattle.olk_spec.specs.Meaning.{meaning_step}
use Rattle.olk_document_spec.specs.Keywords.{document_keyword, beneath, Targets}
use Rattle.olk_document_spec.specs.Applied.{document_accepts, document_report, document_child, document_asks}

abbrev pub behind : Trees → List Tree → Trees
behind no_tree us = trees_from us
behind (and_tree t ts) us = and_tree t (behind ts us)

-- with more children behind its own, a tree is valid where it was and they are
abbrev pub with_children : Tree → List Tree → Tree
with_children t [] = t
with_children (node P Q b a es ts) (u ∷ us) = result_node P Q (b && list_all is_valid (u ∷ us)) a es (behind ts (u ∷ us))
with_children (leaf_node P Q es) (u ∷ us) = leaf_node P Q es

module _ (W : World) (u : Bool) (T : Targets) where
  abbrev pub beside : Keywords Meaning → Meaning → Meaning
  beside S m = record {
    accepts = λ v. m.accepts v && list_all (λ e. document_accepts T S e.0 e.1 v (document_keyword e.0)) S;
    report = λ v P Q. m.report v P Q ++ flat_map (λ e. document_report T S e.0 e.1 v P Q (document_keyword e.0)) S;
    tree = λ v P Q. with_children (m.tree v P Q) (flat_map (λ e. document_child T S e.0 e.1 v P Q (document_keyword e.0)) S);
    asks = λ v. m.asks v + sum_by (λ e. document_asks T S e.0 e.1 v (document_keyword e.0)) S;
  }

  abbrev pub document_step : Schema Meaning → Meaning
  document_step (truth b) = meaning_step (beneath W) u (truth b)
  document_step (no_schema d) = meaning_step (beneath W) u (no_schema d)
  document_step (keywords S) = beside S (meaning_step (beneath W) u (keywords S))

  -- the meaning of a schema, where texts name these places
  unfoldable pub meaning_under : Data → Meaning
  meaning_under = answer_for document_step
