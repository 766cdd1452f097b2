-- `prefixItems` and `items`: what they answer.
use Rattle.std.specs.Prelude.{List, map}
use Rattle.std.specs.List.{flat_map, list_all, zip}
use Rattle.serde_json.specs.Data.{Data}
use Rattle.olk_spec.specs.Names.{Name, ◌//◌}
use Rattle.olk_spec.specs.Tree.{plain}
use Rattle.olk_document_spec.specs.Applied.{items_from}
use Rattle.olk_tree.specs.Answers.{AnswersOver}
use Rattle.olk_tree.specs.Emptiness.{each_agrees, first_of_agrees}
use Rattle.olk_tree.specs.Firsts.{first_of}
use Rattle.olk_tree.specs.Questions.{every}
use Rattle.olk_documents.specs.declared.arrays.Items.{Items}
use Rattle.olk_documents.specs.declared.arrays.PrefixItems.{PrefixItems}

module _ {N : Type 0} where
  -- each item of an array that a schema is asked about, under its position, with the schema
  abbrev pub pairs_of : PrefixItems N → Data → List (N × (Name × Data))
  pairs_of k v = zip k.schemas.items (items_from 0 v)

  abbrev pub prefix_items_answers : PrefixItems N → AnswersOver N
  prefix_items_answers k = record {
    means = λ m v. every (λ e. m e.0 e.1.1) (pairs_of k v);
    report = λ m r u v Q. flat_map (λ e. r e.0 u e.1.1 (Q // e.1.0)) (pairs_of k v);
    agrees = λ m r u h v Q. each_agrees (λ e. r e.0 u e.1.1 (Q // e.1.0)) (λ e. m e.0 e.1.1) u (λ e. h e.0 e.1.1 (Q // e.1.0)) (pairs_of k v);
    first = λ m r s u v Q. first_of (λ e. s e.0 u e.1.1 (Q // e.1.0)) (pairs_of k v);
    first_agrees = λ m r s u h v Q. first_of_agrees (λ e. s e.0 u e.1.1 (Q // e.1.0)) (λ e. m e.0 e.1.1) u (λ e. h e.0 e.1.1 (Q // e.1.0)) (pairs_of k v);
    tree = λ m t u v Q. plain k.location Q (map (λ e. t e.0 u e.1.1 (Q // e.1.0)) (pairs_of k v));
    location = k.location;
    formed = λ f. list_all f k.schemas.items;
    forms = λ f. flat_map f k.schemas.items;
  }

  abbrev pub items_answers : Items N → AnswersOver N
  items_answers k = record {
    means = λ m v. every (λ e. m k.node e.1) (items_from k.skip v);
    report = λ m r u v Q. flat_map (λ e. r k.node u e.1 (Q // e.0)) (items_from k.skip v);
    agrees = λ m r u h v Q. each_agrees (λ e. r k.node u e.1 (Q // e.0)) (λ e. m k.node e.1) u (λ e. h k.node e.1 (Q // e.0)) (items_from k.skip v);
    first = λ m r s u v Q. first_of (λ e. s k.node u e.1 (Q // e.0)) (items_from k.skip v);
    first_agrees = λ m r s u h v Q. first_of_agrees (λ e. s k.node u e.1 (Q // e.0)) (λ e. m k.node e.1) u (λ e. h k.node e.1 (Q // e.0)) (items_from k.skip v);
    tree = λ m t u v Q. plain k.location Q (map (λ e. t k.node u e.1 (Q // e.0)) (items_from k.skip v));
    location = k.location;
    formed = λ f. f k.node;
    forms = λ f. f k.node;
  }
