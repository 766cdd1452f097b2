-- `contains`: what it answers.
use Rattle.std.specs.Prelude.{ℕ, ◌+◌, Bool, true, not, ◌&&◌, ◌||◌, List, codes, nat_lt}
use Rattle.std.specs.Option.{option_map_or}
use Rattle.serde_json.specs.Data.{Data}
use Rattle.olk_spec.specs.Faults.{Leaf}
use Rattle.olk_spec.specs.Malformed.{items_of_array}
use Rattle.olk_spec.specs.Schemas.{is_array}
use Rattle.olk_spec.specs.Tree.{erring}
use Rattle.olk_document_spec.specs.Applied.{contains_text}
use Rattle.olk_tree.specs.Answers.{Meanings, AnswersOver}
use Rattle.olk_tree.specs.OwnFaults.{unless, own_fault_answers}
use Rattle.olk_tree.specs.Questions.{Question, some, how_many}
use Rattle.olk_documents.specs.declared.contains.Bounds.{Bounds}
use Rattle.olk_documents.specs.declared.contains.Contains.{Contains}

-- so many are enough, and not too many
abbrev pub in_bounds : Bounds → ℕ → Bool
in_bounds b n = not (nat_lt n b.least) && option_map_or (λ m. not (nat_lt m n)) b.most true

-- a test of how many are accepted, beside n that were
abbrev pub counted : {X : Type 0} → (X → Question) → (ℕ → Bool) → ℕ → List X → Question
counted f test n xs = record { accepts = λ u. test (n + how_many f u xs); asks = (some f xs).asks }

module _ {N : Type 0} where
  -- a value that is no array is accepted
  abbrev pub contains_means : Meanings N → Contains N → Data → Question
  contains_means m k v = record {
    accepts = λ u. not (is_array v) || in_bounds k.bounds (how_many (λ d. m k.node d) u (items_of_array v));
    asks = (some (λ d. m k.node d) (items_of_array v)).asks;
  }

  abbrev pub contains_answers : Contains N → AnswersOver N
  contains_answers k = own_fault_answers k.location record {
    means = λ m v. contains_means m k v;
    kind = λ r u v Q. Leaf (codes "contains") (contains_text v);
    tree = λ m t u v Q. erring k.location Q (unless ((contains_means m k v).accepts u) (Leaf (codes "contains") (contains_text v)) v k.location Q);
    formed = λ f. f k.node;
    forms = λ f. f k.node;
  }
