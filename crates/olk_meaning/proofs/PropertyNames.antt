-- `propertyNames`, over the raw data of its value: a schema for names, `false`, or what is not read.
use Rattle.std.proofs.Common.{◌≡◌, Bool, true, false, not, ◌&&◌, ◌||◌, List, [], ◌++◌, map, codes, refl, sym, ◌∙◌, append-nil, true≢false}
use Rattle.std.specs.List.{list_all, flat_map}
use Rattle.std.proofs.Math.Bool.{and-true}
use Rattle.serde_json.specs.Data.{Data, boolean, string, object, Members}
use Rattle.olk_spec.specs.Names.{Path, ◌//◌, is_empty, put_if}
use Rattle.olk_spec.specs.Faults.{Fault, FalseSchema, IsLike, like, like_names, ◌∼◌, like_empty, like_next, like_swap, like_through}
use Rattle.olk_spec.specs.Schemas.{Schema, members, is_object, is_truth}
use Rattle.olk_spec.specs.Reports.{fault_if, wrapped}
use Rattle.olk_spec.specs.Tree.{plain, erring}
use Rattle.olk_spec.proofs.Reading.{place, whole_read}
use Rattle.olk_spec.proofs.Order.{∼_same}
use Rattle.olk_meaning.specs.Told.{IsKeywordTold, each_name_told, no_name_told}
use Rattle.olk_meaning.specs.Members.{member_accepts, member_asks, member_report, member_child}
use Rattle.olk_meaning.proofs.Facts.{names_ask_nothing, nothing_first}
use Rattle.olk_spec.specs.{World.World, Vocabulary.property_names, Meanings.Meaning}
use Rattle.olk_meaning.specs.Steps.{Steps, accepts, tree, meaning}

-- ---- wrapped faults

module _ (v : Data) (Q : Path) where
  pub like_wrapped : {f g : Fault} → IsLike f g → IsLike (wrapped v Q f) (wrapped v Q g)
  like_wrapped (like h) = like (like_names (like h))

  -- faults that are the same up to order are so where they are wrapped
  pub ∼_wrapped : {fs gs : List Fault} → fs ∼ gs → map (wrapped v Q) fs ∼ map (wrapped v Q) gs
  ∼_wrapped like_empty = like_empty
  ∼_wrapped (like_next h k) = like_next (like_wrapped h) (∼_wrapped k)
  ∼_wrapped like_swap = like_swap
  ∼_wrapped (like_through h k) = like_through (∼_wrapped h) (∼_wrapped k)

-- ---- what it means

pub object_is_not_false : (d : Data) → is_object d ≡ true → is_truth false d ≡ false
object_is_not_false (boolean b) e = absurd (true≢false (sym e))
object_is_not_false _ e = refl

pub false_is_no_object : (d : Data) → is_truth false d ≡ true → is_object d ≡ false
false_is_no_object (object fs) e = absurd (true≢false (sym e))
false_is_no_object _ e = refl

module _ {W : World} (I : Steps W) (ms : Members) (d : Data) (u : Bool) (v : Data) where
  -- a schema, with its parts' meanings, to its own
  abbrev to_meaning : Schema Meaning → Meaning
  to_meaning = I.means u

  -- beside the schema itself: whether it is one for names, and whether it is false
  module _ (names none : Bool) (is_names : is_object d ≡ names) (is_none : is_truth false d ≡ none) where
    accepts_by : member_accepts I ms (codes "propertyNames", d) property_names u v ≡ ((not names || list_all (λ m. accepts I u d (string m.0)) (members v)) && (not none || is_empty (members v)))
    unfolding meaning
    accepts_by =
        (λ i. (not (is_object (whole_read to_meaning d i).schema) || list_all (λ m. (whole_read to_meaning d i).answer.accepts (string m.0)) (members v))
        && (not (is_truth false (whole_read to_meaning d i).schema) || is_empty (members v)))
        ∙ (λ i. (not (is_names i) || list_all (λ m. accepts I u d (string m.0)) (members v)) && (not (is_none i) || is_empty (members v)))

    report_by : (P Q : Path) → member_report I ms (codes "propertyNames", d) property_names u v P Q
        ≡ flat_map (λ s. flat_map (λ m. map (wrapped v Q) (s.answer.report (string m.0) (P // codes "propertyNames") Q)) (members v)) (put_if names (place to_meaning d) [])
        ++ fault_if (none && not (is_empty (members v))) FalseSchema v (P // codes "propertyNames") Q
    report_by P Q = (λ i. flat_map (λ s. flat_map (λ m. map (wrapped v Q) (s.answer.report (string m.0) (P // codes "propertyNames") Q)) (members v))
        (put_if (is_object (whole_read to_meaning d i).schema) (whole_read to_meaning d i) [])
        ++ fault_if (is_truth false (whole_read to_meaning d i).schema && not (is_empty (members v))) FalseSchema v (P // codes "propertyNames") Q)
        ∙ (λ i. flat_map (λ s. flat_map (λ m. map (wrapped v Q) (s.answer.report (string m.0) (P // codes "propertyNames") Q)) (members v))
        (put_if (is_names i) (place to_meaning d) []) ++ fault_if (is_none i && not (is_empty (members v))) FalseSchema v (P // codes "propertyNames") Q)

    child_by : (P Q : Path) → member_child I ms (codes "propertyNames", d) property_names u v P Q
        ≡ put_if names (plain (P // codes "propertyNames") Q (map (λ m. tree I u d (string m.0) (P // codes "propertyNames") Q) (members v))) []
        ++ put_if none (erring (P // codes "propertyNames") Q (fault_if (not (is_empty (members v))) FalseSchema v (P // codes "propertyNames") Q)) []
    unfolding meaning
    child_by P Q = (λ i. put_if (is_object (whole_read to_meaning d i).schema)
        (plain (P // codes "propertyNames") Q (map (λ m. (whole_read to_meaning d i).answer.tree (string m.0) (P // codes "propertyNames") Q) (members v))) []
        ++ put_if (is_truth false (whole_read to_meaning d i).schema) (erring (P // codes "propertyNames") Q (fault_if (not (is_empty (members v))) FalseSchema v (P // codes "propertyNames") Q)) [])
        ∙ (λ i. put_if (is_names i) (plain (P // codes "propertyNames") Q (map (λ m. tree I u d (string m.0) (P // codes "propertyNames") Q) (members v))) []
        ++ put_if (is_none i) (erring (P // codes "propertyNames") Q (fault_if (not (is_empty (members v))) FalseSchema v (P // codes "propertyNames") Q)) [])

  -- ---- no schema

  pub no_schema_asks : member_asks I ms (codes "propertyNames", d) property_names u v ≡ 0
  no_schema_asks = nothing_first 0

  -- ---- anything else is not read

  module _ (names : is_object d ≡ false) (none : is_truth false d ≡ false) where
    pub any_names_accepts : member_accepts I ms (codes "propertyNames", d) property_names u v ≡ true
    any_names_accepts = accepts_by false false names none

    pub any_names_report : (P Q : Path) → member_report I ms (codes "propertyNames", d) property_names u v P Q ≡ []
    any_names_report P Q = report_by false false names none P Q

    pub any_names_child : (P Q : Path) → member_child I ms (codes "propertyNames", d) property_names u v P Q ≡ []
    any_names_child P Q = child_by false false names none P Q

module _ {W : World} (I : Steps W) (ms : Members) (d : Data) where
  -- a schema for names, of which none asks a matcher
  pub property_names_told : is_object d ≡ true → IsKeywordTold I ms (codes "propertyNames", d) property_names (each_name_told I d)
  unfolding meaning
  property_names_told names = record {
    verdict = λ u v. accepts_by I ms d u v true false names (object_is_not_false d names) ∙ and-true _;
    asked = λ free u v. no_schema_asks I ms d u v ∙ sym (names_ask_nothing I u d (members v));
    faults = λ u v P Q. ∼_same (sym (report_by I ms d u v true false names (object_is_not_false d names) P Q ∙ append-nil _ ∙ append-nil _));
    shown = λ u alone v P Q. child_by I ms d u v true false names (object_is_not_false d names) P Q;
  }

  pub no_names_told : is_truth false d ≡ true → IsKeywordTold I ms (codes "propertyNames", d) property_names no_name_told
  no_names_told none = record {
    verdict = λ u v. accepts_by I ms d u v false true (false_is_no_object d none) none;
    asked = λ free u v. no_schema_asks I ms d u v;
    faults = λ u v P Q. ∼_same (sym (report_by I ms d u v false true (false_is_no_object d none) none P Q));
    shown = λ u alone v P Q. child_by I ms d u v false true (false_is_no_object d none) none P Q;
  }
