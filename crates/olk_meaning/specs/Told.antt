-- What a keyword answers, told of the raw data of its value alone.
use Rattle.std.specs.Prelude.{◌≡◌, ℕ, ◌&&◌, ◌==◌, nat_lt, count_by, codes, Bool, false, not, cond, List, [], ◌∷◌, ◌++◌, map, sum_by, true, Some, None, option_to_list}
use Rattle.std.specs.List.{list_all, list_any, flat_map}
use Rattle.serde_json.specs.Data.{Data, string, Members}
use Rattle.olk_spec.specs.Names.{Name, Text, Path, ◌//◌, down, lookup_name, filter_once, put_if, is_among, is_empty}
use Rattle.olk_spec.specs.Faults.{Fault, fault, FalseSchema, AnyOf, OneOfNotValid, OneOfMultipleValid, Not, Leaf, Context, context, ◌∼◌}
use Rattle.olk_spec.specs.Schemas.{is_object, members, at}
use Rattle.olk_spec.specs.Reports.{fault_if, required_faults, wrapped}
use Rattle.olk_spec.specs.Tree.{Tree, leaf_node, result, plain, erring, described}
use Rattle.olk_meaning.specs.Chosen.{Placed}
use Rattle.olk_meaning.specs.Steps.{Steps, accepts, asks, report, tree, validators}
use Rattle.olk_meaning.specs.Members.{member_accepts, member_asks, member_report, member_child, StandsAlone}
use Rattle.olk_spec.specs.{World.World, Vocabulary.Keyword, Accepts.missing}
use Rattle.olk_meaning.specs.{Conditions.is_restricted, Plans.tells_members}

-- whether it accepts a value, how many matchers it may ask, and where it stands at L what it reports and shows
pub record KeywordTold : Type 0 where
  pub verdict : Bool → Data → Bool
  pub asked : Bool → Data → ℕ
  pub faults : Bool → Data → Path → Path → List Fault
  pub shown : Bool → Data → Path → Path → Tree

-- the member m of the schema object with the members ms answers so: its asks where `additionalProperties` doesn't take it over, and its child where that shows nothing of its neighbours
module _ {W : World} (I : Steps W) (ms : Members) (m : Name × Data) (w : Keyword) where
  pub record IsKeywordTold (t : KeywordTold) : Type 0 where
    pub verdict : (u : Bool) (v : Data) → member_accepts I ms m w u v ≡ t.verdict u v
    pub asked : (is_restricted ms && tells_members m.0) ≡ false → (u : Bool) (v : Data) → member_asks I ms m w u v ≡ t.asked u v
    pub faults : (u : Bool) (v : Data) (P Q : Path) → t.faults u v (P // m.0) Q ∼ member_report I ms m w u v P Q
    pub shown : (u : Bool) → StandsAlone I u ms m w → (v : Data) (P Q : Path) → member_child I ms m w u v P Q ≡ t.shown u v (P // m.0) Q ∷ []

-- ---- keywords that ask each of some entries of the whole value

-- what an entry answers, of a keyword at L, and which validators stand for it
pub record EntryAnswers (X : Type 0) : Type 0 where
  pub verdict : Bool → X → Data → Bool
  pub asked : Bool → X → Data → ℕ
  pub faults : Bool → X → Data → Path → Path → List Fault
  pub shown : Bool → X → Data → Path → Path → Tree
  pub placed : X → Path → List Placed

module _ {X : Type 0} where
  abbrev pub entries_told : EntryAnswers X → (Data → List X) → KeywordTold
  entries_told w es = record {
    verdict = λ u v. list_all (λ e. w.verdict u e v) (es v);
    asked = λ u v. sum_by (λ e. w.asked u e v) (es v);
    faults = λ u v L Q. flat_map (λ e. w.faults u e v L Q) (es v);
    shown = λ u v L Q. plain L Q (map (λ e. w.shown u e v L Q) (es v));
  }

  -- schemas that stand below the keyword
  abbrev pub placed_answers : {W : World} → Steps W → (X → Data) → (X → List Name) → EntryAnswers X
  placed_answers I schema place = record {
    verdict = λ u e v. accepts I u (schema e) v;
    asked = λ u e v. asks I u (schema e) v;
    faults = λ u e v L Q. report I u (schema e) v (down L (place e)) Q;
    shown = λ u e v L Q. tree I u (schema e) v (down L (place e)) Q;
    placed = λ e L. validators I (schema e) (down L (place e));
  }

-- under their names
abbrev pub schema_answers : {W : World} → Steps W → EntryAnswers (Name × Data)
schema_answers I = placed_answers I (λ e. e.1) (λ e. e.0 ∷ [])

-- ---- branches

module _ {W : World} (I : Steps W) (u : Bool) (v : Data) where
  -- what the branches find, show, and which of them accept
  abbrev pub branches_find : Path → Path → List (Name × Data) → Context
  branches_find L Q es = context (map (λ e. report I u e.1 v (L // e.0) Q) es)

  abbrev pub branches_shown : Path → Path → List (Name × Data) → List Tree
  branches_shown L Q es = map (λ e. tree I u e.1 v (L // e.0) Q) es

  abbrev pub accepting_branches : List (Name × Data) → List (Name × Data)
  accepting_branches es = filter_once (λ e. accepts I u e.1 v) es

  abbrev pub any_shown : Path → Path → List (Name × Data) → Tree
  any_shown L Q es = cond (is_empty (accepting_branches es)) (result L Q None true [] (branches_shown L Q es)) (plain L Q (branches_shown L Q (accepting_branches es)))

-- `anyOf` of these branches
abbrev pub any_told : {W : World} → Steps W → List (Name × Data) → KeywordTold
any_told I es = record {
  verdict = λ u v. list_any (λ e. accepts I u e.1 v) es;
  asked = λ u v. sum_by (λ e. asks I u e.1 v) es;
  faults = λ u v L Q. fault_if (not (list_any (λ e. accepts I u e.1 v) es)) (AnyOf (branches_find I u v L Q es)) v L Q;
  shown = λ u v L Q. any_shown I u v L Q es;
}

module _ {W : World} (I : Steps W) (u : Bool) (v : Data) where
  -- how many accept
  abbrev pub accepting_count : List (Name × Data) → ℕ
  accepting_count es = count_by (λ e. accepts I u e.1 v) es

  -- the faults where so many of the branches accept, at L
  abbrev pub one_of_faults : ℕ → Path → Path → List (Name × Data) → List Fault
  one_of_faults n L Q es = fault_if (n == 0) (OneOfNotValid (branches_find I u v L Q es)) v L Q ++ fault_if (nat_lt 1 n) (OneOfMultipleValid (branches_find I u v L Q es)) v L Q

  abbrev pub one_shown : ℕ → Path → Path → List (Name × Data) → Tree
  one_shown n L Q es = cond (n == 0) (result L Q None true [] (branches_shown I u v L Q es))
      (result L Q None false (put_if (nat_lt 1 n) (codes "oneOf", codes "more than one subschema succeeded", false) []) (branches_shown I u v L Q (accepting_branches I u v es)))

-- `oneOf` of these branches
abbrev pub one_told : {W : World} → Steps W → List (Name × Data) → KeywordTold
one_told I es = record {
  verdict = λ u v. accepting_count I u v es == 1;
  asked = λ u v. sum_by (λ e. asks I u e.1 v) es;
  faults = λ u v L Q. one_of_faults I u v (accepting_count I u v es) L Q es;
  shown = λ u v L Q. one_shown I u v (accepting_count I u v es) L Q es;
}

-- ---- `properties` of these entries

module _ {W : World} (I : Steps W) (u : Bool) (v : Data) (L Q : Path) where
  -- what the declared schemas show of a member
  abbrev pub shown_at : List (Name × Data) → Name × Data → List Tree
  shown_at es m = map (λ d. tree I u d m.1 (L // m.0) (Q // m.0)) (option_to_list (lookup_name m.0 es))

  abbrev pub shown_declared : List (Name × Data) → List Tree → Tree
  shown_declared es more =
      result L Q (cond (is_object v) (Some (map (λ m. m.0) (filter_once (λ m. is_among m.0 (map (λ e. e.0) es)) (members v)))) None) false [] (flat_map (shown_at es) (members v) ++ more)

abbrev pub declared_told : {W : World} → Steps W → List (Name × Data) → KeywordTold
declared_told I es = record {
  verdict = λ u v. list_all (λ e. list_all (accepts I u e.1) (at e.0 v)) es;
  asked = λ u v. sum_by (λ e. sum_by (asks I u e.1) (at e.0 v)) es;
  faults = λ u v L Q. flat_map (λ e. flat_map (λ x. report I u e.1 x (L // e.0) (Q // e.0)) (at e.0 v)) es;
  shown = λ u v L Q. shown_declared I u v L Q es [];
}

-- ---- keywords that ask no subschema, or one

-- `required` of these names
abbrev pub names_told : List Name → KeywordTold
names_told ns = record {
  verdict = λ u v. is_empty (missing ns v);
  asked = λ u v. 0;
  faults = λ u v L Q. required_faults ns v L Q;
  shown = λ u v L Q. erring L Q (required_faults ns v L Q);
}

-- `not` of this schema
abbrev pub negation_told : {W : World} → Steps W → Data → KeywordTold
negation_told I d = record {
  verdict = λ u v. not (accepts I u d v);
  asked = λ u v. asks I u d v;
  faults = λ u v L Q. fault_if (accepts I u d v) (Not d) v L Q;
  shown = λ u v L Q. erring L Q (fault_if (accepts I u d v) (Not d) v L Q);
}

-- the leaf k that finds these texts in a value
abbrev pub faults_told : Name → (Data → List Text) → KeywordTold
faults_told k finds = record {
  verdict = λ u v. is_empty (finds v);
  asked = λ u v. 0;
  faults = λ u v L Q. map (λ t. fault (Leaf k t) v Q L) (finds v);
  shown = λ u v L Q. leaf_node L Q (described (map (λ t. fault (Leaf k t) v Q L) (finds v)));
}

-- `propertyNames` that is this schema, asked of each name
abbrev pub each_name_told : {W : World} → Steps W → Data → KeywordTold
each_name_told I d = record {
  verdict = λ u v. list_all (λ m. accepts I u d (string m.0)) (members v);
  asked = λ u v. sum_by (λ m. asks I u d (string m.0)) (members v);
  faults = λ u v L Q. flat_map (λ m. map (wrapped v Q) (report I u d (string m.0) L Q)) (members v);
  shown = λ u v L Q. plain L Q (map (λ m. tree I u d (string m.0) L Q) (members v));
}

-- `propertyNames` that is false
abbrev pub no_name_told : KeywordTold
no_name_told = record {
  verdict = λ u v. is_empty (members v);
  asked = λ u v. 0;
  faults = λ u v L Q. fault_if (not (is_empty (members v))) FalseSchema v L Q;
  shown = λ u v L Q. erring L Q (fault_if (not (is_empty (members v))) FalseSchema v L Q);
}
