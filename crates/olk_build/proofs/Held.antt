-- What holds a keyword.
use Rattle.std.proofs.Common.{◌≡◌, cond, Option, Some, None, is_some, option_to_list, ◌≤◌, ℕ, ◌+◌, Bool, true, false, not, ◌&&◌, ◌||◌, List, [], ◌∷◌, ◌++◌, map, sum_by, codes, Vec, String}
use Rattle.std.proofs.Common.{string_bytes, bytes_eq, IsPermutation, length, nat_lt, nat_cmp, is_eq, Ordering, Less, Equal, Greater, Global, refl, sym, ◌∙◌, ap, subst, arith, append-nil, true≢false}
use Rattle.std.proofs.Common.{subst₂}
use Rattle.std.specs.List.{list_all, list_any, flat_map, zip}
use Rattle.std.proofs.Math.Bool.{and-false, and-true, or-false, or-true}
use Rattle.olk_tree.proofs.Answering.{more_within}
use Rattle.serde_json.specs.Data.{Data, object, Members}
use Rattle.olk_spec.specs.Names.{Name, Path, ◌//◌, lookup_name, first_if_equal, filter_once, put_if, is_empty, is_among}
use Rattle.olk_spec.specs.Vocabulary.{Keyword, properties, pattern_properties, required, leaf, unread, keyword_named}
use Rattle.olk_spec.specs.Faults.{Fault, Kind, IsLikeKind, AnyOf, Not, Leaf, fault, Context, context, IsLikeContext, like_none, like_branch, like, like_any_of, ◌∼◌, like_empty, like_next}
use Rattle.olk_spec.specs.Faults.{like_through}
use Rattle.olk_spec.specs.Schemas.{listed, numbered, at, members, texts, is_object, read_members}
use Rattle.olk_spec.specs.Malformed.{has_repeat, items_of_array}
use Rattle.olk_spec.specs.Reports.{required_faults, fault_if}
use Rattle.olk_spec.specs.Tree.{Tree, leaf_node, result, plain, erring, described}
use Rattle.olk_spec.specs.Trees.{fuses_one, fuses_two}
use Rattle.olk_spec.proofs.Named.{Named, named as is_named}
use Rattle.olk_spec.proofs.Order.{∼_same, ∼_append, ∼_behind, ∼_swap, ∼_flat_map_any, faults_in-from}
use Rattle.olk_base.specs.Kit.{Kit}
use Rattle.olk_tree.specs.Questions.{Question, every, some, of_asked}
use Rattle.olk_tree.specs.Maps.{keys_in, named, mapped, nodes_in}
use Rattle.olk_tree.specs.Validators.{answers_of, validator_means, validator_report, validator_tree}
use Rattle.olk_tree.specs.Shown.{missing_trees, properties_tree, any_of_tree}
use Rattle.olk_meaning.specs.Conditions.{is_condition, is_restricted}
use Rattle.olk_meaning.specs.Members.{member_asks, member_report, member_child, StandsAlone, member_standing, StandsByItself}
use Rattle.olk_meaning.specs.Chosen.{Placed, few as few_names, many as many_names, size_for, form_of_size, fused_properties_form, required_form, single_all_of_form, all_of_form, single_any_of_form}
use Rattle.olk_meaning.specs.Chosen.{any_of_form, not_form, leaf_form}
use Rattle.olk_meaning.specs.Plans.{Planned, plan_of, is_case, tells_members, head, claims}
use Rattle.olk_build.specs.Forms.{IsMapOver, IsMapFor, IsFormOfProperties, IsFormOfAllOf, IsFormOfAnyOf}
use Rattle.olk_meaning.specs.Fused.{fused_pair, fused_one, declares_few}
use Rattle.olk_build.specs.Standing.{StandEach, which, all_malformed, HoldsMember, Covers, is_taken}
use Rattle.olk_build.specs.Making.{KeywordMeans, KeywordsMean}
use Rattle.olk_tree.specs.declared.properties_map.PropertiesMap.TheVariants.{Small, Big}
use Rattle.olk_build.proofs.Pairs.{some_accepts, some_asks}
use Rattle.olk_meaning.proofs.Claims.{fusing_restricts, listing, fuses, claims_itself, claims_both, claims_nothing, head_itself, head_of_required, heads_elsewhere, plan_fusing, IsNoCase, IsNotTaken}
use Rattle.olk_meaning.proofs.Claims.{free_takes_nothing, free_fuses_none, fusing_is_free, claims_no_fused}
use Rattle.olk_build.proofs.Formed.{AnswerEach, each_count, each_accept, each_ask, each_find, each_show, schemas_answer, has_form, is_formed, just_one_formed, stand_formed, each_held_formed}
use Rattle.olk_build.proofs.Formed.{entries_zipped, map_zipped, paired, map_formed, required2_formed, all_of_holds, any_of_holds, stand_in, stand_as, each_held_placed, map_sized, branches_placed}
use Rattle.olk_meaning.specs.Told.{KeywordTold, IsKeywordTold, EntryAnswers, entries_told, schema_answers, branches_find, branches_shown, accepting_branches, any_shown, any_told, shown_at, shown_declared}
use Rattle.olk_meaning.specs.Told.{declared_told, names_told, negation_told, faults_told}
use Rattle.olk_build.proofs.Together.{MeanClaim, means_alone, means_permuted}
use Rattle.olk_meaning.proofs.Clean.{clean_one_fused, fused, names_fused}
use Rattle.olk_meaning.proofs.Children.{properties_child, no_required_child, properties_told, required_told, all_of_told, any_of_told, not_told, leaf_told}
use Rattle.olk_tree.specs.Formed.{is_map_formed, is_one, size_of}
use Rattle.std.specs.{Cmp.Lexicographic.slice_cmp, declared.boxed.Box.Box}
use Rattle.std.proofs.{lemmas.Map.Text.is_eq-slice_cmp, lemmas.List.length-map, lemmas.List.Sums.sum_by-cons, lemmas.Slice.Zip.firsts-zip}
use Rattle.serde_json.specs.{View.view, declared.value.Value.Value}
use Rattle.olk_spec.specs.{Accepts.missing, declared.TheConstants.HASHMAP_THRESHOLD}
use Rattle.olk_spec.proofs.{Walks.same_name, Truth.and_from, Maps.is_empty-map}
use Rattle.olk_tree.specs.{Answers.Answers, declared.properties_map.PropertiesMap.PropertiesMap, declared.map.SmallMap.SmallMap}
use Rattle.olk_tree.specs.{declared.big_map.BigMap.BigMap, Properties.properties_answers}
use Rattle.olk_tree.specs.{declared.properties.SmallPropertiesWithRequired2.SmallPropertiesWithRequired2, declared.node.KeywordOver.KeywordOver, Each.each_answers}
use Rattle.olk_meaning.proofs.{Facts.nothing_first, Rows.Rows, Standing.each_placed, Restriction.required_shows_none, Conditions.restricted_read, Listed.names_of}
use Rattle.olk_tree.specs.declared.node.KeywordOver.TheVariants as keyword
use Rattle.olk_meaning.proofs.Facts as fact
use Rattle.olk_meaning.proofs.Standing as placed
use Rattle.olk_meaning.specs.Steps.{accepts, asks, report, tree, validators}
use Rattle.olk_tree.specs.Steps.{StandsBy, StepsOf}

-- ---- numbers and counts

with_nothing : (a b : ℕ) → a ≤ b → a + 0 ≤ b
with_nothing a b h = omega (arith, h)

pub same_within : (a b c : ℕ) → a ≤ b → c ≡ b → a ≤ c
same_within a b c h e = omega (arith, h, e)

-- faults of like kinds, where there are any
pub fault_like : (b : Bool) {k l : Kind} (v : Data) (P Q : Path) → IsLikeKind k l → fault_if b k v P Q ∼ fault_if b l v P Q
fault_like true v P Q h = like_next (like h) like_empty
fault_like false v P Q h = like_empty

module _ {K R N : Type 0} {o : Kit K R} (I : StepsOf o) (answers : N → Answers) where
  abbrev pub question : KeywordOver K R N → Data → Question
  question k v = validator_means o (λ n. (answers n).means) k v

  abbrev pub shown : Bool → KeywordOver K R N → Data → Path → Tree
  shown u k v Q = validator_tree o (λ n. (answers n).means) (λ n. (answers n).tree) u k v Q

  abbrev pub found : Bool → KeywordOver K R N → Data → Path → List Fault
  found u k v Q = validator_report o (λ n. (answers n).means) (λ n. (answers n).report) u k v Q

  -- ---- nodes that stand for schemas

  module _ (n : N) (S : Data) (L : Path) (h : StandsBy I answers n S L) (u : Bool) where
    node_accepts : (xs : List Data) → (every (answers n).means xs).accepts u ≡ list_all (accepts I.steps u S) xs
    node_accepts [] = refl
    node_accepts (x ∷ xs) = λ i. h.verdict u x i && node_accepts xs i

    node_asks : (xs : List Data) → (every (answers n).means xs).asks of_asked u ≤ sum_by (asks I.steps u S) xs
    node_asks [] = omega arith
    node_asks (x ∷ xs) = more_within _ _ _ _ _ (h.asks_within u x) (node_asks xs) (sum_by-cons _ x xs)

    node_finds : (Q : Path) (xs : List Data) → flat_map (λ x. (answers n).report u x Q) xs ∼ flat_map (λ x. report I.steps u S x L Q) xs
    node_finds Q xs = ∼_flat_map_any _ _ (λ x. h.faults u x Q) xs

  module _ (u : Bool) (v : Data) where
    abbrev each_at : Name × N → Question
    each_at e = every (answers e.1).means (at e.0 v)

    abbrev pub at_value : N → Question
    at_value n = (answers n).means v

    -- what the branches find
    abbrev pub found_in : Path → List N → Context
    found_in Q ns = context (map (λ n. (answers n).report u v Q) ns)

    abbrev none_accepts : Rows → Bool
    none_accepts es = not (list_any (λ e. accepts I.steps u e.1 v) es)

    abbrev pub accepts_value : N → Bool
    accepts_value n = ((answers n).means v).accepts u

    -- at the place L
    module _ (L : Path) where
      members_accept : (ns : List N) (es : Rows) → StandEach I answers ns es L → (every each_at (zip (keys_in es) ns)).accepts u ≡ list_all
          (λ e. list_all (accepts I.steps u e.1) (at e.0 v)) es
      members_accept [] [] h = refl
      members_accept (n ∷ ns) (e ∷ es) h = λ i. node_accepts n e.1 (L // e.0) h.0 u (at e.0 v) i && members_accept ns es h.1 i
      members_accept _ _ h = absurd h

      members_ask : (ns : List N) (es : Rows) → StandEach I answers ns es L → (every each_at (zip (keys_in es) ns)).asks of_asked u ≤ sum_by
          (λ e. sum_by (asks I.steps u e.1) (at e.0 v)) es
      members_ask [] [] h = omega arith
      members_ask (n ∷ ns) (e ∷ es) h = more_within _ _ _ _ _ (node_asks n e.1 (L // e.0) h.0 u (at e.0 v)) (members_ask ns es h.1) (sum_by-cons _ e es)
      members_ask _ _ h = absurd h

      members_find : (Q : Path) (ns : List N) (es : Rows) → StandEach I answers ns es L
          → flat_map (λ e. flat_map (λ x. (answers e.1).report u x (Q // e.0)) (at e.0 v)) (zip (keys_in es) ns) ∼ flat_map
          (λ e. flat_map (λ x. report I.steps u e.1 x (L // e.0) (Q // e.0)) (at e.0 v)) es
      members_find Q [] [] h = like_empty
      members_find Q (n ∷ ns) (e ∷ es) h = ∼_append (node_finds n e.1 (L // e.0) h.0 u (Q // e.0) (at e.0 v)) (members_find Q ns es h.1)
      members_find Q _ _ h = absurd h

      any_accept : (ns : List N) (es : Rows) → StandEach I answers ns es L → (some at_value ns).accepts u ≡ list_any (λ e. accepts I.steps u e.1 v) es
      any_accept ns es h = some_accepts (λ n e. StandsBy I answers n e.1 (L // e.0)) at_value u _ (λ n e s. s.verdict u v) ns es h

      pub any_ask : (ns : List N) (es : Rows) → StandEach I answers ns es L → (some at_value ns).asks of_asked u ≤ sum_by (λ e. asks I.steps u e.1 v) es
      any_ask ns es h = some_asks (λ n e. StandsBy I answers n e.1 (L // e.0)) at_value u _ (λ n e s. s.asks_within u v) ns es h

      pub any_context : (Q : Path) (ns : List N) (es : Rows) → StandEach I answers ns es L → IsLikeContext (found_in Q ns) (branches_find I.steps u v L Q es)
      any_context Q [] [] h = like_none
      any_context Q (n ∷ ns) (e ∷ es) h =
          like_branch (subst₂ (λ x y. x ∼ y) (sym (faults_in-from ((answers n).report u v Q))) (sym (faults_in-from (report I.steps u e.1 v (L // e.0) Q)))
          (h.0.faults u v Q)) (any_context Q ns es h.1)
      any_context Q _ _ h = absurd h

      pub branches_show : (Q : Path) (ns : List N) (es : Rows) → StandEach I answers ns es L → map (λ n. (answers n).tree u v Q) ns ≡ branches_shown I.steps u v L Q es
      branches_show Q ns es h = each_show I answers _ ns es L (schemas_answer I answers ns es L h) u v Q

      pub accepting_show : (Q : Path) (ns : List N) (es : Rows) → StandEach I answers ns es L → map (λ n. (answers n).tree u v Q)
          (filter_once accepts_value ns) ≡ branches_shown I.steps u v L Q (accepting_branches I.steps u v es)
      accepting_show Q [] [] h = refl
      accepting_show Q (n ∷ ns) (e ∷ es) h =
          ap (λ b. map (λ n. (answers n).tree u v Q) (put_if b n (filter_once accepts_value ns))) (h.0.verdict u v) ∙ by (accepts I.steps u e.1 v) (accepting_show Q ns es h.1)
        where
          by : (b : Bool) → map (λ n. (answers n).tree u v Q) (filter_once accepts_value ns) ≡ branches_shown I.steps u v L Q (accepting_branches I.steps u v es)
              → map (λ n. (answers n).tree u v Q) (put_if b n (filter_once accepts_value ns)) ≡ branches_shown I.steps u v L Q (put_if b e (accepting_branches I.steps u v es))
          by true g = λ i. h.0.evaluation u v Q i ∷ g i
          by false g = g
      accepting_show Q _ _ h = absurd h

      any_show : (Q : Path) (ns : List N) (es : Rows) → StandEach I answers ns es L → any_of_tree (λ n. (answers n).tree u) v Q accepts_value L ns ≡ any_shown I.steps u v L Q es
      any_show Q ns es h = λ i. cond (none i) (result L Q None true [] (branches_show Q ns es h i)) (plain L Q (accepting_show Q ns es h i))
        where
          none : is_empty (filter_once accepts_value ns) ≡ is_empty (accepting_branches I.steps u v es)
          none = sym (is_empty-map (λ n. (answers n).tree u v Q) (filter_once accepts_value ns)) ∙ ap is_empty (accepting_show Q ns es h)
              ∙ is_empty-map (λ e. tree I.steps u e.1 v (L // e.0) Q) (accepting_branches I.steps u v es)

      zip_names : (ns : List N) (es : Rows) → StandEach I answers ns es L → keys_in (zip (keys_in es) ns) ≡ keys_in es
      zip_names ns es h = firsts-zip (keys_in es) ns (each_count I answers (schema_answers I.steps) ns es L (schemas_answer I answers ns es L h))

      member_shows : (Q : Path) (m : Name × Data) (ns : List N) (es : Rows) → StandEach I answers ns es L
          → map (λ n. (answers n).tree u m.1 (Q // m.0)) (option_to_list (lookup_name m.0 (zip (keys_in es) ns))) ≡ shown_at I.steps u v L Q es m
      member_shows Q m [] [] h = refl
      member_shows Q m (n ∷ ns) (e ∷ es) h = by (slice_cmp nat_cmp m.0 e.0) (is_eq-slice_cmp m.0 e.0) (member_shows Q m ns es h.1)
        where
          by : (c : Ordering) → is_eq c ≡ bytes_eq m.0 e.0 → map (λ n. (answers n).tree u m.1 (Q // m.0)) (option_to_list (lookup_name m.0 (zip (keys_in es) ns))) ≡ shown_at I.steps u v L Q es m
              → map (λ n. (answers n).tree u m.1 (Q // m.0)) (option_to_list (first_if_equal c n (lookup_name m.0 (zip (keys_in es) ns)))) ≡ map
              (λ d. tree I.steps u d m.1 (L // m.0) (Q // m.0)) (option_to_list (first_if_equal c e.1 (lookup_name m.0 es)))
          by Less q g = g
          by Equal q g = (λ i. h.0.evaluation u m.1 (Q // m.0) i ∷ []) ∙ ap (λ k. tree I.steps u e.1 m.1 (L // k) (Q // m.0) ∷ []) (sym (same_name m.0 e.0 (sym q)))
          by Greater q g = g
      member_shows Q m _ _ h = absurd h

      declared_show : (Q : Path) (more : List Tree) (ns : List N) (es : Rows) → StandEach I answers ns es L
          → properties_tree (λ n. (answers n).tree u) v Q L (zip (keys_in es) ns) more ≡ shown_declared I.steps u v L Q es more
      declared_show Q more ns es h =
          λ i. result L Q (cond (is_object v) (Some (map (λ m. m.0) (filter_once (λ m. is_among m.0 (zip_names ns es h i)) (members v)))) None) false []
          (flat_map (λ m. member_shows Q m ns es h i) (members v) ++ more)

  -- ---- one keyword

  -- what a keyword answers, told of what it holds
  pub record Answered (k : KeywordOver K R N) (u : Bool) (v : Data) (accepted : Bool) (asked : ℕ) (reported : Path → List Fault) (evaluated : Path → Tree) : Type 0 where
    pub verdict : (question k v).accepts u ≡ accepted
    pub asks_within : (question k v).asks of_asked u ≤ asked
    pub faults : (Q : Path) → found u k v Q ≡ reported Q
    pub evaluation : (Q : Path) → shown u k v Q ≡ evaluated Q

  -- it answers at L as it is told
  pub record AnswersTold (k : KeywordOver K R N) (t : KeywordTold) (L : Path) : Type 0 where
    pub verdict : (u : Bool) (v : Data) → (question k v).accepts u ≡ t.verdict u v
    pub asks_within : (u : Bool) (v : Data) → (question k v).asks of_asked u ≤ t.asked u v
    pub faults : (u : Bool) (v : Data) (Q : Path) → found u k v Q ∼ t.faults u v L Q
    pub evaluation : (u : Bool) (v : Data) (Q : Path) → shown u k v Q ≡ t.shown u v L Q
    pub formed : is_formed I answers k ≡ true

  pub means_told : (ms : Members) (k : KeywordOver K R N) (m : Name × Data) (P L : Path) (t : KeywordTold) → L ≡ P // m.0 → IsKeywordTold I.steps ms m (which o ms m) t
      → AnswersTold k t L → (StandsByItself I.steps ms (which o ms m) → flat_map (stand_as I answers) (k ∷ []) ≡ member_standing I.steps ms m (which o ms m) P)
      → KeywordMeans I answers ms (k ∷ []) m P
  means_told ms k m P L t p is h placed = record {
    holds = record {
      verdict = λ u v. and-true ((question k v).accepts u) ∙ h.verdict u v ∙ sym (is.verdict u v);
      asks_within = λ free u v. with_nothing ((question k v).asks of_asked u) (member_asks I.steps ms m (which o ms m) u v) (same_within _ _ _ (h.asks_within u v) (is.asked free u v));
      faults = λ u v Q. subst (λ fs. fs ∼ member_report I.steps ms m (which o ms m) u v P Q) (sym (append-nil (found u k v Q)))
          (like_through (subst (λ M. found u k v Q ∼ t.faults u v M Q) p (h.faults u v Q)) (is.faults u v P Q));
    };
    shows = λ u alone v Q. ap (λ x. x ∷ []) (h.evaluation u v Q ∙ ap (λ M. t.shown u v M Q) p) ∙ sym (is.shown u alone v P Q);
    formed = just_one_formed I answers k h.formed;
    forms = placed;
  }

  -- ---- a keyword that asks some nodes of the whole value

  abbrev pub AsksNodes : KeywordOver K R N → (Data → List N) → Path → Bool → Data → Type 0
  AsksNodes k nodes L u v = Answered k u v ((every (at_value u v) (nodes v)).accepts u) ((every (at_value u v) (nodes v)).asks of_asked u)
      (λ Q. flat_map (λ n. (answers n).report u v Q) (nodes v)) (λ Q. plain L Q (map (λ n. (answers n).tree u v Q) (nodes v)))

  pub each_asks : (k : KeywordOver K R N) (nodes : Data → List N) (L : Path) (f : (N → Bool) → Bool) (g : (N → List Placed) → List Placed) → answers_of o k ≡ each_answers nodes L f g → (u : Bool) (v : Data) → AsksNodes k nodes L u v
  each_asks k nodes L f g same u v = record {
    verdict = ap (λ a. (a.means (λ n. (answers n).means) v).accepts u) same;
    asks_within = let e = ap (λ a. (a.means (λ n. (answers n).means) v).asks of_asked u) same in omega (arith, e);
    faults = λ Q. ap (λ a. a.report (λ n. (answers n).means) (λ n. (answers n).report) u v Q) same;
    evaluation = λ Q. ap (λ a. a.tree (λ n. (answers n).means) (λ n. (answers n).tree) u v Q) same;
  }

  pub at_most_through : (a b c : ℕ) → a ≤ b → b ≤ c → a ≤ c
  at_most_through a b c h k = omega (arith, h, k)

  -- and these answer as entries do
  pub nodes_told : {X : Type 0} (w : EntryAnswers X) (es : Data → List X) (k : KeywordOver K R N) (nodes : Data → List N) (L : Path) → ((u : Bool) (v : Data) → AsksNodes k nodes L u v)
      → ((v : Data) → AnswerEach I answers w (nodes v) (es v) L) → is_formed I answers k ≡ true → AnswersTold k (entries_told w es) L
  nodes_told w es k nodes L asks each formed = record {
    verdict = λ u v. (asks u v).verdict ∙ each_accept I answers w (nodes v) (es v) L (each v) u v;
    asks_within = λ u v. at_most_through _ _ _ (asks u v).asks_within (each_ask I answers w (nodes v) (es v) L (each v) u v);
    faults = λ u v Q. subst (λ fs. fs ∼ flat_map (λ e. w.faults u e v L Q) (es v)) (sym ((asks u v).faults Q)) (each_find I answers w (nodes v) (es v) L (each v) u v Q);
    evaluation = λ u v Q. (asks u v).evaluation Q ∙ ap (plain L Q) (each_show I answers w (nodes v) (es v) L (each v) u v Q);
    formed = formed;
  }

  -- ---- properties

  -- what stands for entries, each at a node of the map
  held_placed : (ds : List (Name × N)) (ns : List N) (es : Rows) (L M : Path) → ds ≡ zip (keys_in es) ns → StandEach I answers ns es L → L ≡ M → flat_map (stand_in I answers) (nodes_in ds) ≡ each_placed I.steps M es
  held_placed ds ns es L M held stand p = each_held_placed I answers ds ns es L held (schema_answers I.steps) (schemas_answer I answers ns es L stand) ∙ ap (λ Z. each_placed I.steps Z es) p

  properties_show : (m : PropertiesMap N) (ns : List N) (L : Path) (es : Rows) → mapped m ≡ zip (keys_in es) ns → StandEach I answers ns es L
      → (u : Bool) (v : Data) (Q : Path) (more : List Tree) → properties_tree (λ n. (answers n).tree u) v Q L (mapped m) more ≡ shown_declared I.steps u v L Q es more
  properties_show m ns L es held stand u v Q more = ap (λ ds. properties_tree (λ n. (answers n).tree u) v Q L ds more) held ∙ declared_show u v L Q more ns es stand

  -- a validator that answers as `properties` with this map
  pub means_properties : (k : KeywordOver K R N) (m : PropertiesMap N) (ns : List N) (L : Path) → answers_of o k ≡ properties_answers m L → (d : Data) → is_map_formed m ≡ true
      → mapped m ≡ zip (keys_in (members d)) ns → size_of m ≡ size_for (length (members d)) → StandEach I answers ns (members d) L → (ms : Members) (P : Path) → L ≡ P // codes "properties"
      → KeywordMeans I answers ms (k ∷ []) (codes "properties", d) P
  means_properties k m ns L same d sized held size stand ms P p = means_told ms k (codes "properties", d) P L (declared_told I.steps (members d)) p (properties_told I.steps ms d) (record {
    verdict = λ u v. ap (λ a. (a.means (λ n. (answers n).means) v).accepts u) same ∙ ap (λ ds. (every (each_at u v) ds).accepts u) held ∙ members_accept u v L ns (members d) stand;
    asks_within = λ u v. subst (λ a. (a.means (λ n. (answers n).means) v).asks of_asked u ≤ (declared_told I.steps (members d)).asked u v) (sym same)
        (subst (λ ds. (every (each_at u v) ds).asks of_asked u ≤ (declared_told I.steps (members d)).asked u v) (sym held) (members_ask u v L ns (members d) stand));
    faults = λ u v Q. subst (λ a. a.report (λ n. (answers n).means) (λ n. (answers n).report) u v Q ∼ (declared_told I.steps (members d)).faults u v L Q) (sym same)
        (subst (λ ds. flat_map (λ e. flat_map (λ x. (answers e.1).report u x (Q // e.0)) (at e.0 v)) ds ∼ (declared_told I.steps (members d)).faults u v L Q) (sym held)
        (members_find u v L Q ns (members d) stand));
    evaluation = λ u v Q. ap (λ a. a.tree (λ n. (answers n).means) (λ n. (answers n).tree) u v Q) same ∙ properties_show m ns L (members d) held stand u v Q [];
    formed = ap (λ a. a.formed (has_form I answers)) same ∙ and_from _ _ sized (each_held_formed I answers (mapped m) _ _ _ held _ (schemas_answer I answers _ _ _ stand));
  }) (λ own. append-nil (stand_as I answers k) ∙ ap (λ a. a.forms (stand_in I answers)) same
      ∙ (λ i. (p i, form_of_size (size i)) ∷ held_placed (mapped m) ns (members d) L (P // codes "properties") held stand p i)
      ∙ sym (placed.properties_stand I.steps ms P d false own.0 own.1))

  small_answers : (m : SmallMap N) (L : Path) → answers_of o (keyword.SmallProperties (record { properties = m; location = L })) ≡ properties_answers (Small m) L
  unfolding answers_of
  small_answers m L = refl

  big_answers : (m : BigMap N) (L : Path) → answers_of o (keyword.BigProperties (record { properties = m; location = L })) ≡ properties_answers (Big m) L
  unfolding answers_of
  big_answers m L = refl

  -- ---- properties, with required or alone

  module _ (ms : Members) (L P : Path) (k : Box (SmallPropertiesWithRequired2 N) Global) (t : Name × Name) (names : List Name) (ns : List N)
      (form : IsFormOfProperties {K = K} {R = R} P L names ns (Some t) (keyword.PropertiesWithRequired2 k)) where
    abbrev alone : KeywordOver K R N
    alone = keyword.SmallProperties (record { properties = k.value.properties; location = L })

    abbrev lacking : Data → List Name
    lacking v = missing (t.0 ∷ t.1 ∷ []) v

    module _ (u : Bool) (v : Data) where
      both_accept : (question (keyword.PropertiesWithRequired2 k) v).accepts u ≡ (is_empty (lacking v) && (question alone v).accepts u)
      unfolding answers_of
      both_accept = λ i. is_empty (missing (form.2 i ∷ form.3 i ∷ []) v) && (question alone v).accepts u

      both_ask : (question (keyword.PropertiesWithRequired2 k) v).asks of_asked u ≡ 0 + (question alone v).asks of_asked u
      unfolding answers_of
      both_ask = refl

      both_find : (Q : Path) → found u (keyword.PropertiesWithRequired2 k) v Q ≡ required_faults (t.0 ∷ t.1 ∷ []) v (P // codes "required") Q ++ found u alone v Q
      unfolding answers_of
      both_find Q = λ i. required_faults (form.2 i ∷ form.3 i ∷ []) v (form.4 i) Q ++ found u alone v Q

      both_show : (Q : Path) → shown u (keyword.PropertiesWithRequired2 k) v Q ≡ properties_tree (λ n. (answers n).tree u) v Q L (named k.value.properties)
          (missing_trees (t.0 ∷ t.1 ∷ []) v (P // codes "required") Q)
      unfolding answers_of
      both_show Q = λ i. properties_tree (λ n. (answers n).tree u) v Q (form.1 i) (named k.value.properties) (missing_trees (form.2 i ∷ form.3 i ∷ []) v (form.4 i) Q)

    both_placed : stand_as I answers (keyword.PropertiesWithRequired2 k) ≡ (L, fused_properties_form) ∷ flat_map (stand_in I answers) (nodes_in (named k.value.properties))
    unfolding answers_of
    both_placed = λ i. (form.1 i, fused_properties_form) ∷ flat_map (stand_in I answers) (nodes_in (named k.value.properties))

    covers_both : (d : Data) → is_restricted ms ≡ false → HoldsMember I answers ms (alone ∷ []) (codes "properties", d) properties P → Covers I answers ms
        (keyword.PropertiesWithRequired2 k ∷ []) ((codes "properties", d) ∷ (codes "required", listing t) ∷ []) P
    covers_both d unrestricted h = record {
      verdict = λ u v. ap (λ b. b && true) (both_accept u v) ∙ turned (is_empty (lacking v)) ((question alone v).accepts u)
          ∙ (λ i. h.verdict u v i && (sym (fact.required_accepts I.steps ms (listing t) u v) i && true));
      asks_within = λ u v.
          let f : Name × Data → ℕ = λ x. member_asks I.steps ms x (which o ms x) u v in
          let b = both_ask u v in
          let s = sum_by-cons f (codes "properties", d) ((codes "required", listing t) ∷ []) in
          let q = h.asks_within (ap (λ b. b && true) unrestricted) u v in
          omega (arith, b, s, q);
      faults = λ u v Q. subst₂ (λ x y. x ∼ y) (sym (append-nil _ ∙ both_find u v Q))
          (ap (λ l. member_report I.steps ms (codes "properties", d) properties u v P Q ++ l) (sym (append-nil _ ∙ fact.required_report I.steps ms (listing t) u v P Q)))
          (like_through (∼_swap (required_faults (t.0 ∷ t.1 ∷ []) v (P // codes "required") Q) (found u alone v Q))
          (∼_behind (required_faults (t.0 ∷ t.1 ∷ []) v (P // codes "required") Q) (subst (λ l. l ∼ member_report I.steps ms (codes "properties", d) properties u v P Q) (append-nil (found u alone v Q)) (h.faults u v Q))));
    }
      where
        turned : (a b : Bool) → ((a && b) && true) ≡ ((b && true) && (a && true))
        turned true true = refl
        turned true false = refl
        turned false true = refl
        turned false false = refl

  -- where no other keyword takes the members that `additionalProperties` may take, nothing is restricted
  pub unrestricted_if_untaken : (p : Planned) (k : Name) → tells_members k ≡ true → is_taken p k ≡ false → p.restricted ≡ false
  unrestricted_if_untaken p k tells e = by p.restricted (ap (λ b. (p.restricted && b) || (p.condition && is_case k)) (sym tells) ∙ e)
    where
      by : (b : Bool) → ((b && true) || (p.condition && is_case k)) ≡ false → b ≡ false
      by false h = refl
      by true h = h

  -- as many nodes as names
  counted : (names : List Name) (ns : List N) (L : Path) (d : Data) → names ≡ keys_in (members d) → StandEach I answers ns (members d) L → length ns ≡ length names
  counted names ns L d declared stand = each_count I answers (schema_answers I.steps) ns (members d) L (schemas_answer I answers ns (members d) L stand) ∙ ap length (sym declared)

  few_declared : (names : List Name) (d : Data) → names ≡ keys_in (members d) → declares_few (Some d) ≡ true → nat_lt (length names) HASHMAP_THRESHOLD ≡ true
  few_declared names (object fs) declared few = ap (λ n. nat_lt n HASHMAP_THRESHOLD) (ap length declared ∙ length-map (listed fs) (λ e. e.0)) ∙ few
  few_declared names d declared few = absurd (true≢false (sym few))

  -- of the names alone
  means_alone_form : (k : KeywordOver K R N) (m : PropertiesMap N) (names : List Name) (ns : List N) (L P : Path) (d : Data)
      → names ≡ keys_in (members d) → StandEach I answers ns (members d) L → answers_of o k ≡ properties_answers m L → IsMapOver names ns m → IsMapFor (length names) m
      → (ms : Members) → L ≡ P // codes "properties" → has_repeat (names_of (listed ms)) ≡ false → lookup_name (codes "properties") (listed ms) ≡ Some d
      → None ≡ fused_pair ms → is_restricted ms ≡ false → MeanClaim I answers ms (plan_of ms) (k ∷ []) (codes "properties", d) P
  means_alone_form k m names ns L P d declared stand same over size ms p distinct there chosen unrestricted =
      subst (λ rows. KeywordsMean I answers ms (k ∷ []) rows ((codes "properties", d) ∷ []) P)
      (sym (claims_itself ms distinct (head (plan_of ms)) (codes "properties", d)
      (head_itself (plan_of ms) (codes "properties") (λ e. absurd (true≢false (sym e ∙ ap is_some (sym chosen)))) (λ e. (refl, refl))
      (free_takes_nothing ms (codes "properties") unrestricted)) there))
      (means_alone I answers ms P _ (codes "properties", d) (ap (λ b. b && true) unrestricted)
      (λ clean u. (there, restricted_read (I.steps.means u) ms ∙ unrestricted, fused I.steps ms P clean (I.steps.means u) ∙ ap is_some (sym chosen)))
      (λ clean. (restricted_read I.steps.stands ms ∙ unrestricted, fused I.steps ms P clean I.steps.stands ∙ ap is_some (sym chosen)))
      (means_properties k m ns L same d (map_formed names ns (counted names ns L d declared stand) m over size) (map_zipped names ns m over ∙ ap (λ ks. zip ks ns) declared)
      (map_sized m (length names) size ∙ ap (λ ks. size_for (length ks)) declared ∙ ap size_for (length-map (members d) (λ e. e.0))) stand ms P p))

  pub means_form : (k : KeywordOver K R N) (names : List Name) (ns : List N) (L P : Path) (t : Option (Name × Name)) (d : Data)
      → names ≡ keys_in (members d) → StandEach I answers ns (members d) L → IsFormOfProperties P L names ns t k
      → (ms : Members) → L ≡ P // codes "properties" → has_repeat (names_of (listed ms)) ≡ false → lookup_name (codes "properties") (listed ms) ≡ Some d
      → t ≡ fused_pair ms → is_restricted ms ≡ false → MeanClaim I answers ms (plan_of ms) (k ∷ []) (codes "properties", d) P
  means_form (keyword.SmallProperties k) names ns L P None d declared stand form ms p distinct there chosen unrestricted =
      means_alone_form (keyword.SmallProperties k) (Small k.properties) names ns L P d declared stand
      (small_answers k.properties k.location ∙ ap (properties_answers (Small k.properties)) form.2) form.0 form.1 ms p distinct there chosen unrestricted
  means_form (keyword.BigProperties k) names ns L P None d declared stand form ms p distinct there chosen unrestricted =
      means_alone_form (keyword.BigProperties k) (Big k.properties) names ns L P d declared stand
      (big_answers k.properties k.location ∙ ap (properties_answers (Big k.properties)) form.2) form.0 form.1 ms p distinct there chosen unrestricted
  means_form (keyword.PropertiesWithRequired2 k) names ns L P (Some t) d declared stand form ms p distinct there chosen unrestricted =
      let both = fuses ms distinct t chosen in
      let held : named k.value.properties ≡ zip (keys_in (members d)) ns = entries_zipped names ns k.value.properties form.0 ∙ ap (λ ks. zip ks ns) declared in
      let count = counted names ns L d declared stand in
      let few : is_map_formed (Small k.value.properties) ≡ true = and_from _ _
      (ap (λ ks. nat_lt (length ks) HASHMAP_THRESHOLD) form.0.0 ∙ few_declared names d declared (ap declares_few (sym there ∙ both.declared) ∙ both.few))
      (paired names ns count k.value.properties.names k.value.properties.nodes form.0.0 form.0.1) in
      let size : few_names ≡ size_for (length (members d)) = sym (ap (λ b. cond b few_names many_names) (sym (ap (λ n. nat_lt n HASHMAP_THRESHOLD) (ap length declared ∙ length-map (members d) (λ e. e.0)))
      ∙ few_declared names d declared (ap declares_few (sym there ∙ both.declared) ∙ both.few))) in
      let plain = means_properties (alone ms L P k t names ns form) (Small k.value.properties) ns L (small_answers k.value.properties L) d few held size stand ms P p in
      means_permuted I answers ms P (keyword.PropertiesWithRequired2 k ∷ []) ((codes "properties", d) ∷ (codes "required", listing t) ∷ [])
      (claims (head (plan_of ms)) (listed ms) (codes "properties", d)) ((codes "properties", d) ∷ [])
      (subst (λ s. IsPermutation ((codes "properties", d) ∷ (codes "required", listing t) ∷ []) (claims (head s) (listed ms) (codes "properties", d)))
      (sym (plan_fusing ms t chosen)) (claims_both ms distinct t (is_condition ms) d there chosen)) record {
        covers = covers_both ms L P k t names ns form d unrestricted plain.holds;
        shows = λ clean u v Q.
            let step = I.steps.means u in
            ap (λ x. x ∷ []) (both_show ms L P k t names ns form u v Q ∙ properties_show (Small k.value.properties) ns L (members d) held stand u v Q
            (missing_trees (t.0 ∷ t.1 ∷ []) v (P // codes "required") Q) ∙ ap (λ M. shown_declared I.steps u v M Q (members d) (missing_trees (t.0 ∷ t.1 ∷ []) v (P // codes "required") Q)) p)
            ∙ (λ i. shown_declared I.steps u v (P // codes "properties") Q (members d)
            (put_if (sym (fused I.steps ms P clean step ∙ ap is_some (sym chosen)) i && not (is_empty (missing (sym (names_fused step ms t both.listed_at) i) v)))
            (erring (P // codes "required") Q (required_faults (sym (names_fused step ms t both.listed_at) i) v (P // codes "required") Q)) []) ∷ [])
            ∙ sym (append-nil _ ∙ properties_child I.steps u v ms P Q d there (restricted_read step ms ∙ unrestricted));
        formed = just_one_formed I answers (keyword.PropertiesWithRequired2 k)
            (required2_formed I answers k few ((λ i. bytes_eq (form.2 i) (form.3 i)) ∙ both.differ) (each_held_formed I answers (named k.value.properties) _ _ _ held _ (schemas_answer I answers _ _ _ stand)));
        forms = λ clean.
            let step = I.steps.stands in
            append-nil (stand_as I answers (keyword.PropertiesWithRequired2 k)) ∙ both_placed ms L P k t names ns form
            ∙ (λ i. (p i, fused_properties_form) ∷ held_placed (named k.value.properties) ns (members d) L (P // codes "properties") held stand p i)
            ∙ sym (append-nil _ ∙ placed.properties_stand I.steps ms P d true (restricted_read step ms ∙ unrestricted) (fused I.steps ms P clean step ∙ ap is_some (sym chosen)));
      }
  means_form k names ns L P None d declared stand form ms p distinct there chosen unrestricted = absurd form
  means_form k names ns L P (Some t) d declared stand form ms p distinct there chosen unrestricted = absurd form

  -- ---- branches

  module _ (L : Path) (ns : List N) (u : Bool) (v : Data) where
    all_form : (k : KeywordOver K R N) → IsFormOfAllOf L ns k → AsksNodes k (λ v. ns) L u v
    unfolding answers_of
    all_form (keyword.AllOf k) f = each_asks (keyword.AllOf k) (λ v. ns) L _ _ (λ i. each_answers (λ v. f.0 i) (f.2 i) (λ g. not (is_one (f.0 i)) && list_all g (f.0 i)) (λ g. (f.2 i, all_of_form) ∷ flat_map g (f.0 i))) u v
    all_form (keyword.SingleValueAllOf k) f = record {
      verdict = sym (and-true (((answers k.node).means v).accepts u)) ∙ ap (λ xs. (every (at_value u v) xs).accepts u) (sym f.0);
      asks_within = let e = ap (λ xs. (every (at_value u v) xs).asks of_asked u) f.0 in omega (arith, e);
      faults = λ Q. sym (append-nil ((answers k.node).report u v Q)) ∙ ap (flat_map (λ n. (answers n).report u v Q)) (sym f.0);
      evaluation = λ Q. λ i. plain (f.1 i) Q (map (λ n. (answers n).tree u v Q) (sym f.0 i));
    }
    all_form k f = absurd f

    abbrev any_faults : List N → Path → Path → List Fault
    any_faults xs M Q = fault_if (not ((some (at_value u v) xs).accepts u)) (AnyOf (found_in u v Q xs)) v M Q

    abbrev any_tree : List N → Path → Path → Tree
    any_tree xs M Q = any_of_tree (λ n. (answers n).tree u) v Q (accepts_value u v) M xs

    any_form : (k : KeywordOver K R N) → IsFormOfAnyOf L ns k → Answered k u v ((some (at_value u v) ns).accepts u) ((some (at_value u v) ns).asks of_asked u) (any_faults ns L) (any_tree ns L)
    unfolding answers_of
    any_form (keyword.AnyOf k) f = record {
      verdict = ap (λ xs. (some (at_value u v) xs).accepts u) f.0;
      asks_within = let e = ap (λ xs. (some (at_value u v) xs).asks of_asked u) f.0 in omega (arith, e);
      faults = λ Q. λ i. any_faults (f.0 i) (f.2 i) Q;
      evaluation = λ Q. λ i. any_tree (f.0 i) (f.2 i) Q;
    }
    any_form (keyword.SingleAnyOf k) f = record {
      verdict = sym (or-false (((answers k.node).means v).accepts u)) ∙ ap (λ xs. (some (at_value u v) xs).accepts u) (sym f.0);
      asks_within = let e = ap (λ xs. (some (at_value u v) xs).asks of_asked u) f.0 in omega (arith, e);
      faults = λ Q.
          ap (λ b. fault_if (not b) (AnyOf (found_in u v Q (k.node ∷ []))) v k.location Q) (sym (or-false (((answers k.node).means v).accepts u)))
          ∙ (λ i. any_faults (sym f.0 i) (f.1 i) Q);
      evaluation = λ Q. λ i. any_tree (sym f.0 i) (f.1 i) Q;
    }
    any_form k f = absurd f

  pub means_all_of : (k : KeywordOver K R N) (ns : List N) (L : Path) (d : Data) → IsFormOfAllOf L ns k → StandEach I answers ns (numbered (items_of_array d)) L
      → (ms : Members) (P : Path) → L ≡ P // codes "allOf" → KeywordMeans I answers ms (k ∷ []) (codes "allOf", d) P
  means_all_of k ns L d form stand ms P p = means_told ms k (codes "allOf", d) P L _ p (all_of_told I.steps ms d) (nodes_told (schema_answers I.steps) (λ v. numbered (items_of_array d))
      k (λ v. ns) L (λ u v. all_form L ns u v k form) (λ v. schemas_answer I answers _ _ _ stand) ((all_of_holds I answers k L ns form).0 (stand_formed I answers _ _ _ stand)))
      (λ own. branches_placed I answers k L (P // codes "allOf") single_all_of_form all_of_form ns d p (all_of_holds I answers k L ns form).1 stand ∙ sym (placed.all_of_stands I.steps ms P d))

  pub means_any_of : (k : KeywordOver K R N) (ns : List N) (L : Path) (d : Data) → IsFormOfAnyOf L ns k → StandEach I answers ns (numbered (items_of_array d)) L
      → (ms : Members) (P : Path) → L ≡ P // codes "anyOf" → KeywordMeans I answers ms (k ∷ []) (codes "anyOf", d) P
  means_any_of k ns L d form stand ms P p = means_told ms k (codes "anyOf", d) P L (any_told I.steps es) p (any_of_told I.steps ms d) (record {
    verdict = λ u v. (any_form L ns u v k form).verdict ∙ any_accept u v L ns es stand;
    asks_within = λ u v. at_most_through _ _ _ (any_form L ns u v k form).asks_within (any_ask u v L ns es stand);
    faults = λ u v Q. subst (λ fs. fs ∼ (any_told I.steps es).faults u v L Q)
        (ap (λ b. fault_if (not b) (AnyOf (found_in u v Q ns)) v L Q) (sym (any_accept u v L ns es stand)) ∙ sym ((any_form L ns u v k form).faults Q))
        (fault_like (none_accepts u v es) v L Q (like_any_of (any_context u v L Q ns es stand)));
    evaluation = λ u v Q. (any_form L ns u v k form).evaluation Q ∙ any_show u v L Q ns es stand;
    formed = (any_of_holds I answers k L ns form).0 (stand_formed I answers _ _ _ stand);
  })
      (λ own. branches_placed I answers k L (P // codes "anyOf") single_any_of_form any_of_form ns d p (any_of_holds I answers k L ns form).1 stand ∙ sym (placed.any_of_stands I.steps ms P d))
    where
      es : Rows
      es = numbered (items_of_array d)

  -- ---- not

  pub means_not : (original : Value) (n : N) (L : Path) (d : Data) → view original ≡ d → StandsBy I answers n d L → (ms : Members) (P : Path)
      → L ≡ P // codes "not" → KeywordMeans I answers ms (keyword.Not (record { original = original; node = n; location = L }) ∷ []) (codes "not", d) P
  unfolding answers_of
  means_not original n L d same stands ms P p = means_told ms _ (codes "not", d) P L (negation_told I.steps d) p (not_told I.steps ms d) (record {
    verdict = λ u v. ap not (stands.verdict u v);
    asks_within = stands.asks_within;
    faults = λ u v Q. ∼_same (λ i. fault_if (stands.verdict u v i) (Not (same i)) v L Q);
    evaluation = λ u v Q. (λ i. erring L Q (fault_if (stands.verdict u v i) (Not (same i)) v L Q));
    formed = stands.formed;
  })
      (λ own. append-nil ((L, not_form) ∷ stand_in I answers n) ∙ (λ i. (p i, not_form) ∷ (stands.forms ∙ ap (validators I.steps d) p) i) ∙ sym (placed.not_stands I.steps ms P d))

  -- ---- required

  pub means_required : (names : Vec (String Global) Global) (L : Path) (d : Data) → map string_bytes names.items ≡ texts d → (ms : Members) (P : Path)
      → L ≡ P // codes "required" → KeywordMeans I answers ms (keyword.Required (record { required = names; location = L }) ∷ []) (codes "required", d) P
  unfolding answers_of
  means_required names L d same ms P p = means_told ms _ (codes "required", d) P L (names_told (texts d)) p (required_told I.steps ms d) (record {
    verdict = λ u v. (λ i. is_empty (missing (same i) v));
    asks_within = λ u v. omega arith;
    faults = λ u v Q. ∼_same (λ i. required_faults (same i) v L Q);
    evaluation = λ u v Q. (λ i. erring L Q (required_faults (same i) v L Q));
    formed = refl;
  }) (λ own. (λ i. (p i, required_form) ∷ []) ∙ sym (placed.required_stands I.steps ms P d own.0 own.1))

  -- no keyword means what claims nothing and shows nothing
  pub nothing_means : (ms : Members) (m : Name × Data) (P : Path) (p : Planned) → claims (head p) (listed ms) m ≡ []
      → (all_malformed I ms P (listed ms) ≡ [] → (u : Bool) (v : Data) (Q : Path) → member_child I.steps ms m (which o ms m) u v P Q ≡ [])
      → (all_malformed I ms P (listed ms) ≡ [] → member_standing I.steps ms m (which o ms m) P ≡ []) → MeanClaim I answers ms p [] m P
  nothing_means ms m P p none child stands = subst (λ rows. KeywordsMean I answers ms [] rows (m ∷ []) P) (sym none) record {
    covers = record { verdict = λ u v. refl; asks_within = λ u v. omega arith; faults = λ u v Q. like_empty };
    shows = λ clean u v Q. sym (append-nil _ ∙ child clean u v Q);
    formed = refl;
    forms = λ clean. sym (append-nil _ ∙ stands clean);
  }

  -- two names are fused, or one
  pub means_fused : (t : Name × Name) (d : Data) (ms : Members) (P : Path) → Some t ≡ fused_pair ms → MeanClaim I answers ms (plan_of ms) [] (codes "required", d) P
  means_fused t d ms P chosen =
      nothing_means ms (codes "required", d) P (plan_of ms) (ap (λ s. claims (head s) (listed ms) (codes "required", d)) (plan_fusing ms t chosen) ∙ claims_nothing t (is_condition ms) (listed ms) d)
      (λ clean u v Q. no_required_child I.steps u v ms P Q d (clean_one_fused I.steps ms P clean (I.steps.means u) ∙ free_fuses_none ms
      (fusing_is_free ms (ap is_some (sym chosen)))) (fused I.steps ms P clean (I.steps.means u) ∙ ap is_some (sym chosen)))
      (λ clean. placed.required_stands_elsewhere I.steps ms P d (ap (λ b. fuses_one (read_members I.steps.stands ms) || b) (fused I.steps ms P clean I.steps.stands ∙ ap is_some (sym chosen))
      ∙ or-true (fuses_one (read_members I.steps.stands ms))))

  pub means_fused_one : (d : Data) (ms : Members) (P : Path) → is_some (fused_one ms) ≡ true → MeanClaim I answers ms (plan_of ms) [] (codes "required", d) P
  means_fused_one d ms P chosen =
      nothing_means ms (codes "required", d) P (plan_of ms) (claims_no_fused ms (fusing_restricts ms chosen) (listed ms) d chosen) (λ clean u v Q. required_shows_none I.steps ms u v P Q d chosen)
      (λ clean. placed.required_stands_elsewhere I.steps ms P d (ap (λ b. b || fuses_two (read_members I.steps.stands ms)) (clean_one_fused I.steps ms P clean I.steps.stands ∙ chosen)))

  pub means_required_alone : (names : Vec (String Global) Global) (L : Path) (d : Data) → map string_bytes names.items ≡ texts d → (ms : Members) (P : Path)
      → L ≡ P // codes "required" → has_repeat (names_of (listed ms)) ≡ false → lookup_name (codes "required") (listed ms) ≡ Some d → is_some (fused_pair ms) ≡ false
      → is_some (fused_one ms) ≡ false → MeanClaim I answers ms (plan_of ms) (keyword.Required (record { required = names; location = L }) ∷ []) (codes "required", d) P
  means_required_alone names L d same ms P p distinct there not_two not_one =
      subst (λ rows. KeywordsMean I answers ms (keyword.Required (record { required = names; location = L }) ∷ []) rows ((codes "required", d) ∷ []) P)
      (sym (claims_itself ms distinct (head (plan_of ms)) (codes "required", d) (head_of_required (plan_of ms) not_two not_one) there))
      (means_alone I answers ms P _ (codes "required", d) (and-false (is_restricted ms))
      (λ clean u. (clean_one_fused I.steps ms P clean (I.steps.means u) ∙ not_one, fused I.steps ms P clean (I.steps.means u) ∙ not_two))
      (λ clean. (clean_one_fused I.steps ms P clean I.steps.stands ∙ not_one, fused I.steps ms P clean I.steps.stands ∙ not_two)) (means_required names L d same ms P p))

  -- a keyword that is neither has a child of its own, and claims its own member
  neither_of : (ms : Members) (u : Bool) (k : Name) (d : Data) → (is_restricted ms && tells_members k) ≡ false → bytes_eq (codes "properties") k ≡ false
      → bytes_eq (codes "required") k ≡ false → (w : Keyword) → Named k w → StandsAlone I.steps u ms (k, d) w
  neither_of ms u k d r e f properties n = absurd (true≢false (ap (bytes_eq (codes "properties")) (sym n) ∙ e))
  neither_of ms u k d r e f required n = absurd (true≢false (ap (bytes_eq (codes "required")) (sym n) ∙ f))
  neither_of ms u k d r e f pattern_properties n = restricted_read (I.steps.means u) ms ∙ by (is_restricted ms) (ap (λ x. is_restricted ms && tells_members x) (sym n) ∙ r)
    where
      by : (b : Bool) → (b && true) ≡ false → b ≡ false
      by false h = refl
      by true h = h
  neither_of ms u k d r e f w n = tt

  -- and a validator of its own
  by_itself : (ms : Members) (k : Name) → (is_restricted ms && tells_members k) ≡ false → bytes_eq (codes "properties") k ≡ false → bytes_eq (codes "required") k ≡ false
      → (w : Keyword) → Named k w → StandsByItself I.steps ms w
  by_itself ms k r e f properties n = absurd (true≢false (ap (bytes_eq (codes "properties")) (sym n) ∙ e))
  by_itself ms k r e f required n = absurd (true≢false (ap (bytes_eq (codes "required")) (sym n) ∙ f))
  by_itself ms k r e f pattern_properties n = restricted_read I.steps.stands ms ∙ sym (and-true (is_restricted ms)) ∙ ap (λ x. is_restricted ms && tells_members x) (sym n) ∙ r
  by_itself ms k r e f w n = tt

  pub means_own : (ks : List (KeywordOver K R N)) (ms : Members) (m : Name × Data) (P : Path) → has_repeat (names_of (listed ms)) ≡ false
      → lookup_name m.0 (listed ms) ≡ Some m.1 → bytes_eq (codes "properties") m.0 ≡ false → bytes_eq (codes "required") m.0 ≡ false → IsNoCase (is_condition ms) m.0
      → IsNotTaken (plan_of ms) m.0 → (is_restricted ms && tells_members m.0) ≡ false → KeywordMeans I answers ms ks m P → MeanClaim I answers ms (plan_of ms) ks m P
  means_own ks ms m P distinct there e f apart own untaken h =
      subst (λ rows. KeywordsMean I answers ms ks rows (m ∷ []) P) (sym (claims_itself ms distinct (head (plan_of ms)) m (heads_elsewhere (plan_of ms) m.0 e f apart own) there))
      (means_alone I answers ms P ks m untaken (λ clean u. neither_of ms u m.0 m.1 untaken e f (keyword_named o.world m.0) (is_named m.0 o.world))
      (λ clean. by_itself ms m.0 untaken e f (keyword_named o.world m.0) (is_named m.0 o.world)) h)

  -- ---- leaves, and names that nothing reads

  pub means_leaf : (l : K) (k : Name) (L : Path) (d : Data) → keyword_named o.world k ≡ leaf → o.keyword_of l ≡ k → ((v : Data) → o.finds l v ≡ o.world.faults k d v)
      → (ms : Members) (P : Path) → L ≡ P // k → KeywordMeans I answers ms (keyword.Leaf L l ∷ []) (k, d) P
  unfolding answers_of
  means_leaf l k L d q name same ms P p = means_told ms _ (k, d) P L (faults_told k (o.world.faults k d)) p
      (subst (λ w. IsKeywordTold I.steps ms (k, d) w (faults_told k (o.world.faults k d))) (sym q) (leaf_told I.steps ms d k)) (record {
        verdict = λ u v. ap is_empty (same v);
        asks_within = λ u v. omega arith;
        faults = λ u v Q. ∼_same (λ i. map (λ t. fault (Leaf (name i) t) v Q L) (same v i));
        evaluation = λ u v Q. (λ i. leaf_node L Q (described (map (λ t. fault (Leaf (name i) t) v Q L) (same v i))));
        formed = refl;
      }) (λ own. (λ i. (p i, leaf_form) ∷ []) ∙ ap (λ w. member_standing I.steps ms (k, d) w P) (sym q))

  pub means_unread : (k : Name) (d : Data) → keyword_named o.world k ≡ unread → (ms : Members) (P : Path) → KeywordMeans I answers ms [] (k, d) P
  means_unread k d q ms P = record {
    holds = subst (λ w. HoldsMember I answers ms [] (k, d) w P) (sym q)
        (record { verdict = λ u v. refl; asks_within = λ free u v. subst (λ n. 0 ≤ n) (sym (nothing_first 0)) (omega arith); faults = λ u v Q. ∼_same refl });
    shows = λ u h v Q. ap (λ w. member_child I.steps ms (k, d) w u v P Q) (sym q);
    formed = refl;
    forms = λ own. ap (λ w. member_standing I.steps ms (k, d) w P) (sym q);
  }
