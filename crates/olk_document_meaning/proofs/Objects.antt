-- What a schema object means in a document: what the members mean together that the layer reads, and what the document's own do.
use Rattle.std.proofs.Common.{◌≡◌, ℕ, ◌+◌, Bool, true, false, ◌&&◌, List, [], ◌∷◌, ◌++◌, sum_by, refl, sym, ◌∙◌, ap, true≢false}
use Rattle.std.specs.List.{flat_map, list_all}
use Rattle.std.proofs.lemmas.List.Folds.{list_all-map}
use Rattle.serde_json.specs.Data.{Data, object, Members}
use Rattle.olk_spec.specs.Names.{Name, Path}
use Rattle.olk_spec.specs.World.{World}
use Rattle.olk_spec.specs.Faults.{Fault}
use Rattle.olk_spec.specs.Tree.{Tree, plain}
use Rattle.olk_spec.specs.Costs.{Cost, cost_step, keyword_cost, one_place, no_cost, total_cost, ◌⊕◌}
use Rattle.olk_spec.specs.Schemas.{Keywords, Part, Schema, keywords, read_members, listed}
use Rattle.olk_spec.specs.Meanings.{Meaning}
use Rattle.olk_spec.specs.Accepts.{keyword_accepts, accepts_step}
use Rattle.olk_spec.specs.Asks.{keyword_asks, asks_step}
use Rattle.olk_spec.specs.Reports.{keyword_report, report_step}
use Rattle.olk_spec.specs.Trees.{keyword_child, tree_step}
use Rattle.olk_spec.specs.Vocabulary.{Keyword, unsupported, unread, keyword_named}
use Rattle.olk_spec.proofs.CostSums.{total_cost-map}
use Rattle.olk_spec.proofs.Maps.{flat_map-map}
use Rattle.olk_spec.proofs.Reading.{members_read}
use Rattle.olk_meaning.specs.Chosen.{Standing, keyword_standing, standing_step, object_form}
use Rattle.olk_meaning.specs.Members.{member_accepts, member_asks, member_report, member_child, member_cost, member_standing}
use Rattle.olk_meaning.specs.Steps.{Steps, meaning, accepts, asks, report, tree, cost, validators}
use Rattle.olk_document_spec.specs.Applied.{document_accepts, document_asks, document_report, document_child}
use Rattle.olk_document_spec.specs.Keywords.{beneath, is_other, document_keyword}
use Rattle.olk_document_spec.specs.Steps.{with_children}
use Rattle.olk_document_meaning.specs.Layers.{others, layer_members}
use Rattle.olk_document_meaning.specs.Places.{Referred, document_cost, document_standing}
use Rattle.olk_document_meaning.specs.Rows.{row_accepts, row_asks, row_report, row_child, row_cost, row_standing}
use Rattle.olk_document_meaning.proofs.Document_steps.{document_steps}
use Rattle.olk_document_meaning.proofs.Neighbours.{Alike, accepts_beside, asks_beside, report_beside, child_beside, cost_beside, standing_beside}
use Rattle.olk_document_meaning.proofs.Others.{found_among_others, flat_map-others, list_all-others, sum_by-others, total_cost-others, others_read, is_idle, named_alike, own_is_idle}
use Rattle.olk_meaning.proofs.Facts.{sum_by-map}

-- ---- a keyword that is refused by its name, or ignored

module _ (W : World) (u : Bool) (S : Keywords Meaning) (k : Name) (p : Part Meaning) (v : Data) where
  idle_accepts : (w : Keyword) → is_idle w ≡ true → keyword_accepts W u S k p v w ≡ true
  idle_accepts unsupported e = refl
  idle_accepts unread e = refl
  idle_accepts w e = absurd (true≢false (sym e))

  idle_asks : (w : Keyword) → is_idle w ≡ true → keyword_asks W u S k p v w ≡ 0
  idle_asks unsupported e = refl
  idle_asks unread e = refl
  idle_asks w e = absurd (true≢false (sym e))

  module _ (P Q : Path) where
    idle_report : (w : Keyword) → is_idle w ≡ true → keyword_report W u S k p v P Q w ≡ []
    idle_report unsupported e = refl
    idle_report unread e = refl
    idle_report w e = absurd (true≢false (sym e))

    idle_child : (w : Keyword) → is_idle w ≡ true → keyword_child W u S v P Q k p w ≡ []
    idle_child unsupported e = refl
    idle_child unread e = refl
    idle_child w e = absurd (true≢false (sym e))

idle_cost : (W : World) (S : Keywords Cost) (k : Name) (p : Part Cost) (w : Keyword) → is_idle w ≡ true → keyword_cost W S k p w ≡ no_cost
idle_cost W S k p unsupported e = refl
idle_cost W S k p unread e = refl
idle_cost W S k p w e = absurd (true≢false (sym e))

idle_standing : (S : Keywords Standing) (P : Path) (k : Name) (p : Part Standing) (w : Keyword) → is_idle w ≡ true → keyword_standing S P k p w ≡ []
idle_standing S P k p unsupported e = refl
idle_standing S P k p unread e = refl
idle_standing S P k p w e = absurd (true≢false (sym e))

-- ---- the layer, without the document's names

module _ {X : Type 0} (S : Keywords X) where
  alike : Alike S (others S)
  alike k e = found_among_others k e S

module _ (W : World) where
  abbrev named : Name → Keyword
  named n = keyword_named (beneath W) n

  module _ (u : Bool) (S : Keywords Meaning) (v : Data) where
    pub layer_accepts : accepts_step (beneath W) u (keywords S) v ≡ accepts_step W u (keywords (others S)) v
    layer_accepts = list_all-others (λ m. keyword_accepts (beneath W) u S m.0 m.1 v (named m.0)) (λ m. keyword_accepts W u (others S) m.0 m.1 v (keyword_named W m.0))
        (λ m e. ap (keyword_accepts W u S m.0 m.1 v) (named_alike W m.0 e) ∙ sym (accepts_beside W u S (others S) (alike S) m.0 m.1 v (keyword_named W m.0)))
        (λ m e. idle_accepts (beneath W) u S m.0 m.1 v (named m.0) (own_is_idle W m.0 e)) S

    pub layer_asks : asks_step (beneath W) u (keywords S) v ≡ asks_step W u (keywords (others S)) v
    layer_asks = sum_by-others (λ m. keyword_asks (beneath W) u S m.0 m.1 v (named m.0)) (λ m. keyword_asks W u (others S) m.0 m.1 v (keyword_named W m.0))
        (λ m e. ap (keyword_asks W u S m.0 m.1 v) (named_alike W m.0 e) ∙ sym (asks_beside W u S (others S) (alike S) m.0 m.1 v (keyword_named W m.0)))
        (λ m e. idle_asks (beneath W) u S m.0 m.1 v (named m.0) (own_is_idle W m.0 e)) S

    module _ (P Q : Path) where
      pub layer_report : report_step (beneath W) u (keywords S) v P Q ≡ report_step W u (keywords (others S)) v P Q
      layer_report = flat_map-others (λ m. keyword_report (beneath W) u S m.0 m.1 v P Q (named m.0)) (λ m. keyword_report W u (others S) m.0 m.1 v P Q (keyword_named W m.0))
          (λ m e. ap (keyword_report W u S m.0 m.1 v P Q) (named_alike W m.0 e) ∙ sym (report_beside W u S (others S) (alike S) m.0 m.1 v P Q (keyword_named W m.0)))
          (λ m e. idle_report (beneath W) u S m.0 m.1 v P Q (named m.0) (own_is_idle W m.0 e)) S

      pub layer_tree : tree_step (beneath W) u (keywords S) v P Q ≡ tree_step W u (keywords (others S)) v P Q
      layer_tree = ap (plain P Q) (flat_map-others (λ m. keyword_child (beneath W) u S v P Q m.0 m.1 (named m.0)) (λ m. keyword_child W u (others S) v P Q m.0 m.1 (keyword_named W m.0))
          (λ m e. ap (keyword_child W u S v P Q m.0 m.1) (named_alike W m.0 e) ∙ sym (child_beside W u S (others S) (alike S) m.0 m.1 v P Q (keyword_named W m.0)))
          (λ m e. idle_child (beneath W) u S m.0 m.1 v P Q (named m.0) (own_is_idle W m.0 e)) S)

  pub layer_cost : (S : Keywords Cost) → cost_step (beneath W) (keywords S) ≡ cost_step W (keywords (others S))
  layer_cost S = ap (λ c. one_place ⊕ c) (total_cost-others (λ m. keyword_cost (beneath W) S m.0 m.1 (named m.0)) (λ m. keyword_cost W (others S) m.0 m.1 (keyword_named W m.0))
      (λ m e. ap (keyword_cost W S m.0 m.1) (named_alike W m.0 e) ∙ sym (cost_beside W S (others S) (alike S) m.0 m.1 (keyword_named W m.0)))
      (λ m e. idle_cost (beneath W) S m.0 m.1 (named m.0) (own_is_idle W m.0 e)) S)

  pub layer_standing : (S : Keywords Standing) (P : Path) → standing_step (beneath W) (keywords S) P ≡ standing_step W (keywords (others S)) P
  layer_standing S P = ap (λ l. (P, object_form) ∷ l) (flat_map-others (λ m. keyword_standing S P m.0 m.1 (named m.0)) (λ m. keyword_standing (others S) P m.0 m.1 (keyword_named W m.0))
      (λ m e. ap (keyword_standing S P m.0 m.1) (named_alike W m.0 e) ∙ sym (standing_beside S (others S) (alike S) P m.0 m.1 (keyword_named W m.0)))
      (λ m e. idle_standing S P m.0 m.1 (named m.0) (own_is_idle W m.0 e)) S)

-- ---- an object of a document, member by member: those that the layer reads, in the object without the others, and all of them as keywords of the document

module _ (W : World) (R : Referred) (ms : Members) where
  abbrev I : Steps W
  I = document_steps W R

  -- the object for the layer
  abbrev ls : Members
  ls = layer_members ms

  module _ (u : Bool) (v : Data) where
    abbrev step : Schema Meaning → Meaning
    step = I.means u

    rows_accept : accepts_step W u (keywords (others (read_members step ms))) v ≡ list_all (λ m. member_accepts I ls m (keyword_named W m.0) u v) (listed ls)
    rows_accept = ap (λ S. accepts_step W u (keywords S) v) (sym (others_read step ms))
        ∙ ap (list_all (λ m. keyword_accepts W u (read_members step ls) m.0 m.1 v (keyword_named W m.0))) (members_read step ls) ∙ list_all-map _ _ (listed ls)

    own_accept : list_all (λ m. document_accepts (R.means u) (read_members step ms) m.0 m.1 v (document_keyword m.0)) (read_members step ms) ≡ list_all (λ m. row_accepts W R ms m u v) (listed ms)
    own_accept = ap (list_all (λ m. document_accepts (R.means u) (read_members step ms) m.0 m.1 v (document_keyword m.0))) (members_read step ms) ∙ list_all-map _ _ (listed ms)

    pub object_accepts : accepts I u (object ms) v ≡ (list_all (λ m. member_accepts I ls m (keyword_named W m.0) u v) (listed ls) && list_all (λ m. row_accepts W R ms m u v) (listed ms))
    unfolding meaning
    object_accepts = λ i. (layer_accepts W u (read_members step ms) v ∙ rows_accept) i && own_accept i

    rows_ask : asks_step W u (keywords (others (read_members step ms))) v ≡ sum_by (λ m. member_asks I ls m (keyword_named W m.0) u v) (listed ls)
    rows_ask = ap (λ S. asks_step W u (keywords S) v) (sym (others_read step ms))
        ∙ ap (sum_by (λ m. keyword_asks W u (read_members step ls) m.0 m.1 v (keyword_named W m.0))) (members_read step ls) ∙ sum_by-map _ _ (listed ls)

    own_ask : sum_by (λ m. document_asks (R.means u) (read_members step ms) m.0 m.1 v (document_keyword m.0)) (read_members step ms) ≡ sum_by (λ m. row_asks W R ms m u v) (listed ms)
    own_ask = ap (sum_by (λ m. document_asks (R.means u) (read_members step ms) m.0 m.1 v (document_keyword m.0))) (members_read step ms) ∙ sum_by-map _ _ (listed ms)

    pub object_asks : asks I u (object ms) v ≡ sum_by (λ m. member_asks I ls m (keyword_named W m.0) u v) (listed ls) + sum_by (λ m. row_asks W R ms m u v) (listed ms)
    unfolding meaning
    object_asks = λ i. (layer_asks W u (read_members step ms) v ∙ rows_ask) i + own_ask i

    module _ (P Q : Path) where
      rows_report : report_step W u (keywords (others (read_members step ms))) v P Q ≡ flat_map (λ m. member_report I ls m (keyword_named W m.0) u v P Q) (listed ls)
      rows_report = ap (λ S. report_step W u (keywords S) v P Q) (sym (others_read step ms))
          ∙ ap (flat_map (λ m. keyword_report W u (read_members step ls) m.0 m.1 v P Q (keyword_named W m.0))) (members_read step ls) ∙ flat_map-map _ _ _ (λ m. refl) (listed ls)

      own_report : flat_map (λ m. document_report (R.means u) (read_members step ms) m.0 m.1 v P Q (document_keyword m.0)) (read_members step ms) ≡ flat_map (λ m. row_report W R ms m u v P Q) (listed ms)
      own_report = ap (flat_map (λ m. document_report (R.means u) (read_members step ms) m.0 m.1 v P Q (document_keyword m.0))) (members_read step ms) ∙ flat_map-map _ _ _ (λ m. refl) (listed ms)

      pub object_report : report I u (object ms) v P Q ≡ flat_map (λ m. member_report I ls m (keyword_named W m.0) u v P Q) (listed ls) ++ flat_map (λ m. row_report W R ms m u v P Q) (listed ms)
      unfolding meaning
      object_report = λ i. (layer_report W u (read_members step ms) v P Q ∙ rows_report) i ++ own_report i

      rows_tree : tree_step W u (keywords (others (read_members step ms))) v P Q ≡ plain P Q (flat_map (λ m. member_child I ls m (keyword_named W m.0) u v P Q) (listed ls))
      rows_tree = ap (λ S. tree_step W u (keywords S) v P Q) (sym (others_read step ms))
          ∙ ap (λ ps. plain P Q (flat_map (λ m. keyword_child W u (read_members step ls) v P Q m.0 m.1 (keyword_named W m.0)) ps)) (members_read step ls)
          ∙ ap (plain P Q) (flat_map-map _ _ _ (λ m. refl) (listed ls))

      own_tree : flat_map (λ m. document_child (R.means u) (read_members step ms) m.0 m.1 v P Q (document_keyword m.0)) (read_members step ms) ≡ flat_map (λ m. row_child W R ms m u v P Q) (listed ms)
      own_tree = ap (flat_map (λ m. document_child (R.means u) (read_members step ms) m.0 m.1 v P Q (document_keyword m.0))) (members_read step ms) ∙ flat_map-map _ _ _ (λ m. refl) (listed ms)

      pub object_tree : tree I u (object ms) v P Q ≡ with_children (plain P Q (flat_map (λ m. member_child I ls m (keyword_named W m.0) u v P Q) (listed ls))) (flat_map (λ m. row_child W R ms m u v P Q) (listed ms))
      unfolding meaning
      object_tree = λ i. with_children ((layer_tree W u (read_members step ms) v P Q ∙ rows_tree) i) (own_tree i)

  pub object_cost : cost I (object ms) ≡ one_place ⊕ total_cost (λ m. member_cost I ls m (keyword_named W m.0)) (listed ls) ⊕ total_cost (λ m. row_cost W R ms m) (listed ms)
  unfolding cost
  object_cost = λ i. (layer_cost W (read_members I.costs ms) ∙ rows) i ⊕ own i
    where
      rows : cost_step W (keywords (others (read_members I.costs ms))) ≡ one_place ⊕ total_cost (λ m. member_cost I ls m (keyword_named W m.0)) (listed ls)
      rows = ap (λ S. cost_step W (keywords S)) (sym (others_read I.costs ms))
          ∙ ap (λ c. one_place ⊕ c) (ap (total_cost _) (members_read I.costs ls) ∙ total_cost-map _ _ _ (λ m. refl) (listed ls))

      own : total_cost (λ m. document_cost m.0 m.1 (document_keyword m.0)) (read_members I.costs ms) ≡ total_cost (λ m. row_cost W R ms m) (listed ms)
      own = ap (total_cost _) (members_read I.costs ms) ∙ total_cost-map _ _ _ (λ m. refl) (listed ms)

  pub object_stands : (P : Path) → validators I (object ms) P ≡ (P, object_form) ∷ flat_map (λ m. member_standing I ls m (keyword_named W m.0) P) (listed ls) ++ flat_map (λ m. row_standing W R ms m P) (listed ms)
  unfolding validators
  object_stands P = λ i. (layer_standing W (read_members I.stands ms) P ∙ rows) i ++ own i
    where
      rows : standing_step W (keywords (others (read_members I.stands ms))) P ≡ (P, object_form) ∷ flat_map (λ m. member_standing I ls m (keyword_named W m.0) P) (listed ls)
      rows = ap (λ S. standing_step W (keywords S) P) (sym (others_read I.stands ms))
          ∙ ap (λ l. (P, object_form) ∷ l) (ap (flat_map (λ m. keyword_standing (read_members I.stands ls) P m.0 m.1 (keyword_named W m.0))) (members_read I.stands ls) ∙ flat_map-map _ _ _ (λ m. refl) (listed ls))

      own : flat_map (λ m. document_standing R.stands m.0 m.1 P (document_keyword m.0)) (read_members I.stands ms) ≡ flat_map (λ m. row_standing W R ms m P) (listed ms)
      own = ap (flat_map (λ m. document_standing R.stands m.0 m.1 P (document_keyword m.0))) (members_read I.stands ms) ∙ flat_map-map _ _ _ (λ m. refl) (listed ms)
