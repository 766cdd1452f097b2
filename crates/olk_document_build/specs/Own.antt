-- What the keywords of a schema object answer together: those that the layer reads, those of the document, and the node that holds both.
use Rattle.std.specs.Prelude.{◌≡◌, ◌≤◌, Bool, true, ◌&&◌, List, ◌∷◌, ◌++◌, map, sum_by}
use Rattle.std.specs.List.{flat_map, list_all}
use Rattle.serde_json.specs.Data.{Data, Members}
use Rattle.olk_spec.specs.Names.{Name, Path}
use Rattle.olk_spec.specs.Faults.{◌∼◌}
use Rattle.olk_spec.specs.Schemas.{listed}
use Rattle.olk_spec.specs.Tree.{plain}
use Rattle.olk_spec.specs.Vocabulary.{keyword_named}
use Rattle.olk_base.specs.Kit.{Kit}
use Rattle.olk_meaning.specs.Chosen.{object_form}
use Rattle.olk_meaning.specs.Members.{member_accepts, member_asks, member_report, member_child, member_standing}
use Rattle.olk_tree.specs.Answers.{Answers}
use Rattle.olk_tree.specs.Questions.{every, both, of_asked}
use Rattle.olk_document_spec.specs.Steps.{with_children}
use Rattle.olk_document_meaning.specs.Layers.{layer_members}
use Rattle.olk_document_meaning.specs.Places.{Referred}
use Rattle.olk_document_meaning.specs.Rows.{row_accepts, row_asks, row_report, row_child, row_standing}
use Rattle.olk_document_build.specs.Kits.{document_of}

-- in the schema object with the members ms at P
module _ {K R : Type 0} (o : Kit K R) (F : Referred) (ms : Members) where
  -- these answer what some members mean together as keywords of the document
  pub record OwnMean (bs : List Answers) (rows : List (Name × Data)) (P : Path) : Type 0 where
    pub verdict : (u : Bool) (v : Data) → (every (λ b. b.means v) bs).accepts u ≡ list_all (λ m. row_accepts o.world F ms m u v) rows
    pub asks_within : (u : Bool) (v : Data) → (every (λ b. b.means v) bs).asks of_asked u ≤ sum_by (λ m. row_asks o.world F ms m u v) rows
    pub faults : (u : Bool) (v : Data) (Q : Path) → flat_map (λ b. b.report u v Q) bs ∼ flat_map (λ m. row_report o.world F ms m u v P Q) rows
    pub evaluation : (u : Bool) (v : Data) (Q : Path) → map (λ b. b.tree u v Q) bs ≡ flat_map (λ m. row_child o.world F ms m u v P Q) rows
    pub formed : list_all (λ b. b.formed) bs ≡ true
    pub forms : flat_map (λ b. b.forms) bs ≡ flat_map (λ m. row_standing o.world F ms m P) rows

  -- this answers what the object means without the document's own members
  pub record LayerMeans (a : Answers) (P : Path) : Type 0 where
    pub verdict : (u : Bool) (v : Data) → (a.means v).accepts u ≡ list_all (λ m. member_accepts (document_of o F).steps (layer_members ms) m (keyword_named o.world m.0) u v) (listed (layer_members ms))
    pub asks_within : (u : Bool) (v : Data) → (a.means v).asks of_asked u ≤ sum_by (λ m. member_asks (document_of o F).steps (layer_members ms) m (keyword_named o.world m.0) u v) (listed (layer_members ms))
    pub faults : (u : Bool) (v : Data) (Q : Path) → a.report u v Q ∼ flat_map (λ m. member_report (document_of o F).steps (layer_members ms) m (keyword_named o.world m.0) u v P Q) (listed (layer_members ms))
    pub evaluation : (u : Bool) (v : Data) (Q : Path) → a.tree u v Q ≡ plain P Q (flat_map (λ m. member_child (document_of o F).steps (layer_members ms) m (keyword_named o.world m.0) u v P Q) (listed (layer_members ms)))
    pub place : a.location ≡ P
    pub formed : a.formed ≡ true
    pub forms : a.forms ≡ (P, object_form) ∷ flat_map (λ m. member_standing (document_of o F).steps (layer_members ms) m (keyword_named o.world m.0) P) (listed (layer_members ms))

-- x answers what a does and, behind it, what these do
pub record AnswersBeside (x a : Answers) (bs : List Answers) : Type 0 where
  pub verdict : (v : Data) → x.means v ≡ both (a.means v) (every (λ b. b.means v) bs)
  pub faults : (u : Bool) (v : Data) (Q : Path) → x.report u v Q ≡ a.report u v Q ++ flat_map (λ b. b.report u v Q) bs
  pub evaluation : (u : Bool) (v : Data) (Q : Path) → x.tree u v Q ≡ with_children (a.tree u v Q) (map (λ b. b.tree u v Q) bs)
  pub place : x.location ≡ a.location
  pub formed : x.formed ≡ (a.formed && list_all (λ b. b.formed) bs)
  pub forms : x.forms ≡ a.forms ++ flat_map (λ b. b.forms) bs
