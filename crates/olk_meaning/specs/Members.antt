-- What a member of a schema object means, shows, refuses and costs as a keyword.
use Rattle.std.specs.Prelude.{◌≡◌, ⊤, false, Some, ℕ, Bool, List}
use Rattle.serde_json.specs.Data.{Data, Members}
use Rattle.olk_spec.specs.Names.{Name, Path, lookup_name}
use Rattle.olk_spec.specs.Vocabulary.{properties, pattern_properties, required, Keyword}
use Rattle.olk_spec.specs.Schemas.{read, read_members, listed}
use Rattle.olk_spec.specs.Trees.{fuses_two, fuses_one, keyword_child}
use Rattle.olk_spec.specs.Malformed.{keyword_malformations}
use Rattle.olk_meaning.specs.Chosen.{Placed, keyword_standing}
use Rattle.olk_meaning.specs.Steps.{Steps}
use Rattle.olk_spec.specs.Costs.{Cost, keyword_cost}
use Rattle.olk_spec.specs.{World.World, Faults.Fault, Tree.Tree, Meanings.restricts, Accepts.keyword_accepts}
use Rattle.olk_spec.specs.{Reports.keyword_report, Asks.keyword_asks}

-- m is a member of the schema object with the members ms, which stands at P
module _ {W : World} (I : Steps W) (ms : Members) (m : Name × Data) (w : Keyword) where
  module _ (u : Bool) where
    abbrev pub member_accepts : Data → Bool
    member_accepts v = keyword_accepts W u (read_members (I.means u) ms) m.0 (read (I.means u) m.1) v w

    abbrev pub member_asks : Data → ℕ
    member_asks v = keyword_asks W u (read_members (I.means u) ms) m.0 (read (I.means u) m.1) v w

    abbrev pub member_report : Data → Path → Path → List Fault
    member_report v P Q = keyword_report W u (read_members (I.means u) ms) m.0 (read (I.means u) m.1) v P Q w

    abbrev pub member_child : Data → Path → Path → List Tree
    member_child v P Q = keyword_child W u (read_members (I.means u) ms) v P Q m.0 (read (I.means u) m.1) w

  abbrev pub member_malformations : Path → List Fault
  member_malformations P = keyword_malformations W (read_members I.refuses ms) m.0 (read I.refuses m.1) P w

  abbrev pub member_standing : Path → List Placed
  member_standing P = keyword_standing (read_members I.stands ms) P m.0 (read I.stands m.1) w

  abbrev pub member_cost : Cost
  member_cost = keyword_cost W (read_members I.costs ms) m.0 (read I.costs m.1) w

-- the member has a child of its own, which shows nothing of its neighbours
module _ {W : World} (I : Steps W) (u : Bool) (ms : Members) (m : Name × Data) where
  abbrev pub StandsAlone : Keyword → Type 0
  StandsAlone properties = (lookup_name m.0 (listed ms) ≡ Some m.1) × (restricts (read_members (I.means u) ms) ≡ false) × (fuses_two (read_members (I.means u) ms) ≡ false)
  StandsAlone pattern_properties = restricts (read_members (I.means u) ms) ≡ false
  StandsAlone required = (fuses_one (read_members (I.means u) ms) ≡ false) × (fuses_two (read_members (I.means u) ms) ≡ false)
  StandsAlone w = ⊤

-- the member has a validator of its own
module _ {W : World} (I : Steps W) (ms : Members) where
  abbrev pub StandsByItself : Keyword → Type 0
  StandsByItself properties = (restricts (read_members I.stands ms) ≡ false) × (fuses_two (read_members I.stands ms) ≡ false)
  StandsByItself pattern_properties = restricts (read_members I.stands ms) ≡ false
  StandsByItself required = (fuses_one (read_members I.stands ms) ≡ false) × (fuses_two (read_members I.stands ms) ≡ false)
  StandsByItself w = ⊤
