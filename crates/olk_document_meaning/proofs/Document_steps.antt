-- What the places inside a schema object answer for a document.
use Rattle.std.proofs.Common.{◌≡◌, ℕ, Bool, false, [], None, refl, true≢false}
use Rattle.serde_json.specs.Data.{Data, object}
use Rattle.olk_spec.specs.World.{World}
use Rattle.olk_spec.specs.Schemas.{is_object, answer_for}
use Rattle.olk_spec.specs.Meaning.{meaning_step}
use Rattle.olk_document_spec.specs.Documents.{targets}
use Rattle.olk_document_spec.specs.Keywords.{Targets}
use Rattle.olk_document_spec.specs.Malformed.{document_malformations_step, malformed_targets}
use Rattle.olk_document_spec.specs.Steps.{document_step}
use Rattle.olk_meaning.specs.Steps.{Steps}
use Rattle.olk_document_meaning.specs.Places.{Referred, document_cost_step, document_standing_step, standing_targets}
use Rattle.olk_document_meaning.proofs.Names.{under_nothing, targets_nothing}

pub no_object_alike : (W : World) (u : Bool) (T : Targets) (S : Data) → is_object S ≡ false → answer_for (document_step W u T) S ≡ answer_for (meaning_step W u) S
no_object_alike W u T (object ms) e = absurd (true≢false e)
no_object_alike W u T _ e = refl

-- these are steps over W itself: where the layer reads a member, W and `beneath W` name the same keyword
abbrev pub document_steps : (W : World) → Referred → Steps W
document_steps W R = record {
  means = λ u. document_step W u (R.means u);
  refuses = document_malformations_step W R.refuses;
  costs = document_cost_step W;
  stands = document_standing_step R.stands W;
  of_no_object = λ u. no_object_alike W u (R.means u);
  of_a_name = λ u S n. under_nothing n W u (R.means u) (R.of_a_name u n) S;
}

-- in the document D, where references are followed so many times
abbrev pub followed : World → Data → ℕ → Referred
followed W D k = record {
  means = λ u. targets W u D k;
  refuses = malformed_targets W D k;
  stands = standing_targets W D k;
  of_a_name = λ u n. targets_nothing n W u D k;
}

-- no reference can be followed
abbrev pub no_references : Referred
no_references = record { means = λ u t. []; refuses = λ t. None; stands = λ t. []; of_a_name = λ u n t. tt }
