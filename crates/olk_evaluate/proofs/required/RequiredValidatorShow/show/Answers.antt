use Rattle.std.proofs.Common.{refl}
use Rattle.olk_base.specs.Nodes.{subject_data}
use Rattle.olk_spec.specs.Faults.{fault, Required}
use Rattle.olk_spec.specs.Accepts.{missing}
use Rattle.olk_spec.specs.Reports.{required_faults}
use Rattle.olk_tree.specs.Maps.{texts_of}
use Rattle.olk_evaluate.proofs.Children.{shown_as}
use Rattle.olk_evaluate.proofs.OwnErrors.{erring_shown, same_emptiness}
use Rattle.olk_evaluate.proofs.Shows.{kept_same, shows_by}
use Rattle.olk_evaluate.proofs.required.RequiredValidatorShow.show.Goals as goal

pub returns : goal.returns
returns c = shows_by c.add_missing.ensures kept_same (λ u so _ errors. shown_as (erring_shown c.args.self.now.location c.args._ctx.now.path
    (required_faults (texts_of c.args.self.now.required.items) (subject_data c.args.node) c.args.self.now.location c.args._ctx.now.path) c.requires (errors c.args.self.now.location c.args._ctx.now.path))
    refl (same_emptiness (λ n. fault (Required n) (subject_data c.args.node) c.args._ctx.now.path c.args.self.now.location) (missing (texts_of c.args.self.now.required.items) (subject_data c.args.node))))
