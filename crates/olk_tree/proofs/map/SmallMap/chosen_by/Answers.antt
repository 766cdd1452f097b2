use Rattle.std.proofs.Common.{ap, ◌∙◌}
use Rattle.std.specs.Prelude.{option_to_list}
use Rattle.olk_tree.proofs.Due.{at_text, at_no_text}
use Rattle.olk_tree.proofs.map.SmallMap.chosen_by.Goals as goal

pub returns-in-Some : goal.returns-in-Some
returns-in-Some g c = ap option_to_list c.get_validator.ensures ∙ at_text c.args.self.now _ c.in-Some.text.now c.in-Some.ensures

pub returns-in-None : goal.returns-in-None
returns-in-None g c = at_no_text c.args.self.now _ c.in-None.ensures
