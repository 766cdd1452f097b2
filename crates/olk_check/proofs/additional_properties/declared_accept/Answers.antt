use Rattle.std.proofs.Common.{option_copied, sym, subst}
use Rattle.olk_tree.specs.Visited.{object_of}
use Rattle.olk_check.specs.Together.{AsksOne}
use Rattle.olk_check.specs.Unpatterned.{names_mean}
use Rattle.olk_check.proofs.Answered.{answered_one}
use Rattle.olk_check.proofs.Asked.{asks_as}
use Rattle.olk_check.proofs.additional_properties.declared_accept.Goals as goal

pub returns-in-None : goal.returns-in-None
returns-in-None g c =
    subst (λ o. AsksOne c.args.ctx.now c.declared_alone.new.ctx (names_mean g.N.Means.means c.args.properties (option_copied o) (object_of c.args.members.now.entries)) c.declared_alone.result)
    (sym c.in-None.is) c.declared_alone.ensures

pub returns-in-Some : goal.returns-in-Some
returns-in-Some g c = answered_one c.one_if.ensures
    (asks_as (λ i. names_mean g.N.Means.means (c.entries.ensures i) (option_copied c.args.rest) (object_of c.args.members.now.entries)) c.each_declared_or_rest.ensures)
