use Rattle.std.proofs.Common.{sym, ◌∙◌}
use Rattle.serde_json.specs.View.{view}
use Rattle.olk_drafts.proofs.Values.{cloned}
use Rattle.olk_drafts.proofs.Translations.{other_kind}
use Rattle.olk_drafts.proofs.translation.kind_of_draft_4.Goals as goal

pub returns-else-names_integer : goal.returns-else-names_integer
returns-else-names_integer c = rw (other_kind (view c.args.value.now) (sym c.names_integer.ensures ∙ c.if-names_integer.false))
    (cloned c.clone.result (view c.args.value.now) c.clone.ensures.cases)
