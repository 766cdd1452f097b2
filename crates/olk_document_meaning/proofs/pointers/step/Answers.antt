use Rattle.std.proofs.Common.{option_map, ap, ◌∙◌}
use Rattle.serde_json.specs.Find.{get_member}
use Rattle.serde_json.specs.View.{view, members_view}
use Rattle.serde_json.proofs.Views.{view-Object, view-lookup, view_of_ref}
use Rattle.olk_document_meaning.proofs.pointers.step.Goals as goal

pub returns-in_ok-name-in-Object : goal.returns-in_ok-name-in-Object
returns-in_ok-name-in-Object c =
    let members = c.in-Object.members in
    let found = view_of_ref c.get.result ∙ ap (option_map view) c.get.ensures.value ∙ view-lookup c.as_str.result.now members.entries in
    let name = c.as_str.ensures.value ∙ c.in_ok-name-in-Object.ensures in
    rw (c.in-Object.is, view-Object members) (found ∙ ap (λ n. get_member n (members_view members.entries)) name)
