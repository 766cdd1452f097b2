use Rattle.std.proofs.Common.{◌∙◌, ap, sym, Some, None, append-nil, option_to_list, length, codes}
use Rattle.std.specs.List.{flat_map}
use Rattle.olk_spec.specs.Malformed.{items_of_array}
use Rattle.olk_meaning.proofs.Fused.{member_lookup}
use Rattle.olk_document_build.proofs.reading.skipped.Goals as goal

pub returns-in-Some : goal.returns-in-Some
returns-in-Some c = c.count_of_items.ensures ∙ ap length (sym (append-nil _)) ∙ ap (λ o. length (flat_map items_of_array (option_to_list o))) (member_lookup (Some c.in-Some.value) (codes "prefixItems") c.args.members.now.entries c.in-Some.ensures.value)

pub returns-in-None : goal.returns-in-None
returns-in-None c = ap (λ o. length (flat_map items_of_array (option_to_list o))) (member_lookup None (codes "prefixItems") c.args.members.now.entries c.in-None.ensures.value)
