use Rattle.std.proofs.Common.{◌∙◌, ap, sym, Some, None, append-nil, option_to_list}
use Rattle.std.specs.List.{flat_map}
use Rattle.olk_document_spec.specs.Applied.{naturals}
use Rattle.olk_meaning.proofs.Fused.{member_lookup}
use Rattle.olk_document_build.proofs.reading.bound.Goals as goal

pub returns-in-Some : goal.returns-in-Some
returns-in-Some c = ap option_to_list c.natural.ensures ∙ sym (append-nil _) ∙ ap (λ o. flat_map naturals (option_to_list o)) (member_lookup (Some c.in-Some.value) c.args.name.now c.args.members.now.entries c.in-Some.ensures.value)

pub returns-in-None : goal.returns-in-None
returns-in-None c = ap (λ o. flat_map naturals (option_to_list o)) (member_lookup None c.args.name.now c.args.members.now.entries c.in-None.ensures.value)
