use Rattle.std.proofs.Common.{Some, cond, option_map, ◌∙◌, ap}
use Rattle.std.specs.Str.{bytes_eq}
use Rattle.std.specs.BTreeMap.{get_by_text}
use Rattle.std.proofs.Common.{string_bytes}
use Rattle.std.proofs.lemmas.Map.Text.{btree_map_updates_text}
use Rattle.olk_document_build.proofs.Rounds.{one_put}
use Rattle.olk_document_build.specs.Targets.{target_of}
use Rattle.olk_document_build.proofs.targets.Targets.add.Goals as goal

pub returns : goal.returns
returns g c t =
    let before = get_by_text c.args.self.now.nodes in
    ap (option_map (λ n. n.value)) (btree_map_updates_text (string_bytes c.in_ok-text.text) c.args.self.now.nodes c.insert.new.self (Some c.in_ok-new.field-0) c.in_ok-insert.ensures.updates t)
    ∙ one_put (λ n. n.value) (bytes_eq (string_bytes c.in_ok-text.text) t) c.in_ok-new.field-0 (before t)
    ∙ (λ i. cond (bytes_eq (c.in_ok-text.ensures.ok i) t) (Some (c.in_ok-new.ensures.ok i)) (target_of c.args.self.now t))
