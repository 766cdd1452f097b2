use Rattle.std.proofs.Common.{◌++◌, ◌+◌, map, string_bytes, slice_index_or as get_or, ap, ◌∙◌}
use Rattle.std.specs.Prelude.{option_to_list}
use Rattle.std.specs.List.{flat_map}
use Rattle.serde_json.specs.View.{view}
use Rattle.olk_drafts.specs.References.{as_texts, file_named, references_at}
use Rattle.olk_drafts.specs.declared.translation.Held.TheVariants.{Itself}
use Rattle.olk_drafts.proofs.Naming.{nowhere, named_from, text_left, no_text_left}
use Rattle.olk_drafts.proofs.Referring.{one_more, all_appended}
use Rattle.olk_drafts.proofs.sources.Source.files_named.Goals as goal

pub loop-text-preserved : goal.loop-text-preserved
loop-text-preserved c =
    let s = c.args.self.now in
    let i = c.loop-text.text-index in
    let ts = c.deref-text-items.result.now in
    one_more (map string_bytes c.loop-text.files.items) (option_to_list (file_named s (get_or ts i nowhere).now)) (named_from s (i + 1) ts)
    (c.in_ok-append_found.ensures ∙ ap (λ o. map string_bytes c.loop-text.files.items ++ option_to_list o) c.in_ok-file.ensures)
    (text_left s i ts c.loop-text-test.true)
    c.loop-text.invariant

pub loop-text-init : goal.loop-text-init
loop-text-init c = ap (λ fs. map string_bytes fs ++ named_from c.args.self.now 0 c.deref-text-items.result.now) c.new-files.ensures.items

pub returns : goal.returns
returns c = all_appended (map string_bytes c.loop-text.files.items) (no_text_left c.args.self.now c.loop-text.text-index c.deref-text-items.result.now c.loop-text-test.false) c.loop-text.invariant
    ∙ ap (flat_map (λ t. option_to_list (file_named c.args.self.now t)))
    (ap as_texts c.deref-text-items.ensures.value ∙ c.in_ok-append_references.ensures ∙ ap (λ ts. as_texts ts ++ references_at c.args.self.now.draft Itself (view c.args.schema.now)) c.new-texts.ensures.items)
