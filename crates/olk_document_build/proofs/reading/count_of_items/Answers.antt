use Rattle.std.proofs.Common.{◌∙◌, ap, sym, length}
use Rattle.std.proofs.lemmas.List.{length-map}
use Rattle.serde_json.specs.View.{view}
use Rattle.olk_documents.proofs.Positions.{listed_as, nothing_listed}
use Rattle.olk_document_build.proofs.reading.count_of_items.Goals as goal

pub returns-in-Some : goal.returns-in-Some
returns-in-Some c = c.len.ensures ∙ c.in-Some.items.now.ok.0 ∙ sym (length-map c.in-Some.items.now.items view) ∙ ap length (sym (listed_as (view c.args.value.now) c.in-Some.items.now.items c.in-Some.ensures))

pub returns-in-None : goal.returns-in-None
returns-in-None c = ap length (sym (nothing_listed (view c.args.value.now) c.in-None.ensures))
