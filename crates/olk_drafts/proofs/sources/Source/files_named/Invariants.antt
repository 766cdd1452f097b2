use Rattle.std.proofs.Common.{◌≡◌, ◌++◌, map, string_bytes}
use Rattle.std.specs.Prelude.{option_to_list}
use Rattle.std.specs.List.{flat_map}
use Rattle.olk_drafts.specs.References.{as_texts, file_named}
use Rattle.olk_drafts.proofs.Naming.{named_from}
use Rattle.olk_drafts.proofs.sources.Source.files_named.Given as goal

-- the files so far, and those of the references that are left
abbrev pub invariant-loop-text : goal.invariant-loop-text
invariant-loop-text l = map string_bytes l.files.items ++ named_from l.self l.text-index l.text-items ≡ flat_map (λ t. option_to_list (file_named l.self t)) (as_texts l.text-items)
