use Rattle.olk_document_build.proofs.document.+compile_targets.Given as goal

-- how often references are followed
abbrev pub decreases-compile_targets : goal.decreases-compile_targets
decreases-compile_targets g l = l.limit
