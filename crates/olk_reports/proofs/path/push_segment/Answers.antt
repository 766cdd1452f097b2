use Rattle.std.proofs.Common.{◌++◌, [], ◌∷◌, string_bytes, append_assoc, refl, sym, ap, ◌∙◌}
use Rattle.std.specs.List.{flat_map}
use Rattle.std.proofs.lemmas.List.{append-nil}
use Rattle.olk_spec.specs.Names.{escaped}
use Rattle.olk_reports.proofs.Paths.{on_err}
use Rattle.olk_reports.proofs.path.push_segment.Goals as goal

pub returns-clause-ok : goal.returns-clause-ok
returns-clause-ok c =
    c.in_ok-push_escaped.ensures.ok ∙ ap (λ l. l ++ flat_map escaped c.args.segment.now) c.in_ok-push_str.ensures.bytes
    ∙ append_assoc (string_bytes c.args.text.now) (47 ∷ []) (flat_map escaped c.args.segment.now)

pub returns-in_err-push_str-clause-err : goal.returns-in_err-push_str-clause-err
returns-in_err-push_str-clause-err c = on_err c.from_residual.result ([], c.in_err-push_str.ensures.bytes ∙ sym (append-nil (string_bytes c.args.text.now)), tt)

pub returns-in_err-push_escaped-clause-err : goal.returns-in_err-push_escaped-clause-err
returns-in_err-push_escaped-clause-err c =
    let rest = c.in_err-push_escaped.ensures.err in
    on_err c.from_residual-in_err-push_escaped.result (47 ∷ rest.0, rest.1 ∙ ap (λ l. l ++ rest.0) c.in_ok-push_str.ensures.bytes ∙ append_assoc (string_bytes c.args.text.now) (47 ∷ []) rest.0, refl)
