use Rattle.std.proofs.Common.{◌≡◌, ◌*◌, List, length, map, sym, ap, subst, ◌∙◌}
use Rattle.std.specs.List.{AllZip}
use Rattle.std.proofs.lemmas.List.{length-map}
use Rattle.serde_json.specs.View.{members_view}
use Rattle.serde_json.specs.Data.{Data}
use Rattle.olk_spec.specs.Names.{Name}
use Rattle.olk_spec.specs.Schemas.{listed}
use Rattle.olk_tree.specs.declared.sorted_name.SortedName.{SortedName}
use Rattle.olk_tree.specs.Sorted.{name_of}
use Rattle.olk_tree.specs.Tables.{patterns_of, IsRowOf, how_many_cost, count_asks, AsksAtMost}
use Rattle.olk_tree.proofs.Tables.{is_table, nothing_else, on_err}
use Rattle.olk_tree.proofs.pattern_table.precompute_property_pattern_indices.Goals as goal

pub returns-clause-answers : goal.returns-clause-answers
returns-clause-answers g c =
    is_table g.R.RegexEngine.answers (patterns_of c.args.patterns.now) _
    (subst (λ ns. AllZip (IsRowOf g.R.RegexEngine.answers (patterns_of c.args.patterns.now)) ns c.in_ok-rows.rows.items) c.as_slice.ensures.names c.in_ok-rows.ensures.answers)
    (sym (length-map c.args.patterns.now (λ e. e.0)))

pub returns-clause-nothing_else : goal.returns-clause-nothing_else
returns-clause-nothing_else g c =
    nothing_else g.R.RegexEngine.answers (patterns_of c.args.patterns.now) (record { names = c.in_ok-names.names; patterns = length c.args.patterns.now; rows = c.in_ok-rows.rows.items })
    (subst (λ ns. AllZip (IsRowOf g.R.RegexEngine.answers (patterns_of c.args.patterns.now)) ns c.in_ok-rows.rows.items) c.as_slice.ensures.names c.in_ok-rows.ensures.answers)

as_many : (names : List SortedName) (seen : List Name) (members : List (Name × Data)) → map name_of names ≡ seen → seen ≡ map (λ m. m.0) members → length names ≡ length members
as_many names seen members e f = sym (length-map names name_of) ∙ ap length (e ∙ f) ∙ length-map members (λ m. m.0)

pub returns-clause-asked : goal.returns-clause-asked
returns-clause-asked g c =
    let members = listed (members_view c.args.properties.now.entries) in
    c.in_ok-rows.ensures.asked ∙ ap (λ n. count_asks (n * how_many_cost g.R.RegexEngine.costs (patterns_of c.args.patterns.now)) c.args.meter.now)
    (as_many c.as_slice.result.now c.in_ok-names.names members c.as_slice.ensures.names c.in_ok-names.ensures)

pub returns-in_err-rows-clause-asked_at_most : goal.returns-in_err-rows-clause-asked_at_most
returns-in_err-rows-clause-asked_at_most g c =
    let members = listed (members_view c.args.properties.now.entries) in
    on_err _ (subst (λ n. AsksAtMost (n * how_many_cost g.R.RegexEngine.costs (patterns_of c.args.patterns.now)) c.args.meter.now c.rows_of.new.meter)
    (as_many c.as_slice.result.now c.in_ok-names.names members c.as_slice.ensures.names c.in_ok-names.ensures) c.in_err-rows.ensures.asked_at_most)
