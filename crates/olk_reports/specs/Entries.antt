-- What an evaluation shows, what a node shows itself, and what an entry says.
use Rattle.std.specs.Prelude.{List, map, option_to_list}
use Rattle.olk_spec.specs.Names.{Name, Path}
use Rattle.olk_spec.specs.Tree.{Tree, Described}
use Rattle.olk_reports.specs.Evaluations.{tree_of, described_of, tree_schema_path, tree_instance_path, tree_annotation, tree_errors}
use Rattle.olk_reports.specs.declared.entry.Evaluation.{Evaluation}
use Rattle.olk_reports.specs.declared.entry.ErrorEntry.{ErrorEntry}
use Rattle.olk_reports.specs.declared.entry.AnnotationEntry.{AnnotationEntry}

abbrev pub evaluated : Evaluation → Tree
evaluated e = tree_of e.root

abbrev pub error_of : ErrorEntry → Path × Path × Described
error_of e = (e.schema_location.now, e.instance_location.now, described_of e.error.now)

abbrev pub annotation_of : AnnotationEntry → Path × Path × List Name
annotation_of e = (e.schema_location.now, e.instance_location.now, map (λ n. n.now) e.annotations.now)

abbrev pub own_errors : Tree → List (Path × Path × Described)
own_errors t = map (λ e. (tree_schema_path t, tree_instance_path t, e)) (tree_errors t)

abbrev pub own_annotations : Tree → List (Path × Path × List Name)
own_annotations t = map (λ ns. (tree_schema_path t, tree_instance_path t, ns)) (option_to_list (tree_annotation t))
