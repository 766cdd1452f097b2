-- What asking a place comes to: what the layer reads there, and then the rest.
use Rattle.std.specs.Prelude.{◌&&◌, ◌++◌}
use Rattle.olk_errors.specs.Found.{Outcome}
use Rattle.olk_tree.specs.Firsts.{or_else}

abbrev pub of_place : Outcome → Outcome → Outcome
of_place o p = record { accepts = o.accepts && p.accepts; first = or_else o.first p.first; all = o.all ++ p.all }
