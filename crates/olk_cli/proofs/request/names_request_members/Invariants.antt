-- The answer for all is the answer for what is left.
use Rattle.std.proofs.Common.{◌≡◌}
use Rattle.serde_json.specs.View.{members_view}
use Rattle.olk_cli.specs.Requests.{has_only_request_names}
use Rattle.olk_cli.proofs.request.names_request_members.Given as goal

abbrev pub invariant-loop-name : goal.invariant-loop-name
invariant-loop-name l = has_only_request_names (members_view l.name-iterator) ≡ has_only_request_names (members_view l.members.entries)
