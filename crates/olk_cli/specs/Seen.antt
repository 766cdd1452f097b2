-- What a request in memory asks.
use Rattle.serde_json.specs.View.{view}
use Rattle.olk_cli.specs.Requests.{Asked}
use Rattle.olk_cli.specs.declared.request.Request.{Request}

abbrev pub seen : Request → Asked
seen r = record { ask = r.ask; schema = view r.schema.now; instance = view r.instance.now; unfinished = r.unfinished }
