-- What is asked about, without where it lies in memory.
use Rattle.serde_json.specs.View.{view}
use Rattle.olk_replies.specs.Replies.{Asked}
use Rattle.olk_replies.specs.declared.replies.Question.{Question}

abbrev pub seen : Question → Asked
seen q = record { schema = view q.schema.now; instance = view q.instance.now; unfinished = q.unfinished }
